-- The run over the queue that was opened.
use Rattle.std.proofs.Common.{List, ℕ, ap, subst}
use Rattle.mail_judge.specs.Judged.{Grounds}
use Rattle.queue_table.specs.Calls.{store}
use Rattle.queue_table.specs.Directories.{all_dirs, terms_of}
use Rattle.submit_run.specs.Ends.{Ends, seen}
use Rattle.sendmail_run.specs.Serving.{grounds_of}
use Rattle.sendmail_run.proofs.SubmitLemmas.{ends_over, spares_by}
use Rattle.sendmail_run.proofs.submit_mode.submit_mode.Goals as goal

pub returns-clause-ends : goal.returns-clause-ends
returns-clause-ends g c = λ output floor hands.
    let config = c.args.config.now in
    let words = c.args.words.now in
    let opened = c.in-Ok.ensures in
    let a = seen (g.F.Files.seen c.args.files.now) (g.I.Source.seen c.args.input.now) (g.D.Spool.seen c.opened_table.new.spool) (g.C.Clock.seen c.args.clock.now) in
    let b = seen (g.F.Files.seen c.submit-end.new.files) (g.I.Source.seen c.submit-end.new.input) (g.D.Spool.seen c.submit-end.new.spool) (g.C.Clock.seen c.submit-end.new.clock) in
    ends_over config c.args.maps.now c.args.names.now words (g.F.Files.seen c.args.files.now) (g.F.Files.seen c.submit-end.new.files) (g.I.Source.seen c.args.input.now) (g.I.Source.seen c.submit-end.new.input) output floor hands
    (g.D.Spool.seen c.args.spool.now) (g.D.Spool.seen c.opened_table.new.spool) (g.D.Spool.seen c.submit-end.new.spool) (g.C.Clock.seen c.args.clock.now) (g.C.Clock.seen c.submit-end.new.clock)
    (store c.in-Ok.table) c.submit-end.new.table c.submit-end.result opened.found opened.taken opened.sparing
    (spares_by (all_dirs (terms_of config)) (store c.in-Ok.table).dirs (g.D.Spool.seen c.opened_table.new.spool) (g.D.Spool.seen c.submit-end.new.spool) opened.dirs c.submit-end.ensures.frame) opened.kept c.submit-end.ensures.takes c.submit-end.ensures.clock
    (λ e. ap g.D.Spool.seen (c.submit-end.ensures.untouched e))
    (λ table holds. subst (λ (d : List (List ℕ)). Ends (grounds_of config c.args.maps.now c.args.names.now) words d table a b c.submit-end.new.table c.submit-end.result) opened.dirs
    (subst (λ (q : Grounds). Ends q words (store c.in-Ok.table).dirs table a b c.submit-end.new.table c.submit-end.result) c.new-grounds.ensures (c.submit-end.ensures.ends table holds)))
