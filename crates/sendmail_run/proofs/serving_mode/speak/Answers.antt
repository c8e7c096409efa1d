use Rattle.std.proofs.Common.{rules, ◌≡◌, ℕ, Option, ap}
use Rattle.mail_edge.specs.Asking.{Asks}
use Rattle.mail_edge.specs.Seen.{FileMap}
use Rattle.mail_core.specs.Causes.{is_judge_fault}
use Rattle.mail_core.specs.Events.{event_of}
use Rattle.mail_core.specs.Plans.{OfFloor}
use Rattle.mail_core.specs.Seen.{beside, seen}
use Rattle.sendmail_run.specs.Serving.{grounds_of}
use Rattle.sendmail_run.proofs.ServingLemmas.{files_asked}
use Rattle.sendmail_run.proofs.TurningLemmas.{turns_session}
use Rattle.sendmail_run.proofs.serving_mode.speak.Goals as goal

pub returns-clause-turns : goal.returns-clause-turns
returns-clause-turns g c = λ site m before clock read hands under stands comes taken.
    let a = seen before (g.D.Spool.seen c.args.spool.now) (beside clock hands) in
    let b = seen (g.L.Floor.seen c.turn.new.floor) (g.D.Spool.seen c.turn.new.spool) (beside read hands) in
    turns_session (grounds_of c.args.config.now c.args.maps.now c.args.names.now) c.new-grounds.result (g.F.Files.seen c.args.files.now) site m (event_of c.args.turn c.args.buffer.now) (OfFloor c.args.reading) a b c.turn.new.self c.turn.result c.new-grounds.ensures c.requires.session
    (c.turn.ensures.turns site m before clock read hands under stands comes taken)

pub returns-clause-asks : goal.returns-clause-asks
returns-clause-asks g c =
    let asked = c.turn.ensures.asked in
    let kept : c.turn.new.judge.files.ghost_name ≡ _ = ap (λ (f : ℕ × Option FileMap). f.0) c.turn.ensures.fixed in
    let asks : Asks (g.F.Files.seen c.args.files.now) (g.F.Files.seen c.turn.new.judge.files.now) (is_judge_fault c.turn.result) =
    files_asked (g.F.Files.seen c.args.files.now) (g.F.Files.seen c.turn.new.judge.files.now) (is_judge_fault c.turn.result) (ap (λ (f : ℕ × Option FileMap). f.1) c.turn.ensures.fixed) asked.later asked.rose asked.calm in
    search (rules, asks, kept)
