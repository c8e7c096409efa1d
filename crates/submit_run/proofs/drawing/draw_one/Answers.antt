-- A program, rows, or a refusal.
use Rattle.std.proofs.Common.{◌∙◌, Ok, Err, ap, rules}
use Rattle.mail_base.specs.Limits.{recipient_limit}
use Rattle.mail_base.specs.declared.config.Config.{Config}
use Rattle.submit_run.proofs.DrawingLemmas.{one_goes, one_refused, one_runs, under_sender}
use Rattle.submit_run.proofs.drawing.draw_one.Goals as goal

pub returns-then-is_program-clause-draws : goal.returns-then-is_program-clause-draws
returns-then-is_program-clause-draws g c =
    let a = c.args in
    one_runs a.grounds.now (g.F.Files.seen a.files.now).map a.sender.now a.place a.rows.now a.recipient.now _ (search rules) c.in_ok-no_program.ensures

pub returns-in-Ok-clause-draws : goal.returns-in-Ok-clause-draws
returns-in-Ok-clause-draws g c =
    let a = c.args in
    one_goes a.grounds.now (g.F.Files.seen a.files.now).map a.sender.now a.place a.rows.now a.recipient.now _ c.in-Ok.more c.add.result c.add.new.rows (c.recipient_limit-limit.ensures ∙ ap (λ (q : Config). recipient_limit q.options) c.config.ensures) (search rules)
    (under_sender a.grounds.now a.macros.now (g.F.Files.seen a.files.now).map a.recipient.now a.sender.now (Ok c.in-Ok.more) c.requires.macros c.in-Ok.ensures.rows)
    c.add.ensures.adds

pub returns-in-Err-clause-draws : goal.returns-in-Err-clause-draws
returns-in-Err-clause-draws g c =
    let a = c.args in
    one_refused a.grounds.now (g.F.Files.seen a.files.now).map a.sender.now a.place a.rows.now a.recipient.now c.in-Err.refusal c.refused.result a.rows.now (search rules)
    (under_sender a.grounds.now a.macros.now (g.F.Files.seen a.files.now).map a.recipient.now a.sender.now (Err c.in-Err.refusal) c.requires.macros c.in-Err.ensures.rows)
    c.refused.ensures.says
