-- A name is of one file of the queue, or of none.
use Rattle.std.proofs.Common.{◌∙◌, ap, ◌++◌, ◌∷◌, []}
use Rattle.mail_base.specs.declared.control.Stray.{Stray}
use Rattle.spool_store.proofs.Finding.{strays_skip, strays_more, on_ok}
use Rattle.spool_store.proofs.listed.add_stray.Goals as goal

pub returns-in-Some : goal.returns-in-Some
returns-in-Some c = λ names old h. strays_skip c.args.dir.now names c.args.name.now c.in-Some.field-0.0 c.in-Some.field-0.1 old c.args.out.now c.in-Some.ensures.some h

pub returns-in_ok-stray-in-None : goal.returns-in_ok-stray-in-None
returns-in_ok-stray-in-None c = λ names old h. on_ok c.push.result (λ e. strays_more c.args.dir.now names c.args.name.now old c.args.out.now c.push.new.self c.in-None.ensures.none (e ∙ ap (λ (x : Stray). c.args.out.now ++ x ∷ []) c.in_ok-stray-in-None.ensures) h) c.push.ensures.ok
