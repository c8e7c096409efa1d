-- A name is of one file of the queue, or of none.
use Rattle.spool_store.proofs.Finding.{adds_named, adds_other, on_ok}
use Rattle.spool_store.proofs.listed.add_name.Goals as goal

pub returns-in-None : goal.returns-in-None
returns-in-None c = λ names old h. adds_other c.args.dir names c.args.name.now old c.args.out.now c.in-None.ensures.none h

pub returns-in-Some : goal.returns-in-Some
returns-in-Some c = λ names old h. on_ok c.push.result (λ e. adds_named c.args.dir names c.args.name.now c.in-Some.file.0 c.in-Some.file.1 old c.args.out.now c.push.new.self c.number-within.ensures.most c.in-Some.ensures.some e h) c.push.ensures.ok
