-- What was reserved is recorded.
use Rattle.std.proofs.Common.{inr, ◌∙◌}
use Rattle.queue_run.proofs.PutLemmas.{no_memory, put_alike_as}
use Rattle.queue_run.proofs.putting.put_alike.Goals as goal

pub returns-clause-put : goal.returns-clause-put
returns-clause-put g c = λ h among is.
    let s = g.D.Spool.seen c.args.spool.now in
    let s' = g.D.Spool.seen c.put.new.spool in
    let r = c.in_ok-reserved.reserved in
    let known = c.in_ok-reserved.ensures in
    inr (put_alike_as c.args.table.now c.put.new.table c.args.id.now c.args.places.now c.args.one.now c.in_ok-outcomes.outcomes.results c.args.moment h.entry.control c.put.result s s' r
    known.id known.rows (known.control h among is) (c.in_ok-outcomes.ensures ∙ Rattle.std.proofs.Common.ap (Rattle.queue_run.specs.Results.alike c.args.one.now) c.items.ensures) c.put.ensures.put c.put.ensures.entries)

pub returns-clause-none : goal.returns-clause-none
returns-clause-none g c = λ e. no_memory c.put.result c.put.ensures.put.err e
