-- Where one of the two has ended, all were gone over.
use Rattle.std.proofs.Common.{map, zip, inl, inr, ⊎_elim}
use Rattle.queue_plan.specs.Parts.{heading_of}
use Rattle.queue_plan.proofs.PartLemmas.{zip_ended}
use Rattle.queue_plan.proofs.parting.headings_of.Goals as goal

pub returns : goal.returns
returns c =
    let l = c.loop-row in
    zip_ended l.row-iterator.a.rest.now l.row-iterator.b.rest.now l.headings (map heading_of (zip c.args.rows.now c.args.groups.now))
    (⊎_elim (λ e. inl e.1.0) (λ e. inr e.1.0) c.in-None.ensures.steps) l.invariant
