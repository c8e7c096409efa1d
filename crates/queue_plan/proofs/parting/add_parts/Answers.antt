-- A chunk is the next portion, and where none is left all have their parts.
use Rattle.std.proofs.Common.{ℕ, ◌++◌, length, min, ◌∙◌, ap}
use Rattle.queue_plan.specs.Parts.{portion_size}
use Rattle.queue_plan.specs.inner.Buckets.{parts_at}
use Rattle.queue_plan.proofs.PartLemmas.{next_part, no_part}
use Rattle.queue_plan.proofs.parting.add_parts.Goals as goal

pub loop-portion-preserved : goal.loop-portion-preserved
loop-portion-preserved c =
    let a = c.args in
    let l = c.loop-portion in
    let s = c.in-Some.ensures.steps in
    let size = c.portion_size-size.result in
    let left = l.portion-iterator.rest.now in
    record {
      size = s.0 ∙ l.invariant.size;
      parts = next_part a.heading.now a.rows.now size c.portion_size-size.ensures.some left c.in-Some.portion.now c.next.new.self.rest.now l.cuts c.push.new.self (a.cuts.now ++ parts_at a.heading.now a.rows.now size a.places.now) c.in_ok-cut.cut s.1.0 (s.1.1 ∙ ap (λ (n : ℕ). min n (length left)) l.invariant.size) s.1.2 l.invariant.parts c.in_ok-cut.ensures c.in_ok-push.ensures.ok;
    }

pub returns : goal.returns
returns c =
    let a = c.args in
    let l = c.loop-portion in
    let size = c.portion_size-size.result in
    let left = l.portion-iterator.rest.now in
    no_part a.heading.now a.rows.now size c.portion_size-size.ensures.some left l.cuts (a.cuts.now ++ parts_at a.heading.now a.rows.now size a.places.now) c.in-None.ensures.steps.1.0 l.invariant.parts
    ∙ ap (λ (n : ℕ). a.cuts.now ++ parts_at a.heading.now a.rows.now n a.places.now) (c.portion_size-size.ensures.is ∙ (λ i. portion_size (c.limit_of.ensures i) (c.len.ensures i)))
