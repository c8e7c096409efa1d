-- The buckets are those of the rows' headings.
use Rattle.std.proofs.Common.{◌≡◌, ◌∙◌, ap, flat_map, List, map, zip}
use Rattle.mail_base.specs.declared.message.Cut.{Cut}
use Rattle.queue_plan.specs.Parts.{heading_of, parts_of}
use Rattle.queue_plan.specs.inner.Buckets.{gathered, parts_in}
use Rattle.queue_plan.proofs.FitLemmas.{if_ok}
use Rattle.queue_plan.proofs.PlaceLemmas.{parts_are}
use Rattle.queue_plan.proofs.parting.parted.Goals as goal

pub returns : goal.returns
returns c =
    let a = c.args in
    let buckets = c.in_ok-buckets.buckets.entries in
    if_ok (λ (cuts : List Cut). cuts ≡ flat_map (parts_in a.config.now a.rows.now) buckets) (λ (cuts : List Cut). cuts ≡ parts_of a.config.now a.rows.now a.groups.now)
    (λ cuts is. parts_are a.config.now a.rows.now a.groups.now buckets cuts c.in_ok-headings.headings (c.in_ok-headings.ensures ∙ (λ i. map heading_of (zip (c.items.ensures i) (c.items-2.ensures i)))) (c.in_ok-buckets.ensures ∙ ap gathered c.items-3.ensures) is) c.parts_in.result c.parts_in.ensures
