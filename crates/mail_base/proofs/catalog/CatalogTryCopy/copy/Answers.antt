use Rattle.std.proofs.Common.{◌≡◌, arith, Some, slice_get}
use Rattle.std.proofs.lemmas.Grind.{common_steps}
use Rattle.mail_base.specs.Catalogs.{with_value}
use Rattle.mail_base.proofs.CatalogLemmas.{next_is_new}
use Rattle.mail_base.proofs.catalog.CatalogTryCopy.copy.Goals as goal

pub loop-index-preserved : goal.loop-index-preserved
loop-index-preserved g c =
    let es = c.self.inside.entries.entries in
    let e : slice_get es c.loop-index.index ≡ Some (c.unwrap.result.0.now, c.unwrap.result.1.now) = grind (arith, common_steps, c.get_index.ensures.entry, c.unwrap.ensures) in
    let n = next_is_new es c.loop-index.index (c.unwrap.result.0.now, c.unwrap.result.1.now) c.len-index-end.ensures.unique e in
    let m : c.set.new.self ≡ with_value c.unwrap.result.0.now c.unwrap.result.1.now c.loop-index.copied = cc (c.in_ok-set.ensures.ok, c.in_ok-name.ensures, c.in_ok-value.ensures) in
    cc (m, n, c.loop-index.invariant, c.self.view_is)
