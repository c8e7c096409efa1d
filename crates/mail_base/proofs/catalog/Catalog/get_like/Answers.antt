use Rattle.std.proofs.Common.{◌≡◌, ◌+◌, Some, None, true, false, slice_get, take, ap, sym, ◌∙◌, arith}
use Rattle.std.proofs.lemmas.Grind.{common_steps}
use Rattle.std.specs.Str.{str_eq_ignore_ascii_case}
use Rattle.mail_base.specs.Catalogs.{value_like}
use Rattle.mail_base.proofs.CatalogLemmas.{like_found, like_passed}
use Rattle.mail_base.proofs.catalog.Catalog.get_like.Goals as goal

pub returns-then-is_folded : goal.returns-then-is_folded
returns-then-is_folded g c =
    let es = c.self.inside.entries.entries in
    let there : slice_get es c.loop-index.index ≡ Some (c.unwrap.result.0.now, c.unwrap.result.1.now) = grind (arith, common_steps, c.get_index.ensures.entry, c.unwrap.ensures) in
    let before : value_like c.args.name.now (take c.loop-index.index es) ≡ None = ap (λ pairs. value_like c.args.name.now (take c.loop-index.index pairs)) c.self.view_is ∙ c.loop-index.invariant in
    let same : str_eq_ignore_ascii_case c.args.name.now c.unwrap.result.0.now ≡ true = sym c.is_folded.ensures ∙ c.if-is_folded.true in
    sym (like_found c.args.name.now es c.loop-index.index (c.unwrap.result.0.now, c.unwrap.result.1.now) there before same) ∙ ap (value_like c.args.name.now) c.self.view_is

pub loop-index-preserved : goal.loop-index-preserved
loop-index-preserved g c =
    let es = c.self.inside.entries.entries in
    let there : slice_get es c.loop-index.index ≡ Some (c.unwrap.result.0.now, c.unwrap.result.1.now) = grind (arith, common_steps, c.get_index.ensures.entry, c.unwrap.ensures) in
    let before : value_like c.args.name.now (take c.loop-index.index es) ≡ None = ap (λ pairs. value_like c.args.name.now (take c.loop-index.index pairs)) c.self.view_is ∙ c.loop-index.invariant in
    let other : str_eq_ignore_ascii_case c.args.name.now c.unwrap.result.0.now ≡ false = sym c.is_folded.ensures ∙ c.if-is_folded.false in
    ap (λ pairs. value_like c.args.name.now (take (c.loop-index.index + 1) pairs)) (sym c.self.view_is) ∙ like_passed c.args.name.now es c.loop-index.index (c.unwrap.result.0.now, c.unwrap.result.1.now) there before other
