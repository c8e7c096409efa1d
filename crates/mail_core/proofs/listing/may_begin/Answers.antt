-- The entry that was found is free, or isn't.
use Rattle.std.proofs.Common.{◌∙◌, subst}
use Rattle.std.proofs.lemmas.List.{get_or_default}
use Rattle.mail_core.specs.inner.Nexts.{IsPlaceOf}
use Rattle.mail_core.proofs.ListLemmas.{begins_there}
use Rattle.mail_core.proofs.listing.may_begin.Goals as goal

pub returns-in-Ok : goal.returns-in-Ok
returns-in-Ok c =
    let at = subst (λ n. IsPlaceOf c.args.entries.now n c.in-Ok.place) c.number.ensures.number c.in-Ok.ensures.found in
    begins_there c.args.waiting.now c.args.entries.now c.args.id c.in-Ok.place c.index-entries-place.result c.is_free.result c.requires.ascending at
    (λ d. c.index-entries-place.is ∙ get_or_default c.args.entries.now c.in-Ok.place c.index-entries-place.result d at.within) c.is_free.ensures
