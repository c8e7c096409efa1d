use Rattle.std.proofs.Common.{ap, ◌∙◌}
use Rattle.std.specs.Option.{option_copied}
use Rattle.mail_base.proofs.PlaceLemmas.{at_first, no_first}
use Rattle.mail_base.proofs.places.Places.first.Goals as goal

pub returns-in_err-place : goal.returns-in_err-place
returns-in_err-place g c = λ indexed.
    ap option_copied c.from_residual.ensures ∙ no_first (g.T.Named.has_name c.args.name.now) c.args.items.now c.find.result (c.find.ensures.first indexed) c.in_err-place.was

pub returns : goal.returns
returns g c = λ indexed.
    c.item_at.ensures ∙ at_first (g.T.Named.has_name c.args.name.now) c.args.items.now c.find.result c.in_ok-place.place (c.find.ensures.first indexed) c.in_ok-place.was
