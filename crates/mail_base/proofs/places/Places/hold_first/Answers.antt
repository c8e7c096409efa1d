use Rattle.std.proofs.Common.{◌∙◌, sym}
use Rattle.mail_base.proofs.PlaceLemmas.{held_there}
use Rattle.mail_base.proofs.places.Places.hold_first.Goals as goal

pub returns-then-is_up_to-clause-held : goal.returns-then-is_up_to-clause-held
returns-then-is_up_to-clause-held g c =
    held_there g.T.Named.has_name c.args.items.now c.args.name.now c.args.self.now c.args.place c.find.result (sym c.is_up_to.ensures ∙ c.if-is_up_to.true) c.find.ensures.found
