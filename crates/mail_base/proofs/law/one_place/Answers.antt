use Rattle.mail_base.proofs.TokenPlaces.{same_place}
use Rattle.mail_base.proofs.law.one_place.Goals as goal

pub returns : goal.returns
returns c = same_place
