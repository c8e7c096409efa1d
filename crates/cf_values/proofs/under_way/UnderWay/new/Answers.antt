use Rattle.std.proofs.Common.{refl}
use Rattle.cf_values.proofs.StandLemmas.{stands_none}
use Rattle.cf_values.proofs.under_way.UnderWay.new.Goals as goal

pub returns : goal.returns
returns c = stands_none _ refl
