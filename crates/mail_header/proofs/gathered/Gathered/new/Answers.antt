use Rattle.std.proofs.Common.{refl}
use Rattle.mail_header.proofs.SplitLemmas.{gathers_none}
use Rattle.mail_header.proofs.gathered.Gathered.new.Goals as goal

pub returns : goal.returns
returns c = λ limit. gathers_none _ limit refl refl c.new.ensures refl c.new-2.ensures refl
