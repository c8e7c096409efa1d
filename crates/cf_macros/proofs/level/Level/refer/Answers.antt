use Rattle.std.proofs.Common.{refl}
use Rattle.cf_macros.proofs.StepLemmas.{goes-refer}
use Rattle.cf_macros.proofs.level.Level.refer.Goals as goal

pub returns : goal.returns
returns c = λ was. goes-refer c.args.self _ was c.args.found.text.now c.requires.reads refl refl refl refl c.requires.rest
