use Rattle.std.proofs.Common.{◌∙◌}
use Rattle.mail_base.specs.Names.{digits}
use Rattle.std.proofs.Common.{◌∷◌}
use Rattle.qf_format.proofs.SignedLemmas.{named}
use Rattle.qf_format.proofs.number.is_named.Goals as goal

pub returns : goal.returns
returns c = named c.bytes.result.now c.args.bytes.now (119 ∷ digits 12 c.args.id) c.eq.result (c.bytes.ensures ∙ c.name.ensures) c.eq.ensures
