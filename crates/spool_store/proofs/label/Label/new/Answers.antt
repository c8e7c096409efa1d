-- Any name has as many bytes.
use Rattle.std.proofs.Common.{◌∙◌, ap, length}
use Rattle.mail_base.specs.declared.id.Kind.TheVariants.{Qf}
use Rattle.spool_store.proofs.Shelving.{name_long}
use Rattle.spool_store.proofs.label.Label.new.Goals as goal

pub invariant_of-result : goal.invariant_of-result
invariant_of-result c = ap length (c.in_ok-of.ensures ∙ c.bytes.ensures ∙ c.name.ensures) ∙ name_long Qf _
