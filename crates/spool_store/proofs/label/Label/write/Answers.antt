-- Any name has as many bytes.
use Rattle.std.proofs.Common.{◌∙◌, ap, length, sym}
use Rattle.spool_store.proofs.Shelving.{name_long}
use Rattle.spool_store.proofs.label.Label.write.Goals as goal

pub overwrite-requires : goal.overwrite-requires
overwrite-requires c = ap length (c.bytes.ensures ∙ c.name.ensures) ∙ name_long c.args.kind c.args.id ∙ sym c.self.invariant

pub invariant_of-self : goal.invariant_of-self
invariant_of-self c = ap length (c.overwrite.ensures ∙ c.bytes.ensures ∙ c.name.ensures) ∙ name_long c.args.kind c.args.id
