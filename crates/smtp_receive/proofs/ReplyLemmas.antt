-- How long the name of an entry is.
use Rattle.std.proofs.Common.{ℕ, ◌≤◌, length, arith}
use Rattle.mail_base.specs.declared.id.Kind.TheVariants.{Qf}
use Rattle.mail_base.specs.Names.{name_of}

pub name_long : (id : ℕ) → 2 ≤ length (name_of Qf id)
name_long id = omega arith
