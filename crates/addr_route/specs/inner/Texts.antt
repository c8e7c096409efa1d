-- The name that a cause holds and its text says.
use Rattle.std.specs.Prelude.{ℕ, List, []}
use Rattle.mail_base.specs.declared.route.Cause.{Cause}
use Rattle.mail_base.specs.declared.route.Cause.TheVariants.{UnknownMailer}

abbrev pub name_in : Cause → List ℕ
name_in (UnknownMailer name) = name
name_in cause = []
