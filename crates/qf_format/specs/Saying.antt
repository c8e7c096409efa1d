-- What a control file says, whatever the version of its text (Sendmail Installation and Operation
-- Guide, "The queue": the V line tells the version; today there is one).
use Rattle.std.specs.Prelude.{◌≡◌, ℕ, List}
use Rattle.mail_base.specs.declared.control.Control.{Control}
use Rattle.qf_format.specs.Spelling.{spelled}
use Rattle.qf_format.specs.Valid.{IsValid}

-- bytes say a control
pub record Says (bytes : List ℕ) (c : Control) : Type 0 where
  pub valid : IsValid c
  pub text : bytes ≡ spelled c
