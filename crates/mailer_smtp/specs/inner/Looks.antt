-- What is seen at the front of the bytes at hand. It need not be believed: no public contract cites
-- it.
use Rattle.std.specs.Prelude.{◌≡◌, ℕ, Bool, List}
use Rattle.smtp_lines.specs.Replies.{BeginsReply, IsFront, IsNone}
use Rattle.mailer_smtp.specs.declared.hear.Look.{Look}
use Rattle.mailer_smtp.specs.declared.hear.Look.TheVariants.{Said, Part, Bad}
use Rattle.mailer_smtp.specs.declared.verdict.Verdict.{Verdict}
use Rattle.mailer_smtp.specs.declared.verdict.Wants.{Wants}
use Rattle.mailer_smtp.specs.Plans.{verdict_of}

pub record IsSaid (wants : Wants) (bytes : List ℕ) (verdict : Verdict) (size : ℕ) : Type 0 where
  pub code : ℕ
  pub text : List ℕ
  pub eight : Bool
  pub begins : BeginsReply bytes code text eight size
  pub verdict_is : verdict ≡ verdict_of wants code text eight

abbrev pub IsLook : Wants → List ℕ → Look → Type 0
IsLook wants bytes (Said verdict size) = IsSaid wants bytes verdict size
IsLook wants bytes Part = IsFront bytes
IsLook wants bytes Bad = IsNone bytes
