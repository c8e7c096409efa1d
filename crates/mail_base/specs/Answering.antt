-- What one who answers, as what judges paths or draws rows, may tell: the one answer that belongs
-- to a question (own).
use Rattle.std.specs.Prelude.{◌≡◌, ℕ, ◌≤◌, ◌↔◌, Bool, true, false, Result, Ok, Err, IfOk, IfErr, IsTrue}
use Rattle.mail_base.specs.Histories.{Rose}
use Rattle.mail_base.specs.declared.fault.JudgeFault.{JudgeFault}
use Rattle.mail_base.specs.declared.fault.JudgeFault.TheVariants.{FilesFault, NoMemory}

-- what is seen of it beside its test: its count of faults, and whether the test is told
pub record Answerer : Type 0 where
  pub faults : ℕ
  pub tells : Bool

module _ {Q A : Type 0} where
  -- no call changes whether the test is told nor what it says, and each answer meets it
  pub record HasAnswered (before now : Answerer) (Before Now : Q → A → Type 0) (question : Q)
      (result : Result A JudgeFault) : Type 0 where
    pub tells : now.tells ≡ before.tells
    pub stays : IsTrue before.tells → (q : Q) (a : A) → Before q a ↔ Now q a
    pub told : IsTrue before.tells → IfOk result (Before question)

  -- a test that is told has at most one answer to a question
  abbrev pub TellsOne : Answerer → (Q → A → Type 0) → Q → Type 0
  TellsOne before Before question =
      IsTrue before.tells → (one another : A) → Before question one → Before question another
      → one ≡ another

-- a count never falls, and has risen where files failed
pub record HasJudgeCause {T : Type 0} (before now : ℕ) (result : Result T JudgeFault)
    : Type 0 where
  pub later : before ≤ now
  pub failed : IfErr result (λ fault. fault ≡ FilesFault → Rose before now)

-- whether a result is no fault of files
abbrev pub is_calm : {A : Type 0} → Result A JudgeFault → Bool
is_calm (Ok answer) = true
is_calm (Err NoMemory) = true
is_calm (Err FilesFault) = false
