-- What a count of faults says of how a run ended (own).
use Rattle.std.specs.Prelude.{◌≡◌, ◌≤◌, ◌⊎◌, ℕ}
use Rattle.sendmail_run.specs.declared.outcome.Outcome.{Outcome}

-- a count that has risen ended the run with that fault: with every other outcome it is as before
abbrev pub RisesOnlyAt : Outcome → Outcome → ℕ → ℕ → Type 0
RisesOnlyAt fault outcome before after = (outcome ≡ fault) ⊎ (after ≡ before)

-- a count never falls, and rises only where the run ends with that fault
pub record Counts (fault outcome : Outcome) (before after : ℕ) : Type 0 where
  pub later : before ≤ after
  pub rises : RisesOnlyAt fault outcome before after
