-- The least of the entries that may be claimed, one place after another (own).
use Rattle.std.specs.Prelude.{◌≡◌, ℕ, ◌<◌, List, Option, None, Some, true, false, get_or}
use Rattle.spool_store.specs.declared.held.Held.{Held}
use Rattle.queue_table.specs.Claims.{may_claim}
use Rattle.queue_table.specs.Order.{IsBefore}
use Rattle.queue_table.specs.declared.waiting.Waiting.{Waiting}

-- of the first so many entries the one at a place is the least that may be claimed
pub record IsLeastUpTo (w : Waiting) (moment : ℕ) (entries : List Held) (count place : ℕ)
    : Type 0 where
  pub within : place < count
  pub may : (d : Held) → may_claim w moment (get_or entries place d) ≡ true
  pub least : (k : ℕ) (d : Held) → k < count → may_claim w moment (get_or entries k d) ≡ true
      → IsBefore (get_or entries k d).entry (get_or entries place d).entry → ⊥

-- or none of them may
abbrev pub IsLeastAt : Waiting → ℕ → List Held → ℕ → Option ℕ → Type 0
IsLeastAt w moment entries count None =
    (k : ℕ) (d : Held) → k < count → may_claim w moment (get_or entries k d) ≡ false
IsLeastAt w moment entries count (Some place) = IsLeastUpTo w moment entries count place
