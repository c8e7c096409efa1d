-- The next entry that a crew claims, and its first runner whose child runs. It need not be
-- believed: only private contracts cite it.
use Rattle.std.specs.Prelude.{◌≡◌, ◌<◌, ℕ, length, get_or, List, ◌∷◌, ◌++◌, map, All, Contains, Option, Some, None, Bool, true, false, is_some}
use Rattle.std.specs.List.{position}
use Rattle.std.specs.List.Sorted.{IsStrictlySortedBy}
use Rattle.std.specs.Ordering.{nat_cmp}
use Rattle.spool_store.specs.declared.held.Held.{Held as Kept}
use Rattle.queue_table.specs.Claims.{IsLeastDue, is_free}
use Rattle.queue_table.specs.declared.waiting.Waiting.{Waiting}
use Rattle.queue_run.specs.declared.runner.Runner.{Runner}
use Rattle.mail_core.specs.declared.crew.Crew.{Crew}

-- ---- the next entry

-- entries in order of id
abbrev pub AreAscending : List Kept → Type 0
AreAscending entries = IsStrictlySortedBy nat_cmp (map (λ (h : Kept). h.entry.id) entries)

-- an entry may not be claimed now, or isn't there
abbrev pub IsBusy : Waiting → List Kept → ℕ → Type 0
IsBusy w entries id = All (λ (h : Kept). h.entry.id ≡ id → is_free w h ≡ false) entries

-- the entry of an id is at a place
pub record IsPlaceOf (entries : List Kept) (id place : ℕ) : Type 0 where
  pub within : place < length entries
  pub has : (d : Kept) → (get_or entries place d).entry.id ≡ id

-- the entry of an id is there and may be claimed
pub record HasFree (w : Waiting) (entries : List Kept) (id : ℕ) : Type 0 where
  pub held : Kept
  pub among : Contains entries held
  pub is : held.entry.id ≡ id
  pub free : is_free w held ≡ true

abbrev pub MayBegin : Waiting → List Kept → ℕ → Bool → Type 0
MayBegin w entries id true = HasFree w entries id
MayBegin w entries id false = IsBusy w entries id

-- it is the first of a list that may be claimed
pub record IsFirstOf (w : Waiting) (entries : List Kept) (ids : List ℕ) (id : ℕ) : Type 0 where
  pub front : List ℕ
  pub later : List ℕ
  pub list : ids ≡ front ++ id ∷ later
  pub passed : All (IsBusy w entries) front
  pub held : Kept
  pub among : Contains entries held
  pub is : held.entry.id ≡ id
  pub free : is_free w held ≡ true

abbrev pub IsListNext : Waiting → List Kept → List ℕ → Option ℕ → Type 0
IsListNext w entries ids None = All (IsBusy w entries) ids
IsListNext w entries ids (Some id) = IsFirstOf w entries ids id

-- the next entry that is claimed, by the list if there is one
abbrev pub IsNext : Waiting → Option (List ℕ) → ℕ → List Kept → Option ℕ → Type 0
IsNext w None moment entries next = IsLeastDue w moment entries next
IsNext w (Some ids) moment entries next = IsListNext w entries ids next

-- ---- a crew and another

-- but for the moment before which no entry may be claimed they are the same
pub record IsAlike (crew now : Crew) : Type 0 where
  pub runners : now.runners ≡ crew.runners
  pub list : now.list ≡ crew.list
  pub waiting : now.waiting ≡ record crew.waiting { quiet = now.waiting.quiet }

-- where the first runner is whose child runs
abbrev pub IsFirstRunning : List Runner → Option ℕ → Type 0
IsFirstRunning runners at = at ≡ position (λ (r : Runner). is_some r.running) runners
