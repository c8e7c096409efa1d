-- How the first of some items that has a name is looked up among the places that are held.
use Rattle.std.specs.Prelude.{ℕ, List, Bool, true, false, ◌&&◌, Option, None, Some, fold, nat_eq, nat_le, nat_lt, slice_get, if◌then◌else◌}
use Rattle.std.specs.Map.{lookup}
use Rattle.mail_base.specs.Places.{Held, hash_of, passes_at}

-- whether a place stands before another one that may be there
abbrev pub is_before : ℕ → Option ℕ → Bool
is_before place None = true
is_before place (Some first) = nat_lt place first

-- a place was found, and it is this one or stands before it
abbrev pub is_up_to : ℕ → Option ℕ → Bool
is_up_to place None = false
is_up_to place (Some found) = nat_le found place

-- the place, where its item passes and stands before the first so far
abbrev pub earlier : {X : Type 0} → (X → Bool) → List X → Option ℕ → ℕ → Option ℕ
earlier test items first place =
    if passes_at test (slice_get items place) && is_before place first then Some place else first

-- the place that was found, if its item passes
abbrev pub found_at : {X : Type 0} → (X → Bool) → List X → Option ℕ → Option ℕ
found_at test items None = None
found_at test items (Some place) = earlier test items None place

-- the earliest place of an item that passes among those that are held for a name
abbrev pub looked : {X : Type 0} → (X → Bool) → List X → Held → List ℕ → Option ℕ
looked test items held name =
    fold (earlier test items)
    (found_at test items (lookup (nat_eq (hash_of name)) held.index)) held.others
