-- What stands behind a look-up in a sequence: which maps it comes to.
use Rattle.std.specs.Prelude.{◌≡◌, ℕ, ◌≤◌, ◌<◌, Bool, true, false, List, [], Some, get_or, nat_eq, slice_get}
use Rattle.std.specs.List.{list_any}
use Rattle.mail_base.specs.declared.lines.MapClass.{MapClass}
use Rattle.mail_base.specs.declared.lines.MapClass.TheVariants.{Sequence}
use Rattle.map_tables.specs.declared.answer.Answer.{Answer}
use Rattle.map_tables.specs.declared.table.Table.{Table}

-- the places of a sequence's members, and none of another map
abbrev pub members_in : MapClass → List ℕ
members_in (Sequence members) = members
members_in _ = []

-- those of these places that are before an end are marked
abbrev pub AreMarked : List ℕ → ℕ → List Bool → Type 0
AreMarked members end marked = (member : ℕ) → list_any (nat_eq member) members ≡ true → member < end
    → get_or marked member false ≡ true

-- from a place on the members of each map that is marked are marked too, where they stand before it
abbrev pub IsClosed : ℕ → List Table → List Bool → Type 0
IsClosed start maps marked = (place : ℕ) (table : Table) → start ≤ place
    → get_or marked place false ≡ true → slice_get maps place ≡ Some table
    → AreMarked (members_in table.line.class) place marked

-- what was marked is marked still
abbrev pub Keeps : List Bool → List Bool → Type 0
Keeps old new = (place : ℕ) → get_or old place false ≡ true → get_or new place false ≡ true

-- from an end on the marks are those that were
abbrev pub AreAsBefore : ℕ → List Bool → List Bool → Type 0
AreAsBefore end old new =
    (place : ℕ) → end ≤ place → get_or new place false ≡ get_or old place false

-- where a place is marked, both have the same answer
abbrev pub Agree : List Bool → ℕ → List Answer → List Answer → Type 0
Agree marked end given all = (place : ℕ) → place < end → get_or marked place false ≡ true
    → slice_get given place ≡ slice_get all place
