-- A spool in memory that stops in one of its calls, and some of what it may leave (own).
use Rattle.std.specs.Prelude.{◌≡◌, ℕ, ◌&&◌, not, nat_eq, ◌-◌, ◌/◌, List, [], ◌∷◌, ◌++◌, length, take, slice_get, Option, Some, None, Bool, true, false, if◌then◌else◌}
use Rattle.spool_disk.specs.declared.change.Change.{Change}
use Rattle.spool_disk.specs.declared.change.Change.TheVariants.{Write, Rename, Remove}
use Rattle.spool_disk.specs.declared.attempt.Attempt.{Attempt}
use Rattle.spool_disk.specs.Disk.{FileMap, IsImage}
use Rattle.spool_disk.specs.Changes.{after}
use Rattle.spool_disk.specs.Memory.{Memory, begins}

-- the change of a call that wasn't done
abbrev pub undone : Option Attempt → Option Change
undone None = None
undone (Some attempt) = if attempt.done then None else Some attempt.change

-- the call that a stop cut short, which is the last of the record
abbrev pub stopped_call : List Attempt → Option Change
stopped_call past = undone (slice_get past (length past - 1))

-- a record after a call, which went well, or was cut short by a stop in it, or failed and did
-- nothing
abbrev pub past_after : List Attempt → Change → Bool → Bool → List Attempt
past_after past change ok cut = if ok then past ++ record { change = change; done = true } ∷ []
    else (if cut then past ++ record { change = change; done = false } ∷ [] else past)

-- some of the maps that a stop in that call may leave: of a write the file absent, empty, cut in
-- half and whole, of another change both maps, and at rest the map
abbrev pub left_maps : Option Change → FileMap → List FileMap
left_maps None files = files ∷ []
left_maps (Some (Write dir name bytes)) files =
    after (Remove dir name) files ∷ after (Write dir name []) files
    ∷ after (Write dir name (take (length bytes / 2) bytes)) files
    ∷ after (Write dir name bytes) files ∷ []
left_maps (Some (Rename dir from to)) files = files ∷ after (Rename dir from to) files ∷ []
left_maps (Some (Remove dir name)) files = files ∷ after (Remove dir name) files ∷ []

-- what a stop in that call, or at rest, may leave
abbrev pub MayLeave : Option Change → FileMap → FileMap → Type 0
MayLeave None files left = left ≡ files
MayLeave (Some change) files left = IsImage change files left

-- a spool in memory that begins with these files, none of whose calls fail
abbrev pub fresh : FileMap → Memory
fresh files = begins files []

-- whether a changing call found no memory: with no call left to pass, where it didn't stop; before
-- that, where it failed and wasn't to fail; after the stop it looks for none
abbrev pub wants_memory : Bool → ℕ → Bool → Bool → Bool → Bool
wants_memory stopped left listed stops failed =
    not stopped && (if nat_eq left 0 then not stops else (failed && not listed))
