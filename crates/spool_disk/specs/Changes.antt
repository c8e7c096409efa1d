-- What changes make of files in memory, and what a stop in one of them may leave (own).
use Rattle.std.specs.Prelude.{◌≡◌, ℕ, ◌≤◌, List, [], ◌∷◌, ◌++◌, length, take, drop, Option, Some, None, Bool, true, not, filter, if◌then◌else◌}
use Rattle.spool_disk.specs.declared.change.Change.{Change}
use Rattle.spool_disk.specs.declared.change.Change.TheVariants.{Write, Rename, Remove}
use Rattle.spool_disk.specs.declared.attempt.Attempt.{Attempt}
use Rattle.spool_disk.specs.Disk.{Place, FileMap, lies_at, bytes_at, IsImage}
use Rattle.spool_disk.specs.Spooled.{Spooled}

-- the files that don't lie at that place
abbrev pub without_file : Place → FileMap → FileMap
without_file place files = filter (λ file. not (lies_at place file)) files

-- the files with one that holds these bytes at that place
abbrev pub with_file : Place → List ℕ → FileMap → FileMap
with_file place bytes files =
    without_file place files ++ record { dir = place.0; name = place.1; bytes = bytes } ∷ []

-- the files after one with these bytes was renamed, or after none was there
abbrev pub with_renamed : List ℕ → List ℕ → List ℕ → Option (List ℕ) → FileMap → FileMap
with_renamed dir from to None files = files
with_renamed dir from to (Some bytes) files =
    with_file (dir, to) bytes (without_file (dir, from) files)

-- the files after a change
abbrev pub after : Change → FileMap → FileMap
after (Write dir name bytes) files = with_file (dir, name) bytes files
after (Rename dir from to) files = with_renamed dir from to (bytes_at files (dir, from)) files
after (Remove dir name) files = without_file (dir, name) files

-- the files after a call, which are as before where it wasn't done
abbrev pub after_attempt : Attempt → FileMap → FileMap
after_attempt attempt files = if attempt.done then after attempt.change files else files

-- the files after these calls
abbrev pub after_all : List Attempt → FileMap → FileMap
after_all [] files = files
after_all (attempt ∷ attempts) files = after_all attempts (after_attempt attempt files)

-- what a stop in the first of these calls may leave, or at rest where there is none
abbrev pub IsLeftIn : List Attempt → FileMap → FileMap → Type 0
IsLeftIn [] files left = left ≡ files
IsLeftIn (attempt ∷ attempts) files left = IsImage attempt.change files left

-- what a stop since a moment may have left: a moment is a number of calls, and the stop came so
-- many calls after the start
pub record IsLeft (start : FileMap) (past : List Attempt) (since : ℕ)
    (left : FileMap) : Type 0 where
  pub calls : ℕ
  pub not_before : since ≤ calls
  pub not_after : calls ≤ length past
  pub is : IsLeftIn (drop calls past) (after_all (take calls past) start) left

-- what is seen of a spool in memory, by its record
abbrev pub record_seen : FileMap → List Attempt → ℕ → Spooled
record_seen start past faults = record {
  told = Some (after_all past start);
  moment = length past;
  left_since = IsLeft start past;
  faults = faults;
}

-- a record after a call that was made, which is in it unless it failed
abbrev pub past_with : List Attempt → Change → Bool → List Attempt
past_with past change ok = if ok then past ++ record { change = change; done = true } ∷ [] else past
