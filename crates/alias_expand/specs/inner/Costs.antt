-- How long the reading of a tree can go on: no list is longer than memory holds, and lists are
-- nested no deeper than levels and reads go.
use Rattle.std.specs.Prelude.{ℕ, zero, suc, ◌+◌, ◌-◌, ◌<◌, ◌≤◌, ◌^◌, List, [], ◌∷◌, length}
use Rattle.alias_expand.specs.declared.frame.Frame.{Frame}
use Rattle.alias_expand.specs.declared.reading.Reading.{Reading}
use Rattle.alias_expand.specs.Rows.{Site, most_reads}
use Rattle.alias_expand.specs.inner.Steps.{left_of}

-- no list has as many members
unfoldable pub longest : ℕ
longest = 2 ^ 64

-- the steps of so many members, with so many for each
abbrev pub costs : ℕ → ℕ → ℕ
costs zero each = 0
costs (suc members) each = each + costs members each

-- the steps of a member under which lists may be nested so deep
abbrev pub weight : ℕ → ℕ
weight zero = 1
weight (suc depth) = suc (suc (costs longest (weight depth)))

-- no list is nested as deep
abbrev pub deepest : Site → ℕ
deepest site = suc (site.config.options.max_alias_recursion + most_reads)

-- the steps of what is left in these frames, the innermost first
abbrev pub worth : ℕ → List Frame → ℕ
worth depth [] = 0
worth depth (frame ∷ frames) =
    suc (costs (length (left_of frame)) (weight (depth - length frames)) + worth depth frames)

-- each frame is nested no deeper than its level and the files that were read say
abbrev pub Nested : ℕ → List Frame → Type 0
Nested read [] = Unit {0}
Nested read (frame ∷ frames) = (length frames ≤ frame.stand.level + read) × Nested read frames

-- what is left in these frames ends some time
pub record Fits (frames : List Frame) (reading : Reading) : Type 0 where
  pub few : length reading.files ≤ most_reads
  pub nested : Nested (length reading.files) frames

-- what is left fits as well, and is less than it was
pub record Falls (depth : ℕ) (old : List Frame) (new : List Frame) (reading : Reading) : Type 0 where
  pub fits : Fits new reading
  pub less : worth depth new < worth depth old
