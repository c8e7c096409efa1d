-- What a run of the work list stands for: the levels that wait, the one on top, what has been given
-- and how many references were followed.
use Rattle.std.specs.Prelude.{ℕ, List, Option, None, Some, Result, Ok, Err, ◌≡◌, ◌-◌}
use Rattle.cf_macros.specs.declared.fault.ExpandFault.{ExpandFault}
use Rattle.cf_macros.specs.declared.fault.ExpandFault.TheVariants.{Unclosed, Deep, Large, NoMemory}
use Rattle.cf_macros.specs.declared.run.Run.{Run}
use Rattle.cf_macros.specs.inner.Levels.{state}

-- the references that may still be followed
unfoldable pub left : ℕ → ℕ
left followed = 10_000 - followed

-- what a run comes to
abbrev pub comes_to : List (List ℕ × List ℕ) → Run → Option (List ℕ) → Result (List ℕ) ExpandFault
comes_to macros run name =
    state run.below.items macros (left run.followed) run.given.text run.level name

-- a run has gone on, and comes to the same
pub record Continues (old : Run) (from : Option (List ℕ)) (new : Run)
    (name : Option (List ℕ)) : Type 0 where
  pub same : (macros : List (List ℕ × List ℕ)) → comes_to macros new name ≡ comes_to macros old from

-- a run comes to this text
pub record Finishes (old : Run) (text : List ℕ) : Type 0 where
  pub same : (macros : List (List ℕ × List ℕ)) → comes_to macros old None ≡ Ok text

-- a run comes to this refusal
pub record Breaks (fault : ExpandFault) (old : Run) : Type 0 where
  pub same : (macros : List (List ℕ × List ℕ)) → comes_to macros old None ≡ Err fault

-- a run comes to this refusal; want of memory may come at any time
abbrev pub Fails : ExpandFault → Run → Type 0
Fails (Unclosed place) old = Breaks (Unclosed place) old
Fails Deep old = Breaks Deep old
Fails Large old = Breaks Large old
Fails NoMemory old = Unit {0}

-- what reading on has come to: a reference, or the end with all that was given
abbrev pub Reads : Run → Run → Option (List ℕ) → Type 0
Reads old new None = Finishes old new.given.text
Reads old new (Some name) = Continues old None new (Some name)
