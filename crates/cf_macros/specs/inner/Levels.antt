-- What the levels of references under way stand for, from the text that is expanded up to the value
-- that is read.
use Rattle.std.specs.Prelude.{ℕ, List, [], ◌∷◌, ◌++◌, map, Option, None, Some, Bool, true, false, if◌then◌else◌, Result, Ok, Err, ◌≡◌, ◌<◌, ◌≤◌, ◌+◌, ◌-◌, length}
use Rattle.cf_macros.specs.declared.fault.ExpandFault.{ExpandFault}
use Rattle.cf_macros.specs.declared.fault.ExpandFault.TheVariants.{Unclosed, Deep, Large, NoMemory}
use Rattle.cf_macros.specs.declared.level.Level.{Level}
use Rattle.cf_macros.specs.declared.level.Given.{Given}
use Rattle.cf_macros.specs.declared.scope.Scope.{Scope}
use Rattle.cf_macros.specs.Readings.{Reading}
use Rattle.cf_macros.specs.Expansion.{Act, Gives, silent, gives_any, followed, outcome}
use Rattle.cf_macros.specs.inner.Insides.{rest_at, is_closed, inside, inside_other}

-- what the levels above have given, and their acts from here on
pub record Above : Type 0 where
  pub given : Bool
  pub acts : List Act

-- the two as one
abbrev pub above : Bool → List Act → Above
above given acts = record { given = given; acts = acts }

-- whether one of two holds
abbrev pub either : Bool → Bool → Bool
either true other = true
either false other = other

-- what is left of a level's text
abbrev pub level_rest : Level → Reading
level_rest level = rest_at level.scope level.text.now level.place

-- what is left of the text behind so many bytes more
abbrev pub rest_behind : Level → ℕ → Reading
rest_behind level width = rest_at level.scope level.text.now (level.place + width)

-- what waits for the levels above it, for a test or for a reference: its acts from here on, or else
-- those of the other part
abbrev pub waiting : Bool → Bool → List Act → List Act → Above → Above
waiting true gave acts other over = above gave
    (silent over.acts ++ (if either over.given (gives_any over.acts) then acts else other))
waiting false gave acts other over = above (either over.given gave) (over.acts ++ acts)

-- a level with what stands above it
abbrev pub under : (List ℕ → List Act) → Level → Above → Above
under followed level over =
    waiting level.tests level.gave (inside followed level.depth (level_rest level))
    (inside_other followed level.depth (level_rest level)) over

-- a stack of levels, of which the first has so many levels left
abbrev pub stacked : ℕ → List (List ℕ × List ℕ) → List Level → Above → Above
stacked levels macros [] over = over
stacked levels macros (level ∷ more) over =
    under (followed level.scope levels macros) level (stacked (levels - 1) macros more over)

-- the level on top, with the reference that it has come to
abbrev pub top : (List ℕ → List Act) → Level → Option (List ℕ) → Above
top followed level None = under followed level (above false [])
top followed level (Some name) = under followed level (above false (followed name))

-- what was given, before what is still to come, if nothing is refused
abbrev pub told : List ℕ → Result (List ℕ) ExpandFault → Result (List ℕ) ExpandFault
told given (Ok text) = Ok (given ++ text)
told given (Err fault) = Err fault

-- the bytes that may still be given
unfoldable pub room : List ℕ → ℕ
room given = 1_048_576 - length given

-- what the whole comes to
abbrev pub ending : List Level → List (List ℕ × List ℕ) → ℕ → List ℕ → Above
    → Result (List ℕ) ExpandFault
ending below macros references given over =
    told given (outcome references (room given) (stacked 10 macros below over).acts)

-- what the whole comes to from a level on, which may have come to a reference
abbrev pub state : List Level → List (List ℕ × List ℕ) → ℕ → List ℕ → Level → Option (List ℕ)
    → Result (List ℕ) ExpandFault
state below macros references given level name =
    ending below macros references given
    (top (followed level.scope (10 - length below) macros) level name)

-- whether one of the levels waits for its test
abbrev pub is_silent : List Level → Bool
is_silent [] = false
is_silent (level ∷ more) = either level.tests (is_silent more)

-- a level has gone on to a reference or to no matter where, and the whole comes to the same
pub record Goes (old : Level) (was : Given) (new : Level) (now : Given)
    (name : Option (List ℕ)) : Type 0 where
  pub same : (below : List Level) (macros : List (List ℕ × List ℕ)) (references : ℕ)
      → is_silent below ≡ was.silent
      → state below macros references now.text new name
      ≡ state below macros references was.text old None
  pub silent : now.silent ≡ was.silent

-- the whole comes to this refusal
pub record StopsBy (fault : ExpandFault) (old : Level) (was : Given) : Type 0 where
  pub stops : (below : List Level) (macros : List (List ℕ × List ℕ)) (references : ℕ)
      → is_silent below ≡ was.silent → state below macros references was.text old None ≡ Err fault

-- the whole comes to this refusal; want of memory may come at any time
abbrev pub Stops : ExpandFault → Level → Given → Type 0
Stops (Unclosed place) old was = StopsBy (Unclosed place) old was
Stops Deep old was = StopsBy Deep old was
Stops Large old was = StopsBy Large old was
Stops NoMemory old was = Unit {0}

-- the level is further on in its text, and waits for no test
pub record MovesOn (old new : Level) : Type 0 where
  pub text : new.text.now ≡ old.text.now
  pub place : old.place < new.place
  pub reads : new.tests ≡ false

-- the next construct gives these bytes
pub record GivesNext (level : Level) (bytes : List ℕ) (next : ℕ) : Type 0 where
  pub acts : (followed : List ℕ → List Act)
      → inside followed level.depth (level_rest level)
      ≡ map Gives bytes ++ inside followed level.depth (rest_at level.scope level.text.now next)
  pub closed : is_closed level.depth (rest_at level.scope level.text.now next) ≡ true
  pub place : level.place < next
  pub in_text : next ≤ length level.text.now

-- the bytes are given, or are kept back in a test
pub record IsGiven (old : Given) (bytes : List ℕ) (new : Given) : Type 0 where
  pub silent : new.silent ≡ old.silent
  pub kept : old.silent ≡ true → new.text ≡ old.text
  pub given : old.silent ≡ false → new.text ≡ old.text ++ bytes
  pub fits : old.silent ≡ false → length bytes ≤ room old.text

-- the bytes are to be given, and there is no room for them
pub record Overflows (old : Given) (bytes : List ℕ) : Type 0 where
  pub shown : old.silent ≡ false
  pub large : room old.text < length bytes

-- why bytes aren't taken in: they are too many, or there is no memory
abbrev pub KeepsOut : ExpandFault → Given → List ℕ → Type 0
KeepsOut (Unclosed place) old bytes = ⊥
KeepsOut Deep old bytes = ⊥
KeepsOut Large old bytes = Overflows old bytes
KeepsOut NoMemory old bytes = Unit {0}

-- whether something has been given behind these bytes
abbrev pub gave_after : Bool → List ℕ → Bool
gave_after gave [] = gave
gave_after gave (byte ∷ bytes) = true

-- the level that goes on where the one above it has ended, which gave something or not
pub record Resumes (outer : Level) (gave : Bool) (level : Level) : Type 0 where
  pub same : (followed : List ℕ → List Act)
      → under followed level (above false []) ≡ under followed outer (above gave [])
  pub scoped : level.scope ≡ outer.scope
  pub reads : level.tests ≡ false

-- the level at another place of its text, where it waits for no test
pub record IsAt (old : Level) (place depth : ℕ) (new : Level) : Type 0 where
  pub same : new.text.now ≡ old.text.now
  pub there : new.place ≡ place
  pub scoped : new.scope ≡ old.scope
  pub inside : new.depth ≡ depth
  pub gave : new.gave ≡ old.gave
  pub reads : new.tests ≡ false

-- the level is at the end of its text, and waits for no test
pub record IsAtEnd (level : Level) : Type 0 where
  pub end : length level.text.now ≤ level.place
  pub reads : level.tests ≡ false

-- a text at its beginning
pub record IsNew (scope : Scope) (text : List ℕ) (level : Level) : Type 0 where
  pub same : level.text.now ≡ text
  pub scoped : level.scope ≡ scope
  pub place : level.place ≡ 0
  pub depth : level.depth ≡ 0
  pub gave : level.gave ≡ false
  pub reads : level.tests ≡ false
