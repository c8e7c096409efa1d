-- A text cut into its constructs, with conditionals nested (Sendmail Installation and Operation
-- Guide, conditionals).
use Rattle.std.specs.Prelude.{ℕ, zero, suc, List, [], ◌∷◌, Option, None, Some, ◌+◌, ◌-◌}
use Rattle.cf_macros.specs.declared.construct.Kind.{Kind}
use Rattle.cf_macros.specs.declared.construct.Kind.TheVariants.{Plain, Reference, Test, Else, End, Unclosed}
use Rattle.cf_macros.specs.declared.scope.Scope.{Scope}
use Rattle.cf_macros.specs.Constructs.{Piece, first_piece}

-- what stands in a text, in order: bytes, references, conditionals with both their parts; it ends
-- where something is unclosed, with that place
pub data Parts : Type 0 where
  Nothing : Parts
  Bytes : List ℕ → Parts → Parts
  Refer : List ℕ → Parts → Parts
  Choose : List ℕ → Parts → Parts → Parts → Parts
  Broken : ℕ → Parts

-- the rest of a text, cut at each `$|` and `$.` that no `$?` within the rest opens
pub data Reading : Type 0 where
  Last : Parts → Reading
  BeforeElse : Parts → Reading → Reading
  BeforeEnd : Parts → Reading → Reading

-- something put in front
abbrev pub put : (Parts → Parts) → Reading → Reading
put front (Last parts) = Last (front parts)
put front (BeforeElse parts more) = BeforeElse (front parts) more
put front (BeforeEnd parts more) = BeforeEnd (front parts) more

-- what comes before the first of those signs
abbrev pub first_part : Reading → Parts
first_part (Last parts) = parts
first_part (BeforeElse parts more) = parts
first_part (BeforeEnd parts more) = parts

-- what comes between the first of those signs and the next, where the first is `$|`
abbrev pub second_part : Reading → Parts
second_part (Last parts) = Nothing
second_part (BeforeElse parts more) = first_part more
second_part (BeforeEnd parts more) = Nothing

-- what comes behind the first `$.` of them
abbrev pub behind_end : Reading → Option Reading
behind_end (Last parts) = None
behind_end (BeforeElse parts more) = behind_end more
behind_end (BeforeEnd parts more) = Some more

-- a `$?x` at a place is closed by the first `$.` that is free behind it
abbrev pub closing : ℕ → List ℕ → Reading → Option Reading → Reading
closing place name inner None = Last (Broken place)
closing place name inner (Some after) =
    put (Choose name (first_part inner) (second_part inner)) after

-- a construct at a place, before the rest
abbrev pub before : Kind → ℕ → Piece → Reading → Reading
before Plain place found rest = put (Bytes found.text) rest
before Reference place found rest = put (Refer found.text) rest
before Test place found rest = closing place found.text rest (behind_end rest)
before Else place found rest = BeforeElse Nothing rest
before End place found rest = BeforeEnd Nothing rest
before Unclosed place found rest = Last (Broken (place + (found.width - 1)))

-- the text from a place on, where some bytes are skipped first
unfoldable pub reading : Scope → ℕ → ℕ → List ℕ → Reading
reading scope place skipped [] = Last Nothing
reading scope place (suc skipped) (byte ∷ text) = reading scope (suc place) skipped text
reading scope place zero (byte ∷ text) =
    let found = first_piece scope (byte ∷ text) in
    before found.kind place found (reading scope (suc place) (found.width - 1) text)
