-- What a reader takes from the front of bytes, told by how values are spelled (our own).
use Rattle.std.specs.Prelude.{◌≡◌, ℕ, List, ◌++◌, Result, Ok, Err, Option, None, Some}
use Rattle.qf_format.specs.declared.stop.Stop.{Stop}
use Rattle.qf_format.specs.declared.stop.Stop.TheVariants.{Outside, Memory}

-- a value is spelled at the front, with a rest behind it, and no other value with no other rest
pub record Front {X : Type 0} (spelling : X → List ℕ) (form : X → Type 0)
    (follows : List ℕ → Type 0) (bytes : List ℕ) (x : X) (rest : List ℕ) : Type 0 where
  pub is_formed : form x
  pub parts : bytes ≡ spelling x ++ rest
  pub only : (y : X) (after : List ℕ) → form y → follows after → bytes ≡ spelling y ++ after
      → (y ≡ x) × (after ≡ rest)

-- no value is spelled at the front
pub record NoFront {X : Type 0} (spelling : X → List ℕ) (form : X → Type 0)
    (follows : List ℕ → Type 0) (bytes : List ℕ) : Type 0 where
  pub none : (y : X) (after : List ℕ) → form y → follows after → bytes ≡ spelling y ++ after → ⊥

-- why a reader stops: nothing that it reads is spelled at the front, or there was no memory
abbrev pub Stops : {X : Type 0} → (X → List ℕ) → (X → Type 0) → (List ℕ → Type 0)
    → List ℕ → Stop → Type 0
Stops spelling form follows bytes Outside = NoFront spelling form follows bytes
Stops spelling form follows bytes Memory = Unit {0}

-- a reader that answers so has read what is spelled at the front; its answer is seen as a value and
-- a rest
abbrev pub Reads : {R X : Type 0} → (R → X) → (R → List ℕ) → (X → List ℕ) → (X → Type 0)
    → (List ℕ → Type 0) → List ℕ → Result R Stop → Type 0
Reads value rest spelling form follows bytes (Ok r) =
    Front spelling form follows bytes (value r) (rest r)
Reads value rest spelling form follows bytes (Err e) = Stops spelling form follows bytes e

-- the whole bytes spell a value, and no other one
pub record Whole {X : Type 0} (spelling : X → List ℕ) (form : X → Type 0) (bytes : List ℕ)
    (x : X) : Type 0 where
  pub is_formed : form x
  pub is_spelled : bytes ≡ spelling x
  pub only : (y : X) → form y → bytes ≡ spelling y → y ≡ x

-- the whole bytes spell no value
pub record NoWhole {X : Type 0} (spelling : X → List ℕ) (form : X → Type 0)
    (bytes : List ℕ) : Type 0 where
  pub none : (y : X) → form y → bytes ≡ spelling y → ⊥

-- an answer for the whole bytes
abbrev pub Spells : {X : Type 0} → (X → List ℕ) → (X → Type 0) → List ℕ → Option X → Type 0
Spells spelling form bytes (Some x) = Whole spelling form bytes x
Spells spelling form bytes None = NoWhole spelling form bytes

-- anything may follow
abbrev pub Anything : List ℕ → Type 0
Anything after = Unit {0}
