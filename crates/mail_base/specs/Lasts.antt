-- The places of items by their names, of which the last counts (Sendmail Installation and Operation
-- Guide, "K: Key File Declaration": a later line of a name replaces an earlier one).
use Rattle.std.specs.Prelude.{◌≡◌, ℕ, suc, Bool, true, false, bytes_eq, List, [], ◌∷◌, Option, None, Some, codes, refl}
use Rattle.mail_base.specs.Catalogs.{value_at}

-- a later place, or else this one where the name is met
abbrev pub later : Option ℕ → Bool → Option ℕ
later (Some place) met = Some (suc place)
later None true = Some 0
later None false = None

-- the place of the last item of a name
abbrev pub last_named : {A : Type 0} → (A → List ℕ) → List ℕ → List A → Option ℕ
last_named named name [] = None
last_named named name (item ∷ items) =
    later (last_named named name items) (bytes_eq name (named item))

-- an index has the place of the last item of each name; only private contracts cite it
abbrev pub HasLasts : {A : Type 0} → (A → List ℕ) → List A → List (List ℕ × ℕ) → Type 0
HasLasts named items places = (name : List ℕ) → value_at name places ≡ last_named named name items

example : last_named (λ (name : List ℕ). name) (codes "a")
    (codes "a" ∷ codes "b" ∷ codes "a" ∷ codes "c" ∷ []) ≡ Some 2
example = refl
