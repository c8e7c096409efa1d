-- The places of the last items by their names.
use Rattle.std.proofs.Common.{◌≡◌, ℕ, suc, Bool, true, false, cond, List, [], ◌∷◌, ◌++◌, Option, None, Some, length, refl, sym, ap, subst, ◌∙◌}
use Rattle.std.specs.Prelude.{bytes_eq}
use Rattle.std.proofs.lemmas.Bool.{cond-true, cond-false, false≢true}
use Rattle.std.proofs.lemmas.Slice.Eq.{bytes_eq-Decides}
use Rattle.mail_base.specs.Catalogs.{SetsValue, value_at}
use Rattle.mail_base.specs.Lasts.{HasLasts, last_named, later}

later_none : (met : Bool) → later None met ≡ cond met (Some 0) None
later_none true = refl
later_none false = refl

later_cond : (b met : Bool) (place : ℕ) (found : Option ℕ) → later (cond b (Some place) found) met ≡ cond b (Some (suc place)) (later found met)
later_cond true met place found = refl
later_cond false met place found = refl

module _ {A : Type 0} (named : A → List ℕ) where
  -- one item more
  last_more : (name : List ℕ) (items : List A) (item : A) → last_named named name (items ++ item ∷ []) ≡ cond (bytes_eq name (named item)) (Some (length items)) (last_named named name items)
  last_more name [] item = later_none (bytes_eq name (named item))
  last_more name (first ∷ items) item =
      ap (λ (found : Option ℕ). later found (bytes_eq name (named first))) (last_more name items item)
      ∙ later_cond (bytes_eq name (named item)) (bytes_eq name (named first)) (length items) (last_named named name items)

  -- an item was put behind the others, and its place set at its name
  pub last_put : (items : List A) (item : A) (old new : List (List ℕ × ℕ)) → HasLasts named items old → SetsValue {V = ℕ} (named item) (Some (length items)) old new → HasLasts named (items ++ item ∷ []) new
  last_put items item old new placed sets name = by (bytes_eq name (named item)) refl
    where
      by : (b : Bool) → bytes_eq name (named item) ≡ b → value_at name new ≡ last_named named name (items ++ item ∷ [])
      by true same =
          subst (λ (n : List ℕ). value_at n new ≡ Some (length items)) (sym ((bytes_eq-Decides name (named item)).0 same)) sets.value
          ∙ sym (last_more name items item ∙ cond-true _ (Some (length items)) (last_named named name items) same)
      by false other =
          sets.others name (λ same. false≢true (sym other ∙ (bytes_eq-Decides name (named item)).1 same)) ∙ placed name
          ∙ sym (last_more name items item ∙ cond-false _ (Some (length items)) (last_named named name items) other)
