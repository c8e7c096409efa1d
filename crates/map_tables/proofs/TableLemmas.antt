-- The first line of a key.
use Rattle.std.proofs.Common.{◌≡◌, ℕ, Bool, true, false, cond, List, [], ◌∷◌, ◌++◌, Option, Some, None, Result, Ok, Err, fold, refl, sym, ap, ◌∙◌}
use Rattle.std.specs.Prelude.{OnOk, bytes_eq, is_some}
use Rattle.std.proofs.lemmas.Bool.{cond-true, cond-false, false≢true}
use Rattle.std.proofs.lemmas.Option.{none-some}
use Rattle.std.proofs.lemmas.Slice.Eq.{bytes_eq-Decides}
use Rattle.mail_base.specs.Catalogs.{value_at, with_value}
use Rattle.map_tables.specs.Tables.{with_first, first_pairs}

abbrev Pairs : Type 0 → Type 0
Pairs V = List (List ℕ × V)

same_key : (one other : List ℕ) → bytes_eq one other ≡ true → one ≡ other
same_key one other same = (bytes_eq-Decides one other).0 same

on_ok : {X E P Q : Type 0} (r : Result X E) → (P → Q) → OnOk r P → OnOk r Q
on_ok (Ok x) f p = f p
on_ok (Err e) f p = tt

module _ {V : Type 0} where
  -- a value that is there, or else another
  abbrev or_else : Option V → Option V → Option V
  or_else (Some value) other = Some value
  or_else None other = other

  or_else_none : (found : Option V) → or_else found None ≡ found
  or_else_none None = refl
  or_else_none (Some value) = refl

  or_else_step : (b : Bool) (value : V) (one other : Option V) → one ≡ other → cond b (Some value) one ≡ cond b (Some value) other
  or_else_step true value one other same = refl
  or_else_step false value one other same = same

  or_else_cond : (b : Bool) (value : V) (found other : Option V) → or_else (cond b (Some value) found) other ≡ cond b (Some value) (or_else found other)
  or_else_cond true value found other = refl
  or_else_cond false value found other = refl

  -- what is found in two lists
  value_in_both : (key : List ℕ) (one other : Pairs V) → value_at key (one ++ other) ≡ or_else (value_at key one) (value_at key other)
  value_in_both key [] other = refl
  value_in_both key (pair ∷ one) other =
      or_else_step (bytes_eq key pair.0) pair.1 _ _ (value_in_both key one other) ∙ sym (or_else_cond (bytes_eq key pair.0) pair.1 (value_at key one) (value_at key other))

  or_else_assoc : (one other last : Option V) → or_else (or_else one other) last ≡ or_else one (or_else other last)
  or_else_assoc None other last = refl
  or_else_assoc (Some value) other last = refl

  -- a key that is known keeps its value
  keeps : (found : Option V) (same : Bool) (value : V) → (same ≡ true → is_some found ≡ true) → found ≡ or_else found (cond same (Some value) None)
  keeps (Some other) same value known = refl
  keeps None false value known = refl
  keeps None true value known = absurd (false≢true (known refl))

  -- one pair more
  after_first : (key : List ℕ) (pairs : Pairs V) (pair : List ℕ × V) → value_at key (with_first pairs pair) ≡ or_else (value_at key pairs) (value_at key (pair ∷ []))
  after_first key pairs pair = by (is_some (value_at pair.0 pairs)) refl
    where
      by : (b : Bool) → is_some (value_at pair.0 pairs) ≡ b → value_at key (cond b pairs (pairs ++ pair ∷ [])) ≡ or_else (value_at key pairs) (value_at key (pair ∷ []))
      by true known = keeps (value_at key pairs) (bytes_eq key pair.0) pair.1 (λ same. ap (λ (k : List ℕ). is_some (value_at k pairs)) (same_key key pair.0 same) ∙ known)
      by false known = value_in_both key pairs (pair ∷ [])

  -- the pairs that were put in one by one have at each key what the first with it has
  counts_on : (key : List ℕ) (known pairs : Pairs V) → value_at key (fold with_first known pairs) ≡ or_else (value_at key known) (value_at key pairs)
  counts_on key known [] = sym (or_else_none (value_at key known))
  counts_on key known (pair ∷ pairs) =
      counts_on key (with_first known pair) pairs
      ∙ ap (λ (f : Option V). or_else f (value_at key pairs)) (after_first key known pair)
      ∙ or_else_assoc (value_at key known) (value_at key (pair ∷ [])) (value_at key pairs)
      ∙ ap (or_else (value_at key known)) (or_else_cond (bytes_eq key pair.0) pair.1 None (value_at key pairs))

  -- with the first pair of each key alone, each key has the value as before
  pub first_counts : (key : List ℕ) (pairs : Pairs V) → value_at key (first_pairs pairs) ≡ value_at key pairs
  first_counts key pairs = counts_on key [] pairs

  -- a pair of a key that is there changes nothing
  pub first_known : (key : List ℕ) (value : V) (pairs : Pairs V) (old : V) → Some old ≡ value_at key pairs → pairs ≡ with_first pairs (key, value)
  first_known key value pairs old known = sym (cond-true _ pairs (pairs ++ (key, value) ∷ []) (ap is_some (sym known)))

  -- a pair of a new key goes last
  new_by : (b : Bool) (key : List ℕ) (value : V) (pair : List ℕ × V) (pairs : Pairs V) → bytes_eq key pair.0 ≡ b → None ≡ value_at key (pair ∷ pairs)
      → (None ≡ value_at key pairs → with_value key value pairs ≡ pairs ++ (key, value) ∷ []) → with_value key value (pair ∷ pairs) ≡ (pair ∷ pairs) ++ (key, value) ∷ []
  new_by true key value pair pairs same none go = absurd (none-some pair.1 (none ∙ cond-true _ (Some pair.1) (value_at key pairs) same))
  new_by false key value pair pairs other none go =
      cond-false _ ((pair.0, value) ∷ pairs) (pair ∷ with_value key value pairs) other
      ∙ ap (λ (r : Pairs V). pair ∷ r) (go (none ∙ cond-false _ (Some pair.1) (value_at key pairs) other))

  new_last : (key : List ℕ) (value : V) (pairs : Pairs V) → None ≡ value_at key pairs → with_value key value pairs ≡ pairs ++ (key, value) ∷ []
  new_last key value [] none = refl
  new_last key value (pair ∷ pairs) none = new_by (bytes_eq key pair.0) key value pair pairs refl none (new_last key value pairs)

  first_new : (key : List ℕ) (value : V) (pairs now : Pairs V) → None ≡ value_at key pairs → now ≡ with_value key value pairs → now ≡ with_first pairs (key, value)
  first_new key value pairs now none put = put ∙ new_last key value pairs none ∙ sym (cond-false _ pairs (pairs ++ (key, value) ∷ []) (ap is_some (sym none)))

  -- a pair whose key isn't there is put in as a first one
  pub put_new : {X E : Type 0} (r : Result X E) (key : List ℕ) (value : V) (pairs now : Pairs V) → None ≡ value_at key pairs → OnOk r (now ≡ with_value key value pairs) → OnOk r (now ≡ with_first pairs (key, value))
  put_new r key value pairs now none put = on_ok r (first_new key value pairs now none) put
