-- What setting a name in a catalog gives.
use Rattle.std.proofs.Common.{◌≡◌, ◌≢◌, ℕ, zero, suc, ◌+◌, List, [], ◌∷◌, Bool, true, false, Some, take, bytes_eq, slice_get, refl, ap, sym, ◌∙◌, add-one, cond, arith}
use Rattle.std.specs.List.{IsDistinct, AllByRecursion}
use Rattle.std.specs.Map.{keys_of, set_value}
use Rattle.std.specs.Borrow.{MutBor}
use Rattle.std.specs.Option.{option_copied_mut}
use Rattle.std.specs.Prelude.{Option, None, OnSome}
use Rattle.std.specs.Cmp.Lexicographic.{nat_list_eq_equiv}
use Rattle.std.proofs.lemmas.Slice.Eq.{bytes_eq-Decides}
use Rattle.std.proofs.lemmas.Map.Keys.{IsDistinct-head, IsDistinct-tail}
use Rattle.std.proofs.lemmas.Map.Steps.{set_value_same}
use Rattle.std.specs.Map.{lookup}
use Rattle.std.specs.Str.{str_eq_ignore_ascii_case}
use Rattle.mail_base.specs.Catalogs.{value_at, value_like, with_value, SetsValue}

apart : (other name : List ℕ) → other ≢ name → bytes_eq other name ≡ false
apart other name h = by (bytes_eq other name) refl
  where
    by : (b : Bool) → bytes_eq other name ≡ b → bytes_eq other name ≡ false
    by true e = absurd (h ((bytes_eq-Decides other name).0 e))
    by false e = e

module _ {V : Type 0} where
  differs : (k : List ℕ) (es : List (List ℕ × V)) (i : ℕ) (p : List ℕ × V) → AllByRecursion (λ y. bytes_eq k y ≡ false) (keys_of es) → slice_get es i ≡ Some p → bytes_eq k p.0 ≡ false
  differs k [] i p all e = cc
  differs k (x ∷ es) zero p all e = let q : x ≡ p = cc in ap (λ (y : List ℕ × V). bytes_eq k y.0) (sym q) ∙ all.0
  differs k (x ∷ es) (suc i) p all e = differs k es i p all.1 e

  -- setting the next pair of a catalog appends it
  pub next_is_new : (es : List (List ℕ × V)) (i : ℕ) (p : List ℕ × V) → IsDistinct bytes_eq (keys_of es) → slice_get es i ≡ Some p → with_value p.0 p.1 (take i es) ≡ take (i + 1) es
  next_is_new [] i p d e = cc
  next_is_new (x ∷ es) zero p d e = let q : p ≡ x = cc in ap (λ (y : List ℕ × V). y ∷ []) q
  next_is_new (x ∷ es) (suc i) p d e =
      let apart : bytes_eq p.0 x.0 ≡ false = nat_list_eq_equiv.symm p.0 x.0 ∙ differs x.0 es i p (IsDistinct-head bytes_eq x.0 (keys_of es) d) e in
      let rest = next_is_new es i p (IsDistinct-tail bytes_eq x.0 (keys_of es) d) e in
      rw (apart, add-one) (ap (λ r. x ∷ r) (rest ∙ rw add-one refl))

  -- the name has the value
  value-with_value : (name : List ℕ) (v : V) (es : List (List ℕ × V)) → value_at name (with_value name v es) ≡ Some v
  value-with_value name v [] = let r = nat_list_eq_equiv.refl name in grind (arith, r)
  value-with_value name v (e ∷ es) = let rest = value-with_value name v es in grind (arith, rest)

  -- each other name has the value that it had
  value-with_other : (name other : List ℕ) (v : V) (es : List (List ℕ × V)) → other ≢ name → value_at other (with_value name v es) ≡ value_at other es
  value-with_other name other v [] h = let a = apart other name h in grind (arith, a)
  value-with_other name other v (e ∷ es) h = let a = apart other name h in let rest = value-with_other name other v es h in let same = (bytes_eq-Decides name e.0).0 in grind (arith, a, rest, same)

  -- setting a name gives it the value, and each other name keeps its own
  pub with_value_sets : (name : List ℕ) (v : V) (es : List (List ℕ × V)) → SetsValue name (Some v) es (with_value name v es)
  with_value_sets name v es = record { value = value-with_value name v es; others = λ other h. value-with_other name other v es h }

  set_value-there : (name : List ℕ) (w v : V) (es : List (List ℕ × V)) → value_at name es ≡ Some v → set_value (bytes_eq name) es w ≡ with_value name w es
  set_value-there name w v [] there = cc
  set_value-there name w v (e ∷ es) there = let rest = set_value-there name w v es in grind (arith, rest)

  -- the value that is there, set again, changes nothing
  pub with_value_same : (name : List ℕ) (v : V) (es : List (List ℕ × V)) → value_at name es ≡ Some v → with_value name v es ≡ es
  with_value_same name v es there = sym (set_value-there name v v es there) ∙ set_value_same (bytes_eq name) es v there

  -- a value that is written in its place is set
  pub written : (lent : Option (MutBor V)) (name : List ℕ) (w : V) (es new : List (List ℕ × V)) → option_copied_mut lent ≡ value_at name es → new ≡ set_value (bytes_eq name) es w → OnSome lent (new ≡ with_value name w es)
  written None name w es new seen e = tt
  written (Some r) name w es new seen e = e ∙ set_value-there name w r.now es (sym seen)

  module _ (test : List ℕ → Bool) where
    passed_by : (es : List (List ℕ × V)) (i : ℕ) (e : List ℕ × V) → slice_get es i ≡ Some e → lookup test (take i es) ≡ None → test e.0 ≡ false → lookup test (take (suc i) es) ≡ None
    passed_by [] i e there none fails = cc
    passed_by (x ∷ es) zero e there none fails = let q : x ≡ e = cc in ap (λ b. cond b (Some x.1) None) (ap (λ (y : List ℕ × V). test y.0) q ∙ fails)
    passed_by (x ∷ es) (suc i) e there none fails = let rest = passed_by es i e there in grind (arith, rest)

    found_at : (es : List (List ℕ × V)) (i : ℕ) (e : List ℕ × V) → slice_get es i ≡ Some e → lookup test (take i es) ≡ None → test e.0 ≡ true → lookup test es ≡ Some e.1
    found_at [] i e there none passes = cc
    found_at (x ∷ es) zero e there none passes = let q : x ≡ e = cc in ap (λ b. cond b (Some x.1) (lookup test es)) (ap (λ (y : List ℕ × V). test y.0) q ∙ passes) ∙ ap (λ (y : List ℕ × V). Some y.1) q
    found_at (x ∷ es) (suc i) e there none passes = let rest = found_at es i e there in grind (arith, rest)

  -- a name that differs is passed by
  pub like_passed : (name : List ℕ) (es : List (List ℕ × V)) (i : ℕ) (e : List ℕ × V) → slice_get es i ≡ Some e → value_like name (take i es) ≡ None → str_eq_ignore_ascii_case name e.0 ≡ false → value_like name (take (i + 1) es) ≡ None
  like_passed name es i e there none fails = rw add-one (passed_by (str_eq_ignore_ascii_case name) es i e there none fails)

  -- the first name that doesn't has the value
  pub like_found : (name : List ℕ) (es : List (List ℕ × V)) (i : ℕ) (e : List ℕ × V) → slice_get es i ≡ Some e → value_like name (take i es) ≡ None → str_eq_ignore_ascii_case name e.0 ≡ true → value_like name es ≡ Some e.1
  like_found name es i e there none passes = found_at (str_eq_ignore_ascii_case name) es i e there none passes
