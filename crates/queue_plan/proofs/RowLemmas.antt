-- Rows that are kept once, by what equal ones have in common.
use Rattle.std.proofs.Common.{◌≡◌, ℕ, List, [], ◌∷◌, ◌++◌, Bool, true, false, ◌||◌, ◌&&◌, if◌then◌else◌, refl, sym, ◌∙◌, ap}
use Rattle.std.specs.Prelude.{map, bytes_eq}
use Rattle.std.specs.Cmp.{IsEquivalence, on_equiv}
use Rattle.std.specs.Cmp.Lexicographic.{nat_list_eq_equiv, bytes_decides}
use Rattle.std.specs.Cmp.Derive.{both_true}
use Rattle.std.specs.List.{list_any}
use Rattle.std.proofs.lemmas.Bool.{and_parts}
use Rattle.std.proofs.lemmas.List.{map-append}
use Rattle.indexmap.specs.IndexSet.{insert_key}
use Rattle.mail_base.specs.declared.draw.Draw.{Draw}
use Rattle.mail_base.specs.declared.route.Resolved.{Resolved}
use Rattle.mail_base.specs.declared.route.Resolved.TheVariants.{Goes, Refuses}
use Rattle.queue_plan.specs.declared.target.Target.{Target}
use Rattle.queue_plan.specs.declared.target.Target.TheVariants as target
use Rattle.queue_plan.specs.inner.Targets.{target_by, target_of, same_target, with_row}
use Rattle.queue_plan.specs.Rows.{distinct, same_by, same_row}
use Rattle.queue_plan.proofs.FirstLemmas.{equiv_of, firsts_push}

-- two rows are the same where their targets are
same_targets : (a : List ℕ) (one : Resolved) (b : List ℕ) (other : Resolved) → same_target (target_by a one) (target_by b other) ≡ same_by a one b other
same_targets a (Goes x) b (Goes y) = refl
same_targets a (Goes x) b (Refuses f) = refl
same_targets a (Refuses e) b (Goes y) = refl
same_targets a (Refuses e) b (Refuses f) = refl

pub same_is : (one other : Draw) → same_target (target_of one) (target_of other) ≡ same_row one other
same_is one other = same_targets one.address one.resolved other.address other.resolved

equal_texts : (xs ys : List ℕ) → bytes_eq xs ys ≡ true → xs ≡ ys
equal_texts xs ys e = (bytes_decides xs ys).0 e

one_target : (x y : Target) → same_target x y ≡ true → x ≡ y
one_target (target.Goes a b c) (target.Goes p q r) e =
    let h = and_parts (bytes_eq a p && bytes_eq b q) (bytes_eq c r) e in
    let k = and_parts (bytes_eq a p) (bytes_eq b q) h.0 in
    λ i. target.Goes (equal_texts a p k.0 i) (equal_texts b q k.1 i) (equal_texts c r h.1 i)
one_target (target.Goes a b c) (target.Refused y) e = absurd (cc e)
one_target (target.Refused x) (target.Goes a b c) e = absurd (cc e)
one_target (target.Refused x) (target.Refused y) e = ap target.Refused (equal_texts x y e)

same_itself : (x : Target) → same_target x x ≡ true
same_itself (target.Goes a b c) = both_true (both_true (nat_list_eq_equiv.refl a) (nat_list_eq_equiv.refl b)) (nat_list_eq_equiv.refl c)
same_itself (target.Refused x) = nat_list_eq_equiv.refl x

-- that two rows are the same is an equivalence
pub rows_equiv : IsEquivalence same_row
rows_equiv =
    let e : IsEquivalence (λ (x y : Draw). same_target (target_of x) (target_of y)) = on_equiv target_of (equiv_of same_target one_target same_itself) in
    record {
      refl = λ x. sym (same_is x x) ∙ e.refl x;
      symm = λ x y. sym (same_is x y) ∙ e.symm x y ∙ same_is y x;
      congr = λ x y z s. sym (same_is x z) ∙ e.congr x y z (same_is x y ∙ s) ∙ same_is y z;
    }

-- a target is among those of rows where the row is among them
among_targets : (row : Draw) (rows : List Draw) → list_any (same_target (target_of row)) (map target_of rows) ≡ list_any (same_row row) rows
among_targets row [] = refl
among_targets row (x ∷ xs) = (λ i. same_is row x i || among_targets row xs i)

-- a row more
pub kept_one : (rows kept : List Draw) (met : List Target) (row : Draw) → kept ≡ distinct rows → met ≡ map target_of kept → with_row met kept row ≡ distinct (rows ++ row ∷ [])
kept_one rows kept met row is are =
    ap (λ m. with_row m kept row) are
    ∙ ap (λ c. if c then kept else kept ++ row ∷ []) (among_targets row kept)
    ∙ ap (λ k. insert_key same_row k row) is
    ∙ sym (firsts_push same_row rows_equiv rows row)

-- its target is behind the others where its row is
pub met_one : (kept : List Draw) (met : List Target) (row : Draw) → met ≡ map target_of kept → insert_key same_target met (target_of row) ≡ map target_of (with_row met kept row)
met_one kept met row are =
    ap (λ m. if list_any (same_target (target_of row)) met then m else m ++ target_of row ∷ []) are ∙ by (list_any (same_target (target_of row)) met)
  where
    by : (c : Bool) → (if c then map target_of kept else map target_of kept ++ target_of row ∷ []) ≡ map target_of (if c then kept else kept ++ row ∷ [])
    by true = refl
    by false = sym (map-append target_of kept (row ∷ []))
