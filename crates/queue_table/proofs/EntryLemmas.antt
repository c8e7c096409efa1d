-- Entries in order of id, and the entry of an id.
use Rattle.std.proofs.Common.{◌≡◌, ⊎_elim, ℕ, List, [], ◌∷◌, map, Some, Bool, true, false, if◌then◌else◌, refl, sym, ◌∙◌, ap, subst, arith, eq-eqb, Contains}
use Rattle.std.specs.Prelude.{eqb}
use Rattle.std.specs.List.{AllZip}
use Rattle.std.specs.List.Sorted.{IsStrictlySortedBy}
use Rattle.std.specs.Ordering.{nat_cmp}
use Rattle.std.proofs.lemmas.Bool.{eqb-true}
use Rattle.mail_base.specs.declared.control.Control.{Control}
use Rattle.spool_store.specs.Entries.{Stored, ids, replaced}
use Rattle.spool_store.proofs.Adding.{one_entry}
use Rattle.spool_store.proofs.Standing.{contains_cases, contains_head, contains_tail, decided, sorted_head, sorted_tail}
use Rattle.queue_table.specs.Commands.{control_at}

at_first : (b : Bool) (id : ℕ) (x : Stored) (xs : List Stored) → b ≡ true → (if b then Some x.control else control_at id xs) ≡ Some x.control
at_first b id x xs e = subst (λ (q : Bool). (if q then Some x.control else control_at id xs) ≡ Some x.control) (sym e) refl

at_later : (b : Bool) (id : ℕ) (x : Stored) (xs : List Stored) → b ≡ false → (if b then Some x.control else control_at id xs) ≡ control_at id xs
at_later b id x xs e = subst (λ (q : Bool). (if q then Some x.control else control_at id xs) ≡ control_at id xs) (sym e) refl

-- the control of an entry is found by its id
pub found : (id : ℕ) (xs : List Stored) (s : Stored) → IsStrictlySortedBy nat_cmp (ids xs) → Contains xs s → s.id ≡ id → control_at id xs ≡ Some s.control
found id [] s h k e = absurd (omega (arith, k.1))
found id (x ∷ xs) s h k e = ⊎_elim
    (λ (first : x ≡ s). at_first (eqb x.id id) id x xs (eq-eqb x.id id (ap (λ (q : Stored). q.id) first ∙ e)) ∙ ap (λ (q : Stored). Some q.control) first)
    (λ (later : Contains xs s).
    let lt = sorted_head x s xs h later in
    ⊎_elim
    (λ (t : eqb x.id id ≡ true). absurd (omega (arith, eqb-true x.id id t, lt, e)))
    (λ (f : eqb x.id id ≡ false). at_later (eqb x.id id) id x xs f ∙ found id xs s (sorted_tail x xs h) later e)
    (decided (eqb x.id id)))
    (contains_cases x s xs k)

-- what holds of an entry with that control, and of it as it is, holds by a test of either
pub by_test : (P : Stored → Type 0) (b : Bool) (d : Control) (a : Stored) → (b ≡ true → P (record { id = a.id; dir = a.dir; control = d; body = a.body })) → (b ≡ false → P a) → P (if b then record { id = a.id; dir = a.dir; control = d; body = a.body } else a)
by_test P true d a one other = one refl
by_test P false d a one other = other refl

-- what holds of each entry and itself, and of one entry and its new control, holds of each and what becomes of it
pub changed_each : (P : Stored → Stored → Type 0) (id : ℕ) (d : Control) (xs : List Stored) (s : Stored) → IsStrictlySortedBy nat_cmp (ids xs) → Contains xs s → s.id ≡ id → ((a : Stored) → Contains xs a → P a a) → P s (record { id = s.id; dir = s.dir; control = d; body = s.body }) → (a : Stored) → Contains xs a → P a (replaced id d a)
changed_each P id d xs s up k is stays changes a m = by_test (P a) (eqb a.id id) d a
    (λ (t : eqb a.id id ≡ true). subst (λ (q : Stored). P q (record { id = q.id; dir = q.dir; control = d; body = q.body })) (one_entry xs s a up k m (is ∙ sym (eqb-true a.id id t))) changes)
    (λ f. stays a m)

-- the same of lists
pub zip_each : (P : Stored → Stored → Type 0) (f : Stored → Stored) (xs : List Stored) → ((a : Stored) → Contains xs a → P a (f a)) → AllZip P xs (map f xs)
zip_each P f [] each = tt
zip_each P f (x ∷ xs) each = (each x (contains_head x xs), zip_each P f xs (λ a m. each a (contains_tail x a xs m)))
