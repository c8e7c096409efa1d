-- New entries under ids in a row.
use Rattle.std.proofs.Common.{◌≡◌, ℕ, ◌+◌, ◌<◌, ◌≤◌, List, [], ◌∷◌, map, length, Option, Some, refl, sym, arith, Less}
use Rattle.std.specs.Prelude.{All, IfSome}
use Rattle.std.specs.List.{AllByRecursion}
use Rattle.std.specs.List.Sorted.{IsStrictlySortedBy}
use Rattle.std.specs.Ordering.{nat_cmp}
use Rattle.std.specs.Cmp.{nat_cmp_is}
use Rattle.std.proofs.lemmas.List.Elements.{All-nil, All-cons, All-head, All-tail, All-weaker}
use Rattle.mail_base.specs.declared.control.Control.{Control}
use Rattle.mail_base.specs.declared.control.Parent.{Parent}
use Rattle.qf_format.specs.Valid.{IsParent, IsRevision, IsValid}
use Rattle.spool_store.specs.Entries.{Stored, ids}
use Rattle.spool_store.specs.Changes.{IsNew}
use Rattle.mail_base.specs.declared.control.Draft.{Draft}
use Rattle.spool_store.specs.Writes.{stored, heir, numbered, IsDraftable}

-- new entries by their numbers
pub record IsFrom (id : ℕ) (count : ℕ) (body : List ℕ) (p : Parent) (s : Stored) : Type 0 where
  pub least : id ≤ s.id
  pub below : s.id < id + count
  pub parent : s.control.parent ≡ Some p
  pub body_is : s.body ≡ body

-- new entries have ids in a row, the body and the parent that were given
pub numbered_from : (id : ℕ) (b : List ℕ) (p : Parent) (ds : List Draft) → All (IsFrom id (length ds) b p) (numbered id b (map (heir p) ds))
numbered_from id b p [] = All-nil (IsFrom id 0 b p)
numbered_from id b p (d ∷ ds) = All-cons (IsFrom id (length (d ∷ ds)) b p) (stored id b (heir p d)) (numbered (id + 1) b (map (heir p) ds))
    (record { least = omega arith; below = omega arith; parent = refl; body_is = refl })
    (All-weaker (IsFrom (id + 1) (length ds) b p) (IsFrom id (length (d ∷ ds)) b p) (λ s h. record { least = omega (arith, h.least); below = omega (arith, h.below); parent = h.parent; body_is = h.body_is }) (numbered (id + 1) b (map (heir p) ds)) (numbered_from (id + 1) b p ds))

less_numbered : (n id : ℕ) (b : List ℕ) (ds : List Draft) → n < id → AllByRecursion (λ y. nat_cmp n y ≡ Less) (ids (numbered id b ds))
less_numbered n id b [] lt = tt
less_numbered n id b (d ∷ ds) lt = (sym (nat_cmp_is n id Less lt), less_numbered n (id + 1) b ds (omega (arith, lt)))

-- new entries are in order of id
pub numbered_ascends : (id : ℕ) (b : List ℕ) (ds : List Draft) → IsStrictlySortedBy nat_cmp (ids (numbered id b ds))
unfolding IsStrictlySortedBy
numbered_ascends id b [] = tt
numbered_ascends id b (d ∷ ds) = (less_numbered id (id + 1) b ds (omega arith), numbered_ascends (id + 1) b ds)

-- and one before them
pub first_ascends : (s : Stored) (b : List ℕ) (ds : List Draft) → IsStrictlySortedBy nat_cmp (ids (s ∷ numbered (s.id + 1) b ds))
unfolding IsStrictlySortedBy
first_ascends s b ds = (less_numbered s.id (s.id + 1) b ds (omega arith), numbered_ascends (s.id + 1) b ds)

-- a control stays valid with another revision and parent
pub valid_with : (r : ℕ) (p : Option Parent) (c : Control) → IsRevision r → IfSome p IsParent → IsValid c → IsValid (record c { revision = r; parent = p })
valid_with r p c range form h = record {
  revision_range = range;
  parent_form = form;
  group_form = h.group_form;
  created_range = h.created_range;
  last_try_range = h.last_try_range;
  tries_range = h.tries_range;
  priority_range = h.priority_range;
  class_range = h.class_range;
  sender_form = h.sender_form;
  kept_form = h.kept_form;
  rows_form = h.rows_form;
  headers_form = h.headers_form;
}

-- entries under ids from the next one on are new
pub numbered_new : (dirs : List (List ℕ)) (next id : ℕ) (b : List ℕ) (p : Parent) (ds : List Draft) → IsParent p → next ≤ id → id + length ds ≤ 1_000_000_000_000 → All (IsDraftable dirs) ds → All (IsNew dirs next) (numbered id b (map (heir p) ds))
numbered_new dirs next id b p [] formed le most h = All-nil (IsNew dirs next)
numbered_new dirs next id b p (d ∷ ds) formed le most h =
    let its = All-head (IsDraftable dirs) d ds h in
    All-cons (IsNew dirs next) (stored id b (heir p d)) (numbered (id + 1) b (map (heir p) ds))
    (record { free = le; within = omega (arith, most); among = its.among; valid = valid_with d.control.revision (Some p) d.control its.valid.revision_range formed its.valid })
    (numbered_new dirs next (id + 1) b p ds formed (omega (arith, le)) (omega (arith, most)) (All-tail (IsDraftable dirs) d ds h))
