-- Holders in any order, and the entries that may be claimed.
use Rattle.std.proofs.Common.{◌≡◌, ℕ, ◌+◌, ◌<◌, List, [], ◌∷◌, ◌++◌, Bool, true, false, cond, not, ◌&&◌, ◌||◌, refl, sym, ◌∙◌, ap, arith, map, true≢false}
use Rattle.std.specs.Prelude.{All, bytes_eq, count_by, eqb, filter, nat_lt}
use Rattle.std.specs.List.{AllZip, list_any}
use Rattle.std.proofs.lemmas.List.Elements.{All-cons, All-head, All-nil, All-tail}
use Rattle.std.proofs.lemmas.List.Sums.{sum_by-append}
use Rattle.mail_base.specs.Catalogs.{value_at}
use Rattle.mail_base.specs.declared.control.Entry.{Entry}
use Rattle.spool_store.specs.Entries.{Stored}
use Rattle.spool_store.specs.Stores.{IsHeld, entered}
use Rattle.spool_store.specs.declared.held.Held.{Held as Kept}
use Rattle.queue_table.specs.Claims.{has_room, is_free, is_held, lane_of, may_claim, or_lane}
use Rattle.queue_table.specs.Order.{is_due}
use Rattle.queue_table.specs.declared.waiting.Holder.{Holder as Held}
use Rattle.queue_table.specs.declared.waiting.Lane.{Lane}
use Rattle.queue_table.specs.declared.waiting.Waiting.{Waiting}
use Rattle.mail_core.specs.Holding.{held_as, waiting_of}
use Rattle.mail_core.specs.Sites.{Site}
use Rattle.mail_core.specs.States.{Seat}
use Rattle.mail_core.proofs.ApartLemmas.{counts_first}
use Rattle.mail_core.specs.Crews.{IsWaiting}

-- ---- counts

pub counts_both : {X : Type 0} (p : X → Bool) (xs ys : List X) → count_by p (xs ++ ys) ≡ count_by p xs + count_by p ys
counts_both p xs ys = sum_by-append (λ x. cond (p x) 1 0) xs ys

abbrev pub one_if : Bool → ℕ
one_if true = 1
one_if false = 0

one_is : (b : Bool) → cond b 1 0 ≡ one_if b
one_is true = refl
one_is false = refl

pub counts_one : {X : Type 0} (p : X → Bool) (x : X) (xs : List X) → count_by p (x ∷ xs) ≡ one_if (p x) + count_by p xs
counts_one p x xs = let c = counts_first p x xs in let e = one_is (p x) in omega (arith, c, e)

any_some : {X : Type 0} (p : X → Bool) (xs : List X) → list_any p xs ≡ true → 0 < count_by p xs
any_some p [] h = absurd (true≢false (sym h))
any_some p (x ∷ xs) h = let c = counts_one p x xs in by (p x) refl h (any_some p xs) c
  where
    by : (b : Bool) → p x ≡ b → (b || list_any p xs) ≡ true → (list_any p xs ≡ true → 0 < count_by p xs) → count_by p (x ∷ xs) ≡ one_if (p x) + count_by p xs → 0 < count_by p (x ∷ xs)
    by true e h rest c = let d = ap one_if e in omega (arith, c, d)
    by false e h rest c = let r = rest h in omega (arith, c, r)

any_none : {X : Type 0} (p : X → Bool) (xs : List X) → list_any p xs ≡ false → count_by p xs ≡ 0
any_none p [] h = refl
any_none p (x ∷ xs) h = let c = counts_one p x xs in by (p x) refl h (any_none p xs) c
  where
    by : (b : Bool) → p x ≡ b → (b || list_any p xs) ≡ false → (list_any p xs ≡ false → count_by p xs ≡ 0) → count_by p (x ∷ xs) ≡ one_if (p x) + count_by p xs → count_by p (x ∷ xs) ≡ 0
    by true e h rest c = absurd (true≢false h)
    by false e h rest c = let r = rest h in let d = ap one_if e in omega (arith, c, d, r)

-- where as many pass a test, some do or none
pub any_same : {X : Type 0} (p : X → Bool) (xs ys : List X) → count_by p xs ≡ count_by p ys → list_any p xs ≡ list_any p ys
any_same p xs ys e = by (list_any p xs) (list_any p ys) refl refl
  where
    by : (b c : Bool) → list_any p xs ≡ b → list_any p ys ≡ c → b ≡ c
    by true true x y = refl
    by false false x y = refl
    by true false x y = let m = any_some p xs x in let n = any_none p ys y in absurd (omega (arith, e, m, n))
    by false true x y = let m = any_none p xs x in let n = any_some p ys y in absurd (omega (arith, e, m, n))

-- the count of those that are left
pub counts_left : {X : Type 0} (q p : X → Bool) (xs : List X) → count_by p (filter q xs) ≡ count_by (λ x. q x && p x) xs
counts_left q p [] = refl
counts_left q p (x ∷ xs) = by (q x) refl (counts_left q p xs)
  where
    by : (b : Bool) → q x ≡ b → count_by p (filter q xs) ≡ count_by (λ x. q x && p x) xs → count_by p (cond b (x ∷ filter q xs) (filter q xs)) ≡ count_by (λ x. q x && p x) (x ∷ xs)
    by true e rest =
        let c = counts_one p x (filter q xs) in
        let d = counts_one (λ x. q x && p x) x xs in
        let f : one_if (q x && p x) ≡ one_if (p x) = ap (λ b. one_if (b && p x)) e in
        omega (arith, c, d, f, rest)
    by false e rest =
        let d = counts_one (λ x. q x && p x) x xs in
        let f : one_if (q x && p x) ≡ 0 = ap (λ b. one_if (b && p x)) e in
        omega (arith, d, f, rest)

-- ---- seats

module _ (site : Site) (w : Waiting) (seats : List Seat) (is : IsWaiting site w seats) where
  pub lane_same : (group : List ℕ) → lane_of w group ≡ lane_of (waiting_of site seats) group
  lane_same group = λ i. or_lane (is.other i) (value_at group (is.lanes i))

  held_same : (id : ℕ) → is_held w.holders id ≡ is_held (map held_as seats) id
  held_same id = any_same (λ (h : Held). eqb h.id id) w.holders (map held_as seats) (sym (is.holders (λ (h : Held). eqb h.id id)))

  room_same : (lane : Lane) → has_room w.holders lane ≡ has_room (map held_as seats) lane
  room_same lane = ap (λ n. nat_lt n lane.runners) (sym (is.holders (λ (h : Held). bytes_eq h.lane lane.group)))

  -- the same entries are free
  pub free_same : (e : Entry) → (not (is_held w.holders e.id) && has_room w.holders (lane_of w e.control.group))
      ≡ (not (is_held (map held_as seats) e.id) && has_room (map held_as seats) (lane_of (waiting_of site seats) e.control.group))
  free_same e =
      ap (λ q. not q && has_room w.holders (lane_of w e.control.group)) (held_same e.id)
      ∙ ap (λ q. not (is_held (map held_as seats) e.id) && q) (ap (has_room w.holders) (lane_same e.control.group) ∙ room_same (lane_of (waiting_of site seats) e.control.group))

  -- and the same ones may be claimed
  pub may_same : (moment : ℕ) (h : Kept) → may_claim w moment h ≡ may_claim (waiting_of site seats) moment h
  may_same moment h =
      ap (λ q. q && is_due h.entry.control moment (lane_of w h.entry.control.group).wait) (free_same h.entry)
      ∙ ap (λ (q : Lane). is_free (waiting_of site seats) h && is_due h.entry.control moment q.wait) (lane_same h.entry.control.group)

-- ---- entries of a store and of its table

pub same_entry : (h : Kept) (s : Stored) → IsHeld h s → h.entry ≡ (entered s).entry
same_entry h s held = λ i. record { id = held.id i; dir = held.dir i; control = held.control i }

pub may_stored : (w : Waiting) (moment : ℕ) (h : Kept) (s : Stored) → IsHeld h s → may_claim w moment h ≡ may_claim w moment (entered s)
may_stored w moment h s held =
    ap (λ (e : Entry). (not (is_held w.holders e.id) && has_room w.holders (lane_of w e.control.group)) && is_due e.control moment (lane_of w e.control.group).wait) (same_entry h s held)

pub zip_all : (P : Kept → Type 0) (Q : Stored → Type 0) (hs : List Kept) (ss : List Stored) → AllZip IsHeld hs ss → ((h : Kept) (s : Stored) → IsHeld h s → P h → Q s) → All P hs → All Q ss
zip_all P Q [] [] zip to all = All-nil Q
zip_all P Q [] (s ∷ ss) zip to all = absurd zip
zip_all P Q (h ∷ hs) [] zip to all = absurd zip
zip_all P Q (h ∷ hs) (s ∷ ss) zip to all = All-cons Q s ss (to h s zip.0 (All-head P h hs all)) (zip_all P Q hs ss zip.1 to (All-tail P h hs all))

-- no entry of a store may be claimed, so none of its table
pub none_due : (site : Site) (w : Waiting) (seats : List Seat) (moment : ℕ) (hs : List Kept) (ss : List Stored) → IsWaiting site w seats → AllZip IsHeld hs ss
    → All (λ (h : Kept). may_claim w moment h ≡ false) hs → All (λ (s : Stored). may_claim (waiting_of site seats) moment (entered s) ≡ false) ss
none_due site w seats moment hs ss is zip all =
    zip_all (λ (h : Kept). may_claim w moment h ≡ false) (λ (s : Stored). may_claim (waiting_of site seats) moment (entered s) ≡ false) hs ss zip
    (λ h s held nay. sym (may_stored (waiting_of site seats) moment h s held) ∙ sym (may_same site w seats is moment h) ∙ nay) all
