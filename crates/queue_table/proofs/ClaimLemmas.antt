-- The least of the entries that may be claimed.
use Rattle.std.proofs.Common.{◌≡◌, ◌⊎◌, inl, inr, ⊎_elim, ℕ, ◌+◌, ◌<◌, List, [], ◌∷◌, length, get_or, cond, Option, None, Some, Bool, true, false, not, ◌&&◌, eqb, if◌then◌else◌, map, refl, sym, ◌∙◌, ap, subst, arith, true≢false}
use Rattle.std.proofs.lemmas.Bool.{cases_eq, eqb-true}
use Rattle.std.proofs.lemmas.List.Elements.{All-head, All-map, All-tail}
use Rattle.std.specs.Map.{lookup}
use Rattle.std.specs.Prelude.{All}
use Rattle.mail_base.specs.declared.control.Control.{Control}
use Rattle.spool_store.specs.Stores.{recontrolled, refinished}
use Rattle.spool_store.specs.declared.held.Held.{Held}
use Rattle.queue_table.specs.Claims.{IsFull, IsLeast, IsQuiet, has_room, is_free, is_held, may_claim, or_lane}
use Rattle.queue_table.specs.Order.{IsBefore}
use Rattle.queue_table.specs.declared.waiting.Holder.{Holder}
use Rattle.queue_table.specs.declared.waiting.Lane.{Lane}
use Rattle.queue_table.specs.declared.waiting.Waiting.{Waiting}
use Rattle.queue_table.specs.inner.Least.{IsLeastAt, IsLeastUpTo}
use Rattle.queue_table.proofs.OrderLemmas.{goes_on, not_itself}

-- the last of so many places
last_place : (k n : ℕ) → k < n + 1 → (k < n) ⊎ (k ≡ n)
last_place k n lt = ⊎_elim (λ (e : k ≡ n). inr e) (λ (ne : k ≡ n → ⊥). inl (omega (arith, lt, ne))) (cases_eq k n)

-- an entry that may not be claimed
pub step_not : (w : Waiting) (moment : ℕ) (es : List Held) (n : ℕ) (h : Held) (o : Option ℕ) → IsLeastAt w moment es n o → ((d : Held) → h ≡ get_or es n d) → may_claim w moment h ≡ false → IsLeastAt w moment es (n + 1) o
step_not w moment es n h None so is nay = λ k d lt. ⊎_elim (λ (a : k < n). so k d a) (λ (e : k ≡ n). ap (λ (q : ℕ). may_claim w moment (get_or es q d)) e ∙ ap (may_claim w moment) (sym (is d)) ∙ nay) (last_place k n lt)
step_not w moment es n h (Some p) so is nay = record {
  within = omega (arith, so.within);
  may = so.may;
  least = λ k d lt may b. ⊎_elim
      (λ (a : k < n). so.least k d a may b)
      (λ (e : k ≡ n). true≢false (sym may ∙ ap (λ (q : ℕ). may_claim w moment (get_or es q d)) e ∙ ap (may_claim w moment) (sym (is d)) ∙ nay))
      (last_place k n lt);
}

not_before_itself : (h : Held) → IsBefore h.entry h.entry → ⊥
not_before_itself h b = not_itself h.entry.control.priority h.entry.id b

-- the first that may be claimed
pub step_first : (w : Waiting) (moment : ℕ) (es : List Held) (n : ℕ) (h : Held) → IsLeastAt w moment es n None → ((d : Held) → h ≡ get_or es n d) → may_claim w moment h ≡ true → IsLeastUpTo w moment es (n + 1) n
step_first w moment es n h so is yes_ = record {
  within = omega arith;
  may = λ d. ap (may_claim w moment) (sym (is d)) ∙ yes_;
  least = λ k d lt may b. ⊎_elim
      (λ (a : k < n). true≢false (sym may ∙ so k d a))
      (λ (e : k ≡ n). not_before_itself (get_or es n d) (subst (λ (q : ℕ). IsBefore (get_or es q d).entry (get_or es n d).entry) e b))
      (last_place k n lt);
}

-- one that goes before the least so far
pub step_lower : (w : Waiting) (moment : ℕ) (es : List Held) (n p : ℕ) (h g : Held) → IsLeastUpTo w moment es n p → ((d : Held) → h ≡ get_or es n d) → ((d : Held) → g ≡ get_or es p d) → may_claim w moment h ≡ true → IsBefore h.entry g.entry → IsLeastUpTo w moment es (n + 1) n
step_lower w moment es n p h g so is at yes_ lower = record {
  within = omega arith;
  may = λ d. ap (may_claim w moment) (sym (is d)) ∙ yes_;
  least = λ k d lt may b.
      let to_g : IsBefore (get_or es n d).entry (get_or es p d).entry = subst (λ (q : Held). IsBefore (get_or es n d).entry q.entry) (at d) (subst (λ (q : Held). IsBefore q.entry g.entry) (is d) lower) in
      ⊎_elim
      (λ (a : k < n). so.least k d a may (goes_on (get_or es k d).entry.control.priority (get_or es n d).entry.control.priority (get_or es p d).entry.control.priority (get_or es k d).entry.id (get_or es n d).entry.id (get_or es p d).entry.id b to_g))
      (λ (e : k ≡ n). not_before_itself (get_or es n d) (subst (λ (q : ℕ). IsBefore (get_or es q d).entry (get_or es n d).entry) e b))
      (last_place k n lt);
}

-- one that doesn't
pub step_kept : (w : Waiting) (moment : ℕ) (es : List Held) (n p : ℕ) (h g : Held) → IsLeastUpTo w moment es n p → ((d : Held) → h ≡ get_or es n d) → ((d : Held) → g ≡ get_or es p d) → (IsBefore h.entry g.entry → ⊥) → IsLeastUpTo w moment es (n + 1) p
step_kept w moment es n p h g so is at later = record {
  within = omega (arith, so.within);
  may = so.may;
  least = λ k d lt may b. ⊎_elim
      (λ (a : k < n). so.least k d a may b)
      (λ (e : k ≡ n). later (subst (λ (q : Held). IsBefore h.entry q.entry) (sym (at d)) (subst (λ (q : Held). IsBefore q.entry (get_or es p d).entry) (sym (is d)) (subst (λ (q : ℕ). IsBefore (get_or es q d).entry (get_or es p d).entry) e b))))
      (last_place k n lt);
}

-- the least of all
pub least_is : (w : Waiting) (moment : ℕ) (es : List Held) (p : ℕ) (h : Held) → IsLeastUpTo w moment es (length es) p → ((d : Held) → h ≡ get_or es p d) → IsLeast w moment es h.entry.id
least_is w moment es p h so is = record {
  held = h;
  among = (p, so.within, sym (is h));
  is = refl;
  may = ap (may_claim w moment) (is h) ∙ so.may h;
  least = λ k d lt may b. so.least k d lt may (subst (λ (q : Held). IsBefore (get_or es k d).entry q.entry) (is d) b);
}

-- what is held may not be claimed
not_free : (held room is_due : Bool) → held ≡ true → ((not held && room) && is_due) ≡ false
not_free true room is_due e = refl
not_free false room is_due e = absurd (true≢false (sym e))

-- an entry that is held gets another control
changed_stays : (w : Waiting) (moment id : ℕ) (c : Control) (h : Held) (b : Bool) → (b ≡ true → h.entry.id ≡ id) → is_held w.holders id ≡ true → may_claim w moment h ≡ false → may_claim w moment (if b then record h { entry = record h.entry { control = c } } else h) ≡ false
changed_stays w moment id c h true is held nay = not_free (is_held w.holders h.entry.id) _ _ (ap (is_held w.holders) (is refl) ∙ held)
changed_stays w moment id c h false is held nay = nay

-- so before the same moment no entry may be claimed
pub change_quiet : (w : Waiting) (entries : List Held) (id : ℕ) (c : Control) → is_held w.holders id ≡ true → IsQuiet w entries → IsQuiet w (map (recontrolled id c) entries)
change_quiet w entries id c held quiet = λ m lt. All-map (λ (h : Held). may_claim w m h ≡ false) (recontrolled id c) entries
    (λ k d within. changed_stays w m id c (get_or entries k d) (eqb (get_or entries k d).entry.id id) (λ e. eqb-true (get_or entries k d).entry.id id e) held (quiet m lt k d within))

finished_same : (w : Waiting) (moment : ℕ) (h : Held) (b : Bool) → may_claim w moment h ≡ false → may_claim w moment (if b then record h { finished = true } else h) ≡ false
finished_same w moment h true nay = nay
finished_same w moment h false nay = nay

-- the same of an entry that is finished
pub finish_quiet : (w : Waiting) (entries : List Held) (id : ℕ) → IsQuiet w entries → IsQuiet w (map (refinished id) entries)
finish_quiet w entries id quiet = λ m lt. All-map (λ (h : Held). may_claim w m h ≡ false) (refinished id) entries
    (λ k d within. finished_same w m (get_or entries k d) (eqb (get_or entries k d).entry.id id) (quiet m lt k d within))

-- a value that passes or another one, neither of which has room
neither : (holders : List Holder) (other lane : Lane) (rest : Option Lane) (b : Bool) → has_room holders lane ≡ false → has_room holders (or_lane other rest) ≡ false → has_room holders (or_lane other (cond b (Some lane) rest)) ≡ false
neither holders other lane rest true this later = this
neither holders other lane rest false this later = later

-- where no lane has room, that of a name has none
none_at : (holders : List Holder) (other : Lane) (pairs : List (List ℕ × Lane)) (test : List ℕ → Bool) → has_room holders other ≡ false → All (λ (p : List ℕ × Lane). has_room holders p.1 ≡ false) pairs → has_room holders (or_lane other (lookup test pairs)) ≡ false
none_at holders other [] test full all = full
none_at holders other (p ∷ ps) test full all =
    neither holders other p.1 (lookup test ps) (test p.0)
    (All-head (λ (q : List ℕ × Lane). has_room holders q.1 ≡ false) p ps all)
    (none_at holders other ps test full (All-tail (λ (q : List ℕ × Lane). has_room holders q.1 ≡ false) p ps all))

no_room : (held room : Bool) → room ≡ false → (not held && room) ≡ false
no_room true room e = refl
no_room false room e = e

-- so nothing is free
pub none_free : (w : Waiting) → IsFull w → (h : Held) → is_free w h ≡ false
none_free w full h = no_room (is_held w.holders h.entry.id) _ (none_at w.holders w.other w.lanes _ full.0 full.1)
