-- What a waiting list finds is what the machine claims.
use Rattle.std.proofs.Common.{◌≡◌, ℕ, List, [], ◌∷◌, true, false, Option, Some, None, map, sym, ◌∙◌, ap, subst, ⊎_elim, arith}
use Rattle.std.specs.Prelude.{All, Contains, nat_lt, not, ◌&&◌}
use Rattle.std.specs.List.{AllZip}
use Rattle.std.proofs.lemmas.List.Elements.{All-cons, All-head, All-nil, All-tail}
use Rattle.mail_base.specs.Catalogs.{value_at}
use Rattle.mail_base.specs.declared.control.Entry.{Entry}
use Rattle.spool_store.specs.Entries.{Stored}
use Rattle.spool_store.specs.Stores.{IsHeld, entered}
use Rattle.spool_store.specs.declared.held.Held.{Held}
use Rattle.spool_store.proofs.Standing.{contains_cases, contains_head, contains_tail}
use Rattle.queue_table.specs.Claims.{IsLeastDue, has_room, is_free, is_held, lane_of, may_claim, or_lane}
use Rattle.queue_table.specs.Order.{IsBefore, is_due}
use Rattle.queue_table.specs.declared.waiting.Lane.{Lane}
use Rattle.queue_table.specs.declared.waiting.Waiting.{Waiting}
use Rattle.mail_core.specs.Counting.{IsCounted}
use Rattle.mail_core.specs.Holding.{waiting_of}
use Rattle.mail_core.specs.Sites.{Site}
use Rattle.mail_core.specs.States.{Seat}

-- ---- the same entry

same_entry : (h : Held) (s : Stored) → IsHeld h s → h.entry ≡ (entered s).entry
same_entry h s is = λ i. record { id = is.id i; dir = is.dir i; control = is.control i }

module _ (site : Site) (w : Waiting) (seats : List Seat) (c : IsCounted site w seats) where
  abbrev V : Waiting
  V = waiting_of site seats

  same_lane : (group : List ℕ) → lane_of w group ≡ lane_of V group
  same_lane group = ap (λ q. or_lane q (value_at group w.lanes)) c.other ∙ ap (λ q. or_lane V.other (value_at group q)) c.lanes

  same_room : (lane : Lane) → has_room w.holders lane ≡ has_room V.holders lane
  same_room lane = ap (λ n. nat_lt n lane.runners) (c.count lane.group)

  free_same : (h : Held) → is_free w h ≡ is_free V h
  free_same h =
      ap (λ b. not b && has_room w.holders (lane_of w h.entry.control.group)) (c.held h.entry.id)
      ∙ ap (λ l. not (is_held V.holders h.entry.id) && has_room w.holders l) (same_lane h.entry.control.group)
      ∙ ap (λ b. not (is_held V.holders h.entry.id) && b) (same_room (lane_of V h.entry.control.group))

  may_same : (moment : ℕ) (h : Held) → may_claim w moment h ≡ may_claim V moment h
  may_same moment h =
      ap (λ b. b && is_due h.entry.control moment (lane_of w h.entry.control.group).wait) (free_same h)
      ∙ ap (λ (l : Lane). is_free V h && is_due h.entry.control moment l.wait) (same_lane h.entry.control.group)

  -- by what the store holds of an entry, and by the table
  may_entered : (moment : ℕ) (h : Held) (s : Stored) → IsHeld h s → may_claim V moment h ≡ may_claim V moment (entered s)
  may_entered moment h s is = ap (λ (e : Entry). may_claim V moment (record { entry = e; finished = false })) (same_entry h s is)

  none_left : (moment : ℕ) (held : List Held) (entries : List Stored) → AllZip IsHeld held entries → All (λ h. may_claim w moment h ≡ false) held → All (λ h. may_claim V moment h ≡ false) (map entered entries)
  none_left moment [] [] each none = All-nil (λ (h : Held). may_claim V moment h ≡ false)
  none_left moment [] (s ∷ entries) each none = absurd each
  none_left moment (h ∷ held) [] each none = absurd each
  none_left moment (h ∷ held) (s ∷ entries) each none =
      All-cons (λ (q : Held). may_claim V moment q ≡ false) (entered s) (map entered entries)
      (sym (may_entered moment h s each.0) ∙ sym (may_same moment h) ∙ All-head (λ (q : Held). may_claim w moment q ≡ false) h held none)
      (none_left moment held entries each.1 (All-tail (λ (q : Held). may_claim w moment q ≡ false) h held none))

  -- an entry of the store is one of the table
  record IsAs (entries : List Stored) (h : Held) : Type 0 where
    stored : Stored
    among : Contains (map entered entries) (entered stored)
    is : IsHeld h stored

  found_as : (held : List Held) (entries : List Stored) (h : Held) → AllZip IsHeld held entries → Contains held h → IsAs entries h
  found_as [] [] h each among = absurd (let lt = among.1 in omega (arith, lt))
  found_as [] (s ∷ entries) h each among = absurd each
  found_as (x ∷ held) [] h each among = absurd each
  found_as (x ∷ held) (s ∷ entries) h each among = ⊎_elim
      (λ (same : x ≡ h). record { stored = s; among = contains_head (entered s) (map entered entries); is = subst (λ q. IsHeld q s) same each.0 })
      (λ (later : Contains held h). let f = found_as held entries h each.1 later in record { stored = f.stored; among = contains_tail (entered s) (entered f.stored) (map entered entries) f.among; is = f.is })
      (contains_cases x h held among)

  least_left : (moment : ℕ) (least : Entry) (held : List Held) (entries : List Stored) → AllZip IsHeld held entries → All (λ h. may_claim w moment h ≡ true → IsBefore h.entry least → ⊥) held
      → All (λ h. may_claim V moment h ≡ true → IsBefore h.entry least → ⊥) (map entered entries)
  least_left moment least [] [] each all = All-nil (λ (h : Held). may_claim V moment h ≡ true → IsBefore h.entry least → ⊥)
  least_left moment least [] (s ∷ entries) each all = absurd each
  least_left moment least (h ∷ held) [] each all = absurd each
  least_left moment least (h ∷ held) (s ∷ entries) each all =
      let first = All-head (λ (q : Held). may_claim w moment q ≡ true → IsBefore q.entry least → ⊥) h held all in
      All-cons (λ (q : Held). may_claim V moment q ≡ true → IsBefore q.entry least → ⊥) (entered s) (map entered entries)
      (λ may before. first (may_same moment h ∙ may_entered moment h s each.0 ∙ may) (subst (λ (e : Entry). IsBefore e least) (sym (same_entry h s each.0)) before))
      (least_left moment least held entries each.1 (All-tail (λ (q : Held). may_claim w moment q ≡ true → IsBefore q.entry least → ⊥) h held all))

  -- what is found over a store is what is claimed over the table that it holds
  pub least_same : (moment : ℕ) (held : List Held) (entries : List Stored) (o : Option ℕ) → AllZip IsHeld held entries → IsLeastDue w moment held o → IsLeastDue V moment (map entered entries) o
  least_same moment held entries None each none = none_left moment held entries each none
  least_same moment held entries (Some id) each least =
      let f = found_as held entries least.held each least.among in
      let same = same_entry least.held f.stored f.is in record {
        held = entered f.stored;
        among = f.among;
        is = sym f.is.id ∙ least.is;
        may = sym (may_entered moment least.held f.stored f.is) ∙ sym (may_same moment least.held) ∙ least.may;
        least = subst (λ (e : Entry). All (λ (h : Held). may_claim V moment h ≡ true → IsBefore h.entry e → ⊥) (map entered entries)) same (least_left moment least.held.entry held entries each least.least);
      }
