-- No entry is held twice, and each lane has no more holders than its runners.
use Rattle.std.proofs.Common.{◌≡◌, ℕ, ◌+◌, ◌<◌, ◌≤◌, List, [], ◌∷◌, ◌++◌, Bool, true, false, cond, Option, Some, None, if◌then◌else◌, refl, sym, ◌∙◌, ap, subst, arith, map}
use Rattle.std.specs.Prelude.{bytes_eq, codes, count_by, eqb, not, unwrap_or, ◌||◌}
use Rattle.std.specs.Option.{option_map}
use Rattle.std.specs.Cmp.Lexicographic.{bytes_decides}
use Rattle.std.proofs.lemmas.Bool.{and_parts, eqb-true, ltb-true}
use Rattle.std.proofs.lemmas.List.Sums.{sum_by-append}
use Rattle.mail_base.specs.Catalogs.{value_at}
use Rattle.mail_base.specs.Configs.{main_group}
use Rattle.mail_base.specs.declared.config.Config.{Config}
use Rattle.mail_base.specs.declared.mailer.Group.{Group}
use Rattle.spool_store.specs.Entries.{Stored, Table}
use Rattle.spool_store.specs.Stores.{entered}
use Rattle.queue_table.specs.Claims.{has_room, is_free, is_held, lane_of, or_lane}
use Rattle.queue_table.specs.Order.{is_due}
use Rattle.queue_table.specs.declared.waiting.Holder.{Holder as Held}
use Rattle.queue_table.specs.declared.waiting.Lane.{Lane}
use Rattle.queue_run.specs.declared.batch.Routed.{Routed}
use Rattle.queue_run.specs.Batches.{is_among}
use Rattle.queue_run.specs.Deeds.{Deed}
use Rattle.queue_run.specs.Holders.{Holder}
use Rattle.queue_run.specs.Kinds.{Kind}
use Rattle.queue_run.specs.Steps.{Luck, Stepped, stepped}
use Rattle.mail_core.specs.Apart.{AreApart, holds, is_in, lane_in}
use Rattle.mail_core.specs.Holding.{can_claim, can_claim_by, held_as, lane_for, main_lane, named_lane, waiting_of}
use Rattle.mail_core.specs.Idling.{seat_for, seated}
use Rattle.mail_core.specs.Judges.{JudgeSeen}
use Rattle.mail_core.specs.Plans.{Once, Plan, Serve}
use Rattle.mail_core.specs.Sites.{Site}
use Rattle.mail_core.specs.States.{Seat, State, Step}
use Rattle.mail_core.proofs.IdleLemmas.{Idles, IsOut, IsUp, claimed, goes, rests, took}
use Rattle.mail_core.proofs.KindLemmas.{Ways, begun, buried, delivered, exited, finished, given_back, halted, let_go, lost, missed, outgrown, settled, waited, warned, ways}

-- ---- a step keeps its holder's id, or lets the entry go

abbrev pub IsSameId : ℕ → Option Holder → Type 0
IsSameId id None = Unit {0}
IsSameId id (Some h) = h.id ≡ id

way_id : (config : Config) (moment : ℕ) (table : Table) (h : Holder) (kind : Kind) (luck : Luck) (x : Stepped) → Ways config moment table h kind luck x → IsSameId h.id x.holder
way_id config moment table h kind luck x (halted _ _ halt) = refl
way_id config moment table h kind luck x (waited r) = refl
way_id config moment table h kind luck x (exited r status failed) = refl
way_id config moment table h kind luck x (lost r failed) = refl
way_id config moment table h kind luck x (settled batch result failed) = refl
way_id config moment table h kind luck x (outgrown _ batch letter failed try) = refl
way_id config moment table h kind luck x (begun batch mailer letter start child count) = refl
way_id config moment table h kind luck x (missed batch mailer letter start launch failed none) = refl
way_id config moment table h kind luck x (delivered batch mailer peers letter talk failed) = refl
way_id config moment table h kind luck x (given_back _ bounce failed sent) = refl
way_id config moment table h kind luck x (buried _ failed) = refl
way_id config moment table h kind luck x (warned _ warning failed sent) = refl
way_id config moment table h kind luck x (finished _ failed) = tt
way_id config moment table h kind luck x (let_go _) = tt

pub stepped_id : (site : Site) (moment : ℕ) (table : Table) (h : Holder) (luck : Luck) → IsSameId h.id (stepped site.config site.maps moment table h luck).holder
stepped_id site moment table h luck = way_id site.config moment table h _ luck (stepped site.config site.maps moment table h luck) (ways site.config moment table h _ luck)

-- ---- counts

counts_more : {X : Type 0} (p : X → Bool) (xs ys : List X) → count_by p (xs ++ ys) ≡ count_by p xs + count_by p ys
counts_more p xs ys = sum_by-append (λ x. cond (p x) 1 0) xs ys

pub counts_first : {X : Type 0} (p : X → Bool) (x : X) (xs : List X) → count_by p (x ∷ xs) ≡ cond (p x) 1 0 + count_by p xs
counts_first p x xs = let split = counts_more p (x ∷ []) xs in omega (arith, split)

counts_yes : {X : Type 0} (p : X → Bool) (x : X) (xs : List X) → p x ≡ true → count_by p (x ∷ xs) ≡ 1 + count_by p xs
counts_yes p x xs e = counts_first p x xs ∙ ap (λ (q : Bool). cond q 1 0 + count_by p xs) e

counts_no : {X : Type 0} (p : X → Bool) (x : X) (xs : List X) → p x ≡ false → count_by p (x ∷ xs) ≡ count_by p xs
counts_no p x xs e = let c = counts_first p x xs ∙ ap (λ (q : Bool). cond q 1 0 + count_by p xs) e in omega (arith, c)

-- taking one out changes no count
out_count : (p : Seat → Bool) (seat : Seat) (others seats : List Seat) → IsOut seat others seats → count_by p (seat ∷ others) ≡ count_by p seats
out_count p seat others seats out =
    let a = counts_first p seat others in
    let b = counts_more p out.front out.back in
    let c = counts_more p out.front (seat ∷ out.back) in
    let d = counts_first p seat out.back in
    let e = ap (count_by p) out.rest in
    let f = ap (count_by p) out.whole in
    omega (arith, a, b, c, d, e, f)

count_seated : (p : Seat → Bool) (seat : Seat) (o : Option Holder) → ((h : Holder) → h.id ≡ seat.holder.id → p (record { lane = seat.lane; holder = h }) ≡ p seat) → IsSameId seat.holder.id o → count_by p (seated seat.lane o) ≤ count_by p (seat ∷ [])
count_seated p seat None same id = omega arith
count_seated p seat (Some h) same id = rw (same h id) (omega (arith))

count_moved : (p : Seat → Bool) (seat : Seat) (o : Option Holder) (others : List Seat) → ((h : Holder) → h.id ≡ seat.holder.id → p (record { lane = seat.lane; holder = h }) ≡ p seat) → IsSameId seat.holder.id o
    → count_by p (others ++ seated seat.lane o) ≤ count_by p (seat ∷ others)
count_moved p seat o others same id =
    let one = count_seated p seat o same id in
    let all = counts_more p others (seated seat.lane o) in
    let front = counts_more p (seat ∷ []) others in
    omega (arith, one, all, front)

moved_few : (site : Site) (seat : Seat) (o : Option Holder) (others : List Seat) → IsSameId seat.holder.id o → AreApart site (seat ∷ others) → AreApart site (others ++ seated seat.lane o)
moved_few site seat o others of few = record {
  ids = λ id. let more = count_moved (holds id) seat o others (λ h same. ap (λ q. eqb q id) same) of in let bound = few.ids id in omega (arith, more, bound);
  lanes = λ group. let more = count_moved (is_in (lane_in site group)) seat o others (λ h same. refl) of in let bound = few.lanes group in omega (arith, more, bound);
}

-- ---- lanes

lane_found : (site : Site) (name : List ℕ) (groups : List (List ℕ × Group)) (o : Option Group) → value_at name groups ≡ o → value_at name (map (named_lane site) groups) ≡ option_map (lane_for site name) o
lane_found site name [] o is = subst (λ q. None ≡ option_map (lane_for site name) q) is refl
lane_found site name (pair ∷ groups) o is = by (bytes_eq name pair.0) refl is (lane_found site name groups o)
  where
    by : (b : Bool) → bytes_eq name pair.0 ≡ b → (if b then Some pair.1 else value_at name groups) ≡ o → (value_at name groups ≡ o → value_at name (map (named_lane site) groups) ≡ option_map (lane_for site name) o) → (if b then Some (lane_for site pair.0 pair.1) else value_at name (map (named_lane site) groups)) ≡ option_map (lane_for site name) o
    by true e is rest = subst (λ q. Some (lane_for site pair.0 pair.1) ≡ option_map (lane_for site name) q) is (ap (λ q. Some (lane_for site q pair.1)) (sym ((bytes_decides name pair.0).0 e)))
    by false e is rest = rest is

-- the lane of a group is that of the group, or of mqueue
lane_is : (site : Site) (group : List ℕ) (o : Option Group) → value_at group site.config.groups ≡ o → lane_in site group ≡ or_lane (main_lane site) (option_map (lane_for site group) o)
lane_is site group o is = ap (or_lane (main_lane site)) (lane_found site group site.config.groups o is)

-- a lane's name names it
named_by : (site : Site) (group : List ℕ) (o : Option Group) → value_at group site.config.groups ≡ o → lane_in site (lane_in site group).group ≡ lane_in site group
named_by site group (Some g) is =
    let e = lane_is site group (Some g) is in
    ap (λ (q : Lane). lane_in site q.group) e
named_by site group None is =
    let e = lane_is site group None is in
    ap (λ (q : Lane). lane_in site q.group) e ∙ main (value_at (codes "mqueue") site.config.groups) refl ∙ sym e
  where
    main : (o : Option Group) → value_at (codes "mqueue") site.config.groups ≡ o → lane_in site (codes "mqueue") ≡ main_lane site
    main None at = lane_is site (codes "mqueue") None at
    main (Some g) at = lane_is site (codes "mqueue") (Some g) at ∙ ap (λ (q : Option Group). lane_for site (codes "mqueue") (unwrap_or q main_group)) (sym at)

same_lane : (site : Site) (one other : List ℕ) → (lane_in site one).group ≡ (lane_in site other).group → lane_in site one ≡ lane_in site other
same_lane site one other is =
    sym (named_by site one (value_at one site.config.groups) refl) ∙ ap (lane_in site) is ∙ named_by site other (value_at other site.config.groups) refl

-- ---- a claim

count_new : (p : Seat → Bool) (seat : Seat) (seats : List Seat) (b : Bool) (n : ℕ) → p seat ≡ b → count_by p seats ≤ n → (b ≡ true → count_by p seats + 1 ≤ n) → count_by p (seat ∷ seats) ≤ n
count_new p seat seats true n e le room = let r = room refl in let c = counts_yes p seat seats e in omega (arith, r, c)
count_new p seat seats false n e le room = let c = counts_no p seat seats e in omega (arith, le, c)

count_held : (p : Held → Bool) (seats : List Seat) → count_by p (map held_as seats) ≡ count_by (λ (s : Seat). p (held_as s)) seats
count_held p [] = refl
count_held p (s ∷ seats) =
    counts_first p (held_as s) (map held_as seats) ∙ ap (λ q. cond (p (held_as s)) 1 0 + q) (count_held p seats) ∙ sym (counts_first (λ (q : Seat). p (held_as q)) s seats)

none_held : (id : ℕ) (seats : List Seat) → is_held (map held_as seats) id ≡ false → count_by (holds id) seats ≡ 0
none_held id [] h = refl
none_held id (s ∷ seats) h = by (holds id s) refl h (none_held id seats)
  where
    by : (b : Bool) → holds id s ≡ b → (b || is_held (map held_as seats) id) ≡ false → (is_held (map held_as seats) id ≡ false → count_by (holds id) seats ≡ 0) → count_by (holds id) (s ∷ seats) ≡ 0
    by true e h rest = cc h
    by false e h rest = counts_no (holds id) s seats e ∙ rest h

not_true : (b : Bool) → not b ≡ true → b ≡ false
not_true true h = sym h
not_true false h = refl

free_of : (site : Site) (m : State) (plan : Plan) (s : Stored) → can_claim_by site m plan s ≡ true → is_free (waiting_of site m.seats) (entered s) ≡ true
free_of site m (Serve wait) s can = (and_parts (is_free (waiting_of site m.seats) (entered s)) (is_due s.control m.latest (lane_of (waiting_of site m.seats) s.control.group).wait) can).0
free_of site m (Once group) s can = (and_parts (is_free (waiting_of site m.seats) (entered s)) (is_among m.list s.id) can).0

claimed_few : (site : Site) (m : State) (s : Stored) (rows : List Routed) → can_claim site m s ≡ true → AreApart site m.seats → AreApart site (seat_for site s rows ∷ m.seats)
claimed_few site m s rows can few =
    let lane = lane_in site s.control.group in
    let both = and_parts (not (is_held (map held_as m.seats) s.id)) (has_room (map held_as m.seats) lane) (free_of site m site.plan s can) in
    let none = none_held s.id m.seats (not_true (is_held (map held_as m.seats) s.id) both.0) in
    let count = count_held (λ (h : Held). bytes_eq h.lane lane.group) m.seats in
    let room : count_by (is_in lane) m.seats < lane.runners = let r = ltb-true (count_by (λ (h : Held). bytes_eq h.lane lane.group) (map held_as m.seats)) lane.runners both.1 in omega (arith, r, count) in
    record {
      ids = λ id. count_new (holds id) (seat_for site s rows) m.seats (eqb s.id id) 1 refl (few.ids id)
          (λ same. let is = eqb-true s.id id same in subst (λ q. count_by (holds q) m.seats + 1 ≤ 1) is (omega (arith, none)));
      lanes = λ group. count_new (is_in (lane_in site group)) (seat_for site s rows) m.seats (bytes_eq lane.group (lane_in site group).group) (lane_in site group).runners refl (few.lanes group)
          (λ same. subst (λ (q : Lane). count_by (is_in q) m.seats + 1 ≤ q.runners) (same_lane site s.control.group group ((bytes_decides lane.group (lane_in site group).group).0 same)) (omega (arith, room)));
    }

-- ---- turns

pub up_few : (F : Type 0) (site : Site) (m : State) (front : List Deed) (seat : Seat) (others : List Seat) → IsUp F site m front seat others → AreApart site m.seats → AreApart site (seat ∷ others)
up_few F site m front seat others (claimed s rows is can routed) few = claimed_few site m s rows can few
up_few F site m front seat others (took _ _ out) few = record {
  ids = λ id. subst (λ q. q ≤ 1) (sym (out_count (holds id) seat others m.seats out)) (few.ids id);
  lanes = λ group. subst (λ q. q ≤ (lane_in site group).runners) (sym (out_count (is_in (lane_in site group)) seat others m.seats out)) (few.lanes group);
}

pub idles_few : (F : Type 0) (j : JudgeSeen) (site : Site) (m : State) (step : Step) → Idles F j site m step → AreApart site m.seats → AreApart site step.state.seats
idles_few F j site m step (rests table seats effects) few = subst (AreApart site) (sym seats) few
idles_few F j site m step (goes front seat others luck x up is meant table seats effects) few =
    subst (AreApart site) (sym seats) (moved_few site seat x.holder others (subst (λ (q : Stepped). IsSameId seat.holder.id q.holder) (sym is) (stepped_id site m.latest m.table seat.holder luck)) (up_few F site m front seat others up few))
