-- A turn in which runners step: nothing is done, or one holder takes a step.
use Rattle.std.proofs.Common.{◌≡◌, ℕ, List, [], ◌∷◌, ◌++◌, Bool, true, false, Option, Some, None, if◌then◌else◌, refl, sym, ◌∙◌, ap, subst, map}
use Rattle.std.specs.Prelude.{eqb}
use Rattle.std.specs.List.{find}
use Rattle.std.proofs.lemmas.Bool.{eqb-true}
use Rattle.spool_store.specs.Entries.{Stored}
use Rattle.queue_run.specs.declared.batch.Routed.{Routed}
use Rattle.queue_run.specs.Claims.{AreRouted}
use Rattle.queue_run.specs.Deeds.{Claims, Deed}
use Rattle.queue_run.specs.Holders.{Attempt}
use Rattle.queue_run.specs.Steps.{Luck, Stepped, stepped}
use Rattle.mail_core.specs.Effects.{Does}
use Rattle.mail_core.specs.Holding.{can_claim, stored_at, without_id}
use Rattle.mail_core.specs.Idling.{Carrying, Claiming, Idling, Quiet, Starving, Taken, carries, claims, claimed as claim_now, ends_list, first_running, idle, past, quiet, running_by, seat_for, seated, steps, stopped, stopped_by}
use Rattle.mail_core.specs.Judges.{JudgeSeen}
use Rattle.mail_core.specs.Resting.{IsCarryMeant, IsClaimMeant, IsLuckMeant, IsRestMeant, IsStopMeant, IsTakenMeant}
use Rattle.mail_core.specs.Sites.{Site}
use Rattle.mail_core.specs.States.{Seat, State, Step, cut}

-- one of those who hold entries, and the others in their order
pub record IsOut (seat : Seat) (others seats : List Seat) : Type 0 where
  pub front : List Seat
  pub back : List Seat
  pub whole : seats ≡ front ++ seat ∷ back
  pub rest : others ≡ front ++ back

-- a holder that takes a step: it claims its entry first, or was among the holders
pub data IsUp (F : Type 0) (site : Site) (m : State) : List Deed → Seat → List Seat → Type 0 where
  claimed : (s : Stored) (rows : List Routed) → stored_at s.id m.table ≡ Some s → can_claim site m s ≡ true → (F → AreRouted site.config site.maps s.id s.control rows)
      → IsUp F site m (Claims s.id rows ∷ []) (seat_for site s rows) m.seats
  took : (seat : Seat) (others : List Seat) → IsOut seat others m.seats → IsUp F site m [] seat others

pub data Idles (F : Type 0) (j : JudgeSeen) (site : Site) (m : State) (step : Step) : Type 0 where
  rests : step.state.table ≡ m.table → step.state.seats ≡ m.seats → step.effects ≡ [] → Idles F j site m step
  goes : (front : List Deed) (seat : Seat) (others : List Seat) (luck : Luck) (x : Stepped) → IsUp F site m front seat others → x ≡ stepped site.config site.maps m.latest m.table seat.holder luck
      → (F → IsLuckMeant j site m seat.holder luck) → step.state.table ≡ x.table → step.state.seats ≡ others ++ seated seat.lane x.holder → step.effects ≡ map Does (front ++ x.deeds) → Idles F j site m step

module _ (j : JudgeSeen) (site : Site) where
  cut_idles : (F : Type 0) (m : State) → Idles F j site m (cut m)
  cut_idles F m = rests refl refl refl

  steps_idles : (F : Type 0) (m n : State) (front : List Deed) (seat : Seat) (others : List Seat) (luck : Luck) → n.table ≡ m.table → n.latest ≡ m.latest → IsUp F site m front seat others → (F → IsLuckMeant j site m seat.holder luck) → Idles F j site m (steps site n others front seat luck)
  steps_idles F m n front seat others luck table latest up meant =
      let now = stepped site.config site.maps n.latest n.table seat.holder luck in
      let same : now ≡ stepped site.config site.maps m.latest m.table seat.holder luck = λ i. stepped site.config site.maps (latest i) (table i) seat.holder luck in
      goes front seat others luck now up same meant refl refl refl

  pub found_id : (s : Stored) (id : ℕ) (entries : List Stored) → find (λ (q : Stored). eqb q.id id) entries ≡ Some s → s.id ≡ id
  found_id s id [] is = cc is
  found_id s id (x ∷ xs) is = by (eqb x.id id) refl is (found_id s id xs)
    where
      by : (b : Bool) → eqb x.id id ≡ b → (if b then Some x else find (λ (q : Stored). eqb q.id id) xs) ≡ Some s → (find (λ (q : Stored). eqb q.id id) xs ≡ Some s → s.id ≡ id) → s.id ≡ id
      by true e is rest = let same : x ≡ s = cc is in ap (λ (q : Stored). q.id) (sym same) ∙ eqb-true x.id id e
      by false e is rest = rest is

  pub routed_as : (m : State) (id : ℕ) (rows : List Routed) (luck : Luck) (s : Stored) → stored_at id m.table ≡ Some s → s.id ≡ id → IsClaimMeant j site m id rows luck → AreRouted site.config site.maps s.id s.control rows
  routed_as m id rows luck s is same meant =
      let one : meant.stored ≡ s = cc (sym meant.is ∙ is) in
      subst (λ q. AreRouted site.config site.maps q s.control rows) (sym same) (subst (λ (q : Stored). AreRouted site.config site.maps id q.control rows) one meant.routed)

  luck_as : (m : State) (id : ℕ) (rows : List Routed) (luck : Luck) (s : Stored) → stored_at id m.table ≡ Some s → IsClaimMeant j site m id rows luck → IsLuckMeant j site m (seat_for site s rows).holder luck
  luck_as m id rows luck s is meant =
      let one : meant.stored ≡ s = cc (sym meant.is ∙ is) in
      subst (λ (q : Stored). IsLuckMeant j site m (seat_for site q rows).holder luck) one meant.step

  claims_idles : (m : State) (id : ℕ) (rows : List Routed) (luck : Luck) (o : Option Stored) → stored_at id m.table ≡ o → Idles (IsClaimMeant j site m id rows luck) j site m (claims site m rows luck o)
  claims_idles m id rows luck None is = cut_idles (IsClaimMeant j site m id rows luck) m
  claims_idles m id rows luck (Some s) is = by (can_claim site m s) refl
    where
      by : (b : Bool) → can_claim site m s ≡ b → Idles (IsClaimMeant j site m id rows luck) j site m (if b then claim_now site m s rows luck else cut m)
      by true can =
          let same : s.id ≡ id = found_id s id m.table.entries is in
          steps_idles (IsClaimMeant j site m id rows luck) m (record m { list = without_id s.id m.list }) (Claims s.id rows ∷ []) (seat_for site s rows) m.seats luck refl refl
          (claimed s rows (ap (λ q. stored_at q m.table) same ∙ is) can (routed_as m id rows luck s is same)) (luck_as m id rows luck s is)
      by false can = cut_idles (IsClaimMeant j site m id rows luck) m

  carries_idles : (m : State) (luck : Luck) (seats : List Seat) → m.seats ≡ seats → Idles (IsCarryMeant j site m luck seats) j site m (carries site m luck seats)
  carries_idles m luck [] is = cut_idles (Unit {0}) m
  carries_idles m luck (seat ∷ others) is =
      steps_idles (IsCarryMeant j site m luck (seat ∷ others)) m m [] seat others luck refl refl (took seat others (record { front = []; back = others; whole = is; rest = refl })) (λ f. f.1)

  quiet_idles : (F : Type 0) (m : State) (seats : List Seat) → Idles F j site m (quiet m seats)
  quiet_idles F m [] = rests refl refl refl
  quiet_idles F m (seat ∷ seats) = cut_idles F m

  idle_idles : (m : State) (choice : Idling) → Idles (IsRestMeant j site m choice) j site m (idle site m choice)
  idle_idles m (Claiming id rows luck) = claims_idles m id rows luck (stored_at id m.table) refl
  idle_idles m Starving = rests refl refl refl
  idle_idles m (Carrying luck) = carries_idles m luck m.seats refl
  idle_idles m Quiet = quiet_idles (IsRestMeant j site m Quiet) m m.seats

  -- that a list is over changes nothing else
  ends_idles : (F : Type 0) (m : State) (step : Step) → Idles F j site m step → Idles F j site m (ends_list site step)
  ends_idles F m step (rests table seats effects) = rests table seats effects
  ends_idles F m step (goes front seat others luck x up is meant table seats effects) = goes front seat others luck x up is meant table seats effects

  pub rest_idles : (m : State) (choice : Idling) → Idles (IsRestMeant j site m choice) j site m (ends_list site (idle site m choice))
  rest_idles m choice = ends_idles (IsRestMeant j site m choice) m (idle site m choice) (idle_idles m choice)

  -- ---- a Stop

  out_past : (seat : Seat) (seats : List Seat) (o : Option Taken) (t : Taken) → ((u : Taken) → o ≡ Some u → IsOut u.seat u.others seats) → past seat o ≡ Some t → IsOut t.seat t.others (seat ∷ seats)
  out_past seat seats None t rest is = cc is
  out_past seat seats (Some u) t rest is =
      let out = rest u refl in
      let same : record u { others = seat ∷ u.others } ≡ t = cc is in
      subst (λ (q : Taken). IsOut q.seat q.others (seat ∷ seats)) same (record { front = seat ∷ out.front; back = out.back; whole = ap (λ q. seat ∷ q) out.whole; rest = ap (λ q. seat ∷ q) out.rest })

  out_by : (seat : Seat) (seats : List Seat) (running : Option Attempt) (o : Option Taken) (t : Taken) → ((u : Taken) → o ≡ Some u → IsOut u.seat u.others seats) → running_by seat seats running o ≡ Some t → IsOut t.seat t.others (seat ∷ seats)
  out_by seat seats (Some r) o t rest is =
      let same : record { seat = seat; others = seats } ≡ t = cc is in
      subst (λ (q : Taken). IsOut q.seat q.others (seat ∷ seats)) same (record { front = []; back = seats; whole = refl; rest = refl })
  out_by seat seats None o t rest is = out_past seat seats o t rest is

  first_out : (seats : List Seat) (t : Taken) → first_running seats ≡ Some t → IsOut t.seat t.others seats
  first_out [] t is = cc is
  first_out (seat ∷ seats) t is = out_by seat seats seat.holder.running (first_running seats) t (λ u. first_out seats u) is

  taken_idles : (m : State) (choice : Option Luck) (o : Option Taken) → first_running m.seats ≡ o → Idles (IsStopMeant j site m choice) j site m (stopped_by site (record m { stopping = true }) choice o)
  taken_idles m None None is = rests refl refl refl
  taken_idles m (Some luck) (Some t) is =
      steps_idles (IsStopMeant j site m (Some luck)) m (record m { stopping = true }) [] t.seat t.others luck refl refl (took t.seat t.others (first_out m.seats t is)) (λ f. subst (IsTakenMeant j site m luck) is f)
  taken_idles m None (Some t) is = rests refl refl refl
  taken_idles m (Some luck) None is = rests refl refl refl

  pub stop_idles : (m : State) (choice : Option Luck) → Idles (IsStopMeant j site (record m { stopping = true }) choice) j site m (stopped site (record m { stopping = true }) choice)
  stop_idles m choice = taken_idles m choice (first_running m.seats) refl
