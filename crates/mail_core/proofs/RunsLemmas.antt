-- Whole turns and runs: the table stays sound, each effect is good where it stands, and what is
-- known of those who hold entries is kept.
use Rattle.std.proofs.Common.{◌≡◌, ◌≢◌, ℕ, ◌+◌, List, [], ◌∷◌, ◌++◌, Bool, true, false, cond, Option, Some, None, if◌then◌else◌, map, refl, sym, ◌∙◌, ap, subst, append_assoc, arith}
use Rattle.std.specs.Prelude.{All, Contains, IfSome, count_by, eqb}
use Rattle.std.specs.List.{find}
use Rattle.std.proofs.lemmas.Bool.{eq-eqb, false≢true}
use Rattle.std.proofs.lemmas.List.{append-nil}
use Rattle.std.proofs.lemmas.List.Elements.{All-append, All-cons, All-contains, All-nil, Contains-append_left, Contains-append_right, Contains-get_or}
use Rattle.spool_store.specs.Entries.{Stored, Table}
use Rattle.spool_store.proofs.Standing.{contains_head, contains_tail}
use Rattle.link_edge.specs.declared.event.Event.{Event}
use Rattle.link_edge.specs.declared.event.Event.TheVariants.{Opens, Brings, Closes, Rests, Stops}
use Rattle.mail_base.specs.declared.control.Control.{Control}
use Rattle.queue_table.specs.Commands.{control_at}
use Rattle.queue_table.specs.Soundness.{IsSound}
use Rattle.queue_run.specs.declared.batch.Routed.{Routed}
use Rattle.queue_run.specs.Batches.{batches_of}
use Rattle.queue_run.specs.Claims.{AreRouted, claim_macros}
use Rattle.queue_run.specs.Deeds.{Asks, Claims, Deed, Files, Frees, Polls, Starts, Talks}
use Rattle.queue_run.specs.Holders.{Holder}
use Rattle.queue_run.specs.Kinds.{kind_of}
use Rattle.queue_run.specs.Steps.{Stepped, stepped}
use Rattle.queue_run.proofs.ClaimLemmas.{claimed_apart, claimed_untried}
use Rattle.mail_core.specs.Apart.{AreApart, holds}
use Rattle.mail_core.specs.Attempts.{IsBatchOf}
use Rattle.mail_core.specs.Effects.{Does, Effect, HangsUp, Sends, Takes, Ticks, table_after}
use Rattle.mail_core.specs.Guests.{guest_of}
use Rattle.mail_core.specs.Idling.{ends_list, idle, seat_for, seated, stopped}
use Rattle.mail_core.specs.Judges.{JudgeSeen, drawer_of}
use Rattle.mail_core.specs.Machine.{Choices, Turn, at_moment, came, handled, opened, pieced, run, turned}
use Rattle.mail_core.specs.Meant.{IsEventMeant, IsRunMeant}
use Rattle.mail_core.specs.Plans.{OfFloor, OfRun, Origin, reading_of}
use Rattle.mail_core.specs.Resting.{IsLuckMeant}
use Rattle.mail_core.specs.Sites.{Site}
use Rattle.mail_core.specs.States.{Seat, State, Step, cut, followed, still}
use Rattle.mail_core.proofs.ApartLemmas.{counts_first, idles_few, up_few}
use Rattle.mail_core.proofs.AscendLemmas.{claimed_ascend}
use Rattle.mail_core.proofs.EntryLemmas.{AreSpared, found_after, sound_after, taking_spares}
use Rattle.mail_core.proofs.FollowLemmas.{table_more}
use Rattle.mail_core.proofs.HeldLemmas.{AreGood, IsHeldBy, good_join, held_more, idle_held}
use Rattle.mail_core.proofs.IdleLemmas.{Idles, IsOut, IsUp, claimed, goes, rest_idles, rests, stop_idles, took}
use Rattle.mail_core.proofs.KindLemmas.{kind_facts, ways}
use Rattle.mail_core.proofs.LeadLemmas.{AreFit, AreTaking, Leads, fit_join, opened_steps, pieced_steps}
use Rattle.mail_core.proofs.TableLemmas.{stepped_table}
use Rattle.mail_core.proofs.TurnedLemmas.{none_apart, opened_same, pieced_same, turned_has}
use Rattle.mail_core.proofs.WorkLemmas.{worked}
use Rattle.mail_core.specs.Keeping.{AreKeeping}
use Rattle.queue_table.specs.Commands.Command.{Accept, Record, Return, Warn}

-- ---- states

abbrev pub AllHeld : Site → Table → List Effect → List Seat → Type 0
AllHeld site first done seats = All (λ (s : Seat). IsHeldBy site first done s.holder) seats

-- a state that a run came to from a first table
pub record IsCome (site : Site) (first : Table) (done : List Effect) (table : Table) (seats : List Seat) : Type 0 where
  pub table_is : table ≡ table_after first done
  pub sound : IsSound table
  pub held : AllHeld site first done seats
  pub apart : AreApart site seats

-- effects that lead from one such state to another
pub record Works (site : Site) (first : Table) (done : List Effect) (step : Step) : Type 0 where
  pub fit : AreFit (table_after first done) step.effects
  pub good : AreGood site first done step.effects
  pub come : IsCome site first (done ++ step.effects) step.state.table step.state.seats

module _ (site : Site) (first : Table) where
  abbrev Held : List Effect → Seat → Type 0
  Held done s = IsHeldBy site first done s.holder

  -- ---- effects of sessions

  sound_here : (done : List Effect) (table : Table) (seats : List Seat) → IsCome site first done table seats → IsSound (table_after first done)
  sound_here done table seats come = subst IsSound come.table_is come.sound

  -- a holder whose entry is spared
  held_past : (done more : List Effect) (h : Holder) → IsSound (table_after first done) → AreFit (table_after first done) more → AreSpared h.id more → AreKeeping h.id more → IsHeldBy site first done h → IsHeldBy site first (done ++ more) h
  held_past done more h sound fit spared keeps held =
      held_more site first done more h held keeps
      (ap (λ (t : Table). control_at h.id t.entries) (table_more first done more) ∙ found_after h.id held.control (table_after first done) more sound fit spared held.there)

  all_past : (done more : List Effect) (seats : List Seat) → IsSound (table_after first done) → AreFit (table_after first done) more → ((s : Seat) → Contains seats s → AreSpared s.holder.id more) → ((s : Seat) → Contains seats s → AreKeeping s.holder.id more) → AllHeld site first done seats → AllHeld site first (done ++ more) seats
  all_past done more seats sound fit spared keeps all =
      λ k d lt. let among = Contains-get_or seats k d lt in held_past done more _ sound fit (spared _ among) (keeps _ among) (All-contains (Held done) seats _ all among)

  -- messages that are taken in are good
  taking_good : (done effects : List Effect) → AreTaking effects → AreGood site first done effects
  taking_good done [] taking = tt
  taking_good done (Takes event ∷ effects) taking = (tt, taking_good (done ++ Takes event ∷ []) effects taking.1)
  taking_good done (Ticks reading ∷ effects) taking = (tt, taking_good (done ++ Ticks reading ∷ []) effects taking.1)
  taking_good done (Sends session text whole ∷ effects) taking = (tt, taking_good (done ++ Sends session text whole ∷ []) effects taking.1)
  taking_good done (HangsUp session ∷ effects) taking = (tt, taking_good (done ++ HangsUp session ∷ []) effects taking.1)
  taking_good done (Does (Asks (Accept terms message cuts moment)) ∷ effects) taking = (tt, taking_good (done ++ Does (Asks (Accept terms message cuts moment)) ∷ []) effects taking.1)
  taking_good done (Does (Asks (Record terms id places results moment)) ∷ effects) taking = absurd taking.0
  taking_good done (Does (Asks (Return terms id backs moment)) ∷ effects) taking = absurd taking.0
  taking_good done (Does (Asks (Warn terms id backs moment)) ∷ effects) taking = absurd taking.0
  taking_good done (Does (Claims id rows) ∷ effects) taking = absurd taking.0
  taking_good done (Does (Frees id) ∷ effects) taking = absurd taking.0
  taking_good done (Does (Files id) ∷ effects) taking = absurd taking.0
  taking_good done (Does (Starts id places start launch) ∷ effects) taking = absurd taking.0
  taking_good done (Does (Polls id child poll) ∷ effects) taking = absurd taking.0
  taking_good done (Does (Talks id places talk) ∷ effects) taking = absurd taking.0

  taking_keeps : (id : ℕ) (effects : List Effect) → AreTaking effects → AreKeeping id effects
  taking_keeps id [] taking = tt
  taking_keeps id (Takes event ∷ effects) taking = (tt, taking_keeps id effects taking.1)
  taking_keeps id (Ticks reading ∷ effects) taking = (tt, taking_keeps id effects taking.1)
  taking_keeps id (Sends session text whole ∷ effects) taking = (tt, taking_keeps id effects taking.1)
  taking_keeps id (HangsUp session ∷ effects) taking = (tt, taking_keeps id effects taking.1)
  taking_keeps id (Does (Asks command) ∷ effects) taking = (tt, taking_keeps id effects taking.1)
  taking_keeps id (Does (Claims other rows) ∷ effects) taking = absurd taking.0
  taking_keeps id (Does (Frees other) ∷ effects) taking = absurd taking.0
  taking_keeps id (Does (Files other) ∷ effects) taking = absurd taking.0
  taking_keeps id (Does (Starts other places start launch) ∷ effects) taking = absurd taking.0
  taking_keeps id (Does (Polls other child poll) ∷ effects) taking = absurd taking.0
  taking_keeps id (Does (Talks other places talk) ∷ effects) taking = absurd taking.0

  -- what sessions do
  leads_works : (F : Type 0) (done : List Effect) (m : State) (step : Step) → F → Leads F m.table step.state.table step.effects → step.state.seats ≡ m.seats → IsCome site first done m.table m.seats → Works site first done step
  leads_works F done m step f leads same come =
      let fit = subst (λ t. AreFit t step.effects) come.table_is (leads.fits f) in
      let sound = sound_here done m.table m.seats come in
      let table : step.state.table ≡ table_after first (done ++ step.effects) = leads.table ∙ ap (λ t. table_after t step.effects) come.table_is ∙ sym (table_more first done step.effects) in
      record {
        fit = fit;
        good = taking_good done step.effects leads.taking;
        come = record {
          table_is = table;
          sound = subst IsSound (sym (table ∙ table_more first done step.effects)) (sound_after (table_after first done) step.effects sound fit);
          held = subst (AllHeld site first (done ++ step.effects)) (sym same) (all_past done step.effects m.seats sound fit (λ s among. taking_spares s.holder.id step.effects leads.taking) (λ s among. taking_keeps s.holder.id step.effects leads.taking) come.held);
          apart = subst (AreApart site) (sym same) come.apart;
        };
      }

  -- ---- a claim

  pub found_stored : (id : ℕ) (entries : List Stored) (s : Stored) → find (λ (q : Stored). eqb q.id id) entries ≡ Some s → control_at id entries ≡ Some s.control
  found_stored id [] s is = cc is
  found_stored id (x ∷ entries) s is = by (eqb x.id id) is (found_stored id entries s)
    where
      by : (b : Bool) → (if b then Some x else find (λ (q : Stored). eqb q.id id) entries) ≡ Some s → (find (λ (q : Stored). eqb q.id id) entries ≡ Some s → control_at id entries ≡ Some s.control)
          → (if b then Some x.control else control_at id entries) ≡ Some s.control
      by true is rest = let same : x ≡ s = cc is in ap (λ (q : Stored). Some q.control) same
      by false is rest = rest is

  batches_claimed : (done : List Effect) (id : ℕ) (rows : List Routed) (control : Control) → control_at id (table_after first done).entries ≡ Some control → AreRouted site.config site.maps id control rows
      → All (IsBatchOf site first (done ++ Does (Claims id rows) ∷ []) id) (batches_of site.config rows)
  batches_claimed done id rows control there routed = λ k d lt. record {
    before = done;
    rows = rows;
    since = [];
    whole = refl;
    control = control;
    there = there;
    routed = routed;
    among = Contains-get_or (batches_of site.config rows) k d lt;
  }

  claim_held : (done : List Effect) (s : Stored) (rows : List Routed) → control_at s.id (table_after first done).entries ≡ Some s.control → AreRouted site.config site.maps s.id s.control rows
      → IsHeldBy site first (done ++ Does (Claims s.id rows) ∷ []) (seat_for site s rows).holder
  claim_held done s rows there routed =
      let macros = claim_macros site.config s.id s.control in
      idle_held site first (done ++ Does (Claims s.id rows) ∷ []) (seat_for site s rows).holder s.control refl
      (ap (λ (t : Table). control_at s.id t.entries) (table_more first done (Does (Claims s.id rows) ∷ [])) ∙ there)
      (claimed_untried site.config site.maps macros s.control.rows rows routed) (claimed_apart site.config site.maps macros s.control.rows rows routed) (claimed_ascend site.config site.maps macros s.control.rows rows routed) (record { before = done; rows = rows; since = []; whole = refl; keeps = tt }) (batches_claimed done s.id rows s.control there routed)

  -- ---- others

  none_counted : (id : ℕ) (seats : List Seat) → count_by (holds id) seats ≡ 0 → All (λ (q : Seat). q.holder.id ≢ id) seats
  none_counted id [] none = All-nil (λ (q : Seat). q.holder.id ≢ id)
  none_counted id (s ∷ seats) none = by (holds id s) refl (none_counted id seats)
    where
      by : (b : Bool) → holds id s ≡ b → (count_by (holds id) seats ≡ 0 → All (λ (q : Seat). q.holder.id ≢ id) seats) → All (λ (q : Seat). q.holder.id ≢ id) (s ∷ seats)
      by true e rest = absurd (let c = counts_first (holds id) s seats ∙ ap (λ (q : Bool). cond q 1 0 + count_by (holds id) seats) e in omega (arith, none, c))
      by false e rest =
          let c = counts_first (holds id) s seats ∙ ap (λ (q : Bool). cond q 1 0 + count_by (holds id) seats) e in
          All-cons (λ (q : Seat). q.holder.id ≢ id) s seats (λ same. false≢true (sym e ∙ eq-eqb s.holder.id id same)) (rest (omega (arith, none, c)))

  others_differ : (seat : Seat) (others : List Seat) → AreApart site (seat ∷ others) → All (λ (q : Seat). q.holder.id ≢ seat.holder.id) others
  others_differ seat others apart =
      let one = apart.ids seat.holder.id in
      let c = counts_first (holds seat.holder.id) seat others ∙ ap (λ (q : Bool). cond q 1 0 + count_by (holds seat.holder.id) others) (eq-eqb seat.holder.id seat.holder.id refl) in
      none_counted seat.holder.id others (omega (arith, one, c))

  -- ---- a step of a holder

  -- what is known as it begins, behind its claim if it has one
  record IsReadyUp (done : List Effect) (front : List Deed) (seat : Seat) (others : List Seat) : Type 0 where
    fit : AreFit (table_after first done) (map Does front)
    good : AreGood site first done (map Does front)
    same : table_after first (done ++ map Does front) ≡ table_after first done
    held : Held (done ++ map Does front) seat
    rest : AllHeld site first (done ++ map Does front) others

  out_held : (done : List Effect) (seat : Seat) (others seats : List Seat) → IsOut seat others seats → AllHeld site first done seats → Held done seat × AllHeld site first done others
  out_held done seat others seats out all =
      let whole = subst (All (Held done)) out.whole all in
      let part : (s : Seat) → Contains (out.front ++ seat ∷ out.back) s → Held done s = λ s among. All-contains (Held done) (out.front ++ seat ∷ out.back) s whole among in (
        part seat (Contains-append_right out.front (seat ∷ out.back) seat (contains_head seat out.back)),
        subst (All (Held done)) (sym out.rest)
            (All-append (Held done) out.front out.back
            (λ k d lt. part _ (Contains-append_left out.front (seat ∷ out.back) _ (Contains-get_or out.front k d lt)))
            (λ k d lt. part _ (Contains-append_right out.front (seat ∷ out.back) _ (contains_tail seat _ out.back (Contains-get_or out.back k d lt))))),
      )

  up_ready : (F : Type 0) (done : List Effect) (m : State) (front : List Deed) (seat : Seat) (others : List Seat) → F → IsUp F site m front seat others → All (λ (q : Seat). q.holder.id ≢ seat.holder.id) others → IsCome site first done m.table m.seats → IsReadyUp done front seat others
  up_ready F done m front seat others f (claimed s rows is can routed) differ come =
      let there = ap (λ (t : Table). control_at s.id t.entries) (sym come.table_is) ∙ found_stored s.id m.table.entries s is in record {
        fit = (tt, tt);
        good = (tt, tt);
        same = table_more first done (Does (Claims s.id rows) ∷ []);
        held = claim_held done s rows there (routed f);
        rest = all_past done (Does (Claims s.id rows) ∷ []) m.seats (sound_here done m.table m.seats come) (tt, tt) (λ q among. (tt, tt)) (λ q among. ((λ e. All-contains (λ (x : Seat). x.holder.id ≢ s.id) m.seats q differ among (sym e)), tt)) come.held;
      }
  up_ready F done m front seat others f (took _ _ out) differ come =
      let parts = out_held done seat others m.seats out come.held in record {
        fit = tt;
        good = tt;
        same = ap (table_after first) (append-nil done);
        held = subst (λ q. Held q seat) (sym (append-nil done)) parts.0;
        rest = subst (λ q. AllHeld site first q others) (sym (append-nil done)) parts.1;
      }

  seated_held : (done : List Effect) (lane : List ℕ) (o : Option Holder) → IfSome o (IsHeldBy site first done) → AllHeld site first done (seated lane o)
  seated_held done lane None h = All-nil (Held done)
  seated_held done lane (Some k) h = All-cons (Held done) (record { lane = lane; holder = k }) [] h (All-nil (Held done))

  map_more : (xs ys : List Deed) → map Does (xs ++ ys) ≡ map Does xs ++ map Does ys
  map_more [] ys = refl
  map_more (x ∷ xs) ys = ap (λ q. Does x ∷ q) (map_more xs ys)

  idles_works : (F : Type 0) (j : JudgeSeen) (done : List Effect) (m : State) (step : Step) → F → Idles F j site m step → IsCome site first done m.table m.seats → Works site first done step
  idles_works F j done m step f (rests table seats effects) come = record {
    fit = subst (AreFit (table_after first done)) (sym effects) tt;
    good = subst (AreGood site first done) (sym effects) tt;
    come = subst (λ q. IsCome site first q step.state.table step.state.seats) (sym (ap (λ q. done ++ q) effects ∙ append-nil done))
        (subst (λ q. IsCome site first done q step.state.seats) (sym table) (subst (λ q. IsCome site first done m.table q) (sym seats) come));
  }
  idles_works F j done m step f (goes front seat others luck x up is meant table seats effects) come =
      let differ = others_differ seat others (up_few F site m front seat others up come.apart) in
      let ready = up_ready F done m front seat others f up differ come in
      let now = done ++ map Does front in
      let T = table_after first now in
      let at : m.table ≡ T = come.table_is ∙ sym ready.same in
      let h = seat.holder in
      let is_now : x ≡ stepped site.config site.maps m.latest T h luck = is ∙ ap (λ t. stepped site.config site.maps m.latest t h luck) at in
      let y = stepped site.config site.maps m.latest T h luck in
      let luck_meant = subst (λ (t : Table). IsLuckMeant j site (record m { table = t }) h luck) at (meant f) in
      let found = control_at h.id T.entries in
      let kind = kind_of site.config site.maps m.latest found h in
      let w = worked (drawer_of j) site first now m.latest h kind luck y (ways site.config m.latest T h kind luck) (kind_facts site.config site.maps m.latest found h) luck_meant ready.held in
      let sound_now : IsSound T = subst IsSound at come.sound in
      let all : step.effects ≡ map Does front ++ map Does y.deeds = effects ∙ map_more front x.deeds ∙ ap (λ (q : Stepped). map Does front ++ map Does q.deeds) is_now in
      let whole : done ++ step.effects ≡ now ++ map Does y.deeds = ap (λ q. done ++ q) all ∙ sym (append_assoc done (map Does front) (map Does y.deeds)) in
      let table_is : step.state.table ≡ table_after first (now ++ map Does y.deeds) = table ∙ ap (λ (q : Stepped). q.table) is_now ∙ stepped_table site m.latest T h luck ∙ sym (table_more first now (map Does y.deeds)) in
      let sound_then : IsSound (table_after T (map Does y.deeds)) = sound_after T (map Does y.deeds) sound_now w.fit in
      record {
        fit = subst (AreFit (table_after first done)) (sym all) (fit_join (table_after first done) (map Does front) (map Does y.deeds) ready.fit (subst (λ t. AreFit t (map Does y.deeds)) (table_more first done (map Does front)) w.fit));
        good = subst (AreGood site first done) (sym all) (good_join site first done (map Does front) (map Does y.deeds) ready.good w.good);
        come = record {
          table_is = table_is ∙ ap (table_after first) (sym whole);
          sound = subst IsSound (sym (table_is ∙ table_more first now (map Does y.deeds))) sound_then;
          held = subst (λ q. AllHeld site first q step.state.seats) (sym whole) (subst (AllHeld site first (now ++ map Does y.deeds)) (sym seats)
              (All-append (Held (now ++ map Does y.deeds)) others (seated seat.lane x.holder)
              (all_past now (map Does y.deeds) others sound_now w.fit (λ s among. w.spared s.holder.id (All-contains (λ (q : Seat). q.holder.id ≢ h.id) others s differ among)) (λ s among. w.keeps s.holder.id (All-contains (λ (q : Seat). q.holder.id ≢ h.id) others s differ among)) ready.rest)
              (seated_held (now ++ map Does y.deeds) seat.lane x.holder (subst (λ (q : Stepped). IfSome q.holder (IsHeldBy site first (now ++ map Does y.deeds))) (sym is_now) w.held))));
          apart = idles_few F j site m step (goes front seat others luck x up is meant table seats effects) come.apart;
        };
      }

  -- ---- turns

  handled_works : (j : JudgeSeen) (done : List Effect) (m : State) (event : Event) (choices : Choices event) → IsEventMeant j site m event choices → IsCome site first done m.table m.seats → Works site first done (handled site m event choices)
  handled_works j done m (Opens session peer) choice f come = leads_works (Unit {0}) done m (opened site m session peer choice) tt (opened_steps (Unit {0}) site m session peer choice) (opened_same site m session peer choice) come
  handled_works j done m (Brings session bytes) choices f come =
      leads_works (IsEventMeant j site m (Brings session bytes) choices) done m (pieced site m bytes choices (guest_of session m.guests)) f (pieced_steps j site m bytes choices (guest_of session m.guests)) (pieced_same site m bytes choices (guest_of session m.guests)) come
  handled_works j done m (Closes session) none f come = record { fit = tt; good = tt; come = subst (λ q. IsCome site first q m.table m.seats) (sym (append-nil done)) come }
  handled_works j done m Rests choice f come = idles_works (IsEventMeant j site m Rests choice) j done m (ends_list site (idle site m choice)) f (rest_idles j site m choice) come
  handled_works j done m Stops luck f come = idles_works (IsEventMeant j site m Stops luck) j done m (stopped site (record m { stopping = true }) luck) f (stop_idles j site m luck) come

  none_works : (done : List Effect) (m : State) (step : Step) → step.effects ≡ [] → step.state.table ≡ m.table → step.state.seats ≡ m.seats → IsCome site first done m.table m.seats → Works site first done step
  none_works done m step effects table seats come = record {
    fit = subst (AreFit (table_after first done)) (sym effects) tt;
    good = subst (AreGood site first done) (sym effects) tt;
    come = subst (λ q. IsCome site first q step.state.table step.state.seats) (sym (ap (λ q. done ++ q) effects ∙ append-nil done))
        (subst (λ q. IsCome site first done q step.state.seats) (sym table) (subst (λ q. IsCome site first done m.table q) (sym seats) come));
  }

  works_join : (done : List Effect) (now next : Step) → Works site first done now → Works site first (done ++ now.effects) next → Works site first done (followed now next)
  works_join done now next h k = record {
    fit = fit_join (table_after first done) now.effects next.effects h.fit (subst (λ t. AreFit t next.effects) (table_more first done now.effects) k.fit);
    good = good_join site first done now.effects next.effects h.good k.good;
    come = subst (λ q. IsCome site first q next.state.table next.state.seats) (append_assoc done now.effects next.effects) k.come;
  }

  -- what is seen of a turn itself
  pub came_works : (done : List Effect) (m : State) (origin : Origin) (event : Event) → IsCome site first done m.table m.seats → Works site first done (record { state = m; effects = came origin event })
  came_works done m (OfFloor reading) event come = record {
    fit = (tt, (tt, tt));
    good = (tt, (tt, tt));
    come = record {
      table_is = come.table_is ∙ sym (table_more first done (Takes event ∷ Ticks reading ∷ []));
      sound = come.sound;
      held = all_past done (Takes event ∷ Ticks reading ∷ []) m.seats (sound_here done m.table m.seats come) (tt, (tt, tt)) (λ s among. (tt, (tt, tt))) (λ s among. (tt, (tt, tt))) come.held;
      apart = come.apart;
    };
  }
  came_works done m (OfRun reading) event come = record {
    fit = (tt, tt);
    good = (tt, tt);
    come = record {
      table_is = come.table_is ∙ sym (table_more first done (Ticks reading ∷ []));
      sound = come.sound;
      held = all_past done (Ticks reading ∷ []) m.seats (sound_here done m.table m.seats come) (tt, tt) (λ s among. (tt, tt)) (λ s among. (tt, tt)) come.held;
      apart = come.apart;
    };
  }

  pub turned_works : (j : JudgeSeen) (done : List Effect) (m : State) (turn : Turn) → IsEventMeant j site (at_moment m (reading_of turn.origin)) turn.event turn.choices → IsCome site first done m.table m.seats → Works site first done (turned site m turn)
  turned_works j done m turn f come =
      let now = at_moment m (reading_of turn.origin) in
      let seen : Step = record { state = now; effects = came turn.origin turn.event } in
      let before = came_works done now turn.origin turn.event come in
      turned_has (Works site first done) site m turn (none_works done m (still m) refl refl refl come) (none_works done m (cut m) refl refl refl come)
      (works_join done seen (handled site now turn.event turn.choices) before (handled_works j (done ++ came turn.origin turn.event) now turn.event turn.choices f before.come))

  pub run_works : (j : JudgeSeen) (done : List Effect) (m : State) (turns : List Turn) → IsRunMeant j site m turns → IsCome site first done m.table m.seats → Works site first done (run site m turns)
  run_works j done m [] f come = none_works done m (still m) refl refl refl come
  run_works j done m (turn ∷ turns) f come =
      let now = turned site m turn in
      let works = turned_works j done m turn f.0 come in
      works_join done now (run site now.state turns) works (run_works j (done ++ now.effects) now.state turns f.1 works.come)

-- a run from a state in which nobody holds an entry
pub begins_works : (j : JudgeSeen) (site : Site) (m : State) (turns : List Turn) → m.seats ≡ [] → IsSound m.table → IsRunMeant j site m turns → Works site m.table [] (run site m turns)
begins_works j site m turns none sound meant =
    run_works site m.table j [] m turns meant (record {
      table_is = refl;
      sound = sound;
      held = subst (AllHeld site m.table []) (sym none) (All-nil (λ (s : Seat). IsHeldBy site m.table [] s.holder));
      apart = subst (AreApart site) (sym none) (none_apart site);
    })

-- from a sound table each front of fit effects gives a sound table
pub sound_front : (table : Table) (done rest : List Effect) → IsSound table → AreFit table (done ++ rest) → IsSound (table_after table done)
sound_front table done rest sound fit = sound_after table done sound (fit_front table done rest fit)
  where
    fit_front : (table : Table) (xs ys : List Effect) → AreFit table (xs ++ ys) → AreFit table xs
    fit_front table [] ys fit = tt
    fit_front table (x ∷ xs) ys fit = (fit.0, fit_front (table_after table (x ∷ [])) xs ys fit.1)
