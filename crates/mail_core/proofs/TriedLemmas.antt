-- In a run over the queue the entries of its list are claimed, and each row that was still tried at
-- a claim is recorded before its entry is let go.
use Rattle.std.proofs.Common.{◌≡◌, ◌⊎◌, inl, inr, ⊎_elim, ℕ, zero, suc, ◌+◌, List, [], ◌∷◌, ◌++◌, drop, Bool, true, false, cond, not, Option, Some, None, if◌then◌else◌, map, filter, refl, sym, ◌∙◌, ap, subst, arith, append_assoc}
use Rattle.std.specs.Prelude.{Contains, fold, nat_eq}
use Rattle.std.specs.List.{AllZip, list_all}
use Rattle.std.proofs.lemmas.Bool.{cases_Bool, eqb-true}
use Rattle.std.proofs.lemmas.List.Elements.{All-contains, Contains-append_left, Contains-append_right, Contains-push}
use Rattle.mail_base.specs.States.{has_failed, is_finished, wants_bounce}
use Rattle.mail_base.specs.declared.config.Config.{Config}
use Rattle.mail_base.specs.declared.control.Control.{Control}
use Rattle.mail_base.specs.declared.control.Row.{Row}
use Rattle.mail_base.specs.declared.mailer.Mailer.{Mailer}
use Rattle.mail_base.specs.declared.outcome.Result1.{Result1}
use Rattle.mail_base.specs.declared.route.Resolved.{Resolved}
use Rattle.mail_base.specs.declared.route.Resolved.TheVariants.{Goes, Refuses}
use Rattle.mail_base.specs.Catalogs.{value_like}
use Rattle.link_edge.specs.declared.peer.Peer.{Peer}
use Rattle.mailer_pipe.specs.Arguments.{is_argument, takes_users}
use Rattle.mailer_pipe.specs.Ends.{ended_with}
use Rattle.mail_header.specs.Outgoing.{is_network}
use Rattle.map_tables.specs.Answers.{Loaded}
use Rattle.ruleset_run.specs.Sites.{Macros}
use Rattle.spawn_edge.specs.declared.event.Poll.TheVariants as polls
use Rattle.spool_store.specs.Entries.{Stored, Table}
use Rattle.spool_store.proofs.Standing.{contains_cases, contains_head, contains_tail}
use Rattle.queue_table.specs.Commands.{Command, control_at}
use Rattle.queue_table.specs.Commands.Command.{Return, Warn}
use Rattle.queue_table.specs.Directories.{terms_of}
use Rattle.queue_table.specs.Soundness.{IsTried}
use Rattle.queue_run.specs.declared.batch.Batch.{Batch}
use Rattle.queue_run.specs.declared.batch.Routed.{Routed}
use Rattle.queue_run.specs.declared.runner.RunStop.TheVariants as stop
use Rattle.queue_run.specs.Batches.{Waiting, added, batches_of, joined, takes, waiting_at, waiting_from}
use Rattle.queue_run.specs.Claims.{AreRouted, IsRouted, claim_macros}
use Rattle.queue_run.specs.Deeds.{Asks, Claims, Deed, Files, Frees, Given, Polls, Starts as Launches, Talks as Delivers}
use Rattle.queue_run.specs.Holders.{Attempt, Holder}
use Rattle.queue_run.specs.Kinds.{Buries, Finishes, Kind, Leaves, Returns, Settles, Starts, Talks, Warns, host_macros, is_warning_due, kind_at_end, kind_by, kind_by_entry, kind_by_mailer, kind_by_peers, kind_by_rest, kind_by_route, kind_by_users, kind_of}
use Rattle.queue_run.specs.Peers.{peers_of}
use Rattle.queue_run.specs.Results.{alike, device_fault, no_user, too_large}
use Rattle.queue_run.specs.Steps.{Luck, Stepped, record_of, stepped}
use Rattle.mail_core.specs.Effects.{Does, Effect, table_after}
use Rattle.mail_core.specs.Holding.{can_claim, stored_at, without_id}
use Rattle.mail_core.specs.Idling.{Carrying, Claiming, Idling, Quiet, Starving, carries, claimed as claim_now, claims, idle, quiet, seat_for, seated}
use Rattle.mail_core.specs.Judges.{JudgeSeen}
use Rattle.mail_core.specs.Machine.{run}
use Rattle.mail_core.specs.Resting.{IsClaimMeant, IsRestMeant}
use Rattle.mail_core.specs.Sites.{Site}
use Rattle.mail_core.specs.States.{Seat, State, Step, cut, still}
use Rattle.mail_core.specs.Tried.{WasRecorded, WasTried}
use Rattle.mail_core.proofs.ApartLemmas.{IsSameId, stepped_id}
use Rattle.mail_core.proofs.HeldLemmas.{IsHeldBy}
use Rattle.mail_core.proofs.IdleLemmas.{found_id, routed_as}
use Rattle.mail_core.proofs.KindLemmas.{Facts, IsNext, IsTryOf, Ways, begun, buried, delivered, exited, finished, given_back, halted, kind_facts, let_go, lost, missed, outgrown, settled, waited, warned, ways}
use Rattle.mail_core.proofs.RunsLemmas.{AllHeld, IsCome, found_stored}
use Rattle.mail_core.proofs.TurnedLemmas.{either_step}

-- ---- the rows of a claim are in its batches

-- a place is among those of batches, of rows that go somewhere, of rows that are still tried
abbrev pub IsIn : List Batch → ℕ → Type 0
IsIn [] place = ⊥
IsIn (b ∷ bs) place = Contains b.places place ⊎ IsIn bs place

abbrev IsAt : List Routed → ℕ → Type 0
IsAt [] place = ⊥
IsAt (r ∷ rs) place = (r.place ≡ place) ⊎ IsAt rs place

abbrev IsAmong : List Waiting → ℕ → Type 0
IsAmong [] place = ⊥
IsAmong (w ∷ ws) place = (w.place ≡ place) ⊎ IsAmong ws place

joined_in : (config : Config) (row : Routed) (batches : List Batch) (place : ℕ) → IsIn batches place → IsIn (joined config row batches) place
joined_in config row [] place i = absurd i
joined_in config row (b ∷ bs) place i = by (takes config row b) i (joined_in config row bs place)
  where
    by : (t : Bool) → IsIn (b ∷ bs) place → (IsIn bs place → IsIn (joined config row bs) place) → IsIn (if t then added row b ∷ bs else b ∷ joined config row bs) place
    by true (inl here) rest = inl (Contains-append_left b.places (row.place ∷ []) place here)
    by true (inr later) rest = inr later
    by false (inl here) rest = inl here
    by false (inr later) rest = inr (rest later)

joined_own : (config : Config) (row : Routed) (batches : List Batch) → IsIn (joined config row batches) row.place
joined_own config row [] = inl (contains_head row.place [])
joined_own config row (b ∷ bs) = by (takes config row b) (joined_own config row bs)
  where
    by : (t : Bool) → IsIn (joined config row bs) row.place → IsIn (if t then added row b ∷ bs else b ∷ joined config row bs) row.place
    by true rest = inl (Contains-push b.places row.place)
    by false rest = inr rest

folded_in : (config : Config) (rows : List Routed) (batches : List Batch) (place : ℕ) → IsIn batches place ⊎ IsAt rows place → IsIn (fold (λ batches row. joined config row batches) batches rows) place
folded_in config [] batches place (inl i) = i
folded_in config [] batches place (inr i) = absurd i
folded_in config (row ∷ rows) batches place (inl i) = folded_in config rows (joined config row batches) place (inl (joined_in config row batches place i))
folded_in config (row ∷ rows) batches place (inr (inl same)) = folded_in config rows (joined config row batches) place (inl (subst (IsIn (joined config row batches)) same (joined_own config row batches)))
folded_in config (row ∷ rows) batches place (inr (inr later)) = folded_in config rows (joined config row batches) place (inr later)

module _ (config : Config) (maps : Loaded) (macros : Macros) where
  zipped_at : (waiting : List Waiting) (rows : List Routed) (place : ℕ) → AllZip (IsRouted config maps macros) waiting rows → IsAmong waiting place → IsAt rows place
  zipped_at [] [] place so i = absurd i
  zipped_at [] (r ∷ rows) place so i = absurd so
  zipped_at (w ∷ waiting) [] place so i = absurd so
  zipped_at (w ∷ waiting) (r ∷ rows) place so (inl same) = inl (so.0.place ∙ same)
  zipped_at (w ∷ waiting) (r ∷ rows) place so (inr later) = inr (zipped_at waiting rows place so.1 later)

among_right : (xs ys : List Waiting) (place : ℕ) → IsAmong ys place → IsAmong (xs ++ ys) place
among_right [] ys place i = i
among_right (x ∷ xs) ys place i = inr (among_right xs ys place i)

waiting_has : (n : ℕ) (rows : List Row) (place : ℕ) → IsTried rows place → IsAmong (waiting_from n rows) (n + place)
waiting_has n [] place tried = absurd (let lt = tried.within in omega (arith, lt))
waiting_has n (row ∷ rows) zero tried =
    let rest = waiting_from (n + 1) rows in
    let same : n ≡ n + 0 = omega arith in
    subst (λ (b : Bool). IsAmong ((if b then record { place = n; address = row.address } ∷ [] else []) ++ rest) (n + 0)) (sym (tried.queued row)) (inl same)
waiting_has n (row ∷ rows) (suc place) tried =
    let before : IsTried rows place = record { within = let lt = tried.within in omega (arith, lt); queued = λ d. tried.queued d } in
    let same : n + 1 + place ≡ n + suc place = omega arith in
    among_right (waiting_at n row) (waiting_from (n + 1) rows) (n + suc place) (subst (IsAmong (waiting_from (n + 1) rows)) same (waiting_has (n + 1) rows place before))

claimed_in : (config : Config) (maps : Loaded) (macros : Macros) (all : List Row) (rows : List Routed) (place : ℕ) → AllZip (IsRouted config maps macros) (waiting_from 0 all) rows → IsTried all place → IsIn (batches_of config rows) place
claimed_in config maps macros all rows place so tried =
    let zero_and : 0 + place ≡ place = omega arith in
    folded_in config rows [] place (inr (zipped_at config maps macros (waiting_from 0 all) rows place so (subst (IsAmong (waiting_from 0 all)) zero_and (waiting_has 0 all place tried))))

-- ---- an entry is let go at its end alone

abbrev IsAtRest : Holder → Type 0
IsAtRest h = (h.rest ≡ []) × (h.running ≡ None)

abbrev Ends : Holder → Kind → Type 0
Ends h Finishes = IsAtRest h
Ends h Leaves = IsAtRest h
Ends h kind = Unit {0}

module _ (config : Config) (maps : Loaded) (moment : ℕ) (h : Holder) where
  either_end : (b : Bool) (x y : Kind) → Ends h x → Ends h y → Ends h (if b then x else y)
  either_end true x y p q = p
  either_end false x y p q = q

  peers_end : (batch : Batch) (mailer : Mailer) (peers : List Peer) → Ends h (kind_by_peers batch mailer peers)
  peers_end batch mailer [] = tt
  peers_end batch mailer (peer ∷ peers) = tt

  users_end : (batch : Batch) (mailer : Mailer) (b : Bool) → Ends h (kind_by_users batch mailer b)
  users_end batch mailer true = tt
  users_end batch mailer false = tt

  mailer_end : (macros : Macros) (batch : Batch) (o : Option Mailer) → Ends h (kind_by_mailer maps macros batch o)
  mailer_end macros batch None = tt
  mailer_end macros batch (Some mailer) =
      let given = if takes_users mailer then kind_by_users batch mailer (list_all is_argument batch.users) else Settles batch no_user in
      either_end (is_network mailer) (kind_by_peers batch mailer (peers_of maps mailer macros)) given
      (peers_end batch mailer (peers_of maps mailer macros))
      (either_end (takes_users mailer) (kind_by_users batch mailer (list_all is_argument batch.users)) (Settles batch no_user) (users_end batch mailer (list_all is_argument batch.users)) tt)

  route_end : (control : Control) (batch : Batch) (resolved : Resolved) → Ends h (kind_by_route config maps h.id control batch resolved)
  route_end control batch (Refuses error) = tt
  route_end control batch (Goes triple) = mailer_end (host_macros config h.id control triple.host) batch (value_like triple.mailer config.mailers)

  last_end : (control : Control) → IsAtRest h → Ends h (kind_at_end config moment control)
  last_end control rest =
      let due = if is_finished control then Finishes else Leaves in
      let warns = if is_warning_due config moment control then Warns else due in
      let backs = if wants_bounce control then Returns else Buries in
      either_end (has_failed control) backs warns (either_end (wants_bounce control) Returns Buries tt tt)
      (either_end (is_warning_due config moment control) Warns due tt (either_end (is_finished control) Finishes Leaves rest rest))

  rest_end : (control : Control) (batches : List Batch) → h.rest ≡ batches → h.running ≡ None → Ends h (kind_by_rest config maps moment h.id control batches)
  rest_end control [] rest idle = last_end control (rest, idle)
  rest_end control (batch ∷ batches) rest idle = route_end control batch batch.resolved

  by_end : (found : Option Control) (control : Control) (batches : List Batch) (o : Option Attempt) → found ≡ Some control → h.rest ≡ batches → h.running ≡ o → Ends h (kind_by config maps moment h.id found batches o)
  by_end found control batches (Some r) there rest running = tt
  by_end found control batches None there rest idle = subst (λ q. Ends h (kind_by_entry config maps moment h.id q batches)) (sym there) (rest_end control batches rest idle)

  kind_end : (found : Option Control) (control : Control) → found ≡ Some control → Ends h (kind_of config maps moment found h)
  kind_end found control there = by_end found control h.rest h.running there refl refl

-- ---- an entry on its way

-- a place waits in a batch, or in the one that a child delivers
abbrev pub IsWaiting : List Batch → Option Attempt → ℕ → Type 0
IsWaiting rest None place = IsIn rest place
IsWaiting rest (Some r) place = Contains r.places place ⊎ IsIn rest place

-- an entry was claimed, and each row that was still tried then was recorded or waits
pub record IsOnWay (site : Site) (first : Table) (done : List Effect) (id : ℕ) (rest : List Batch) (running : Option Attempt) : Type 0 where
  pub before : List Effect
  pub rows : List Routed
  pub since : List Effect
  pub whole : done ≡ before ++ Does (Claims id rows) ∷ since
  pub control : Control
  pub there : control_at id (table_after first before).entries ≡ Some control
  pub each : (place : ℕ) → IsTried control.rows place → WasRecorded site since id place ⊎ IsWaiting rest running place

-- it waits for its claim, is held, or was tried
pub data Stage (site : Site) (first : Table) (done : List Effect) (list : List ℕ) (seats : List Seat) (id : ℕ) : Type 0 where
  waits : Contains list id → Stage site first done list seats id
  is_held : (seat : Seat) → Contains seats seat → seat.holder.id ≡ id → IsOnWay site first done id seat.holder.rest seat.holder.running → Stage site first done list seats id
  is_over : WasTried site first done id → Stage site first done list seats id

module _ (site : Site) (first : Table) where
  abbrev OnWay : List Effect → ℕ → List Batch → Option Attempt → Type 0
  OnWay done id rest running = IsOnWay site first done id rest running

  recorded_left : (xs ys : List Effect) (id place : ℕ) → WasRecorded site xs id place → WasRecorded site (xs ++ ys) id place
  recorded_left xs ys id place r = record {
    moment = r.moment;
    places = r.places;
    results = r.results;
    among = Contains-append_left xs ys (Does (Asks (record_of site.config r.moment id r.places r.results))) r.among;
    here = r.here;
  }

  recorded_right : (xs ys : List Effect) (id place : ℕ) → WasRecorded site ys id place → WasRecorded site (xs ++ ys) id place
  recorded_right xs ys id place r = record {
    moment = r.moment;
    places = r.places;
    results = r.results;
    among = Contains-append_right xs ys (Does (Asks (record_of site.config r.moment id r.places r.results))) r.among;
    here = r.here;
  }

  -- more is done
  way_on : (done more : List Effect) (id : ℕ) (rest next : List Batch) (running now : Option Attempt) → ((place : ℕ) → IsWaiting rest running place → WasRecorded site more id place ⊎ IsWaiting next now place)
      → OnWay done id rest running → OnWay (done ++ more) id next now
  way_on done more id rest next running now moves w = record {
    before = w.before;
    rows = w.rows;
    since = w.since ++ more;
    whole = ap (λ q. q ++ more) w.whole ∙ append_assoc w.before (Does (Claims id w.rows) ∷ w.since) more;
    control = w.control;
    there = w.there;
    each = λ place tried. ⊎_elim
        (λ (r : WasRecorded site w.since id place). inl (recorded_left w.since more id place r))
        (λ (k : IsWaiting rest running place). ⊎_elim
        (λ (r : WasRecorded site more id place). inl (recorded_right w.since more id place r))
        (λ (q : IsWaiting next now place). inr q)
        (moves place k))
        (w.each place tried);
  }

  way_same : (done more : List Effect) (id : ℕ) (rest : List Batch) (running : Option Attempt) → OnWay done id rest running → OnWay (done ++ more) id rest running
  way_same done more id rest running w = way_on done more id rest rest running running (λ place k. inr k) w

  -- nothing waits any more
  way_over : (done more effects : List Effect) (id : ℕ) (rest : List Batch) (running : Option Attempt) → effects ≡ (done ++ more) ++ Does (Frees id) ∷ [] → ((place : ℕ) → IsWaiting rest running place → ⊥)
      → OnWay done id rest running → WasTried site first effects id
  way_over done more effects id rest running is none w = record {
    before = w.before;
    rows = w.rows;
    between = w.since ++ more;
    later = [];
    whole = is ∙ ap (λ q. (q ++ more) ++ Does (Frees id) ∷ []) w.whole ∙ ap (λ q. q ++ Does (Frees id) ∷ []) (append_assoc w.before (Does (Claims id w.rows) ∷ w.since) more)
        ∙ append_assoc w.before (Does (Claims id w.rows) ∷ (w.since ++ more)) (Does (Frees id) ∷ []);
    control = w.control;
    there = w.there;
    each = λ place tried. ⊎_elim
        (λ (r : WasRecorded site w.since id place). recorded_left w.since more id place r)
        (λ (k : IsWaiting rest running place). absurd (none place k))
        (w.each place tried);
  }

  tried_more : (xs ys : List Effect) (id : ℕ) → WasTried site first xs id → WasTried site first (xs ++ ys) id
  tried_more xs ys id t = record {
    before = t.before;
    rows = t.rows;
    between = t.between;
    later = t.later ++ ys;
    whole = ap (λ q. q ++ ys) t.whole ∙ append_assoc t.before (Does (Claims id t.rows) ∷ (t.between ++ Does (Frees id) ∷ t.later)) ys
        ∙ ap (λ q. t.before ++ Does (Claims id t.rows) ∷ q) (append_assoc t.between (Does (Frees id) ∷ t.later) ys);
    control = t.control;
    there = t.there;
    each = t.each;
  }

  -- ---- a step of its holder

  asked_last : (deeds : List Deed) (command : Command) → Contains (map Does (deeds ++ Asks command ∷ [])) (Does (Asks command))
  asked_last [] command = contains_head (Does (Asks command)) []
  asked_last (deed ∷ deeds) command = contains_tail (Does deed) (Does (Asks command)) (map Does (deeds ++ Asks command ∷ [])) (asked_last deeds command)

  -- the entry is on its way still, or was tried
  abbrev Comes : List Effect → ℕ → Option Holder → Type 0
  Comes done id None = WasTried site first done id
  Comes done id (Some k) = OnWay done id k.rest k.running

  module _ (done : List Effect) (moment : ℕ) (table : Table) (h : Holder) (w : IsOnWay site first done h.id h.rest h.running) where
    -- the rows of a child are recorded
    over_way : (r : Attempt) (deeds : List Deed) (results : List Result1) → h.running ≡ Some r → OnWay (done ++ map Does (deeds ++ Asks (record_of site.config moment h.id r.places results) ∷ [])) h.id h.rest None
    over_way r deeds results running =
        let more = map Does (deeds ++ Asks (record_of site.config moment h.id r.places results) ∷ []) in
        way_on done more h.id h.rest h.rest (Some r) None
        (λ place k. ⊎_elim
        (λ (here : Contains r.places place). inl (record { moment = moment; places = r.places; results = results; among = asked_last deeds (record_of site.config moment h.id r.places results); here = here }))
        (λ (later : IsIn h.rest place). inr later) k)
        (subst (OnWay done h.id h.rest) running w)

    -- the first batch is recorded
    batch_way : (found : Option Control) (batch : Batch) (deeds : List Deed) (results : List Result1) → IsNext found h batch → OnWay (done ++ map Does (deeds ++ Asks (record_of site.config moment h.id batch.places results) ∷ [])) h.id (drop 1 h.rest) None
    batch_way found batch deeds results n =
        let more = map Does (deeds ++ Asks (record_of site.config moment h.id batch.places results) ∷ []) in
        let now = subst (λ q. OnWay done h.id q None) n.rest_is (subst (OnWay done h.id h.rest) n.idle w) in
        subst (λ q. OnWay (done ++ more) h.id q None) (sym (ap (drop 1) n.rest_is))
        (way_on done more h.id (batch ∷ n.rest) n.rest None None
        (λ place k. ⊎_elim
        (λ (here : Contains batch.places place). inl (record { moment = moment; places = batch.places; results = results; among = asked_last deeds (record_of site.config moment h.id batch.places results); here = here }))
        (λ (later : IsIn n.rest place). inr later) k)
        now)

    -- a child delivers it
    begun_way : (found : Option Control) (batch : Batch) (child : ℕ) (more : List Effect) → IsNext found h batch → OnWay (done ++ more) h.id (drop 1 h.rest) (Some (record { child = child; places = batch.places }))
    begun_way found batch child more n =
        let r : Attempt = record { child = child; places = batch.places } in
        let now = subst (λ q. OnWay done h.id q None) n.rest_is (subst (OnWay done h.id h.rest) n.idle w) in
        subst (λ q. OnWay (done ++ more) h.id q (Some r)) (sym (ap (drop 1) n.rest_is))
        (way_on done more h.id (batch ∷ n.rest) n.rest None (Some r) (λ place k. inr k) now)

    same_way : (more : List Effect) → OnWay (done ++ more) h.id h.rest h.running
    same_way more = way_same done more h.id h.rest h.running w

    none_left : IsAtRest h → (place : ℕ) → IsWaiting h.rest h.running place → ⊥
    none_left rest place k = subst (λ q. IsWaiting q None place) rest.0 (subst (λ q. IsWaiting h.rest q place) rest.1 k)

    next_of : (found : Option Control) (maps : Loaded) (kind : Kind) (batch : Batch) → IsTryOf batch kind → Facts site.config maps found h kind → IsNext found h batch
    next_of found maps (Starts other mailer) batch try facts = subst (IsNext found h) (sym try) facts.next
    next_of found maps (Talks other mailer peers) batch try facts = subst (IsNext found h) (sym try) facts.next
    next_of found maps kind batch try facts = absurd try

    way_comes : (found : Option Control) (kind : Kind) (luck : Luck) (x : Stepped) → Ways site.config moment table h kind luck x → Facts site.config site.maps found h kind → Ends h kind → Comes (done ++ map Does x.deeds) h.id x.holder
    way_comes found kind luck x (halted _ _ halt) facts ends = same_way []
    way_comes found kind luck x (waited r) facts ends = same_way (Does (Polls h.id r.child polls.Runs) ∷ [])
    way_comes found kind luck x (exited r status failed) facts ends = over_way r (Polls h.id r.child (polls.Over status) ∷ []) (alike (ended_with status) r.places) facts
    way_comes found kind luck x (lost r failed) facts ends = over_way r (Polls h.id r.child polls.Lost ∷ []) (alike device_fault r.places) facts
    way_comes found kind luck x (settled batch result failed) facts ends = batch_way found batch [] (alike result batch.places) facts
    way_comes found kind luck x (outgrown _ batch letter failed try) facts ends = batch_way found batch [] (alike too_large batch.places) (next_of found site.maps kind batch try facts)
    way_comes found kind luck x (begun batch mailer letter start child count) facts ends = begun_way found batch child (Does (Launches h.id batch.places start (Given child count)) ∷ []) facts.next
    way_comes found kind luck x (missed batch mailer letter start launch failed none) facts ends = batch_way found batch (Launches h.id batch.places start launch ∷ []) (alike device_fault batch.places) facts.next
    way_comes found kind luck x (delivered batch mailer peers letter talk failed) facts ends = batch_way found batch (Delivers h.id batch.places talk ∷ []) talk.results facts.next
    way_comes found kind luck x (given_back _ bounce failed sent) facts ends = same_way (Does (Asks (Return (terms_of site.config) h.id (bounce ∷ []) moment)) ∷ [])
    way_comes found kind luck x (buried _ failed) facts ends = same_way (Does (Asks (Return (terms_of site.config) h.id [] moment)) ∷ [])
    way_comes found kind luck x (warned _ warning failed sent) facts ends = same_way (Does (Asks (Warn (terms_of site.config) h.id (warning ∷ []) moment)) ∷ [])
    way_comes found kind luck x (finished _ failed) facts ends =
        way_over done (Does (Files h.id) ∷ []) (done ++ Does (Files h.id) ∷ Does (Frees h.id) ∷ []) h.id h.rest h.running (sym (append_assoc done (Does (Files h.id) ∷ []) (Does (Frees h.id) ∷ []))) (none_left ends) w
    way_comes found kind luck x (let_go _) facts ends =
        way_over done [] (done ++ Does (Frees h.id) ∷ []) h.id h.rest h.running (sym (append_assoc done [] (Does (Frees h.id) ∷ []))) (none_left ends) w

    step_comes : (luck : Luck) (control : Control) → control_at h.id table.entries ≡ Some control → Comes (done ++ map Does (stepped site.config site.maps moment table h luck).deeds) h.id (stepped site.config site.maps moment table h luck).holder
    step_comes luck control there =
        let found = control_at h.id table.entries in
        let kind = kind_of site.config site.maps moment found h in
        way_comes found kind luck (stepped site.config site.maps moment table h luck) (ways site.config moment table h kind luck) (kind_facts site.config site.maps moment found h) (kind_end site.config site.maps moment h found control there)

  -- ---- stages

  pub stage_more : (done more : List Effect) (list : List ℕ) (seats : List Seat) (id : ℕ) → Stage site first done list seats id → Stage site first (done ++ more) list seats id
  stage_more done more list seats id (waits c) = waits c
  stage_more done more list seats id (is_held seat among same w) = is_held seat among same (way_same done more id seat.holder.rest seat.holder.running w)
  stage_more done more list seats id (is_over t) = is_over (tried_more done more id t)

  -- the holder is seated behind the others, or the entry was tried
  comes_stage : (done : List Effect) (list : List ℕ) (others : List Seat) (lane : List ℕ) (id : ℕ) (o : Option Holder) → IsSameId id o → Comes done id o → Stage site first done list (others ++ seated lane o) id
  comes_stage done list others lane id None same c = is_over c
  comes_stage done list others lane id (Some k) same c =
      let seat : Seat = record { lane = lane; holder = k } in
      is_held seat (Contains-append_right others (seat ∷ []) seat (contains_head seat [])) same c

  -- its own holder takes a step
  own_stage : (done : List Effect) (m : State) (list : List ℕ) (seat : Seat) (others : List Seat) (luck : Luck) (id : ℕ) (control : Control) → control_at seat.holder.id m.table.entries ≡ Some control → seat.holder.id ≡ id
      → OnWay done id seat.holder.rest seat.holder.running
      → Stage site first (done ++ map Does (stepped site.config site.maps m.latest m.table seat.holder luck).deeds) list (others ++ seated seat.lane (stepped site.config site.maps m.latest m.table seat.holder luck).holder) id
  own_stage done m list seat others luck id control there same w =
      let h = seat.holder in
      let x = stepped site.config site.maps m.latest m.table h luck in
      let mine = subst (λ q. OnWay done q h.rest h.running) (sym same) w in
      subst (Stage site first (done ++ map Does x.deeds) list (others ++ seated seat.lane x.holder)) same
      (comes_stage (done ++ map Does x.deeds) list others seat.lane h.id x.holder (stepped_id site m.latest m.table h luck) (step_comes done m.latest m.table h mine luck control there))

  -- another one does
  other_stage : (done more : List Effect) (list : List ℕ) (seat : Seat) (others later : List Seat) (id : ℕ) → Contains others seat → seat.holder.id ≡ id → OnWay done id seat.holder.rest seat.holder.running → Stage site first (done ++ more) list (others ++ later) id
  other_stage done more list seat others later id among same w = is_held seat (Contains-append_left others later seat among) same (way_same done more id seat.holder.rest seat.holder.running w)

  -- the first holder takes a step
  carry_stage : (done : List Effect) (m : State) (seat : Seat) (others : List Seat) (luck : Luck) (id : ℕ) (control : Control) → control_at seat.holder.id m.table.entries ≡ Some control → Stage site first done m.list (seat ∷ others) id
      → Stage site first (done ++ map Does (stepped site.config site.maps m.latest m.table seat.holder luck).deeds) m.list (others ++ seated seat.lane (stepped site.config site.maps m.latest m.table seat.holder luck).holder) id
  carry_stage done m seat others luck id control there (waits c) = waits c
  carry_stage done m seat others luck id control there (is_over t) = is_over (tried_more done (map Does (stepped site.config site.maps m.latest m.table seat.holder luck).deeds) id t)
  carry_stage done m seat others luck id control there (is_held s among same w) =
      let x = stepped site.config site.maps m.latest m.table seat.holder luck in
      ⊎_elim
      (λ (first_is : seat ≡ s). own_stage done m m.list seat others luck id control there (ap (λ (q : Seat). q.holder.id) first_is ∙ same) (subst (λ (q : Seat). OnWay done id q.holder.rest q.holder.running) (sym first_is) w))
      (λ (later : Contains others s). other_stage done (map Does x.deeds) m.list s others (seated seat.lane x.holder) id later same w)
      (contains_cases seat s others among)

  -- ---- a claim

  kept_without : (id other : ℕ) (ids : List ℕ) → nat_eq other id ≡ false → Contains ids other → Contains (without_id id ids) other
  kept_without id other [] ne among = absurd (let lt = among.1 in omega (arith, lt))
  kept_without id other (x ∷ xs) ne among =
      let p : ℕ → Bool = λ q. not (nat_eq q id) in
      ⊎_elim
      (λ (same : x ≡ other).
      let here : Contains (x ∷ filter p xs) other = subst (Contains (x ∷ filter p xs)) same (contains_head x (filter p xs)) in
      subst (λ (b : Bool). Contains (cond (not b) (x ∷ filter p xs) (filter p xs)) other) (sym (ap (λ q. nat_eq q id) same ∙ ne)) here)
      (λ (later : Contains xs other). behind (p x) x other (filter p xs) (kept_without id other xs ne later))
      (contains_cases x other xs among)
    where
      behind : (b : Bool) (x other : ℕ) (ys : List ℕ) → Contains ys other → Contains (cond b (x ∷ ys) ys) other
      behind true x other ys c = contains_tail x other ys c
      behind false x other ys c = c

  -- of an entry that was just claimed each row that is still tried waits
  fresh_way : (done : List Effect) (s : Stored) (rows : List Routed) → control_at s.id (table_after first done).entries ≡ Some s.control → AreRouted site.config site.maps s.id s.control rows
      → OnWay (done ++ Does (Claims s.id rows) ∷ []) s.id (batches_of site.config rows) None
  fresh_way done s rows there routed = record {
    before = done;
    rows = rows;
    since = [];
    whole = refl;
    control = s.control;
    there = there;
    each = λ place tried. inr (claimed_in site.config site.maps (claim_macros site.config s.id s.control) s.control.rows rows place routed tried);
  }

  claim_stage : (done : List Effect) (m : State) (s : Stored) (rows : List Routed) (luck : Luck) (id : ℕ) → m.table ≡ table_after first done → control_at s.id m.table.entries ≡ Some s.control → AreRouted site.config site.maps s.id s.control rows
      → Stage site first done m.list m.seats id
      → Stage site first (done ++ (claim_now site m s rows luck).effects) (without_id s.id m.list) (claim_now site m s rows luck).state.seats id
  claim_stage done m s rows luck id table there routed stage =
      let seat = seat_for site s rows in
      let x = stepped site.config site.maps m.latest m.table seat.holder luck in
      let claim = Does (Claims s.id rows) ∷ [] in
      let list = without_id s.id m.list in
      let whole : (done ++ claim) ++ map Does x.deeds ≡ done ++ Does (Claims s.id rows) ∷ map Does x.deeds = append_assoc done claim (map Does x.deeds) in
      let now = by stage in
      subst (λ q. Stage site first q list (m.seats ++ seated seat.lane x.holder) id) whole now
    where
      by : Stage site first done m.list m.seats id
          → Stage site first ((done ++ Does (Claims s.id rows) ∷ []) ++ map Does (stepped site.config site.maps m.latest m.table (seat_for site s rows).holder luck).deeds) (without_id s.id m.list)
          (m.seats ++ seated (seat_for site s rows).lane (stepped site.config site.maps m.latest m.table (seat_for site s rows).holder luck).holder) id
      by (waits c) = ⊎_elim
          (λ (is : nat_eq id s.id ≡ true).
          let same : id ≡ s.id = eqb-true id s.id is in
          own_stage (done ++ Does (Claims s.id rows) ∷ []) m (without_id s.id m.list) (seat_for site s rows) m.seats luck id s.control there (sym same)
          (subst (λ q. OnWay (done ++ Does (Claims s.id rows) ∷ []) q (batches_of site.config rows) None) (sym same) (fresh_way done s rows (ap (λ (t : Table). control_at s.id t.entries) (sym table) ∙ there) routed)))
          (λ (ne : nat_eq id s.id ≡ false). waits (kept_without s.id id m.list ne c))
          (cases_Bool (nat_eq id s.id))
      by (is_held seat among same w) =
          let x = stepped site.config site.maps m.latest m.table (seat_for site s rows).holder luck in
          other_stage (done ++ Does (Claims s.id rows) ∷ []) (map Does x.deeds) (without_id s.id m.list) seat m.seats (seated (seat_for site s rows).lane x.holder) id among same (way_same done (Does (Claims s.id rows) ∷ []) id seat.holder.rest seat.holder.running w)
      by (is_over t) = is_over (tried_more (done ++ Does (Claims s.id rows) ∷ []) (map Does (stepped site.config site.maps m.latest m.table (seat_for site s rows).holder luck).deeds) id (tried_more done (Does (Claims s.id rows) ∷ []) id t))

  -- ---- turns

  abbrev pub After : List Effect → ℕ → Step → Type 0
  After done id step = Stage site first (done ++ step.effects) step.state.list step.state.seats id

  module _ (j : JudgeSeen) where
    claims_stage : (done : List Effect) (m : State) (asked : ℕ) (rows : List Routed) (luck : Luck) (id : ℕ) (o : Option Stored) → stored_at asked m.table ≡ o → IsClaimMeant j site m asked rows luck → IsCome site first done m.table m.seats
        → Stage site first done m.list m.seats id → After done id (claims site m rows luck o)
    claims_stage done m asked rows luck id None is meant come stage = stage_more done [] m.list m.seats id stage
    claims_stage done m asked rows luck id (Some s) is meant come stage =
        either_step (After done id) (can_claim site m s) (claim_now site m s rows luck) (cut m)
        (let same = found_id j site s asked m.table.entries is in
        let there = ap (λ q. control_at q m.table.entries) same ∙ found_stored site first asked m.table.entries s is in
        claim_stage done m s rows luck id come.table_is there (routed_as j site m asked rows luck s is same meant) stage)
        (stage_more done [] m.list m.seats id stage)

    carries_stage : (done : List Effect) (m : State) (luck : Luck) (id : ℕ) (seats : List Seat) → m.seats ≡ seats → IsCome site first done m.table m.seats → Stage site first done m.list m.seats id → After done id (carries site m luck seats)
    carries_stage done m luck id [] is come stage = stage_more done [] m.list m.seats id stage
    carries_stage done m luck id (seat ∷ others) is come stage =
        let held : IsHeldBy site first done seat.holder = All-contains (λ (s : Seat). IsHeldBy site first done s.holder) (seat ∷ others) seat (subst (AllHeld site first done) is come.held) (contains_head seat others) in
        let there : control_at seat.holder.id m.table.entries ≡ Some held.control = ap (λ (t : Table). control_at seat.holder.id t.entries) come.table_is ∙ held.there in
        carry_stage done m seat others luck id held.control there (subst (λ q. Stage site first done m.list q id) is stage)

    quiet_stage : (done : List Effect) (m : State) (id : ℕ) (seats : List Seat) → Stage site first done m.list m.seats id → After done id (quiet m seats)
    quiet_stage done m id [] stage = stage_more done [] m.list m.seats id stage
    quiet_stage done m id (seat ∷ seats) stage = stage_more done [] m.list m.seats id stage

    pub idle_stage : (done : List Effect) (m : State) (choice : Idling) (id : ℕ) → IsRestMeant j site m choice → IsCome site first done m.table m.seats → Stage site first done m.list m.seats id → After done id (idle site m choice)
    idle_stage done m (Claiming asked rows luck) id meant come stage = claims_stage done m asked rows luck id (stored_at asked m.table) refl meant come stage
    idle_stage done m Starving id meant come stage = stage_more done [] m.list m.seats id stage
    idle_stage done m (Carrying luck) id meant come stage = carries_stage done m luck id m.seats refl come stage
    idle_stage done m Quiet id meant come stage = quiet_stage done m id m.seats stage
