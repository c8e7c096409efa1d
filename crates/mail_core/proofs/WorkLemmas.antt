-- A step of a holder is good where it stands, and keeps what is known of it and of the others.
use Rattle.std.proofs.Common.{◌≡◌, ◌≢◌, ℕ, List, [], ◌∷◌, ◌++◌, Bool, true, false, Some, None, map, refl, sym, ◌∙◌, ap, subst}
use Rattle.std.specs.Prelude.{All, IfSome, drop, not, ◌&&◌, ◌||◌}
use Rattle.std.specs.List.{list_all, list_any}
use Rattle.std.proofs.lemmas.Bool.{false≢true}
use Rattle.std.proofs.lemmas.List.Elements.{All-head, All-nil, All-tail, Contains-push}
use Rattle.mail_base.specs.States.{has_failed, has_queued, is_failed, is_open, is_queued, wants_bounce}
use Rattle.mail_base.specs.declared.control.Control.{Control}
use Rattle.mail_base.specs.declared.control.Row.{Row}
use Rattle.mail_base.specs.declared.control.State.{State as RowState}
use Rattle.mail_base.specs.declared.control.State.TheVariants.{Dead, Failed, Queued, Returned, Sent}
use Rattle.mail_base.specs.declared.mailer.Mailer.{Mailer}
use Rattle.mail_base.specs.declared.message.Back.{Back}
use Rattle.mail_base.specs.declared.message.Message.{Message}
use Rattle.mail_base.specs.declared.outcome.Result1.{Result1}
use Rattle.mailer_pipe.specs.Ends.{ended_with}
use Rattle.link_edge.specs.declared.peer.Peer.{Peer}
use Rattle.spawn_edge.specs.declared.event.Poll.{Poll}
use Rattle.spawn_edge.specs.declared.event.Poll.TheVariants as polls
use Rattle.spawn_edge.specs.declared.event.Start.{Start}
use Rattle.spool_store.specs.Entries.{Table}
use Rattle.spool_store.specs.Queue.{IsOpen}
use Rattle.queue_table.specs.Commands.{Command, after, changed_by, control_at}
use Rattle.queue_table.specs.Commands.Command.{Return, Warn}
use Rattle.queue_table.specs.Directories.{terms_of}
use Rattle.queue_table.specs.Results.{is_old, recorded, with_returns, with_warning}
use Rattle.queue_table.specs.Soundness.{AreBounces, AreCuts, CanDo, IsBack, IsTried}
use Rattle.queue_run.specs.declared.batch.Batch.{Batch}
use Rattle.queue_run.specs.declared.letter.Letter.{Letter}
use Rattle.queue_run.specs.declared.runner.Did.TheVariants as did
use Rattle.queue_run.specs.Deeds.{Asks, Deed, Given, Launch, Polls, Starts as Launches, Talk, Talks as Delivers}
use Rattle.queue_run.specs.Holders.{Attempt, Holder}
use Rattle.queue_run.specs.Handovers.{IsHandover}
use Rattle.queue_run.specs.Kinds.{Kind, Returns, Starts, Talks, Warns}
use Rattle.queue_run.specs.Backs.{Drawer}
use Rattle.queue_run.specs.Meant.{Ground, IsBounceOf, IsLetter, IsLetterOf, IsMeant, IsTalkOf, IsWarningOf, ground_by, ground_of, host_of}
use Rattle.queue_run.specs.Ready.{AreAllApart, AreApart, IsUntried}
use Rattle.queue_run.specs.Results.{alike, device_fault, too_large}
use Rattle.queue_run.specs.Steps.{Begins, Ends, Gives, Luck, Misses, Stepped, Tells, asks, at_rest, does, record_of, records, running_for, without_first}
use Rattle.queue_run.proofs.ReadyLemmas.{still_untried}
use Rattle.mail_core.specs.Attempts.{AreAscending, IsBatchOf, IsChildFor, IsMailerOf, IsTriedBatch}
use Rattle.mail_core.specs.Effects.{Does, Effect, table_after}
use Rattle.mail_core.specs.Sites.{Site}
use Rattle.mail_core.proofs.AscendLemmas.{AllAscend}
use Rattle.mail_core.proofs.EntryLemmas.{AreSpared, entry_found, own_recorded, own_returned, own_warned}
use Rattle.mail_core.proofs.FollowLemmas.{table_more}
use Rattle.mail_core.proofs.HeldLemmas.{AreGood, IsHeldBy, IsTrying, batches_more, held_more, idle_held, holding_more}
use Rattle.mail_core.proofs.KindLemmas.{ArePeers, Facts, IsNext, IsTryOf, SendsBounce, SendsWarning, Ways, begun, buried, delivered, exited, finished, given_back, halted, let_go, lost, missed, outgrown, settled, waited, warned}
use Rattle.mail_core.proofs.LeadLemmas.{AreFit}
use Rattle.mail_made.proofs.PartLemmas.{cuts_of_rows}
use Rattle.mail_core.specs.Keeping.{AreKeeping, IsHolding}

-- ---- open entries

failed_open : (s : RowState) (any all : Bool) → (any ≡ true → all ≡ false) → (is_failed s || any) ≡ true → (not (is_open s) && all) ≡ false
failed_open (Queued _) any all rest e = refl
failed_open Sent any all rest e = rest e
failed_open (Failed _ _) any all rest e = refl
failed_open (Returned _) any all rest e = rest e
failed_open (Dead _ _) any all rest e = rest e

queued_open : (s : RowState) (any all : Bool) → (any ≡ true → all ≡ false) → (is_queued s || any) ≡ true → (not (is_open s) && all) ≡ false
queued_open (Queued _) any all rest e = refl
queued_open Sent any all rest e = rest e
queued_open (Failed _ _) any all rest e = refl
queued_open (Returned _) any all rest e = rest e
queued_open (Dead _ _) any all rest e = rest e

failed_rows : (rows : List Row) → list_any (λ (row : Row). is_failed row.state) rows ≡ true → list_all (λ (row : Row). not (is_open row.state)) rows ≡ false
failed_rows [] e = absurd (false≢true e)
failed_rows (row ∷ rows) e = failed_open row.state (list_any (λ (r : Row). is_failed r.state) rows) (list_all (λ (r : Row). not (is_open r.state)) rows) (failed_rows rows) e

queued_rows : (rows : List Row) → list_any (λ (row : Row). is_queued row.state) rows ≡ true → list_all (λ (row : Row). not (is_open row.state)) rows ≡ false
queued_rows [] e = absurd (false≢true e)
queued_rows (row ∷ rows) e = queued_open row.state (list_any (λ (r : Row). is_queued r.state) rows) (list_all (λ (r : Row). not (is_open r.state)) rows) (queued_rows rows) e

-- ---- what a step comes to

pub record Worked (site : Site) (first : Table) (done : List Effect) (h : Holder) (x : Stepped) : Type 0 where
  pub fit : AreFit (table_after first done) (map Does x.deeds)
  pub good : AreGood site first done (map Does x.deeds)
  pub held : IfSome x.holder (IsHeldBy site first (done ++ map Does x.deeds))
  pub spared : (id : ℕ) → id ≢ h.id → AreSpared id (map Does x.deeds)
  pub keeps : (id : ℕ) → id ≢ h.id → AreKeeping id (map Does x.deeds)

same_id : (id other : ℕ) → id ≢ other → Some other ≢ Some id
same_id id other ne e = ne (sym (cc e))

module _ (d : Drawer) (site : Site) (first : Table) (done : List Effect) (moment : ℕ) (h : Holder) where
  abbrev G : Ground
  G = ground_by site.config site.maps moment d

  abbrev T : Table
  T = table_after first done

  abbrev Now : List Deed → List Effect
  Now deeds = done ++ map Does deeds

  -- the table behind a last command
  behind : (deeds : List Deed) (t : Table) → table_after T (map Does deeds) ≡ t → table_after first (Now deeds) ≡ t
  behind deeds t is = table_more first done (map Does deeds) ∙ is

  can_record : (control : Control) (places : List ℕ) (results : List Result1) → control_at h.id T.entries ≡ Some control → All (IsTried control.rows) places → CanDo T (record_of site.config moment h.id places results)
  can_record control places results there tried =
      let e = entry_found h.id T.entries control there in record {
        has = record { entry = e.entry; among = e.among; is = e.is };
        tried = subst (λ (q : Control). All (IsTried q.rows) places) (sym e.control_is) tried;
      }

  -- a batch was recorded behind other deeds that change no table
  recorded_held : (control : Control) (deeds : List Deed) (places : List ℕ) (results : List Result1) (k : Holder) → k.id ≡ h.id → k.running ≡ None → control_at h.id T.entries ≡ Some control
      → table_after first (Now deeds) ≡ after T (record_of site.config moment h.id places results)
      → All (AreApart places) k.rest → All (IsUntried control.rows) k.rest → AreAllApart k.rest → AllAscend k.rest → AreKeeping h.id (map Does deeds) → IsHolding done h.id → All (IsBatchOf site first done h.id) k.rest → IsHeldBy site first (Now deeds) k
  recorded_held control deeds places results k own idle there table others untried apart ascend keeps holding batches =
      let terms = terms_of site.config in
      idle_held site first (Now deeds) k (recorded terms places results moment control) idle
      (ap (λ (t : Table). control_at k.id t.entries) table ∙ ap (λ q. control_at q (after T (record_of site.config moment h.id places results)).entries) own ∙ own_recorded T terms h.id places results moment control there)
      (still_untried (is_old terms control.created moment) places results control.rows k.rest others untried) apart ascend (subst (IsHolding (Now deeds)) (sym own) (holding_more site first done (map Does deeds) h.id keeps holding))
      (batches_more site first done (map Does deeds) k.id k.rest (subst (λ q. All (IsBatchOf site first done q) k.rest) (sym own) batches))

  -- ---- a batch

  -- what is known of the batch that is next
  record IsReadyBatch (batch : Batch) : Type 0 where
    control : Control
    there : control_at h.id T.entries ≡ Some control
    rest : List Batch
    rest_is : h.rest ≡ batch ∷ rest
    untried : IsUntried control.rows batch
    others : All (IsUntried control.rows) rest
    apart : All (AreApart batch.places) rest
    all_apart : AreAllApart rest
    ascending : AreAscending batch.places
    ascend : AllAscend rest
    holding : IsHolding done h.id
    claimed : IsBatchOf site first done h.id batch
    batches : All (IsBatchOf site first done h.id) rest

  ready_batch : (batch : Batch) → IsHeldBy site first done h → IsNext (control_at h.id T.entries) h batch → IsReadyBatch batch
  ready_batch batch held n =
      let untried = subst (All (IsUntried held.control.rows)) n.rest_is held.untried in
      let apart = subst AreAllApart n.rest_is held.apart in
      let ascend = subst AllAscend n.rest_is held.ascend in
      let batches = subst (All (IsBatchOf site first done h.id)) n.rest_is held.batches in record {
        control = held.control;
        there = held.there;
        rest = n.rest;
        rest_is = n.rest_is;
        untried = All-head (IsUntried held.control.rows) batch n.rest untried;
        others = All-tail (IsUntried held.control.rows) batch n.rest untried;
        apart = apart.0;
        all_apart = apart.1;
        ascending = All-head (λ (b : Batch). AreAscending b.places) batch n.rest ascend;
        ascend = All-tail (λ (b : Batch). AreAscending b.places) batch n.rest ascend;
        holding = held.holding;
        claimed = All-head (IsBatchOf site first done h.id) batch n.rest batches;
        batches = All-tail (IsBatchOf site first done h.id) batch n.rest batches;
      }

  -- the rest behind it
  past_first : (batch : Batch) (b : IsReadyBatch batch) (deeds : List Deed) (results : List Result1) → AreKeeping h.id (map Does deeds) → table_after first (Now deeds) ≡ after T (record_of site.config moment h.id batch.places results) → IsHeldBy site first (Now deeds) (without_first h)
  past_first batch b deeds results keeps table =
      let rest_is : drop 1 h.rest ≡ b.rest = ap (drop 1) b.rest_is in
      recorded_held b.control deeds batch.places results (without_first h) refl refl b.there table
      (subst (All (AreApart batch.places)) (sym rest_is) b.apart) (subst (All (IsUntried b.control.rows)) (sym rest_is) b.others) (subst AreAllApart (sym rest_is) b.all_apart) (subst AllAscend (sym rest_is) b.ascend) keeps b.holding (subst (All (IsBatchOf site first done h.id)) (sym rest_is) b.batches)

  records_worked : (batch : Batch) (results : List Result1) (failed : Bool) → IsReadyBatch batch → Worked site first done h (records site.config moment T h batch [] results failed)
  records_worked batch results failed b = record {
    fit = (can_record b.control batch.places results b.there b.untried.each, tt);
    good = (b.holding, tt);
    keeps = λ id ne. (tt, tt);
    held = past_first batch b (Asks (record_of site.config moment h.id batch.places results) ∷ []) results (tt, tt) (behind (Asks (record_of site.config moment h.id batch.places results) ∷ []) (after T (record_of site.config moment h.id batch.places results)) refl);
    spared = λ id ne. (same_id id h.id ne, tt);
  }

  -- who draws rows is nothing to a letter
  letter_as : (control : Control) (mailer : Mailer) (host : List ℕ) (letter : Letter) → IsLetter G h.id control mailer host letter → IsLetter (ground_of site.config site.maps moment) h.id control mailer host letter
  letter_as control mailer host letter l = record { sender = l.sender; date = l.date; macros = l.macros; headers = l.headers; text = l.text }

  -- a batch whose letter was made
  tried_batch : (batch : Batch) (mailer : Mailer) (letter : Letter) (kind : Kind) (b : IsReadyBatch batch) → IsMailerOf site.config batch mailer → ((control : Control) → IsLetterOf G h.id (Some control) kind letter ≡ IsLetter G h.id control mailer (host_of batch.resolved) letter)
      → IsLetterOf G h.id (control_at h.id T.entries) kind letter → IsTriedBatch site first done h.id batch.places batch mailer letter
  tried_batch batch mailer letter kind b goes same meant = record {
    moment = moment;
    control = b.control;
    there = b.there;
    claimed = b.claimed;
    goes = goes;
    places_are = refl;
    ascending = b.ascending;
    tried = b.untried.each;
    letter_is = letter_as b.control mailer (host_of batch.resolved) letter (subst (λ (q : Type 0). q) (same b.control) (subst (λ q. IsLetterOf G h.id q kind letter) b.there meant));
  }

  -- ---- the ways

  spared_by : (command : Command) → changed_by command ≡ Some h.id → (id : ℕ) → id ≢ h.id → changed_by command ≢ Some id
  spared_by command own id ne e = ne (cc (sym e ∙ own))

  still_holds : (deeds : List Deed) → AreKeeping h.id (map Does deeds) → table_after T (map Does deeds) ≡ T → IsHeldBy site first done h → IsHeldBy site first (Now deeds) h
  still_holds deeds keeps same held = held_more site first done (map Does deeds) h held keeps (ap (λ (t : Table). control_at h.id t.entries) (behind deeds T same) ∙ held.there)

  -- a child's end is recorded
  over_worked : (r : Attempt) (poll : Poll) (result : Result1) (failed : Bool) → h.running ≡ Some r → IsHeldBy site first done h
      → AreGood site first done (map Does (Polls h.id r.child poll ∷ Asks (record_of site.config moment h.id r.places (alike result r.places)) ∷ []))
      → Worked site first done h (asks T (at_rest h) (Polls h.id r.child poll ∷ []) (record_of site.config moment h.id r.places (alike result r.places)) did.Recorded failed)
  over_worked r poll result failed running held good =
      let trying : IsTrying held.control.rows h.rest r = subst (λ q. IfSome q (IsTrying held.control.rows h.rest)) running held.running in
      let deeds = Polls h.id r.child poll ∷ Asks (record_of site.config moment h.id r.places (alike result r.places)) ∷ [] in
      record {
        fit = (tt, (can_record held.control r.places (alike result r.places) held.there trying.tried, tt));
        good = good;
        held = recorded_held held.control deeds r.places (alike result r.places) (at_rest h) refl refl held.there (behind deeds (after T (record_of site.config moment h.id r.places (alike result r.places))) refl) trying.apart held.untried held.apart held.ascend (tt, (tt, tt)) held.holding held.batches;
        keeps = λ id ne. (tt, (tt, tt));
        spared = λ id ne. (tt, (same_id id h.id ne, tt));
      }

  polled_holding : (r : Attempt) (poll : Poll) → IsHeldBy site first done h → IsHolding (done ++ Does (Polls h.id r.child poll) ∷ []) h.id
  polled_holding r poll held = holding_more site first done (Does (Polls h.id r.child poll) ∷ []) h.id (tt, tt) held.holding

  child_of : (r : Attempt) → h.running ≡ Some r → IsHeldBy site first done h → IsChildFor done h.id r.child r.places
  child_of r running held = subst (λ q. IfSome q (λ (a : Attempt). IsChildFor done h.id a.child a.places)) running held.started

  -- a start that gave a child
  begun_worked : (batch : Batch) (mailer : Mailer) (letter : Letter) (start : Start) (child count : ℕ) → IsReadyBatch batch → IsMailerOf site.config batch mailer
      → IsMeant G h.id (control_at h.id T.entries) (Starts batch mailer) (Begins letter start child count)
      → Worked site first done h (does T (running_for h child batch.places) (Launches h.id batch.places start (Given child count) ∷ []) did.Began)
  begun_worked batch mailer letter start child count b goes meant =
      let deed = Launches h.id batch.places start (Given child count) in
      let rest_is : drop 1 h.rest ≡ b.rest = ap (drop 1) b.rest_is in
      record {
        fit = (tt, tt);
        good = (
          record {
            batch = batch;
            mailer = mailer;
            letter = letter;
            tries = tried_batch batch mailer letter (Starts batch mailer) b goes (λ control. refl) meant.0;
            start_is = meant.1;
          },
          tt,
        );
        held = record {
          control = b.control;
          there = ap (λ (t : Table). control_at h.id t.entries) (behind (deed ∷ []) T refl) ∙ b.there;
          untried = subst (All (IsUntried b.control.rows)) (sym rest_is) b.others;
          apart = subst AreAllApart (sym rest_is) b.all_apart;
          ascend = subst AllAscend (sym rest_is) b.ascend;
          holding = holding_more site first done (Does deed ∷ []) h.id (tt, tt) b.holding;
          running = record { tried = b.untried.each; apart = subst (All (AreApart batch.places)) (sym rest_is) b.apart };
          batches = batches_more site first done (Does deed ∷ []) h.id (drop 1 h.rest) (subst (All (IsBatchOf site first done h.id)) (sym rest_is) b.batches);
          started = record { start = start; missed = count; among = Contains-push done (Does deed) };
        };
        spared = λ id ne. (tt, tt);
        keeps = λ id ne. (tt, tt);
      }

  -- one that gave none
  missed_worked : (batch : Batch) (mailer : Mailer) (letter : Letter) (start : Start) (launch : Launch) (failed : Bool) → IsReadyBatch batch → IsMailerOf site.config batch mailer
      → IsMeant G h.id (control_at h.id T.entries) (Starts batch mailer) (Misses letter start launch failed)
      → Worked site first done h (records site.config moment T h batch (Launches h.id batch.places start launch ∷ []) (alike device_fault batch.places) failed)
  missed_worked batch mailer letter start launch failed b goes meant =
      let results = alike device_fault batch.places in
      let deeds = Launches h.id batch.places start launch ∷ Asks (record_of site.config moment h.id batch.places results) ∷ [] in
      record {
        fit = (tt, (can_record b.control batch.places results b.there b.untried.each, tt));
        good = (
          record {
            batch = batch;
            mailer = mailer;
            letter = letter;
            tries = tried_batch batch mailer letter (Starts batch mailer) b goes (λ control. refl) meant.0;
            start_is = meant.1;
          },
          (holding_more site first done (Does (Launches h.id batch.places start launch) ∷ []) h.id (tt, tt) b.holding, tt),
        );
        keeps = λ id ne. (tt, (tt, tt));
        held = past_first batch b deeds results (tt, (tt, tt)) (behind deeds (after T (record_of site.config moment h.id batch.places results)) refl);
        spared = λ id ne. (tt, (same_id id h.id ne, tt));
      }

  -- a delivery to peers
  talked_worked : (batch : Batch) (mailer : Mailer) (peers : List Peer) (letter : Letter) (talk : Talk) (failed : Bool) (b : IsReadyBatch batch) → IsMailerOf site.config batch mailer → ArePeers site.config site.maps h b.control batch mailer peers
      → IsMeant G h.id (control_at h.id T.entries) (Talks batch mailer peers) (Ends letter talk failed)
      → Worked site first done h (records site.config moment T h batch (Delivers h.id batch.places talk ∷ []) talk.results failed)
  unfolding tried_batch
  talked_worked batch mailer peers letter talk failed b goes peers_are meant =
      let talk_of = subst (λ q. IsTalkOf G q (Talks batch mailer peers) letter talk) b.there meant.1 in
      let deeds = Delivers h.id batch.places talk ∷ Asks (record_of site.config moment h.id batch.places talk.results) ∷ [] in
      record {
        fit = (tt, (can_record b.control batch.places talk.results b.there b.untried.each, tt));
        good = (
          record {
            batch = batch;
            mailer = mailer;
            letter = letter;
            tries = tried_batch batch mailer letter (Talks batch mailer peers) b goes (λ control. refl) meant.0;
            handed = subst (λ q. IsHandover site.config b.control batch mailer q letter talk) peers_are talk_of;
            moment = moment;
            rest = [];
            recorded = refl;
          },
          (holding_more site first done (Does (Delivers h.id batch.places talk) ∷ []) h.id (tt, tt) b.holding, tt),
        );
        keeps = λ id ne. (tt, (tt, tt));
        held = past_first batch b deeds talk.results (tt, (tt, tt)) (behind deeds (after T (record_of site.config moment h.id batch.places talk.results)) refl);
        spared = λ id ne. (tt, (same_id id h.id ne, tt));
      }

  -- a message is sent for the entry
  sent_worked : (command : Command) (control now : Control) (failed : Bool) → changed_by command ≡ Some h.id → CanDo T command → IsHolding done h.id → h.running ≡ None → h.rest ≡ [] → control_at h.id (after T command).entries ≡ Some now
      → Worked site first done h (asks T h [] command did.Gave failed)
  sent_worked command control now failed own can holding idle none there = record {
    fit = (can, tt);
    good = (subst (λ q. IfSome q (IsHolding done)) (sym own) holding, tt);
    keeps = λ id ne. (tt, tt);
    held = idle_held site first (Now (Asks command ∷ [])) h now idle (ap (λ (t : Table). control_at h.id t.entries) (behind (Asks command ∷ []) (after T command) refl) ∙ there)
        (subst (All (IsUntried now.rows)) (sym none) (All-nil (IsUntried now.rows))) (subst AreAllApart (sym none) tt) (subst AllAscend (sym none) (All-nil (λ (b : Batch). AreAscending b.places))) (holding_more site first done (Does (Asks command) ∷ []) h.id (tt, tt) holding)
        (subst (All (IsBatchOf site first (Now (Asks command ∷ [])) h.id)) (sym none) (All-nil (IsBatchOf site first (Now (Asks command ∷ [])) h.id)));
    spared = λ id ne. (spared_by command own id ne, tt);
  }

  can_return : (control : Control) (bounces : List Back) → control_at h.id T.entries ≡ Some control → has_failed control ≡ true → AreBounces (wants_bounce control) bounces → CanDo T (Return (terms_of site.config) h.id bounces moment)
  can_return control bounces there failed are =
      let e = entry_found h.id T.entries control there in record {
        has = record { entry = e.entry; among = e.among; is = e.is };
        waits = subst IsOpen (sym e.control_is) (failed_rows control.rows failed);
        bounces_are = subst (λ (q : Control). AreBounces (wants_bounce q) bounces) (sym e.control_is) are;
      }

  can_warn : (control : Control) (warning : Back) → control_at h.id T.entries ≡ Some control → has_queued control ≡ true → AreCuts warning.cuts → CanDo T (Warn (terms_of site.config) h.id (warning ∷ []) moment)
  can_warn control warning there queued cuts =
      let e = entry_found h.id T.entries control there in record {
        has = record { entry = e.entry; among = e.among; is = e.is };
        waits = subst IsOpen (sym e.control_is) (queued_rows control.rows queued);
        warning = warning;
        one = refl;
        cuts = cuts;
      }

  next_of : (kind : Kind) (batch : Batch) → IsTryOf batch kind → Facts site.config site.maps (control_at h.id T.entries) h kind → IsNext (control_at h.id T.entries) h batch
  next_of (Starts other mailer) batch try facts = subst (IsNext (control_at h.id T.entries) h) (sym try) facts.next
  next_of (Talks other mailer peers) batch try facts = subst (IsNext (control_at h.id T.entries) h) (sym try) facts.next
  next_of kind batch try facts = absurd try

  -- what is sent is a bounce
  bounce_of : (luck : Luck) (control : Control) (bounce : Back) → SendsBounce luck bounce → control_at h.id T.entries ≡ Some control → IsMeant G h.id (control_at h.id T.entries) Returns luck → IsBack bounce
  bounce_of (Gives body rows back failed) control bounce sent there meant =
      let now = subst (λ q. IsBounceOf G Returns q body rows back) there meant in
      let cuts = cuts_of_rows site.config site.maps site.config.macros rows back.cuts now.1.drawn.some now.1.parts in
      subst IsBack sent (record { cuts = cuts; marked = ap (λ (q : Message). q.marks.bounce) now.0.is })
  bounce_of luck control bounce sent there meant = absurd sent

  -- or a warning
  warning_of : (luck : Luck) (control : Control) (warning : Back) → SendsWarning luck warning → control_at h.id T.entries ≡ Some control → IsMeant G h.id (control_at h.id T.entries) Warns luck → AreCuts warning.cuts
  warning_of (Tells rows back failed) control warning sent there meant =
      let now = subst (λ q. IsWarningOf G Warns q rows back) there meant in
      subst (λ (q : Back). AreCuts q.cuts) sent (cuts_of_rows site.config site.maps site.config.macros rows back.cuts now.1.drawn.some now.1.parts)
  warning_of luck control warning sent there meant = absurd sent

  pub worked : (kind : Kind) (luck : Luck) (x : Stepped) → Ways site.config moment T h kind luck x → Facts site.config site.maps (control_at h.id T.entries) h kind → IsMeant G h.id (control_at h.id T.entries) kind luck
      → IsHeldBy site first done h → Worked site first done h x
  worked kind luck x (halted _ _ halt) facts meant held = record { fit = tt; good = tt; held = still_holds [] tt refl held; spared = λ id ne. tt; keeps = λ id ne. tt }
  worked kind luck x (waited r) facts meant held = record { fit = (tt, tt); good = (tt, tt); held = still_holds (Polls h.id r.child polls.Runs ∷ []) (tt, tt) refl held; spared = λ id ne. (tt, tt); keeps = λ id ne. (tt, tt) }
  worked kind luck x (exited r status failed) facts meant held =
      over_worked r (polls.Over status) (ended_with status) failed facts held (record { places = r.places; started = child_of r facts held; moment = moment; rest = []; recorded = refl }, (polled_holding r (polls.Over status) held, tt))
  worked kind luck x (lost r failed) facts meant held = over_worked r polls.Lost device_fault failed facts held (tt, (polled_holding r polls.Lost held, tt))
  worked kind luck x (settled batch result failed) facts meant held = records_worked batch (alike result batch.places) failed (ready_batch batch held facts)
  worked kind luck x (outgrown _ batch letter failed try) facts meant held = records_worked batch (alike too_large batch.places) failed (ready_batch batch held (next_of kind batch try facts))
  worked kind luck x (begun batch mailer letter start child count) facts meant held = begun_worked batch mailer letter start child count (ready_batch batch held facts.next) facts.goes meant
  worked kind luck x (missed batch mailer letter start launch failed none) facts meant held = missed_worked batch mailer letter start launch failed (ready_batch batch held facts.next) facts.goes meant
  worked kind luck x (delivered batch mailer peers letter talk failed) facts meant held =
      let b = ready_batch batch held facts.next in
      let one : facts.next.control ≡ b.control = cc (sym facts.next.found_is ∙ b.there) in
      talked_worked batch mailer peers letter talk failed b facts.goes (subst (λ q. ArePeers site.config site.maps h q batch mailer peers) one facts.holds) meant
  worked kind luck x (given_back _ bounce failed sent) facts meant held =
      sent_worked (Return (terms_of site.config) h.id (bounce ∷ []) moment) facts.control (with_returns T.next facts.control) failed refl
      (can_return facts.control (bounce ∷ []) facts.found_is facts.holds.0 (subst (λ b. AreBounces b (bounce ∷ [])) (sym facts.holds.1) (bounce, refl, bounce_of luck facts.control bounce sent facts.found_is meant)))
      held.holding facts.idle facts.rest_is (own_returned T (terms_of site.config) h.id (bounce ∷ []) moment facts.control facts.found_is)
  worked kind luck x (buried _ failed) facts meant held =
      sent_worked (Return (terms_of site.config) h.id [] moment) facts.control (with_returns T.next facts.control) failed refl
      (can_return facts.control [] facts.found_is facts.holds.0 (subst (λ b. AreBounces b []) (sym facts.holds.1) refl))
      held.holding facts.idle facts.rest_is (own_returned T (terms_of site.config) h.id [] moment facts.control facts.found_is)
  worked kind luck x (warned _ warning failed sent) facts meant held =
      sent_worked (Warn (terms_of site.config) h.id (warning ∷ []) moment) facts.control (with_warning facts.control) failed refl
      (can_warn facts.control warning facts.found_is facts.holds (warning_of luck facts.control warning sent facts.found_is meant))
      held.holding facts.idle facts.rest_is (own_warned T (terms_of site.config) h.id (warning ∷ []) moment facts.control facts.found_is)
  worked kind luck x (finished _ failed) facts meant held = record { fit = (tt, (tt, tt)); good = (tt, (tt, tt)); held = tt; spared = λ id ne. (tt, (tt, tt)); keeps = λ id ne. (tt, ((λ e. ne (sym e)), tt)) }
  worked kind luck x (let_go _) facts meant held = record { fit = (tt, tt); good = (tt, tt); held = tt; spared = λ id ne. (tt, tt); keeps = λ id ne. ((λ e. ne (sym e)), tt) }
