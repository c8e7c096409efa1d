-- Laws on attempts and on what came of them.
use Rattle.std.proofs.Common.{◌≡◌, ◌≢◌, ⊎_elim, ℕ, ℤ, zero, suc, ◌<◌, List, [], ◌∷◌, ◌++◌, Bool, Some, length, refl, sym, ◌∙◌, ap, subst, arith, append_assoc}
use Rattle.std.specs.Prelude.{All, Contains, slice_get, IfSome}
use Rattle.std.proofs.lemmas.Option.{get_or_from_slice_get, none-some, same_Some, slice_get_within}
use Rattle.std.proofs.lemmas.List.Elements.{All-contains, All-head, All-tail, Contains-get_or}
use Rattle.mail_base.specs.declared.config.Config.{Config}
use Rattle.mail_base.specs.declared.control.Control.{Control}
use Rattle.mail_base.specs.declared.control.Row.{Row}
use Rattle.mail_base.specs.declared.control.State.{State as RowState}
use Rattle.mail_base.specs.declared.control.State.TheVariants.{Sent}
use Rattle.mail_base.specs.declared.outcome.Result1.TheVariants.{Sent as WasSent}
use Rattle.mailer_pipe.specs.Ends.{ended_with}
use Rattle.spawn_edge.specs.declared.event.Poll.TheVariants.{Over}
use Rattle.spawn_edge.specs.declared.event.Start.{Start}
use Rattle.spool_store.specs.Entries.{Stored, Table}
use Rattle.spool_store.proofs.Standing.{contains_cases}
use Rattle.queue_table.specs.Commands.{after, control_at, changed_by, Command}
use Rattle.queue_table.specs.Directories.{terms_of}
use Rattle.queue_table.specs.Results.{state_after, is_old, recorded, restated, with_results}
use Rattle.queue_table.specs.Soundness.{CanDo, IsSound, IsTried}
use Rattle.queue_run.specs.Deeds.{Asks, Claims, Files, Frees, Launch, Polls, Starts, Talk, Talks}
use Rattle.queue_run.specs.Results.{alike}
use Rattle.queue_run.specs.Steps.{record_of}
use Rattle.mail_core.specs.Attempts.{AreAscending, IsDelivery, IsEndRecorded, IsStart, IsTryOfRow, WereSent}
use Rattle.mail_core.specs.Effects.{Does, Effect, HangsUp, Sends, Takes, Ticks, table_after}
use Rattle.mail_core.specs.Judges.{untold}
use Rattle.mail_core.specs.Lasting.{IsSentAt, Lasts}
use Rattle.mail_core.specs.Machine.{Turn, run}
use Rattle.mail_core.specs.Meant.{IsRunMeant}
use Rattle.mail_core.specs.Sites.{Site}
use Rattle.mail_core.specs.States.{State}
use Rattle.mail_core.proofs.EntryLemmas.{entry_found, own_recorded, sound_after}
use Rattle.mail_core.proofs.FollowLemmas.{table_more}
use Rattle.mail_core.proofs.HeldLemmas.{AreGood, IsGood, good_at}
use Rattle.mail_core.proofs.LastLemmas.{Going, found_by_id, lasts_along, sent_along, sent_untried}
use Rattle.mail_core.proofs.LeadLemmas.{AreFit}
use Rattle.mail_core.proofs.RunsLemmas.{begins_works}
use Rattle.mail_base.specs.declared.outcome.Result1.{Result1}
use Rattle.mail_core.specs.Keeping.{IsHolding}

-- ---- fit effects, in parts

pub fit_parts : (table : Table) (xs ys : List Effect) → AreFit table (xs ++ ys) → AreFit table xs × AreFit (table_after table xs) ys
fit_parts table [] ys fit = (tt, fit)
fit_parts table (x ∷ xs) ys fit =
    let rest = fit_parts (table_after table (x ∷ [])) xs ys fit.1 in
    ((fit.0, rest.0), subst (λ t. AreFit t ys) (sym (table_more table (x ∷ []) xs)) rest.1)

-- ---- what a run from its beginning has

module _ (site : Site) (m : State) (turns : List Turn) where
  pub good_of : m.seats ≡ [] → IsSound m.table → IsRunMeant untold site m turns → (done : List Effect) (effect : Effect) (later : List Effect) → (run site m turns).effects ≡ done ++ effect ∷ later → IsGood site m.table done effect later
  good_of none sound meant done effect later is =
      let works = begins_works untold site m turns none sound meant in
      good_at site m.table [] done effect later (subst (AreGood site m.table []) is works.good)

  fit_of : m.seats ≡ [] → IsSound m.table → IsRunMeant untold site m turns → (effects : List Effect) → (run site m turns).effects ≡ effects → AreFit m.table effects
  fit_of none sound meant effects is = let works = begins_works untold site m turns none sound meant in subst (AreFit m.table) is works.fit

  pub start_law : m.seats ≡ [] → IsSound m.table → IsRunMeant untold site m turns → (done : List Effect) (id : ℕ) (places : List ℕ) (start : Start) (launch : Launch) (later : List Effect)
      → (run site m turns).effects ≡ done ++ Does (Starts id places start launch) ∷ later → IsStart site m.table done id places start
  start_law none sound meant done id places start launch later is = good_of none sound meant done (Does (Starts id places start launch)) later is

  pub delivery_law : m.seats ≡ [] → IsSound m.table → IsRunMeant untold site m turns → (done : List Effect) (id : ℕ) (places : List ℕ) (talk : Talk) (later : List Effect)
      → (run site m turns).effects ≡ done ++ Does (Talks id places talk) ∷ later → IsDelivery site m.table done id places talk later
  delivery_law none sound meant done id places talk later is = good_of none sound meant done (Does (Talks id places talk)) later is

  pub end_law : m.seats ≡ [] → IsSound m.table → IsRunMeant untold site m turns → (done : List Effect) (id child : ℕ) (status : ℤ) (later : List Effect)
      → (run site m turns).effects ≡ done ++ Does (Polls id child (Over status)) ∷ later → IsEndRecorded site done id child status later
  end_law none sound meant done id child status later is = good_of none sound meant done (Does (Polls id child (Over status))) later is

  -- each change of an entry is of one who holds it
  pub change_law : m.seats ≡ [] → IsSound m.table → IsRunMeant untold site m turns → (done : List Effect) (command : Command) (later : List Effect) (id : ℕ)
      → (run site m turns).effects ≡ done ++ Does (Asks command) ∷ later → changed_by command ≡ Some id → IsHolding done id
  change_law none sound meant done command later id is own = subst (λ q. IfSome q (IsHolding done)) own (good_of none sound meant done (Does (Asks command)) later is)

  table_end : m.seats ≡ [] → IsSound m.table → IsRunMeant untold site m turns → (run site m turns).state.table ≡ table_after m.table (run site m turns).effects
  table_end none sound meant = let works = begins_works untold site m turns none sound meant in works.come.table_is

  -- ---- entries last

  pub lasts_law : Going → m.seats ≡ [] → IsSound m.table → IsRunMeant untold site m turns → (s : Stored) → Contains m.table.entries s → Lasts (run site m turns).state.table s
  lasts_law going none sound meant s among =
      subst (λ t. Lasts t s) (sym (table_end none sound meant)) (lasts_along going m.table (run site m turns).effects s sound (fit_of none sound meant (run site m turns).effects refl) among)

  -- ---- rows that were sent

  pub tried_at : (first : Table) (done : List Effect) (effect : Effect) (later : List Effect) (id place : ℕ) → IsSound (table_after first done) → IsGood site first done effect later → IsTryOfRow effect id place → IsSentAt (table_after first done) id place → ⊥
  tried_at first done (Does (Starts other places start launch)) later id place sound good try sent =
      let tries = good.tries in
      sent_untried (table_after first done) id place tries.control sound sent (ap (λ q. control_at q (table_after first done).entries) (sym try.0) ∙ tries.there) (All-contains (IsTried tries.control.rows) places place tries.tried try.1)
  tried_at first done (Does (Talks other places talk)) later id place sound good try sent =
      let tries = good.tries in
      sent_untried (table_after first done) id place tries.control sound sent (ap (λ q. control_at q (table_after first done).entries) (sym try.0) ∙ tries.there) (All-contains (IsTried tries.control.rows) places place tries.tried try.1)
  tried_at first done (Does (Claims other rows)) later id place sound good try sent = absurd try
  tried_at first done (Does (Frees other)) later id place sound good try sent = absurd try
  tried_at first done (Does (Files other)) later id place sound good try sent = absurd try
  tried_at first done (Does (Asks command)) later id place sound good try sent = absurd try
  tried_at first done (Does (Polls other child poll)) later id place sound good try sent = absurd try
  tried_at first done (Takes event) later id place sound good try sent = absurd try
  tried_at first done (Ticks reading) later id place sound good try sent = absurd try
  tried_at first done (Sends session text whole) later id place sound good try sent = absurd try
  tried_at first done (HangsUp session) later id place sound good try sent = absurd try

  pub tried_law : Going → m.seats ≡ [] → IsSound m.table → IsRunMeant untold site m turns → (done between : List Effect) (effect : Effect) (later : List Effect) (id place : ℕ)
      → (run site m turns).effects ≡ done ++ (between ++ effect ∷ later) → IsSentAt (table_after m.table done) id place → IsTryOfRow effect id place → ⊥
  tried_law going none sound meant done between effect later id place is sent try =
      let whole : (run site m turns).effects ≡ (done ++ between) ++ effect ∷ later = is ∙ sym (append_assoc done between (effect ∷ later)) in
      let fit = fit_parts m.table done (between ++ effect ∷ later) (fit_of none sound meant (done ++ (between ++ effect ∷ later)) is) in
      let more = fit_parts (table_after m.table done) between (effect ∷ later) fit.1 in
      let sound_done = sound_after m.table done sound fit.0 in
      let same = table_more m.table done between in
      let sent_then = subst (λ t. IsSentAt t id place) (sym same) (sent_along going (table_after m.table done) between id place sound_done more.0 sent) in
      let sound_then = subst IsSound (sym same) (sound_after (table_after m.table done) between sound_done more.0) in
      tried_at m.table (done ++ between) effect later id place sound_then (good_of none sound meant (done ++ between) effect later whole) try sent_then

-- ---- what is recorded

-- the row at a place has a state
record IsRowAs (rows : List Row) (place : ℕ) (state : RowState) : Type 0 where
  row : Row
  there : slice_get rows place ≡ Some row
  is : row.state ≡ state

restated_row : (place : ℕ) (state : RowState) (rows : List Row) → place < length rows → IsRowAs (restated place state rows) place state
restated_row place state [] lt = absurd (omega (arith, lt))
restated_row zero state (row ∷ rows) lt = record { row = record row { state = state }; there = refl; is = refl }
restated_row (suc place) state (row ∷ rows) lt = let r = restated_row place state rows (omega (arith, lt)) in record { row = r.row; there = r.there; is = r.is }

restated_long : (place : ℕ) (state : RowState) (rows : List Row) → length (restated place state rows) ≡ length rows
restated_long place state [] = refl
restated_long zero state (row ∷ rows) = refl
restated_long (suc place) state (row ∷ rows) = let ih = restated_long place state rows in omega (arith, ih)

-- a row that has a state keeps it where each row that is changed gets it
kept_row : (place other : ℕ) (state : RowState) (rows : List Row) → IsRowAs rows place state → IsRowAs (restated other state rows) place state
kept_row place other state [] r = r
kept_row zero zero state (row ∷ rows) r = record { row = record row { state = state }; there = refl; is = refl }
kept_row zero (suc other) state (row ∷ rows) r = record { row = r.row; there = r.there; is = r.is }
kept_row (suc place) zero state (row ∷ rows) r = record { row = r.row; there = r.there; is = r.is }
kept_row (suc place) (suc other) state (row ∷ rows) r = let k = kept_row place other state rows (record { row = r.row; there = r.there; is = r.is }) in record { row = k.row; there = k.there; is = k.is }

-- another row keeps its state
other_row : (place other : ℕ) (now state : RowState) (rows : List Row) → other ≢ place → IsRowAs rows place state → IsRowAs (restated other now rows) place state
other_row place other now state [] ne r = r
other_row zero zero now state (row ∷ rows) ne r = absurd (ne refl)
other_row zero (suc other) now state (row ∷ rows) ne r = record { row = r.row; there = r.there; is = r.is }
other_row (suc place) zero now state (row ∷ rows) ne r = record { row = r.row; there = r.there; is = r.is }
other_row (suc place) (suc other) now state (row ∷ rows) ne r =
    let k = other_row place other now state rows (λ e. ne (ap suc e)) (record { row = r.row; there = r.there; is = r.is }) in
    record { row = k.row; there = k.there; is = k.is }

kept_rows : (old : Bool) (places : List ℕ) (rows : List Row) (place : ℕ) → IsRowAs rows place Sent → IsRowAs (with_results old places (alike WasSent places) rows) place Sent
kept_rows old [] rows place r = r
kept_rows old (p ∷ ps) rows place r = kept_rows old ps (restated p Sent rows) place (kept_row place p Sent rows r)

-- each row of a batch that was sent is recorded so
recorded_rows : (old : Bool) (places : List ℕ) (rows : List Row) (place : ℕ) → Contains places place → place < length rows → IsRowAs (with_results old places (alike WasSent places) rows) place Sent
recorded_rows old [] rows place among lt = absurd (let none = among.1 in omega (arith, none))
recorded_rows old (p ∷ ps) rows place among lt = ⊎_elim
    (λ (same : p ≡ place). kept_rows old ps (restated p Sent rows) place (subst (λ q. IsRowAs (restated q Sent rows) place Sent) (sym same) (restated_row place Sent rows lt)))
    (λ (later : Contains ps place). let long = restated_long p Sent rows in recorded_rows old ps (restated p Sent rows) place later (omega (arith, lt, long)))
    (contains_cases p place ps among)

pub record_sent : (config : Config) (moment : ℕ) (table : Table) (id : ℕ) (places : List ℕ) (place : ℕ) → IsSound table → CanDo table (record_of config moment id places (alike WasSent places)) → Contains places place
    → IsSentAt (after table (record_of config moment id places (alike WasSent places))) id place
record_sent config moment table id places place sound can among =
    let s = can.has.entry in
    let terms = terms_of config in
    let there = ap (λ q. control_at q table.entries) (sym can.has.is) ∙ found_by_id table.entries s sound.ascending can.has.among in
    let now = recorded terms places (alike WasSent places) moment s.control in
    let e = entry_found id (after table (record_of config moment id places (alike WasSent places))).entries now (own_recorded table terms id places (alike WasSent places) moment s.control there) in
    let tried = All-contains (IsTried s.control.rows) places place can.tried among in
    let r = recorded_rows (is_old terms s.control.created moment) places s.control.rows place among tried.within in
    record {
      entry = e.entry;
      among = e.among;
      is = e.is;
      row = r.row;
      there = ap (λ (q : Control). slice_get q.rows place) e.control_is ∙ r.there;
      sent = r.is;
    }

module _ (site : Site) (m : State) (turns : List Turn) where
  -- a success that was read is in the table at the end
  pub success_law : Going → m.seats ≡ [] → IsSound m.table → IsRunMeant untold site m turns → (done : List Effect) (id child : ℕ) (status : ℤ) (later : List Effect)
      → (run site m turns).effects ≡ done ++ Does (Polls id child (Over status)) ∷ later → ended_with status ≡ WasSent → WereSent (run site m turns).state.table done id child
  success_law going none sound meant done id child status later is success =
      let e = end_law site m turns none sound meant done id child status later is in
      let poll = Does (Polls id child (Over status)) in
      let command = record_of site.config e.moment id e.places (alike WasSent e.places) in
      let recorded_is : later ≡ Does (Asks command) ∷ e.rest = e.recorded ∙ ap (λ q. Does (Asks (record_of site.config e.moment id e.places (alike q e.places))) ∷ e.rest) success in
      let whole : (run site m turns).effects ≡ (done ++ poll ∷ []) ++ Does (Asks command) ∷ e.rest = is ∙ ap (λ q. done ++ poll ∷ q) recorded_is ∙ sym (append_assoc done (poll ∷ []) (Does (Asks command) ∷ e.rest)) in
      let fit = fit_parts m.table (done ++ poll ∷ []) (Does (Asks command) ∷ e.rest) (fit_of site m turns none sound meant ((done ++ poll ∷ []) ++ Does (Asks command) ∷ e.rest) whole) in
      let T = table_after m.table (done ++ poll ∷ []) in
      let sound_T = sound_after m.table (done ++ poll ∷ []) sound fit.0 in
      let sound_now : IsSound (after T command) = sound_after T (Does (Asks command) ∷ []) sound_T (fit.1.0, tt) in
      let end = table_end site m turns none sound meant ∙ ap (table_after m.table) whole ∙ table_more m.table (done ++ poll ∷ []) (Does (Asks command) ∷ e.rest) in
      record {
        places = e.places;
        started = e.started;
        sent = λ place among. subst (λ t. IsSentAt t id place) (sym end)
            (sent_along going (after T command) e.rest id place sound_now fit.1.1 (record_sent site.config e.moment T id e.places place sound_T fit.1.0 among));
      }

-- ---- a delivery

-- a row that stands before all that are changed keeps its state
kept_before : (old : Bool) (places : List ℕ) (results : List Result1) (rows : List Row) (place : ℕ) (state : RowState) → All (λ other. place < other) places → IsRowAs rows place state → IsRowAs (with_results old places results rows) place state
kept_before old [] results rows place state below r = r
kept_before old (p ∷ ps) [] rows place state below r = r
kept_before old (p ∷ ps) (x ∷ xs) rows place state below r =
    let lt = All-head (λ other. place < other) p ps below in
    kept_before old ps xs (restated p (state_after old x) rows) place state (All-tail (λ other. place < other) p ps below) (other_row place p (state_after old x) state rows (λ e. omega (arith, lt, e)) r)

-- the row at each place of ascending ones gets what its result makes of it
result_row : (old : Bool) (places : List ℕ) (results : List Result1) (rows : List Row) (at place : ℕ) (one : Result1) → AreAscending places → slice_get places at ≡ Some place → slice_get results at ≡ Some one → place < length rows
    → IsRowAs (with_results old places results rows) place (state_after old one)
result_row old [] results rows at place one up there is lt = absurd (none-some place there)
result_row old (p ∷ ps) [] rows at place one up there is lt = absurd (none-some one is)
result_row old (p ∷ ps) (x ∷ xs) rows zero place one up there is lt =
    let same : p ≡ place = same_Some p place there in
    let result : x ≡ one = same_Some x one is in
    kept_before old ps xs (restated p (state_after old x) rows) place (state_after old one) (subst (λ q. All (λ other. q < other) ps) same up.0)
    (subst (λ q. IsRowAs (restated q (state_after old x) rows) place (state_after old one)) (sym same) (subst (λ q. IsRowAs (restated place (state_after old q) rows) place (state_after old one)) (sym result) (restated_row place (state_after old one) rows lt)))
result_row old (p ∷ ps) (x ∷ xs) rows (suc at) place one up there is lt =
    let long = restated_long p (state_after old x) rows in
    result_row old ps xs (restated p (state_after old x) rows) at place one up.1 there is (omega (arith, lt, long))

pub result_sent : (config : Config) (moment : ℕ) (table : Table) (id : ℕ) (places : List ℕ) (results : List Result1) (at place : ℕ) → IsSound table → CanDo table (record_of config moment id places results) → AreAscending places
    → slice_get places at ≡ Some place → slice_get results at ≡ Some WasSent → IsSentAt (after table (record_of config moment id places results)) id place
result_sent config moment table id places results at place sound can up there is =
    let s = can.has.entry in
    let terms = terms_of config in
    let found = ap (λ q. control_at q table.entries) (sym can.has.is) ∙ found_by_id table.entries s sound.ascending can.has.among in
    let now = recorded terms places results moment s.control in
    let e = entry_found id (after table (record_of config moment id places results)).entries now (own_recorded table terms id places results moment s.control found) in
    let among = subst (Contains places) (get_or_from_slice_get places at place place there) (Contains-get_or places at place (slice_get_within places at place there)) in
    let tried = All-contains (IsTried s.control.rows) places place can.tried among in
    let r = result_row (is_old terms s.control.created moment) places results s.control.rows at place WasSent up there is tried.within in
    record {
      entry = e.entry;
      among = e.among;
      is = e.is;
      row = r.row;
      there = ap (λ (q : Control). slice_get q.rows place) e.control_is ∙ r.there;
      sent = r.is;
    }

module _ (site : Site) (m : State) (turns : List Turn) where
  -- a row that a peer took is sent in the table at the end
  pub taken_law : Going → m.seats ≡ [] → IsSound m.table → IsRunMeant untold site m turns → (done : List Effect) (id : ℕ) (places : List ℕ) (talk : Talk) (later : List Effect) (at place : ℕ)
      → (run site m turns).effects ≡ done ++ Does (Talks id places talk) ∷ later → slice_get places at ≡ Some place → slice_get talk.results at ≡ Some WasSent → IsSentAt (run site m turns).state.table id place
  taken_law going none sound meant done id places talk later at place is there success =
      let e = delivery_law site m turns none sound meant done id places talk later is in
      let deed = Does (Talks id places talk) in
      let command = record_of site.config e.moment id places talk.results in
      let whole : (run site m turns).effects ≡ (done ++ deed ∷ []) ++ Does (Asks command) ∷ e.rest = is ∙ ap (λ q. done ++ deed ∷ q) e.recorded ∙ sym (append_assoc done (deed ∷ []) (Does (Asks command) ∷ e.rest)) in
      let fit = fit_parts m.table (done ++ deed ∷ []) (Does (Asks command) ∷ e.rest) (fit_of site m turns none sound meant ((done ++ deed ∷ []) ++ Does (Asks command) ∷ e.rest) whole) in
      let T = table_after m.table (done ++ deed ∷ []) in
      let sound_T = sound_after m.table (done ++ deed ∷ []) sound fit.0 in
      let sound_now : IsSound (after T command) = sound_after T (Does (Asks command) ∷ []) sound_T (fit.1.0, tt) in
      let end = table_end site m turns none sound meant ∙ ap (table_after m.table) whole ∙ table_more m.table (done ++ deed ∷ []) (Does (Asks command) ∷ e.rest) in
      subst (λ t. IsSentAt t id place) (sym end)
      (sent_along going (after T command) e.rest id place sound_now fit.1.1 (result_sent site.config e.moment T id places talk.results at place sound_T fit.1.0 e.tries.ascending there success))
