-- A run that ends in a runner's step since ids are spent has fewer of them left than a message may
-- have rows, and the spool fails only in a step.
use Rattle.std.proofs.Common.{◌≡◌, ◌≢◌, ℕ, ◌+◌, ◌<◌, ◌≤◌, List, [], ◌∷◌, Bool, true, false, not, Option, Some, None, if◌then◌else◌, length, refl, sym, ◌∙◌, ap, subst, arith}
use Rattle.std.specs.Prelude.{sum_by}
use Rattle.mail_core.specs.inner.Turns.{luck_in}
use Rattle.std.specs.Option.{option_map}
use Rattle.std.proofs.lemmas.Bool.{ltb-true}
use Rattle.mail_base.specs.Limits.{most_rows}
use Rattle.mail_base.specs.declared.config.Config.{Config}
use Rattle.mail_base.specs.declared.control.Control.{Control}
use Rattle.mail_base.specs.declared.draw.Draw.{Draw}
use Rattle.mail_base.specs.declared.id.TheConstants.Id.{MOST}
use Rattle.mail_base.specs.declared.mailer.Mailer.{Mailer}
use Rattle.mail_base.specs.declared.message.Back.{Back}
use Rattle.mail_base.specs.declared.message.Cut.{Cut}
use Rattle.mail_base.specs.declared.outcome.Result1.{Result1}
use Rattle.map_tables.specs.Answers.{Loaded}
use Rattle.ruleset_run.specs.Sites.{Macros}
use Rattle.spawn_edge.specs.declared.event.Start.{Start}
use Rattle.spool_store.specs.Entries.{Stored, Table}
use Rattle.queue_plan.specs.Cuts.{AreParts}
use Rattle.queue_plan.specs.Rows.{distinct, same_row}
use Rattle.queue_plan.proofs.CountLemmas.{few_parts}
use Rattle.queue_plan.proofs.FitLemmas.{few_firsts}
use Rattle.queue_table.specs.Commands.{Command, control_at}
use Rattle.queue_table.specs.Commands.Command.{Return, Warn}
use Rattle.queue_table.specs.Directories.{terms_of}
use Rattle.queue_run.specs.declared.batch.Batch.{Batch}
use Rattle.queue_run.specs.declared.batch.Routed.{Routed}
use Rattle.queue_run.specs.declared.runner.Did.TheVariants as did
use Rattle.queue_run.specs.declared.runner.RunStop.{RunStop}
use Rattle.queue_run.specs.declared.runner.RunStop.TheVariants as stop
use Rattle.queue_run.specs.Backs.{AreSentTo, Drawer}
use Rattle.queue_run.specs.Deeds.{Claims, Deed, Failed, Given, Launch, Missed}
use Rattle.queue_run.specs.Holders.{Attempt, Holder}
use Rattle.queue_run.specs.Kinds.{Buries, Finishes, Kind, Leaves, Returns, Settles, Starts, Talks, Waits, Warns, kind_of}
use Rattle.queue_run.specs.Meant.{Ground, IsBounceOf, IsMeant, IsWarningOf}
use Rattle.queue_run.specs.Steps.{Begins, By as Halts, Closes, Dies, Ends, Exits, Gives, Halt, Lacks, LetsGo, Loses, Luck, Misses, Outgrows, Records, Stepped, StillRuns, Tells, Unfit, acted, asks, fails, fault_if, finishes, halts, is_large, lacks, lacks_ids, leaves, misses, settles, starts, stepped, talks, waits, where_large}
use Rattle.mail_core.specs.Holding.{can_claim, stored_at, without_id}
use Rattle.mail_core.specs.Idling.{Carrying, Claiming, Idling, Quiet, Starving, Taken, carries, claimed as claim_now, claims, ends_list, finish_of, first_running, idle, over_by, quiet, seat_for, steps, stopped, stopped_by}
use Rattle.mail_core.specs.Judges.{JudgeSeen}
use Rattle.mail_made.specs.Messages.{last_id}
use Rattle.mail_core.specs.Plans.{Once, Plan}
use Rattle.mail_core.specs.Resting.{IsCarryMeant, IsClaimMeant, IsLuckMeant, IsRestMeant, IsStopMeant, IsTakenMeant, ground_at}
use Rattle.mail_core.specs.Sites.{Site}
use Rattle.mail_core.specs.States.{By, Ending, Finish, Finished, IdsSpent, SpoolFault, Seat, State, Step, cut}
use Rattle.mail_core.proofs.KindLemmas.{Facts, kind_facts}

-- ---- ids

-- there are no more parts of distinct rows than an entry may have rows
few_cuts : (config : Config) (maps : Loaded) (macros : Macros) (rows : List Draw) (cuts : List Cut) → length rows ≤ most_rows → AreParts config maps macros (distinct rows) cuts → length cuts ≤ most_rows
few_cuts config maps macros rows cuts few p =
    let parts = few_parts config (distinct rows) p.groups in
    let stay = few_firsts same_row rows in
    let same = ap (λ (q : List Cut). length q) p.are in omega (arith, parts, stay, same, few)

few_sent : (d : Drawer) (config : Config) (maps : Loaded) (control : Control) (rows : List Draw) (cuts : List Cut) → AreSentTo d config maps control rows cuts → length cuts ≤ most_rows
few_sent d config maps control rows cuts s = few_cuts config maps config.macros rows cuts s.drawn.few s.parts

-- where an id is wanting for one of so many parts
pub wanting_back : (table : Table) (back : Back) → length back.cuts ≤ most_rows → lacks_ids table (back ∷ []) ≡ true → last_id + 1 < table.next + most_rows
unfolding last_id
wanting_back table back few e = let less = ltb-true (MOST + 1) (table.next + sum_by (λ (q : Back). length q.cuts) (back ∷ [])) e in omega (arith, few, less)

wanting_none : (table : Table) → lacks_ids table [] ≡ true → last_id + 1 < table.next + most_rows
unfolding last_id
wanting_none table e = let less = ltb-true (MOST + 1) (table.next + sum_by (λ (q : Back). length q.cuts) []) e in omega (arith, less)

-- ---- a step

-- it ends the run since ids are spent
abbrev IsSpent : Stepped → Type 0
IsSpent x = x.over ≡ Some (Halts stop.IdsSpent)

abbrev IsFew : Stepped → Type 0
IsFew x = last_id + 1 < x.table.next + most_rows

fault_unspent : (failed : Bool) → fault_if failed ≡ Some (Halts stop.IdsSpent) → ⊥
fault_unspent true e = cc e
fault_unspent false e = cc e

module _ (ground : Ground) (table : Table) (h : Holder) where
  abbrev Next : Kind → Luck → Stepped
  Next kind luck = acted ground.config ground.moment table h kind luck

  large_unspent : (b : Bool) (x : Stepped) → (IsSpent x → ⊥) → IsSpent (where_large b table h x) → ⊥
  large_unspent true x un e = un e
  large_unspent false x un e = cc e

  lacks_unspent : (reads : Bool) (cause : RunStop) → IsSpent (lacks reads table h cause) → ⊥
  lacks_unspent reads stop.NoMemory e = cc e
  lacks_unspent true stop.SpoolFault e = cc e
  lacks_unspent reads cause e = cc e

  misses_unspent : (reads : Bool) (cause : RunStop) → IsSpent (misses reads table h cause) → ⊥
  misses_unspent reads stop.NoMemory e = cc e
  misses_unspent reads stop.FilesFault e = cc e
  misses_unspent true stop.SpoolFault e = cc e
  misses_unspent reads cause e = cc e

  waits_unspent : (r : Attempt) (luck : Luck) → IsSpent (waits ground.config ground.moment table h r luck) → ⊥
  waits_unspent r StillRuns e = cc e
  waits_unspent r (Exits status failed) e = fault_unspent failed e
  waits_unspent r (Loses failed) e = fault_unspent failed e
  waits_unspent r luck e = cc e

  settles_unspent : (batch : Batch) (result : Result1) (luck : Luck) → IsSpent (settles ground.config ground.moment table h batch result luck) → ⊥
  settles_unspent batch result (Records failed) e = fault_unspent failed e
  settles_unspent batch result (Lacks cause) e = lacks_unspent false cause e
  settles_unspent batch result luck e = cc e

  fails_unspent : (batch : Batch) (start : Start) (launch : Launch) (failed : Bool) → IsSpent (fails ground.config ground.moment table h batch start launch failed) → ⊥
  fails_unspent batch start (Given child count) failed e = cc e
  fails_unspent batch start (Failed count) failed e = fault_unspent failed e
  fails_unspent batch start Missed failed e = fault_unspent failed e

  starts_unspent : (batch : Batch) (mailer : Mailer) (luck : Luck) → IsSpent (starts ground.config ground.moment table h batch mailer luck) → ⊥
  starts_unspent batch mailer (Outgrows letter failed) e = large_unspent (is_large mailer letter) _ (λ q. fault_unspent failed q) e
  starts_unspent batch mailer (Begins letter start child count) e = large_unspent (not (is_large mailer letter)) _ (λ q. cc q) e
  starts_unspent batch mailer (Misses letter start launch failed) e =
      large_unspent (not (is_large mailer letter)) (fails ground.config ground.moment table h batch start launch failed) (fails_unspent batch start launch failed) e
  starts_unspent batch mailer (Lacks cause) e = lacks_unspent true cause e
  starts_unspent batch mailer luck e = cc e

  talks_unspent : (batch : Batch) (mailer : Mailer) (luck : Luck) → IsSpent (talks ground.config ground.moment table h batch mailer luck) → ⊥
  talks_unspent batch mailer (Outgrows letter failed) e = large_unspent (is_large mailer letter) _ (λ q. fault_unspent failed q) e
  talks_unspent batch mailer (Ends letter talk failed) e = large_unspent (not (is_large mailer letter)) _ (λ q. fault_unspent failed q) e
  talks_unspent batch mailer (Lacks cause) e = lacks_unspent true cause e
  talks_unspent batch mailer luck e = cc e

  finishes_unspent : (luck : Luck) → IsSpent (finishes table h luck) → ⊥
  finishes_unspent (Closes failed) e = fault_unspent failed e
  finishes_unspent luck e = cc e

  leaves_unspent : (luck : Luck) → IsSpent (leaves table h luck) → ⊥
  leaves_unspent LetsGo e = cc e
  leaves_unspent luck e = cc e

  -- messages are sent, unless an id is wanting
  sends_spent : (command : Command) (failed b : Bool) → (b ≡ true → last_id + 1 < table.next + most_rows) → IsSpent (if b then halts table h (Halts stop.IdsSpent) else asks table h [] command did.Gave failed)
      → IsFew (if b then halts table h (Halts stop.IdsSpent) else asks table h [] command did.Gave failed)
  sends_spent command failed true few e = few refl
  sends_spent command failed false few e = absurd (fault_unspent failed e)

  module _ (found : Option Control) (control : Control) (is : found ≡ Some control) where
    returns_spent : (luck : Luck) → IsMeant ground h.id found Returns luck → IsSpent (Next Returns luck) → IsFew (Next Returns luck)
    returns_spent (Gives body rows bounce failed) meant e =
        let sent = (subst (λ (q : Option Control). IsBounceOf ground Returns q body rows bounce) is meant).1 in
        sends_spent (Return (terms_of ground.config) h.id (bounce ∷ []) ground.moment) failed (lacks_ids table (bounce ∷ []))
        (wanting_back table bounce (few_sent ground.drawer ground.config ground.maps control rows bounce.cuts sent)) e
    returns_spent (Lacks cause) meant e = absurd (misses_unspent true cause e)
    returns_spent luck meant e = absurd (cc e)

    warns_spent : (luck : Luck) → IsMeant ground h.id found Warns luck → IsSpent (Next Warns luck) → IsFew (Next Warns luck)
    warns_spent (Tells rows warning failed) meant e =
        let sent = (subst (λ (q : Option Control). IsWarningOf ground Warns q rows warning) is meant).1 in
        sends_spent (Warn (terms_of ground.config) h.id (warning ∷ []) ground.moment) failed (lacks_ids table (warning ∷ []))
        (wanting_back table warning (few_sent ground.drawer ground.config ground.maps control rows warning.cuts sent)) e
    warns_spent (Lacks cause) meant e = absurd (misses_unspent false cause e)
    warns_spent luck meant e = absurd (cc e)

  buries_spent : (luck : Luck) → IsSpent (Next Buries luck) → IsFew (Next Buries luck)
  buries_spent (Dies failed) e = sends_spent (Return (terms_of ground.config) h.id [] ground.moment) failed (lacks_ids table []) (wanting_none table) e
  buries_spent (Lacks cause) e = absurd (lacks_unspent false cause e)
  buries_spent luck e = absurd (cc e)

  acted_spent : (found : Option Control) (kind : Kind) (luck : Luck) → Facts ground.config ground.maps found h kind → IsMeant ground h.id found kind luck → IsSpent (Next kind luck) → IsFew (Next kind luck)
  acted_spent found (Waits r) luck facts meant e = absurd (waits_unspent r luck e)
  acted_spent found (Settles batch result) luck facts meant e = absurd (settles_unspent batch result luck e)
  acted_spent found (Starts batch mailer) luck facts meant e = absurd (starts_unspent batch mailer luck e)
  acted_spent found (Talks batch mailer peers) luck facts meant e = absurd (talks_unspent batch mailer luck e)
  acted_spent found Returns luck facts meant e = returns_spent found facts.control facts.found_is luck meant e
  acted_spent found Buries luck facts meant e = buries_spent luck e
  acted_spent found Warns luck facts meant e = warns_spent found facts.control facts.found_is luck meant e
  acted_spent found Finishes luck facts meant e = absurd (finishes_unspent luck e)
  acted_spent found Leaves luck facts meant e = absurd (leaves_unspent luck e)

-- a step that ends the run since ids are spent leaves fewer than a message may have rows
pub spent_step : (j : JudgeSeen) (site : Site) (m : State) (h : Holder) (luck : Luck) → IsLuckMeant j site m h luck
    → (stepped site.config site.maps m.latest m.table h luck).over ≡ Some (Halts stop.IdsSpent)
    → last_id + 1 < (stepped site.config site.maps m.latest m.table h luck).table.next + most_rows
spent_step j site m h luck meant e =
    let found = control_at h.id m.table.entries in
    acted_spent (ground_at j site m) m.table h found (kind_of site.config site.maps m.latest found h) luck (kind_facts site.config site.maps m.latest found h) meant e

-- ---- turns

halt_spent : (o : Option Halt) → option_map finish_of o ≡ Some (By IdsSpent) → o ≡ Some (Halts stop.IdsSpent)
halt_spent None e = cc e
halt_spent (Some Unfit) e = cc e
halt_spent (Some (Halts stop.SpoolFault)) e = cc e
halt_spent (Some (Halts stop.FilesFault)) e = cc e
halt_spent (Some (Halts stop.IdsSpent)) e = refl
halt_spent (Some (Halts stop.NoMemory)) e = cc e

-- that a list is over is no other ending
over_before : (plan : Plan) (list : List ℕ) (seats : List Seat) (over : Option Finish) (ending : Ending) → ending ≢ Finished → over_by plan list seats over ≡ Some (By ending) → over ≡ Some (By ending)
over_before (Once group) [] [] None ending other e = absurd (other (cc e))
over_before plan list seats over ending other e = e

-- a run isn't ended by a turn in which nothing is done
quiet_over : (m : State) (seats : List Seat) (ending : Ending) → m.over ≡ None → (quiet m seats).state.over ≡ Some (By ending) → ⊥
quiet_over m [] ending goes e = cc (sym goes ∙ e)
quiet_over m (seat ∷ seats) ending goes e = cc e

-- what the step of a turn is left to

abbrev IsSpentAt : Step → Type 0
IsSpentAt step = step.state.over ≡ Some (By IdsSpent)

abbrev IsFewAt : Step → Type 0
IsFewAt step = last_id + 1 < step.state.table.next + most_rows

module _ (j : JudgeSeen) (site : Site) where
  steps_spent : (m : State) (others : List Seat) (front : List Deed) (seat : Seat) (luck : Luck) → IsLuckMeant j site m seat.holder luck → IsSpentAt (steps site m others front seat luck) → IsFewAt (steps site m others front seat luck)
  steps_spent m others front seat luck meant e = spent_step j site m seat.holder luck meant (halt_spent (stepped site.config site.maps m.latest m.table seat.holder luck).over e)

  luck_of : (m : State) (id : ℕ) (rows : List Routed) (luck : Luck) (s : Stored) → stored_at id m.table ≡ Some s → IsClaimMeant j site m id rows luck → IsLuckMeant j site m (seat_for site s rows).holder luck
  luck_of m id rows luck s is meant =
      let one : meant.stored ≡ s = cc (sym meant.is ∙ is) in
      subst (λ (q : Stored). IsLuckMeant j site m (seat_for site q rows).holder luck) one meant.step

  claims_spent : (m : State) (id : ℕ) (rows : List Routed) (luck : Luck) (o : Option Stored) → stored_at id m.table ≡ o → IsClaimMeant j site m id rows luck → IsSpentAt (claims site m rows luck o) → IsFewAt (claims site m rows luck o)
  claims_spent m id rows luck None is meant e = absurd (cc e)
  claims_spent m id rows luck (Some s) is meant e = by (can_claim site m s) e
    where
      by : (b : Bool) → IsSpentAt (if b then claim_now site m s rows luck else cut m) → IsFewAt (if b then claim_now site m s rows luck else cut m)
      by true e = steps_spent (record m { list = without_id s.id m.list }) m.seats (Claims s.id rows ∷ []) (seat_for site s rows) luck (luck_of m id rows luck s is meant) e
      by false e = absurd (cc e)

  carries_spent : (m : State) (luck : Luck) (seats : List Seat) → IsCarryMeant j site m luck seats → IsSpentAt (carries site m luck seats) → IsFewAt (carries site m luck seats)
  carries_spent m luck [] meant e = absurd (cc e)
  carries_spent m luck (seat ∷ others) meant e = steps_spent m others [] seat luck meant.1 e

  idle_spent : (m : State) (choice : Idling) → m.over ≡ None → IsRestMeant j site m choice → IsSpentAt (idle site m choice) → IsFewAt (idle site m choice)
  idle_spent m (Claiming id rows luck) goes meant e = claims_spent m id rows luck (stored_at id m.table) refl meant e
  idle_spent m Starving goes meant e = absurd (cc e)
  idle_spent m (Carrying luck) goes meant e = carries_spent m luck m.seats meant e
  idle_spent m Quiet goes meant e = absurd (quiet_over m m.seats IdsSpent goes e)

  pub spent_rest : (m : State) (choice : Idling) → m.over ≡ None → IsRestMeant j site m choice
      → (ends_list site (idle site m choice)).state.over ≡ Some (By IdsSpent)
      → last_id + 1 < (ends_list site (idle site m choice)).state.table.next + most_rows
  spent_rest m choice goes meant e =
      let state = (idle site m choice).state in
      idle_spent m choice goes meant (over_before site.plan state.list state.seats state.over IdsSpent (λ q. cc q) e)

  taken_spent : (m : State) (choice : Option Luck) (o : Option Taken) → first_running m.seats ≡ o → IsStopMeant j site m choice → IsSpentAt (stopped_by site m choice o) → IsFewAt (stopped_by site m choice o)
  taken_spent m None None is meant e = absurd (cc e)
  taken_spent m (Some luck) (Some t) is meant e = steps_spent m t.others [] t.seat luck (subst (IsTakenMeant j site m luck) is meant) e
  taken_spent m None (Some t) is meant e = absurd (cc e)
  taken_spent m (Some luck) None is meant e = absurd (cc e)

  pub spent_stop : (m : State) (choice : Option Luck) → m.over ≡ None → IsStopMeant j site m choice
      → (stopped site m choice).state.over ≡ Some (By IdsSpent)
      → last_id + 1 < (stopped site m choice).state.table.next + most_rows
  spent_stop m choice goes meant e = taken_spent m choice (first_running m.seats) refl meant e

-- a turn in which nobody takes a step isn't one in which the spool fails
pub faults_rest : (site : Site) (m : State) (choice : Idling) → m.over ≡ None → (ends_list site (idle site m choice)).state.over ≡ Some (By SpoolFault) → luck_in choice ≢ None
faults_rest site m (Claiming id rows luck) goes e = λ q. cc q
faults_rest site m Starving goes e =
    let state = (idle site m Starving).state in
    let before = over_before site.plan state.list state.seats state.over SpoolFault (λ q. cc q) e in absurd (cc before)
faults_rest site m (Carrying luck) goes e = λ q. cc q
faults_rest site m Quiet goes e =
    let state = (idle site m Quiet).state in
    absurd (quiet_over m m.seats SpoolFault goes (over_before site.plan state.list state.seats state.over SpoolFault (λ q. cc q) e))

faults_taken : (site : Site) (m : State) (o : Option Taken) → (stopped_by site m None o).state.over ≡ Some (By SpoolFault) → ⊥
faults_taken site m None e = cc e
faults_taken site m (Some t) e = cc e

pub faults_stop : (site : Site) (m : State) (luck : Option Luck) → m.over ≡ None → (stopped site m luck).state.over ≡ Some (By SpoolFault) → luck ≢ None
faults_stop site m None goes e = absurd (faults_taken site m (first_running m.seats) e)
faults_stop site m (Some luck) goes e = λ q. cc q
