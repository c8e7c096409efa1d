-- What happened in a turn in which nothing came, or behind a Stop, is a turn of the machine.
use Rattle.std.proofs.Common.{◌≡◌, ℕ, ◌+◌, ◌<◌, ◌^◌, List, [], ◌∷◌, map, Bool, true, false, Option, Some, None, Result, Ok, Err, if◌then◌else◌, refl, sym, ◌∙◌, ap, subst}
use Rattle.std.specs.Prelude.{is_ok}
use Rattle.std.specs.List.{AllZip}
use Rattle.std.proofs.lemmas.Bool.{false≢true}
use Rattle.mail_base.specs.Histories.{Rose}
use Rattle.mail_base.specs.Limits.{most_rows}
use Rattle.mail_edge.specs.Seen.{ClockSeen}
use Rattle.link_edge.specs.Heard.{Heard}
use Rattle.link_edge.specs.declared.event.Event.TheVariants.{Rests, Stops}
use Rattle.spool_store.specs.Entries.{Stored, Table}
use Rattle.spool_store.specs.Settled.{StandsFor}
use Rattle.queue_table.specs.Calls.{Tallies, store}
use Rattle.queue_table.specs.declared.table.Table.{Table as Kept}
use Rattle.queue_run.specs.Backs.{Drawer, IsDrawnIn}
use Rattle.queue_run.specs.Steps.{Luck}
use Rattle.queue_run.specs.Working.{Bench, HasSpoolCause, is_well as steps_well}
use Rattle.queue_run.specs.declared.batch.Routed.{Routed}
use Rattle.queue_run.specs.declared.runner.RunStop.{RunStop}
use Rattle.queue_run.specs.declared.runner.RunStop.TheVariants as run_stops
use Rattle.mail_core.specs.declared.act.Act.{Act}
use Rattle.mail_core.specs.declared.act.Act.TheVariants.{Ended, Went}
use Rattle.mail_core.specs.declared.crew.Crew.{Crew}
use Rattle.mail_core.specs.declared.intake.Intake.{Intake}
use Rattle.mail_core.specs.declared.serving.Core.{Core}
use Rattle.mail_core.specs.Causes.{HasCause, IsDrawn, ending_by, ending_of, is_judge_fault, is_well, lifted, stop_of}
use Rattle.mail_core.specs.Effects.{Does}
use Rattle.mail_core.specs.Events.{IsTaken, Turns}
use Rattle.mail_core.specs.Holding.{can_claim, stored_at}
use Rattle.mail_core.specs.Idling.{Carrying, Claiming, Idling, Quiet, Starving, Taken, carries, claimed, claims, ends_list, ending_by as run_ending, first_running, idle, quiet, stopped, stopped_by}
use Rattle.mail_core.specs.Judges.{JudgeSeen}
use Rattle.mail_core.specs.Machine.{AreOpen, at_moment}
use Rattle.mail_made.specs.Messages.{last_id}
use Rattle.mail_core.specs.Plans.{Origin, comes_from, reading_of}
use Rattle.mail_core.specs.Resting.{IsCarryRead, IsRestRead, IsStopRead, IsTakenRead}
use Rattle.mail_core.specs.Seen.{IsSparing, RanBy, beside, hands, seen}
use Rattle.mail_core.specs.Sites.{Site}
use Rattle.mail_core.specs.Standing.{Keeps, MayGoOn, Stands, Stores}
use Rattle.mail_core.specs.States.{By, Ending, Finished, IdsSpent, Seat, SpoolFault, State, Step, cut}
use Rattle.mail_core.specs.inner.Carrying.{bare}
use Rattle.mail_core.specs.inner.Turns.{AreCaused, Happened, IsLeft, Leaves, Rests as RestsSo, Stops as StopsSo, finish_by, luck_in}
use Rattle.mail_core.proofs.EventLemmas.{turns_by}
use Rattle.mail_core.proofs.RanLemmas.{ran_worked}
use Rattle.mail_core.proofs.SparingLemmas.{sparing_call}
use Rattle.mail_core.proofs.SpentLemmas.{faults_rest, faults_stop, spent_rest, spent_stop}

-- ---- answers

pub lifted_well : (r : Result Act RunStop) → steps_well (bare r) ≡ is_well (lifted r)
lifted_well (Ok act) = refl
lifted_well (Err run_stops.SpoolFault) = refl
lifted_well (Err run_stops.FilesFault) = refl
lifted_well (Err run_stops.IdsSpent) = refl
lifted_well (Err run_stops.NoMemory) = refl

lifted_ok : (r : Result Act RunStop) → is_ok r ≡ is_ok (lifted r)
lifted_ok (Ok act) = refl
lifted_ok (Err cause) = refl

ending_as : (cause : RunStop) → run_ending cause ≡ ending_by (stop_of cause)
ending_as run_stops.SpoolFault = refl
ending_as run_stops.FilesFault = refl
ending_as run_stops.IdsSpent = refl
ending_as run_stops.NoMemory = refl

-- the run is over as the answer says
over_as : (r : Result Act RunStop) (ending : Ending) → ending_of (lifted r) ≡ Some ending → finish_by r ≡ Some (By ending)
over_as (Ok Went) ending e = absurd (cc e)
over_as (Ok Ended) ending e = let same : Finished ≡ ending = cc e in ap (λ q. Some (By q)) same
over_as (Err cause) ending e = let same : ending_by (stop_of cause) ≡ ending = cc e in ap (λ q. Some (By q)) (ending_as cause ∙ same)

went_on : (r : Result Act RunStop) → ending_of (lifted r) ≡ None → r ≡ Ok Went
went_on (Ok Went) e = refl
went_on (Ok Ended) e = absurd (cc e)
went_on (Err cause) e = absurd (cc e)

-- ---- what else stays

-- the sessions, the moment, and whether a Stop came
pub record IsBesides (m n : State) : Type 0 where
  pub guests : n.guests ≡ m.guests
  pub latest : n.latest ≡ m.latest
  pub stopping : n.stopping ≡ m.stopping

claims_besides : (site : Site) (m : State) (rows : List Routed) (luck : Luck) (o : Option Stored) → IsBesides m (claims site m rows luck o).state
claims_besides site m rows luck None = record { guests = refl; latest = refl; stopping = refl }
claims_besides site m rows luck (Some s) = by (can_claim site m s)
  where
    by : (b : Bool) → IsBesides m (if b then claimed site m s rows luck else cut m).state
    by true = record { guests = refl; latest = refl; stopping = refl }
    by false = record { guests = refl; latest = refl; stopping = refl }

carries_besides : (site : Site) (m : State) (luck : Luck) (seats : List Seat) → IsBesides m (carries site m luck seats).state
carries_besides site m luck [] = record { guests = refl; latest = refl; stopping = refl }
carries_besides site m luck (seat ∷ others) = record { guests = refl; latest = refl; stopping = refl }

quiet_besides : (m : State) (seats : List Seat) → IsBesides m (quiet m seats).state
quiet_besides m [] = record { guests = refl; latest = refl; stopping = refl }
quiet_besides m (seat ∷ seats) = record { guests = refl; latest = refl; stopping = refl }

idle_besides : (site : Site) (m : State) (choice : Idling) → IsBesides m (idle site m choice).state
idle_besides site m (Claiming id rows luck) = claims_besides site m rows luck (stored_at id m.table)
idle_besides site m Starving = record { guests = refl; latest = refl; stopping = refl }
idle_besides site m (Carrying luck) = carries_besides site m luck m.seats
idle_besides site m Quiet = quiet_besides m m.seats

pub rest_besides : (site : Site) (m : State) (choice : Idling) → IsBesides m (ends_list site (idle site m choice)).state
rest_besides site m choice = let b = idle_besides site m choice in record { guests = b.guests; latest = b.latest; stopping = b.stopping }

stopped_besides : (site : Site) (m : State) (luck : Option Luck) (o : Option Taken) → IsBesides m (stopped_by site m luck o).state
stopped_besides site m None None = record { guests = refl; latest = refl; stopping = refl }
stopped_besides site m (Some luck) None = record { guests = refl; latest = refl; stopping = refl }
stopped_besides site m None (Some t) = record { guests = refl; latest = refl; stopping = refl }
stopped_besides site m (Some luck) (Some t) = record { guests = refl; latest = refl; stopping = refl }

pub stop_besides : (site : Site) (m : State) (luck : Option Luck) → IsBesides m (stopped site m luck).state
stop_besides site m luck = stopped_besides site m luck (first_running m.seats)

-- ---- what happened

-- files that no call touches stay, and strange ones are strange still where the turn went well
spared : (site : Site) (m : State) (step : Step) (old new : Kept) (crew : Crew) (a b : Bench) (r : Result Act RunStop) → Stores site old m.table → Tallies old a.spool → Happened site m step old new crew a b r → IsSparing (store old).dirs a.spool b.spool (is_ok r)
spared site m step old new crew a b (Ok act) stores tallies h =
    sparing_call (store old) (store new) a.spool b.spool (tallies stores.whole) h.left.agrees h.left.stays.dirs h.left.stays.strange h.worked.frame
spared site m step old new crew a b (Err cause) stores tallies h = h.worked.frame

pub happened_ran : (site : Site) (m : State) (step : Step) (old new : Kept) (crew : Crew) (a b : Bench) (r : Result Act RunStop) (floor : Heard) (clock : ClockSeen) → Stores site old m.table → Tallies old a.spool → Happened site m step old new crew a b r
    → RanBy site.dirs m.table (seen floor a.spool (beside clock (hands a.spawner a.dialer))) (seen floor b.spool (beside clock (hands b.spawner b.dialer))) step.effects (is_well (lifted r)) (is_ok (lifted r))
happened_ran site m step old new crew a b r floor clock stores tallies h =
    subst (λ (q : List (List ℕ)). RanBy q m.table (seen floor a.spool (beside clock (hands a.spawner a.dialer))) (seen floor b.spool (beside clock (hands b.spawner b.dialer))) step.effects (is_well (lifted r)) (is_ok (lifted r))) stores.dirs
    (subst (λ q. RanBy (store old).dirs m.table (seen floor a.spool (beside clock (hands a.spawner a.dialer))) (seen floor b.spool (beside clock (hands b.spawner b.dialer))) q (is_well (lifted r)) (is_ok (lifted r))) (sym h.effects)
    (subst (λ w. RanBy (store old).dirs m.table (seen floor a.spool (beside clock (hands a.spawner a.dialer))) (seen floor b.spool (beside clock (hands b.spawner b.dialer))) (map Does h.deeds) w (is_ok (lifted r))) (lifted_well r)
    (subst (λ o. RanBy (store old).dirs m.table (seen floor a.spool (beside clock (hands a.spawner a.dialer))) (seen floor b.spool (beside clock (hands b.spawner b.dialer))) (map Does h.deeds) (steps_well (bare r)) o) (lifted_ok r)
    (ran_worked (store old).dirs m.table floor clock a b h.deeds (steps_well (bare r)) (is_ok r) h.worked (spared site m step old new crew a b r stores tallies h)))))

-- the core behind a turn that went well
pub left_stands : (site : Site) (core now : Core) (m : State) (step : Step) (b : Bench) → Stands site core m → IsBesides m step.state → step.state.over ≡ None
    → now ≡ record core { intake = now.intake; crew = now.crew } → now.intake ≡ record core.intake { table = now.intake.table }
    → IsLeft site step core.intake.table now.intake.table now.crew b → Stands site now step.state
left_stands site core now m step b st same on is intake left = record {
  intake = record {
    stores = record {
      holds = left.holds;
      whole = left.whole.whole;
      dirs = left.stays.dirs ∙ st.intake.stores.dirs;
      terms = left.stays.terms ∙ st.intake.stores.terms;
      groups = st.intake.stores.groups;
    };
    short = ap (λ (i : Intake). i.short) intake ∙ st.intake.short;
    range = let e = ap (λ (i : Intake). i.moment) intake in subst (λ n. n < 2 ^ 64) (sym e) st.intake.range;
  };
  host = ap (λ (q : Core). q.host) is ∙ st.host;
  full = ap (λ (q : Core). q.full) is ∙ st.full;
  latest = ap (λ (i : Intake). i.moment) intake ∙ st.latest ∙ sym same.latest;
  callers = subst (λ q. AllZip (Keeps site) now.callers.items q) (sym same.guests)
      (subst (λ (q : Core). AllZip (Keeps site) q.callers.items m.guests) (sym is) st.callers);
  guests = subst AreOpen (sym same.guests) st.guests;
  crew = left.stands;
  stopping = ap (λ (q : Core). q.stopping) is ∙ st.stopping ∙ sym same.stopping;
  on = on;
}

-- ---- causes

rose_by : (a b : Bench) (luck : Option Luck) (r : Result Act RunStop) → r ≡ Err run_stops.SpoolFault → AreCaused a b luck r → (luck ≡ None → ⊥) → Rose a.spool.faults b.spool.faults
rose_by a b None r is caused some = absurd (some refl)
rose_by a b (Some luck) r is caused some = let c = subst (λ q. HasSpoolCause a b (bare q)) is caused.spool in c

-- the spool's count is as before where it didn't fail
calm_by : (a b : Bench) (r : Result Act RunStop) → HasSpoolCause a b (bare r) → is_well (lifted r) ≡ true → b.spool.faults ≡ a.spool.faults
calm_by a b (Ok act) h well = h
calm_by a b (Err run_stops.SpoolFault) h well = absurd (false≢true well)
calm_by a b (Err run_stops.FilesFault) h well = h
calm_by a b (Err run_stops.IdsSpent) h well = h
calm_by a b (Err run_stops.NoMemory) h well = h

pub caused_calm : (a b : Bench) (luck : Option Luck) (r : Result Act RunStop) → AreCaused a b luck r → is_well (lifted r) ≡ true → b.spool.faults ≡ a.spool.faults
caused_calm a b None r caused well = caused.spool
caused_calm a b (Some luck) r caused well = calm_by a b r caused.spool well

-- what draws receivers was asked or not
pub drawn_as : (d e : Drawer) (r : Result Act RunStop) → IsDrawnIn d e (bare r) → IsDrawn d e (is_judge_fault (lifted r))
drawn_as d e (Ok act) h = record { steady = h.steady; rose = λ f. absurd (false≢true f); calm = λ f. h.cause }
drawn_as d e (Err run_stops.SpoolFault) h = record { steady = h.steady; rose = λ f. absurd (false≢true f); calm = λ f. h.cause }
drawn_as d e (Err run_stops.FilesFault) h = record { steady = h.steady; rose = λ f. h.cause; calm = λ f. absurd (false≢true (sym f)) }
drawn_as d e (Err run_stops.IdsSpent) h = record { steady = h.steady; rose = λ f. absurd (false≢true f); calm = λ f. h.cause }
drawn_as d e (Err run_stops.NoMemory) h = record { steady = h.steady; rose = λ f. absurd (false≢true f); calm = λ f. h.cause }

-- ---- why it ended

-- the cause of an ending, where ids may have been spent and the spool may have failed
cause_of : (r : Result Act RunStop) (ending : Ending) (table : Table) (floor : Heard) (clock : ClockSeen) (a b : Bench) (luck : Option Luck) → ending_of (lifted r) ≡ Some ending → AreCaused a b luck r
    → (finish_by r ≡ Some (By SpoolFault) → luck ≡ None → ⊥) → (finish_by r ≡ Some (By IdsSpent) → last_id + 1 < table.next + most_rows)
    → HasCause ending table (seen floor a.spool (beside clock (hands a.spawner a.dialer))) (seen floor b.spool (beside clock (hands b.spawner b.dialer)))
cause_of (Ok Went) ending table floor clock a b luck e caused some spent = absurd (cc e)
cause_of (Ok Ended) ending table floor clock a b luck e caused some spent = as_ending Finished ending e tt
  where
    as_ending : (one other : Ending) → Some one ≡ Some other → HasCause one table (seen floor a.spool (beside clock (hands a.spawner a.dialer))) (seen floor b.spool (beside clock (hands b.spawner b.dialer))) → HasCause other table (seen floor a.spool (beside clock (hands a.spawner a.dialer))) (seen floor b.spool (beside clock (hands b.spawner b.dialer)))
    as_ending one other e h = let same : one ≡ other = cc e in subst (λ q. HasCause q table (seen floor a.spool (beside clock (hands a.spawner a.dialer))) (seen floor b.spool (beside clock (hands b.spawner b.dialer)))) same h
cause_of (Err cause) ending table floor clock a b luck e caused some spent = subst (λ q. HasCause q table (seen floor a.spool (beside clock (hands a.spawner a.dialer))) (seen floor b.spool (beside clock (hands b.spawner b.dialer)))) same (by cause caused some spent)
  where
    same : ending_by (stop_of cause) ≡ ending
    same = cc e

    by : (cause : RunStop) → AreCaused a b luck (Err cause) → (finish_by (Err cause) ≡ Some (By SpoolFault) → luck ≡ None → ⊥) → (finish_by (Err cause) ≡ Some (By IdsSpent) → last_id + 1 < table.next + most_rows)
        → HasCause (ending_by (stop_of cause)) table (seen floor a.spool (beside clock (hands a.spawner a.dialer))) (seen floor b.spool (beside clock (hands b.spawner b.dialer)))
    by run_stops.SpoolFault caused some spent = rose_by a b luck (Err run_stops.SpoolFault) refl caused (some refl)
    by run_stops.FilesFault caused some spent = tt
    by run_stops.IdsSpent caused some spent = spent refl
    by run_stops.NoMemory caused some spent = tt

-- ---- a turn in which nothing came

rest_read : (m : State) (reading : ℕ) (choice : Idling) → IsRestRead (at_moment m reading) choice → IsRestRead m choice
rest_read m reading (Claiming id rows luck) h = h
rest_read m reading Starving h = h
rest_read m reading (Carrying luck) h = by m.seats h
  where
    by : (seats : List Seat) → IsCarryRead (at_moment m reading) luck seats → IsCarryRead m luck seats
    by [] h = h
    by (seat ∷ seats) h = h
rest_read m reading Quiet h = h

module _ (j : JudgeSeen) (site : Site) (m : State) (origin : Origin) (old now : Core) (a b : Bench) (r : Result Act RunStop) (before floor : Heard) (clock read : ClockSeen) where
  abbrev moved : State
  moved = at_moment m (reading_of origin)

  pub rest_turns : Stands site old moved → m.over ≡ None → comes_from site.plan m.stopping origin Rests ≡ true → IsTaken origin before floor clock read Rests → Tallies old.intake.table a.spool
      → now ≡ record old { intake = now.intake; crew = now.crew } → now.intake ≡ record old.intake { table = now.intake.table }
      → RestsSo j site moved old.intake.table now.intake.table now.crew a b r
      → Turns j site m Rests origin (seen before a.spool (beside clock (hands a.spawner a.dialer))) (seen floor b.spool (beside read (hands b.spawner b.dialer))) now (lifted r)
  rest_turns st on comes taken tallies is intake h =
      let step : Step = ends_list site (idle site moved h.choice) in
      turns_by j site m Rests origin h.choice before floor a.spool clock read (hands a.spawner a.dialer) (seen floor b.spool (beside read (hands b.spawner b.dialer))) now (lifted r)
      on comes taken h.meant
      (λ files told stands. rest_read m (reading_of origin) h.choice (h.read files told (subst (λ q. StandsFor q m.table files) (sym st.intake.stores.dirs) stands)))
      (happened_ran site moved step old.intake.table now.intake.table now.crew a b r floor read st.intake.stores tallies h.happened)
      (λ e. rest_left step h.happened (rest_besides site moved h.choice) (went_on r e))
      (λ ending e. record {
        over = h.happened.over ∙ over_as r ending e;
        cause = cause_of r ending step.state.table floor read a b (luck_in h.choice) e h.causes
            (λ f. faults_rest site moved h.choice on (h.happened.over ∙ f)) (λ f. spent_rest j site moved h.choice on h.meant (h.happened.over ∙ f));
      })
    where
      rest_left : (step : Step) → Happened site moved step old.intake.table now.intake.table now.crew a b r → IsBesides moved step.state → r ≡ Ok Went → Stands site now step.state
      rest_left step happened besides went =
          let left = subst (λ q. Leaves site step old.intake.table now.intake.table now.crew b q) went happened.left in
          left_stands site old now moved step b st besides (happened.over ∙ ap finish_by went) is intake left

  pub stop_turns : Stands site old (record moved { stopping = true }) → m.over ≡ None → comes_from site.plan m.stopping origin Stops ≡ true → IsTaken origin before floor clock read Stops → Tallies old.intake.table a.spool
      → now ≡ record old { intake = now.intake; crew = now.crew } → now.intake ≡ record old.intake { table = now.intake.table }
      → StopsSo j site (record moved { stopping = true }) old.intake.table now.intake.table now.crew a b r
      → Turns j site m Stops origin (seen before a.spool (beside clock (hands a.spawner a.dialer))) (seen floor b.spool (beside read (hands b.spawner b.dialer))) now (lifted r)
  stop_turns st on comes taken tallies is intake h =
      let step : Step = stopped site (record moved { stopping = true }) h.choice in
      turns_by j site m Stops origin h.choice before floor a.spool clock read (hands a.spawner a.dialer) (seen floor b.spool (beside read (hands b.spawner b.dialer))) now (lifted r)
      on comes taken h.meant
      (λ files told stands. stop_read h.choice (h.read files told (subst (λ q. StandsFor q m.table files) (sym st.intake.stores.dirs) stands)))
      (happened_ran site (record moved { stopping = true }) step old.intake.table now.intake.table now.crew a b r floor read st.intake.stores tallies h.happened)
      (λ e. stop_left step h.happened (stop_besides site (record moved { stopping = true }) h.choice) (went_on r e))
      (λ ending e. record {
        over = h.happened.over ∙ over_as r ending e;
        cause = cause_of r ending step.state.table floor read a b h.choice e h.causes
            (λ f. faults_stop site (record moved { stopping = true }) h.choice on (h.happened.over ∙ f)) (λ f. spent_stop j site (record moved { stopping = true }) h.choice on h.meant (h.happened.over ∙ f));
      })
    where
      taken_read : (luck : Luck) (o : Option Taken) → IsTakenRead (record moved { stopping = true }) luck o → IsTakenRead m luck o
      taken_read luck None h = h
      taken_read luck (Some t) h = h

      stop_read : (choice : Option Luck) → IsStopRead (record moved { stopping = true }) choice → IsStopRead m choice
      stop_read None h = h
      stop_read (Some luck) h = taken_read luck (first_running m.seats) h

      stop_left : (step : Step) → Happened site (record moved { stopping = true }) step old.intake.table now.intake.table now.crew a b r → IsBesides (record moved { stopping = true }) step.state → r ≡ Ok Went → Stands site now step.state
      stop_left step happened besides went =
          let left = subst (λ q. Leaves site step old.intake.table now.intake.table now.crew b q) went happened.left in
          left_stands site old now (record moved { stopping = true }) step b st besides (happened.over ∙ ap finish_by went) is intake left

-- ---- a core that goes on

pub go_on : (site : Site) (m : State) (step : Step) (core now : Core) (a b : Bench) (r : Result Act RunStop) → Happened site m step core.intake.table now.intake.table now.crew a b r → is_ok (lifted r) ≡ true → MayGoOn now b.spool b.spawner
go_on site m step core now a b (Ok act) h on = record { tallied = λ whole. h.left.agrees; manned = h.left.manned }
go_on site m step core now a b (Err cause) h on = absurd (false≢true on)
