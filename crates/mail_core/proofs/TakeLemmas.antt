-- A turn of the machine in which a holder stepped, by what the step of a runner left.
use Rattle.std.proofs.Common.{◌≡◌, ◌≢◌, ℕ, List, [], ◌∷◌, ◌++◌, Bool, true, Option, Some, None, Result, Ok, Err, refl, sym, ◌∙◌, ap, subst, map, arith}
use Rattle.std.specs.Prelude.{All, option_to_list}
use Rattle.std.specs.Option.{option_map}
use Rattle.std.proofs.lemmas.List.{append-nil}
use Rattle.mail_base.specs.Histories.{Gains}
use Rattle.spool_disk.specs.Disk.{FileMap, bytes_at}
use Rattle.spool_store.specs.Entries.{Table}
use Rattle.spool_store.specs.Settled.{StandsFor}
use Rattle.spool_store.specs.Stores.{KeepsOthers}
use Rattle.spool_store.proofs.MovesLemmas.{moves_none, moves_weaker}
use Rattle.queue_table.specs.Asked.{IsFront, Leaves}
use Rattle.queue_table.specs.Calls.{HoldsTable, Tallies, store}
use Rattle.queue_table.specs.declared.table.Table.{Table as Kept}
use Rattle.queue_table.proofs.AskedLemmas.{front_after, leaves_after}
use Rattle.queue_run.specs.declared.batch.Routed.{Routed}
use Rattle.queue_run.specs.Deeds.{Claims, Deed, asked_in}
use Rattle.queue_run.specs.Holders.{Holder, holder_of}
use Rattle.queue_run.specs.Steps.{Halt, Luck, Stepped, stepped}
use Rattle.queue_run.specs.Working.{Bench, IsRead, IsWhole, Worked, is_well}
use Rattle.queue_run.specs.declared.runner.RunStop.{RunStop}
use Rattle.queue_run.specs.declared.runner.Runner.{Runner}
use Rattle.mail_core.specs.Idling.{ending_by, ends_list, finish_of, over_by, seated, steps}
use Rattle.mail_core.specs.Judges.{JudgeSeen}
use Rattle.mail_core.specs.Plans.{Plan, Serve, Once}
use Rattle.mail_core.specs.Resting.{IsLuckMeant, ground_at}
use Rattle.mail_core.specs.Sites.{Site}
use Rattle.mail_core.specs.States.{By, Finish, Seat, State, Step}
use Rattle.mail_core.proofs.ApartLemmas.{stepped_id}
use Rattle.mail_core.specs.declared.act.Act.{Act}
use Rattle.mail_core.specs.declared.act.Act.TheVariants.{Went}
use Rattle.mail_core.specs.declared.crew.Crew.{Crew}
use Rattle.mail_core.specs.inner.Carrying.{Carries, Goes, GoesOn, HasCauses, bare}
use Rattle.mail_core.specs.Crews.{IsCrew, IsListOf, IsManned, IsWaiting}
use Rattle.mail_core.specs.inner.Turns.{Happened, act_by, finish_by}
use Rattle.mail_core.proofs.HoldLemmas.{holder_at, seats_more, waiting_on}

-- ---- what is seen of devices

gains_none : {X : Type 0} (o : Option (List X)) → Gains o o []
gains_none None = tt
gains_none (Some xs) = sym (append-nil xs)

-- nothing was done
pub worked_none : (dirs : List (List ℕ)) (table : Table) (a : Bench) → Worked dirs table a a [] true
worked_none dirs table a = record {
  spool = λ stops. moves_none a.spool (StandsFor dirs table) (Leaves asked_in dirs table [] true) (IsFront asked_in dirs table []) (λ f p. p);
  frame = λ f. moves_none a.spool (λ g. g ≡ f) (KeepsOthers dirs f) (KeepsOthers dirs f) (λ g e. λ place none. ap (λ q. bytes_at q place) e);
  spawner = gains_none a.spawner.told;
  dialer = gains_none a.dialer.told;
  spool_faults = omega arith;
  spawner_faults = omega arith;
  dialer_faults = omega arith;
}

-- an entry was claimed before
pub worked_claim : (dirs : List (List ℕ)) (table : Table) (a b : Bench) (id : ℕ) (rows : List Routed) (deeds : List Deed) (well : Bool) → Worked dirs table a b deeds well → Worked dirs table a b (Claims id rows ∷ deeds) well
worked_claim dirs table a b id rows deeds well w = record {
  spool = λ stops. moves_weaker a.spool b.spool (StandsFor dirs table) (Leaves asked_in dirs table deeds well) (IsFront asked_in dirs table deeds)
      (Leaves asked_in dirs table (Claims id rows ∷ deeds) well) (IsFront asked_in dirs table (Claims id rows ∷ deeds))
      (λ f left. leaves_after asked_in dirs table (Claims id rows ∷ []) deeds well f left)
      (λ f front. front_after asked_in dirs table (Claims id rows ∷ []) deeds f front) (w.spool stops);
  frame = w.frame;
  spawner = w.spawner;
  dialer = w.dialer;
  spool_faults = w.spool_faults;
  spawner_faults = w.spawner_faults;
  dialer_faults = w.dialer_faults;
}

-- nothing was done in a turn
pub happened_none : (site : Site) (m : State) (step : Step) (old : Kept) (crew : Crew) (a : Bench) (act : Act) → step.effects ≡ [] → step.state.over ≡ finish_by (Ok act) → IsCrew site crew step.state → IsManned old a.spawner crew
    → HoldsTable old step.state.table → IsWhole site.config old → Tallies old a.spool → Happened site m step old old crew a a (Ok act)
happened_none site m step old crew a act effects over is manned holds whole tallies = record {
  deeds = [];
  effects = effects;
  worked = worked_none (store old).dirs m.table a;
  over = over;
  left = record {
    stands = is;
    manned = manned;
    holds = holds;
    whole = whole;
    agrees = tallies whole.whole;
    stays = record { terms = refl; dirs = refl; strange = refl };
  };
}

-- ---- how a run is over

pub over_some : (plan : Plan) (ids : List ℕ) (seats : List Seat) (f : Finish) → over_by plan ids seats (Some f) ≡ Some f
over_some (Serve wait) ids seats f = refl
over_some (Once group) [] [] f = refl
over_some (Once group) [] (s ∷ seats) f = refl
over_some (Once group) (id ∷ ids) seats f = refl

act_list : (group : Option (List ℕ)) (ids : List ℕ) (runners : List Runner) (seats : List Seat) → map holder_of runners ≡ map holder_at seats → over_by (Once group) ids seats None ≡ finish_by (Ok (act_by (Some ids) runners))
act_list group [] [] [] same = refl
act_list group [] [] (s ∷ seats) same = cc same
act_list group [] (r ∷ rs) [] same = cc same
act_list group [] (r ∷ rs) (s ∷ seats) same = refl
act_list group (id ∷ ids) runners seats same = refl

pub act_over : (plan : Plan) (list : Option (List ℕ)) (ids : List ℕ) (runners : List Runner) (seats : List Seat) → IsListOf plan list ids → map holder_of runners ≡ map holder_at seats
    → over_by plan ids seats None ≡ finish_by (Ok (act_by list runners))
act_over (Serve wait) list ids runners seats is same = ap (λ l. finish_by (Ok (act_by l runners))) (sym is)
act_over (Once group) list ids runners seats is same = act_list group ids runners seats same ∙ ap (λ l. finish_by (Ok (act_by l runners))) (sym is)

-- ---- a step

-- what the step of a holder was
pub record Took (j : JudgeSeen) (site : Site) (m : State) (old new : Kept) (crew next : Crew) (a b : Bench) (result : Result (Unit {0}) RunStop) (h : Holder) : Type 0 where
  pub luck : Luck
  pub meant : IsLuckMeant j site m h luck
  pub read : (files : FileMap) → a.spool.told ≡ Some files → StandsFor (store old).dirs m.table files → IsRead m.table h.id luck
  pub worked : Worked (store old).dirs m.table a b (stepped site.config site.maps m.latest m.table h luck).deeds (is_well (bare result))
  pub comes : Goes site.config old new crew next h.id b (stepped site.config site.maps m.latest m.table h luck) result
  pub causes : HasCauses a b luck result

pub took_by : (j : JudgeSeen) (site : Site) (m : State) (old new : Kept) (r : Runner) (crew next : Crew) (a b : Bench) (result : Result (Unit {0}) RunStop)
    → Carries (ground_at j site m) m.table old new r crew next a b result → Took j site m old new crew next a b result (holder_of r)
took_by j site m old new r crew next a b result c = record { luck = c.luck; meant = c.meant; read = c.read; worked = c.worked; comes = c.comes; causes = c.causes }

-- the turn's result
abbrev pub acts : Crew → Result (Unit {0}) RunStop → Result Act RunStop
acts next (Ok u) = Ok (act_by next.list next.runners.items)
acts next (Err cause) = Err cause

abbrev pub goes_well : Result (Unit {0}) RunStop → Result Act RunStop
goes_well (Ok u) = Ok Went
goes_well (Err cause) = Err cause

-- the others, of whom none holds the same entry
pub record AreOthers (site : Site) (crew : Crew) (seat : Seat) (others : List Seat) (ids : List ℕ) : Type 0 where
  pub runners : map holder_of crew.runners.items ≡ map holder_at others
  pub apart : All (λ (s : Seat). s.holder.id ≢ seat.holder.id) others
  pub waiting : IsWaiting site crew.waiting (seat ∷ others)
  pub list : IsListOf site.plan crew.list ids

module _ (site : Site) (m : State) (old new : Kept) (crew next : Crew) (a b : Bench) (seat : Seat) (others : List Seat) (ids : List ℕ) (front : List Deed) (luck : Luck) where
  abbrev pub x : Stepped
  x = stepped site.config site.maps m.latest m.table seat.holder luck

  abbrev pub step : Step
  step = steps site (record m { list = ids }) others front seat luck

  crew_left : AreOthers site crew seat others ids → GoesOn site.config old new crew next seat.holder.id b x → IsCrew site next step.state
  crew_left o go = record {
    runners = go.runners ∙ ap (λ q. q ++ option_to_list x.holder) o.runners ∙ sym (seats_more others seat.lane x.holder);
    waiting = waiting_on site crew.waiting next.waiting seat others x.holder (stepped_id site m.latest m.table seat.holder luck) o.apart o.waiting go.waiting;
    list = subst (λ q. IsListOf site.plan q ids) (sym go.list) o.list;
  }

  -- in a turn in which nothing came
  pub happened_rest : (result : Result (Unit {0}) RunStop) → AreOthers site crew seat others ids → Worked (store old).dirs m.table a b (front ++ x.deeds) (is_well (bare result)) → Goes site.config old new crew next seat.holder.id b x result
      → Happened site m (ends_list site step) old new next a b (acts next result)
  happened_rest (Ok u) o worked go =
      let c = crew_left o go in record {
        deeds = front ++ x.deeds;
        effects = refl;
        worked = worked;
        over = ap (λ (q : Option Halt). over_by site.plan ids (others ++ seated seat.lane x.holder) (option_map finish_of q)) go.goes ∙ act_over site.plan next.list ids next.runners.items (others ++ seated seat.lane x.holder) c.list c.runners;
        left = record { stands = record { runners = c.runners; waiting = c.waiting; list = c.list }; manned = go.manned; holds = go.holds; whole = go.whole; agrees = go.agrees; stays = go.stays };
      }
  happened_rest (Err cause) o worked over = record {
    deeds = front ++ x.deeds;
    effects = refl;
    worked = worked;
    over = ap (λ (q : Option Halt). over_by site.plan ids (others ++ seated seat.lane x.holder) (option_map finish_of q)) over ∙ over_some site.plan ids (others ++ seated seat.lane x.holder) (By (ending_by cause));
    left = tt;
  }

  -- and behind a Stop
  pub happened_stop : (result : Result (Unit {0}) RunStop) → AreOthers site crew seat others ids → Worked (store old).dirs m.table a b (front ++ x.deeds) (is_well (bare result)) → Goes site.config old new crew next seat.holder.id b x result
      → Happened site m step old new next a b (goes_well result)
  happened_stop (Ok u) o worked go =
      let c = crew_left o go in record {
        deeds = front ++ x.deeds;
        effects = refl;
        worked = worked;
        over = ap (option_map finish_of) go.goes;
        left = record { stands = c; manned = go.manned; holds = go.holds; whole = go.whole; agrees = go.agrees; stays = go.stays };
      }
  happened_stop (Err cause) o worked over = record {
    deeds = front ++ x.deeds;
    effects = refl;
    worked = worked;
    over = ap (option_map finish_of) over;
    left = tt;
  }
