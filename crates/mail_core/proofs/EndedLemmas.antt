-- A run over the queue that is finished has tried all entries of its list.
use Rattle.std.proofs.Common.{◌≡◌, ℕ, List, [], ◌∷◌, ◌++◌, Bool, true, false, Option, Some, None, if◌then◌else◌, refl, sym, ◌∙◌, ap, subst, arith, append_assoc}
use Rattle.std.specs.Prelude.{Contains, is_some}
use Rattle.std.specs.Option.{option_map}
use Rattle.std.proofs.lemmas.List.Elements.{All-nil}
use Rattle.link_edge.specs.declared.event.Event.{Event}
use Rattle.link_edge.specs.declared.event.Event.TheVariants.{Opens, Brings, Closes, Rests, Stops}
use Rattle.spool_store.specs.Entries.{Stored, Table}
use Rattle.queue_table.specs.Soundness.{IsSound}
use Rattle.queue_run.specs.declared.batch.Routed.{Routed}
use Rattle.queue_run.specs.declared.runner.RunStop.TheVariants as stop
use Rattle.queue_run.specs.Steps.{By as Halts, Halt, Luck, Unfit, stepped}
use Rattle.mail_core.specs.Apart.{AreApart}
use Rattle.mail_core.specs.Effects.{Effect}
use Rattle.mail_core.specs.Holding.{can_claim, stored_at}
use Rattle.mail_core.specs.Idling.{Carrying, Claiming, Idling, Quiet, Starving, carries, claimed, claims, ends_list, finish_of, idle, over_by, quiet, seat_for}
use Rattle.mail_core.specs.Judges.{JudgeSeen, untold}
use Rattle.mail_core.specs.Machine.{Choices, Turn, at_moment, came, fits, handled, run, turned}
use Rattle.mail_core.specs.Meant.{IsEventMeant, IsRunMeant}
use Rattle.mail_core.specs.Plans.{Once, Origin, Plan, Serve, comes_from, is_rest, reading_of}
use Rattle.mail_core.specs.Sites.{Site}
use Rattle.mail_core.specs.States.{By, Finish, Finished, Seat, State, Step, cut, headed, still}
use Rattle.mail_core.specs.Tried.{WasTried}
use Rattle.mail_core.proofs.HeldLemmas.{IsHeldBy}
use Rattle.mail_core.proofs.PlanLemmas.{rests_alone}
use Rattle.mail_core.proofs.RunsLemmas.{AllHeld, IsCome, came_works, turned_works}
use Rattle.mail_core.proofs.TriedLemmas.{After, Stage, idle_stage, is_held, is_over, stage_more, waits}
use Rattle.mail_core.proofs.TurnedLemmas.{either_step, none_apart}

-- ---- a turn of a run over the queue rests, or the run is cut

none_over : (o : Option Finish) → is_some o ≡ false → o ≡ None
none_over None e = refl
none_over (Some finish) e = cc e

abbrev turn_of : (event : Event) → Origin → Choices event → Turn
turn_of event origin choices = record { event = event; origin = origin; choices = choices }

module _ (site : Site) (P : Step → Type 0) where
  -- at another event the run is cut, if it goes on at all
  cut_has : (group : Option (List ℕ)) (m : State) (event : Event) (origin : Origin) (choices : Choices event) → site.plan ≡ Once group → is_rest event ≡ false → P (still m) → P (cut m) → P (turned site m (turn_of event origin choices))
  cut_has group m event origin choices once rests p q =
      let now = headed (came origin event) (handled site (at_moment m (reading_of origin)) event choices) in
      let unfit : fits site m (turn_of event origin choices) ≡ false = ap (λ (r : Plan). comes_from r m.stopping origin event) once ∙ rests_alone group m.stopping origin event rests in
      either_step P (is_some m.over) (still m) (if fits site m (turn_of event origin choices) then now else cut m) p
      (subst (λ (b : Bool). P (if b then now else cut m)) (sym unfit) q)

  -- and else it is over, is cut, or goes on
  rest_has : (m : State) (origin : Origin) (choice : Idling) → P (still m) → P (cut m) → (m.over ≡ None → P (headed (came origin Rests) (ends_list site (idle site (at_moment m (reading_of origin)) choice)))) → P (turned site m (turn_of Rests origin choice))
  rest_has m origin choice p q on =
      by (is_some m.over) (fits site m (turn_of Rests origin choice)) refl (headed (came origin Rests) (ends_list site (idle site (at_moment m (reading_of origin)) choice))) on
    where
      by : (b c : Bool) → is_some m.over ≡ b → (now : Step) → (m.over ≡ None → P now) → P (if b then still m else if c then now else cut m)
      by true c is now on = p
      by false true is now on = on (none_over m.over is)
      by false false is now on = q

-- ---- each entry of the list waits for its claim, is held, or was tried

module _ (site : Site) (first : Table) (j : JudgeSeen) (group : Option (List ℕ)) (once : site.plan ≡ Once group) (id : ℕ) where
  abbrev Has : List Effect → Step → Type 0
  Has done step = After site first done id step

  turn_stage : (done : List Effect) (m : State) (event : Event) (origin : Origin) (choices : Choices event) → IsEventMeant j site (at_moment m (reading_of origin)) event choices → IsCome site first done m.table m.seats
      → Stage site first done m.list m.seats id → Has done (turned site m (turn_of event origin choices))
  turn_stage done m (Opens session peer) origin choices meant come stage =
      cut_has site (Has done) group m (Opens session peer) origin choices once refl (stage_more site first done [] m.list m.seats id stage) (stage_more site first done [] m.list m.seats id stage)
  turn_stage done m (Brings session bytes) origin choices meant come stage =
      cut_has site (Has done) group m (Brings session bytes) origin choices once refl (stage_more site first done [] m.list m.seats id stage) (stage_more site first done [] m.list m.seats id stage)
  turn_stage done m (Closes session) origin choices meant come stage =
      cut_has site (Has done) group m (Closes session) origin choices once refl (stage_more site first done [] m.list m.seats id stage) (stage_more site first done [] m.list m.seats id stage)
  turn_stage done m Stops origin choices meant come stage =
      cut_has site (Has done) group m Stops origin choices once refl (stage_more site first done [] m.list m.seats id stage) (stage_more site first done [] m.list m.seats id stage)
  turn_stage done m Rests origin choice meant come stage =
      let now = at_moment m (reading_of origin) in
      let seen = came origin Rests in
      let step = idle site now choice in
      let w = came_works site first done now origin Rests come in
      rest_has site (Has done) m origin choice (stage_more site first done [] m.list m.seats id stage) (stage_more site first done [] m.list m.seats id stage)
      (λ on. subst (λ q. Stage site first q step.state.list step.state.seats id) (append_assoc done seen step.effects)
      (idle_stage site first j (done ++ seen) now choice id meant w.come (stage_more site first done seen m.list m.seats id stage)))

  run_stage : (done : List Effect) (m : State) (turns : List Turn) → IsRunMeant j site m turns → IsCome site first done m.table m.seats → Stage site first done m.list m.seats id → Has done (run site m turns)
  run_stage done m [] meant come stage = stage_more site first done [] m.list m.seats id stage
  run_stage done m (turn ∷ turns) meant come stage =
      let now = turned site m turn in
      let later = run site now.state turns in
      let w = turned_works site first j done m turn meant.0 come in
      subst (λ q. Stage site first q later.state.list later.state.seats id) (append_assoc done now.effects later.effects)
      (run_stage (done ++ now.effects) now.state turns meant.1 w.come (turn_stage done m turn.event turn.origin turn.choices meant.0 come stage))

-- ---- a run over the queue is finished where nothing is left of its list and nobody holds an entry

abbrev IsDone : Step → Type 0
IsDone step = step.state.over ≡ Some (By Finished) → (step.state.list ≡ []) × (step.state.seats ≡ [])

abbrev IsUnfinished : Step → Type 0
IsUnfinished step = step.state.over ≡ Some (By Finished) → ⊥

unfinished_halt : (o : Option Halt) → option_map finish_of o ≡ Some (By Finished) → ⊥
unfinished_halt None is = cc is
unfinished_halt (Some (Halts stop.SpoolFault)) is = cc is
unfinished_halt (Some (Halts stop.FilesFault)) is = cc is
unfinished_halt (Some (Halts stop.IdsSpent)) is = cc is
unfinished_halt (Some (Halts stop.NoMemory)) is = cc is
unfinished_halt (Some Unfit) is = cc is

over_done : (plan : Plan) (list : List ℕ) (seats : List Seat) (over : Option Finish) → (over ≡ Some (By Finished) → ⊥) → over_by plan list seats over ≡ Some (By Finished) → (list ≡ []) × (seats ≡ [])
over_done (Serve wait) list seats over not_yet is = absurd (not_yet is)
over_done (Once group) (id ∷ list) seats over not_yet is = absurd (not_yet is)
over_done (Once group) [] (seat ∷ seats) over not_yet is = absurd (not_yet is)
over_done (Once group) [] [] (Some finish) not_yet is = absurd (not_yet is)
over_done (Once group) [] [] None not_yet is = (refl, refl)

module _ (site : Site) where
  claims_unfinished : (m : State) (rows : List Routed) (luck : Luck) (o : Option Stored) → IsUnfinished (claims site m rows luck o)
  claims_unfinished m rows luck None = λ is. cc is
  claims_unfinished m rows luck (Some s) =
      either_step IsUnfinished (can_claim site m s) (claimed site m s rows luck) (cut m)
      (λ is. unfinished_halt (stepped site.config site.maps m.latest m.table (seat_for site s rows).holder luck).over is)
      (λ is. cc is)

  carries_unfinished : (m : State) (luck : Luck) (seats : List Seat) → IsUnfinished (carries site m luck seats)
  carries_unfinished m luck [] = λ is. cc is
  carries_unfinished m luck (seat ∷ others) = λ is. unfinished_halt (stepped site.config site.maps m.latest m.table seat.holder luck).over is

  quiet_unfinished : (m : State) (seats : List Seat) → m.over ≡ None → IsUnfinished (quiet m seats)
  quiet_unfinished m [] on = λ is. cc (sym on ∙ is)
  quiet_unfinished m (seat ∷ seats) on = λ is. cc is

  idle_unfinished : (m : State) (choice : Idling) → m.over ≡ None → IsUnfinished (idle site m choice)
  idle_unfinished m (Claiming id rows luck) on = claims_unfinished m rows luck (stored_at id m.table)
  idle_unfinished m Starving on = λ is. cc is
  idle_unfinished m (Carrying luck) on = carries_unfinished m luck m.seats
  idle_unfinished m Quiet on = quiet_unfinished m m.seats on

  turn_done : (group : Option (List ℕ)) (m : State) (event : Event) (origin : Origin) (choices : Choices event) → site.plan ≡ Once group → IsDone (still m) → IsDone (turned site m (turn_of event origin choices))
  turn_done group m (Opens session peer) origin choices once d = cut_has site IsDone group m (Opens session peer) origin choices once refl d (λ is. cc is)
  turn_done group m (Brings session bytes) origin choices once d = cut_has site IsDone group m (Brings session bytes) origin choices once refl d (λ is. cc is)
  turn_done group m (Closes session) origin choices once d = cut_has site IsDone group m (Closes session) origin choices once refl d (λ is. cc is)
  turn_done group m Stops origin choices once d = cut_has site IsDone group m Stops origin choices once refl d (λ is. cc is)
  turn_done group m Rests origin choice once d =
      let now = at_moment m (reading_of origin) in
      let step = idle site now choice in
      rest_has site IsDone m origin choice d (λ is. cc is) (λ on is. over_done site.plan step.state.list step.state.seats step.state.over (idle_unfinished now choice on) is)

  run_done : (group : Option (List ℕ)) (m : State) (turns : List Turn) → site.plan ≡ Once group → IsDone (still m) → IsDone (run site m turns)
  run_done group m [] once d = d
  run_done group m (turn ∷ turns) once d = run_done group (turned site m turn).state turns once (turn_done group m turn.event turn.origin turn.choices once d)

-- ---- the law

tried_by : (site : Site) (first : Table) (done : List Effect) (list : List ℕ) (seats : List Seat) (id : ℕ) → list ≡ [] → seats ≡ [] → Stage site first done list seats id → WasTried site first done id
tried_by site first done list seats id none gone (waits c) = absurd (let lt = (subst (λ q. Contains q id) none c).1 in omega (arith, lt))
tried_by site first done list seats id none gone (is_held seat among same w) = absurd (let lt = (subst (λ q. Contains q seat) gone among).1 in omega (arith, lt))
tried_by site first done list seats id none gone (is_over t) = t

pub list_law : (site : Site) (m : State) (turns : List Turn) (group : Option (List ℕ)) (id : ℕ) → site.plan ≡ Once group → m.seats ≡ [] → m.over ≡ None → IsRunMeant untold site m turns → IsSound m.table
    → (run site m turns).state.over ≡ Some (By Finished) → Contains m.list id → WasTried site m.table (run site m turns).effects id
list_law site m turns group id once none on meant sound finished among =
    let last = run site m turns in
    let come : IsCome site m.table [] m.table m.seats = record {
      table_is = refl;
      sound = sound;
      held = subst (AllHeld site m.table []) (sym none) (All-nil (λ (s : Seat). IsHeldBy site m.table [] s.holder));
      apart = subst (AreApart site) (sym none) (none_apart site);
    } in
    let d = run_done site group m turns once (λ is. cc (sym on ∙ is)) finished in
    tried_by site m.table last.effects last.state.list last.state.seats id d.0 d.1 (run_stage site m.table untold group once id [] m turns meant come (waits among))
