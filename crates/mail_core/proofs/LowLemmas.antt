-- No turn raises a revision by more than one, so a run of fewer turns than what is left up to the
-- last revision can be stopped in any command.
use Rattle.std.proofs.Common.{◌≡◌, ℕ, ◌+◌, ◌-◌, ◌^◌, ◌<◌, ◌≤◌, List, [], ◌∷◌, ◌++◌, true, map, length, sym, subst, arith}
use Rattle.std.specs.List.{flat_map}
use Rattle.std.proofs.lemmas.List.Elements.{All-append, All-nil, All-weaker}
use Rattle.link_edge.specs.declared.event.Event.{Event}
use Rattle.link_edge.specs.declared.event.Event.TheVariants.{Opens, Brings, Closes, Rests, Stops}
use Rattle.mail_base.specs.declared.config.Config.{Config}
use Rattle.mail_base.specs.declared.message.Cut.{Cut as Part}
use Rattle.mail_base.specs.declared.message.Message.{Message}
use Rattle.spool_store.specs.Entries.{Stored, Table}
use Rattle.queue_table.specs.Asked.{AllStop, AreLow, AreStoppable}
use Rattle.queue_table.specs.Commands.{Command, after, applied}
use Rattle.queue_table.specs.Commands.Command.{Accept, Record, Return, Warn}
use Rattle.queue_table.specs.declared.terms.Terms.{Terms}
use Rattle.queue_table.proofs.AskedLemmas.{stoppable_join}
use Rattle.queue_table.proofs.LowLemmas.{low_after, low_stops}
use Rattle.queue_run.specs.Deeds.{Asks, Claims, Deed, Files, Frees, Polls, Starts, Talks, asked_in}
use Rattle.queue_run.specs.Holders.{Holder}
use Rattle.queue_run.specs.Kinds.{Kind}
use Rattle.queue_run.specs.Steps.{Luck, Stepped, stepped}
use Rattle.mail_core.specs.Effects.{Does, Effect, HangsUp, Sends, Takes, Ticks, commanded, table_after}
use Rattle.mail_core.specs.Guests.{guest_of}
use Rattle.mail_core.specs.Idling.{ends_list, idle, stopped}
use Rattle.mail_core.specs.Judges.{JudgeSeen, untold}
use Rattle.mail_core.specs.Machine.{Choices, Turn, at_moment, came, handled, opened, pieced, run, turned}
use Rattle.mail_core.specs.Meant.{IsEventMeant}
use Rattle.mail_core.specs.Plans.{OfFloor, OfRun, Origin, reading_of}
use Rattle.mail_core.specs.Sites.{Site}
use Rattle.mail_core.specs.States.{Seat, State, Step, cut}
use Rattle.mail_core.proofs.IdleLemmas.{Idles, IsUp, claimed, goes, rest_idles, rests, stop_idles, took}
use Rattle.mail_core.proofs.KindLemmas.{Ways, begun, buried, delivered, exited, finished, given_back, halted, let_go, lost, missed, outgrown, settled, waited, warned, ways}
use Rattle.mail_core.proofs.LeadLemmas.{AreTaking, Leads, opened_steps, pieced_steps}
use Rattle.mail_core.proofs.TableLemmas.{commands_done}
use Rattle.mail_core.proofs.TurnedLemmas.{turned_has}

-- the commands of some steps, of which each but those that take messages in raises a revision by one
abbrev Last : ℕ
Last = 2 ^ 64 - 1

-- ---- messages that are taken in

more_low : (b c : ℕ) (table : Table) → b ≤ c → AreLow b table → AreLow c table
more_low b c table le low = All-weaker (λ (s : Stored). s.control.revision ≤ b) (λ (s : Stored). s.control.revision ≤ c) (λ s h. omega (arith, h, le)) table.entries low

-- new entries have the first revision
accept_low : (most : ℕ) (table : Table) (terms : Terms) (message : Message) (cuts : List Part) (moment : ℕ) → 1 ≤ most → AreLow most table → AreLow most (after table (Accept terms message cuts moment))
accept_low most table terms message [] moment le low = low
accept_low most table terms message (cut ∷ cuts) moment le low =
    let none : Table = record { entries = []; next = table.next } in
    let new = after none (Accept terms message (cut ∷ cuts) moment) in
    All-append (λ (s : Stored). s.control.revision ≤ most) table.entries new.entries low
    (more_low 1 most new le (low_after 0 none (Accept terms message (cut ∷ cuts) moment) (All-nil (λ (s : Stored). s.control.revision ≤ 0))))

taking_low : (most : ℕ) (table : Table) (effects : List Effect) → 1 ≤ most → AreTaking effects → AreLow most table → AreLow most (table_after table effects)
taking_low most table [] le taking low = low
taking_low most table (Does (Asks (Accept terms message cuts moment)) ∷ effects) le taking low = taking_low most (after table (Accept terms message cuts moment)) effects le taking.1 (accept_low most table terms message cuts moment le low)
taking_low most table (Does (Asks (Record terms other places results moment)) ∷ effects) le taking low = absurd taking.0
taking_low most table (Does (Asks (Return terms other backs moment)) ∷ effects) le taking low = absurd taking.0
taking_low most table (Does (Asks (Warn terms other backs moment)) ∷ effects) le taking low = absurd taking.0
taking_low most table (Does (Claims other rows) ∷ effects) le taking low = absurd taking.0
taking_low most table (Does (Frees other) ∷ effects) le taking low = absurd taking.0
taking_low most table (Does (Files other) ∷ effects) le taking low = absurd taking.0
taking_low most table (Does (Starts other places start launch) ∷ effects) le taking low = absurd taking.0
taking_low most table (Does (Polls other child poll) ∷ effects) le taking low = absurd taking.0
taking_low most table (Does (Talks other places talk) ∷ effects) le taking low = absurd taking.0
taking_low most table (Takes event ∷ effects) le taking low = taking_low most table effects le taking.1 low
taking_low most table (Ticks reading ∷ effects) le taking low = taking_low most table effects le taking.1 low
taking_low most table (Sends session text whole ∷ effects) le taking low = taking_low most table effects le taking.1 low
taking_low most table (HangsUp session ∷ effects) le taking low = taking_low most table effects le taking.1 low

taking_stops : (table : Table) (effects : List Effect) → AreTaking effects → AreStoppable commanded table effects
taking_stops table [] taking = tt
taking_stops table (Does (Asks (Accept terms message cuts moment)) ∷ effects) taking = (tt, taking_stops (after table (Accept terms message cuts moment)) effects taking.1)
taking_stops table (Does (Asks (Record terms other places results moment)) ∷ effects) taking = absurd taking.0
taking_stops table (Does (Asks (Return terms other backs moment)) ∷ effects) taking = absurd taking.0
taking_stops table (Does (Asks (Warn terms other backs moment)) ∷ effects) taking = absurd taking.0
taking_stops table (Does (Claims other rows) ∷ effects) taking = absurd taking.0
taking_stops table (Does (Frees other) ∷ effects) taking = absurd taking.0
taking_stops table (Does (Files other) ∷ effects) taking = absurd taking.0
taking_stops table (Does (Starts other places start launch) ∷ effects) taking = absurd taking.0
taking_stops table (Does (Polls other child poll) ∷ effects) taking = absurd taking.0
taking_stops table (Does (Talks other places talk) ∷ effects) taking = absurd taking.0
taking_stops table (Takes event ∷ effects) taking = taking_stops table effects taking.1
taking_stops table (Ticks reading ∷ effects) taking = taking_stops table effects taking.1
taking_stops table (Sends session text whole ∷ effects) taking = taking_stops table effects taking.1
taking_stops table (HangsUp session ∷ effects) taking = taking_stops table effects taking.1

-- ---- steps

-- effects that raise revisions by so many at most
record Raises (by : ℕ) (table : Table) (effects : List Effect) : Type 0 where
  low : (most : ℕ) → 1 ≤ most → AreLow most table → AreLow (most + by) (table_after table effects)
  stops : (most : ℕ) → 1 ≤ most → AreLow most table → most + by < Last → AreStoppable commanded table effects

raises_none : (by : ℕ) (table : Table) → Raises by table []
raises_none by table = record { low = λ most le low. more_low most (most + by) table (omega arith) low; stops = λ most le low lt. tt }

taking_raises : (by : ℕ) (table : Table) (effects : List Effect) → AreTaking effects → Raises by table effects
taking_raises by table effects taking = record {
  low = λ most le low. more_low most (most + by) (table_after table effects) (omega arith) (taking_low most table effects le taking low);
  stops = λ most le low lt. taking_stops table effects taking;
}

-- deeds that ask one command at most, the last one
abbrev IsShort : List Command → Type 0
IsShort [] = Unit {0}
IsShort (command ∷ []) = Unit {0}
IsShort (command ∷ other ∷ commands) = ⊥

way_short : (config : Config) (moment : ℕ) (table : Table) (h : Holder) (kind : Kind) (luck : Luck) (x : Stepped) → Ways config moment table h kind luck x → IsShort (flat_map asked_in x.deeds)
way_short config moment table h kind luck x (halted _ _ halt) = tt
way_short config moment table h kind luck x (waited r) = tt
way_short config moment table h kind luck x (exited r status failed) = tt
way_short config moment table h kind luck x (lost r failed) = tt
way_short config moment table h kind luck x (settled batch result failed) = tt
way_short config moment table h kind luck x (outgrown _ batch letter failed try) = tt
way_short config moment table h kind luck x (begun batch mailer letter start child count) = tt
way_short config moment table h kind luck x (missed batch mailer letter start launch failed none) = tt
way_short config moment table h kind luck x (delivered batch mailer peers letter talk failed) = tt
way_short config moment table h kind luck x (given_back _ bounce failed sent) = tt
way_short config moment table h kind luck x (buried _ failed) = tt
way_short config moment table h kind luck x (warned _ warning failed sent) = tt
way_short config moment table h kind luck x (finished _ failed) = tt
way_short config moment table h kind luck x (let_go _) = tt

short_low : (most : ℕ) (table : Table) (commands : List Command) → IsShort commands → AreLow most table → AreLow (most + 1) (applied table commands)
short_low most table [] short low = more_low most (most + 1) table (omega arith) low
short_low most table (command ∷ []) short low = low_after most table command low
short_low most table (command ∷ other ∷ commands) short low = absurd short

short_stops : (most : ℕ) (table : Table) (commands : List Command) → IsShort commands → AreLow most table → most + 1 < Last → AllStop table commands
short_stops most table [] short low lt = tt
short_stops most table (command ∷ []) short low lt = low_stops most table (command ∷ []) low (omega (arith, lt))
short_stops most table (command ∷ other ∷ commands) short low lt = absurd short

deeds_raise : (table : Table) (deeds : List Deed) → IsShort (flat_map asked_in deeds) → Raises 1 table (map Does deeds)
deeds_raise table deeds short = record {
  low = λ most le low. subst (λ q. AreLow (most + 1) (applied table q)) (sym (commands_done deeds)) (short_low most table (flat_map asked_in deeds) short low);
  stops = λ most le low lt. subst (AllStop table) (sym (commands_done deeds)) (short_stops most table (flat_map asked_in deeds) short low lt);
}

up_raises : (F : Type 0) (site : Site) (m : State) (front : List Deed) (seat : Seat) (others : List Seat) (deeds : List Deed) → IsUp F site m front seat others → IsShort (flat_map asked_in deeds) → IsShort (flat_map asked_in (front ++ deeds))
up_raises F site m front seat others deeds (claimed s rows is can routed) short = short
up_raises F site m front seat others deeds (took _ _ out) short = short

idles_raise : (F : Type 0) (j : JudgeSeen) (site : Site) (m : State) (step : Step) → Idles F j site m step → Raises 1 m.table step.effects
idles_raise F j site m step (rests table seats effects) = subst (Raises 1 m.table) (sym effects) (raises_none 1 m.table)
idles_raise F j site m step (goes front seat others luck x up is meant table seats effects) =
    let h = seat.holder in
    let y = stepped site.config site.maps m.latest m.table h luck in
    let short = subst (λ (q : Stepped). IsShort (flat_map asked_in q.deeds)) (sym is) (way_short site.config m.latest m.table h _ luck y (ways site.config m.latest m.table h _ luck)) in
    subst (Raises 1 m.table) (sym effects) (deeds_raise m.table (front ++ x.deeds) (up_raises F site m front seat others x.deeds up short))

-- ---- turns

leads_raise : (F : Type 0) (old new : Table) (effects : List Effect) → Leads F old new effects → Raises 1 old effects
leads_raise F old new effects leads = taking_raises 1 old effects leads.taking

handled_raises : (site : Site) (m : State) (event : Event) (choices : Choices event) → Raises 1 m.table (handled site m event choices).effects
handled_raises site m (Opens session peer) choice = let step = opened site m session peer choice in leads_raise (Unit {0}) m.table step.state.table step.effects (opened_steps (Unit {0}) site m session peer choice)
handled_raises site m (Brings session bytes) choices =
    let step = pieced site m bytes choices (guest_of session m.guests) in
    leads_raise (IsEventMeant untold site m (Brings session bytes) choices) m.table step.state.table step.effects (pieced_steps untold site m bytes choices (guest_of session m.guests))
handled_raises site m (Closes session) none = raises_none 1 m.table
handled_raises site m Rests choice = idles_raise (IsEventMeant untold site m Rests choice) untold site m (ends_list site (idle site m choice)) (rest_idles untold site m choice)
handled_raises site m Stops luck = idles_raise (IsEventMeant untold site m Stops luck) untold site m (stopped site (record m { stopping = true }) luck) (stop_idles untold site m luck)

came_raises : (table : Table) (origin : Origin) (event : Event) (effects : List Effect) → Raises 1 table effects → Raises 1 table (came origin event ++ effects)
came_raises table (OfFloor reading) event effects h = record { low = h.low; stops = h.stops }
came_raises table (OfRun reading) event effects h = record { low = h.low; stops = h.stops }

turned_raises : (site : Site) (m : State) (turn : Turn) → Raises 1 m.table (turned site m turn).effects
turned_raises site m turn =
    let now = at_moment m (reading_of turn.origin) in
    turned_has (λ (q : Step). Raises 1 m.table q.effects) site m turn (raises_none 1 m.table) (raises_none 1 m.table)
    (came_raises m.table turn.origin turn.event (handled site now turn.event turn.choices).effects (handled_raises site now turn.event turn.choices))

pub run_low : (told : (site : Site) (m : State) (turn : Turn) → (turned site m turn).state.table ≡ table_after m.table (turned site m turn).effects) (site : Site) (m : State) (turns : List Turn) (most : ℕ) → 1 ≤ most → AreLow most m.table → AreLow (most + length turns) (run site m turns).state.table
run_low told site m [] most le low = more_low most (most + 0) m.table (omega arith) low
run_low told site m (turn ∷ turns) most le low =
    let now = turned site m turn in
    let r = turned_raises site m turn in
    let next = subst (AreLow (most + 1)) (sym (told site m turn)) (r.low most le low) in
    more_low (most + 1 + length turns) (most + length (turn ∷ turns)) (run site now.state turns).state.table (omega arith) (run_low told site now.state turns (most + 1) (omega arith) next)

pub run_stops : (told : (site : Site) (m : State) (turn : Turn) → (turned site m turn).state.table ≡ table_after m.table (turned site m turn).effects) (site : Site) (m : State) (turns : List Turn) (most : ℕ) → 1 ≤ most → AreLow most m.table → most + length turns < Last
    → AreStoppable commanded m.table (run site m turns).effects
run_stops told site m [] most le low lt = tt
run_stops told site m (turn ∷ turns) most le low lt =
    let now = turned site m turn in
    let r = turned_raises site m turn in
    let next = subst (AreLow (most + 1)) (sym (told site m turn)) (r.low most le low) in
    stoppable_join commanded m.table now.effects (run site now.state turns).effects (r.stops most le low (omega (arith, lt)))
    (subst (λ t. AreStoppable commanded t (run site now.state turns).effects) (told site m turn) (run_stops told site now.state turns (most + 1) (omega arith) next (omega (arith, lt))))
