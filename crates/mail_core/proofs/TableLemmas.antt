-- Each turn leads from its table to the next, and says the final 250 of messages that it put in.
use Rattle.std.proofs.Common.{◌≡◌, ℕ, List, [], ◌∷◌, ◌++◌, true, map, refl, sym, ◌∙◌, ap, subst}
use Rattle.std.specs.List.{flat_map}
use Rattle.mail_base.specs.declared.config.Config.{Config}
use Rattle.link_edge.specs.declared.event.Event.{Event}
use Rattle.link_edge.specs.declared.event.Event.TheVariants.{Opens, Brings, Closes, Rests, Stops}
use Rattle.spool_store.specs.Entries.{Stored, Table}
use Rattle.queue_table.specs.Asked.{table_by}
use Rattle.queue_table.specs.Commands.{applied}
use Rattle.queue_run.specs.Deeds.{Deed, asked_in}
use Rattle.queue_run.specs.Holders.{Holder}
use Rattle.queue_run.specs.Kinds.{Kind}
use Rattle.queue_run.specs.Steps.{Luck, Stepped, stepped}
use Rattle.mail_core.specs.Acks.{AreAcked, latest_by}
use Rattle.mail_core.specs.Effects.{Does, Effect, commanded, table_after}
use Rattle.mail_core.specs.Guests.{guest_of}
use Rattle.mail_core.specs.Idling.{ends_list, idle, stopped}
use Rattle.mail_core.specs.Judges.{JudgeSeen}
use Rattle.mail_core.specs.Machine.{Choices, Turn, at_moment, came, handled, opened, pieced, run, turned}
use Rattle.mail_core.specs.Meant.{IsEventMeant, IsRunMeant}
use Rattle.mail_core.specs.Plans.{OfFloor, OfRun, Origin, reading_of}
use Rattle.mail_core.specs.Sites.{Site}
use Rattle.mail_core.specs.States.{Seat, State, Step}
use Rattle.mail_core.proofs.FollowLemmas.{table_more}
use Rattle.mail_core.proofs.IdleLemmas.{Idles, IsUp, claimed, goes, rest_idles, rests, stop_idles, took}
use Rattle.mail_core.proofs.KindLemmas.{Ways, begun, buried, delivered, exited, finished, given_back, halted, let_go, lost, missed, outgrown, settled, waited, warned, ways}
use Rattle.mail_core.proofs.LeadLemmas.{Leads, acked_join, opened_steps, pieced_steps}
use Rattle.mail_core.proofs.TurnedLemmas.{turned_has}

-- ---- deeds of a holder

way_table : (config : Config) (moment : ℕ) (table : Table) (h : Holder) (kind : Kind) (luck : Luck) (x : Stepped) → Ways config moment table h kind luck x → x.table ≡ table_by asked_in table x.deeds
way_table config moment table h kind luck x (halted _ _ halt) = refl
way_table config moment table h kind luck x (waited r) = refl
way_table config moment table h kind luck x (exited r status failed) = refl
way_table config moment table h kind luck x (lost r failed) = refl
way_table config moment table h kind luck x (settled batch result failed) = refl
way_table config moment table h kind luck x (outgrown _ batch letter failed try) = refl
way_table config moment table h kind luck x (begun batch mailer letter start child count) = refl
way_table config moment table h kind luck x (missed batch mailer letter start launch failed none) = refl
way_table config moment table h kind luck x (delivered batch mailer peers letter talk failed) = refl
way_table config moment table h kind luck x (given_back _ bounce failed sent) = refl
way_table config moment table h kind luck x (buried _ failed) = refl
way_table config moment table h kind luck x (warned _ warning failed sent) = refl
way_table config moment table h kind luck x (finished _ failed) = refl
way_table config moment table h kind luck x (let_go _) = refl

pub commands_done : (deeds : List Deed) → flat_map commanded (map Does deeds) ≡ flat_map asked_in deeds
commands_done [] = refl
commands_done (deed ∷ deeds) = ap (λ q. asked_in deed ++ q) (commands_done deeds)

pub stepped_table : (site : Site) (moment : ℕ) (table : Table) (h : Holder) (luck : Luck) → (stepped site.config site.maps moment table h luck).table ≡ table_after table (map Does (stepped site.config site.maps moment table h luck).deeds)
stepped_table site moment table h luck =
    let x = stepped site.config site.maps moment table h luck in
    way_table site.config moment table h _ luck x (ways site.config moment table h _ luck) ∙ ap (applied table) (sym (commands_done x.deeds))

done_acked : (latest : List Stored) (table : Table) (deeds : List Deed) → AreAcked latest table (map Does deeds)
done_acked latest table [] = tt
done_acked latest table (deed ∷ deeds) = (tt, done_acked (latest_by latest table (Does deed)) (table_after table (Does deed ∷ [])) deeds)

-- ---- turns

-- effects that lead from a table to another; each final 250 is of the message that was put in last
-- where F is so
pub record Tells (F : Type 0) (old new : Table) (effects : List Effect) : Type 0 where
  pub table : new ≡ table_after old effects
  pub acked : F → (latest : List Stored) → AreAcked latest old effects

pub tells_none : (F : Type 0) (table : Table) → Tells F table table []
tells_none F table = record { table = refl; acked = λ f latest. tt }

tells_join : (F G H : Type 0) → (H → F) → (H → G) → (one two three : Table) (xs ys : List Effect) → Tells F one two xs → Tells G two three ys → Tells H one three (xs ++ ys)
tells_join F G H to_f to_g one two three xs ys h k = record {
  table = k.table ∙ ap (λ t. table_after t ys) h.table ∙ sym (table_more one xs ys);
  acked = λ f latest. acked_join latest one xs ys (h.acked (to_f f) latest) (λ other. subst (λ t. AreAcked other t ys) h.table (k.acked (to_g f) other));
}

leads_tells : (F : Type 0) (old new : Table) (effects : List Effect) → Leads F old new effects → Tells F old new effects
leads_tells F old new effects h = record { table = h.table; acked = h.acked }

-- claims ask nothing
up_table : (F : Type 0) (site : Site) (m : State) (front : List Deed) (seat : Seat) (others : List Seat) (table : Table) (deeds : List Deed) → IsUp F site m front seat others → table_after table (map Does (front ++ deeds)) ≡ table_after table (map Does deeds)
up_table F site m front seat others table deeds (claimed s rows is can routed) = refl
up_table F site m front seat others table deeds (took _ _ out) = refl

pub idles_tells : (F : Type 0) (j : JudgeSeen) (site : Site) (m : State) (step : Step) → Idles F j site m step → Tells F m.table step.state.table step.effects
idles_tells F j site m step (rests table seats effects) = record {
  table = table ∙ sym (ap (table_after m.table) effects);
  acked = λ f latest. subst (AreAcked latest m.table) (sym effects) tt;
}
idles_tells F j site m step (goes front seat others luck x up is meant table seats effects) = record {
  table = table ∙ ap (λ (q : Stepped). q.table) is ∙ stepped_table site m.latest m.table seat.holder luck ∙ ap (λ (q : Stepped). table_after m.table (map Does q.deeds)) (sym is)
      ∙ sym (up_table F site m front seat others m.table x.deeds up) ∙ sym (ap (table_after m.table) effects);
  acked = λ f latest. subst (AreAcked latest m.table) (sym effects) (done_acked latest m.table (front ++ x.deeds));
}

handled_tells : (j : JudgeSeen) (site : Site) (m : State) (event : Event) (choices : Choices event) → Tells (IsEventMeant j site m event choices) m.table (handled site m event choices).state.table (handled site m event choices).effects
handled_tells j site m (Opens session peer) choice = let step = opened site m session peer choice in leads_tells (Unit {0}) m.table step.state.table step.effects (opened_steps (Unit {0}) site m session peer choice)
handled_tells j site m (Brings session bytes) choices =
    let step = pieced site m bytes choices (guest_of session m.guests) in
    leads_tells (IsEventMeant j site m (Brings session bytes) choices) m.table step.state.table step.effects (pieced_steps j site m bytes choices (guest_of session m.guests))
handled_tells j site m (Closes session) none = tells_none (Unit {0}) m.table
handled_tells j site m Rests choice = idles_tells (IsEventMeant j site m Rests choice) j site m (ends_list site (idle site m choice)) (rest_idles j site m choice)
handled_tells j site m Stops luck = idles_tells (IsEventMeant j site m Stops luck) j site m (stopped site (record m { stopping = true }) luck) (stop_idles j site m luck)

came_tells : (F : Type 0) (table : Table) (origin : Origin) (event : Event) (step : Step) → Tells F table step.state.table step.effects → Tells F table step.state.table (came origin event ++ step.effects)
came_tells F table (OfFloor reading) event step h = record { table = h.table; acked = λ f latest. (tt, (tt, h.acked f latest)) }
came_tells F table (OfRun reading) event step h = record { table = h.table; acked = λ f latest. (tt, h.acked f latest) }

pub turned_tells : (j : JudgeSeen) (site : Site) (m : State) (turn : Turn) → Tells (IsEventMeant j site (at_moment m (reading_of turn.origin)) turn.event turn.choices) m.table (turned site m turn).state.table (turned site m turn).effects
turned_tells j site m turn =
    let now = at_moment m (reading_of turn.origin) in
    let F : Type 0 = IsEventMeant j site now turn.event turn.choices in
    turned_has (λ (q : Step). Tells F m.table q.state.table q.effects) site m turn (tells_none F m.table) (tells_none F m.table)
    (came_tells F m.table turn.origin turn.event (handled site now turn.event turn.choices) (handled_tells j site now turn.event turn.choices))

pub run_tells : (j : JudgeSeen) (site : Site) (m : State) (turns : List Turn) → Tells (IsRunMeant j site m turns) m.table (run site m turns).state.table (run site m turns).effects
run_tells j site m [] = tells_none (Unit {0}) m.table
run_tells j site m (turn ∷ turns) =
    let now = turned site m turn in
    let later = run site now.state turns in
    tells_join (IsEventMeant j site (at_moment m (reading_of turn.origin)) turn.event turn.choices) (IsRunMeant j site now.state turns) (IsRunMeant j site m (turn ∷ turns)) (λ f. f.0) (λ f. f.1) m.table now.state.table later.state.table now.effects later.effects
    (turned_tells j site m turn) (run_tells j site now.state turns)
