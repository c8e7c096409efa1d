-- A turn of the machine, by what was seen of the turn itself and what was done at its event.
use Rattle.std.proofs.Common.{◌≡◌, ℕ, List, [], ◌∷◌, true, false, Some, None, Result, Ok, Err, refl, sym, ◌∙◌, ap, subst, arith}
use Rattle.std.specs.Prelude.{is_ok, if◌then◌else◌}
use Rattle.std.specs.Option.{is_some}
use Rattle.std.proofs.lemmas.Bool.{cond-true, cond-false, false≢true}
use Rattle.mail_base.specs.Histories.{Gains}
use Rattle.mail_base.proofs.Gaining.{gains_none}
use Rattle.mail_edge.specs.Seen.{ClockSeen}
use Rattle.link_edge.specs.Heard.{Heard}
use Rattle.link_edge.specs.declared.event.Event.{Event}
use Rattle.link_edge.specs.declared.event.Event.TheVariants.{Opens, Brings, Closes, Rests, Stops}
use Rattle.spool_disk.specs.Disk.{FileMap}
use Rattle.spool_disk.specs.Spooled.{Spooled}
use Rattle.spool_store.specs.Entries.{Table}
use Rattle.spool_store.specs.Settled.{StandsFor}
use Rattle.mail_core.specs.declared.act.Act.{Act}
use Rattle.mail_core.specs.declared.serving.Core.{Core}
use Rattle.mail_core.specs.declared.serving.CoreStop.{CoreStop}
use Rattle.mail_core.specs.Causes.{EndsSo, ending_of, is_well}
use Rattle.mail_core.specs.Effects.{Effect, Takes, Ticks, table_after}
use Rattle.mail_core.specs.Events.{IsTaken, Turns}
use Rattle.mail_core.specs.Judges.{JudgeSeen}
use Rattle.mail_core.specs.Machine.{Choices, Turn, at_moment, came, fits, handled, turned}
use Rattle.mail_core.specs.Meant.{IsEventMeant, IsEventRead}
use Rattle.mail_core.specs.Plans.{OfFloor, OfRun, Origin, comes_from, is_own, reading_of}
use Rattle.mail_core.specs.Seen.{Hands, Ran, RanBy, Seen, beside, seen}
use Rattle.mail_core.specs.Sites.{Site}
use Rattle.mail_core.specs.Standing.{Stands}
use Rattle.mail_core.specs.States.{Ending, State, Step, cut, headed, still}
use Rattle.mail_core.specs.inner.Handling.{Steps}
use Rattle.mail_core.proofs.CoreLemmas.{no_deed}
use Rattle.mail_core.proofs.GoingLemmas.{cause_since}
use Rattle.mail_core.proofs.RanLemmas.{ran_ends, ran_joins, ran_quiet}

-- what is seen of a turn itself
came_ran : (dirs : List (List ℕ)) (table : Table) (origin : Origin) (event : Event) (before f : Heard) (s : Spooled) (clock read : ClockSeen) (hands : Hands) → IsTaken origin before f clock read event
    → Ran dirs table (seen before s (beside clock hands)) (seen f s (beside read hands)) (came origin event) true
came_ran dirs table (OfFloor reading) event before f s clock read hands t =
    ran_quiet dirs table before f s (beside clock hands) (beside read hands) (Takes event ∷ Ticks reading ∷ []) (no_deed (Takes event ∷ Ticks reading ∷ []) refl refl refl) t.comes.told t.comes.faults t.clock_told t.readings refl
came_ran dirs table (OfRun reading) event before f s clock read hands t =
    ran_quiet dirs table before f s (beside clock hands) (beside read hands) (Ticks reading ∷ []) (no_deed (Ticks reading ∷ []) refl refl refl)
    (subst (λ (h : Heard). Gains before.told h.told []) (sym t.comes) (gains_none before.told)) (let e = ap (λ (h : Heard). h.faults) t.comes in omega (arith, e)) t.clock_told t.readings refl

-- steps of the machine at the moment that the clock told are the turn of an event
pub turns_by : (j : JudgeSeen) (site : Site) (m : State) (event : Event) (origin : Origin) (choices : Choices event) (before f : Heard) (s : Spooled) (clock read : ClockSeen) (hands : Hands) (b : Seen) (core : Core) (went : Result Act CoreStop)
    → m.over ≡ None → comes_from site.plan m.stopping origin event ≡ true → IsTaken origin before f clock read event
    → IsEventMeant j site (at_moment m (reading_of origin)) event choices
    → ((files : FileMap) → s.told ≡ Some files → StandsFor site.dirs m.table files → IsEventRead m event choices)
    → RanBy site.dirs m.table (seen f s (beside read hands)) b (handled site (at_moment m (reading_of origin)) event choices).effects (is_well went) (is_ok went)
    → (ending_of went ≡ None → Stands site core (handled site (at_moment m (reading_of origin)) event choices).state)
    → ((ending : Ending) → ending_of went ≡ Some ending → EndsSo ending (handled site (at_moment m (reading_of origin)) event choices).state (seen f s (beside read hands)) b)
    → Turns j site m event origin (seen before s (beside clock hands)) b core went
turns_by j site m event origin choices before f s clock read hands b core went on comes taken meant reads ran stands ended =
    let turn : Turn = record { event = event; origin = origin; choices = choices } in
    let inner = handled site (at_moment m (reading_of origin)) event choices in
    let first : List Effect = came origin event in
    let is : turned site m turn ≡ headed first inner =
    cond-false (is_some m.over) (still m) (if fits site m turn then headed first inner else cut m) (ap is_some on) ∙ cond-true (fits site m turn) (headed first inner) (cut m) comes in record {
      choices = choices;
      meant = meant;
      read = reads;
      ran = subst (λ (q : Step). RanBy site.dirs m.table (seen before s (beside clock hands)) b q.effects (is_well went) (is_ok went)) (sym is)
          (ran_joins site.dirs m.table (seen before s (beside clock hands)) (seen f s (beside read hands)) b first inner.effects (is_well went) (is_ok went)
          (came_ran site.dirs m.table origin event before f s clock read hands taken) (subst (λ t. RanBy site.dirs t (seen f s (beside read hands)) b inner.effects (is_well went) (is_ok went)) (came_table m.table origin event) ran));
      stands = λ e. subst (λ (q : Step). Stands site core q.state) (sym is) (stands e);
      ended = λ ending e.
          let so = ended ending e in
          subst (λ (q : Step). EndsSo ending q.state (seen before s (beside clock hands)) b) (sym is) (record {
            over = so.over;
            cause = cause_since ending inner.state.table (seen before s (beside clock hands)) (seen f s (beside read hands)) b (omega arith) so.cause;
          });
    }
  where
    came_table : (table : Table) (origin : Origin) (event : Event) → table ≡ table_after table (came origin event)
    came_table table (OfFloor reading) event = refl
    came_table table (OfRun reading) event = refl

pub went_well : (went : Result Act CoreStop) → is_ok went ≡ true → is_well went ≡ true
went_well (Ok act) on = refl
went_well (Err stop) on = absurd (false≢true on)

-- no session's event reads a body
unread_session : (m : State) (event : Event) (choices : Choices event) → is_own event ≡ false → IsEventRead m event choices
unread_session m (Opens session peer) choices e = tt
unread_session m (Brings session bytes) choices e = tt
unread_session m (Closes session) choices e = tt
unread_session m Rests choices e = absurd (false≢true (sym e))
unread_session m Stops choices e = absurd (false≢true (sym e))

-- the turn of a session, by its steps
pub turns_of : (j : JudgeSeen) (site : Site) (m : State) (event : Event) (reading : ℕ) (before f : Heard) (s : Spooled) (clock read : ClockSeen) (hands : Hands) (b : Seen) (core : Core) (went : Result Act CoreStop)
    → m.over ≡ None → is_own event ≡ false → comes_from site.plan m.stopping (OfFloor reading) event ≡ true → IsTaken (OfFloor reading) before f clock read event
    → Steps j site (at_moment m reading) event (seen f s (beside read hands)) b core went → Turns j site m event (OfFloor reading) (seen before s (beside clock hands)) b core went
turns_of j site m event reading before f s clock read hands b core went on own comes taken h =
    turns_by j site m event (OfFloor reading) h.choices before f s clock read hands b core went on comes taken h.meant
    (λ files told stands. unread_session m event h.choices own)
    (ran_ends site.dirs m.table (seen f s (beside read hands)) b (handled site (at_moment m reading) event h.choices).effects (is_well went) (is_ok went) (went_well went) h.ran)
    h.stands h.ended
