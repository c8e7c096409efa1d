-- Turns that come next, and what they come to.
use Rattle.std.proofs.Common.{◌≡◌, ◌≢◌, ℕ, ◌+◌, ◌≤◌, List, [], ◌∷◌, Option, Some, None, Result, Bool, true, false, refl, sym, ◌∙◌, ap, subst}
use Rattle.std.specs.Prelude.{IfSome, is_some}
use Rattle.std.proofs.lemmas.Bool.{false≢true}
use Rattle.mail_base.specs.Histories.{Gains}
use Rattle.mail_base.specs.declared.config.Config.{Config}
use Rattle.mail_edge.specs.Seen.{ClockSeen, FilesSeen}
use Rattle.link_edge.specs.Heard.{Heard}
use Rattle.link_edge.specs.Sessions.{Follows, is_sound, is_among}
use Rattle.link_edge.specs.Turns.{Fits, told_of}
use Rattle.link_edge.specs.declared.event.Event.{Event}
use Rattle.link_edge.specs.declared.event.Event.TheVariants.{Opens, Brings, Rests, Stops}
use Rattle.link_edge.specs.declared.event.FloorEvent.{FloorEvent}
use Rattle.link_edge.specs.declared.event.FloorEvent.TheVariants.{Took}
use Rattle.link_edge.specs.declared.turn.Turn.{Turn}
use Rattle.link_edge.specs.declared.turn.Turn.TheVariants.{Opened, Piece, Closed, Idle, Stop}
use Rattle.link_edge.proofs.Sessioning.{sound_push}
use Rattle.link_edge.proofs.Sounding.{opened_is_sound}
use Rattle.mail_judge.specs.Judged.{Grounds, IsJudged, answerer_of}
use Rattle.mail_judge.specs.Returned.{ReturnsTo}
use Rattle.mail_core.specs.declared.act.Act.{Act}
use Rattle.mail_core.specs.declared.serving.Core.{Core}
use Rattle.mail_core.specs.declared.serving.CoreStop.{CoreStop}
use Rattle.mail_core.specs.Events.{IsHeardAt, IsTaken, IsTold, Turns, event_of}
use Rattle.mail_core.specs.Judges.{JudgeSeen, drawing, judging}
use Rattle.mail_core.specs.Machine.{at_moment}
use Rattle.mail_core.specs.Plans.{Origin, OfFloor, OfRun, Plan, comes_from, is_own, reading_of}
use Rattle.mail_core.specs.Seen.{Seen}
use Rattle.mail_core.specs.Sites.{Site}
use Rattle.mail_core.specs.States.{State}
use Rattle.mail_core.proofs.JudgeLemmas.{alike_itself, event_since, own_meant}
use Rattle.mail_core.proofs.PlanLemmas.{made_own}
use Rattle.sendmail_run.specs.declared.task.Task.{Task}
use Rattle.sendmail_run.specs.declared.task.Task.TheVariants.{Session, Daemon, Run}
use Rattle.sendmail_run.specs.Serving.{judge_by}
use Rattle.sendmail_run.specs.Tasks.{IsBegunAt, door_of, is_run, plan_of}
use Rattle.sendmail_run.specs.inner.Opened.{Comes, origin_of}

-- ---- what the floor tells

-- a session that was just opened is sound, and so is one of which bytes came
sound_opened : (a b : Option (List FloorEvent)) (session : ℕ) (peer : List ℕ) → Gains a b (Took (Opens session peer) ∷ []) → IfSome b (λ history. is_sound session history ≡ true)
sound_opened a None session peer h = tt
sound_opened None (Some new) session peer h = absurd h
sound_opened (Some old) (Some new) session peer h = subst (λ (q : List FloorEvent). is_sound session q ≡ true) (sym h) (opened_is_sound old session peer)

sound_brought : (a b : Option (List FloorEvent)) (session : ℕ) (bytes : List ℕ) → Gains a b (Took (Brings session bytes) ∷ []) → IfSome a (λ history. is_sound session history ≡ true) → IfSome b (λ history. is_sound session history ≡ true)
sound_brought a None session bytes h sound = tt
sound_brought None (Some new) session bytes h sound = absurd h
sound_brought (Some old) (Some new) session bytes h sound =
    subst (λ (q : List FloorEvent). is_sound session q ≡ true) (sym h) (ap (is_among session) (sound_push old (Took (Brings session bytes))) ∙ sound)

-- a turn that the floor told is the last of its history
heard_at : (f g : Heard) (turn : Turn) (buf : List ℕ) → Gains f.told g.told (told_of turn buf ∷ []) → IfSome f.told (λ history. Follows history (told_of turn buf)) → IsHeardAt g turn
heard_at f g (Opened session count) buf told follows = sound_opened f.told g.told session _ told
heard_at f g (Piece session count) buf told follows = sound_brought f.told g.told session _ told follows
heard_at f g (Closed session) buf told follows = tt
heard_at f g Idle buf told follows = tt
heard_at f g Stop buf told follows = tt

told_so : (f g : Heard) (turn : Turn) (buf : List ℕ) → Gains f.told g.told (told_of turn buf ∷ []) → IfSome f.told (λ history. Follows history (told_of turn buf)) → f.faults ≤ g.faults → IsTold f g (event_of turn buf)
told_so f g (Opened session count) buf told follows later = record { told = told; follows = follows; faults = later }
told_so f g (Piece session count) buf told follows later = record { told = told; follows = follows; faults = later }
told_so f g (Closed session) buf told follows later = record { told = told; follows = follows; faults = later }
told_so f g Idle buf told follows later = record { told = told; follows = follows; faults = later }
told_so f g Stop buf told follows later = record { told = told; follows = follows; faults = later }

-- ---- the turn that comes next

-- where sessions are served, the floor tells any event until a Stop came
floor_tells : (task : Task) (reading : ℕ) (event : Event) → is_run task ≡ false → comes_from (plan_of task) false (OfFloor reading) event ≡ true
floor_tells Session reading event other = refl
floor_tells (Daemon wait) reading event other = refl
floor_tells (Run group) reading event other = absurd (false≢true (sym other))

-- and then the run makes Stops
makes_stop : (task : Task) (reading : ℕ) → is_run task ≡ false → comes_from (plan_of task) true (OfRun reading) Stops ≡ true
makes_stop Session reading other = refl
makes_stop (Daemon wait) reading other = refl
makes_stop (Run group) reading other = absurd (false≢true (sym other))

makes_rest : (task : Task) (stopping : Bool) (reading : ℕ) → is_run task ≡ true → comes_from (plan_of task) stopping (OfRun reading) Rests ≡ true
makes_rest Session stopping reading is = absurd (false≢true is)
makes_rest (Daemon wait) stopping reading is = absurd (false≢true is)
makes_rest (Run group) stopping reading is = refl

-- a run over the queue rests
pub comes_rest : (task : Task) (stopping : Bool) (f : Heard) (buffer : List ℕ) → is_run task ≡ true → Comes task stopping f f Idle false buffer
comes_rest task stopping f buffer is = record {
  fits = tt;
  heard = tt;
  comes = λ reading. refl;
  may = λ reading. makes_rest task stopping reading is;
  own = λ e. refl;
  alone = λ e. refl;
  begun = refl;
  faults = refl;
}

-- a run that is stopping stops
pub comes_stop : (task : Task) (stopping : Bool) (f : Heard) (buffer : List ℕ) → is_run task ≡ false → stopping ≡ true → Comes task stopping f f Stop false buffer
comes_stop task stopping f buffer other is = record {
  fits = tt;
  heard = tt;
  comes = λ reading. refl;
  may = λ reading. subst (λ (s : Bool). comes_from (plan_of task) s (OfRun reading) Stops ≡ true) (sym is) (makes_stop task reading other);
  own = λ e. refl;
  alone = λ e. refl;
  begun = refl;
  faults = refl;
}

-- and each other turn is the floor's
pub comes_told : (task : Task) (stopping : Bool) (f g : Heard) (turn : Turn) (buffer : List ℕ) → is_run task ≡ false → stopping ≡ false → Fits turn buffer → Gains f.told g.told (told_of turn buffer ∷ []) → IfSome f.told (λ history. Follows history (told_of turn buffer))
    → f.faults ≤ g.faults → g.begun ≡ f.begun → g.faults ≡ f.faults → Comes task stopping f g turn true buffer
comes_told task stopping f g turn buffer other on fits told follows later begun calm = record {
  fits = fits;
  heard = heard_at f g turn buffer told follows;
  comes = λ reading. told_so f g turn buffer told follows later;
  may = λ reading. subst (λ (s : Bool). comes_from (plan_of task) s (OfFloor reading) (event_of turn buffer) ≡ true) (sym on) (floor_tells task reading (event_of turn buffer) other);
  own = λ e. absurd (false≢true (sym other ∙ e));
  alone = λ e. absurd (false≢true (sym other ∙ e));
  begun = begun;
  faults = calm;
}

-- it came, and then the clock was read
pub taken : (task : Task) (stopping : Bool) (f g : Heard) (turn : Turn) (told : Bool) (buffer : List ℕ) (k l : ClockSeen) (reading : ℕ) → Comes task stopping f g turn told buffer → Gains k.told l.told (reading ∷ []) → l.readings ≡ k.readings + 1
    → IsTaken (origin_of told reading) f g k l (event_of turn buffer)
taken task stopping f g turn true buffer k l reading comes read counted = record { comes = comes.comes reading; clock_told = read; readings = counted }
taken task stopping f g turn false buffer k l reading comes read counted = record { comes = comes.comes reading; clock_told = read; readings = counted }

-- ---- what it comes to

-- a turn of no session is meant by what draws receivers
pub turns_own : (grounds made : Grounds) (files : FilesSeen) (site : Site) (m : State) (event : Event) (origin : Origin) (a b : Seen) (core : Core) (went : Result Act CoreStop) → made ≡ grounds → is_own event ≡ true
    → Turns (drawing (answerer_of files) (ReturnsTo made files.map)) site m event origin a b core went → Turns (judge_by grounds files) site m event origin a b core went
turns_own grounds made files site m event origin a b core went same own t = subst (λ (q : Grounds). Turns (judge_by q files) site m event origin a b core went) same (record {
  choices = t.choices;
  meant = own_meant site (answerer_of files) (λ question said. Unit {0}) (IsJudged made files.map) (ReturnsTo made files.map) (at_moment m (reading_of origin)) event t.choices own t.meant;
  read = t.read;
  ran = t.ran;
  stands = t.stands;
  ended = t.ended;
})

-- and one of a session by what judges paths
pub turns_session : (grounds made : Grounds) (files : FilesSeen) (site : Site) (m : State) (event : Event) (origin : Origin) (a b : Seen) (core : Core) (went : Result Act CoreStop) → made ≡ grounds → is_own event ≡ false
    → Turns (judging (answerer_of files) (IsJudged made files.map)) site m event origin a b core went → Turns (judge_by grounds files) site m event origin a b core went
turns_session grounds made files site m event origin a b core went same own t = subst (λ (q : Grounds). Turns (judge_by q files) site m event origin a b core went) same (record {
  choices = t.choices;
  meant = event_since site (judge_by made files) (judging (answerer_of files) (IsJudged made files.map)) (at_moment m (reading_of origin)) event t.choices own (alike_itself (judge_by made files)) t.meant;
  read = t.read;
  ran = t.ran;
  stands = t.stands;
  ended = t.ended;
})

-- a turn that is none of the run's own is of a session
pub of_session : (turn : Turn) (buffer : List ℕ) → turn ≢ Idle → turn ≢ Stop → is_own (event_of turn buffer) ≡ false
of_session (Opened session count) buffer rests stops = refl
of_session (Piece session count) buffer rests stops = refl
of_session (Closed session) buffer rests stops = refl
of_session Idle buffer rests stops = absurd (rests refl)
of_session Stop buffer rests stops = absurd (stops refl)

-- so the floor told it
pub of_floor : (plan : Plan) (stopping told : Bool) (reading : ℕ) (event : Event) → is_own event ≡ false → comes_from plan stopping (origin_of told reading) event ≡ true → OfFloor reading ≡ origin_of told reading
of_floor plan stopping true reading event own may = refl
of_floor plan stopping false reading event own may = absurd (false≢true (sym own ∙ made_own plan stopping reading event may))

pub reading_in : (told : Bool) (reading : ℕ) → reading_of (origin_of told reading) ≡ reading
reading_in true reading = refl
reading_in false reading = refl

-- ---- where the floor was begun

-- a task that isn't a run over the queue alone has a door
pub has_door : (config : Config) (task : Task) → is_run task ≡ false → is_some (door_of config task) ≡ true
has_door config Session other = refl
has_door config (Daemon wait) other = refl
has_door config (Run group) other = absurd (false≢true (sym other))

-- a floor that was begun at its door was so still, and one that has none is left alone
pub begun_still : (config : Config) (task : Task) (f g h : Heard) → IsBegunAt (door_of config task) f g → h.begun ≡ g.begun → (is_run task ≡ true → h ≡ g) → IsBegunAt (door_of config task) f h
begun_still config Session f g h begun same alone = same ∙ begun
begun_still config (Daemon wait) f g h begun same alone = same ∙ begun
begun_still config (Run group) f g h begun same alone = alone refl ∙ begun

-- ---- a turn by what it is

-- one that is known to be no session's
pub turned_as : (turn known : Turn) (buffer : List ℕ) (j : JudgeSeen) (site : Site) (m : State) (told : Bool) (reading : ℕ) (before now : Heard) (clock read : ClockSeen) (a b : Seen) (core : Core) (went : Result Act CoreStop) → turn ≡ known
    → (comes_from site.plan m.stopping (origin_of told reading) (event_of known buffer) ≡ true → reading_of (origin_of told reading) ≡ reading → IsTaken (origin_of told reading) before now clock read (event_of known buffer) → Turns j site m (event_of known buffer) (origin_of told reading) a b core went)
    → comes_from site.plan m.stopping (origin_of told reading) (event_of turn buffer) ≡ true → IsTaken (origin_of told reading) before now clock read (event_of turn buffer) → Turns j site m (event_of turn buffer) (origin_of told reading) a b core went
turned_as turn known buffer j site m told reading before now clock read a b core went same turns =
    subst (λ (t : Turn). comes_from site.plan m.stopping (origin_of told reading) (event_of t buffer) ≡ true → IsTaken (origin_of told reading) before now clock read (event_of t buffer) → Turns j site m (event_of t buffer) (origin_of told reading) a b core went) (sym same)
    (λ may taken. turns may (reading_in told reading) taken)

-- one of a session, which the floor told
pub turned_told : (event : Event) (j : JudgeSeen) (site : Site) (m : State) (told : Bool) (reading : ℕ) (before now : Heard) (clock read : ClockSeen) (a b : Seen) (core : Core) (went : Result Act CoreStop) → is_own event ≡ false → comes_from site.plan m.stopping (origin_of told reading) event ≡ true
    → (comes_from site.plan m.stopping (OfFloor reading) event ≡ true → IsTaken (OfFloor reading) before now clock read event → Turns j site m event (OfFloor reading) a b core went) → IsTaken (origin_of told reading) before now clock read event → Turns j site m event (origin_of told reading) a b core went
turned_told event j site m told reading before now clock read a b core went own may turns =
    subst (λ (o : Origin). comes_from site.plan m.stopping o event ≡ true → IsTaken o before now clock read event → Turns j site m event o a b core went) (of_floor site.plan m.stopping told reading event own may) turns may
