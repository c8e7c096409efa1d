-- What a judge says stays so, and choices that are meant join.
use Rattle.std.proofs.Common.{◌≡◌, ℕ, List, [], ◌∷◌, ◌++◌, Bool, true, false, Option, Some, None, refl, sym, ◌∙◌, subst, arith}
use Rattle.std.specs.Prelude.{IsTrue, fold}
use Rattle.std.proofs.lemmas.Bool.{false≢true}
use Rattle.link_edge.specs.declared.event.Event.{Event}
use Rattle.link_edge.specs.declared.event.Event.TheVariants.{Opens, Brings, Closes, Rests, Stops}
use Rattle.smtp_lines.specs.declared.line.Line.{Line}
use Rattle.smtp_receive.specs.Judging.{IsSteady, Question, Said}
use Rattle.mail_core.specs.Guests.{Guest, guest_of, next_line, with_bytes}
use Rattle.mail_base.specs.Answering.{Answerer}
use Rattle.mail_base.specs.declared.draw.Draw.{Draw}
use Rattle.queue_run.specs.Holders.{Holder}
use Rattle.queue_run.specs.Steps.{Luck}
use Rattle.mail_core.specs.Idling.{Carrying, Claiming, Idling, Quiet, Starving, Taken, first_running}
use Rattle.mail_core.specs.Resting.{IsCarryMeant, IsLuckMeant, IsRestMeant, IsStopMeant, IsTakenMeant}
use Rattle.mail_core.specs.Judges.{IsAsked, JudgeSeen, Says, judge_seen}
use Rattle.mail_core.specs.Machine.{Choice, Normal, OutOfMemory, Disconnects, SpoolFails, JudgeFails, Choices, Did, Turn, answered, at_moment, fresh_start, question_here, run, turned}
use Rattle.mail_core.specs.States.{Seat, State}
use Rattle.mail_core.specs.Meant.{AreMeant, ArePieceMeant, AreRead, IsEventMeant, IsEventRead, IsMeant, IsRunMeant}
use Rattle.mail_core.specs.Plans.{is_own, reading_of}
use Rattle.mail_core.specs.Sites.{Site}

-- ---- judges that say the same

abbrev pub IsAlike : JudgeSeen → JudgeSeen → Type 0
IsAlike a b = IsSteady a.answerer b.answerer a.test b.test

pub alike_itself : (a : JudgeSeen) → IsAlike a a
alike_itself a = record { tells = refl; stays = λ t q s. (λ h. h, λ h. h) }

pub alike_join : (a b c : JudgeSeen) → IsAlike a b → IsAlike b c → IsAlike a c
alike_join a b c h k = record {
  tells = k.tells ∙ h.tells;
  stays = λ t q s.
      let one = h.stays t q s in
      let two = k.stays (subst IsTrue (sym h.tells) t) q s in
      (λ p. two.0 (one.0 p), λ p. one.1 (two.1 p));
}

-- a judge that wasn't asked did not fail
pub asked_none : (a : JudgeSeen) → IsAsked a a false
asked_none a = record { steady = alike_itself a; later = omega arith; rose = λ e. absurd (cc e); calm = λ e. refl }

pub asked_join : (a b c : JudgeSeen) (failed : Bool) → IsAsked a b false → IsAsked b c failed → IsAsked a c failed
asked_join a b c failed h k = record {
  steady = alike_join a b c h.steady k.steady;
  later = omega (arith, h.later, k.later);
  rose = λ e. omega (arith, h.later, k.rose e);
  calm = λ e. k.calm e ∙ h.calm refl;
}

says_since : (a b : JudgeSeen) (question : Option Question) (said : Said) → IsAlike a b → Says b question said → Says a question said
says_since a b None said h s = s
says_since a b (Some question) said h s = record { kind = s.kind; form = s.form; told = λ t. (h.stays t question said).1 (s.told (subst IsTrue (sym h.tells) t)) }

-- ---- choices

module _ (site : Site) (moment : ℕ) where
  meant_since : (a b : JudgeSeen) (d : Did) (choice : Choice) (line : Option Line) → IsAlike a b → IsMeant b site moment d choice line → IsMeant a site moment d choice line
  meant_since a b d (Normal said made whole) (Some line) h m = (says_since a b (question_here d line) said h m.0, m.1)
  meant_since a b d (OutOfMemory whole) (Some line) h m = tt
  meant_since a b d Disconnects (Some line) h m = tt
  meant_since a b d (SpoolFails made) (Some line) h m = m
  meant_since a b d JudgeFails (Some line) h m = tt
  meant_since a b d (Normal said made whole) None h m = m
  meant_since a b d (OutOfMemory whole) None h m = tt
  meant_since a b d Disconnects None h m = tt
  meant_since a b d (SpoolFails made) None h m = tt
  meant_since a b d JudgeFails None h m = tt

  -- what is meant by a judge later was meant by it before
  pub are_since : (a b : JudgeSeen) (d : Did) (choices : List Choice) → IsAlike a b → AreMeant b site moment d choices → AreMeant a site moment d choices
  are_since a b d [] h m = tt
  are_since a b d (choice ∷ choices) h m = (meant_since a b d choice (next_line d.guest) h m.0, are_since a b (answered site moment d choice) choices h m.1)

  -- choices after choices
  pub meant_join : (a : JudgeSeen) (d : Did) (xs ys : List Choice) → AreMeant a site moment d xs → AreMeant a site moment (fold (answered site moment) d xs) ys → AreMeant a site moment d (xs ++ ys)
  meant_join a d [] ys h k = k
  meant_join a d (x ∷ xs) ys h k = (h.0, meant_join a (answered site moment d x) xs ys h.1 k)

  -- one at the line that is next
  pub meant_next : (a b : JudgeSeen) (d : Did) (choice : Choice) (line : Line) → IsAlike a b → next_line d.guest ≡ Some line → IsMeant b site moment d choice (Some line) → AreMeant a site moment d (choice ∷ [])
  meant_next a b d choice line h next m = (subst (IsMeant a site moment d choice) (sym next) (meant_since a b d choice (Some line) h m), tt)

  drop_meant : (a : JudgeSeen) (d : Did) (line : Option Line) → IsMeant a site moment d Disconnects line
  drop_meant a d None = tt
  drop_meant a d (Some line) = tt

  -- want of memory
  pub drops_meant : (a : JudgeSeen) (d : Did) → AreMeant a site moment d (Disconnects ∷ [])
  drops_meant a d = (drop_meant a d (next_line d.guest), tt)

-- ---- runs

module _ (site : Site) where
  -- the choices at a piece may be any where its session isn't open
  piece_since : (a b : JudgeSeen) (m : State) (bytes : List ℕ) (choices : List Choice) (o : Option Guest) → IsAlike a b → ArePieceMeant b site m bytes choices o → ArePieceMeant a site m bytes choices o
  piece_since a b m bytes choices None h k = k
  piece_since a b m bytes choices (Some g) h k = are_since site m.latest a b (fresh_start m.table (with_bytes g bytes)) choices h k

  -- what is meant at a session's event by a judge later was meant by it before
  pub event_since : (a b : JudgeSeen) (m : State) (event : Event) (choices : Choices event) → is_own event ≡ false → IsAlike a b → IsEventMeant b site m event choices → IsEventMeant a site m event choices
  event_since a b m (Opens session peer) choice own h k = tt
  event_since a b m (Brings session bytes) choices own h k = piece_since a b m bytes choices (guest_of session m.guests) h k
  event_since a b m (Closes session) none own h k = tt
  event_since a b m Rests choice own h k = absurd (false≢true (sym own))
  event_since a b m Stops luck own h k = absurd (false≢true (sym own))

  -- a runner's turn is meant by what draws receivers, whatever the paths of sessions are judged by
  luck_meant : (x : Answerer) (t u : Question → Said → Type 0) (d : List ℕ → List Draw → Type 0) (m : State) (h : Holder) (luck : Luck) → IsLuckMeant (judge_seen x t d) site m h luck → IsLuckMeant (judge_seen x u d) site m h luck
  luck_meant x t u d m h luck k = k

  carry_meant : (x : Answerer) (t u : Question → Said → Type 0) (d : List ℕ → List Draw → Type 0) (m : State) (luck : Luck) (seats : List Seat) → IsCarryMeant (judge_seen x t d) site m luck seats → IsCarryMeant (judge_seen x u d) site m luck seats
  carry_meant x t u d m luck [] k = tt
  carry_meant x t u d m luck (seat ∷ others) k = (k.0, k.1)

  rest_meant : (x : Answerer) (t u : Question → Said → Type 0) (d : List ℕ → List Draw → Type 0) (m : State) (choice : Idling) → IsRestMeant (judge_seen x t d) site m choice → IsRestMeant (judge_seen x u d) site m choice
  rest_meant x t u d m (Claiming id rows luck) k = record { stored = k.stored; is = k.is; first = k.first; routed = k.routed; step = k.step }
  rest_meant x t u d m Starving k = tt
  rest_meant x t u d m (Carrying luck) k = carry_meant x t u d m luck m.seats k
  rest_meant x t u d m Quiet k = k

  taken_meant : (x : Answerer) (t u : Question → Said → Type 0) (d : List ℕ → List Draw → Type 0) (m : State) (luck : Luck) (o : Option Taken) → IsTakenMeant (judge_seen x t d) site m luck o → IsTakenMeant (judge_seen x u d) site m luck o
  taken_meant x t u d m luck None k = tt
  taken_meant x t u d m luck (Some one) k = k

  stop_meant : (x : Answerer) (t u : Question → Said → Type 0) (d : List ℕ → List Draw → Type 0) (m : State) (choice : Option Luck) → IsStopMeant (judge_seen x t d) site m choice → IsStopMeant (judge_seen x u d) site m choice
  stop_meant x t u d m None k = tt
  stop_meant x t u d m (Some luck) k = taken_meant x t u d m luck (first_running m.seats) k

  pub own_meant : (x : Answerer) (t u : Question → Said → Type 0) (d : List ℕ → List Draw → Type 0) (m : State) (event : Event) (choices : Choices event) → is_own event ≡ true → IsEventMeant (judge_seen x t d) site m event choices → IsEventMeant (judge_seen x u d) site m event choices
  own_meant x t u d m (Opens session peer) choice own k = absurd (false≢true own)
  own_meant x t u d m (Brings session bytes) choices own k = absurd (false≢true own)
  own_meant x t u d m (Closes session) none own k = absurd (false≢true own)
  own_meant x t u d m Rests choice own k = rest_meant x t u d m choice k
  own_meant x t u d m Stops luck own k = stop_meant x t u d (record m { stopping = true }) luck k

  -- one turn more
  pub run_meant : (a : JudgeSeen) (m : State) (turns : List Turn) (turn : Turn) → IsRunMeant a site m turns → IsEventMeant a site (at_moment (run site m turns).state (reading_of turn.origin)) turn.event turn.choices → IsRunMeant a site m (turns ++ turn ∷ [])
  run_meant a m [] turn h k = (k, tt)
  run_meant a m (first ∷ turns) turn h k = (h.0, run_meant a (turned site m first).state turns turn h.1 k)

  -- and of what was read
  pub run_read : (m : State) (turns : List Turn) (turn : Turn) → AreRead site m turns → IsEventRead (run site m turns).state turn.event turn.choices → AreRead site m (turns ++ turn ∷ [])
  run_read m [] turn h k = (k, tt)
  run_read m (first ∷ turns) turn h k = (h.0, run_read (turned site m first).state turns turn h.1 k)
