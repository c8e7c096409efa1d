-- What any judge says is what one may say of which nothing is told, so that a run which is meant by a
-- judge is meant by what judges may say.
use Rattle.std.proofs.Common.{◌≡◌, ℕ, List, [], ◌∷◌, Bool, true, Option, Some, None}
use Rattle.mail_base.specs.declared.control.Control.{Control}
use Rattle.mail_base.specs.declared.config.Config.{Config}
use Rattle.mail_base.specs.declared.draw.Draw.{Draw}
use Rattle.mail_base.specs.declared.mailer.Mailer.{Mailer}
use Rattle.mail_base.specs.declared.message.Back.{Back}
use Rattle.mail_base.specs.declared.message.Cut.{Cut}
use Rattle.link_edge.specs.declared.event.Event.{Event}
use Rattle.link_edge.specs.declared.event.Event.TheVariants.{Opens, Brings, Closes as Hangs, Rests, Stops}
use Rattle.map_tables.specs.Answers.{Loaded}
use Rattle.smtp_lines.specs.declared.line.Line.{Line}
use Rattle.smtp_receive.specs.Judging.{Question, Said}
use Rattle.spool_disk.specs.Disk.{FileMap}
use Rattle.spool_store.specs.Settled.{StandsFor}
use Rattle.queue_table.specs.Asked.{AreStoppable}
use Rattle.queue_table.specs.Soundness.{IsSound}
use Rattle.queue_run.specs.declared.letter.Letter.{Letter}
use Rattle.queue_run.specs.Backs.{AreSentTo, Drawer}
use Rattle.queue_run.specs.Deeds.{Talk}
use Rattle.queue_run.specs.Holders.{Holder}
use Rattle.queue_run.specs.Kinds.{Kind, Returns, Starts, Talks, Warns}
use Rattle.queue_run.specs.Meant.{Ground, IsBounceOf, IsLetter, IsLetterOf, IsMeant as IsStepMeant, IsTalkOf, IsWarningOf, ground_by, host_of}
use Rattle.queue_run.specs.Steps.{Begins, Closes, Dies, Ends, Exits, Gives, Lacks, LetsGo, Loses, Luck, Misses, Outgrows, Records, StillRuns, Tells}
use Rattle.mail_core.specs.Beginning.{Start, beginning, run_over}
use Rattle.mail_core.specs.Effects.{commanded}
use Rattle.mail_core.specs.Guests.{Guest, guest_of, next_line, with_bytes}
use Rattle.mail_core.specs.Histories.{IsFree, LeavesPast}
use Rattle.mail_core.specs.Idling.{Carrying, Claiming, Idling, Quiet, Starving, Taken, first_running, seat_for}
use Rattle.mail_core.specs.Judges.{JudgeSeen, Says, drawer_of, untold}
use Rattle.mail_core.specs.Machine.{Choice, Choices, Did, Disconnects, JudgeFails, Normal, OutOfMemory, SpoolFails, Turn, answered, at_moment, fresh_start, question_here, turned}
use Rattle.mail_core.specs.Meant.{AreMeant, ArePieceMeant, IsEventMeant, IsMeant, IsRunMeant}
use Rattle.mail_core.specs.Plans.{reading_of}
use Rattle.mail_core.specs.Resting.{IsCarryMeant, IsLuckMeant, IsRestMeant, IsStopMeant, IsTakenMeant}
use Rattle.mail_core.specs.Runs.{Headline}
use Rattle.mail_core.specs.Seen.{Seen}
use Rattle.mail_core.specs.Sites.{Site}
use Rattle.mail_core.specs.States.{Seat, State}
use Rattle.mail_core.proofs.HistoryLemmas.{past_law}

-- ---- the lines of sessions

says_untold : (j : JudgeSeen) (question : Option Question) (said : Said) → Says j question said → Says untold question said
says_untold j None said s = s
says_untold j (Some question) said s = record { kind = s.kind; form = s.form; told = λ t. tt }

module _ (j : JudgeSeen) (site : Site) (moment : ℕ) where
  choice_untold : (d : Did) (choice : Choice) (line : Option Line) → IsMeant j site moment d choice line → IsMeant untold site moment d choice line
  choice_untold d (Normal said made whole) (Some line) m = (says_untold j (question_here d line) said m.0, m.1)
  choice_untold d (OutOfMemory whole) (Some line) m = tt
  choice_untold d Disconnects (Some line) m = tt
  choice_untold d (SpoolFails made) (Some line) m = m
  choice_untold d JudgeFails (Some line) m = tt
  choice_untold d (Normal said made whole) None m = m
  choice_untold d (OutOfMemory whole) None m = tt
  choice_untold d Disconnects None m = tt
  choice_untold d (SpoolFails made) None m = tt
  choice_untold d JudgeFails None m = tt

  choices_untold : (d : Did) (choices : List Choice) → AreMeant j site moment d choices → AreMeant untold site moment d choices
  choices_untold d [] m = tt
  choices_untold d (choice ∷ choices) m = (choice_untold d choice (next_line d.guest) m.0, choices_untold (answered site moment d choice) choices m.1)

-- ---- the steps of runners

module _ (config : Config) (maps : Loaded) (moment : ℕ) (d e : Drawer) (less : (control : Control) (rows : List Draw) (cuts : List Cut) → AreSentTo d config maps control rows cuts → AreSentTo e config maps control rows cuts) where
  abbrev G : Drawer → Ground
  G q = ground_by config maps moment q

  letter_as : (id : ℕ) (control : Control) (mailer : Mailer) (host : List ℕ) (letter : Letter) → IsLetter (G d) id control mailer host letter → IsLetter (G e) id control mailer host letter
  letter_as id control mailer host letter l = record { sender = l.sender; date = l.date; macros = l.macros; headers = l.headers; text = l.text }

  letter_of : (id : ℕ) (found : Option Control) (kind : Kind) (letter : Letter) → IsLetterOf (G d) id found kind letter → IsLetterOf (G e) id found kind letter
  letter_of id None kind letter l = tt
  letter_of id (Some control) (Starts batch mailer) letter l = letter_as id control mailer (host_of batch.resolved) letter l
  letter_of id (Some control) (Talks batch mailer peers) letter l = letter_as id control mailer (host_of batch.resolved) letter l
  letter_of id (Some control) kind letter l = tt

  talk_of : (found : Option Control) (kind : Kind) (letter : Letter) (talk : Talk) → IsTalkOf (G d) found kind letter talk → IsTalkOf (G e) found kind letter talk
  talk_of None kind letter talk t = tt
  talk_of (Some control) (Talks batch mailer peers) letter talk t = t
  talk_of (Some control) kind letter talk t = tt

  bounce_of : (kind : Kind) (found : Option Control) (body : List ℕ) (rows : List Draw) (back : Back) → IsBounceOf (G d) kind found body rows back → IsBounceOf (G e) kind found body rows back
  bounce_of Returns (Some control) body rows back b = (b.0, less control rows back.cuts b.1)
  bounce_of Returns None body rows back b = tt
  bounce_of kind found body rows back b = tt

  warning_of : (kind : Kind) (found : Option Control) (rows : List Draw) (back : Back) → IsWarningOf (G d) kind found rows back → IsWarningOf (G e) kind found rows back
  warning_of Warns (Some control) rows back b = (b.0, less control rows back.cuts b.1)
  warning_of Warns None rows back b = tt
  warning_of kind found rows back b = tt

  step_of : (id : ℕ) (found : Option Control) (kind : Kind) (luck : Luck) → IsStepMeant (G d) id found kind luck → IsStepMeant (G e) id found kind luck
  step_of id found kind StillRuns m = tt
  step_of id found kind (Exits status failed) m = tt
  step_of id found kind (Loses failed) m = tt
  step_of id found kind (Records failed) m = tt
  step_of id found kind (Outgrows letter failed) m = letter_of id found kind letter m
  step_of id found kind (Begins letter start child missed) m = (letter_of id found kind letter m.0, m.1)
  step_of id found kind (Misses letter start launch failed) m = (letter_of id found kind letter m.0, m.1)
  step_of id found kind (Ends letter talk failed) m = (letter_of id found kind letter m.0, talk_of found kind letter talk m.1)
  step_of id found kind (Gives body rows bounce failed) m = bounce_of kind found body rows bounce m
  step_of id found kind (Dies failed) m = tt
  step_of id found kind (Tells rows warning failed) m = warning_of kind found rows warning m
  step_of id found kind (Closes failed) m = tt
  step_of id found kind LetsGo m = tt
  step_of id found kind (Lacks cause) m = tt

-- ---- turns and runs

module _ (j : JudgeSeen) (site : Site) where
  rows_untold : (control : Control) (rows : List Draw) (cuts : List Cut) → AreSentTo (drawer_of j) site.config site.maps control rows cuts → AreSentTo (drawer_of untold) site.config site.maps control rows cuts
  rows_untold control rows cuts s = record { drawn = s.drawn; answered = λ t. tt; parts = s.parts }

  luck_untold : (m : State) (h : Holder) (luck : Luck) → IsLuckMeant j site m h luck → IsLuckMeant untold site m h luck
  luck_untold m h luck k = step_of site.config site.maps m.latest (drawer_of j) (drawer_of untold) rows_untold h.id _ _ luck k

  carry_untold : (m : State) (luck : Luck) (seats : List Seat) → IsCarryMeant j site m luck seats → IsCarryMeant untold site m luck seats
  carry_untold m luck [] k = tt
  carry_untold m luck (seat ∷ others) k = (k.0, luck_untold m seat.holder luck k.1)

  rest_untold : (m : State) (choice : Idling) → IsRestMeant j site m choice → IsRestMeant untold site m choice
  rest_untold m (Claiming id rows luck) k = record { stored = k.stored; is = k.is; first = k.first; routed = k.routed; step = luck_untold m (seat_for site k.stored rows).holder luck k.step }
  rest_untold m Starving k = tt
  rest_untold m (Carrying luck) k = carry_untold m luck m.seats k
  rest_untold m Quiet k = k

  taken_untold : (m : State) (luck : Luck) (o : Option Taken) → IsTakenMeant j site m luck o → IsTakenMeant untold site m luck o
  taken_untold m luck None k = tt
  taken_untold m luck (Some t) k = luck_untold m t.seat.holder luck k

  stop_untold : (m : State) (choice : Option Luck) → IsStopMeant j site m choice → IsStopMeant untold site m choice
  stop_untold m None k = tt
  stop_untold m (Some luck) k = taken_untold m luck (first_running m.seats) k

  piece_untold : (m : State) (bytes : List ℕ) (choices : List Choice) (o : Option Guest) → ArePieceMeant j site m bytes choices o → ArePieceMeant untold site m bytes choices o
  piece_untold m bytes choices None k = tt
  piece_untold m bytes choices (Some guest) k = choices_untold j site m.latest (fresh_start m.table (with_bytes guest bytes)) choices k

  event_untold : (m : State) (event : Event) (choices : Choices event) → IsEventMeant j site m event choices → IsEventMeant untold site m event choices
  event_untold m (Opens session peer) choice k = tt
  event_untold m (Brings session bytes) choices k = piece_untold m bytes choices (guest_of session m.guests) k
  event_untold m (Hangs session) none k = tt
  event_untold m Rests choice k = rest_untold m choice k
  event_untold m Stops luck k = stop_untold (record m { stopping = true }) luck k

  pub run_untold : (m : State) (turns : List Turn) → IsRunMeant j site m turns → IsRunMeant untold site m turns
  run_untold m [] k = tt
  run_untold m (turn ∷ turns) k = (event_untold (at_moment m (reading_of turn.origin)) turn.event turn.choices k.0, run_untold (turned site m turn).state turns k.1)

-- what the headline says of a run makes it a past, whoever judged it
pub headline_past : (j : JudgeSeen) (site : Site) (start : Start) (turns : List Turn) (a b : Seen) (well : Bool) (files : FileMap) → Headline j site start turns a b well → a.spool.told ≡ Some files → StandsFor site.dirs start.table files
    → AreStoppable commanded start.table (run_over site start turns).effects → IsSound start.table → IsFree start.table → LeavesPast site start turns b.spool.told
headline_past j site start turns a b well files h told stands stops sound free =
    past_law site start turns well b.spool.told (run_untold j site (beginning start) turns h.meant) free (h.exit files told stands stops sound)
