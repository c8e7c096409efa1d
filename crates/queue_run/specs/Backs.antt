-- What is sent for an entry: a bounce or a warning, and the rows of who gets it (Sendmail
-- Installation and Operation Guide, DoubleBounceAddress, Timeout.queuewarn and "The Alias
-- Database"; that its rulesets see the macros of the configuration alone is own).
use Rattle.std.specs.Prelude.{◌≡◌, ◌↔◌, ℕ, ◌≤◌, nat_lt, List, length, Bool, false, not, ◌&&◌, if◌then◌else◌, codes, IsTrue, Result, Ok, Err}
use Rattle.mail_base.specs.Answering.{Answerer}
use Rattle.mail_base.specs.Drawing.{AreDrawn}
use Rattle.mail_base.specs.Histories.{Rose}
use Rattle.mail_base.specs.Texts.{has_lf}
use Rattle.mail_base.specs.declared.config.Config.{Config}
use Rattle.mail_base.specs.declared.control.Control.{Control}
use Rattle.mail_base.specs.declared.draw.Draw.{Draw}
use Rattle.mail_base.specs.declared.message.Cut.{Cut}
use Rattle.map_tables.specs.Answers.{Loaded}
use Rattle.queue_plan.specs.Cuts.{AreParts}
use Rattle.queue_plan.specs.Rows.{distinct}
use Rattle.dsn_bounce.specs.Returned.{receiver_of}
use Rattle.queue_run.specs.declared.runner.Did.{Did}
use Rattle.queue_run.specs.declared.runner.RunStop.{RunStop}
use Rattle.queue_run.specs.declared.runner.RunStop.TheVariants as stop

-- ---- what draws the rows of receivers

-- its count of faults, whether it tells its answers, and the test of one
pub record Drawer : Type 1 where
  pub answerer : Answerer
  pub answers : List ℕ → List Draw → Type 0

abbrev pub drawer : Answerer → (List ℕ → List Draw → Type 0) → Drawer
drawer answerer answers = record { answerer = answerer; answers = answers }

-- one that tells none of its answers
abbrev pub untold : Drawer
untold = drawer (record { faults = 0; tells = false }) (λ receiver rows. Unit {0})

-- these rows are those of a receiver, as far as it is told
abbrev pub AreAnswered : Drawer → List ℕ → List Draw → Type 0
AreAnswered d receiver rows = IsTrue d.answerer.tells → d.answers receiver rows

-- ---- what is sent

-- a text that a row may have as its address
abbrev pub is_address : List ℕ → Bool
is_address text = nat_lt 0 (length text) && not (has_lf text)

-- whose rows are drawn: the receiver's, or, where a configuration names none by an address, those of
-- the postmaster
abbrev pub drawn_for : Config → Control → List ℕ
drawn_for config control =
    if is_address (receiver_of config control) then receiver_of config control
    else codes "postmaster"

-- the rows that were drawn for an entry's receiver, and the parts of them in which a message goes:
-- of equal rows the first stays, and rulesets see the macros of the configuration, since no session
-- brings it
pub record AreSentTo (d : Drawer) (config : Config) (maps : Loaded) (control : Control)
    (rows : List Draw) (cuts : List Cut) : Type 0 where
  pub drawn : AreDrawn rows
  pub answered : AreAnswered d (drawn_for config control) rows
  pub parts : AreParts config maps config.macros (distinct rows) cuts

-- ---- what a step does to it

-- it tells what it told before, and its count never falls
pub record IsSteady (before now : Drawer) : Type 0 where
  pub tells : now.answerer.tells ≡ before.answerer.tells
  pub stays : IsTrue before.answerer.tells → (receiver : List ℕ) (rows : List Draw)
      → before.answers receiver rows ↔ now.answers receiver rows
  pub later : before.answerer.faults ≤ now.answerer.faults

-- its count rose exactly where files failed
abbrev pub HasFilesCause : ℕ → ℕ → Result Did RunStop → Type 0
HasFilesCause before now (Ok answer) = now ≡ before
HasFilesCause before now (Err stop.FilesFault) = Rose before now
HasFilesCause before now (Err cause) = now ≡ before

-- it was asked, or not, in a step that came to this
pub record IsDrawnIn (before now : Drawer) (result : Result Did RunStop) : Type 0 where
  pub steady : IsSteady before now
  pub cause : HasFilesCause before.answerer.faults now.answerer.faults result
