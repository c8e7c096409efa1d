-- What a delivery adds to a dialer's history and to its counts (own).
use Rattle.std.specs.Prelude.{◌≡◌, ◌≤◌, ◌⊎◌, ℕ, Bool, true, false, List, [], ◌++◌}
use Rattle.mail_base.specs.declared.outcome.Result1.{Result1}
use Rattle.mail_base.specs.Histories.{Gains, Rose}
use Rattle.link_edge.specs.declared.dial_event.DialEvent.{DialEvent}
use Rattle.link_edge.specs.declared.dial_event.DialEvent.TheVariants.{Dialled, Undialled, Read, Unread, Wrote, Unwritten, Closed}
use Rattle.link_edge.specs.declared.peer.Peer.{Peer}
use Rattle.link_edge.specs.Dials.{DialSeen}
use Rattle.mailer_smtp.specs.declared.kit.Speech.{Speech}
use Rattle.mailer_smtp.specs.declared.letter.Letter.{Letter}
use Rattle.mail_base.specs.Texts.{crlf}
use Rattle.mailer_smtp.specs.Talks.{IsDelivery}
use Rattle.mailer_smtp.specs.Texts.{dotted, is_said}

-- a count of faults never falls, and has risen exactly where a call failed
pub record Counts (before now : ℕ) (fault : Bool) : Type 0 where
  pub later : before ≤ now
  pub rose : fault ≡ true → Rose before now
  pub calm : fault ≡ false → now ≡ before

-- a letter was handed over, or that was tried
pub record Delivered (speech : Speech) (letter : Letter) (peers : List Peer) (old new : DialSeen)
    (rows : List Result1) : Type 0 where
  pub events : List DialEvent
  pub fault : Bool
  pub is : IsDelivery speech letter peers old.missed events new.missed fault rows
  pub told : Gains old.told new.told events
  pub counts : Counts old.faults new.faults fault

-- what a dialer answers, whatever was written
abbrev pub answer_of : DialEvent → DialEvent
answer_of (Dialled peer line missed) = Dialled peer line missed
answer_of (Undialled peer missed) = Undialled peer missed
answer_of (Read line bytes) = Read line bytes
answer_of (Unread line) = Unread line
answer_of (Wrote line text) = Wrote line []
answer_of (Unwritten line) = Unwritten line
answer_of (Closed line) = Closed line

-- a text is one line, with its end
pub record IsOneLine (text : List ℕ) : Type 0 where
  pub line : List ℕ
  pub said : is_said line ≡ true
  pub whole : text ≡ line ++ crlf

-- what may be written of a letter: one line, or its message with the dots doubled
abbrev pub MaySay : Letter → List ℕ → Type 0
MaySay letter text = IsOneLine text ⊎ (text ≡ dotted letter.message)
