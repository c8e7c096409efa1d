-- A received message, and what is done at a line, in the words of definitions (RFC 5321, sections
-- 3.3 and 4.2).
use Rattle.std.specs.Prelude.{◌≡◌, ℕ, ℤ, List, [], Bool, refl}
use Rattle.mail_base.specs.declared.draw.Draw.{Draw}
use Rattle.mail_base.specs.declared.message.Kept.{Kept}
use Rattle.mail_base.specs.declared.message.Marks.{Marks}
use Rattle.mail_base.specs.declared.message.Message.{Message}
use Rattle.smtp_receive.specs.declared.did.Did.{Did}
use Rattle.smtp_receive.specs.declared.did.Did.TheVariants as did

-- a message that was received: its sender, the rows of its recipients, its headers and its body,
-- its size in bytes, its class, whether it has 8 bits, its marks, and what is kept of its session
pub record Mail : Type 0 where
  pub sender : List ℕ
  pub rows : List Draw
  pub headers : List (List ℕ)
  pub body : List ℕ
  pub size : ℕ
  pub class : ℤ
  pub eight : Bool
  pub marks : Marks
  pub kept : Kept

-- what a message of a session is
abbrev pub mail_of : Message → Mail
mail_of message = record {
  sender = message.sender;
  rows = message.rows;
  headers = message.headers;
  body = message.body;
  size = message.size;
  class = message.class;
  eight = message.eight;
  marks = message.marks;
  kept = message.kept;
}

-- the message that is this
abbrev pub message_of : Mail → Message
message_of mail = record {
  sender = mail.sender;
  rows = mail.rows;
  headers = mail.headers;
  body = mail.body;
  size = mail.size;
  class = mail.class;
  eight = mail.eight;
  marks = mail.marks;
  kept = mail.kept;
}

-- what is done at a line: a reply; a reply, 354, behind which lines of a message follow; a message
-- that was received; a line of data that was taken; a reply, behind which the session is over
pub data Deed : Type 0 where
  Replied : List ℕ → Deed
  Granted : List ℕ → Deed
  Received : Mail → Deed
  Taken : Deed
  Parted : List ℕ → Deed

abbrev pub deed_of : Did → Deed
deed_of (did.Reply text) = Replied text
deed_of (did.Granted text) = Granted text
deed_of (did.Message message) = Received (mail_of message)
deed_of did.Taken = Taken
deed_of (did.Bye text) = Parted text

example : (message : Message) → message_of (mail_of message) ≡ message
example = λ message. refl
