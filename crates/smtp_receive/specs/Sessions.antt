-- What a session keeps of its lines, and what it stands for.
use Rattle.std.specs.Prelude.{◌≡◌, ℕ, ◌≤◌, List, ◌∷◌, ◌++◌, [], false, length, Option, Some, None, IfSome}
use Rattle.mail_base.specs.Answering.{Answerer}
use Rattle.mail_base.specs.Limits.{message_limit, most_rows}
use Rattle.mail_base.specs.declared.config.Config.{Config}
use Rattle.smtp_lines.specs.declared.line.Line.{Line}
use Rattle.mail_header.specs.declared.gathered.Gathered.{Gathered}
use Rattle.mail_header.specs.Gatherings.{Gathers, IsSmall}
use Rattle.smtp_receive.specs.declared.did.Did.{Did}
use Rattle.smtp_receive.specs.declared.session.Session.{Session}
use Rattle.smtp_receive.specs.Judging.{Question, Said, IsSaid}
use Rattle.smtp_receive.specs.Mails.{deed_of}
use Rattle.smtp_receive.specs.Replies.{shown_host}
use Rattle.smtp_receive.specs.Dialogue.{Heard, Exchange, Answer, exchanges, answer_to, question, sender_in, eight_in, rows_in, count_in, lines_in, kept_in, did_of}

-- what is kept of the message under way, where one may be
abbrev pub Holds : ℕ → Option Gathered → Option (List (List ℕ)) → Type 0
Holds limit None None = Unit
Holds limit None (Some lines) = ⊥
Holds limit (Some g) None = ⊥
Holds limit (Some g) (Some lines) = Gathers g limit lines

-- what a session keeps after some exchanges
pub record Keeps (s : Session) (config : Config) (host peer : List ℕ) (before : List Exchange)
    : Type 0 where
  pub host_is : s.host ≡ shown_host host
  pub kept_is : s.kept ≡ kept_in peer before
  pub sender_is : s.sender ≡ sender_in before
  pub eight_is : s.eight ≡ eight_in before
  pub rows_is : s.rows ≡ rows_in before
  pub count_is : s.count ≡ count_in before
  pub message_is : Holds (message_limit config.options) s.message (lines_in before)

-- a session without its transaction
abbrev pub cleared : Session → Session
cleared s = record s { sender = None; eight = false; rows = []; count = 0; message = None }

-- the answer to a line after those that were heard, by what the judge says of it
abbrev pub answer_of : Config → List ℕ → List Heard → Said → Line → Answer
answer_of config peer heard said line =
    answer_to config peer (exchanges config peer heard) said line

-- what a line asks of the judge after those that were heard
abbrev pub question_of : Config → List ℕ → List Heard → Line → Option Question
question_of config peer heard line = question config peer (exchanges config peer heard) line

-- a session stands for the lines that it has heard, under one configuration
abbrev pub Stands : Session → Config → List ℕ → List ℕ → List Heard → Type 0
Stands s config host peer heard = Keeps s config host peer (exchanges config peer heard)

-- a line is answered: this is what the judge said of it, what is done is what the answer by that
-- says, and the session stands for one line more
pub record Answered (seen : Answerer) (Test : Question → Said → Type 0) (session : Session)
    (config : Config) (host peer : List ℕ) (heard : List Heard) (line : Line) (did : Did)
    : Type 0 where
  pub said : Said
  pub is_said : IsSaid seen Test (question_of config peer heard line) said
  pub did_is : deed_of did ≡ did_of (shown_host host) (message_limit config.options)
      (answer_of config peer heard said line)
  pub stands : (id : Option ℕ) → Stands session config host peer
      (heard ++ record { line = line; said = said; short = false; id = id } ∷ [])

-- what a session keeps of a transaction is within its limits: the rows, and the bytes of a message
-- under way
pub record IsBounded (s : Session) (config : Config) : Type 0 where
  pub rows : length s.rows ≤ most_rows
  pub bytes : IfSome s.message (λ g. IsSmall g (message_limit config.options))
