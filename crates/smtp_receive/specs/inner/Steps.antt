-- What private contracts say of a session's steps.
use Rattle.std.specs.Prelude.{◌≡◌, ◌≤◌, ℕ, ◌+◌, nat_lt, Bool, true, false, IfSome, List, [], ◌∷◌, ◌++◌, length, Option, Some, None, unwrap_or, Result, Ok, Err, if◌then◌else◌}
use Rattle.mail_base.specs.Answering.{Answerer, HasJudgeCause, is_calm}
use Rattle.mail_base.specs.Limits.{message_limit, most_headers, most_rows}
use Rattle.mail_base.specs.declared.command.LineFault.{LineFault}
use Rattle.mail_base.specs.declared.config.Config.{Config}
use Rattle.mail_base.specs.declared.draw.Draw.{Draw}
use Rattle.mail_base.specs.declared.fault.JudgeFault.{JudgeFault}
use Rattle.mail_base.specs.declared.fault.JudgeFault.TheVariants.{NoMemory as JudgeMemory}
use Rattle.mail_base.specs.declared.fault.NoMemory.{NoMemory}
use Rattle.mail_base.specs.declared.message.Kept.{Kept}
use Rattle.mail_base.specs.declared.route.RouteError.{RouteError}
use Rattle.mail_header.specs.Fields.{class_in, hops_of}
use Rattle.mail_header.specs.Gatherings.{is_above}
use Rattle.mail_header.specs.declared.gathered.Gathered.{Gathered}
use Rattle.smtp_lines.specs.Commands.{Order}
use Rattle.smtp_lines.specs.declared.line.Line.{Line}
use Rattle.smtp_lines.specs.declared.line.Line.TheVariants.{Command, TooLong, Data as DataLine, DataEnd}
use Rattle.smtp_receive.specs.Dialogue.{Answer, Says, Greets, Extends, Grants, Exchange, Standing, answer_to, argument_in, bracketed, command_answer, did_of, is_eight, is_uncut, no_marks, order_question, or_else, path_in, protocol_of, question, read_in, recipient_answer, sender_answer, with_text}
use Rattle.smtp_receive.specs.Judging.{Answers, AsksRecipient, AsksSender, Question, Said, OfRecipient, OfSender, IsSaid, IsSteady, drawn_in, refusal_in}
use Rattle.smtp_receive.specs.Replies.{shown_host, text_of}
use Rattle.smtp_receive.specs.Sessions.{Holds, Keeps, cleared}
use Rattle.smtp_receive.specs.Mails.{Deed, Mail, Received, Replied, Taken, deed_of}
use Rattle.smtp_receive.specs.declared.did.Did.{Did}
use Rattle.smtp_receive.specs.declared.ending.End.{End}
use Rattle.smtp_receive.specs.declared.ending.End.TheVariants.{Nothing, Refused, Whole}
use Rattle.smtp_receive.specs.declared.judge.Verdict.{Verdict}
use Rattle.smtp_receive.specs.declared.reply.Reply.TheVariants.{SenderOk, RecipientOk, MessageTooLarge, HeaderTooLarge, TooManyHops, ResetState}
use Rattle.smtp_receive.specs.declared.session.Session.{Session}

-- what a call does to a judge: its count has risen where files failed, and nowhere else, and no
-- answer that it tells has changed
pub record Uses {A : Type 0} (before now : Answerer) (Before Now : Question → Said → Type 0)
    (result : Result A JudgeFault) : Type 0 where
  pub cause : HasJudgeCause before.faults now.faults result
  pub calm : is_calm result ≡ true → now.faults ≡ before.faults
  pub steady : IsSteady before now Before Now

-- a result that hangs on no judge
abbrev pub judged : {A : Type 0} → Result A NoMemory → Result A JudgeFault
judged (Ok answer) = Ok answer
judged (Err fault) = Err JudgeMemory

-- a session greeted
abbrev pub greeted : Session → Option Order → Session
greeted s order = record (cleared s) {
  kept = record s.kept {
    protocol = unwrap_or (protocol_of order) s.kept.protocol;
    helo = unwrap_or (argument_in order) s.kept.helo;
  };
}

-- what a session keeps after the answer to a command, beside a message that begins
abbrev pub after : Session → Answer → Option Order → Said → Session
after s (Says SenderOk) order said =
    record s { sender = or_else (path_in order) s.sender; eight = is_eight order }
after s (Says RecipientOk) order said =
    record s { rows = s.rows ++ drawn_in said; count = s.count + 1 }
after s (Says ResetState) order said = cleared s
after s Greets order said = greeted s order
after s Extends order said = greeted s order
after s answer order said = s

-- a message of no lines is under way, and the rest stays
pub record BeginsMessage (limit : ℕ) (old new : Session) : Type 0 where
  pub same : new ≡ record old { message = new.message }
  pub begins : Holds limit new.message (Some [])

-- a message under way has one line more, and the rest stays
pub record AddsLine (limit : ℕ) (old new : Session) (text : List ℕ) : Type 0 where
  pub same : new ≡ record old { message = new.message }
  pub adds : (lines : Option (List (List ℕ))) → Holds limit old.message lines
      → Holds limit new.message (with_text (DataLine text) lines)

-- what a command changes by its answer
abbrev pub Changes : Config → Session → Session → Answer → Option Order → Said → Type 0
Changes config old new Grants order said = BeginsMessage (message_limit config.options) old new
Changes config old new answer order said = new ≡ after old answer order said

-- what the answer to a command hangs on
abbrev pub standing_of : Session → Standing
standing_of s = record { sender = s.sender; count = s.count; rows = s.rows }

-- the answer to a command by what a session keeps
abbrev pub answer_by : Config → Session → Said → Result Order LineFault → Answer
answer_by config s said read = command_answer config (standing_of s) said read

abbrev pub question_by : Config → Session → Option Order → Option Question
question_by config s order = order_question config (standing_of s) s.kept order

-- a command is answered by what a session keeps
pub record Does (seen : Answerer) (Test : Question → Said → Type 0) (old new : Session)
    (config : Config) (read : Result Order LineFault) (did : Did) : Type 0 where
  pub said : Said
  pub is_said : IsSaid seen Test (question_by config old (read_in read)) said
  pub did_is : deed_of did ≡ did_of old.host (message_limit config.options)
      (answer_by config old said read)
  pub changes : Changes config old new (answer_by config old said read) (read_in read) said

-- what a session keeps after the answer to a MAIL
abbrev pub with_sender : Session → Answer → List ℕ → Bool → Session
with_sender s (Says SenderOk) path eight = record s { sender = Some path; eight = eight }
with_sender s answer path eight = s

-- a MAIL that was put to the judge is answered
pub record ChecksSender (seen : Answerer) (Test : Question → Said → Type 0) (old new : Session)
    (config : Config) (path : List ℕ) (eight : Bool) (did : Did) : Type 0 where
  pub refusal : Option RouteError
  pub answers : Answers seen Test (AsksSender (bracketed path) old.kept) (OfSender refusal)
  pub did_is : deed_of did ≡ did_of old.host (message_limit config.options)
      (sender_answer refusal (is_uncut config.options.operator_chars path))
  pub new_is : new ≡ with_sender old
      (sender_answer refusal (is_uncut config.options.operator_chars path)) (bracketed path) eight

-- the answer to an RCPT that was put to the judge
abbrev pub verdict_answer : Session → Said → Answer
verdict_answer s said = recipient_answer (refusal_in said)
    (nat_lt most_rows (length s.rows + length (drawn_in said)))

-- an RCPT that was put to the judge is answered
pub record ChecksRecipient (seen : Answerer) (Test : Question → Said → Type 0) (old new : Session)
    (limit : ℕ) (path : List ℕ) (did : Did) : Type 0 where
  pub verdict : Verdict
  pub answers : (sender : List ℕ) → old.sender ≡ Some sender
      → Answers seen Test (AsksRecipient (bracketed path) sender old.kept) (OfRecipient verdict)
  pub did_is : deed_of did ≡ did_of old.host limit (verdict_answer old (OfRecipient verdict))
  pub new_is : new ≡ after old (verdict_answer old (OfRecipient verdict)) None
      (OfRecipient verdict)

-- a line is answered after some exchanges, and the session keeps what it has then
pub record Goes (seen : Answerer) (Test : Question → Said → Type 0) (s : Session)
    (config : Config) (host peer : List ℕ) (before : List Exchange) (line : Line) (did : Did)
    : Type 0 where
  pub said : Said
  pub is_said : IsSaid seen Test (question config peer before line) said
  pub did_is : deed_of did ≡ did_of (shown_host host) (message_limit config.options)
      (answer_to config peer before said line)
  pub keeps : Keeps s config host peer (record {
    line = line;
    said = said;
    answer = Some (answer_to config peer before said line);
  } ∷ before)

-- whether a line is of data
abbrev pub is_data : Line → Bool
is_data (Command text) = false
is_data TooLong = false
is_data (DataLine text) = true
is_data DataEnd = true

-- whether it is of a message
abbrev pub is_text : Line → Bool
is_text (Command text) = false
is_text TooLong = false
is_text (DataLine text) = true
is_text DataEnd = false

-- what the end of data comes to after the lines of a message
abbrev pub ending_of : ℕ → Gathered → End
ending_of limit g =
    if is_above limit g.size then Refused MessageTooLarge
    else if is_above most_headers g.block then Refused HeaderTooLarge
    else Whole

-- the same where a message may be under way
abbrev pub end_of : ℕ → Option (List ℕ) → Option Gathered → End
end_of limit (Some sender) (Some g) = ending_of limit g
end_of limit _ _ = Nothing

-- the message of the lines that are kept
abbrev pub gathered_mail : Config → Gathered → List ℕ → List Draw → Bool → Kept → Mail
gathered_mail config g sender rows eight kept = record {
  sender = sender;
  rows = rows;
  headers = g.headers;
  body = g.body;
  size = g.size;
  class = class_in config.precedences g.headers;
  eight = eight;
  marks = no_marks;
  kept = kept;
}

-- what is done at it, by how many hosts it has passed
abbrev pub given_or : Config → Gathered → List ℕ → List Draw → Bool → Kept → Deed
given_or config g sender rows eight kept =
    if is_above config.options.max_hop_count (hops_of g.headers)
    then Replied (text_of TooManyHops)
    else Received (gathered_mail config g sender rows eight kept)

-- what is done where a message is given
abbrev pub given_in : Config → Kept → Bool → List Draw → Option (List ℕ) → Option Gathered → Deed
given_in config kept eight rows (Some sender) (Some g) =
    given_or config g sender rows eight kept
given_in config kept eight rows _ _ = Taken

abbrev pub given_by : Config → Session → Kept → Deed
given_by config s kept = given_in config kept s.eight s.rows s.sender s.message

-- no more headers are kept than a header block has bytes
abbrev pub IsSmallIfSome : Option Gathered → Type 0
IsSmallIfSome message = IfSome message (λ g. length g.headers ≤ most_headers)

-- what is done at the end of data, by what it comes to
abbrev pub ends_as : Deed → End → Deed
ends_as given Nothing = Taken
ends_as given (Refused reply) = Replied (text_of reply)
ends_as given Whole = given

abbrev pub Ends : Config → Session → Did → Type 0
Ends config s did = deed_of did
    ≡ ends_as (given_by config s s.kept)
    (end_of (message_limit config.options) s.sender s.message)
