-- The replies and the messages of a session, as a function of all its lines (RFC 5321 sections 3.3
-- and 4.1.4; RFC 1870; RFC 6152; the order of the cases within a command is our own).
use Rattle.std.specs.Prelude.{ℕ, ◌+◌, ◌==◌, nat_le, nat_lt, Bool, true, false, not, ◌||◌, ◌&&◌, List, [], ◌∷◌, ◌++◌, length, Option, Some, None, is_some, unwrap_or, option_map, Result, Ok, Err, fold, reverse, if◌then◌else◌, codes}
use Rattle.mail_base.specs.Limits.{most_headers, most_rows, message_limit, recipient_limit}
use Rattle.mail_base.specs.declared.command.LineFault.{LineFault}
use Rattle.mail_base.specs.declared.command.LineFault.TheVariants.{BadByte as HasBadByte, Unknown, ArgumentNeeded as LacksArgument, NoArgument as HasArgument, Syntax, PathTooLong as HasLongPath, Parameter}
use Rattle.mail_base.specs.declared.command.Verb.{Verb}
use Rattle.mail_base.specs.declared.command.Verb.TheVariants.{Helo as HeloVerb, Ehlo as EhloVerb, Mail as MailVerb, Rcpt as RcptVerb, Data as DataVerb, Rset as RsetVerb, Noop as NoopVerb, Quit as QuitVerb, Vrfy as VrfyVerb, Expn as ExpnVerb, Help as HelpVerb}
use Rattle.mail_base.specs.declared.config.Config.{Config}
use Rattle.mail_base.specs.declared.draw.Draw.{Draw}
use Rattle.mail_base.specs.declared.message.Kept.{Kept}
use Rattle.mail_base.specs.declared.message.Marks.{Marks}
use Rattle.mail_base.specs.declared.route.RouteError.{RouteError}
use Rattle.addr_tokens.specs.Reader.{cut}
use Rattle.mail_header.specs.Fields.{class_in, hops_of}
use Rattle.mail_header.specs.Gatherings.{is_above}
use Rattle.mail_header.specs.Lines.{headers_of, body_of, block_of, size_of}
use Rattle.smtp_lines.specs.Commands.{Order, Helo, Ehlo, Mail, Rcpt, Data, Rset, Noop, Quit, Vrfy, Expn, Help}
use Rattle.smtp_lines.specs.Reading.{is_nothing, order_of}
use Rattle.smtp_lines.specs.declared.line.Line.{Line}
use Rattle.smtp_lines.specs.declared.line.Line.TheVariants.{Command, TooLong, Data as DataLine, DataEnd}
use Rattle.smtp_receive.specs.Judging.{Question, AsksSender, AsksRecipient, Said, refusal_in, drawn_in}
use Rattle.smtp_receive.specs.Replies.{text_of, refusal_text, grant_text, hello_text, extended_text, closing_text, stored_text, out_of_memory_text}
use Rattle.smtp_receive.specs.Mails.{Deed, Mail as Mails, Replied, Granted, Received, Taken, Parted}
use Rattle.smtp_receive.specs.declared.reply.Reply.{Reply}
use Rattle.smtp_receive.specs.declared.reply.Reply.TheVariants.{LineTooLong, BadByte, Unrecognized, ArgumentNeeded, NoArgument, SenderGiven, NeedMail, NeedRcpt, SyntaxError, PathTooLong, ParameterNotKnown, UserRequired, TooManyRecipients, BadAddress, SenderOk, RecipientOk, MessageTooLarge, HeaderTooLarge, TooManyHops, ResetState, Okay, CannotVerify, NotAvailable, SeeStandard}

-- ---- lines, answers and exchanges

-- how a line is answered: with words, as the judge refuses, 250 to HELO and to EHLO, 354, 221 to
-- QUIT, a message, or no reply
pub data Answer : Type 0 where
  Says : Reply → Answer
  Refuses : RouteError → Answer
  Greets : Answer
  Extends : Answer
  Grants : Answer
  TakesLeave : Answer
  Gives : Mails → Answer
  StaysSilent : Answer

-- a line, what the judge said of it, and its answer; none where 452 4.3.1 Out of memory came in its
-- place
pub record Exchange : Type 0 where
  pub line : Line
  pub said : Said
  pub answer : Option Answer

-- what a session is given: a line, what the judge says of it, whether 452 4.3.1 was replied to it
-- for want of memory, and the id that its message got, if it gave one that was taken in
pub record Heard : Type 0 where
  pub line : Line
  pub said : Said
  pub short : Bool
  pub id : Option ℕ

-- the command that was read, if there was one
abbrev pub read_in : Result Order LineFault → Option Order
read_in (Ok order) = Some order
read_in (Err fault) = None

-- what a line asks for, if it is a command
abbrev pub asked : Line → Option Order
asked (Command text) = read_in (order_of text)
asked TooLong = None
asked (DataLine text) = None
asked DataEnd = None

-- a path with its angles
abbrev pub bracketed : List ℕ → List ℕ
bracketed path = 60 ∷ path ++ 62 ∷ []

abbrev pub is_data_end : Line → Bool
is_data_end (Command text) = false
is_data_end TooLong = false
is_data_end (DataLine text) = false
is_data_end DataEnd = true

-- HELO, EHLO and RSET that are accepted, and want of memory, end a transaction
abbrev pub ends_by : Option Answer → Bool
ends_by None = true
ends_by (Some Greets) = true
ends_by (Some Extends) = true
ends_by (Some (Says ResetState)) = true
ends_by _ = false

-- whether an exchange ends the transaction: as the end of data, or as said
abbrev pub ends : Exchange → Bool
ends e = is_data_end e.line || ends_by e.answer

-- whether the answer is 354
abbrev pub is_grant : Option Answer → Bool
is_grant (Some Grants) = true
is_grant _ = false

-- ---- what a session has heard; here and below the latest exchange is first

-- the exchanges of the transaction under way: those since the last one that ended one
abbrev pub transaction : List Exchange → List Exchange
transaction [] = []
transaction (e ∷ before) = if ends e then [] else e ∷ transaction before

abbrev pub or_else : {A : Type 0} → Option A → Option A → Option A
or_else (Some told) earlier = Some told
or_else None earlier = earlier

-- one item or none, as a list
abbrev pub listed : {A : Type 0} → Option A → List A
listed None = []
listed (Some x) = x ∷ []

abbrev pub path_in : Option Order → Option (List ℕ)
path_in (Some (Mail path size eight)) = Some (bracketed path)
path_in _ = None

abbrev pub is_eight : Option Order → Bool
is_eight (Some (Mail path size eight)) = eight
is_eight _ = false

abbrev pub argument_in : Option Order → Option (List ℕ)
argument_in (Some (Helo argument)) = Some argument
argument_in (Some (Ehlo argument)) = Some argument
argument_in _ = None

abbrev pub sender_by : Option Answer → Option Order → Option (List ℕ)
sender_by (Some (Says SenderOk)) order = path_in order
sender_by _ order = None

abbrev pub eight_by : Option Answer → Option Order → Option Bool
eight_by (Some (Says SenderOk)) order = Some (is_eight order)
eight_by _ order = None

-- the rows with those of a line, by its answer and by what it asks
abbrev pub with_rows : Option Answer → Option Order → Said → List Draw → List Draw
with_rows (Some (Says RecipientOk)) order said rows = rows ++ drawn_in said
with_rows _ order said rows = rows

abbrev pub with_recipient : Option Answer → ℕ → ℕ
with_recipient (Some (Says RecipientOk)) count = count + 1
with_recipient _ count = count

abbrev pub with_text : Line → Option (List (List ℕ)) → Option (List (List ℕ))
with_text (Command text) lines = lines
with_text TooLong lines = lines
with_text (DataLine text) lines = option_map (λ earlier. earlier ++ text ∷ []) lines
with_text DataEnd lines = lines

abbrev pub sender_of : List Exchange → Option (List ℕ)
sender_of [] = None
sender_of (e ∷ es) = or_else (sender_by e.answer (asked e.line)) (sender_of es)

abbrev pub eight_of : List Exchange → Option Bool
eight_of [] = None
eight_of (e ∷ es) = or_else (eight_by e.answer (asked e.line)) (eight_of es)

abbrev pub rows_of : List Exchange → List Draw
rows_of [] = []
rows_of (e ∷ es) = with_rows e.answer (asked e.line) e.said (rows_of es)

abbrev pub count_of : List Exchange → ℕ
count_of [] = 0
count_of (e ∷ es) = with_recipient e.answer (count_of es)

abbrev pub lines_of : List Exchange → Option (List (List ℕ))
lines_of [] = None
lines_of (e ∷ es) = if is_grant e.answer then Some [] else with_text e.line (lines_of es)

-- the sender of the transaction under way: that of a MAIL that is accepted
abbrev pub sender_in : List Exchange → Option (List ℕ)
sender_in before = sender_of (transaction before)

-- whether that MAIL declares 8BITMIME
abbrev pub eight_in : List Exchange → Bool
eight_in before = unwrap_or (eight_of (transaction before)) false

-- the rows that are drawn for its recipients, in order
abbrev pub rows_in : List Exchange → List Draw
rows_in before = rows_of (transaction before)

-- how many RCPT are accepted in it
abbrev pub count_in : List Exchange → ℕ
count_in before = count_of (transaction before)

-- its lines since the 354, or None where no message is under way
abbrev pub lines_in : List Exchange → Option (List (List ℕ))
lines_in before = lines_of (transaction before)

-- whether a line is of data of which nothing is kept, since 452 4.3.1 ended the transaction: it
-- gets no reply
abbrev pub is_dropped : List Exchange → Line → Bool
is_dropped before (Command text) = false
is_dropped before TooLong = false
is_dropped before (DataLine text) = not (is_some (lines_in before))
is_dropped before DataEnd = not (is_some (lines_in before))

-- the protocol that a greeting begins
abbrev pub protocol_of : Option Order → Option (List ℕ)
protocol_of (Some (Helo argument)) = Some (codes "SMTP")
protocol_of (Some (Ehlo argument)) = Some (codes "ESMTP")
protocol_of _ = None

abbrev pub protocol_by : Option Answer → Option Order → Option (List ℕ)
protocol_by (Some Greets) order = protocol_of order
protocol_by (Some Extends) order = protocol_of order
protocol_by _ order = None

abbrev pub helo_by : Option Answer → Option Order → Option (List ℕ)
helo_by (Some Greets) order = argument_in order
helo_by (Some Extends) order = argument_in order
helo_by _ order = None

-- the protocol of the latest HELO or EHLO that was accepted, SMTP before
abbrev pub protocol_in : List Exchange → List ℕ
protocol_in [] = codes "SMTP"
protocol_in (e ∷ before) =
    unwrap_or (protocol_by e.answer (asked e.line)) (protocol_in before)

-- its argument, or nothing
abbrev pub helo_in : List Exchange → List ℕ
helo_in [] = []
helo_in (e ∷ before) = unwrap_or (helo_by e.answer (asked e.line)) (helo_in before)

-- the macros that are kept with a message
abbrev pub kept_in : List ℕ → List Exchange → Kept
kept_in peer before =
    record { protocol = protocol_in before; helo = helo_in before; client = peer }

-- ---- the answer to a command, by whether there is a sender, and how many recipients and rows

-- MAIL: the reply, but where the transaction has a sender
abbrev pub mail_reply : Bool → Reply → Reply
mail_reply true reply = SenderGiven
mail_reply false reply = reply

-- RCPT: the reply, but where the transaction has no sender
abbrev pub rcpt_reply : Bool → Reply → Reply
rcpt_reply true reply = reply
rcpt_reply false reply = NeedMail

-- the reply to a path out of the grammar or the limits
abbrev pub path_reply : Verb → Bool → Reply → Reply
path_reply MailVerb given reply = mail_reply given reply
path_reply RcptVerb given reply = rcpt_reply given reply
path_reply HeloVerb given reply = reply
path_reply EhloVerb given reply = reply
path_reply DataVerb given reply = reply
path_reply RsetVerb given reply = reply
path_reply NoopVerb given reply = reply
path_reply QuitVerb given reply = reply
path_reply VrfyVerb given reply = reply
path_reply ExpnVerb given reply = reply
path_reply HelpVerb given reply = reply

-- the reply to a command that has a fault
abbrev pub fault_reply : Bool → LineFault → Reply
fault_reply given HasBadByte = BadByte
fault_reply given Unknown = Unrecognized
fault_reply given LacksArgument = ArgumentNeeded
fault_reply given HasArgument = NoArgument
fault_reply given (Syntax verb) = path_reply verb given SyntaxError
fault_reply given (HasLongPath verb) = path_reply verb given PathTooLong
fault_reply given (Parameter verb) = path_reply verb given ParameterNotKnown

abbrev pub is_large : ℕ → Option ℕ → Bool
is_large limit None = false
is_large limit (Some size) = is_above limit size

-- why a MAIL in the grammar isn't put to the judge, if it isn't
abbrev pub mail_fault : Bool → ℕ → Option ℕ → Option Reply
mail_fault given limit size = if given then Some SenderGiven
    else if is_large limit size then Some MessageTooLarge
    else None

-- why an RCPT in the grammar isn't, by how many recipients there may be
abbrev pub rcpt_fault : Bool → ℕ → ℕ → List ℕ → Option Reply
rcpt_fault given limit count path = if not given then Some NeedMail
    else if is_nothing path then Some UserRequired
    else if nat_le limit count then Some TooManyRecipients
    else None

-- a path that isn't empty can't be cut into tokens
abbrev pub is_uncut : List ℕ → List ℕ → Bool
is_uncut operators path = not (is_nothing path)
    && not (is_some (cut operators true (bracketed path)))

-- the answer to a MAIL that was put to the judge
abbrev pub sender_answer : Option RouteError → Bool → Answer
sender_answer (Some error) uncut = Refuses error
sender_answer None uncut = if uncut then Says BadAddress else Says SenderOk

-- the same of an RCPT, by whether there are too many rows with those that are drawn for it
abbrev pub recipient_answer : Option RouteError → Bool → Answer
recipient_answer (Some error) full = Refuses error
recipient_answer None full = if full then Says TooManyRecipients else Says RecipientOk

abbrev pub mail_answer : Option Reply → List ℕ → List ℕ → Said → Answer
mail_answer (Some reply) operators path said = Says reply
mail_answer None operators path said =
    sender_answer (refusal_in said) (is_uncut operators path)

abbrev pub rcpt_answer : Option Reply → ℕ → Said → Answer
rcpt_answer (Some reply) rows said = Says reply
rcpt_answer None rows said =
    recipient_answer (refusal_in said) (nat_lt most_rows (rows + length (drawn_in said)))

-- the answer to DATA
abbrev pub data_answer : ℕ → Answer
data_answer count = if count == 0 then Says NeedRcpt else Grants

-- what the answer to a command hangs on: the sender, how many RCPT are accepted, and the rows
pub record Standing : Type 0 where
  pub sender : Option (List ℕ)
  pub count : ℕ
  pub rows : List Draw

-- the answer to a command without a fault
abbrev pub order_answer : Config → Standing → Said → Order → Answer
order_answer config now said (Helo argument) = Greets
order_answer config now said (Ehlo argument) = Extends
order_answer config now said (Mail path size eight) =
    mail_answer (mail_fault (is_some now.sender) (message_limit config.options) size)
    config.options.operator_chars path said
order_answer config now said (Rcpt path) =
    rcpt_answer (rcpt_fault (is_some now.sender) (recipient_limit config.options) now.count path)
    (length now.rows) said
order_answer config now said Data = data_answer now.count
order_answer config now said Rset = Says ResetState
order_answer config now said Noop = Says Okay
order_answer config now said Quit = TakesLeave
order_answer config now said Vrfy = Says CannotVerify
order_answer config now said Expn = Says NotAvailable
order_answer config now said Help = Says SeeStandard

-- the answer to a command, or to a line that has a fault
abbrev pub command_answer : Config → Standing → Said → Result Order LineFault → Answer
command_answer config now said (Err fault) = Says (fault_reply (is_some now.sender) fault)
command_answer config now said (Ok order) = order_answer config now said order

-- what the judge is asked at a MAIL or an RCPT that has no fault
abbrev pub mail_question : Option Reply → List ℕ → Kept → Option Question
mail_question (Some reply) path kept = None
mail_question None path kept = Some (AsksSender (bracketed path) kept)

abbrev pub rcpt_question : Option Reply → List ℕ → Option (List ℕ) → Kept → Option Question
rcpt_question (Some reply) path sender kept = None
rcpt_question None path None kept = None
rcpt_question None path (Some sender) kept = Some (AsksRecipient (bracketed path) sender kept)

-- what the judge is asked at a command
abbrev pub order_question : Config → Standing → Kept → Option Order → Option Question
order_question config now kept (Some (Mail path size eight)) =
    mail_question (mail_fault (is_some now.sender) (message_limit config.options) size) path kept
order_question config now kept (Some (Rcpt path)) =
    rcpt_question
    (rcpt_fault (is_some now.sender) (recipient_limit config.options) now.count path)
    path now.sender kept
order_question config now kept _ = None

-- ---- the answer to the end of data

abbrev pub no_marks : Marks
no_marks = record { bounce = false; double = false; warned = false }

-- the answer to the end of a message of these lines
abbrev pub message_answer : Config → Kept → List ℕ → Bool → List Draw → List (List ℕ) → Answer
message_answer config kept sender eight rows lines =
    if is_above (message_limit config.options) (size_of lines) then Says MessageTooLarge
    else if is_above most_headers (size_of (block_of false lines)) then Says HeaderTooLarge
    else if is_above config.options.max_hop_count (hops_of (headers_of lines))
    then Says TooManyHops
    else Gives (record {
      sender = sender;
      rows = rows;
      headers = headers_of lines;
      body = body_of lines;
      size = size_of lines;
      class = class_in config.precedences (headers_of lines);
      eight = eight;
      marks = no_marks;
      kept = kept;
    })

-- the same where a message may be under way; the end of data that were dropped gets no reply
abbrev pub end_answer : Config → Kept → Option (List ℕ) → Bool → List Draw
    → Option (List (List ℕ)) → Answer
end_answer config kept (Some sender) eight rows (Some lines) =
    message_answer config kept sender eight rows lines
end_answer config kept _ eight rows _ = StaysSilent

-- ---- the dialogue

abbrev pub standing_in : List Exchange → Standing
standing_in before =
    record { sender = sender_in before; count = count_in before; rows = rows_in before }

-- what a line asks of the judge after what came before it, if it asks anything
abbrev pub question : Config → List ℕ → List Exchange → Line → Option Question
question config peer before line =
    order_question config (standing_in before) (kept_in peer before) (asked line)

-- the answer to a line after what came before it, by what the judge says of it
abbrev pub answer_to : Config → List ℕ → List Exchange → Said → Line → Answer
answer_to config peer before said (Command text) =
    command_answer config (standing_in before) said (order_of text)
answer_to config peer before said TooLong = Says LineTooLong
answer_to config peer before said (DataLine text) = StaysSilent
answer_to config peer before said DataEnd =
    end_answer config (kept_in peer before) (sender_in before) (eight_in before) (rows_in before)
    (lines_in before)

-- want of memory leaves no answer, but where there is no reply in any case
abbrev pub answer_heard : Config → List ℕ → List Exchange → Heard → Option Answer
answer_heard config peer before heard =
    if heard.short && not (is_dropped before heard.line) then None
    else Some (answer_to config peer before heard.said heard.line)

abbrev pub exchange_of : Config → List ℕ → List Exchange → Heard → Exchange
exchange_of config peer before heard = record {
  line = heard.line;
  said = heard.said;
  answer = answer_heard config peer before heard;
}

abbrev pub with_heard : Config → List ℕ → List Exchange → Heard → List Exchange
with_heard config peer before heard = exchange_of config peer before heard ∷ before

-- the exchanges of a session's lines, of which the latest is first
abbrev pub exchanges : Config → List ℕ → List Heard → List Exchange
exchanges config peer heard = fold (with_heard config peer) [] heard

-- the dialogue of a session with a peer: each line with its answer
abbrev pub dialogue : Config → List ℕ → List Heard → List Exchange
dialogue config peer heard = reverse (exchanges config peer heard)

-- what is done at an answer, where there was memory, by the bytes that a message may have; lines
-- of a message follow 354 alone
abbrev pub did_of : List ℕ → ℕ → Answer → Deed
did_of host limit (Says reply) = Replied (text_of reply)
did_of host limit (Refuses error) = Replied (refusal_text error)
did_of host limit Greets = Replied (hello_text host)
did_of host limit Extends = Replied (extended_text host limit)
did_of host limit Grants = Granted grant_text
did_of host limit TakesLeave = Parted (closing_text host)
did_of host limit (Gives mail) = Received mail
did_of host limit StaysSilent = Taken

-- the reply to a line, if it gets one: 452 4.3.1 where there was no memory for its answer; to a
-- message its 250, where it got an id
abbrev pub reply_by : List ℕ → ℕ → Option Answer → Option ℕ → Option (List ℕ)
reply_by host limit None id = Some out_of_memory_text
reply_by host limit (Some (Says reply)) id = Some (text_of reply)
reply_by host limit (Some (Refuses error)) id = Some (refusal_text error)
reply_by host limit (Some Greets) id = Some (hello_text host)
reply_by host limit (Some Extends) id = Some (extended_text host limit)
reply_by host limit (Some Grants) id = Some grant_text
reply_by host limit (Some TakesLeave) id = Some (closing_text host)
reply_by host limit (Some (Gives message)) id = option_map stored_text id
reply_by host limit (Some StaysSilent) id = None

-- the reply to what is given to a session behind some exchanges, if it gets one
abbrev pub reply_heard : Config → List ℕ → List ℕ → List Exchange → Heard → Option (List ℕ)
reply_heard config host peer before next =
    reply_by host (message_limit config.options) (answer_heard config peer before next) next.id

-- the replies to what is given to a session behind some exchanges
abbrev pub replies_from : Config → List ℕ → List ℕ → List Exchange → List Heard → List (List ℕ)
replies_from config host peer before [] = []
replies_from config host peer before (next ∷ heard) =
    listed (reply_heard config host peer before next)
    ++ replies_from config host peer (with_heard config peer before next) heard

-- the replies of a session behind its greeting
abbrev pub replies_to : Config → List ℕ → List ℕ → List Heard → List (List ℕ)
replies_to config host peer heard = replies_from config host peer [] heard
