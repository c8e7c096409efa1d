-- Worked examples of the dialogue, line by line.
use Rattle.std.specs.Prelude.{◌≡◌, ℕ, List, [], ◌∷◌, ◌++◌, pos, Option, Some, None, true, false, reverse, codes, refl}
use Rattle.std.proofs.Common.{ap, ◌∙◌}
use Rattle.std.proofs.lemmas.List.Sums.{fold-append}
use Rattle.std.specs.Fmt.{digits}
use Rattle.mail_base.specs.Configs.{initial}
use Rattle.mail_base.specs.Limits.{most_message, most_headers, most_path, most_local_part, most_recipients, most_rows}
use Rattle.mail_base.specs.Texts.{crlf}
use Rattle.mail_base.specs.declared.config.Config.{Config}
use Rattle.mail_base.specs.declared.draw.Draw.{Draw}
use Rattle.smtp_receive.specs.Mails.{Mail}
use Rattle.mail_base.specs.declared.route.Resolved.TheVariants.{Goes}
use Rattle.addr_tokens.specs.Reader.{cut}
use Rattle.addr_tokens.specs.Scans.{most_tokens}
use Rattle.smtp_lines.specs.declared.line.Line.{Line}
use Rattle.smtp_lines.specs.declared.line.Line.TheVariants.{Command, Data, DataEnd}
use Rattle.smtp_receive.specs.Dialogue.{Answer, Says, Greets, Extends, Grants, TakesLeave, Gives, StaysSilent, Exchange, Heard, answer_heard, dialogue, exchanges, no_marks, reply_by, with_heard}
use Rattle.smtp_receive.specs.Judging.{Said, Unasked, OfSender, OfRecipient}
use Rattle.smtp_receive.specs.declared.judge.Verdict.TheVariants.{Rows}
use Rattle.smtp_receive.specs.declared.reply.Reply.TheVariants.{NeedRcpt, RecipientOk, SenderOk}

-- no line of a configuration was read
abbrev pub config : Config
config = initial

-- the client's address
abbrev pub peer : List ℕ
peer = codes "10.0.0.1"

abbrev pub heard : Line → Said → Heard
heard line said = record { line = line; said = said; short = false; id = None }

-- memory is wanting at a line
abbrev pub short : Line → Heard
short line = record { line = line; said = Unasked; short = true; id = None }

abbrev pub exchange : Line → Said → Option Answer → Exchange
exchange line said answer = record { line = line; said = said; answer = answer }

-- one line more
pub more : (lines : List Heard) (next : Heard) (before : List Exchange) (answer : Option Answer) → exchanges config peer lines ≡ before → answer_heard config peer before next ≡ answer
    → exchanges config peer (lines ++ next ∷ []) ≡ exchange next.line next.said answer ∷ before
more lines next before answer e is =
    fold-append (with_heard config peer) [] lines (next ∷ []) ∙ ap (λ b. with_heard config peer b next) e ∙ ap (λ a. exchange next.line next.said a ∷ before) is

-- ---- up to the first line of a message

-- the client's name
abbrev pub helo : Line
helo = Command (codes "HELO c.example")

-- the same by EHLO
abbrev pub ehlo : Line
ehlo = Command (codes "EHLO c.example")

-- a sender
abbrev pub mail : Line
mail = Command (codes "MAIL FROM:<bob@c.example>")

-- a recipient
abbrev pub rcpt : Line
rcpt = Command (codes "RCPT TO:<ann@mx.example>")

-- the request to send a message
abbrev pub data_line : Line
data_line = Command (codes "DATA")

-- a header of the message
abbrev pub subject : Line
subject = Data (codes "Subject: hi")

-- the recipient's row
abbrev pub row : Draw
row = record {
  address = codes "<ann@mx.example>";
  sender = codes "<bob@c.example>";
  primary = true;
  resolved = Goes (record { mailer = codes "local"; host = []; user = codes "ann" });
}

-- what the judge says of the sender
abbrev pub of_sender : Said
of_sender = OfSender None

-- and of the recipient
abbrev pub of_recipient : Said
of_recipient = OfRecipient (Rows (row ∷ []))

abbrev pub greeted : List Exchange
greeted = exchange helo Unasked (Some Greets) ∷ []

-- the exchanges, last first, up to the recipient
abbrev pub given : List Exchange
given = exchange rcpt of_recipient (Some (Says RecipientOk)) ∷ exchange mail of_sender (Some (Says SenderOk)) ∷ greeted

-- the exchanges, last first, up to the header
abbrev pub granted : List Exchange
granted = exchange subject Unasked (Some StaysSilent) ∷ exchange data_line Unasked (Some Grants) ∷ given

-- the lines that were heard up to the header
abbrev pub begun : List Heard
begun = heard helo Unasked ∷ heard mail of_sender ∷ heard rcpt of_recipient ∷ heard data_line Unasked ∷ heard subject Unasked ∷ []

-- the sender is accepted
pub mail_is : answer_heard config peer greeted (heard mail of_sender) ≡ Some (Says SenderOk)
unfolding most_path most_local_part most_message cut most_tokens
mail_is = refl

-- the recipient is accepted
pub rcpt_is : answer_heard config peer (exchange mail of_sender (Some (Says SenderOk)) ∷ greeted) (heard rcpt of_recipient) ≡ Some (Says RecipientOk)
unfolding most_path most_local_part most_recipients most_rows
rcpt_is = refl

-- what these lines come to
pub begins : exchanges config peer begun ≡ granted
unfolding most_path most_local_part
begins =
    let one : exchanges config peer (heard helo Unasked ∷ []) ≡ greeted = more [] (heard helo Unasked) [] (Some Greets) refl refl in
    let two : exchanges config peer (heard helo Unasked ∷ heard mail of_sender ∷ []) ≡ exchange mail of_sender (Some (Says SenderOk)) ∷ greeted =
    more (heard helo Unasked ∷ []) (heard mail of_sender) greeted (Some (Says SenderOk)) one mail_is in
    let three : exchanges config peer (heard helo Unasked ∷ heard mail of_sender ∷ heard rcpt of_recipient ∷ []) ≡ given =
    more (heard helo Unasked ∷ heard mail of_sender ∷ []) (heard rcpt of_recipient) (exchange mail of_sender (Some (Says SenderOk)) ∷ greeted) (Some (Says RecipientOk)) two rcpt_is in
    let four : exchanges config peer (heard helo Unasked ∷ heard mail of_sender ∷ heard rcpt of_recipient ∷ heard data_line Unasked ∷ []) ≡ exchange data_line Unasked (Some Grants) ∷ given =
    more (heard helo Unasked ∷ heard mail of_sender ∷ heard rcpt of_recipient ∷ []) (heard data_line Unasked) given (Some Grants) three refl in
    more (heard helo Unasked ∷ heard mail of_sender ∷ heard rcpt of_recipient ∷ heard data_line Unasked ∷ []) (heard subject Unasked) (exchange data_line Unasked (Some Grants) ∷ given) (Some StaysSilent) four refl

-- ---- a message is given at its end

-- the message's only line of body
abbrev pub body : Line
body = Data (codes "hello")

-- the end of the session
abbrev pub quit : Line
quit = Command (codes "QUIT")

-- the message that these lines give
abbrev pub message : Mail
message = record {
  sender = codes "<bob@c.example>";
  rows = row ∷ [];
  headers = codes "Subject: hi" ∷ [];
  body = codes "hello" ++ 13 ∷ 10 ∷ [];
  size = 22;
  class = pos 0;
  eight = false;
  marks = no_marks;
  kept = record { protocol = codes "SMTP"; helo = codes "c.example"; client = codes "10.0.0.1" };
}

-- the exchanges, last first, up to the body
abbrev pub taken : List Exchange
taken = exchange body Unasked (Some StaysSilent) ∷ exchange (Data []) Unasked (Some StaysSilent) ∷ granted

-- the message's end gives it
pub ends : answer_heard config peer taken (heard DataEnd Unasked) ≡ Some (Gives message)
unfolding most_message most_headers most_path most_local_part
ends = refl

plain_session : dialogue config peer (begun ++ heard (Data []) Unasked ∷ heard body Unasked ∷ heard DataEnd Unasked ∷ heard quit Unasked ∷ [])
    ≡ exchange helo Unasked (Some Greets) ∷ exchange mail of_sender (Some (Says SenderOk)) ∷ exchange rcpt of_recipient (Some (Says RecipientOk)) ∷ exchange data_line Unasked (Some Grants)
    ∷ exchange subject Unasked (Some StaysSilent) ∷ exchange (Data []) Unasked (Some StaysSilent) ∷ exchange body Unasked (Some StaysSilent) ∷ exchange DataEnd Unasked (Some (Gives message))
    ∷ exchange quit Unasked (Some TakesLeave) ∷ []
plain_session =
    let one = more begun (heard (Data []) Unasked) granted (Some StaysSilent) begins refl in
    let two = more (begun ++ heard (Data []) Unasked ∷ []) (heard body Unasked) (exchange (Data []) Unasked (Some StaysSilent) ∷ granted) (Some StaysSilent) one refl in
    let three = more (begun ++ heard (Data []) Unasked ∷ heard body Unasked ∷ []) (heard DataEnd Unasked) taken (Some (Gives message)) two ends in
    ap reverse (more (begun ++ heard (Data []) Unasked ∷ heard body Unasked ∷ heard DataEnd Unasked ∷ []) (heard quit Unasked) (exchange DataEnd Unasked (Some (Gives message)) ∷ taken) (Some TakesLeave) three refl)

-- ---- EHLO is answered by four lines

extended_session : (dialogue config peer (heard ehlo Unasked ∷ []) ≡ exchange ehlo Unasked (Some Extends) ∷ [])
    × (reply_by (codes "mx.example") 16_777_216 (Some Extends) None
    ≡ Some (codes "250-mx.example Hello" ++ crlf ++ codes "250-PIPELINING" ++ crlf ++ codes "250-SIZE 16777216" ++ crlf ++ codes "250 8BITMIME" ++ crlf))
unfolding digits
extended_session = (refl, refl)

-- ---- 452 4.3.1 in mid-data: the rest with its dot gets no reply, also where memory is wanting
-- again, and the transaction is over

abbrev lacking : List Exchange
lacking = exchange (Data []) Unasked None ∷ granted

abbrev dropped : List Exchange
dropped = exchange DataEnd Unasked (Some StaysSilent) ∷ exchange body Unasked (Some StaysSilent) ∷ lacking

memory_is_wanting : dialogue config peer (begun ++ short (Data []) ∷ short body ∷ short DataEnd ∷ heard data_line Unasked ∷ [])
    ≡ exchange helo Unasked (Some Greets) ∷ exchange mail of_sender (Some (Says SenderOk)) ∷ exchange rcpt of_recipient (Some (Says RecipientOk)) ∷ exchange data_line Unasked (Some Grants)
    ∷ exchange subject Unasked (Some StaysSilent) ∷ exchange (Data []) Unasked None ∷ exchange body Unasked (Some StaysSilent) ∷ exchange DataEnd Unasked (Some StaysSilent)
    ∷ exchange data_line Unasked (Some (Says NeedRcpt)) ∷ []
memory_is_wanting =
    let one = more begun (short (Data [])) granted None begins refl in
    let two = more (begun ++ short (Data []) ∷ []) (short body) lacking (Some StaysSilent) one refl in
    let three = more (begun ++ short (Data []) ∷ short body ∷ []) (short DataEnd) (exchange body Unasked (Some StaysSilent) ∷ lacking) (Some StaysSilent) two refl in
    ap reverse (more (begun ++ short (Data []) ∷ short body ∷ short DataEnd ∷ []) (heard data_line Unasked) dropped (Some (Says NeedRcpt)) three refl)
