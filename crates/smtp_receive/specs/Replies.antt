-- The texts of the replies (RFC 5321 section 4.2; their words and enhanced statuses, RFC 3463, are
-- our own).
use Rattle.std.specs.Prelude.{◌≡◌, ℕ, ◌+◌, ◌/◌, ◌%◌, List, [], ◌∷◌, ◌++◌, take, codes, refl}
use Rattle.std.specs.Fmt.{decimal}
use Rattle.mail_base.specs.Limits.{most_domain}
use Rattle.mail_base.specs.Names.{id_text}
use Rattle.mail_base.specs.Texts.{crlf}
use Rattle.mail_base.specs.declared.route.RouteError.{RouteError}
use Rattle.smtp_receive.specs.declared.reply.Reply.{Reply}
use Rattle.smtp_receive.specs.declared.reply.Reply.TheVariants.{LineTooLong, BadByte, Unrecognized, ArgumentNeeded, NoArgument, SenderGiven, NeedMail, NeedRcpt, SyntaxError, PathTooLong, ParameterNotKnown, UserRequired, TooManyRecipients, BadAddress, SenderOk, RecipientOk, MessageTooLarge, HeaderTooLarge, TooManyHops, ResetState, Okay, CannotVerify, NotAvailable, SeeStandard}

-- the words of a reply that is always the same
abbrev pub words_of : Reply → List ℕ
words_of LineTooLong = codes "500 5.5.2 Line too long"
words_of BadByte = codes "500 5.5.2 Bad byte in line"
words_of Unrecognized = codes "500 5.5.1 Command unrecognized"
words_of ArgumentNeeded = codes "501 5.5.4 Argument needed"
words_of NoArgument = codes "501 5.5.4 No argument allowed"
words_of SenderGiven = codes "503 5.5.1 Sender already given"
words_of NeedMail = codes "503 5.5.1 Need MAIL first"
words_of NeedRcpt = codes "503 5.5.1 Need RCPT first"
words_of SyntaxError = codes "501 5.5.2 Syntax error in path"
words_of PathTooLong = codes "501 5.1.3 Path too long"
words_of ParameterNotKnown = codes "555 5.5.4 Parameter not known"
words_of UserRequired = codes "553 5.1.3 User address required"
words_of TooManyRecipients = codes "452 4.5.3 Too many recipients"
words_of BadAddress = codes "553 5.1.3 Bad address"
words_of SenderOk = codes "250 2.1.0 Sender ok"
words_of RecipientOk = codes "250 2.1.5 Recipient ok"
words_of MessageTooLarge = codes "552 5.3.4 Message too large"
words_of HeaderTooLarge = codes "552 5.6.0 Header too large"
words_of TooManyHops = codes "554 5.4.6 Too many hops"
words_of ResetState = codes "250 2.0.0 Reset state"
words_of Okay = codes "250 2.0.0 OK"
words_of CannotVerify = codes "252 2.5.2 Cannot verify"
words_of NotAvailable = codes "502 5.7.0 Not available"
words_of SeeStandard = codes "214 2.0.0 See RFC 5321"

-- a reply is one line
abbrev pub text_of : Reply → List ℕ
text_of reply = words_of reply ++ crlf

-- the three digits of a code
abbrev pub code_text : ℕ → List ℕ
code_text code = (48 + code / 100) ∷ (48 + code / 10 % 10) ∷ (48 + code % 10) ∷ []

-- the reply with which a judge refuses
abbrev pub refusal_text : RouteError → List ℕ
refusal_text error =
    code_text error.code ++ codes " " ++ error.status ++ codes " " ++ error.text ++ crlf

-- the host as replies show it, no longer than a domain may be
unfoldable pub shown_host : List ℕ → List ℕ
shown_host host = take most_domain host

abbrev pub greeting_text : List ℕ → List ℕ
greeting_text host = codes "220 " ++ host ++ codes " ESMTP ready" ++ crlf

-- the reply to HELO
abbrev pub hello_text : List ℕ → List ℕ
hello_text host = codes "250 " ++ host ++ codes " Hello" ++ crlf

-- the reply to EHLO: what is served beside, with the bytes that a message may have
abbrev pub extended_text : List ℕ → ℕ → List ℕ
extended_text host limit =
    codes "250-" ++ host ++ codes " Hello" ++ crlf
    ++ codes "250-PIPELINING" ++ crlf
    ++ codes "250-SIZE " ++ decimal limit ++ crlf
    ++ codes "250 8BITMIME" ++ crlf

-- the reply to DATA that lines of a message follow
abbrev pub grant_text : List ℕ
grant_text =
    codes "354 Enter mail, end with " ++ 34 ∷ 46 ∷ 34 ∷ codes " on a line by itself" ++ crlf

abbrev pub closing_text : List ℕ → List ℕ
closing_text host = codes "221 2.0.0 " ++ host ++ codes " closing connection" ++ crlf

-- the reply to a line for which there is no memory
abbrev pub out_of_memory_text : List ℕ
out_of_memory_text = codes "452 4.3.1 Out of memory" ++ crlf

-- the only reply to a peer with which no session begins
abbrev pub too_many_sessions_text : List ℕ
too_many_sessions_text = codes "421 4.3.2 Too many sessions" ++ crlf

-- the final reply to a message that is stored, with its id
abbrev pub stored_text : ℕ → List ℕ
stored_text id = codes "250 2.0.0 " ++ id_text id ++ codes " Message accepted for delivery" ++ crlf

example : code_text 550 ≡ codes "550"
example = refl
