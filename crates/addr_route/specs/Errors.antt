-- What is said of a refused address (RFC 5321, section 4.2; RFC 3463; sysexits; Sendmail
-- Installation and Operation Guide, the mailer error; the texts, and the statuses of exits, are
-- own).
use Rattle.std.specs.Prelude.{◌≡◌, ℕ, ◌+◌, ◌*◌, ◌-◌, ◌==◌, ◌&&◌, ◌||◌, nat_le, Bool, List, [], ◌∷◌, ◌++◌, Option, None, Some, map, take, drop, position, slice_index, codes, refl, if◌then◌else◌}
use Rattle.std.specs.Str.{str_eq_ignore_ascii_case}
use Rattle.mail_base.specs.Exits.{exit_status}
use Rattle.mail_base.specs.Notes.{blanked, is_digit, is_status}
use Rattle.mail_base.specs.declared.route.Cause.{Cause}
use Rattle.mail_base.specs.declared.route.Cause.TheVariants.{BadAddress, LongAddress, NotResolved, UnknownMailer, NoUser, FileMailer, ErrorMailer}
use Rattle.mail_base.specs.declared.route.RouteError.{RouteError}
use Rattle.mail_base.specs.declared.token.Token.{Token}
use Rattle.mail_base.specs.declared.token.Token.TheVariants.{Word, Quoted}
use Rattle.addr_tokens.specs.Joins.{joined}
use Rattle.ruleset_run.specs.Filling.{unquoted}

-- two texts are equal without ascii case
abbrev pub is_like : List ℕ → List ℕ → Bool
is_like text other = str_eq_ignore_ascii_case text other

-- ---- causes

-- a code, a status, and what stands behind them
pub record Reply : Type 0 where
  pub code : ℕ
  pub status : List ℕ
  pub text : List ℕ

abbrev pub reply : ℕ → List ℕ → List ℕ → Reply
reply code status text = record { code = code; status = status; text = text }

-- an error of a run is one of the configuration; what the mailer `error` says is defined below
abbrev pub reply_to : Cause → Reply
reply_to BadAddress = reply 553 (codes "5.1.3") (codes "Bad address")
reply_to LongAddress = reply 553 (codes "5.1.3") (codes "Bad address")
reply_to NotResolved = reply 554 (codes "5.3.5") (codes "Address does not resolve")
reply_to (UnknownMailer name) =
    reply 554 (codes "5.3.5") (codes "Unknown mailer " ++ map blanked name)
reply_to NoUser = reply 553 (codes "5.1.1") (codes "User required")
reply_to FileMailer = reply 550 (codes "5.2.4") (codes "File delivery not supported")
reply_to cause = reply 451 (codes "4.3.5") (codes "Configuration error")

abbrev pub error_with : Reply → Cause → RouteError
error_with reply cause =
    record { code = reply.code; status = reply.status; text = reply.text; cause = cause }

abbrev pub error_of : Cause → RouteError
error_of cause = error_with (reply_to cause) cause

-- ---- exits: what a host says to the mailer `error`

-- the exit of two digits from 64 to 78
abbrev pub exit_of_digits : ℕ → ℕ → Option ℕ
exit_of_digits tens ones =
    if tens == 54 && (nat_le 52 ones && nat_le ones 57) then Some (60 + (ones - 48))
    else if tens == 55 && (nat_le 48 ones && nat_le ones 56) then Some (70 + (ones - 48))
    else None

abbrev pub exit_numbered : List ℕ → Option ℕ
exit_numbered (tens ∷ ones ∷ []) = exit_of_digits tens ones
exit_numbered host = None

-- the exit of a name without ascii case, or of a number
abbrev pub exit_of : List ℕ → Option ℕ
exit_of host =
    if is_like host (codes "usage") then Some 64
    else if is_like host (codes "nouser") then Some 67
    else if is_like host (codes "nohost") then Some 68
    else if is_like host (codes "unavailable") then Some 69
    else if is_like host (codes "software") then Some 70
    else if is_like host (codes "tempfail") then Some 75
    else if is_like host (codes "protocol") then Some 76
    else if is_like host (codes "config") then Some 78
    else exit_numbered host

-- the host where it is a status, or that of the exit which it names
abbrev pub host_status : List ℕ → List ℕ
host_status host = if is_status host then host else exit_status (exit_of host)

-- the code where the message has none: one of an error that passes (450) where the status begins
-- with a 4 (52)
abbrev pub class_code : List ℕ → ℕ
class_code status = if slice_index status 0 == 52 then 450 else 550

-- ---- messages: what a user says to the mailer `error`

-- a quoted string without its quotes is a word
abbrev pub bare : Token → Token
bare (Quoted text) = Word (unquoted text)
bare token = token

-- the tokens with a blank between two neighbouring words
abbrev pub message_of : List Token → List ℕ
message_of user = joined (Some 32) (map bare user)

-- a code at the front: three digits, of which the first is 4 or 5, and a blank
abbrev pub code_of : ℕ → ℕ → ℕ → ℕ → Option ℕ
code_of class tens ones blank =
    if (class == 52 || class == 53) && (is_digit tens && (is_digit ones && blank == 32))
    then Some ((class - 48) * 100 + ((tens - 48) * 10 + (ones - 48))) else None

abbrev pub code_at : List ℕ → Option ℕ
code_at (class ∷ tens ∷ ones ∷ blank ∷ rest) = code_of class tens ones blank
code_at text = None

-- the place of the first blank, where a status stands before it
abbrev pub status_before : Option ℕ → List ℕ → Option ℕ
status_before None text = None
status_before (Some place) text = if is_status (take place text) then Some place else None

abbrev pub status_end : List ℕ → Option ℕ
status_end text = status_before (position (λ byte. byte == 32) text) text

-- a text in which CR and LF are blanks; an empty one is `Refused`
abbrev pub said : List ℕ → List ℕ
said [] = codes "Refused"
said (byte ∷ bytes) = map blanked (byte ∷ bytes)

abbrev pub refusal : ℕ → List ℕ → List ℕ → RouteError
refusal code status text =
    record { code = code; status = status; text = said text; cause = ErrorMailer }

-- behind a code a status may stand, which ends in a blank at this place
abbrev pub with_status : ℕ → List ℕ → Option ℕ → List ℕ → RouteError
with_status code status None text = refusal code status text
with_status code status (Some place) text = refusal code (take place text) (drop (place + 1) text)

-- the code takes four bytes with its blank
abbrev pub with_code : List ℕ → Option ℕ → List ℕ → RouteError
with_code status None message = refusal (class_code status) status message
with_code status (Some code) message =
    with_status code status (status_end (drop 4 message)) (drop 4 message)

-- what the mailer `error` says by a host and a message
abbrev pub error_by : List ℕ → List ℕ → RouteError
error_by host message = with_code (host_status host) (code_at message) message

abbrev shown : RouteError → ℕ × (List ℕ × List ℕ)
shown error = (error.code, (error.status, error.text))

example :
    (shown (error_by (codes "nouser") (codes "551 5.7.9 gone"))
    ≡ (551, (codes "5.7.9", codes "gone")))
    × (shown (error_by (codes "TempFail") (codes "later")) ≡ (450, (codes "4.3.0", codes "later")))
    × (shown (error_by (codes "5.7.1") (codes "550 denied"))
    ≡ (550, (codes "5.7.1", codes "denied")))
    × (shown (error_by (codes "77") (codes "421 ")) ≡ (421, (codes "5.7.0", codes "Refused")))
    × (shown (error_by (codes "79") (codes "250 5.1.1 ok"))
    ≡ (550, (codes "5.0.0", codes "250 5.1.1 ok")))
    × (shown (error_by (codes "4.2.1") []) ≡ (450, (codes "4.2.1", codes "Refused")))
    × (message_of (Word (codes "no") ∷ Quoted (codes "\"mail here\"") ∷ []) ≡ codes "no mail here")
example = (refl, refl, refl, refl, refl, refl, refl)
