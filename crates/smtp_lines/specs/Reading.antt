-- How a command line is computed, by which the requests of a session go. The contract of `command`
-- is by the grammar of Commands; the law `one_command` says that the two are one.
use Rattle.std.specs.Prelude.{ℕ, ◌+◌, ◌==◌, nat_lt, ◌||◌, Bool, true, false, not, ◌&&◌, List, [], ◌∷◌, length, take, drop, Option, Some, None, Result, Ok, Err, unwrap_or, option_and_then, nat_le, if◌then◌else◌, codes}
use Rattle.std.specs.List.{list_any, list_all, position_or_len}
use Rattle.std.specs.Char.{is_ascii_digit}
use Rattle.std.specs.Str.{str_eq_ignore_ascii_case}
use Rattle.std.specs.Str.Parse.{digits_value}
use Rattle.mail_base.specs.Limits.{most_path, most_local_part}
use Rattle.mail_base.specs.Texts.{is_blank, without_blanks}
use Rattle.mail_base.specs.declared.command.Verb.{Verb}
use Rattle.mail_base.specs.declared.command.Verb.TheVariants.{Helo as HeloVerb, Ehlo as EhloVerb, Mail as MailVerb, Rcpt as RcptVerb, Data as DataVerb, Rset as RsetVerb, Noop as NoopVerb, Quit as QuitVerb, Vrfy as VrfyVerb, Expn as ExpnVerb, Help as HelpVerb}
use Rattle.mail_base.specs.declared.command.LineFault.{LineFault}
use Rattle.mail_base.specs.declared.command.LineFault.TheVariants.{BadByte, Unknown, ArgumentNeeded, NoArgument, Syntax, PathTooLong, Parameter}
use Rattle.smtp_lines.specs.declared.parameter.Given.{Given}
use Rattle.smtp_lines.specs.declared.parameter.Given.TheVariants.{Size, Body}
use Rattle.smtp_lines.specs.declared.parameter.Parameters.{Parameters}
use Rattle.smtp_lines.specs.Stream.{verb_of}
use Rattle.smtp_lines.specs.Paths.{Parts, is_parted, without_route, local_part}
use Rattle.smtp_lines.specs.Parameters.{words_of, is_some_text}
use Rattle.smtp_lines.specs.Commands.{Order, Helo, Ehlo, Mail, Rcpt, Data, Rset, Noop, Quit, Vrfy, Expn, Help, is_bad_byte, argument_of}
use Rattle.smtp_lines.specs.PathEnds.{angle_parts}

-- the verb of a word, whatever its case
abbrev pub verb_named : List ℕ → Option Verb
verb_named word =
    if str_eq_ignore_ascii_case word (codes "HELO") then Some HeloVerb
    else if str_eq_ignore_ascii_case word (codes "EHLO") then Some EhloVerb
    else if str_eq_ignore_ascii_case word (codes "MAIL") then Some MailVerb
    else if str_eq_ignore_ascii_case word (codes "RCPT") then Some RcptVerb
    else if str_eq_ignore_ascii_case word (codes "DATA") then Some DataVerb
    else if str_eq_ignore_ascii_case word (codes "RSET") then Some RsetVerb
    else if str_eq_ignore_ascii_case word (codes "NOOP") then Some NoopVerb
    else if str_eq_ignore_ascii_case word (codes "QUIT") then Some QuitVerb
    else if str_eq_ignore_ascii_case word (codes "VRFY") then Some VrfyVerb
    else if str_eq_ignore_ascii_case word (codes "EXPN") then Some ExpnVerb
    else if str_eq_ignore_ascii_case word (codes "HELP") then Some HelpVerb
    else None

-- how many bytes stand before the first blank
abbrev pub word_end : List ℕ → ℕ
word_end text = position_or_len is_blank text

-- the path at the front of a text, without its angles, and what is after it; a path without angles
-- ends at a blank
abbrev pub path_parts : List ℕ → Option Parts
path_parts [] = None
path_parts (b ∷ text) =
    if b == 60 then angle_parts text
    else Some (record {
      front = take (word_end (b ∷ text)) (b ∷ text);
      back = drop (word_end (b ∷ text)) (b ∷ text);
    })

-- a path with its angles, or its local part, is above its limit: where neither is, its domain isn't
-- either
abbrev pub is_long : List ℕ → Bool
is_long path =
    nat_lt most_path (length path + 2) || nat_lt most_local_part (length (local_part path))

-- the path of its parts, without its route, with the first fault in this order
abbrev pub checked : Verb → Option Parts → Result Parts LineFault
checked verb None = Err (Syntax verb)
checked verb (Some parts) =
    if not (is_parted parts.back) then Err (Syntax verb)
    else if is_long (without_route parts.front) then Err (PathTooLong verb)
    else Ok (record { front = without_route parts.front; back = parts.back })

-- the path after a keyword, which has any case and may have blanks after it
abbrev pub path_after : Verb → List ℕ → List ℕ → Result Parts LineFault
path_after verb keyword argument =
    if str_eq_ignore_ascii_case (take (length keyword) argument) keyword
    then checked verb (path_parts (without_blanks (drop (length keyword) argument)))
    else Err (Syntax verb)

-- what a size is
abbrev pub size_of : List ℕ → Option ℕ
size_of digits = if is_some_text digits
    && (nat_le (length digits) 20 && list_all is_ascii_digit digits)
    then Some (digits_value 10 digits) else None

abbrev pub as_size : Option ℕ → Option Given
as_size None = None
as_size (Some size) = Some (Size size)

-- what a parameter gives
abbrev pub given_by : List ℕ → Option Given
given_by word =
    if str_eq_ignore_ascii_case word (codes "BODY=7BIT") then Some (Body false)
    else if str_eq_ignore_ascii_case word (codes "BODY=8BITMIME") then Some (Body true)
    else if str_eq_ignore_ascii_case (take 5 word) (codes "SIZE=")
    then as_size (size_of (drop 5 word))
    else None

-- with one parameter more, which counts in place of an earlier one of its kind
abbrev pub with_given : Parameters → Option Given → Option Parameters
with_given earlier None = None
with_given earlier (Some (Size size)) = Some (record earlier { size = Some size })
with_given earlier (Some (Body eight)) = Some (record earlier { body = Some eight })

-- with those of some words
abbrev pub with_words : List (List ℕ) → Option Parameters → Option Parameters
with_words [] earlier = earlier
with_words (word ∷ words) earlier =
    with_words words (option_and_then (λ p. with_given p (given_by word)) earlier)

abbrev pub no_parameters : Parameters
no_parameters = record { size = None; body = None }

abbrev pub parameters_of : List ℕ → Option Parameters
parameters_of text = with_words (words_of text) (Some no_parameters)

abbrev pub is_nothing : List ℕ → Bool
is_nothing [] = true
is_nothing (b ∷ text) = false

abbrev pub from_given : List ℕ → Option Parameters → Result Order LineFault
from_given path None = Err (Parameter MailVerb)
from_given path (Some given) = Ok (Mail path given.size (unwrap_or given.body false))

abbrev pub from_by : Result Parts LineFault → Result Order LineFault
from_by (Err fault) = Err fault
from_by (Ok parts) = from_given parts.front (parameters_of parts.back)

abbrev pub to_by : Result Parts LineFault → Result Order LineFault
to_by (Err fault) = Err fault
to_by (Ok parts) = if is_nothing parts.back then Ok (Rcpt parts.front) else Err (Parameter RcptVerb)

-- an order that needs an argument, and one that has none
abbrev pub needed : Order → List ℕ → Result Order LineFault
needed order argument = if is_nothing argument then Err ArgumentNeeded else Ok order

abbrev pub alone : Order → List ℕ → Result Order LineFault
alone order argument = if is_nothing argument then Ok order else Err NoArgument

-- the order of a verb with its argument
abbrev pub order_by : Option Verb → List ℕ → Result Order LineFault
order_by None argument = Err Unknown
order_by (Some HeloVerb) argument = needed (Helo argument) argument
order_by (Some EhloVerb) argument = needed (Ehlo argument) argument
order_by (Some MailVerb) argument = from_by (path_after MailVerb (codes "FROM:") argument)
order_by (Some RcptVerb) argument = to_by (path_after RcptVerb (codes "TO:") argument)
order_by (Some DataVerb) argument = alone Data argument
order_by (Some RsetVerb) argument = alone Rset argument
order_by (Some NoopVerb) argument = Ok Noop
order_by (Some QuitVerb) argument = alone Quit argument
order_by (Some VrfyVerb) argument = needed Vrfy argument
order_by (Some ExpnVerb) argument = Ok Expn
order_by (Some HelpVerb) argument = Ok Help

-- what a command line asks for, or the first fault that it has
abbrev pub order_of : List ℕ → Result Order LineFault
order_of line = if list_any is_bad_byte line then Err BadByte
    else order_by (verb_named (verb_of line)) (argument_of line)
