-- What a command line asks for is of one line, and paths have their form in their angles.
use Rattle.std.proofs.Common.{◌≡◌, ℕ, ◌+◌, ◌-◌, false, List, [], ◌∷◌, ◌++◌, length, drop, Result, Ok, Err, IfOk, refl, sym, ap, subst, ◌∙◌, codes, arith}
use Rattle.std.specs.List.{list_any, prefix_len, suffix_len, position_or_len, after_first}
use Rattle.std.proofs.lemmas.Bool.{false≢true, cond_both, or_parts}
use Rattle.std.proofs.lemmas.List.{get_or_push, length_push}
use Rattle.std.proofs.lemmas.List.Elements.{All-nil, All-cons, All-head, All-tail, All-push, All-take, All-drop}
use Rattle.mail_base.specs.Texts.{is_blank, IsLine, IsBracketed, without_blanks}
use Rattle.mail_base.specs.declared.command.Verb.{Verb}
use Rattle.mail_base.specs.declared.command.Verb.TheVariants.{Helo as HeloVerb, Ehlo as EhloVerb, Mail as MailVerb, Rcpt as RcptVerb}
use Rattle.mail_base.specs.declared.command.LineFault.{LineFault}
use Rattle.smtp_lines.specs.Stream.{verb_of}
use Rattle.smtp_lines.specs.Paths.{HasPath, IsWritten, in_angles, bare, has_route, is_colon, without_route}
use Rattle.smtp_lines.specs.Commands.{Order, Helo, Ehlo, Mail, Rcpt, is_bad_byte, argument_of, Says as HasVerb, IsCommand, helo, ehlo, mail, rcpt, data_, rset, noop, quit, vrfy, expn, help, IsRead}
use Rattle.smtp_lines.specs.Reading.{order_of}
use Rattle.smtp_lines.proofs.CommandLemmas.{order_read}
use Rattle.smtp_receive.specs.Dialogue.{bracketed}

-- no LF
abbrev pub NotLf : ℕ → Type 0
NotLf b = b ≡ 10 → ⊥

-- ---- what a command line asks for has no LF

good_byte : (b : ℕ) → is_bad_byte b ≡ false → NotLf b
good_byte b good is = false≢true (sym good ∙ ap is_bad_byte is)

good_line : (text : List ℕ) → list_any is_bad_byte text ≡ false → IsLine text
good_line [] good = All-nil NotLf
good_line (b ∷ text) good =
    let parts = or_parts (is_bad_byte b) (list_any is_bad_byte text) good in
    All-cons NotLf b text (good_byte b parts.0) (good_line text parts.1)

argument_line : (text : List ℕ) → IsLine text → IsLine (argument_of text)
argument_line text line =
    let back : List ℕ = drop (length (verb_of text)) text in
    let rest : List ℕ = without_blanks back in
    All-take NotLf (length rest - suffix_len is_blank rest) rest (All-drop NotLf (prefix_len is_blank back) back (All-drop NotLf (length (verb_of text)) text line))

front_of : (one other : List ℕ) → IsLine (one ++ other) → IsLine one
front_of [] other line = All-nil NotLf
front_of (b ∷ one) other line = All-cons NotLf b one (All-head NotLf b (one ++ other) line) (front_of one other (All-tail NotLf b (one ++ other) line))

back_of : (one other : List ℕ) → IsLine (one ++ other) → IsLine other
back_of [] other line = line
back_of (b ∷ one) other line = back_of one other (All-tail NotLf b (one ++ other) line)

inside_line : (written inside : List ℕ) → IsWritten written inside → IsLine written → IsLine inside
inside_line _ _ (in_angles inside is) line = front_of inside (62 ∷ []) (All-tail NotLf 60 (inside ++ 62 ∷ []) line)
inside_line _ _ (bare b more other blank) line = line

route_line : (path : List ℕ) → IsLine path → IsLine (without_route path)
route_line path line =
    cond_both (has_route path (position_or_len is_colon path)) (after_first is_colon path) path IsLine
    (λ route. All-drop NotLf (position_or_len is_colon path + 1) path line)
    (λ none. line)

path_line : (keyword argument path rest : List ℕ) → HasPath keyword argument path rest → IsLine argument → IsLine path
path_line keyword argument path rest has line =
    let whole : IsLine (has.word ++ (has.gap ++ (has.written ++ rest))) = subst IsLine has.whole line in
    let behind = back_of has.gap (has.written ++ rest) (back_of has.word (has.gap ++ (has.written ++ rest)) whole) in
    subst IsLine (sym has.unrouted) (route_line has.inside (inside_line has.written has.inside has.is (front_of has.written rest behind)))

says_line : (text : List ℕ) (verb : Verb) (argument : List ℕ) → HasVerb text verb argument → IsLine argument
says_line text verb argument says = subst IsLine (sym says.argument_is) (argument_line text (good_line text says.clean))

-- the text of an order is of one line
abbrev pub OrderLine : Order → Type 0
OrderLine (Helo argument) = IsLine argument
OrderLine (Ehlo argument) = IsLine argument
OrderLine (Mail path size eight) = IsLine path
OrderLine (Rcpt path) = IsLine path
OrderLine _ = Unit {0}

command_line : (text : List ℕ) (order : Order) → IsCommand text order → OrderLine order
command_line text _ (helo argument says some) = says_line text HeloVerb argument says
command_line text _ (ehlo argument says some) = says_line text EhloVerb argument says
command_line text _ (mail argument path rest size eight says has short given) = path_line (codes "FROM:") argument path rest has (says_line text MailVerb argument says)
command_line text _ (rcpt argument path says has short) = path_line (codes "TO:") argument path [] has (says_line text RcptVerb argument says)
command_line text _ (data_ says) = tt
command_line text _ (rset says) = tt
command_line text _ (noop argument says) = tt
command_line text _ (quit says) = tt
command_line text _ (vrfy argument says some) = tt
command_line text _ (expn argument says) = tt
command_line text _ (help argument says) = tt

read_line : (text : List ℕ) (r : Result Order LineFault) → IsRead text r → IfOk r OrderLine
read_line text (Ok order) is = command_line text order is
read_line text (Err fault) is = tt

-- what a command line asks for is of one line
pub order_line : (text : List ℕ) → IfOk (order_of text) OrderLine
order_line text = read_line text (order_of text) (order_read text)

-- the same of the command that was read
pub order_is_line : (text : List ℕ) (order : Order) → order_of text ≡ Ok order → OrderLine order
order_is_line text order is = subst (λ r. IfOk r OrderLine) is (order_line text)

-- ---- paths in their angles

-- what is on one line is a path in its angles
pub brackets_form : (path : List ℕ) → IsLine path → IsBracketed (bracketed path)
brackets_form path line = record {
  line = All-push NotLf (60 ∷ path) 62 (All-cons NotLf 60 path (λ is. absurd (omega arith)) line) (λ is. absurd (omega arith));
  opens = refl;
  closes = get_or_push (60 ∷ path) 62 0 (length (bracketed path) - 1) (omega (arith, length_push (60 ∷ path) 62));
}
