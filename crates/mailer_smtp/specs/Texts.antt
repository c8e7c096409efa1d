-- What is said to a peer (RFC 5321, sections 4.1.1 and 4.5.2; RFC 6152, section 2; RFC 2033,
-- section 4.1), and what is noted of what it says (own).
use Rattle.std.specs.Prelude.{◌≡◌, ℕ, ◌+◌, ◌/◌, ◌%◌, ◌==◌, Bool, true, false, not, List, [], ◌∷◌, ◌++◌, Option, Some, None, map, ◌&&◌, if◌then◌else◌, codes, refl}
use Rattle.std.specs.List.{list_all, list_any}
use Rattle.mail_base.specs.Notes.{noted}
use Rattle.mail_base.specs.Texts.{crlf}
use Rattle.mailer_smtp.specs.declared.dots.LinePlace.{LinePlace}
use Rattle.mailer_smtp.specs.declared.dots.LinePlace.TheVariants.{LineStart, Return, Inside}
use Rattle.mailer_smtp.specs.declared.kit.Kit.{Kit}
use Rattle.mailer_smtp.specs.declared.kit.Speech.{Speech}
use Rattle.mailer_smtp.specs.declared.kit.Speech.TheVariants.{Smtp, Lmtp}
use Rattle.mailer_smtp.specs.declared.letter.Letter.{Letter}

-- a text that may stand in a command has neither CR nor LF
abbrev pub is_said_byte : ℕ → Bool
is_said_byte byte = not (byte == 10) && not (byte == 13)

abbrev pub is_said : List ℕ → Bool
is_said text = list_all is_said_byte text

-- there is a recipient to whom a letter can be handed over by commands
abbrev pub is_sayable : Letter → Bool
is_sayable letter = is_said letter.host && is_said letter.sender && list_any is_said letter.users

-- where in a line one stands behind a byte
abbrev pub is_line_start : LinePlace → Bool
is_line_start LineStart = true
is_line_start Return = false
is_line_start Inside = false

abbrev pub is_return : LinePlace → Bool
is_return LineStart = false
is_return Return = true
is_return Inside = false

abbrev pub place_after : LinePlace → ℕ → LinePlace
place_after place byte =
    if byte == 13 then Return else if is_return place && byte == 10 then LineStart else Inside

-- the end that the last line lacks (RFC 5321, section 4.1.1.4)
abbrev pub ends_from : LinePlace → List ℕ
ends_from LineStart = []
ends_from Return = crlf
ends_from Inside = crlf

-- a text in which each line that begins with a dot (46) has one more (RFC 5321, section 4.5.2)
abbrev pub dotted_from : LinePlace → List ℕ → List ℕ
dotted_from place [] = ends_from place
dotted_from place (byte ∷ bytes) = if is_line_start place && byte == 46
    then 46 ∷ byte ∷ dotted_from (place_after place byte) bytes
    else byte ∷ dotted_from (place_after place byte) bytes

-- the message as it is written, with the line that ends it
unfoldable pub dotted : List ℕ → List ℕ
dotted message = dotted_from LineStart message ++ 46 ∷ crlf

-- a word, and the host or a path behind it
abbrev pub greeting_line : List ℕ → List ℕ → List ℕ
greeting_line word host = word ++ 32 ∷ (host ++ crlf)

abbrev pub path_line : List ℕ → List ℕ → List ℕ → List ℕ
path_line word path end = word ++ (path ++ end)

abbrev pub hello_word : Speech → List ℕ
hello_word Smtp = codes "EHLO"
hello_word Lmtp = codes "LHLO"

abbrev pub mail_end : Bool → List ℕ
mail_end true = codes "> BODY=8BITMIME\r\n"
mail_end false = codes ">\r\n"

-- the command that asks for a recipient, where it is one line
abbrev pub rcpt_of : List ℕ → Option (List ℕ)
rcpt_of user = if is_said user
    then Some (path_line (codes "RCPT TO:<") user (codes ">\r\n"))
    else None

-- all that may be said
abbrev pub kit_of : Speech → Letter → Kit
kit_of speech letter = record {
  hello = greeting_line (hello_word speech) letter.host;
  again = greeting_line (codes "HELO") letter.host;
  mail = path_line (codes "MAIL FROM:<") letter.sender (codes ">\r\n");
  mail_eight = path_line (codes "MAIL FROM:<") letter.sender (mail_end letter.eight);
  rcpts = map rcpt_of letter.users;
  start = codes "DATA\r\n";
  text = dotted letter.message;
  quit = codes "QUIT\r\n";
}

-- the note of a reply: its code, a blank and the text of its first line
unfoldable pub note_of : ℕ → List ℕ → List ℕ
note_of code text =
    noted ((48 + code / 100) ∷ (48 + code / 10 % 10) ∷ (48 + code % 10) ∷ 32 ∷ text)

example : (dotted (codes ".a\r\n..\r\nb.\n.c\r\n") ≡ codes "..a\r\n...\r\nb.\n.c\r\n.\r\n")
    × (dotted [] ≡ codes ".\r\n") × (dotted (codes "a\r\n.") ≡ codes "a\r\n..\r\n.\r\n")
    × (dotted (codes "a\r\r\n.") ≡ codes "a\r\r\n..\r\n.\r\n")
    × (rcpt_of (codes "a\rb") ≡ None) × (note_of 550 (codes "no") ≡ codes "550 no")
unfolding dotted note_of
example = (refl, refl, refl, refl, refl, refl)
