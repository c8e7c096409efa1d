-- The text that a mailer is handed (Sendmail Installation and Operation Guide, "M: Define Mailer",
-- for E and the flag n, and macros g and d; RFC 5321, section 2.3.8, for a network mailer; that the
-- line `From ` is one line, and that a path is told without case, are our own).
use Rattle.std.specs.Prelude.{◌≡◌, ℕ, ◌==◌, Bool, not, ◌||◌, ◌&&◌, List, [], ◌∷◌, ◌++◌, map, if◌then◌else◌, codes, refl}
use Rattle.std.specs.List.{flat_map, list_any}
use Rattle.std.specs.Str.{str_eq_ignore_ascii_case}
use Rattle.mail_base.specs.Notes.{blanked}
use Rattle.mail_base.specs.Texts.{crlf, lines_of_header}
use Rattle.mail_base.specs.declared.mailer.Mailer.{Mailer}
use Rattle.cf_macros.specs.Expansion.{expanded}

-- a mailer that is spoken to over a connection, and no program
abbrev pub is_network : Mailer → Bool
is_network mailer = str_eq_ignore_ascii_case mailer.path (codes "[IPC]")
    || str_eq_ignore_ascii_case mailer.path (codes "[TCP]")

-- what ends each line of what a mailer gets
abbrev pub end_for : Mailer → List ℕ
end_for mailer = if is_network mailer then crlf else mailer.line_end

-- a body in which each CR LF has become another end; a CR or LF alone stays
abbrev pub with_ends : List ℕ → List ℕ → List ℕ
with_ends end [] = []
with_ends end (b ∷ []) = b ∷ []
with_ends end (b ∷ c ∷ body) =
    if b == 13 && c == 10 then end ++ with_ends end body else b ∷ with_ends end (c ∷ body)

-- the lines of a header, each with that end
abbrev pub header_text : List ℕ → List ℕ → List ℕ
header_text end header = flat_map (λ line. line ++ end) (lines_of_header header)

-- a program without the flag n (110) gets a line `From `
abbrev pub wants_from : Mailer → Bool
wants_from mailer = not (is_network mailer || list_any (λ flag. flag == 110) mailer.flags)

abbrev pub sender_or_daemon : List ℕ → List ℕ
sender_or_daemon [] = codes "MAILER-DAEMON"
sender_or_daemon (b ∷ sender) = b ∷ sender

-- that line without its end: the sender and the date, in which a CR or LF has become a blank
abbrev pub from_text : List (List ℕ × List ℕ) → List ℕ
from_text macros = map blanked (codes "From "
    ++ (sender_or_daemon (expanded (codes "$g") macros) ++ 32 ∷ expanded (codes "$d") macros))

abbrev pub from_line : Mailer → List (List ℕ × List ℕ) → List ℕ
from_line mailer macros =
    if wants_from mailer then from_text macros ++ end_for mailer else []

-- the text: the line `From `, the headers, an empty line and the body
abbrev pub outgoing_of : Mailer → List (List ℕ × List ℕ) → List (List ℕ) → List ℕ → List ℕ
outgoing_of mailer macros headers body =
    from_line mailer macros ++ (flat_map (header_text (end_for mailer)) headers
    ++ (end_for mailer ++ with_ends (end_for mailer) body))

example : (with_ends (10 ∷ []) (codes "a" ++ crlf ++ crlf ++ codes "b\r\r\nc\n") ≡ codes "a\n\nb\r\nc\n")
    × (header_text crlf (codes "To: a,\n b") ≡ codes "To: a,\r\n b\r\n")
    × (header_text (10 ∷ []) (codes "To: a,\r\n b") ≡ codes "To: a,\n b\n")
example = (refl, refl, refl)
