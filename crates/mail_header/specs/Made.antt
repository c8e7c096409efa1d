-- The headers that H lines make (Sendmail Installation and Operation Guide, "H: Define Header";
-- what becomes of line ends in a value is our own).
use Rattle.std.specs.Prelude.{◌≡◌, ℕ, slice_index, ◌==◌, Bool, true, not, ◌||◌, ◌&&◌, List, [], ◌∷◌, ◌++◌, take, map, filter, find, Option, option_map, if◌then◌else◌, codes, refl}
use Rattle.std.specs.List.{list_any}
use Rattle.std.specs.Str.{str_eq_ignore_ascii_case}
use Rattle.mail_base.specs.Texts.{is_blank}
use Rattle.mail_base.specs.declared.lines.HeaderLine.{HeaderLine}
use Rattle.mail_base.specs.declared.mailer.Mailer.{Mailer}
use Rattle.cf_macros.specs.Expansion.{expanded}
use Rattle.mail_header.specs.Headers.{is_plain}
use Rattle.mail_header.specs.Fields.{name_of, is_named}

-- whether a header goes on behind its CR or LF, which is b: a blank follows the line end
abbrev pub folds : ℕ → List ℕ → Bool
folds b rest = (b == 10 && is_blank (slice_index rest 0))
    || (b == 13 && slice_index rest 0 == 10 && is_blank (slice_index rest 1))

-- a CR or LF behind which it doesn't go on becomes a blank
abbrev pub tidied : List ℕ → List ℕ
tidied [] = []
tidied (b ∷ rest) = (if is_plain b || folds b rest then b else 32) ∷ tidied rest

-- a value behind its colon
abbrev pub spaced : List ℕ → List ℕ
spaced [] = []
spaced (b ∷ value) = 32 ∷ b ∷ value

-- the header that an H line makes
abbrev pub made_of : List (List ℕ × List ℕ) → HeaderLine → List ℕ
made_of macros line = tidied (line.name ++ 58 ∷ spaced (expanded line.template macros))

abbrev pub is_for : List ℕ → HeaderLine → Bool
is_for name line = str_eq_ignore_ascii_case line.name name

-- the header that is put first on receipt: that of the first H line Received, whatever its flags
abbrev pub received_of : List HeaderLine → List (List ℕ × List ℕ) → Option (List ℕ)
received_of lines macros = option_map (made_of macros) (find (is_for (codes "Received")) lines)

-- an H line without flags is wanted by every mailer, and one with flags by those that have one of
-- them
abbrev pub is_wanted : Mailer → HeaderLine → Bool
is_wanted mailer line = not (list_any (λ f. true) line.flags)
    || list_any (λ f. list_any (λ m. m == f) mailer.flags) line.flags

-- a name that begins with Resent-, whatever its case
abbrev pub is_resent : List ℕ → Bool
is_resent name = str_eq_ignore_ascii_case (take 7 name) (codes "Resent-")

-- whether an H line adds its header on delivery to a message with these headers: not Received,
-- wanted, none of the name there, and Resent- only beside another such
abbrev pub is_added : Mailer → List (List ℕ) → HeaderLine → Bool
is_added mailer headers line =
    not (is_for (codes "Received") line) && is_wanted mailer line
    && not (list_any (is_named line.name) headers)
    && (not (is_resent line.name) || list_any (λ header. is_resent (name_of header)) headers)

-- the headers of a message as it is delivered by a mailer
abbrev pub added_of : List HeaderLine → Mailer → List (List ℕ × List ℕ)
    → List (List ℕ) → List (List ℕ)
added_of lines mailer macros headers =
    headers ++ map (made_of macros) (filter (is_added mailer headers) lines)

example : (tidied (97 ∷ 13 ∷ 10 ∷ 32 ∷ 98 ∷ 10 ∷ []) ≡ 97 ∷ 13 ∷ 10 ∷ 32 ∷ 98 ∷ 32 ∷ [])
    × (tidied (97 ∷ 13 ∷ 10 ∷ 98 ∷ []) ≡ codes "a  b")
example = (refl, refl)
