-- The arguments of a program mailer (Sendmail Installation and Operation Guide, "M: Define Mailer",
-- A and macro u; that dollar signs of a user stay, and what u is in the words behind the first that
-- holds it, are our own).
use Rattle.std.specs.Prelude.{◌≡◌, ℕ, ◌+◌, ◌==◌, Bool, true, false, not, ◌||◌, ◌&&◌, List, [], ◌∷◌, ◌++◌, map, take, drop, length, bytes_eq, get_or, position, Option, None, Some, if◌then◌else◌, codes, refl}
use Rattle.std.specs.List.{list_all, list_any}
use Rattle.mail_base.specs.Catalogs.{with_value}
use Rattle.mail_base.specs.declared.mailer.Mailer.{Mailer}
use Rattle.cf_macros.specs.Expansion.{expanded}
use Rattle.mail_base.specs.Literals.{literal}

-- whether a text begins with another
abbrev pub begins_with : List ℕ → List ℕ → Bool
begins_with front text = bytes_eq (take (length front) text) front

-- what stands behind the dollar sign of `$u`, `${u}`, `$&u` and `$&{u}`
abbrev pub user_names : List (List ℕ)
user_names = codes "u" ∷ codes "{u}" ∷ codes "&u" ∷ codes "&{u}" ∷ []

abbrev pub names_user : List ℕ → Bool
names_user text = list_any (λ name. begins_with name text) user_names

-- whether a word holds `$u`, in one of these forms; two dollar signs (36) stand for one, and begin
-- no name
abbrev pub holds_user : List ℕ → Bool
holds_user [] = false
holds_user (b ∷ []) = false
holds_user (b ∷ c ∷ word) =
    if b == 36 && c == 36 then holds_user word
    else (b == 36 && names_user (c ∷ word)) || holds_user (c ∷ word)

-- the words of A behind the program's name
abbrev pub words_of : Mailer → List (List ℕ)
words_of mailer = drop 1 mailer.args

-- whether a mailer gets its users as arguments
abbrev pub takes_users : Mailer → Bool
takes_users mailer = list_any holds_user (words_of mailer)

-- the macros for a user
abbrev pub with_user : List ℕ → List (List ℕ × List ℕ) → List (List ℕ × List ℕ)
with_user user macros = with_value (codes "u") (literal user) macros

-- the macros for the last of these users, where u was set to each in turn
abbrev pub with_users : List (List ℕ) → List (List ℕ × List ℕ) → List (List ℕ × List ℕ)
with_users [] macros = macros
with_users (user ∷ users) macros = with_users users (with_user user macros)

-- words, each expanded; an expansion that is refused is empty
abbrev pub plain_args : List (List ℕ × List ℕ) → List (List ℕ) → List (List ℕ)
plain_args macros words = map (λ word. expanded word macros) words

-- a word once for each user
abbrev pub user_args : List (List ℕ × List ℕ) → List (List ℕ) → List ℕ → List (List ℕ)
user_args macros [] word = []
user_args macros (user ∷ users) word =
    expanded word (with_user user macros) ∷ user_args (with_user user macros) users word

-- the words before the one that stands once for each user, that one, and those behind it
abbrev pub args_at : Option ℕ → List (List ℕ × List ℕ) → List (List ℕ) → List (List ℕ)
    → List (List ℕ)
args_at None macros users words = plain_args macros words
args_at (Some place) macros users words =
    plain_args macros (take place words)
    ++ (user_args macros users (get_or words place [])
    ++ plain_args (with_users users macros) (drop (place + 1) words))

-- the arguments: of the words the first that holds `$u` stands once for each user
abbrev pub args_of : List (List ℕ × List ℕ) → List (List ℕ) → List (List ℕ) → List (List ℕ)
args_of macros users words = args_at (position holds_user words) macros users words

-- a user may be an argument where it has no NUL, at which the system cuts arguments
abbrev pub is_argument : List ℕ → Bool
is_argument user = not (list_any (λ b. b == 0) user)

abbrev pub are_arguments : List (List ℕ) → Bool
are_arguments users = list_all is_argument users

example :
    (holds_user (codes "-d$u") ≡ true) × (holds_user (codes "a$&{u}") ≡ true)
    × (holds_user (codes "$$u $?u x$. u $U") ≡ false)
example = (refl, refl, refl)
