-- Tokens joined to a text (Sendmail Installation and Operation Guide, "R and S: Rewriting Rules"
-- and its option BlankSub).
use Rattle.std.specs.Prelude.{ℕ, Bool, true, false, ◌&&◌, List, [], ◌∷◌, ◌++◌, Option, Some, None, codes, if◌then◌else◌}
use Rattle.mail_base.specs.declared.token.Token.{Token}
use Rattle.mail_base.specs.declared.token.Token.TheVariants.{Word, Quoted, Op, Sign}
use Rattle.mail_base.specs.declared.token.Mark.{Mark}
use Rattle.mail_base.specs.declared.token.Mark.TheVariants.{Alt, Mailer, Host, User, End}

-- how a sign is written
abbrev pub sign_bytes : Mark → List ℕ
sign_bytes Alt = codes "$|"
sign_bytes Mailer = codes "$#"
sign_bytes Host = codes "$@"
sign_bytes User = codes "$:"
sign_bytes End = codes "$."

-- the bytes of a token
abbrev pub token_bytes : Token → List ℕ
token_bytes (Word text) = text
token_bytes (Quoted text) = text
token_bytes (Op byte) = byte ∷ []
token_bytes (Sign mark) = sign_bytes mark

-- a Word or a Quoted token
abbrev pub is_string : Token → Bool
is_string (Word text) = true
is_string (Quoted text) = true
is_string (Op byte) = false
is_string (Sign mark) = false

-- the byte that stands for white space, if there is one
abbrev pub blank_bytes : Option ℕ → List ℕ
blank_bytes None = []
blank_bytes (Some byte) = byte ∷ []

-- what is put between two neighbours
abbrev pub between : Option ℕ → Token → Token → List ℕ
between blank left right = if is_string left && is_string right then blank_bytes blank else []

-- the bytes of the tokens, and the blank between two neighbours that are both Word or Quoted
abbrev pub joined : Option ℕ → List Token → List ℕ
joined blank [] = []
joined blank (token ∷ []) = token_bytes token
joined blank (token ∷ next ∷ tokens) =
    token_bytes token ++ (between blank token next ++ joined blank (next ∷ tokens))

-- two words are neighbours
abbrev pub have_neighbours : List Token → Bool
have_neighbours [] = false
have_neighbours (Word text ∷ []) = false
have_neighbours (Word text ∷ Word other ∷ tokens) = true
have_neighbours (token ∷ tokens) = have_neighbours tokens
