-- The same tokens have one place, which their kind and their bytes in small letters give.
use Rattle.std.proofs.Common.{◌≡◌, ℕ, ◌+◌, ◌%◌, List, [], ◌∷◌, length, true, cond, refl, sym, ap, ◌∙◌}
use Rattle.std.specs.Prelude.{◌==◌}
use Rattle.std.specs.Char.{to_ascii_lowercase}
use Rattle.std.specs.Cmp.Lexicographic.{bytes_decides}
use Rattle.std.specs.Str.{str_to_ascii_lowercase}
use Rattle.std.proofs.lemmas.List.{length-map}
use Rattle.mail_base.specs.Masks.{place_of}
use Rattle.mail_base.specs.Texts.{text_place}
use Rattle.mail_base.specs.Tokens.{mark_number, same_token}
use Rattle.mail_base.specs.declared.token.Mark.{Mark}
use Rattle.mail_base.specs.declared.token.Mark.TheVariants.{Alt, Mailer, Host, User, End}
use Rattle.mail_base.specs.declared.token.Token.{Token}
use Rattle.mail_base.specs.declared.token.Token.TheVariants.{Word, Quoted, Op, Sign}
use Rattle.mail_base.specs.inner.TokenLaws.{caseless, same_is}

-- the place of bytes in small letters
abbrev small_place : List ℕ → ℕ
small_place [] = 0
small_place (first ∷ rest) = (first + length rest) % 64

-- the place of a sign by its number
abbrev sign_place : List ℕ → ℕ
sign_place [] = 0
sign_place (number ∷ rest) = 24 + number

-- the place of a token by its kind and its bytes in small letters
abbrev caseless_place : List ℕ → ℕ
caseless_place [] = 0
caseless_place (kind ∷ text) = cond (kind == 3) (sign_place text) (small_place text)

text_by_small : (text : List ℕ) → text_place text ≡ small_place (str_to_ascii_lowercase text)
text_by_small [] = refl
text_by_small (first ∷ rest) = ap (λ (n : ℕ). (to_ascii_lowercase first + n) % 64) (sym (length-map rest to_ascii_lowercase))

mark_by_small : (mark : Mark) → 24 + mark_number mark ≡ sign_place (str_to_ascii_lowercase (mark_number mark ∷ []))
mark_by_small Alt = refl
mark_by_small Mailer = refl
mark_by_small Host = refl
mark_by_small User = refl
mark_by_small End = refl

place_by : (token : Token) → place_of token ≡ caseless_place (caseless token)
place_by (Word text) = text_by_small text
place_by (Quoted text) = text_by_small text
place_by (Op byte) = text_by_small (byte ∷ [])
place_by (Sign mark) = mark_by_small mark

-- two tokens that are the same have one place
pub same_place : (one another : Token) → same_token one another ≡ true → place_of one ≡ place_of another
same_place one another same =
    let bytes : caseless one ≡ caseless another = (bytes_decides (caseless one) (caseless another)).0 (sym (same_is one another) ∙ same) in
    place_by one ∙ ap caseless_place bytes ∙ sym (place_by another)
