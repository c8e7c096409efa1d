-- Joining by neighbours, and from the left.
use Rattle.std.proofs.Common.{◌≡◌, ℕ, false, List, [], ◌∷◌, ◌++◌, Option, refl, ap}
use Rattle.std.proofs.lemmas.List.{append-nil}
use Rattle.mail_base.specs.declared.token.Token.{Token}
use Rattle.addr_tokens.specs.Joins.{joined, between, token_bytes, is_string}
use Rattle.addr_tokens.specs.inner.Joining.{joined_on}

joined_next : (blank : Option ℕ) (token : Token) (tokens : List Token) → token_bytes token ++ joined_on (is_string token) blank tokens ≡ joined blank (token ∷ tokens)
joined_next blank token [] = append-nil (token_bytes token)
joined_next blank token (next ∷ tokens) = ap (λ x. token_bytes token ++ (between blank token next ++ x)) (joined_next blank next tokens)

-- tokens that are joined with nothing before them are joined as a whole
pub joined_from_left : (blank : Option ℕ) (tokens : List Token) → joined_on false blank tokens ≡ joined blank tokens
joined_from_left blank [] = refl
joined_from_left blank (token ∷ tokens) = joined_next blank token tokens
