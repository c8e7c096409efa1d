-- Tokens joined from the left.
use Rattle.std.specs.Prelude.{ℕ, Bool, ◌&&◌, List, [], ◌∷◌, ◌++◌, Option, if◌then◌else◌}
use Rattle.mail_base.specs.declared.token.Token.{Token}
use Rattle.addr_tokens.specs.Joins.{token_bytes, is_string, blank_bytes}

-- the blank that stands before a token, where a Word or a Quoted token stands before it or doesn't
abbrev pub joined_on : Bool → Option ℕ → List Token → List ℕ
joined_on after blank [] = []
joined_on after blank (token ∷ tokens) =
    (if after && is_string token then blank_bytes blank else [])
    ++ (token_bytes token ++ joined_on (is_string token) blank tokens)
