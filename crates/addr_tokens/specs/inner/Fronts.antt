-- The front of a text, by its first byte.
use Rattle.std.specs.Prelude.{ℕ, false, ◌&&◌, List, ◌∷◌, Ok, if◌then◌else◌}
use Rattle.addr_tokens.specs.Pieces.{Alphabet, Operator, is_listed, is_doubled, means}
use Rattle.addr_tokens.specs.Reader.{First, begins_dollar, past_word, first_word, first_dollar}

-- the first piece of a text that begins with a dollar sign, which stands before these bytes, and
-- what is behind it; or the fault
abbrev pub first_at_dollar : Alphabet → ℕ → List ℕ → First
first_at_dollar alphabet place bs =
    if begins_dollar bs && is_doubled alphabet
    then first_word place (36 ∷ bs) (past_word alphabet false (36 ∷ bs))
    else if means alphabet.dollars bs then first_dollar alphabet place bs
    else if is_listed alphabet 36 then Ok (Operator 36, bs)
    else first_word place (36 ∷ bs) (past_word alphabet false (36 ∷ bs))
