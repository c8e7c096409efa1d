-- Tokens that are gathered up to their limit.
use Rattle.std.proofs.Common.{◌≡◌, ◌<◌, ◌≤◌, Bool, true, false, List, ◌++◌, length, Result, Ok, Err, OnOk, OnErr, refl, sym, ap, arith}
use Rattle.std.proofs.lemmas.Bool.{cond-false, lt-leb}
use Rattle.std.proofs.lemmas.List.{length-append}
use Rattle.addr_tokens.specs.declared.lexeme.Lexeme.{Lexeme}
use Rattle.addr_tokens.specs.Scans.{most_tokens}
use Rattle.addr_tokens.specs.Reader.{Answer, gathered, with_lexemes}

-- a text has at most 2,000 tokens
pub most : most_tokens ≡ 2000
unfolding most_tokens
most = refl

-- one token more than there may be
pub too_many : (is_long : Bool) (lexemes more : List Lexeme) (answer : Answer) → most_tokens ≤ length lexemes → length more ≡ 1
    → gathered true lexemes answer ≡ gathered is_long lexemes (with_lexemes more answer)
too_many is_long lexemes more (Err fault) full one = refl
too_many true lexemes more (Ok later) full one = refl
too_many false lexemes more (Ok later) full one =
    sym (cond-false _ _ _ (lt-leb (length (lexemes ++ (more ++ later))) most_tokens (omega (arith, length-append lexemes (more ++ later), length-append more later))))

-- where one was added or none
pub still_short : {A V E : Type 0} (result : Result V E) (old more new : List A) → OnOk result (new ≡ old ++ more) → OnErr result (new ≡ old) → length old < most_tokens → length more ≡ 1 → length new ≤ most_tokens
still_short (Ok v) old more new ok err short one = omega (arith, ap length ok, length-append old more)
still_short (Err e) old more new ok err short one = omega (arith, ap length err)
