-- Quoted strings: how one ends.
use Rattle.std.proofs.Common.{◌≡◌, ℕ, ◌==◌, Bool, true, false, not, ◌&&◌, cond, List, [], ◌∷◌, ◌++◌, length, refl, sym, ◌∙◌, ap, subst}
use Rattle.std.proofs.lemmas.Bool.{cond-false, and_parts, and_from, not-true, not_from_false, eqb-true}
use Rattle.std.proofs.lemmas.List.{append_assoc}
use Rattle.addr_tokens.specs.Pieces.{InQuotes, quote_nothing, quote_plain, quote_escaped, is_control, is_quotable}
use Rattle.addr_tokens.specs.Reader.{Ending, Closed, Unclosed, Bad, past_quote}
use Rattle.addr_tokens.proofs.WordLemmas.{behind}

-- the quotation is closed where the rest begins
pub record ClosesQuote (text rest : List ℕ) : Type 0 where
  pub inside : List ℕ
  pub whole : text ≡ inside ++ 34 ∷ rest
  pub is : InQuotes inside

-- a byte that may not stand in quotes, by how many bytes there are from it on
pub data SpoilsQuote : List ℕ → ℕ → Type 0 where
  spoilt_end : (inside : List ℕ) → InQuotes inside → SpoilsQuote (inside ++ 92 ∷ []) 1
  spoilt_byte : (inside : List ℕ) (b : ℕ) (after : List ℕ) → InQuotes inside → is_control b ≡ true → SpoilsQuote (inside ++ b ∷ after) (length (b ∷ after))
  spoilt_pair : (inside : List ℕ) (b : ℕ) (after : List ℕ) → InQuotes inside → is_control b ≡ true → SpoilsQuote (inside ++ 92 ∷ b ∷ after) (length (b ∷ after))

-- where a quotation ends, by what the reader of its end answers
abbrev pub QuoteEnds : List ℕ → Ending → Type 0
QuoteEnds text (Closed rest) = ClosesQuote text rest
QuoteEnds text Unclosed = InQuotes text
QuoteEnds text (Bad left) = SpoilsQuote text left

-- more bytes stand before
spoils_later : (front text : List ℕ) (left : ℕ) → ((inside : List ℕ) → InQuotes inside → InQuotes (front ++ inside)) → SpoilsQuote text left → SpoilsQuote (front ++ text) left
spoils_later front _ _ grow (spoilt_end inside is) = subst (λ x. SpoilsQuote x 1) (append_assoc front inside (92 ∷ [])) (spoilt_end (front ++ inside) (grow inside is))
spoils_later front _ _ grow (spoilt_byte inside b after is control) = subst (λ x. SpoilsQuote x (length (b ∷ after))) (append_assoc front inside (b ∷ after)) (spoilt_byte (front ++ inside) b after (grow inside is) control)
spoils_later front _ _ grow (spoilt_pair inside b after is control) = subst (λ x. SpoilsQuote x (length (b ∷ after))) (append_assoc front inside (92 ∷ b ∷ after)) (spoilt_pair (front ++ inside) b after (grow inside is) control)

ends_later : (front text : List ℕ) (ending : Ending) → ((inside : List ℕ) → InQuotes inside → InQuotes (front ++ inside)) → QuoteEnds text ending → QuoteEnds (front ++ text) ending
ends_later front text (Closed rest) grow ends = record { inside = front ++ ends.inside; whole = ap (λ x. front ++ x) ends.whole ∙ sym (append_assoc front ends.inside (34 ∷ rest)); is = grow ends.inside ends.is }
ends_later front text Unclosed grow ends = grow text ends
ends_later front text (Bad left) grow ends = spoils_later front text left grow ends

quote_at : (b : ℕ) (bs : List ℕ) (control slash close : Bool) → is_control b ≡ control → (b == 92) ≡ slash → (b == 34) ≡ close
    → QuoteEnds (92 ∷ bs) (past_quote true bs) → QuoteEnds bs (past_quote false bs)
    → QuoteEnds (b ∷ bs) (cond control (Bad (length (b ∷ bs))) (cond slash (past_quote true bs) (cond close (Closed bs) (past_quote false bs))))
quote_at b bs true slash close c s q escaped plain = spoilt_byte [] b bs quote_nothing c
quote_at b bs false true close c s q escaped plain = subst (λ x. QuoteEnds (x ∷ bs) (past_quote true bs)) (sym (eqb-true b 92 s)) escaped
quote_at b bs false false true c s q escaped plain = record { inside = []; whole = ap (λ x. x ∷ bs) (eqb-true b 34 q); is = quote_nothing }
quote_at b bs false false false c s q escaped plain =
    ends_later (b ∷ []) bs (past_quote false bs)
    (λ inside is. quote_plain b inside (and_from _ _ (and_from _ _ (not_from_false _ c) (not_from_false _ q)) (not_from_false _ s)) is) plain

pair_at : (b : ℕ) (bs : List ℕ) (control : Bool) → is_control b ≡ control → QuoteEnds bs (past_quote false bs) → QuoteEnds (92 ∷ b ∷ bs) (cond control (Bad (length (b ∷ bs))) (past_quote false bs))
pair_at b bs true c plain = spoilt_pair [] b bs quote_nothing c
pair_at b bs false c plain = ends_later (92 ∷ b ∷ []) bs (past_quote false bs) (λ inside is. quote_escaped b inside c is) plain

-- how a quoted string is read to end is how it ends
pub quote_read : (quoted : Bool) (text : List ℕ) → QuoteEnds (behind quoted text) (past_quote quoted text)
quote_read true [] = spoilt_end [] quote_nothing
quote_read false [] = quote_nothing
quote_read true (b ∷ bs) = pair_at b bs (is_control b) refl (quote_read false bs)
quote_read false (b ∷ bs) = quote_at b bs (is_control b) (b == 92) (b == 34) refl refl refl (quote_read true bs) (quote_read false bs)

quotable_parts : (b : ℕ) → is_quotable b ≡ true → (is_control b ≡ false) × ((b == 34) ≡ false) × ((b == 92) ≡ false)
quotable_parts b h =
    let p = and_parts (not (is_control b) && not (b == 34)) (not (b == 92)) h in
    let q = and_parts (not (is_control b)) (not (b == 34)) p.0 in
    (not-true _ q.0, not-true _ q.1, not-true _ p.1)

-- what stands in quotes is read
pub past_quote-append : (inside rest : List ℕ) → InQuotes inside → past_quote false (inside ++ rest) ≡ past_quote false rest
past_quote-append _ rest quote_nothing = refl
past_quote-append _ rest (quote_plain b more q is) =
    let p = quotable_parts b q in
    cond-false _ _ _ p.0 ∙ cond-false _ _ _ p.2 ∙ cond-false _ _ _ p.1 ∙ past_quote-append more rest is
past_quote-append _ rest (quote_escaped b more c is) = cond-false _ _ _ c ∙ past_quote-append more rest is
