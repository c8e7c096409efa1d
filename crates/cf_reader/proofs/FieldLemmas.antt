-- Fields by the first construct of their text.
use Rattle.std.proofs.Common.{◌≡◌, ◌≢◌, ℕ, List, [], ◌∷◌, ◌++◌, Bool, true, false, refl, ap, sym, ◌∙◌, append_assoc}
use Rattle.std.specs.Prelude.{◌==◌, ◌&&◌, ◌||◌, not, if◌then◌else◌}
use Rattle.std.proofs.lemmas.Bool.{cond-false, ne_eqb}
use Rattle.std.proofs.lemmas.List.{append-nil}
use Rattle.cf_reader.specs.declared.fields.Stand.{Stand}
use Rattle.cf_reader.specs.Fields.{InQuotes, quote_nothing, quote_plain, quote_escaped, IsQuotable, behind, cut_from, escape, outside, plain, plain_from, said}

-- where a byte in quotes stands
abbrev inside_quotes : Stand
inside_quotes = record { quoted = true; escaped = false }

-- a byte that neither quotes nor escapes leaves where one stands
stays : (quoted : Bool) (b : ℕ) → IsQuotable b → behind (record { quoted = quoted; escaped = false }) b ≡ record { quoted = quoted; escaped = false }
stays quoted b is = cond-false _ _ _ (ne_eqb b 92 is.no_backslash) ∙ cond-false _ _ _ (ne_eqb b 34 is.no_quote)

-- and says itself
says : (quoted : Bool) (b : ℕ) → IsQuotable b → said (record { quoted = quoted; escaped = false }) b ≡ b ∷ []
says quoted b is = cond-false _ _ _ (ap (λ x. x || (b == 34)) (ne_eqb b 92 is.no_backslash) ∙ ne_eqb b 34 is.no_quote)

-- ---- cuttings

pub cut_byte : (piece text : List ℕ) (b : ℕ) → b ≢ 44 → IsQuotable b → cut_from outside piece (b ∷ text) ≡ cut_from outside (piece ++ b ∷ []) text
cut_byte piece text b no_comma is =
    cond-false _ _ _ (ap (λ x. x && (not outside.quoted && not outside.escaped)) (ne_eqb b 44 no_comma))
    ∙ ap (λ (s : Stand). cut_from s (piece ++ b ∷ []) text) (stays false b is)

pub cut_escaped : (piece text : List ℕ) (b : ℕ) → cut_from outside piece (92 ∷ b ∷ text) ≡ cut_from outside (piece ++ 92 ∷ b ∷ []) text
cut_escaped piece text b =
    cond-false _ _ _ (no_end (b == 44))
    ∙ ap (λ (p : List ℕ). cut_from outside p text) (append_assoc piece (92 ∷ []) (b ∷ []))
  where
    no_end : (c : Bool) → (c && false) ≡ false
    no_end true = refl
    no_end false = refl

-- within quotes no byte ends a piece
within : (c : Bool) → (c && false) ≡ false
within true = refl
within false = refl

-- a stretch in quotes is taken into the piece
pub cut_inside : (piece inside text : List ℕ) → InQuotes inside → cut_from inside_quotes piece (inside ++ text) ≡ cut_from inside_quotes (piece ++ inside) text
cut_inside piece _ text quote_nothing = ap (λ (p : List ℕ). cut_from inside_quotes p text) (sym (append-nil piece))
cut_inside piece _ text (quote_plain b more is rest) =
    cond-false _ _ _ (within (b == 44))
    ∙ ap (λ (s : Stand). cut_from s (piece ++ b ∷ []) (more ++ text)) (stays true b is)
    ∙ cut_inside (piece ++ b ∷ []) more text rest
    ∙ ap (λ (p : List ℕ). cut_from inside_quotes p text) (append_assoc piece (b ∷ []) more)
cut_inside piece _ text (quote_escaped b more rest) =
    cond-false _ _ _ (within (b == 44))
    ∙ cut_inside ((piece ++ 92 ∷ []) ++ b ∷ []) more text rest
    ∙ ap (λ (p : List ℕ). cut_from inside_quotes p text) (append_assoc (piece ++ 92 ∷ []) (b ∷ []) more ∙ append_assoc piece (92 ∷ []) (b ∷ more))

pub cut_quoted : (piece inside text : List ℕ) → InQuotes inside → cut_from outside piece (34 ∷ (inside ++ 34 ∷ text)) ≡ cut_from outside (piece ++ 34 ∷ (inside ++ 34 ∷ [])) text
cut_quoted piece inside text is =
    cut_inside (piece ++ 34 ∷ []) inside (34 ∷ text) is
    ∙ ap (λ (p : List ℕ). cut_from outside p text) (append_assoc (piece ++ 34 ∷ []) inside (34 ∷ []) ∙ append_assoc piece (34 ∷ []) (inside ++ 34 ∷ []))

pub cut_unclosed : (piece inside : List ℕ) → InQuotes inside → cut_from outside piece (34 ∷ inside) ≡ (piece ++ 34 ∷ inside) ∷ []
cut_unclosed piece inside is =
    ap (cut_from inside_quotes (piece ++ 34 ∷ [])) (sym (append-nil inside))
    ∙ cut_inside (piece ++ 34 ∷ []) inside [] is
    ∙ ap (λ (p : List ℕ). p ∷ []) (append_assoc piece (34 ∷ []) inside)

pub cut_unclosed_backslash : (piece inside : List ℕ) → InQuotes inside → cut_from outside piece (34 ∷ (inside ++ 92 ∷ [])) ≡ (piece ++ 34 ∷ (inside ++ 92 ∷ [])) ∷ []
cut_unclosed_backslash piece inside is =
    cut_inside (piece ++ 34 ∷ []) inside (92 ∷ []) is
    ∙ ap (λ (p : List ℕ). p ∷ []) (append_assoc (piece ++ 34 ∷ []) inside (92 ∷ []) ∙ append_assoc piece (34 ∷ []) (inside ++ 92 ∷ []))

-- ---- values

-- what bytes say is the same in quotes and outside of them
same_said : (quoted escaped : Bool) (text : List ℕ) → plain_from (record { quoted = quoted; escaped = escaped }) text ≡ plain_from (record { quoted = false; escaped = escaped }) text
same_said quoted escaped [] = refl
same_said quoted true (b ∷ text) = ap (λ t. escape b ∷ t) (same_said quoted false text)
same_said quoted false (b ∷ text) = ap (λ t. said outside b ++ t) (step (λ q e. same_said q e text) (b == 92) (b == 34))
  where
    step : ((q e : Bool) → plain_from (record { quoted = q; escaped = e }) text ≡ plain_from (record { quoted = false; escaped = e }) text) → (slash quote : Bool)
        → plain_from (if slash then record { quoted = quoted; escaped = true } else if quote then record { quoted = not quoted; escaped = false } else record { quoted = quoted; escaped = false }) text
        ≡ plain_from (if slash then record { quoted = false; escaped = true } else if quote then record { quoted = true; escaped = false } else record { quoted = false; escaped = false }) text
    step go true quote = go quoted true
    step go false true = go (not quoted) false ∙ sym (go true false)
    step go false false = go quoted false

pub plain_byte : (b : ℕ) (text : List ℕ) → IsQuotable b → plain (b ∷ text) ≡ b ∷ plain text
plain_byte b text is = ap (λ s. s ++ plain_from (behind outside b) text) (says false b is) ∙ ap (λ (s : Stand). b ∷ plain_from s text) (stays false b is)

pub plain_quote : (text : List ℕ) → plain (34 ∷ text) ≡ plain text
plain_quote text = same_said true false text
