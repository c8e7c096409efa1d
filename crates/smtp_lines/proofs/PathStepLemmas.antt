-- Where a path ends: one byte of a text, as its end is computed.
use Rattle.std.proofs.Common.{◌≡◌, ℕ, zero, suc, ◌+◌, ◌<◌, ◌≤◌, List, [], ◌∷◌, length, drop, get_or, Option, Some, None, option_map, refl, sym, ap, ◌∙◌, arith}
use Rattle.std.specs.Prelude.{option_and_then}
use Rattle.std.proofs.lemmas.Bool.{cond-true, cond-false, eq-eqb, ne_eqb}
use Rattle.std.proofs.lemmas.List.{drop_all, drop-drop, drop_more}
use Rattle.smtp_lines.specs.PathEnds.{quote_length, path_end}
use Rattle.smtp_lines.proofs.PathLemmas.{length_plain, length_close, length_two}

-- a place that is counted from a place
pub moved : ℕ → Option ℕ → Option ℕ
moved i None = None
moved i (Some n) = Some (i + n)

-- a place that is moved by nothing stays
pub moved_zero : (o : Option ℕ) → moved 0 o ≡ o
unfolding moved
moved_zero None = refl
moved_zero (Some n) = let e : 0 + n ≡ n = omega arith in ap (λ m. Some m) e

moved_suc : (i : ℕ) (o : Option ℕ) → moved i (option_map suc o) ≡ moved (i + 1) o
unfolding moved
moved_suc i None = refl
moved_suc i (Some n) = let e : i + suc n ≡ i + 1 + n = omega arith in ap (λ m. Some m) e

moved_two : (i : ℕ) (o : Option ℕ) → moved i (option_map (λ n. n + 2) o) ≡ moved (i + 2) o
unfolding moved
moved_two i None = refl
moved_two i (Some n) = let e : i + (n + 2) ≡ i + 2 + n = omega arith in ap (λ m. Some m) e

moved_more : (i n : ℕ) (o : Option ℕ) → moved i (moved n o) ≡ moved (i + n) o
unfolding moved
moved_more i n None = refl
moved_more i n (Some m) = let e : i + (n + m) ≡ i + n + m = omega arith in ap (λ k. Some k) e

suc_moved : (n : ℕ) (o : Option ℕ) → option_map suc (moved n o) ≡ moved (suc n) o
unfolding moved
suc_moved n None = refl
suc_moved n (Some m) = let e : suc (n + m) ≡ suc n + m = omega arith in ap (λ k. Some k) e

-- what is skipped is dropped
path_dropped : (text : List ℕ) (n : ℕ) → n ≤ length text → path_end text n ≡ moved n (path_end (drop n text) 0)
path_dropped text zero within = sym (moved_zero (path_end text 0))
path_dropped [] (suc n) within = absurd (omega arith)
path_dropped (b ∷ bs) (suc n) within =
    let less : n ≤ length bs = omega arith in
    ap (option_map suc) (path_dropped bs n less) ∙ suc_moved n (path_end (drop n bs) 0)

-- behind the end of a text no path ends
pub path_over : (text : List ℕ) (i : ℕ) → length text ≤ i → moved i (path_end (drop i text) 0) ≡ None
unfolding moved
path_over text i past = ap (λ t. moved i (path_end t 0)) (drop_all i text past)

-- behind the end of a text no quoted string ends
pub quote_over : (text : List ℕ) (i : ℕ) → length text ≤ i → moved i (quote_length (drop i text)) ≡ None
unfolding moved
quote_over text i past = ap (λ t. moved i (quote_length t)) (drop_all i text past)

module _ (text : List ℕ) (i : ℕ) (within : i < length text) where
  abbrev b : ℕ
  b = get_or text i 0

  abbrev after : List ℕ
  after = drop (i + 1) text

  path_from : moved i (path_end (drop i text) 0) ≡ moved i (path_end (b ∷ after) 0)
  path_from = ap (λ t. moved i (path_end t 0)) (drop_more text i 0 within)

  quote_from : moved i (quote_length (drop i text)) ≡ moved i (quote_length (b ∷ after))
  quote_from = ap (λ t. moved i (quote_length t)) (drop_more text i 0 within)

  -- at a > the path ends
  pub path_hit : get_or text i 0 ≡ 62 → moved i (path_end (drop i text) 0) ≡ Some i
  unfolding moved
  path_hit is = let e : i + 0 ≡ i = omega arith in path_from ∙ ap (moved i) (cond-true _ _ _ (eq-eqb _ _ is)) ∙ ap (λ m. Some m) e

  -- a path's end is looked for behind a plain byte
  pub path_step : (get_or text i 0 ≡ 62 → ⊥) → (get_or text i 0 ≡ 34 → ⊥) → moved i (path_end (drop i text) 0) ≡ moved (i + 1) (path_end (drop (i + 1) text) 0)
  path_step unended plain = path_from ∙ ap (moved i) (cond-false _ _ _ (ne_eqb _ _ unended) ∙ cond-false _ _ _ (ne_eqb _ _ plain)) ∙ moved_suc i (path_end after 0)

  path_begun : (o : Option ℕ) → (get_or text i 0 ≡ 62 → ⊥) → get_or text i 0 ≡ 34 → quote_length after ≡ o
      → moved i (path_end (drop i text) 0) ≡ moved (i + 1) (option_and_then (λ n. path_end after n) o)
  path_begun o unended is e =
      path_from ∙ ap (moved i) (cond-false _ _ _ (ne_eqb _ _ unended) ∙ cond-true _ _ _ (eq-eqb _ _ is) ∙ ap (λ o. option_map suc (option_and_then (λ n. path_end after n) o)) e)
      ∙ moved_suc i (option_and_then (λ n. path_end after n) o)

  -- a path's end is looked for behind a quoted string
  pub path_quote : (n : ℕ) → (get_or text i 0 ≡ 62 → ⊥) → get_or text i 0 ≡ 34 → Some n ≡ quote_length (drop (i + 1) text) → n ≤ length (drop (i + 1) text)
      → moved i (path_end (drop i text) 0) ≡ moved (i + 1 + n) (path_end (drop (i + 1 + n) text) 0)
  path_quote n unended is e less =
      path_begun (Some n) unended is (sym e) ∙ ap (moved (i + 1)) (path_dropped after n less) ∙ moved_more (i + 1) n (path_end (drop n after) 0)
      ∙ ap (λ t. moved (i + 1 + n) (path_end t 0)) (drop-drop n (i + 1) text)

  -- behind a quoted string that doesn't end no path ends
  pub path_open : (get_or text i 0 ≡ 62 → ⊥) → get_or text i 0 ≡ 34 → None ≡ quote_length (drop (i + 1) text) → moved i (path_end (drop i text) 0) ≡ None
  unfolding moved
  path_open unended is e = path_begun None unended is (sym e)

  -- at a double quote the quoted string ends
  pub quote_hit : get_or text i 0 ≡ 34 → moved i (quote_length (drop i text)) ≡ Some (i + 1)
  unfolding moved
  quote_hit is = quote_from ∙ ap (moved i) (length_close b after (eq-eqb _ _ is))

  -- a quoted string's end is looked for behind a plain byte
  pub quote_step : (get_or text i 0 ≡ 34 → ⊥) → (get_or text i 0 ≡ 92 → ⊥) → moved i (quote_length (drop i text)) ≡ moved (i + 1) (quote_length (drop (i + 1) text))
  quote_step unclosed plain = quote_from ∙ ap (moved i) (length_plain b after (ne_eqb _ _ unclosed) (ne_eqb _ _ plain)) ∙ moved_suc i (quote_length after)

  -- a quoted string's end is looked for behind a backslash and the byte that it quotes
  pub quote_skip : (get_or text i 0 ≡ 34 → ⊥) → get_or text i 0 ≡ 92 → moved i (quote_length (drop i text)) ≡ moved (i + 2) (quote_length (drop (i + 2) text))
  quote_skip unclosed is =
      let e : i + 1 + 1 ≡ i + 2 = omega arith in
      quote_from ∙ ap (moved i) (length_two b after (ne_eqb _ _ unclosed) (eq-eqb _ _ is)) ∙ moved_two i (quote_length (drop 1 after))
      ∙ ap (λ t. moved (i + 2) (quote_length t)) (drop-drop 1 (i + 1) text ∙ ap (λ k. drop k text) e)
