-- The fields of a lookup from their front.
use Rattle.std.proofs.Common.{◌≡◌, ℕ, suc, ◌+◌, ◌<◌, ◌≤◌, List, [], ◌∷◌, ◌++◌, length, take, drop, length-drop, Bool, true, false, cond, not, ◌||◌, Option, Some, None, option_map, refl, sym, ◌∙◌, ap, arith}
use Rattle.std.specs.List.{list_any, prefix_len, slice_split, onto_first}
use Rattle.std.proofs.lemmas.List.{drop_more, drop-drop}
use Rattle.mail_base.specs.declared.rule.Piece.{Piece}
use Rattle.mail_base.specs.declared.rule.Step.TheVariants.{Lookup}
use Rattle.addr_tokens.specs.declared.lexeme.Lexeme.{Lexeme}
use Rattle.addr_tokens.specs.declared.lexeme.Lexeme.TheVariants.{Dollar}
use Rattle.cf_reader.specs.Sides.{put, each, is_dollar, pieces_of, key_and_args, fallback_of, lookup, lookup_of}
use Rattle.cf_reader.specs.inner.Making.{added, parts_behind, fallback_from}
use Rattle.cf_reader.proofs.RuleLemmas.{added_one}

abbrev is_at : Lexeme → Bool
is_at lexeme = is_dollar 64 lexeme

abbrev is_colon : Lexeme → Bool
is_colon lexeme = is_dollar 58 lexeme

-- how many lexemes stand before the first `$@`
abbrev pub before_at : List Lexeme → ℕ
before_at lexemes = prefix_len (λ lexeme. not (is_dollar 64 lexeme)) lexemes

-- how many lexemes stand before the first `$:`
abbrev pub before_colon : List Lexeme → ℕ
before_colon lexemes = prefix_len (λ lexeme. not (is_dollar 58 lexeme)) lexemes

one_more : (n : ℕ) → 1 + n ≡ suc n
one_more n = omega arith

-- the first part, and the others
split_case : (x : Lexeme) (xs : List Lexeme) (b : Bool) → slice_split is_at xs ≡ take (before_at xs) xs ∷ parts_behind (drop (before_at xs) xs)
    → (let n = cond (not b) (1 + before_at xs) 0 in cond b ([] ∷ slice_split is_at xs) (onto_first x (slice_split is_at xs)) ≡ take n (x ∷ xs) ∷ cond b (slice_split is_at xs) (parts_behind (drop n (x ∷ xs))))
split_case x xs true so = refl
split_case x xs false so =
    ap (onto_first x) so ∙ ap (λ (n : ℕ). take n (x ∷ xs) ∷ parts_behind (drop n (x ∷ xs))) (sym (one_more (before_at xs)))

behind_case : (x : Lexeme) (xs : List Lexeme) (b : Bool) → (let n = cond (not b) (1 + before_at xs) 0 in cond b (slice_split is_at xs) (parts_behind (drop n (x ∷ xs))) ≡ parts_behind (drop n (x ∷ xs)))
behind_case x xs true = refl
behind_case x xs false = refl

split_first : (xs : List Lexeme) → slice_split is_at xs ≡ take (before_at xs) xs ∷ parts_behind (drop (before_at xs) xs)
split_first [] = refl
split_first (x ∷ xs) =
    split_case x xs (is_at x) (split_first xs)
    ∙ ap (λ (parts : List (List Lexeme)). take (before_at (x ∷ xs)) (x ∷ xs) ∷ parts) (behind_case x xs (is_at x))

-- the fallback, from its sign on
fallback_case : (x : Lexeme) (xs : List Lexeme) (b : Bool)
    → cond (list_any is_colon xs) (option_map Some (pieces_of (drop (before_colon xs + 1) xs))) (Some None) ≡ fallback_from (drop (before_colon xs) xs)
    → (let n = cond (not b) (1 + before_colon xs) 0 in cond (b || list_any is_colon xs) (option_map Some (pieces_of (drop (n + 1) (x ∷ xs)))) (Some None) ≡ fallback_from (drop n (x ∷ xs)))
fallback_case x xs true so = refl
fallback_case x xs false so =
    let m = before_colon xs in
    let two : 1 + m + 1 ≡ suc (m + 1) = omega arith in
    ap (λ (k : ℕ). cond (list_any is_colon xs) (option_map Some (pieces_of (drop k (x ∷ xs)))) (Some None)) two ∙ so
    ∙ ap (λ (k : ℕ). fallback_from (drop k (x ∷ xs))) (sym (one_more m))

fallback_first : (xs : List Lexeme) → fallback_of xs ≡ fallback_from (drop (before_colon xs) xs)
fallback_first [] = refl
fallback_first (x ∷ xs) = fallback_case x xs (is_colon x) (fallback_first xs)

-- a lookup of a key, arguments and a fallback, each cut out by its place
module _ (name : List ℕ) (fields front : List Lexeme) (end size : ℕ) (ends : end ≡ before_colon fields) (is : front ≡ take end fields) (sized : size ≡ before_at front) where
  parts_are : key_and_args fields ≡ put (pieces_of (take size front)) (each pieces_of (parts_behind (drop size front)))
  parts_are =
      ap (λ (k : ℕ). each pieces_of (slice_split is_at (take k fields))) (sym ends) ∙ ap (λ (zs : List Lexeme). each pieces_of (slice_split is_at zs)) (sym is) ∙ ap (each pieces_of) (split_first front)
      ∙ ap (λ (k : ℕ). put (pieces_of (take k front)) (each pieces_of (parts_behind (drop k front)))) (sym sized)

  fallback_is : fallback_of fields ≡ fallback_from (drop end fields)
  fallback_is = fallback_first fields ∙ ap (λ (k : ℕ). fallback_from (drop k fields)) (sym ends)

  lookup_is : lookup_of name fields ≡ lookup name (put (pieces_of (take size front)) (each pieces_of (parts_behind (drop size front)))) (fallback_from (drop end fields))
  lookup_is = ap (λ (parts : Option (List (List Piece))). lookup name parts (fallback_of fields)) parts_are ∙ ap (lookup name (put (pieces_of (take size front)) (each pieces_of (parts_behind (drop size front))))) fallback_is

  -- where key, arguments and fallback are made of their places, the look-up is made of them
  pub lookup_made : (key : List Piece) (args : List (List Piece)) (fallback : Option (List Piece)) → pieces_of (take size front) ≡ Some key → each pieces_of (parts_behind (drop size front)) ≡ Some args → fallback_from (drop end fields) ≡ Some fallback
      → lookup_of name fields ≡ Some (Lookup (record { name = name; key = key; args = args; fallback = fallback }))
  lookup_made key args fallback k a f =
      lookup_is ∙ ap (λ (o : Option (List Piece)). lookup name (put o (each pieces_of (parts_behind (drop size front)))) (fallback_from (drop end fields))) k
      ∙ ap (λ (o : Option (List (List Piece))). lookup name (put (Some key) o) (fallback_from (drop end fields))) a ∙ ap (lookup name (Some (key ∷ args))) f

  put_none : {Y : Type 0} (o : Option Y) → put o None ≡ None
  put_none None = refl
  put_none (Some y) = refl

  no_fallback : (parts : Option (List (List Piece))) → lookup name parts None ≡ None
  no_fallback None = refl
  no_fallback (Some []) = refl
  no_fallback (Some (key ∷ args)) = refl

  -- where the key's place makes no pieces, there is no look-up
  pub none_by_key : pieces_of (take size front) ≡ None → lookup_of name fields ≡ None
  none_by_key k = lookup_is ∙ ap (λ (o : Option (List Piece)). lookup name (put o (each pieces_of (parts_behind (drop size front)))) (fallback_from (drop end fields))) k

  -- where an argument's place makes no pieces, there is no look-up
  pub none_by_args : each pieces_of (parts_behind (drop size front)) ≡ None → lookup_of name fields ≡ None
  none_by_args a =
      lookup_is ∙ ap (λ (o : Option (List (List Piece))). lookup name (put (pieces_of (take size front)) o) (fallback_from (drop end fields))) a
      ∙ ap (λ (o : Option (List (List Piece))). lookup name o (fallback_from (drop end fields))) (put_none (pieces_of (take size front)))

  -- where the fallback's place makes no pieces, there is no look-up
  pub none_by_fallback : fallback_from (drop end fields) ≡ None → lookup_of name fields ≡ None
  none_by_fallback f = lookup_is ∙ ap (lookup name (put (pieces_of (take size front)) (each pieces_of (parts_behind (drop size front))))) f ∙ no_fallback (put (pieces_of (take size front)) (each pieces_of (parts_behind (drop size front))))

-- ---- the loop over arguments

module _ (fields rest : List Lexeme) (place size : ℕ) (low : place < length fields) (is : rest ≡ drop (place + 1) fields) (sized : size ≡ before_at rest) where
  args_here : each pieces_of (parts_behind (drop place fields)) ≡ put (pieces_of (take size rest)) (each pieces_of (parts_behind (drop (place + (size + 1)) fields)))
  args_here =
      let behind : drop size (drop (place + 1) fields) ≡ drop (place + (size + 1)) fields = drop-drop size (place + 1) fields ∙ (let e : place + 1 + size ≡ place + (size + 1) = omega arith in ap (λ (k : ℕ). drop k fields) e) in
      ap (λ (zs : List Lexeme). each pieces_of (parts_behind zs)) (drop_more fields place (Dollar 0) low)
      ∙ ap (λ (zs : List Lexeme). each pieces_of (slice_split is_at zs)) (sym is) ∙ ap (each pieces_of) (split_first rest)
      ∙ ap (λ (k : ℕ). put (pieces_of (take k rest)) (each pieces_of (parts_behind (drop k rest)))) (sym sized)
      ∙ ap (λ (zs : List Lexeme). put (pieces_of (take size rest)) (each pieces_of (parts_behind zs))) (ap (drop size) is ∙ behind)

  -- an argument that is made is one more so far, and the others are behind it
  pub args_go_on : (part : List Piece) (args : List (List Piece)) (all : Option (List (List Piece))) → pieces_of (take size rest) ≡ Some part → added args (each pieces_of (parts_behind (drop place fields))) ≡ all
      → added (args ++ part ∷ []) (each pieces_of (parts_behind (drop (place + (size + 1)) fields))) ≡ all
  args_go_on part args all gives so_far =
      sym (added_one args part (each pieces_of (parts_behind (drop (place + (size + 1)) fields))))
      ∙ ap (λ (o : Option (List Piece)). added args (put o (each pieces_of (parts_behind (drop (place + (size + 1)) fields))))) (sym gives) ∙ ap (added args) (sym args_here) ∙ so_far

  -- an argument that isn't made leaves no arguments at all
  pub args_stop : (args : List (List Piece)) (all : Option (List (List Piece))) → added args (each pieces_of (parts_behind (drop place fields))) ≡ all → pieces_of (take size rest) ≡ None → all ≡ None
  args_stop args all so_far none = sym so_far ∙ ap (added args) (args_here ∙ ap (λ (o : Option (List Piece)). put o (each pieces_of (parts_behind (drop (place + (size + 1)) fields)))) none)

  -- the place behind an argument and its sign is within the fields
  pub args_within : size ≤ length rest → place + (size + 1) ≤ length fields
  args_within fits = let e = ap length is in omega (arith, e, length-drop (place + 1) fields)
