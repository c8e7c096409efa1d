-- The parts of a heading, by places of rows.
use Rattle.std.proofs.Common.{◌≡◌, ℕ, zero, suc, ◌+◌, ◌<◌, ◌≤◌, List, [], ◌∷◌, ◌++◌, Option, None, Some, ◌⊎◌, filter_map, length, option_to_list, refl, sym, ◌∙◌, ap, take, drop, get_or, slice_get, zip, append-nil, append_assoc, min, inl, inr, arith}
use Rattle.std.specs.Prelude.{map}
use Rattle.std.proofs.lemmas.List.{length-drop, length-take, take-append-drop, take_more}
use Rattle.std.proofs.Math.Seq.{drop-append_seam, take-append_seam}
use Rattle.std.proofs.lemmas.List.Elements.{filter_map-append}
use Rattle.mail_base.specs.declared.draw.Draw.{Draw}
use Rattle.mail_base.specs.declared.message.Cut.{Cut}
use Rattle.queue_plan.specs.declared.heading.Heading.{Heading}
use Rattle.queue_plan.specs.inner.Buckets.{part_at, parts_at}
use Rattle.queue_plan.specs.Parts.{heading_of, portions, portions_within}

-- the row at one place more
pub row_more : (rows : List Draw) (places : List ℕ) (i : ℕ) (chosen new : List Draw) (o : Option Draw) → i < length places → chosen ≡ filter_map (slice_get rows) (take i places) → o ≡ slice_get rows (get_or places i 0) → new ≡ chosen ++ option_to_list o → new ≡ filter_map (slice_get rows) (take (i + 1) places)
row_more rows places i chosen new o below was is now =
    now
    ∙ (λ j. was j ++ option_to_list (is j))
    ∙ ap (λ q. filter_map (slice_get rows) (take i places) ++ q) (one (slice_get rows (get_or places i 0)))
    ∙ sym (filter_map-append (slice_get rows) (take i places) (get_or places i 0 ∷ []))
    ∙ ap (filter_map (slice_get rows)) (sym (take_more places i 0 below))
  where
    one : (q : Option Draw) → option_to_list q ≡ filter_map (λ (x : Option Draw). x) (q ∷ [])
    one None = refl
    one (Some x) = refl

-- the headings so far are all, where one of two lists has ended
pub zip_ended : (xs : List Draw) (ys : List (List ℕ)) (so_far all : List Heading) → (length xs ≡ 0) ⊎ (length ys ≡ 0) → so_far ++ map heading_of (zip xs ys) ≡ all → so_far ≡ all
zip_ended [] ys so_far all over is = sym (append-nil so_far) ∙ is
zip_ended (x ∷ xs) [] so_far all over is = sym (append-nil so_far) ∙ is
zip_ended (x ∷ xs) (y ∷ ys) so_far all (inl e) is = absurd (cc e)
zip_ended (x ∷ xs) (y ∷ ys) so_far all (inr e) is = absurd (cc e)

-- ---- portions

module _ {X : Type 0} (size : ℕ) (some : 0 < size) where
  -- more than there are items make no difference
  enough : (n m : ℕ) (xs : List X) → length xs ≤ n → length xs ≤ m → portions_within n size xs ≡ portions_within m size xs
  enough zero zero xs p q = refl
  enough zero (suc m) [] p q = refl
  enough zero (suc m) (x ∷ xs) p q = absurd (omega (arith, p))
  enough (suc n) zero [] p q = refl
  enough (suc n) zero (x ∷ xs) p q = absurd (omega (arith, q))
  enough (suc n) (suc m) [] p q = refl
  enough (suc n) (suc m) (x ∷ xs) p q =
      let less = length-drop size (x ∷ xs) in
      ap (λ ps. take size (x ∷ xs) ∷ ps) (enough n m (drop size (x ∷ xs)) (omega (arith, less, p, some)) (omega (arith, less, q, some)))

  first_portion : (xs : List X) → 0 < length xs → portions size xs ≡ take size xs ∷ portions size (drop size xs)
  first_portion [] more = absurd (omega (arith, more))
  first_portion (x ∷ xs) more =
      let less = length-drop size (x ∷ xs) in
      ap (λ ps. take size (x ∷ xs) ∷ ps) (enough (length xs) (length (drop size (x ∷ xs))) (drop size (x ∷ xs)) (omega (arith, less, some)) (omega arith))

  -- a chunk that comes off the front is the first portion
  pub portion_off : (xs x ys : List X) → xs ≡ x ++ ys → length x ≡ min size (length xs) → 0 < length xs → portions size xs ≡ x ∷ portions size ys
  portion_off xs x ys is long more = first_portion xs more ∙ (λ i. front i ∷ portions size (back i))
    where
      same : length (take size xs) ≡ length x
      same = length-take size xs ∙ sym long

      front : take size xs ≡ x
      front =
          sym (take-append_seam (take size xs) (drop size xs))
          ∙ ap (take (length (take size xs))) (take-append-drop size xs)
          ∙ ap (λ n. take n xs) same ∙ ap (take (length x)) is ∙ take-append_seam x ys

      back : drop size xs ≡ ys
      back =
          sym (drop-append_seam (take size xs) (drop size xs))
          ∙ ap (drop (length (take size xs))) (take-append-drop size xs)
          ∙ ap (λ n. drop n xs) same ∙ ap (drop (length x)) is ∙ drop-append_seam x ys

-- ---- the loop over the portions of a heading

module _ (heading : Heading) (rows : List Draw) (size : ℕ) (some : 0 < size) where
  -- one part more
  pub next_part : (places place rest : List ℕ) (cuts new all : List Cut) (cut : Cut) → places ≡ place ++ rest → length place ≡ min size (length places) → 0 < length places → cuts ++ parts_at heading rows size places ≡ all → cut ≡ part_at heading rows place → new ≡ cuts ++ cut ∷ [] → new ++ parts_at heading rows size rest ≡ all
  next_part places place rest cuts new all cut is long more were this now =
      ap (λ q. q ++ parts_at heading rows size rest) now
      ∙ append_assoc cuts (cut ∷ []) (parts_at heading rows size rest)
      ∙ ap (λ x. cuts ++ x ∷ parts_at heading rows size rest) this
      ∙ ap (λ ps. cuts ++ map (part_at heading rows) ps) (sym (portion_off size some places place rest is long more))
      ∙ were

  -- none is left
  pub no_part : (places : List ℕ) (cuts all : List Cut) → length places ≡ 0 → cuts ++ parts_at heading rows size places ≡ all → cuts ≡ all
  no_part [] cuts all over is = sym (append-nil cuts) ∙ is
  no_part (x ∷ xs) cuts all over is = absurd (cc over)
