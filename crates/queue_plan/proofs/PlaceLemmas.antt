-- The parts of buckets are those of the definition.
use Rattle.std.proofs.Common.{◌≡◌, ℕ, zero, suc, ◌+◌, List, [], ◌∷◌, ◌++◌, Bool, true, false, cond, Option, Some, if◌then◌else◌, filter, filter_map, flat_map, length, refl, sym, ◌∙◌, ap, take, drop, slice_get, zip, append_assoc, append-nil, arith}
use Rattle.std.specs.Prelude.{map}
use Rattle.std.specs.List.{cons_option}
use Rattle.std.proofs.lemmas.List.{take-map}
use Rattle.mail_base.specs.Catalogs.{value_at}
use Rattle.mail_base.specs.declared.config.Config.{Config}
use Rattle.mail_base.specs.declared.draw.Draw.{Draw}
use Rattle.mail_base.specs.declared.message.Cut.{Cut}
use Rattle.queue_plan.specs.declared.heading.Heading.{Heading}
use Rattle.queue_plan.specs.inner.Buckets.{Buckets, gathered, part_at, parts_at, parts_in, places_from}
use Rattle.queue_plan.specs.Parts.{Placed, cut_of, heading_of, limit_of, parts_of, parts_under, portion_size, portions, portions_within, rows_of, same_heading}
use Rattle.queue_plan.specs.Rows.{firsts}

-- ---- the loop over headings

module _ {E : Type 0} (f : E → List Cut) (left : List E) (cuts all : List Cut) where
  -- the parts of one more
  pub one_more : (e : E) (next : List E) (new : List Cut) → left ≡ e ∷ next → new ≡ cuts ++ f e → cuts ++ flat_map f left ≡ all → new ++ flat_map f next ≡ all
  one_more e next new is now were =
      ap (λ q. q ++ flat_map f next) now ∙ append_assoc cuts (f e) (flat_map f next) ∙ ap (λ l. cuts ++ flat_map f l) (sym is) ∙ were

  -- none is left
  pub all_done : left ≡ [] → cuts ++ flat_map f left ≡ all → cuts ≡ all
  all_done is were = sym (append-nil cuts) ∙ ap (λ l. cuts ++ flat_map f l) (sym is) ∙ were

-- ---- rows at places

module _ {X Y : Type 0} (f : X → Option Y) where
  -- where each item gives one, so many are given
  pub given : (xs : List X) (ys : List Y) → map f xs ≡ map Some ys → filter_map f xs ≡ ys
  given [] [] e = refl
  given [] (y ∷ ys) e = absurd (cc e)
  given (x ∷ xs) [] e = absurd (cc e)
  given (x ∷ xs) (y ∷ ys) e =
      let head : f x ≡ Some y = cc in
      let tail : map f xs ≡ map Some ys = cc in
      (λ i. cons_option (head i) (given xs ys tail i))

  dropped : (n : ℕ) (xs : List X) (ys : List Y) → map f xs ≡ map Some ys → map f (drop n xs) ≡ map Some (drop n ys)
  dropped zero xs ys e = e
  dropped (suc n) [] [] e = refl
  dropped (suc n) [] (y ∷ ys) e = absurd (cc e)
  dropped (suc n) (x ∷ xs) [] e = absurd (cc e)
  dropped (suc n) (x ∷ xs) (y ∷ ys) e = let tail : map f xs ≡ map Some ys = cc in dropped n xs ys tail

  portions_given : (n size : ℕ) (xs : List X) (ys : List Y) → map f xs ≡ map Some ys → map (filter_map f) (portions_within n size xs) ≡ portions_within n size ys
  portions_given zero size xs ys e = refl
  portions_given (suc n) size [] [] e = refl
  portions_given (suc n) size [] (y ∷ ys) e = absurd (cc e)
  portions_given (suc n) size (x ∷ xs) [] e = absurd (cc e)
  portions_given (suc n) size (x ∷ xs) (y ∷ ys) e =
      let first = given (take size (x ∷ xs)) (take size (y ∷ ys)) (sym (take-map f size (x ∷ xs)) ∙ ap (take size) e ∙ take-map Some size (y ∷ ys)) in
      let rest = portions_given n size (drop size (x ∷ xs)) (drop size (y ∷ ys)) (dropped size (x ∷ xs) (y ∷ ys) e) in
      (λ i. first i ∷ rest i)

  pub as_long : (xs : List X) (ys : List Y) → map f xs ≡ map Some ys → length xs ≡ length ys
  as_long [] [] e = refl
  as_long [] (y ∷ ys) e = absurd (cc e)
  as_long (x ∷ xs) [] e = absurd (cc e)
  as_long (x ∷ xs) (y ∷ ys) e = let tail : map f xs ≡ map Some ys = cc in ap suc (as_long xs ys tail)

-- the places of a heading have its rows, in their order
rows_there : (heading : Heading) (get : ℕ → Option Draw) (n : ℕ) (rows : List Draw) (groups : List (List ℕ)) → ((k : ℕ) → get (n + k) ≡ slice_get rows k)
    → map get (places_from n heading (map heading_of (zip rows groups))) ≡ map Some (rows_of heading (zip rows groups))
rows_there heading get n [] groups at = refl
rows_there heading get n (row ∷ rows) [] at = refl
rows_there heading get n (row ∷ rows) (group ∷ groups) at =
    by (same_heading heading (heading_of (row, group))) (rows_there heading get (suc n) rows groups (λ k. ap get {x = suc n + k} {y = n + suc k} (omega arith) ∙ at (suc k)))
  where
    here : get n ≡ Some row
    here = ap get {x = n} {y = n + 0} (omega arith) ∙ at 0

    by : (c : Bool) → map get (places_from (suc n) heading (map heading_of (zip rows groups))) ≡ map Some (rows_of heading (zip rows groups))
        → map get (if c then n ∷ places_from (suc n) heading (map heading_of (zip rows groups)) else places_from (suc n) heading (map heading_of (zip rows groups)))
        ≡ map Some (map (λ (p : Placed). p.0) (cond c ((row, group) ∷ filter (λ (p : Placed). same_heading heading (heading_of p)) (zip rows groups)) (filter (λ (p : Placed). same_heading heading (heading_of p)) (zip rows groups))))
    by true rest = (λ i. here i ∷ rest i)
    by false rest = rest

module _ (config : Config) (rows : List Draw) (groups : List (List ℕ)) where
  abbrev placed : List Placed
  placed = zip rows groups

  abbrev all : List Heading
  all = map heading_of placed

  under : (heading : Heading) → parts_in config rows (heading, places_from 0 heading all) ≡ parts_under config placed heading
  under heading =
      let ps = places_from 0 heading all in
      let rs = rows_of heading placed in
      let limit = limit_of (value_at heading.group config.groups) in
      let there : map (slice_get rows) ps ≡ map Some rs = rows_there heading (slice_get rows) 0 rows groups (λ k. ap (slice_get rows) {x = 0 + k} {y = k} (omega arith)) in
      let long = as_long (slice_get rows) ps rs there in
      twice ps (portion_size limit (length ps)) ∙ ap (map (cut_of heading)) (
      ap (map (filter_map (slice_get rows))) (ap (λ n. portions_within n (portion_size limit n) ps) long)
      ∙ portions_given (slice_get rows) (length rs) (portion_size limit (length rs)) ps rs there
      )
    where
      twice_of : (ls : List (List ℕ)) → map (part_at heading rows) ls ≡ map (cut_of heading) (map (filter_map (slice_get rows)) ls)
      twice_of [] = refl
      twice_of (l ∷ ls) = ap (λ q. part_at heading rows l ∷ q) (twice_of ls)

      twice : (ps : List ℕ) (size : ℕ) → parts_at heading rows size ps ≡ map (cut_of heading) (map (filter_map (slice_get rows)) (portions size ps))
      twice ps size = twice_of (portions size ps)

  over : (hs : List Heading) → flat_map (parts_in config rows) (map (λ heading. (heading, places_from 0 heading all)) hs) ≡ flat_map (parts_under config placed) hs
  over [] = refl
  over (h ∷ hs) = (λ i. under h i ++ over hs i)

  -- the parts of the buckets of all rows
  pub parts_are : (buckets : Buckets) (cuts : List Cut) (hs : List Heading) → hs ≡ map heading_of (zip rows groups) → buckets ≡ gathered hs → cuts ≡ flat_map (parts_in config rows) buckets → cuts ≡ parts_of config rows groups
  parts_are buckets cuts hs heads are is =
      is ∙ ap (flat_map (parts_in config rows)) (are ∙ ap gathered heads) ∙ over (firsts same_heading all)
