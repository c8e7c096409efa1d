-- Where the rows of a heading are, and how many a part has.
use Rattle.std.proofs.Common.{◌≡◌, ℕ, zero, suc, ◌<◌, ◌≤◌, List, [], ◌∷◌, ◌++◌, Bool, true, false, ◌||◌, cond, filter, flat_map, length, refl, sym, ◌∙◌, ap, subst, take, drop, zip, append-nil, arith}
use Rattle.std.specs.Prelude.{map, All}
use Rattle.std.specs.List.{list_any}
use Rattle.std.proofs.lemmas.List.{length-drop, length-take, take-append-drop}
use Rattle.std.proofs.lemmas.List.Elements.{All-append, All-cons, All-map, All-nil, All-weaker, filter-append}
use Rattle.std.proofs.lemmas.Grind.{flat_map-append}
use Rattle.mail_base.specs.Catalogs.{value_at}
use Rattle.mail_base.specs.declared.config.Config.{Config}
use Rattle.mail_base.specs.declared.draw.Draw.{Draw}
use Rattle.mail_base.specs.declared.message.Cut.{Cut}
use Rattle.queue_plan.specs.declared.heading.Heading.{Heading}
use Rattle.queue_plan.specs.Parts.{IsWithin, Placed, cut_of, heading_of, headings, is_under, limit_of, parts_of, parts_under, portion_size, portions_within, rows_of, same_heading, within_limit}
use Rattle.queue_plan.specs.Rows.{AreApart}
use Rattle.queue_plan.proofs.BucketLemmas.{headings_equiv, one_heading}
use Rattle.queue_plan.proofs.FirstLemmas.{any_firsts, apart_firsts}
use Rattle.queue_plan.proofs.FitLemmas.{some_size}

-- ---- a list in portions is the list again

together : {X : Type 0} (n size : ℕ) (xs : List X) → 0 < size → length xs ≤ n → flat_map (λ (ys : List X). ys) (portions_within n size xs) ≡ xs
together zero size [] some few = refl
together zero size (x ∷ xs) some few = absurd (omega (arith, few))
together (suc n) size [] some few = refl
together (suc n) size (x ∷ xs) some few =
    let less = length-drop size (x ∷ xs) in
    ap (λ q. take size (x ∷ xs) ++ q) (together n size (drop size (x ∷ xs)) some (omega (arith, less, some, few))) ∙ take-append-drop size (x ∷ xs)

rows_in : (heading : Heading) (ls : List (List Draw)) → flat_map (λ (cut : Cut). cut.rows) (map (cut_of heading) ls) ≡ flat_map (λ (ys : List Draw). ys) ls
rows_in heading [] = refl
rows_in heading (l ∷ ls) = ap (λ q. l ++ q) (rows_in heading ls)

-- ---- parts of a heading among others

module _ (heading : Heading) where
  abbrev rows_under : List Cut → List Draw
  rows_under cuts = flat_map (λ (cut : Cut). cut.rows) (filter (is_under heading) cuts)

  under_all : (other : Heading) → same_heading heading other ≡ true → (ls : List (List Draw)) → filter (is_under heading) (map (cut_of other) ls) ≡ map (cut_of other) ls
  under_all other e [] = refl
  under_all other e (l ∷ ls) = ap (λ c. cond c (cut_of other l ∷ filter (is_under heading) (map (cut_of other) ls)) (filter (is_under heading) (map (cut_of other) ls))) e ∙ ap (λ q. cut_of other l ∷ q) (under_all other e ls)

  under_none : (other : Heading) → same_heading heading other ≡ false → (ls : List (List Draw)) → filter (is_under heading) (map (cut_of other) ls) ≡ []
  under_none other e [] = refl
  under_none other e (l ∷ ls) = ap (λ c. cond c (cut_of other l ∷ filter (is_under heading) (map (cut_of other) ls)) (filter (is_under heading) (map (cut_of other) ls))) e ∙ under_none other e ls

  no_rows : (placed : List Placed) → list_any (same_heading heading) (map heading_of placed) ≡ false → rows_of heading placed ≡ []
  no_rows [] none = refl
  no_rows (p ∷ placed) none = by (same_heading heading (heading_of p)) none (no_rows placed)
    where
      by : (c : Bool) → (c || list_any (same_heading heading) (map heading_of placed)) ≡ false → (list_any (same_heading heading) (map heading_of placed) ≡ false → rows_of heading placed ≡ []) → map (λ (q : Placed). q.0) (cond c (p ∷ filter (λ (q : Placed). same_heading heading (heading_of q)) placed) (filter (λ (q : Placed). same_heading heading (heading_of q)) placed)) ≡ []
      by true e rest = absurd (cc e)
      by false e rest = rest e

  module _ (config : Config) (placed : List Placed) where
    joins : (xs ys : List Cut) → rows_under (xs ++ ys) ≡ rows_under xs ++ rows_under ys
    joins xs ys = ap (flat_map (λ (cut : Cut). cut.rows)) (filter-append (is_under heading) xs ys) ∙ flat_map-append (λ (cut : Cut). cut.rows) (filter (is_under heading) xs) (filter (is_under heading) ys)

    own : (other : Heading) → same_heading heading other ≡ true → rows_under (parts_under config placed other) ≡ rows_of heading placed
    own other e =
        let rows = rows_of other placed in
        let limit = limit_of (value_at other.group config.groups) in
        ap (flat_map (λ (cut : Cut). cut.rows)) (under_all other e (within_limit limit rows))
        ∙ rows_in other (within_limit limit rows)
        ∙ together (length rows) (portion_size limit (length rows)) rows (some_size limit (length rows)) (omega arith)
        ∙ ap (λ h. rows_of h placed) (sym (one_heading heading other e))

    none : (other : Heading) → same_heading heading other ≡ false → rows_under (parts_under config placed other) ≡ []
    none other e = ap (flat_map (λ (cut : Cut). cut.rows)) (under_none other e (within_limit (limit_of (value_at other.group config.groups)) (rows_of other placed)))

    absent : (hs : List Heading) → list_any (same_heading heading) hs ≡ false → rows_under (flat_map (parts_under config placed) hs) ≡ []
    absent [] e = refl
    absent (h ∷ hs) e = by (same_heading heading h) refl e (absent hs)
      where
        by : (c : Bool) → same_heading heading h ≡ c → (c || list_any (same_heading heading) hs) ≡ false → (list_any (same_heading heading) hs ≡ false → rows_under (flat_map (parts_under config placed) hs) ≡ []) → rows_under (flat_map (parts_under config placed) (h ∷ hs)) ≡ []
        by true i e rest = absurd (cc e)
        by false i e rest = joins (parts_under config placed h) (flat_map (parts_under config placed) hs) ∙ (λ k. none h i k ++ rest e k)

    present : (hs : List Heading) → AreApart same_heading hs → list_any (same_heading heading) hs ≡ true → rows_under (flat_map (parts_under config placed) hs) ≡ rows_of heading placed
    present [] apart e = absurd (cc e)
    present (h ∷ hs) apart e = by (same_heading heading h) refl e (present hs apart.1)
      where
        by : (c : Bool) → same_heading heading h ≡ c → (c || list_any (same_heading heading) hs) ≡ true → (list_any (same_heading heading) hs ≡ true → rows_under (flat_map (parts_under config placed) hs) ≡ rows_of heading placed) → rows_under (flat_map (parts_under config placed) (h ∷ hs)) ≡ rows_of heading placed
        by true i e rest =
            let gone : list_any (same_heading heading) hs ≡ false = subst (λ (x : Heading). list_any (same_heading x) hs ≡ false) (sym (one_heading heading h i)) apart.0 in
            joins (parts_under config placed h) (flat_map (parts_under config placed) hs)
            ∙ (λ k. own h i k ++ absent hs gone k) ∙ append-nil (rows_of heading placed)
        by false i e rest = joins (parts_under config placed h) (flat_map (parts_under config placed) hs) ∙ (λ k. none h i k ++ rest e k)

    by_met : (c : Bool) → list_any (same_heading heading) (map heading_of placed) ≡ c → rows_under (flat_map (parts_under config placed) (headings placed)) ≡ rows_of heading placed
    by_met true e = present (headings placed) (apart_firsts same_heading headings_equiv (map heading_of placed)) (any_firsts same_heading headings_equiv heading (map heading_of placed) ∙ e)
    by_met false e = absent (headings placed) (any_firsts same_heading headings_equiv heading (map heading_of placed) ∙ e) ∙ sym (no_rows placed e)

-- the rows of a heading are in its parts
pub rows_parted : (config : Config) (rows : List Draw) (groups : List (List ℕ)) (heading : Heading) → flat_map (λ (cut : Cut). cut.rows) (filter (is_under heading) (parts_of config rows groups)) ≡ rows_of heading (zip rows groups)
rows_parted config rows groups heading = by_met heading config (zip rows groups) (list_any (same_heading heading) (map heading_of (zip rows groups))) refl

-- ---- the limit

small : (n size : ℕ) (rows : List Draw) → All (λ (ys : List Draw). length ys ≤ size) (portions_within n size rows)
small zero size rows = All-nil _
small (suc n) size [] = All-nil _
small (suc n) size (row ∷ rows) =
    let front = length-take size (row ∷ rows) in
    All-cons (λ (ys : List Draw). length ys ≤ size) (take size (row ∷ rows)) (portions_within n size (drop size (row ∷ rows))) (omega (arith, front)) (small n size (drop size (row ∷ rows)))

within : (limit count n : ℕ) → n ≤ portion_size limit count → IsWithin limit n
within zero count n few = λ some. absurd (omega (arith, some))
within (suc m) count n few = λ some. few

limit_under : (config : Config) (placed : List Placed) (heading : Heading) → All (λ (cut : Cut). IsWithin (limit_of (value_at cut.group config.groups)) (length cut.rows)) (parts_under config placed heading)
limit_under config placed heading =
    let rows = rows_of heading placed in
    let limit = limit_of (value_at heading.group config.groups) in
    All-map (λ (cut : Cut). IsWithin (limit_of (value_at cut.group config.groups)) (length cut.rows)) (cut_of heading) (within_limit limit rows)
    (All-weaker (λ (ys : List Draw). length ys ≤ portion_size limit (length rows)) (λ (ys : List Draw). IsWithin limit (length ys)) (λ ys few. within limit (length rows) (length ys) few) (within_limit limit rows) (small (length rows) (portion_size limit (length rows)) rows))

limit_over : (config : Config) (placed : List Placed) (hs : List Heading) → All (λ (cut : Cut). IsWithin (limit_of (value_at cut.group config.groups)) (length cut.rows)) (flat_map (parts_under config placed) hs)
limit_over config placed [] = All-nil _
limit_over config placed (h ∷ hs) = All-append (λ (cut : Cut). IsWithin (limit_of (value_at cut.group config.groups)) (length cut.rows)) (parts_under config placed h) (flat_map (parts_under config placed) hs) (limit_under config placed h) (limit_over config placed hs)

-- no part has more rows than its group's limit
pub limit_kept : (config : Config) (rows : List Draw) (groups : List (List ℕ)) → All (λ (cut : Cut). IsWithin (limit_of (value_at cut.group config.groups)) (length cut.rows)) (parts_of config rows groups)
limit_kept config rows groups = limit_over config (zip rows groups) (headings (zip rows groups))
