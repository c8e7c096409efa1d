-- Each part has a row, there are no more parts than rows, and rows that stay are still those of an
-- entry.
use Rattle.std.proofs.Common.{◌≡◌, ℕ, zero, suc, ◌<◌, ◌≤◌, List, [], ◌∷◌, ◌++◌, Bool, true, false, ◌||◌, cond, filter, flat_map, length, refl, ◌∙◌, ap, subst, take, drop, zip, arith}
use Rattle.std.specs.Prelude.{map, All}
use Rattle.std.specs.List.{list_any}
use Rattle.std.proofs.lemmas.List.{length-append, length-drop, length-map, length-take}
use Rattle.std.proofs.lemmas.List.Elements.{All-append, All-cons, All-map, All-nil}
use Rattle.mail_base.specs.Catalogs.{value_at}
use Rattle.mail_base.specs.Drawing.{AreRows, IsDrawn}
use Rattle.mail_base.specs.declared.config.Config.{Config}
use Rattle.mail_base.specs.declared.draw.Draw.{Draw}
use Rattle.mail_base.specs.declared.message.Cut.{Cut}
use Rattle.queue_plan.specs.declared.heading.Heading.{Heading}
use Rattle.queue_plan.specs.Parts.{Placed, cut_of, heading_of, headings, limit_of, parts_of, parts_under, portion_size, portions_within, rows_of, same_heading, within_limit}
use Rattle.queue_plan.specs.Rows.{AreApart, distinct, same_row}
use Rattle.queue_plan.proofs.BucketLemmas.{headings_equiv, one_heading}
use Rattle.queue_plan.proofs.FirstLemmas.{apart_firsts}
use Rattle.queue_plan.proofs.FitLemmas.{all_firsts, few_firsts, some_size, zip_short}

-- ---- rows that stay

-- rows of an entry, each once, are rows of an entry
pub rows_kept : (rows : List Draw) → AreRows rows → AreRows (distinct rows)
rows_kept [] form = form
rows_kept (row ∷ rows) form =
    let fewer = few_firsts same_row (row ∷ rows) in
    record { some = omega arith; few = omega (arith, fewer, form.few); each = all_firsts same_row IsDrawn (row ∷ rows) form.each }

-- ---- each part has a row

abbrev HasRow : Cut → Type 0
HasRow cut = 0 < length cut.rows

filled : (n size : ℕ) (rows : List Draw) → 0 < size → All (λ (ys : List Draw). 0 < length ys) (portions_within n size rows)
filled zero size rows some = All-nil _
filled (suc n) size [] some = All-nil _
filled (suc n) size (row ∷ rows) some =
    let front = length-take size (row ∷ rows) in
    All-cons (λ (ys : List Draw). 0 < length ys) (take size (row ∷ rows)) (portions_within n size (drop size (row ∷ rows))) (omega (arith, front, some)) (filled n size (drop size (row ∷ rows)) some)

filled_under : (config : Config) (placed : List Placed) (heading : Heading) → All HasRow (parts_under config placed heading)
filled_under config placed heading =
    let rows = rows_of heading placed in
    let limit = limit_of (value_at heading.group config.groups) in
    All-map HasRow (cut_of heading) (within_limit limit rows) (filled (length rows) (portion_size limit (length rows)) rows (some_size limit (length rows)))

filled_over : (config : Config) (placed : List Placed) (hs : List Heading) → All HasRow (flat_map (parts_under config placed) hs)
filled_over config placed [] = All-nil HasRow
filled_over config placed (h ∷ hs) = All-append HasRow (parts_under config placed h) (flat_map (parts_under config placed) hs) (filled_under config placed h) (filled_over config placed hs)

-- each part has a row
pub parts_filled : (config : Config) (rows : List Draw) (groups : List (List ℕ)) → All HasRow (parts_of config rows groups)
parts_filled config rows groups = filled_over config (zip rows groups) (headings (zip rows groups))

-- ---- no more parts than rows

few_portions : (n size : ℕ) (rows : List Draw) → 0 < size → length (portions_within n size rows) ≤ length rows
few_portions zero size rows some = omega arith
few_portions (suc n) size [] some = omega arith
few_portions (suc n) size (row ∷ rows) some =
    let less = length-drop size (row ∷ rows) in
    let rest = few_portions n size (drop size (row ∷ rows)) some in omega (arith, less, rest, some)

few_under : (config : Config) (placed : List Placed) (heading : Heading) → length (parts_under config placed heading) ≤ length (rows_of heading placed)
few_under config placed heading =
    let rows = rows_of heading placed in
    let limit = limit_of (value_at heading.group config.groups) in
    let same = length-map (within_limit limit rows) (cut_of heading) in
    let few = few_portions (length rows) (portion_size limit (length rows)) rows (some_size limit (length rows)) in omega (arith, same, few)

-- the rows of all these headings
abbrev rows_over : List Placed → List Heading → List Draw
rows_over placed hs = flat_map (λ (h : Heading). rows_of h placed) hs

few_over : (config : Config) (placed : List Placed) (hs : List Heading) → length (flat_map (parts_under config placed) hs) ≤ length (rows_over placed hs)
few_over config placed [] = omega arith
few_over config placed (h ∷ hs) =
    let one = few_under config placed h in
    let rest = few_over config placed hs in
    let parts = length-append (parts_under config placed h) (flat_map (parts_under config placed) hs) in
    let rows = length-append (rows_of h placed) (rows_over placed hs) in omega (arith, one, rest, parts, rows)

no_rows_over : (hs : List Heading) → length (rows_over [] hs) ≤ 0
no_rows_over [] = omega arith
no_rows_over (h ∷ hs) = no_rows_over hs

module _ (p : Placed) (placed : List Placed) where
  -- the rows of a heading, where it is known whether the first one is among them
  abbrev with_first : Heading → Bool → List Draw
  with_first h c = map (λ (q : Placed). q.0) (cond c (p ∷ filter (λ (q : Placed). same_heading h (heading_of q)) placed) (filter (λ (q : Placed). same_heading h (heading_of q)) placed))

  -- a row that is of none of these headings doesn't count
  others : (hs : List Heading) → list_any (same_heading (heading_of p)) hs ≡ false → rows_over (p ∷ placed) hs ≡ rows_over placed hs
  others [] none = refl
  others (h ∷ hs) none = by (same_heading (heading_of p) h) refl none (others hs)
    where
      by : (c : Bool) → same_heading (heading_of p) h ≡ c → (c || list_any (same_heading (heading_of p)) hs) ≡ false → (list_any (same_heading (heading_of p)) hs ≡ false → rows_over (p ∷ placed) hs ≡ rows_over placed hs) → with_first h (same_heading h (heading_of p)) ++ rows_over (p ∷ placed) hs ≡ rows_of h placed ++ rows_over placed hs
      by true e none rest = absurd (cc none)
      by false e none rest = λ i. with_first h ((headings_equiv.symm h (heading_of p) ∙ e) i) ++ rest none i

  -- it counts once at most
  one_more : (hs : List Heading) → AreApart same_heading hs → length (rows_over (p ∷ placed) hs) ≤ suc (length (rows_over placed hs))
  one_more [] apart = omega arith
  one_more (h ∷ hs) apart = by (same_heading h (heading_of p)) refl (one_more hs apart.1)
    where
      by : (c : Bool) → same_heading h (heading_of p) ≡ c → length (rows_over (p ∷ placed) hs) ≤ suc (length (rows_over placed hs)) → length (with_first h (same_heading h (heading_of p)) ++ rows_over (p ∷ placed) hs) ≤ suc (length (rows_of h placed ++ rows_over placed hs))
      by true e rest =
          let gone : list_any (same_heading (heading_of p)) hs ≡ false = subst (λ (x : Heading). list_any (same_heading x) hs ≡ false) (one_heading h (heading_of p) e) apart.0 in
          let same : with_first h (same_heading h (heading_of p)) ++ rows_over (p ∷ placed) hs ≡ p.0 ∷ (rows_of h placed ++ rows_over placed hs) = λ i. with_first h (e i) ++ others hs gone i in
          let count = ap (λ (q : List Draw). length q) same in omega (arith, count)
      by false e rest =
          let same : with_first h (same_heading h (heading_of p)) ++ rows_over (p ∷ placed) hs ≡ rows_of h placed ++ rows_over (p ∷ placed) hs = λ i. with_first h (e i) ++ rows_over (p ∷ placed) hs in
          let count = ap (λ (q : List Draw). length q) same in
          let one = length-append (rows_of h placed) (rows_over (p ∷ placed) hs) in
          let two = length-append (rows_of h placed) (rows_over placed hs) in omega (arith, count, one, two, rest)

few_rows_over : (placed : List Placed) (hs : List Heading) → AreApart same_heading hs → length (rows_over placed hs) ≤ length placed
few_rows_over [] hs apart = no_rows_over hs
few_rows_over (p ∷ placed) hs apart =
    let one = one_more p placed hs apart in
    let rest = few_rows_over placed hs apart in omega (arith, one, rest)

-- there are no more parts than rows
pub few_parts : (config : Config) (rows : List Draw) (groups : List (List ℕ)) → length (parts_of config rows groups) ≤ length rows
few_parts config rows groups =
    let placed : List Placed = zip rows groups in
    let hs = headings placed in
    let short = zip_short rows groups in
    let parts = few_over config placed hs in
    let all = few_rows_over placed hs (apart_firsts same_heading headings_equiv (map heading_of placed)) in omega (arith, short, parts, all)
