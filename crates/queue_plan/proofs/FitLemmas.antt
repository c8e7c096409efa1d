-- Parts fit into entries.
use Rattle.std.proofs.Common.{◌≡◌, ℕ, zero, suc, ◌<◌, ◌≤◌, List, [], ◌∷◌, ◌++◌, Bool, true, false, cond, not, filter, flat_map, length, take, drop, zip, arith}
use Rattle.std.specs.Prelude.{map, All, IfOk, Result, Ok, Err}
use Rattle.std.proofs.lemmas.List.{length-drop, length-take}
use Rattle.std.proofs.lemmas.List.Elements.{All-append, All-cons, All-drop, All-filter, All-head, All-map, All-nil, All-tail, All-take, All-weaker}
use Rattle.mail_base.specs.Catalogs.{value_at}
use Rattle.mail_base.specs.Limits.{most_rows}
use Rattle.mail_base.specs.Texts.{IsBracketed, IsLine}
use Rattle.mail_base.specs.declared.config.Config.{Config}
use Rattle.mail_base.specs.declared.draw.Draw.{Draw}
use Rattle.mail_base.specs.declared.message.Cut.{Cut}
use Rattle.queue_plan.specs.declared.heading.Heading.{Heading}
use Rattle.mail_base.specs.Drawing.{IsDrawn}
use Rattle.queue_plan.specs.Parts.{IsPart, Placed, cut_of, heading_of, headings, limit_of, parts_of, parts_under, portion_size, portions_within, rows_of, same_heading, within_limit}
use Rattle.queue_plan.specs.Rows.{firsts}
use Rattle.queue_plan.proofs.BucketLemmas.{headings_equiv}

-- what is said of a result's value may be said more weakly
pub if_ok : {A E : Type 0} (P Q : A → Type 0) → ((x : A) → P x → Q x) → (r : Result A E) → IfOk r P → IfOk r Q
if_ok P Q go (Ok x) h = go x h
if_ok P Q go (Err e) h = tt

-- ---- at least one part

some_map : {X Y : Type 0} (f : X → Y) (xs : List X) → 0 < length xs → 0 < length (map f xs)
some_map f [] some = absurd (omega (arith, some))
some_map f (x ∷ xs) some = omega arith

some_front : {X : Type 0} (xs ys : List X) → 0 < length xs → 0 < length (xs ++ ys)
some_front [] ys some = absurd (omega (arith, some))
some_front (x ∷ xs) ys some = omega arith

some_portion : (limit : ℕ) (rows : List Draw) → 0 < length rows → 0 < length (within_limit limit rows)
some_portion limit [] some = absurd (omega (arith, some))
some_portion limit (row ∷ rows) some = omega arith

-- a row has a heading of its own
own_row : (p : Placed) (more : List Placed) → 0 < length (rows_of (heading_of p) (p ∷ more))
own_row p more = by (same_heading (heading_of p) (heading_of p)) (headings_equiv.refl (heading_of p))
  where
    by : (c : Bool) → c ≡ true → 0 < length (map (λ (q : Placed). q.0) (cond c (p ∷ filter (λ (q : Placed). same_heading (heading_of p) (heading_of q)) more) (filter (λ (q : Placed). same_heading (heading_of p) (heading_of q)) more)))
    by true e = omega arith
    by false e = absurd (cc e)

-- where there is a row, there is a part
pub first_part : (config : Config) (rows : List Draw) (groups : List (List ℕ)) → length groups ≡ length rows → 0 < length rows → 0 < length (parts_of config rows groups)
first_part config [] groups same some = absurd (omega (arith, some))
first_part config (row ∷ rows) [] same some = absurd (cc same)
first_part config (row ∷ rows) (group ∷ groups) same some =
    let p : Placed = (row, group) in
    let placed : List Placed = p ∷ zip rows groups in
    let own = heading_of p in
    some_front (parts_under config placed own) _ (some_map (cut_of own) _ (some_portion (limit_of (value_at own.group config.groups)) (rows_of own placed) (own_row p (zip rows groups))))

-- ---- each part

abbrev IsPlaced : Placed → Type 0
IsPlaced p = IsDrawn p.0 × IsLine p.1

abbrev IsHead : Heading → Type 0
IsHead heading = IsBracketed heading.sender × IsLine heading.group

all_placed : (rows : List Draw) (groups : List (List ℕ)) → All IsDrawn rows → All IsLine groups → All IsPlaced (zip rows groups)
all_placed [] groups rs gs = All-nil IsPlaced
all_placed (row ∷ rows) [] rs gs = All-nil IsPlaced
all_placed (row ∷ rows) (group ∷ groups) rs gs =
    All-cons IsPlaced (row, group) (zip rows groups) (All-head IsDrawn row rows rs, All-head IsLine group groups gs) (all_placed rows groups (All-tail IsDrawn row rows rs) (All-tail IsLine group groups gs))

pub all_firsts : {X : Type 0} (same : X → X → Bool) (P : X → Type 0) (xs : List X) → All P xs → All P (firsts same xs)
all_firsts same P [] all = All-nil P
all_firsts same P (x ∷ xs) all =
    All-cons P x _ (All-head P x xs all) (All-filter _ P (firsts same xs) (all_firsts same P xs (All-tail P x xs all)))

shorter : {X : Type 0} (p : X → Bool) (xs : List X) → length (filter p xs) ≤ length xs
shorter p [] = omega arith
shorter p (x ∷ xs) = by (p x) (shorter p xs)
  where
    by : (c : Bool) → length (filter p xs) ≤ length xs → length (cond c (x ∷ filter p xs) (filter p xs)) ≤ suc (length xs)
    by true rest = omega (arith, rest)
    by false rest = omega (arith, rest)

-- the first ones are no more than all
pub few_firsts : {X : Type 0} (same : X → X → Bool) (xs : List X) → length (firsts same xs) ≤ length xs
few_firsts same [] = omega arith
few_firsts same (x ∷ xs) =
    let rest = few_firsts same xs in
    let less = shorter (λ y. not (same x y)) (firsts same xs) in omega (arith, rest, less)

pub zip_short : (rows : List Draw) (groups : List (List ℕ)) → length (zip rows groups) ≤ length rows
zip_short [] groups = omega arith
zip_short (row ∷ rows) [] = omega arith
zip_short (row ∷ rows) (group ∷ groups) = let rest = zip_short rows groups in omega (arith, rest)

fewer : (heading : Heading) (placed : List Placed) → length (rows_of heading placed) ≤ length placed
fewer heading [] = omega arith
fewer heading (p ∷ placed) = by (same_heading heading (heading_of p)) (fewer heading placed)
  where
    by : (c : Bool) → length (rows_of heading placed) ≤ length placed → length (map (λ (q : Placed). q.0) (cond c (p ∷ filter (λ (q : Placed). same_heading heading (heading_of q)) placed) (filter (λ (q : Placed). same_heading heading (heading_of q)) placed))) ≤ suc (length placed)
    by true rest = omega (arith, rest)
    by false rest = omega (arith, rest)

-- rows of a portion
record IsPortion (most : ℕ) (rows : List Draw) : Type 0 where
  some : 0 < length rows
  few : length rows ≤ most
  each : All IsDrawn rows

each_portion : (most n size : ℕ) (rows : List Draw) → 0 < size → length rows ≤ most → All IsDrawn rows → All (IsPortion most) (portions_within n size rows)
each_portion most zero size rows some few each = All-nil (IsPortion most)
each_portion most (suc n) size [] some few each = All-nil (IsPortion most)
each_portion most (suc n) size (row ∷ rows) some few each =
    let front = length-take size (row ∷ rows) in
    let back = length-drop size (row ∷ rows) in
    let one : IsPortion most (take size (row ∷ rows)) = record { some = omega (arith, front, some); few = omega (arith, front, few); each = All-take IsDrawn size (row ∷ rows) each } in
    All-cons (IsPortion most) (take size (row ∷ rows)) (portions_within n size (drop size (row ∷ rows))) one (each_portion most n size (drop size (row ∷ rows)) some (omega (arith, back, few)) (All-drop IsDrawn size (row ∷ rows) each))

-- a portion has an item
pub some_size : (limit count : ℕ) → 0 < portion_size limit count
some_size zero count = omega arith
some_size (suc n) count = omega arith

each_under : (config : Config) (placed : List Placed) (heading : Heading) → length placed ≤ most_rows → All IsPlaced placed → IsHead heading → All IsPart (parts_under config placed heading)
each_under config placed heading few all head =
    let rows = rows_of heading placed in
    let limit = limit_of (value_at heading.group config.groups) in
    let short = fewer heading placed in
    let own : All IsDrawn rows = All-map IsDrawn (λ (p : Placed). p.0) (filter (λ (p : Placed). same_heading heading (heading_of p)) placed) (All-weaker IsPlaced (λ (p : Placed). IsDrawn p.0) (λ p h. h.0) (filter (λ (p : Placed). same_heading heading (heading_of p)) placed) (All-filter (λ (p : Placed). same_heading heading (heading_of p)) IsPlaced placed all)) in
    All-map IsPart (cut_of heading) (within_limit limit rows) (All-weaker (IsPortion most_rows) (λ (rs : List Draw). IsPart (cut_of heading rs)) (λ rs h. record { sender = head.0; group = head.1; some = h.some; few = h.few; each = h.each }) (within_limit limit rows) (each_portion most_rows (length rows) (portion_size limit (length rows)) rows (some_size limit (length rows)) (omega (arith, short, few)) own))

each_over : (f : Heading → List Cut) (hs : List Heading) → All (λ h. All IsPart (f h)) hs → All IsPart (flat_map f hs)
each_over f [] all = All-nil IsPart
each_over f (h ∷ hs) all =
    All-append IsPart (f h) (flat_map f hs) (All-head (λ (x : Heading). All IsPart (f x)) h hs all) (each_over f hs (All-tail (λ (x : Heading). All IsPart (f x)) h hs all))

-- each part may become an entry
pub each_part : (config : Config) (rows : List Draw) (groups : List (List ℕ)) → length rows ≤ most_rows → All IsDrawn rows → All IsLine groups → All IsPart (parts_of config rows groups)
each_part config rows groups few rs gs =
    let placed : List Placed = zip rows groups in
    let all = all_placed rows groups rs gs in
    let short = zip_short rows groups in
    let heads : All IsHead (headings placed) = all_firsts same_heading IsHead (map heading_of placed) (All-map IsHead heading_of placed (All-weaker IsPlaced (λ (p : Placed). IsHead (heading_of p)) (λ p h. (h.0.sender_form, h.1)) placed all)) in
    each_over (parts_under config placed) (headings placed) (All-weaker IsHead (λ (h : Heading). All IsPart (parts_under config placed h)) (λ h head. each_under config placed h (omega (arith, short, few)) all head) (headings placed) heads)
