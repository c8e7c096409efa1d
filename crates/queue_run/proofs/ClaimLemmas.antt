-- The rows of a claim: those that are still tried, each routed, in batches that have no row in common.
use Rattle.std.proofs.Common.{◌≡◌, ◌≢◌, ℕ, suc, ◌+◌, ◌<◌, ◌≤◌, List, [], ◌∷◌, ◌++◌, length, take, get_or, Bool, true, false, ◌||◌, if◌then◌else◌, refl, sym, ◌∙◌, ap, subst, arith, ne_eqb, append_assoc, length-append}
use Rattle.std.specs.Prelude.{All, fold, nat_eq}
use Rattle.std.specs.List.{AllZip, list_any}
use Rattle.std.proofs.lemmas.List.{append-nil, take_more, length-take-le}
use Rattle.std.proofs.lemmas.List.Elements.{All-append, All-cons, All-nil, All-head, All-tail}
use Rattle.std.proofs.lemmas.Slice.Zip.{all_zipped_more}
use Rattle.mail_base.specs.declared.config.Config.{Config}
use Rattle.mail_base.specs.declared.control.Row.{Row}
use Rattle.mail_base.specs.States.{is_queued}
use Rattle.map_tables.specs.Answers.{Loaded}
use Rattle.ruleset_run.specs.Sites.{Macros}
use Rattle.addr_route.specs.Routes.{Routes}
use Rattle.queue_table.specs.Soundness.{IsTried}
use Rattle.queue_run.specs.declared.batch.Batch.{Batch}
use Rattle.queue_run.specs.declared.batch.Routed.{Routed}
use Rattle.queue_run.specs.Batches.{Waiting, added, batches_of, begun, is_among, joined, takes, user_of, waiting_at, waiting_from}
use Rattle.mail_base.specs.declared.control.Entry.{Entry}
use Rattle.spool_store.specs.declared.held.Held.{Held}
use Rattle.queue_run.specs.Claims.{AreRouted, IsRouted, claim_macros}
use Rattle.queue_run.specs.Ready.{AreAllApart, AreApart, IsUntried}

-- ---- the rows that are still tried

waiting_push : (n : ℕ) (rows : List Row) (row : Row) → waiting_from n (rows ++ row ∷ []) ≡ waiting_from n rows ++ waiting_at (n + length rows) row
waiting_push n [] row = append-nil (waiting_at n row) ∙ ap (λ k. waiting_at k row) {x = n} {y = n + 0} (omega arith)
waiting_push n (r ∷ rows) row =
    ap (λ q. waiting_at n r ++ q) (waiting_push (n + 1) rows row ∙ ap (λ k. waiting_from (n + 1) rows ++ waiting_at k row) {x = n + 1 + length rows} {y = n + suc (length rows)} (omega arith))
    ∙ sym (append_assoc (waiting_at n r) (waiting_from (n + 1) rows) (waiting_at (n + suc (length rows)) row))

pub waiting_more : (rows : List Row) (i : ℕ) (d : Row) → i < length rows → waiting_from 0 (take (i + 1) rows) ≡ waiting_from 0 (take i rows) ++ waiting_at i (get_or rows i d)
waiting_more rows i d below =
    ap (waiting_from 0) (take_more rows i d below) ∙ waiting_push 0 (take i rows) (get_or rows i d)
    ∙ ap (λ k. waiting_from 0 (take i rows) ++ waiting_at k (get_or rows i d)) {x = 0 + length (take i rows)} {y = i} (let e = length-take-le i rows (omega (arith, below)) in omega (arith, e))

module _ (config : Config) (maps : Loaded) (macros : Macros) where
  -- a row that isn't tried any more adds none
  pub passed : (rows : List Waiting) (routed : List Routed) (place : ℕ) (row : Row) → is_queued row.state ≡ false → AllZip (IsRouted config maps macros) rows routed → AllZip (IsRouted config maps macros) (rows ++ waiting_at place row) routed
  passed rows routed place row isnt so =
      subst (λ q. AllZip (IsRouted config maps macros) q routed) (sym (ap (λ (b : Bool). rows ++ (if b then record { place = place; address = row.address } ∷ [] else [])) isnt ∙ append-nil rows)) so

  -- one that is tried adds where it goes
  pub routed_one : (rows : List Waiting) (routed : List Routed) (place : ℕ) (row : Row) (one : Routed) → is_queued row.state ≡ true → one.place ≡ place → Routes config maps macros row.address true one.resolved
      → AllZip (IsRouted config maps macros) rows routed → AllZip (IsRouted config maps macros) (rows ++ waiting_at place row) (routed ++ one ∷ [])
  routed_one rows routed place row one waits at goes so =
      subst (λ q. AllZip (IsRouted config maps macros) q (routed ++ one ∷ [])) (sym (ap (λ (b : Bool). rows ++ (if b then record { place = place; address = row.address } ∷ [] else [])) waits))
      (all_zipped_more (IsRouted config maps macros) rows routed (record { place = place; address = row.address }) one so (record { place = at; goes = goes }))

-- ---- what all rows of a list have, the rows of its batches have

module _ (P : ℕ → Type 0) where
  abbrev pub EachHas : List Batch → Type 0
  EachHas batches = All (λ (b : Batch). All P b.places) batches

  pub joined_has : (config : Config) (row : Routed) (batches : List Batch) → EachHas batches → P row.place → EachHas (joined config row batches)
  joined_has config row [] all p = All-cons (λ (b : Batch). All P b.places) (begun row) [] (All-cons P row.place [] p (All-nil P)) (All-nil (λ (b : Batch). All P b.places))
  joined_has config row (b ∷ bs) all p = by (takes config row b) (joined_has config row bs (All-tail (λ (b : Batch). All P b.places) b bs all) p)
    where
      by : (t : Bool) → EachHas (joined config row bs) → EachHas (if t then added row b ∷ bs else b ∷ joined config row bs)
      by true rest = All-cons (λ (b : Batch). All P b.places) (added row b) bs (All-append P b.places (row.place ∷ []) (All-head (λ (b : Batch). All P b.places) b bs all) (All-cons P row.place [] p (All-nil P))) (All-tail (λ (b : Batch). All P b.places) b bs all)
      by false rest = All-cons (λ (b : Batch). All P b.places) b (joined config row bs) (All-head (λ (b : Batch). All P b.places) b bs all) rest

  pub folded_have : (config : Config) (rows : List Routed) (batches : List Batch) → EachHas batches → All (λ (r : Routed). P r.place) rows → EachHas (fold (λ batches row. joined config row batches) batches rows)
  folded_have config [] batches all each = all
  folded_have config (row ∷ rows) batches all each = folded_have config rows (joined config row batches) (joined_has config row batches all (All-head (λ (r : Routed). P r.place) row rows each)) (All-tail (λ (r : Routed). P r.place) row rows each)

-- ---- the rows of a claim are tried

tried_push : (front : List Row) (row : Row) (back : List Row) → is_queued row.state ≡ true → IsTried (front ++ row ∷ back) (length front)
tried_push front row back waits = record {
  within = let e = length-append front (row ∷ back) in omega (arith, e);
  queued = λ d. subst (λ (q : Row). is_queued q.state ≡ true) (sym (at front row back d)) waits;
}
  where
    at : (front : List Row) (row : Row) (back : List Row) (d : Row) → get_or (front ++ row ∷ back) (length front) d ≡ row
    at [] row back d = refl
    at (x ∷ xs) row back d = at xs row back d

at_tried : (front : List Row) (row : Row) (back : List Row) → All (λ (w : Waiting). IsTried (front ++ row ∷ back) w.place) (waiting_at (length front) row)
at_tried front row back = by (is_queued row.state) refl
  where
    by : (b : Bool) → is_queued row.state ≡ b → All (λ (w : Waiting). IsTried (front ++ row ∷ back) w.place) (if b then record { place = length front; address = row.address } ∷ [] else [])
    by true is = All-cons (λ (w : Waiting). IsTried (front ++ row ∷ back) w.place) (record { place = length front; address = row.address }) [] (tried_push front row back is) (All-nil (λ (w : Waiting). IsTried (front ++ row ∷ back) w.place))
    by false is = All-nil (λ (w : Waiting). IsTried (front ++ row ∷ back) w.place)

waiting_tried : (front back : List Row) → All (λ (w : Waiting). IsTried (front ++ back) w.place) (waiting_from (length front) back)
waiting_tried front [] = All-nil (λ (w : Waiting). IsTried (front ++ []) w.place)
waiting_tried front (row ∷ back) =
    let push : (front ++ row ∷ []) ++ back ≡ front ++ row ∷ back = append_assoc front (row ∷ []) back in
    let long : length (front ++ row ∷ []) ≡ length front + 1 = length-append front (row ∷ []) in
    let rest : All (λ (w : Waiting). IsTried (front ++ row ∷ back) w.place) (waiting_from (length front + 1) back) =
    subst (λ k. All (λ (w : Waiting). IsTried (front ++ row ∷ back) w.place) (waiting_from k back)) long
    (subst (λ (q : List Row). All (λ (w : Waiting). IsTried q w.place) (waiting_from (length (front ++ row ∷ [])) back)) push (waiting_tried (front ++ row ∷ []) back)) in
    All-append (λ (w : Waiting). IsTried (front ++ row ∷ back) w.place) (waiting_at (length front) row) (waiting_from (length front + 1) back) (at_tried front row back) rest

module _ (config : Config) (maps : Loaded) (macros : Macros) (P : ℕ → Type 0) where
  zipped_have : (waiting : List Waiting) (rows : List Routed) → AllZip (IsRouted config maps macros) waiting rows → All (λ (w : Waiting). P w.place) waiting → All (λ (r : Routed). P r.place) rows
  zipped_have [] [] so each = All-nil (λ (r : Routed). P r.place)
  zipped_have [] (r ∷ rows) so each = absurd so
  zipped_have (w ∷ waiting) [] so each = absurd so
  zipped_have (w ∷ waiting) (r ∷ rows) so each =
      All-cons (λ (r : Routed). P r.place) r rows (subst P (sym so.0.place) (All-head (λ (w : Waiting). P w.place) w waiting each)) (zipped_have waiting rows so.1 (All-tail (λ (w : Waiting). P w.place) w waiting each))

-- a batch has rows, and each has its user
record HasRows (b : Batch) : Type 0 where
  some : 0 < length b.places
  users : length b.users ≡ length b.places

joined_some : (config : Config) (row : Routed) (batches : List Batch) → All HasRows batches → All HasRows (joined config row batches)
joined_some config row [] all = All-cons HasRows (begun row) [] (record { some = omega arith; users = refl }) (All-nil HasRows)
joined_some config row (b ∷ bs) all = by (takes config row b) (joined_some config row bs (All-tail HasRows b bs all))
  where
    longer : HasRows b → HasRows (added row b)
    longer h =
        let e = length-append b.places (row.place ∷ []) in
        let f = length-append b.users (user_of row.resolved ∷ []) in
        let same = h.users in
        record { some = omega (arith, e); users = omega (arith, e, f, same) }

    by : (t : Bool) → All HasRows (joined config row bs) → All HasRows (if t then added row b ∷ bs else b ∷ joined config row bs)
    by true rest = All-cons HasRows (added row b) bs (longer (All-head HasRows b bs all)) (All-tail HasRows b bs all)
    by false rest = All-cons HasRows b (joined config row bs) (All-head HasRows b bs all) rest

folded_some : (config : Config) (rows : List Routed) (batches : List Batch) → All HasRows batches → All HasRows (fold (λ batches row. joined config row batches) batches rows)
folded_some config [] batches all = all
folded_some config (row ∷ rows) batches all = folded_some config rows (joined config row batches) (joined_some config row batches all)

untried_each : (rows : List Row) (batches : List Batch) → All HasRows batches → EachHas (IsTried rows) batches → All (IsUntried rows) batches
untried_each rows [] some each = All-nil (IsUntried rows)
untried_each rows (b ∷ bs) some each =
    let h = All-head HasRows b bs some in
    All-cons (IsUntried rows) b bs (record { some = h.some; users = h.users; each = All-head (λ (b : Batch). All (IsTried rows) b.places) b bs each })
    (untried_each rows bs (All-tail HasRows b bs some) (All-tail (λ (b : Batch). All (IsTried rows) b.places) b bs each))

pub claimed_untried : (config : Config) (maps : Loaded) (macros : Macros) (all : List Row) (rows : List Routed) → AllZip (IsRouted config maps macros) (waiting_from 0 all) rows → All (IsUntried all) (batches_of config rows)
claimed_untried config maps macros all rows so =
    untried_each all (batches_of config rows) (folded_some config rows [] (All-nil HasRows))
    (folded_have (IsTried all) config rows [] (All-nil (λ (b : Batch). All (IsTried all) b.places)) (zipped_have config maps macros (IsTried all) (waiting_from 0 all) rows so (waiting_tried [] all)))

-- ---- batches have no row in common

-- rows at ascending places, of which the first is no lower than that
abbrev AscendsFrom : ℕ → List Routed → Type 0
AscendsFrom n [] = Unit {0}
AscendsFrom n (r ∷ rows) = (n ≤ r.place) × AscendsFrom (r.place + 1) rows

not_among : (places : List ℕ) (place : ℕ) → All (λ p. p < place) places → is_among places place ≡ false
not_among [] place below = refl
not_among (p ∷ ps) place below =
    let lt : p < place = All-head (λ p. p < place) p ps below in
    both_false (nat_eq place p) (list_any (nat_eq place) ps) (ne_eqb place p (λ e. omega (arith, lt, e))) (not_among ps place (All-tail (λ p. p < place) p ps below))
  where
    both_false : (a b : Bool) → a ≡ false → b ≡ false → (a || b) ≡ false
    both_false a b p q = ap (λ (c : Bool). c || b) p ∙ q

among_push : (places : List ℕ) (place q : ℕ) → is_among places q ≡ false → q ≢ place → is_among (places ++ place ∷ []) q ≡ false
among_push [] place q isnt ne = ap (λ (c : Bool). c || false) (ne_eqb q place ne)
among_push (p ∷ ps) place q isnt ne = by (nat_eq q p) (is_among ps q) isnt (among_push ps place q)
  where
    by : (a b : Bool) → (a || b) ≡ false → (b ≡ false → q ≢ place → is_among (ps ++ place ∷ []) q ≡ false) → (a || is_among (ps ++ place ∷ []) q) ≡ false
    by true b isnt rest = cc isnt
    by false b isnt rest = rest isnt ne

apart_push : (places : List ℕ) (place : ℕ) (b : Batch) → All (λ p. p < place) b.places → AreApart places b → AreApart (places ++ place ∷ []) b
apart_push places place b below apart = go b.places below apart
  where
    go : (xs : List ℕ) → All (λ p. p < place) xs → All (λ q. is_among places q ≡ false) xs → All (λ q. is_among (places ++ place ∷ []) q ≡ false) xs
    go [] below apart = All-nil (λ q. is_among (places ++ place ∷ []) q ≡ false)
    go (x ∷ xs) below apart =
        let lt : x < place = All-head (λ p. p < place) x xs below in
        All-cons (λ q. is_among (places ++ place ∷ []) q ≡ false) x xs (among_push places place x (All-head (λ q. is_among places q ≡ false) x xs apart) (λ e. omega (arith, lt, e))) (go xs (All-tail (λ p. p < place) x xs below) (All-tail (λ q. is_among places q ≡ false) x xs apart))

abbrev AllBelow : ℕ → List Batch → Type 0
AllBelow place batches = EachHas (λ p. p < place) batches

apart_pushed : (places : List ℕ) (place : ℕ) (batches : List Batch) → AllBelow place batches → All (AreApart places) batches → All (AreApart (places ++ place ∷ [])) batches
apart_pushed places place [] below apart = All-nil (AreApart (places ++ place ∷ []))
apart_pushed places place (b ∷ bs) below apart =
    All-cons (AreApart (places ++ place ∷ [])) b bs (apart_push places place b (All-head (λ (b : Batch). All (λ p. p < place) b.places) b bs below) (All-head (AreApart places) b bs apart))
    (apart_pushed places place bs (All-tail (λ (b : Batch). All (λ p. p < place) b.places) b bs below) (All-tail (AreApart places) b bs apart))

joined_apart : (config : Config) (row : Routed) (batches : List Batch) → AllBelow row.place batches → AreAllApart batches → AreAllApart (joined config row batches)
joined_apart config row [] below apart = (All-nil (AreApart (row.place ∷ [])), tt)
joined_apart config row (b ∷ bs) below apart = by (takes config row b) (joined_apart config row bs (All-tail (λ (b : Batch). All (λ p. p < row.place) b.places) b bs below) apart.1)
  where
    mine : All (λ p. p < row.place) b.places
    mine = All-head (λ (b : Batch). All (λ p. p < row.place) b.places) b bs below

    others : AllBelow row.place bs
    others = All-tail (λ (b : Batch). All (λ p. p < row.place) b.places) b bs below

    by : (t : Bool) → AreAllApart (joined config row bs) → AreAllApart (if t then added row b ∷ bs else b ∷ joined config row bs)
    by true rest = (apart_pushed b.places row.place bs others apart.0, apart.1)
    by false rest = (joined_has (λ q. is_among b.places q ≡ false) config row bs apart.0 (not_among b.places row.place mine), rest)

below_more : (n m : ℕ) (batches : List Batch) → n ≤ m → AllBelow n batches → AllBelow m batches
below_more n m [] le below = All-nil (λ (b : Batch). All (λ p. p < m) b.places)
below_more n m (b ∷ bs) le below =
    All-cons (λ (b : Batch). All (λ p. p < m) b.places) b bs (go b.places (All-head (λ (b : Batch). All (λ p. p < n) b.places) b bs below)) (below_more n m bs le (All-tail (λ (b : Batch). All (λ p. p < n) b.places) b bs below))
  where
    go : (xs : List ℕ) → All (λ p. p < n) xs → All (λ p. p < m) xs
    go [] h = All-nil (λ p. p < m)
    go (x ∷ xs) h = let lt : x < n = All-head (λ p. p < n) x xs h in All-cons (λ p. p < m) x xs (omega (arith, lt, le)) (go xs (All-tail (λ p. p < n) x xs h))

folded_apart : (config : Config) (n : ℕ) (rows : List Routed) (batches : List Batch) → AscendsFrom n rows → AllBelow n batches → AreAllApart batches → AreAllApart (fold (λ batches row. joined config row batches) batches rows)
folded_apart config n [] batches asc below apart = apart
folded_apart config n (row ∷ rows) batches asc below apart =
    let here : AllBelow row.place batches = below_more n row.place batches asc.0 below in
    folded_apart config (row.place + 1) rows (joined config row batches) asc.1
    (joined_has (λ p. p < row.place + 1) config row batches (below_more row.place (row.place + 1) batches (omega arith) here) (omega arith))
    (joined_apart config row batches here apart)

weaker : (n m : ℕ) (rows : List Routed) → n ≤ m → AscendsFrom m rows → AscendsFrom n rows
weaker n m [] le asc = tt
weaker n m (r ∷ rows) le asc = let first : m ≤ r.place = asc.0 in (omega (arith, le, first), asc.1)

module _ (config : Config) (maps : Loaded) (macros : Macros) where
  ascends : (n : ℕ) (all : List Row) (rows : List Routed) → AllZip (IsRouted config maps macros) (waiting_from n all) rows → AscendsFrom n rows
  ascends n [] [] so = tt
  ascends n [] (r ∷ rows) so = absurd so
  ascends n (row ∷ all) rows so = by (is_queued row.state) rows so (ascends (n + 1) all)
    where
      by : (b : Bool) (rows : List Routed) → AllZip (IsRouted config maps macros) ((if b then record { place = n; address = row.address } ∷ [] else []) ++ waiting_from (n + 1) all) rows
          → ((rest : List Routed) → AllZip (IsRouted config maps macros) (waiting_from (n + 1) all) rest → AscendsFrom (n + 1) rest) → AscendsFrom n rows
      by true [] so rest = absurd so
      by true (r ∷ rows) so rest = let at : r.place ≡ n = so.0.place in (omega (arith, at), subst (λ k. AscendsFrom (k + 1) rows) (sym at) (rest rows so.1))
      by false rows so rest = weaker n (n + 1) rows (omega arith) (rest rows so)

pub claimed_apart : (config : Config) (maps : Loaded) (macros : Macros) (all : List Row) (rows : List Routed) → AllZip (IsRouted config maps macros) (waiting_from 0 all) rows → AreAllApart (batches_of config rows)
claimed_apart config maps macros all rows so = folded_apart config 0 rows [] (ascends config maps macros 0 all rows so) (All-nil (λ (b : Batch). All (λ p. p < 0) b.places)) tt

-- ---- a claim

-- the routes of a claim are those of the entry that the store holds
pub claimed_routes : (config : Config) (maps : Loaded) (id : ℕ) (h : Held) (entry : Entry) (macros : Macros) (now : List Row) (rows : List Routed) → entry ≡ h.entry → macros ≡ claim_macros config id entry.control → now ≡ entry.control.rows
    → AllZip (IsRouted config maps macros) (waiting_from 0 now) rows → AreRouted config maps id h.entry.control rows
claimed_routes config maps id h entry macros now rows is macros_are rows_are so =
    subst (λ q. AreRouted config maps id q.control rows) is
    (subst (λ q. AllZip (IsRouted config maps q) (waiting_from 0 entry.control.rows) rows) macros_are
    (subst (λ q. AllZip (IsRouted config maps macros) (waiting_from 0 q) rows) rows_are so))
