-- The places of each batch of a claim ascend.
use Rattle.std.proofs.Common.{◌≡◌, ℕ, ◌+◌, ◌<◌, ◌≤◌, List, [], ◌∷◌, ◌++◌, Bool, true, false, if◌then◌else◌, sym, subst, arith}
use Rattle.std.specs.Prelude.{All, fold}
use Rattle.std.specs.List.{AllZip}
use Rattle.std.proofs.lemmas.List.Elements.{All-append, All-cons, All-head, All-nil, All-tail, All-weaker}
use Rattle.mail_base.specs.declared.config.Config.{Config}
use Rattle.mail_base.specs.declared.control.Row.{Row}
use Rattle.mail_base.specs.States.{is_queued}
use Rattle.map_tables.specs.Answers.{Loaded}
use Rattle.ruleset_run.specs.Sites.{Macros}
use Rattle.queue_run.specs.declared.batch.Batch.{Batch}
use Rattle.queue_run.specs.declared.batch.Routed.{Routed}
use Rattle.queue_run.specs.Batches.{added, batches_of, begun, joined, takes, waiting_from}
use Rattle.queue_run.specs.Claims.{IsRouted}
use Rattle.queue_run.proofs.ClaimLemmas.{EachHas, joined_has}
use Rattle.mail_core.specs.Attempts.{AreAscending}

-- places with a later one behind them
ascending_push : (places : List ℕ) (place : ℕ) → All (λ p. p < place) places → AreAscending places → AreAscending (places ++ place ∷ [])
ascending_push [] place below up = (All-nil (λ q. place < q), tt)
ascending_push (p ∷ ps) place below up = (
  All-append (λ q. p < q) ps (place ∷ []) up.0 (All-cons (λ q. p < q) place [] (All-head (λ q. q < place) p ps below) (All-nil (λ q. p < q))),
  ascending_push ps place (All-tail (λ q. q < place) p ps below) up.1,
)

abbrev pub AllAscend : List Batch → Type 0
AllAscend batches = All (λ (b : Batch). AreAscending b.places) batches

joined_ascends : (config : Config) (row : Routed) (batches : List Batch) → EachHas (λ p. p < row.place) batches → AllAscend batches → AllAscend (joined config row batches)
joined_ascends config row [] below up = All-cons (λ (b : Batch). AreAscending b.places) (begun row) [] (All-nil (λ q. row.place < q), tt) (All-nil (λ (b : Batch). AreAscending b.places))
joined_ascends config row (b ∷ bs) below up = by (takes config row b) (joined_ascends config row bs (All-tail (λ (b : Batch). All (λ p. p < row.place) b.places) b bs below) (All-tail (λ (b : Batch). AreAscending b.places) b bs up))
  where
    by : (t : Bool) → AllAscend (joined config row bs) → AllAscend (if t then added row b ∷ bs else b ∷ joined config row bs)
    by true rest = All-cons (λ (b : Batch). AreAscending b.places) (added row b) bs (ascending_push b.places row.place (All-head (λ (b : Batch). All (λ p. p < row.place) b.places) b bs below) (All-head (λ (b : Batch). AreAscending b.places) b bs up)) (All-tail (λ (b : Batch). AreAscending b.places) b bs up)
    by false rest = All-cons (λ (b : Batch). AreAscending b.places) b (joined config row bs) (All-head (λ (b : Batch). AreAscending b.places) b bs up) rest

-- rows at ascending places, of which the first is no lower than that
abbrev RowsAscend : ℕ → List Routed → Type 0
RowsAscend n [] = Unit {0}
RowsAscend n (r ∷ rows) = (n ≤ r.place) × RowsAscend (r.place + 1) rows

later_rows : (n m : ℕ) (rows : List Routed) → n ≤ m → RowsAscend m rows → RowsAscend n rows
later_rows n m [] le up = tt
later_rows n m (r ∷ rows) le up = let first : m ≤ r.place = up.0 in (omega (arith, le, first), up.1)

below_more : (n m : ℕ) (batches : List Batch) → n ≤ m → EachHas (λ p. p < n) batches → EachHas (λ p. p < m) batches
below_more n m batches le all = All-weaker (λ (b : Batch). All (λ p. p < n) b.places) (λ (b : Batch). All (λ p. p < m) b.places) (λ b h. All-weaker (λ p. p < n) (λ p. p < m) (λ p lt. omega (arith, lt, le)) b.places h) batches all

folded_ascend : (config : Config) (n : ℕ) (rows : List Routed) (batches : List Batch) → RowsAscend n rows → EachHas (λ p. p < n) batches → AllAscend batches → AllAscend (fold (λ batches row. joined config row batches) batches rows)
folded_ascend config n [] batches up below all = all
folded_ascend config n (row ∷ rows) batches up below all =
    let first : n ≤ row.place = up.0 in
    let here = below_more n row.place batches first below in
    folded_ascend config (row.place + 1) rows (joined config row batches) up.1
    (joined_has (λ p. p < row.place + 1) config row batches (below_more row.place (row.place + 1) batches (omega arith) here) (omega arith))
    (joined_ascends config row batches here all)

module _ (config : Config) (maps : Loaded) (macros : Macros) where
  rows_ascend : (n : ℕ) (all : List Row) (rows : List Routed) → AllZip (IsRouted config maps macros) (waiting_from n all) rows → RowsAscend n rows
  rows_ascend n [] [] so = tt
  rows_ascend n [] (r ∷ rows) so = absurd so
  rows_ascend n (row ∷ all) rows so = by (is_queued row.state) rows so (rows_ascend (n + 1) all)
    where
      by : (b : Bool) (rows : List Routed) → AllZip (IsRouted config maps macros) ((if b then record { place = n; address = row.address } ∷ [] else []) ++ waiting_from (n + 1) all) rows
          → ((rest : List Routed) → AllZip (IsRouted config maps macros) (waiting_from (n + 1) all) rest → RowsAscend (n + 1) rest) → RowsAscend n rows
      by true [] so rest = absurd so
      by true (r ∷ rows) so rest = let at : r.place ≡ n = so.0.place in (omega (arith, at), subst (λ k. RowsAscend (k + 1) rows) (sym at) (rest rows so.1))
      by false rows so rest = later_rows n (n + 1) rows (omega arith) (rest rows so)

pub claimed_ascend : (config : Config) (maps : Loaded) (macros : Macros) (all : List Row) (rows : List Routed) → AllZip (IsRouted config maps macros) (waiting_from 0 all) rows → AllAscend (batches_of config rows)
claimed_ascend config maps macros all rows so =
    folded_ascend config 0 rows [] (rows_ascend config maps macros 0 all rows so) (All-nil (λ (b : Batch). All (λ p. p < 0) b.places)) (All-nil (λ (b : Batch). AreAscending b.places))
