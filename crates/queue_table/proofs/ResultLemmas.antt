-- States that are set in their places.
use Rattle.std.proofs.Common.{◌≡◌, ℕ, zero, suc, ◌<◌, ◌≤◌, List, [], ◌∷◌, length, refl, sym, ap, subst, arith, get_or, set, ◌^◌, ◌∙◌, ℤ, Bool}
use Rattle.std.specs.Prelude.{All, FitsSigned}
use Rattle.std.specs.Int.{w128}
use Rattle.std.proofs.lemmas.List.Elements.{All-head, All-tail, All-cons}
use Rattle.mail_base.specs.Limits.{most_rows}
use Rattle.mail_base.specs.declared.control.Control.{Control}
use Rattle.mail_base.specs.declared.control.Row.{Row}
use Rattle.mail_base.specs.declared.control.State.{State}
use Rattle.mail_base.specs.declared.outcome.Result1.{Result1}
use Rattle.qf_format.specs.Room.{addresses}
use Rattle.qf_format.specs.Valid.{AreRows, IsRow, IsState, IsValid}
use Rattle.spool_store.specs.Keepers.{raised}
use Rattle.queue_table.specs.Results.{restated, state_after, with_results}

-- a row that is set in its place
pub set_restates : (rows : List Row) (place : ℕ) (state : State) (row : Row) → place < length rows → row ≡ get_or rows place row → set rows place (record row { state = state }) ≡ restated place state rows
set_restates [] place state row lt is = absurd (omega (arith, lt))
set_restates (r ∷ rows) zero state row lt is = ap (λ (q : Row). record q { state = state } ∷ rows) is
set_restates (r ∷ rows) (suc place) state row lt is = ap (λ (q : List Row). r ∷ q) (set_restates rows place state row (omega (arith, lt)) is)

-- past the end nothing is set
pub past_end : (rows : List Row) (place : ℕ) (state : State) → length rows ≤ place → rows ≡ restated place state rows
past_end [] place state le = refl
past_end (r ∷ rows) zero state le = absurd (omega (arith, le))
past_end (r ∷ rows) (suc place) state le = ap (λ (q : List Row). r ∷ q) (past_end rows place state (omega (arith, le)))

restated_rows : (rows : List Row) (place : ℕ) (state : State) → IsState state → All IsRow rows → All IsRow (restated place state rows)
restated_rows [] place state form h = h
restated_rows (r ∷ rows) zero state form h = All-cons IsRow (record r { state = state }) rows (record { address_form = (All-head IsRow r rows h).address_form; state_form = form }) (All-tail IsRow r rows h)
restated_rows (r ∷ rows) (suc place) state form h = All-cons IsRow r (restated place state rows) (All-head IsRow r rows h) (restated_rows rows place state form (All-tail IsRow r rows h))

restated_long : (rows : List Row) (place : ℕ) (state : State) → length (restated place state rows) ≡ length rows
restated_long [] place state = refl
restated_long (r ∷ rows) zero state = refl
restated_long (r ∷ rows) (suc place) state = ap suc (restated_long rows place state)

-- rows keep their form with a state of its form
pub restated_form : (rows : List Row) (place : ℕ) (state : State) → IsState state → AreRows rows → AreRows (restated place state rows)
restated_form rows place state form h =
    let long = restated_long rows place state in
    record { some = subst (λ (n : ℕ). 0 < n) (sym long) h.some; few = subst (λ (n : ℕ). n ≤ most_rows) (sym long) h.few; each = restated_rows rows place state form h.each }

-- a control stays valid with other numbers, and other rows of their form
pub recorded_valid : (c : Control) (moment revision tries : ℕ) (priority : ℤ) (rows : List Row) → IsValid c → revision ≡ raised c.revision → moment < 2 ^ 64 → tries ≡ raised c.tries → FitsSigned w128 priority → AreRows rows → IsValid (record c { revision = revision; last_try = moment; tries = tries; priority = priority; rows = rows })
recorded_valid c moment revision tries priority rows v up within more fits form = record {
  revision_range = record { least = omega (arith, up, v.revision_range.least); most = omega (arith, up) };
  parent_form = v.parent_form;
  group_form = v.group_form;
  created_range = v.created_range;
  last_try_range = within;
  tries_range = omega (arith, more);
  priority_range = fits;
  class_range = v.class_range;
  sender_form = v.sender_form;
  kept_form = v.kept_form;
  rows_form = form;
  headers_form = v.headers_form;
}

restated_addresses : (rows : List Row) (place : ℕ) (state : State) → addresses (restated place state rows) ≡ addresses rows
restated_addresses [] place state = refl
restated_addresses (r ∷ rows) zero state = refl
restated_addresses (r ∷ rows) (suc place) state = ap (λ (q : List (List ℕ)). r.address ∷ q) (restated_addresses rows place state)

-- results leave the addresses of rows
pub results_addresses : (old : Bool) (places : List ℕ) (results : List Result1) (rows : List Row) → addresses (with_results old places results rows) ≡ addresses rows
results_addresses old [] results rows = refl
results_addresses old (p ∷ places) [] rows = refl
results_addresses old (p ∷ places) (r ∷ results) rows = results_addresses old places results (restated p (state_after old r) rows) ∙ restated_addresses rows p (state_after old r)
