-- Messages of control texts may be accepted, and entries of a table that may be changed recorded.
use Rattle.std.proofs.Common.{◌≡◌, ◌<◌, ◌≤◌, ◌^◌, ℕ, List, [], ◌∷◌, ◌++◌, map, ◌⊎◌, inl, inr, true, Option, None, Some, Result, Ok, Err, refl, sym, subst, arith, Contains, ℤ, pos, negsuc}
use Rattle.std.specs.Prelude.{All, FitsSigned, IfSome, IsSome, OnOk, get_or, length, slice_get}
use Rattle.std.specs.Int.{w128}
use Rattle.std.proofs.lemmas.Bool.{false≢true}
use Rattle.std.proofs.lemmas.List.{length-append, length-map}
use Rattle.std.proofs.lemmas.Option.{get_or_from_slice_get, slice_get_cases}
use Rattle.std.proofs.lemmas.List.Elements.{All-nil, All-cons, All-head, All-tail, All-contains, All-push, All-weaker}
use Rattle.mail_base.specs.Limits.{most_rows}
use Rattle.mail_base.specs.Texts.{IsBracketed, IsLine}
use Rattle.mail_base.specs.declared.control.Control.{Control}
use Rattle.mail_base.specs.declared.control.Row.{Row}
use Rattle.mail_base.specs.declared.draw.Draw.{Draw}
use Rattle.mail_base.specs.declared.fault.NoMemory.{NoMemory}
use Rattle.mail_base.specs.declared.message.Cut.{Cut}
use Rattle.mail_base.specs.declared.message.Message.{Message}
use Rattle.qf_format.specs.Valid.{IsRow, IsValid}
use Rattle.spool_disk.specs.Disk.{FileMap}
use Rattle.spool_store.specs.Keepers.{seen}
use Rattle.spool_store.specs.Queue.{IsLive, IsOpen}
use Rattle.spool_store.specs.Stores.{Agrees, StoreSeen, spot_at}
use Rattle.spool_store.specs.declared.held.Held.{Held}
use Rattle.spool_store.specs.declared.queue.Queue.{Queue}
use Rattle.spool_store.proofs.Carrying.{live_read}
use Rattle.queue_table.specs.Calls.{AreDirs, AreValid, Stays, store}
use Rattle.queue_table.specs.Commands.{new_control, new_row}
use Rattle.mail_base.specs.States.{is_queued}
use Rattle.queue_table.specs.Priorities.{within_128}
use Rattle.queue_table.specs.Reserves.{CanReserve}
use Rattle.queue_table.specs.Soundness.{AreCuts, IsTried}
use Rattle.queue_table.specs.declared.table.Table.{Table as Kept}
use Rattle.queue_table.specs.declared.terms.Terms.{Terms}
use Rattle.table_samples.specs.Samples.{AreSampleCuts, HasAddress, IsReady, IsSampleCut, IsSampleMessage}

-- one more behind the others
pub pushed : {X : Type 0} (P : X → Type 0) (r : Result (Unit {0}) NoMemory) (old new : List X) (x : X) → OnOk r (new ≡ old ++ x ∷ []) → All P old → P x → OnOk r (All P new)
pushed P (Ok u) old new x e all is = subst (All P) (sym e) (All-push P old x all is)
pushed P (Err e) old new x made all is = tt

-- a cut behind others
pub cuts_pushed : (r : Result (Unit {0}) NoMemory) (old new : List Cut) (cut : Cut) → OnOk r (new ≡ old ++ cut ∷ []) → All IsSampleCut old → IsSampleCut cut → OnOk r (AreSampleCuts new)
cuts_pushed (Ok u) old new cut e all is = record {
  some = subst (λ (cuts : List Cut). 0 < length cuts) (sym e) (omega (arith, length-append old (cut ∷ [])));
  each = pushed IsSampleCut (Ok u) old new cut e all is;
}
cuts_pushed (Err e) old new cut made all is = tt

-- a cut of a control's sender and group
pub sample_cut : (control : Control) (sender group : List ℕ) (rows : List Draw) → IsValid control → sender ≡ control.sender → group ≡ control.group → 0 < length rows → length rows ≤ most_rows → All HasAddress rows → IsSampleCut (record { sender = sender; group = group; rows = rows })
sample_cut control sender group rows v s g some few each = record {
  sender_form = subst IsBracketed (sym s) v.sender_form;
  group_form = subst IsLine (sym g) v.group_form;
  some = some;
  few = few;
  each = each;
}

priority_fits : (sum : ℤ) → FitsSigned w128 (within_128 sum)
priority_fits (pos n) = record { sfits = omega arith }
priority_fits (negsuc n) = record { sfits = omega arith }

rows_formed : (draws : List Draw) → All HasAddress draws → All IsRow (map new_row draws)
rows_formed [] each = All-nil IsRow
rows_formed (draw ∷ draws) each = All-cons IsRow (new_row draw) (map new_row draws) (record { address_form = All-head HasAddress draw draws each; state_form = tt }) (rows_formed draws (All-tail HasAddress draw draws each))

valid_cut : (terms : Terms) (message : Message) (moment : ℕ) (cut : Cut) → moment < 2 ^ 64 → IsSampleMessage message → IsSampleCut cut → IsValid (new_control terms message moment cut)
valid_cut terms message moment cut fits m c = record {
  revision_range = record { least = omega arith; most = omega arith };
  parent_form = tt;
  group_form = c.group_form;
  created_range = fits;
  last_try_range = omega arith;
  tries_range = omega arith;
  priority_range = priority_fits _;
  class_range = m.class_range;
  sender_form = c.sender_form;
  kept_form = m.kept_form;
  rows_form = record {
    some = omega (arith, c.some, length-map cut.rows new_row);
    few = omega (arith, c.few, length-map cut.rows new_row);
    each = rows_formed cut.rows c.each;
  };
  headers_form = m.headers_form;
}

-- the first controls of a message's parts have a text
pub valid_cuts : (terms : Terms) (message : Message) (moment : ℕ) (cuts : List Cut) → moment < 2 ^ 64 → IsSampleMessage message → AreSampleCuts cuts → AreValid terms message moment cuts
valid_cuts terms message moment cuts fits m are = All-weaker IsSampleCut (λ cut. IsValid (new_control terms message moment cut)) (λ cut c. valid_cut terms message moment cut fits m c) cuts are.each

-- and are cuts
pub are_cuts : (cuts : List Cut) → AreSampleCuts cuts → AreCuts cuts
are_cuts cuts are = record { some = are.some; each = All-weaker IsSampleCut (λ (cut : Cut). 0 < length cut.rows) (λ cut c. c.some) cuts are.each }

tried_in : (rows : List Row) (place : ℕ) (row : Row) → slice_get rows place ≡ Some row → is_queued row.state ≡ true → ((x : Row) × (place < length rows) × (slice_get rows place ≡ Some x) × (get_or rows place x ≡ x)) ⊎ ((length rows ≤ place) × (slice_get rows place ≡ None)) → IsTried rows place
tried_in rows place row is queued (inl (x, within, there, same)) = record { within = within; queued = λ d. subst (λ (r : Row). is_queued r.state ≡ true) (sym (get_or_from_slice_get rows place row d is)) queued }
tried_in rows place row is queued (inr (past, none)) = absurd (cc (is, none))

-- a row at that place that is still tried
pub tried_at : (rows : List Row) (place : ℕ) (row : Row) → slice_get rows place ≡ Some row → is_queued row.state ≡ true → IsTried rows place
tried_at rows place row is queued = tried_in rows place row is queued (slice_get_cases rows place).1

-- the place of a row behind those of others
pub place_pushed : (rows : List Row) (r : Result (Unit {0}) NoMemory) (old new : List ℕ) (place : ℕ) → OnOk r (new ≡ old ++ place ∷ []) → All (IsTried rows) old → IsTried rows place → OnOk r (All (IsTried rows) new)
place_pushed rows r old new place e all is = pushed (IsTried rows) r old new place e all is

-- rows of an entry may be reserved
pub can_reserve : (s : StoreSeen) (h : Held) (places : List ℕ) → Contains s.entries h → IsOpen h.entry.control → All (IsTried h.entry.control.rows) places → CanReserve s.entries h.entry.id places
can_reserve s h places among waits tried = record {
  held = h;
  among = among;
  is = refl;
  waits = waits;
  tried = tried;
}

-- a table over a queue that was opened with the directories of its terms
pub over_ready : (told : Option FileMap) (kept : Kept) (queue : Queue) (terms : Terms) (dirs : List (List ℕ)) → kept ≡ record { queue = queue; terms = terms } → (seen queue).dirs ≡ dirs → AreDirs terms dirs → IfSome told (Agrees (seen queue)) → IsReady told kept
over_ready told kept queue terms dirs is same are agrees = subst (IsReady told) (sym is) (record {
  agrees = agrees;
  dirs = subst (AreDirs terms) (sym same) are;
})

-- a table after a call
pub ready_after : (before told : Option FileMap) (old new : Kept) → IsReady before old → Stays old new → IfSome told (Agrees (store new)) → IsReady told new
ready_after before told old new r stays agrees = record {
  agrees = agrees;
  dirs = subst (λ (d : List (List ℕ)). AreDirs new.terms d) (sym stays.dirs) (subst (λ (t : Terms). AreDirs t (store old).dirs) (sym stays.terms) r.dirs);
}
