-- Results for each row of a batch, and commands that are put.
use Rattle.std.proofs.Common.{◌≡◌, ℕ, zero, suc, ◌+◌, ◌<◌, List, [], ◌∷◌, ◌++◌, length, map, take, set, true, false, not, Result, Ok, Err, IfOk, refl, sym, ◌∙◌, ap, subst, arith, reverse, Contains, OnOk}
use Rattle.std.specs.Prelude.{All, IfErr}
use Rattle.std.specs.List.{list_all}
use Rattle.std.specs.List.Sorted.{IsStrictlySortedBy}
use Rattle.std.specs.Ordering.{nat_cmp}
use Rattle.std.proofs.lemmas.Bool.{and_left, and_right}
use Rattle.std.proofs.lemmas.List.{map-append, take_more, take_more_set, reverse-append}
use Rattle.std.proofs.lemmas.List.Elements.{All-head}
use Rattle.mail_base.specs.States.{is_open, is_queued}
use Rattle.mail_base.specs.declared.control.Row.{Row}
use Rattle.mail_base.specs.declared.control.State.{State}
use Rattle.mail_base.specs.declared.control.State.TheVariants.{Queued, Sent, Failed, Returned, Dead}
use Rattle.mail_base.specs.declared.outcome.Result1.{Result1}
use Rattle.spool_store.specs.declared.held.Held.{Held}
use Rattle.queue_table.specs.Calls.{store}
use Rattle.queue_table.specs.Reserves.{CanReserve, IsReserved}
use Rattle.queue_table.specs.Soundness.{IsTried}
use Rattle.queue_table.specs.declared.recording.Reserved.{Reserved}
use Rattle.queue_table.specs.declared.table.Table.{Table as Kept}
use Rattle.queue_run.specs.declared.batch.Batch.{Batch}
use Rattle.queue_run.specs.declared.runner.Runner.{Runner}
use Rattle.queue_run.specs.Ready.{IsReady, IsUntried}
use Rattle.queue_run.specs.Results.{alike}
use Rattle.queue_run.specs.inner.Puts.{IsPutAs, Put}
use Rattle.queue_run.specs.declared.runner.Did.{Did}
use Rattle.queue_run.specs.declared.runner.Did.TheVariants.{Recorded}
use Rattle.queue_run.specs.declared.runner.RunStop.{RunStop}
use Rattle.queue_run.specs.declared.runner.RunStop.TheVariants.{NoMemory, SpoolFault}
use Rattle.mail_base.specs.declared.control.Control.{Control}
use Rattle.spool_disk.specs.Spooled.{Spooled}
use Rattle.spool_store.specs.Stores.{recontrolled}
use Rattle.queue_table.specs.Commands.Command.{Record}
use Rattle.queue_table.specs.Results.{recorded}
use Rattle.queue_run.proofs.ReadyLemmas.{one_held}

pub alike_long : (one : Result1) (places : List ℕ) → length (alike one places) ≡ length places
alike_long one [] = refl
alike_long one (p ∷ ps) = let ih = alike_long one ps in omega (arith, ih)

-- one result more is set
pub filled_more : (one : Result1) (results : List Result1) (places : List ℕ) (i : ℕ) → i < length results → length results ≡ length places → take i results ≡ alike one (take i places)
    → take (i + 1) (set results i one) ≡ alike one (take (i + 1) places)
filled_more one results places i below long so =
    take_more_set results i one below ∙ ap (λ (q : List Result1). q ++ one ∷ []) so
    ∙ sym (ap (alike one) (take_more places i 0 (omega (arith, below, long))) ∙ map-append _ _ _)

-- what was reserved has the control of the entry that the store holds
pub reserved_control : {E : Type 0} (kept : Kept) (id : ℕ) (h : Held) (result : Result Reserved E) → IsStrictlySortedBy nat_cmp (map (λ (h : Held). h.entry.id) (store kept).entries) → Contains (store kept).entries h → h.entry.id ≡ id
    → IfOk result (λ r. r.room.id ≡ id) → IfOk result (IsReserved (store kept).entries) → IfOk result (λ r. r.room.control ≡ h.entry.control)
reserved_control kept id h (Ok r) up among is own reserved =
    let can = reserved.can in
    reserved.control ∙ ap (λ (q : Held). q.entry.control) (one_held (store kept).entries can.held h up can.among among (can.is ∙ own ∙ sym is))
reserved_control kept id h (Err e) up among is own reserved = tt

-- ---- rows that are still tried

-- an entry with a row that is still tried isn't finished
pub still_open : (rows : List Row) (place : ℕ) → IsTried rows place → list_all (λ (row : Row). not (is_open row.state)) rows ≡ false
still_open [] place tried = let w = tried.within in absurd (omega (arith, w))
still_open (row ∷ rows) zero tried = and_left (not (is_open row.state)) (list_all (λ (row : Row). not (is_open row.state)) rows) (queued_open row.state (tried.queued row))
  where
    queued_open : (s : State) → is_queued s ≡ true → not (is_open s) ≡ false
    queued_open (Queued _) e = refl
    queued_open Sent e = cc e
    queued_open (Failed status note) e = refl
    queued_open (Returned id) e = cc e
    queued_open (Dead status note) e = cc e
still_open (row ∷ rows) (suc place) tried =
    and_right (not (is_open row.state)) (list_all (λ (row : Row). not (is_open row.state)) rows)
    (still_open rows place (record { within = let w = tried.within in omega (arith, w); queued = λ d. tried.queued d }))

-- the first batch of a runner that is ready can be reserved
pub can_reserve : (kept : Kept) (r : Runner) (ready : IsReady kept r) (batch : Batch) (rest : List Batch) → reverse r.rest.items ≡ batch ∷ rest → CanReserve (store kept).entries r.id batch.places
can_reserve kept r ready batch rest is =
    let u = All-head (IsUntried ready.held.entry.control.rows) batch rest (subst (All (IsUntried ready.held.entry.control.rows)) is ready.untried) in record {
      held = ready.held;
      among = ready.among;
      is = ready.is;
      waits = first_open batch.places ready.held.entry.control.rows u.some u.each;
      tried = u.each;
    }
  where
    first_open : (places : List ℕ) (rows : List Row) → 0 < length places → All (IsTried rows) places → list_all (λ (row : Row). not (is_open row.state)) rows ≡ false
    first_open [] rows some each = absurd (omega (arith, some))
    first_open (p ∷ ps) rows some each = still_open rows p (All-head (IsTried rows) p ps each)

-- the last of a list is the first of it, turned round
pub turned : {X : Type 0} (xs ys : List X) (x : X) → xs ≡ ys ++ x ∷ [] → reverse xs ≡ x ∷ reverse ys
turned xs ys x is = ap reverse is ∙ reverse-append ys (x ∷ [])

-- ---- records

-- what failed in the spool didn't fail for want of memory
pub no_memory : {A : Type 0} (r : Result Did RunStop) → IfErr r (λ e. e ≡ SpoolFault) → r ≡ Err NoMemory → A
no_memory r err e = absurd (differ (subst (λ q. IfErr q (λ e. e ≡ SpoolFault)) e err))
  where
    differ : NoMemory ≡ SpoolFault → ⊥
    differ e = cc e

-- what was reserved for rows of an entry is recorded for them
pub put_as : (old new : Kept) (id : ℕ) (places : List ℕ) (results : List Result1) (moment : ℕ) (control : Control) (r : Result Did RunStop) (a b : Spooled) (reserved : Reserved)
    → reserved.room.id ≡ id → reserved.rows ≡ places → reserved.room.control ≡ control
    → Put old new (Record old.terms reserved.room.id reserved.rows results moment) Recorded r a b
    → OnOk r ((store new).entries ≡ map (recontrolled reserved.room.id (recorded old.terms reserved.rows results moment reserved.room.control)) (store old).entries)
    → IsPutAs old new id places results moment control r a b
put_as old new id places results moment control r a b reserved own rows same put entries = record {
  put = subst (λ q. Put old new q Recorded r a b)
      (ap (λ q. Record old.terms q reserved.rows results moment) own ∙ ap (λ q. Record old.terms id q results moment) rows) put;
  entries = subst (λ q. OnOk r ((store new).entries ≡ q))
      (ap (λ q. map (recontrolled q (recorded old.terms reserved.rows results moment reserved.room.control)) (store old).entries) own
      ∙ ap (λ q. map (recontrolled id (recorded old.terms q results moment reserved.room.control)) (store old).entries) rows
      ∙ ap (λ q. map (recontrolled id (recorded old.terms places results moment q)) (store old).entries) same) entries;
}

pub put_alike_as : (old new : Kept) (id : ℕ) (places : List ℕ) (one : Result1) (results : List Result1) (moment : ℕ) (control : Control) (r : Result Did RunStop) (a b : Spooled) (reserved : Reserved)
    → reserved.room.id ≡ id → reserved.rows ≡ places → reserved.room.control ≡ control → results ≡ alike one places
    → Put old new (Record old.terms reserved.room.id reserved.rows results moment) Recorded r a b
    → OnOk r ((store new).entries ≡ map (recontrolled reserved.room.id (recorded old.terms reserved.rows results moment reserved.room.control)) (store old).entries)
    → IsPutAs old new id places (alike one places) moment control r a b
put_alike_as old new id places one results moment control r a b reserved own rows same alike_is put entries =
    subst (λ q. IsPutAs old new id places q moment control r a b) alike_is (put_as old new id places results moment control r a b reserved own rows same put entries)
