-- Runners that are ready: their own entry and those of others, after a command.
use Rattle.std.proofs.Common.{◌≡◌, ◌≢◌, ⊎_elim, ℕ, zero, suc, ◌<◌, List, [], ◌∷◌, length, map, get_or, Bool, true, false, ◌||◌, Option, Some, None, if◌then◌else◌, refl, sym, ◌∙◌, ap, subst, arith, eq-eqb, true≢false, reverse, Contains, Less}
use Rattle.std.specs.Prelude.{All, IfSome, eqb, nat_eq}
use Rattle.std.specs.List.{AllByRecursion}
use Rattle.std.specs.List.Sorted.{IsStrictlySortedBy}
use Rattle.std.specs.Ordering.{nat_cmp}
use Rattle.std.proofs.lemmas.Cmp.{ranked}
use Rattle.std.proofs.lemmas.List.Elements.{All-contains, All-cons, All-nil, All-head, All-tail}
use Rattle.mail_base.specs.declared.control.Control.{Control}
use Rattle.mail_base.specs.declared.control.Row.{Row}
use Rattle.mail_base.specs.declared.control.State.{State}
use Rattle.mail_base.specs.declared.outcome.Result1.{Result1}
use Rattle.mail_base.specs.States.{is_queued}
use Rattle.spool_store.specs.Entries.{Table}
use Rattle.spool_store.specs.Stores.{recontrolled}
use Rattle.spool_store.specs.declared.held.Held.{Held}
use Rattle.spool_store.proofs.Replacing.{contains_map}
use Rattle.spool_store.proofs.Standing.{contains_cases}
use Rattle.queue_table.specs.Calls.{HoldsTable, store}
use Rattle.queue_table.specs.Commands.{Command, after, changed_by}
use Rattle.queue_table.specs.Results.{recorded, restated, state_after, with_results}
use Rattle.queue_table.specs.Soundness.{IsTried}
use Rattle.queue_table.specs.declared.table.Table.{Table as Kept}
use Rattle.queue_table.specs.declared.terms.Terms.{Terms}
use Rattle.queue_table.proofs.StayLemmas.{held_stays, reserve_stays}
use Rattle.queue_run.specs.declared.batch.Batch.{Batch}
use Rattle.queue_run.specs.declared.runner.Runner.{Runner}
use Rattle.queue_run.specs.declared.runner.Running.{Running}
use Rattle.queue_run.specs.Batches.{is_among}
use Rattle.queue_run.specs.Ready.{AreAllApart, AreApart, IsAttempt, IsReady, IsUntried}
use Rattle.queue_run.specs.Working.{KeepsOthersReady}

-- ---- entries of a store in order of id

above_held : (n : ℕ) (xs : List Held) → AllByRecursion (λ y. nat_cmp n y ≡ Less) (map (λ (h : Held). h.entry.id) xs) → All (λ (h : Held). n < h.entry.id) xs
above_held n [] h = All-nil (λ (h : Held). n < h.entry.id)
above_held n (x ∷ xs) h = All-cons (λ (h : Held). n < h.entry.id) x xs (ranked n x.entry.id Less (sym h.0)) (above_held n xs h.1)

sorted_first : (x h : Held) (xs : List Held) → IsStrictlySortedBy nat_cmp (map (λ (h : Held). h.entry.id) (x ∷ xs)) → Contains xs h → x.entry.id < h.entry.id
unfolding IsStrictlySortedBy
sorted_first x h xs up k = All-contains (λ (q : Held). x.entry.id < q.entry.id) xs h (above_held x.entry.id xs up.0) k

sorted_rest : (x : Held) (xs : List Held) → IsStrictlySortedBy nat_cmp (map (λ (h : Held). h.entry.id) (x ∷ xs)) → IsStrictlySortedBy nat_cmp (map (λ (h : Held). h.entry.id) xs)
unfolding IsStrictlySortedBy
sorted_rest x xs up = up.1

none_held : (h : Held) → Contains [] h → ⊥
none_held h k = let lt = k.1 in omega (arith, lt)

-- a store holds one entry of an id
pub one_held : (xs : List Held) (h k : Held) → IsStrictlySortedBy nat_cmp (map (λ (h : Held). h.entry.id) xs) → Contains xs h → Contains xs k → h.entry.id ≡ k.entry.id → h ≡ k
one_held [] h k up a b same = absurd (none_held h a)
one_held (x ∷ xs) h k up a b same = ⊎_elim
    (λ (p : x ≡ h). ⊎_elim
    (λ (q : x ≡ k). sym p ∙ q)
    (λ (q : Contains xs k). let lt = sorted_first x k xs up q in let e = ap (λ (z : Held). z.entry.id) p in absurd (omega (arith, lt, e, same)))
    (contains_cases x k xs b))
    (λ (p : Contains xs h). ⊎_elim
    (λ (q : x ≡ k). let lt = sorted_first x h xs up p in let e = ap (λ (z : Held). z.entry.id) q in absurd (omega (arith, lt, e, same)))
    (λ (q : Contains xs k). one_held xs h k (sorted_rest x xs up) p q same)
    (contains_cases x k xs b))
    (contains_cases x h xs a)

-- ---- rows after a record

restated_long : (place : ℕ) (state : State) (rows : List Row) → length (restated place state rows) ≡ length rows
restated_long place state [] = refl
restated_long zero state (row ∷ rows) = refl
restated_long (suc place) state (row ∷ rows) = let ih = restated_long place state rows in omega (arith, ih)

restated_other : (place other : ℕ) (state : State) (rows : List Row) (d : Row) → other ≢ place → get_or (restated place state rows) other d ≡ get_or rows other d
restated_other place other state [] d ne = refl
restated_other zero zero state (row ∷ rows) d ne = absurd (ne refl)
restated_other zero (suc other) state (row ∷ rows) d ne = refl
restated_other (suc place) zero state (row ∷ rows) d ne = refl
restated_other (suc place) (suc other) state (row ∷ rows) d ne = restated_other place other state rows d (λ e. ne (ap suc e))

results_long : (old : Bool) (places : List ℕ) (results : List Result1) (rows : List Row) → length (with_results old places results rows) ≡ length rows
results_long old [] results rows = refl
results_long old (p ∷ ps) [] rows = refl
results_long old (p ∷ ps) (r ∷ rs) rows = results_long old ps rs (restated p (state_after old r) rows) ∙ restated_long p (state_after old r) rows

nat_same : (a b : ℕ) → nat_eq a b ≡ false → a ≢ b
nat_same a b isnt e = true≢false (sym (eq-eqb a b e) ∙ isnt)

or_false : (a b : Bool) → (a || b) ≡ false → (a ≡ false) × (b ≡ false)
or_false true b h = cc h
or_false false b h = (refl, h)

results_other : (old : Bool) (places : List ℕ) (results : List Result1) (rows : List Row) (place : ℕ) (d : Row) → is_among places place ≡ false → get_or (with_results old places results rows) place d ≡ get_or rows place d
results_other old [] results rows place d isnt = refl
results_other old (p ∷ ps) [] rows place d isnt = refl
results_other old (p ∷ ps) (r ∷ rs) rows place d isnt =
    let parts = or_false (nat_eq place p) (is_among ps place) isnt in
    results_other old ps rs (restated p (state_after old r) rows) place d parts.1
    ∙ restated_other p place (state_after old r) rows d (nat_same place p parts.0)

still_tried : (old : Bool) (places : List ℕ) (results : List Result1) (rows : List Row) (place : ℕ) → is_among places place ≡ false → IsTried rows place → IsTried (with_results old places results rows) place
still_tried old places results rows place isnt tried = record {
  within = let w = tried.within in let l = results_long old places results rows in omega (arith, w, l);
  queued = λ d. subst (λ (q : Row). is_queued q.state ≡ true) (sym (results_other old places results rows place d isnt)) (tried.queued d);
}

still_untried_batch : (old : Bool) (places : List ℕ) (results : List Result1) (rows : List Row) (xs : List ℕ) → All (λ p. is_among places p ≡ false) xs → All (IsTried rows) xs → All (IsTried (with_results old places results rows)) xs
still_untried_batch old places results rows [] apart tried = All-nil (IsTried (with_results old places results rows))
still_untried_batch old places results rows (x ∷ xs) apart tried =
    All-cons (IsTried (with_results old places results rows)) x xs
    (still_tried old places results rows x (All-head (λ p. is_among places p ≡ false) x xs apart) (All-head (IsTried rows) x xs tried))
    (still_untried_batch old places results rows xs (All-tail (λ p. is_among places p ≡ false) x xs apart) (All-tail (IsTried rows) x xs tried))

-- batches that have no row of a batch that is recorded are still to be tried
pub still_untried : (old : Bool) (places : List ℕ) (results : List Result1) (rows : List Row) (batches : List Batch) → All (AreApart places) batches → All (IsUntried rows) batches → All (IsUntried (with_results old places results rows)) batches
still_untried old places results rows [] apart untried = All-nil (IsUntried (with_results old places results rows))
still_untried old places results rows (b ∷ bs) apart untried =
    All-cons (IsUntried (with_results old places results rows)) b bs
    (let u = All-head (IsUntried rows) b bs untried in record { some = u.some; users = u.users; each = still_untried_batch old places results rows b.places (All-head (AreApart places) b bs apart) u.each })
    (still_untried old places results rows bs (All-tail (AreApart places) b bs apart) (All-tail (IsUntried rows) b bs untried))

-- ---- readiness

pub at_rest_running : {A : Type 0} (o : Option A) (P : A → Type 0) → o ≡ None → IfSome o P
at_rest_running o P is = subst (λ q. IfSome q P) (sym is) tt

recontrolled_own : (id : ℕ) (c : Control) (h : Held) → h.entry.id ≡ id → (recontrolled id c h).entry.control ≡ c
recontrolled_own id c h is = ap (λ (b : Bool). (if b then record h { entry = record h.entry { control = c } } else h).entry.control) (eq-eqb h.entry.id id is)

recontrolled_id : (id : ℕ) (c : Control) (h : Held) → (recontrolled id c h).entry.id ≡ h.entry.id
recontrolled_id id c h = by (eqb h.entry.id id)
  where
    by : (b : Bool) → (if b then record h { entry = record h.entry { control = c } } else h).entry.id ≡ h.entry.id
    by true = refl
    by false = refl

-- a runner that isn't running, after the record of a batch that has no row of those that are left
pub ready_recorded : (old new : Kept) (before r : Runner) (ready : IsReady old before) (places : List ℕ) (results : List Result1) (terms : Terms) (moment : ℕ)
    → (store new).entries ≡ map (recontrolled before.id (recorded terms places results moment ready.held.entry.control)) (store old).entries
    → r.id ≡ before.id → r.running ≡ None → All (IsUntried ready.held.entry.control.rows) (reverse r.rest.items) → AreAllApart (reverse r.rest.items) → All (AreApart places) (reverse r.rest.items)
    → IsReady new r
ready_recorded old new before r ready places results terms moment is own rests untried apart others =
    let c = recorded terms places results moment ready.held.entry.control in record {
      held = recontrolled before.id c ready.held;
      among = subst (λ q. Contains q (recontrolled before.id c ready.held)) (sym is) (contains_map (recontrolled before.id c) ready.held (store old).entries ready.among);
      is = recontrolled_id before.id c ready.held ∙ ready.is ∙ sym own;
      untried = subst (λ (d : Control). All (IsUntried d.rows) (reverse r.rest.items)) (sym (recontrolled_own before.id c ready.held ready.is))
          (still_untried (Rattle.queue_table.specs.Results.is_old terms ready.held.entry.control.created moment) places results ready.held.entry.control.rows (reverse r.rest.items) others untried);
      apart = apart;
      running = at_rest_running r.running (IsAttempt new (recontrolled before.id c ready.held).entry (reverse r.rest.items)) rests;
    }

attempt_stays : (old new : Kept) (table : Table) (command : Command) (h k : Held) (rest : List Batch) (o : Option Running) → HoldsTable old table → HoldsTable new (after table command) → changed_by command ≢ Some h.entry.id → k.entry ≡ h.entry
    → IfSome o (IsAttempt old h.entry rest) → IfSome o (IsAttempt new k.entry rest)
attempt_stays old new table command h k rest None was is ne same a = tt
attempt_stays old new table command h k rest (Some r) was is ne same a = record {
  reserved = reserve_stays old new table command r.reserved was is (λ e. ne (e ∙ ap (λ (n : ℕ). Some n) a.own)) a.reserved;
  own = a.own ∙ sym (ap (λ q. q.id) same);
  control = a.control ∙ sym (ap (λ q. q.control) same);
  each = a.each;
  apart = a.apart;
}

-- a command of another entry leaves a runner ready
pub ready_stays : (old new : Kept) (table : Table) (command : Command) (r : Runner) → HoldsTable old table → HoldsTable new (after table command) → changed_by command ≢ Some r.id → IsReady old r → IsReady new r
ready_stays old new table command r was is ne ready =
    let ne_held : changed_by command ≢ Some ready.held.entry.id = λ e. ne (e ∙ ap (λ (n : ℕ). Some n) ready.is) in
    let s = held_stays old new table command ready.held was is ready.among ne_held in record {
      held = s.one;
      among = s.among;
      is = ap (λ q. q.id) s.same ∙ ready.is;
      untried = subst (λ q. All (IsUntried q.control.rows) (reverse r.rest.items)) (sym s.same) ready.untried;
      apart = ready.apart;
      running = attempt_stays old new table command ready.held s.one (reverse r.rest.items) r.running was is ne_held s.same ready.running;
    }

pub others_stay : (old new : Kept) (table : Table) (command : Command) (id : ℕ) → HoldsTable old table → HoldsTable new (after table command) → changed_by command ≡ Some id → KeepsOthersReady old new id
others_stay old new table command id was is changes other ne ready =
    ready_stays old new table command other was is (λ e. ne (some_id (sym e ∙ changes))) ready
  where
    some_id : {a b : ℕ} → Some a ≡ Some b → a ≡ b
    some_id {a} {b} e = cc e
