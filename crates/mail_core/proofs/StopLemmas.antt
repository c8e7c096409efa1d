-- The first runner whose child runs, and its step behind a Stop.
use Rattle.std.proofs.Common.{◌≡◌, ◌≢◌, ℕ, ◌+◌, ◌<◌, suc, List, [], ◌∷◌, ◌++◌, length, take, drop, get_or, Bool, true, false, cond, Option, Some, None, Result, Ok, Err, refl, sym, ◌∙◌, ap, subst, map, arith, true≢false}
use Rattle.std.specs.Prelude.{All, count_by, is_some, nat_lt}
use Rattle.std.specs.List.{position, position_or_len, remove}
use Rattle.std.specs.Option.{option_map}
use Rattle.std.proofs.lemmas.Bool.{ltb-false, ltb-true}
use Rattle.std.proofs.lemmas.List.{get_or-take, length-take-le}
use Rattle.std.proofs.lemmas.List.Elements.{All-from_get_or, All-head, All-nil, All-tail}
use Rattle.std.proofs.lemmas.List.Sums.{fails_before_first, passes_at_first, split_at_first}
use Rattle.queue_table.specs.Calls.{HoldsTable, Tallies}
use Rattle.queue_table.specs.declared.table.Table.{Table as Kept}
use Rattle.queue_table.specs.declared.waiting.Holder.{Holder as Held}
use Rattle.queue_run.specs.Holders.{Attempt, Holder, attempt_of, holder_of}
use Rattle.queue_run.specs.Steps.{Luck}
use Rattle.queue_run.specs.Working.{Bench, IsWhole}
use Rattle.queue_run.specs.declared.runner.RunStop.{RunStop}
use Rattle.queue_run.specs.declared.runner.Runner.{Runner}
use Rattle.queue_run.specs.declared.runner.Running.{Running}
use Rattle.mail_core.specs.Holding.{held_as}
use Rattle.mail_core.specs.Idling.{Taken, first_running, past, running_by, stopped_by}
use Rattle.mail_core.specs.Judges.{JudgeSeen}
use Rattle.mail_core.specs.Resting.{IsTakenMeant, IsTakenRead, ground_at}
use Rattle.mail_core.specs.Sites.{Site}
use Rattle.mail_core.specs.States.{Seat, State}
use Rattle.mail_core.specs.declared.act.Act.TheVariants.{Ended}
use Rattle.mail_core.specs.declared.crew.Crew.{Crew}
use Rattle.mail_core.specs.inner.Carrying.{Carries, HasCauses}
use Rattle.mail_core.specs.Crews.{IsCrew, IsListOf, IsManned, IsWaiting}
use Rattle.mail_core.specs.inner.Turns.{Happened, Stops}
use Rattle.mail_core.proofs.LaneLemmas.{counts_one}
use Rattle.mail_core.proofs.HoldLemmas.{holder_at, seats_apart}
use Rattle.mail_core.proofs.TakeLemmas.{AreOthers, Took, goes_well, happened_none, happened_stop, took_by}

abbrev pub runs : Runner → Bool
runs r = is_some r.running

at_rest_as : (o : Option Running) → is_some o ≡ false → option_map attempt_of o ≡ None
at_rest_as None e = refl
at_rest_as (Some r) e = absurd (true≢false e)

runs_as : (o : Option Running) → is_some o ≡ true → (attempt : Attempt) × (option_map attempt_of o ≡ Some attempt)
runs_as None e = absurd (true≢false (sym e))
runs_as (Some r) e = (attempt_of r, refl)

-- ---- where the first one is

-- a list around one of its items
pub record IsSplit (xs : List Runner) (k : ℕ) (r : Runner) : Type 0 where
  pub front : List Runner
  pub back : List Runner
  pub whole : xs ≡ front ++ r ∷ back
  pub left : remove xs k ≡ front ++ back
  pub rest : All (λ (x : Runner). runs x ≡ false) front
  pub going : runs r ≡ true

some_place : (b : Bool) (n k : ℕ) → cond b (Some n) None ≡ Some k → (b ≡ true) × (n ≡ k)
some_place true n k e = (refl, cc e)
some_place false n k e = cc e

pub split_first : (xs : List Runner) (k : ℕ) (r : Runner) → position runs xs ≡ Some k → r ≡ get_or xs k r → IsSplit xs k r
split_first xs k r at is =
    let p = some_place (nat_lt (position_or_len runs xs) (length xs)) (position_or_len runs xs) k at in
    let lt : position_or_len runs xs < length xs = ltb-true (position_or_len runs xs) (length xs) p.0 in
    let here : get_or xs (position_or_len runs xs) r ≡ r = ap (λ n. get_or xs n r) p.1 ∙ sym is in record {
      front = take (position_or_len runs xs) xs;
      back = drop (position_or_len runs xs + 1) xs;
      whole = split_at_first runs xs r lt ∙ ap (λ q. take (position_or_len runs xs) xs ++ q ∷ drop (position_or_len runs xs + 1) xs) here;
      left = ap (remove xs) (sym p.1) ∙ ap (λ n. take (position_or_len runs xs) xs ++ drop n xs) {x = suc (position_or_len runs xs)} {y = position_or_len runs xs + 1} (omega arith);
      rest = All-from_get_or (λ (x : Runner). runs x ≡ false) (take (position_or_len runs xs) xs) r
          (λ i within. let short = length-take-le (position_or_len runs xs) xs (omega (arith, lt)) in
          ap runs (get_or-take (position_or_len runs xs) xs i r (omega (arith, within, short))) ∙ fails_before_first runs xs i r (omega (arith, within, short)));
      going = ap runs (sym here) ∙ passes_at_first runs xs r lt;
    }

-- ---- seats

-- the machine's first one whose child runs is the same
pub record IsTakenOut (r : Runner) (others : List Runner) (seats : List Seat) : Type 0 where
  pub t : Taken
  pub is : first_running seats ≡ Some t
  pub first : holder_of r ≡ t.seat.holder
  pub later : map holder_of others ≡ map holder_at t.others
  pub counts : (p : Held → Bool) → count_by p (map held_as (t.seat ∷ t.others)) ≡ count_by p (map held_as seats)

pub taken_out : (front back : List Runner) (r : Runner) (seats : List Seat) → map holder_of (front ++ r ∷ back) ≡ map holder_at seats → All (λ (x : Runner). runs x ≡ false) front → runs r ≡ true → IsTakenOut r (front ++ back) seats
taken_out [] back r [] same rest going = cc same
taken_out [] back r (seat ∷ seats) same rest going =
    let first : holder_of r ≡ seat.holder = cc same in
    let a = runs_as r.running going in record {
      t = record { seat = seat; others = seats };
      is = ap (λ o. running_by seat seats o (first_running seats)) (ap (λ (h : Holder). h.running) (sym first) ∙ a.1);
      first = first;
      later = cc same;
      counts = λ p. refl;
    }
taken_out (x ∷ front) back r [] same rest going = cc same
taken_out (x ∷ front) back r (seat ∷ seats) same rest going =
    let first : holder_of x ≡ seat.holder = cc same in
    let later : map holder_of (front ++ r ∷ back) ≡ map holder_at seats = cc same in
    let o = taken_out front back r seats later (All-tail (λ (q : Runner). runs q ≡ false) x front rest) going in
    let calm : seat.holder.running ≡ None = ap (λ (h : Holder). h.running) (sym first) ∙ at_rest_as x.running (All-head (λ (q : Runner). runs q ≡ false) x front rest) in record {
      t = record { seat = o.t.seat; others = seat ∷ o.t.others };
      is = ap (λ q. running_by seat seats q (first_running seats)) calm ∙ ap (past seat) o.is;
      first = o.first;
      later = ap (λ h. h ∷ map holder_of (front ++ back)) first ∙ ap (λ q. seat.holder ∷ q) o.later;
      counts = λ p.
          let c = counts_one p (held_as o.t.seat) (map held_as (seat ∷ o.t.others)) in
          let d = counts_one p (held_as seat) (map held_as o.t.others) in
          let e = counts_one p (held_as o.t.seat) (map held_as o.t.others) in
          let f = counts_one p (held_as seat) (map held_as seats) in
          let h = o.counts p in
          omega (arith, c, d, e, f, h);
    }

none_taken : (rs : List Runner) (seats : List Seat) → map holder_of rs ≡ map holder_at seats → All (λ (x : Runner). runs x ≡ false) rs → first_running seats ≡ None
none_taken [] [] same rest = refl
none_taken [] (seat ∷ seats) same rest = cc same
none_taken (x ∷ rs) [] same rest = cc same
none_taken (x ∷ rs) (seat ∷ seats) same rest =
    let first : holder_of x ≡ seat.holder = cc same in
    let later : map holder_of rs ≡ map holder_at seats = cc same in
    ap (λ q. running_by seat seats q (first_running seats)) (ap (λ (h : Holder). h.running) (sym first) ∙ at_rest_as x.running (All-head (λ (q : Runner). runs q ≡ false) x rs rest))
    ∙ ap (past seat) (none_taken rs seats later (All-tail (λ (q : Runner). runs q ≡ false) x rs rest))

none_runs : (xs : List Runner) → position runs xs ≡ None → All (λ (x : Runner). runs x ≡ false) xs
none_runs [] at = All-nil (λ (x : Runner). runs x ≡ false)
none_runs (x ∷ xs) at = All-from_get_or (λ (q : Runner). runs q ≡ false) (x ∷ xs) x
    (λ i within. by (nat_lt (position_or_len runs (x ∷ xs)) (length (x ∷ xs))) refl at i within)
  where
    by : (b : Bool) → nat_lt (position_or_len runs (x ∷ xs)) (length (x ∷ xs)) ≡ b → cond b (Some (position_or_len runs (x ∷ xs))) None ≡ None → (i : ℕ) → i < length (x ∷ xs) → runs (get_or (x ∷ xs) i x) ≡ false
    by true e at i within = cc at
    by false e at i within = let far = ltb-false (position_or_len runs (x ∷ xs)) (length (x ∷ xs)) e in fails_before_first runs (x ∷ xs) i x (omega (arith, far, within))

-- ---- the exits

causes_well : (a b : Bench) (luck : Luck) (result : Result (Unit {0}) RunStop) → HasCauses a b luck result → HasCauses a b luck (goes_well result)
causes_well a b luck (Ok u) h = record { spool = h.spool; spawner = h.spawner; dialer = h.dialer }
causes_well a b luck (Err cause) h = record { spool = h.spool; spawner = h.spawner; dialer = h.dialer }

-- the first one whose child runs takes a step
pub stops_one : (j : JudgeSeen) (site : Site) (m : State) (old new : Kept) (crew rest next : Crew) (r : Runner) (k : ℕ) (a b : Bench) (result : Result (Unit {0}) RunStop) → IsCrew site crew m → IsSplit crew.runners.items k r
    → rest.runners.items ≡ remove crew.runners.items k → rest.list ≡ crew.list → rest.waiting ≡ crew.waiting → All (λ (o : Runner). o.id ≢ r.id) rest.runners.items
    → Carries (ground_at j site m) m.table old new r rest next a b result → Stops j site m old new next a b (goes_well result)
stops_one j site m old new crew rest next r k a b result is split left list waiting apart c =
    let o = taken_out split.front split.back r m.seats (ap (map holder_of) (sym split.whole) ∙ is.runners) split.rest split.going in
    let t = subst (Took j site m old new rest next a b result) o.first (took_by j site m old new r rest next a b result c) in
    let later : map holder_of rest.runners.items ≡ map holder_at o.t.others = ap (map holder_of) (left ∙ split.left) ∙ o.later in
    let others : AreOthers site rest o.t.seat o.t.others m.list = record {
      runners = later;
      apart = subst (λ n. All (λ (s : Seat). s.holder.id ≢ n) o.t.others) (ap (λ (h : Holder). h.id) o.first) (seats_apart r.id rest.runners.items o.t.others later apart);
      waiting = subst (λ w. IsWaiting site w (o.t.seat ∷ o.t.others)) (sym waiting) (record { lanes = is.waiting.lanes; other = is.waiting.other; holders = λ p. o.counts p ∙ is.waiting.holders p });
      list = subst (λ q. IsListOf site.plan q m.list) (sym list) is.list;
    } in record {
      choice = Some t.luck;
      meant = subst (IsTakenMeant j site m t.luck) (sym o.is) t.meant;
      read = λ files told stands. subst (IsTakenRead m t.luck) (sym o.is) (t.read files told stands);
      happened = subst (λ q. Happened site m q old new next a b (goes_well result)) (sym (ap (stopped_by site m (Some t.luck)) o.is))
          (happened_stop site m old new rest next a b o.t.seat o.t.others m.list [] t.luck result others t.worked t.comes);
      causes = causes_well a b t.luck result t.causes;
    }

abbrev NoneAt : Site → State → Kept → Crew → Bench → Option Taken → Type 0
NoneAt site m old crew a t = Happened site m (stopped_by site m None t) old old crew a a (Ok Ended)

-- no child runs any more
pub stops_none : (j : JudgeSeen) (site : Site) (m : State) (old : Kept) (crew : Crew) (a : Bench) → IsCrew site crew m → IsManned old a.spawner crew → HoldsTable old m.table → IsWhole site.config old → Tallies old a.spool
    → position runs crew.runners.items ≡ None → Stops j site m old old crew a a (Ok Ended)
stops_none j site m old crew a is manned holds whole tallies none = record {
  choice = None;
  meant = tt;
  read = λ files told stands. tt;
  happened = subst (NoneAt site m old crew a) (sym (none_taken crew.runners.items m.seats is.runners (none_runs crew.runners.items none)))
      (happened_none site m (stopped_by site m None None) old crew a Ended refl refl (record { runners = is.runners; waiting = is.waiting; list = is.list }) manned holds whole tallies);
  causes = record { spool = refl; spawner = refl; dialer = refl };
}
