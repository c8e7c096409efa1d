-- A runner that is taken out of its crew.
use Rattle.std.proofs.Common.{◌≡◌, ◌≢◌, ℕ, ◌<◌, List, [], ◌∷◌, ◌++◌, length, get_or, Option, Some, None, Ok, Err, refl, sym, ◌∙◌, ap, subst, arith, map}
use Rattle.std.specs.Prelude.{All, count_by}
use Rattle.std.specs.List.{remove}
use Rattle.std.proofs.lemmas.List.Elements.{All-cons, All-head, All-nil, All-tail, All-weaker}
use Rattle.spawn_edge.specs.Spawned.{Spawned}
use Rattle.spool_store.specs.declared.held.Held.{Held}
use Rattle.queue_table.specs.Calls.{store}
use Rattle.queue_table.specs.Claims.{IsQuiet}
use Rattle.queue_table.specs.declared.waiting.Waiting.{Waiting}
use Rattle.queue_table.specs.declared.table.Table.{Table as Kept}
use Rattle.queue_run.specs.Backs.{Drawer, IsDrawnIn}
use Rattle.queue_run.specs.Holders.{holder_of}
use Rattle.queue_run.specs.declared.runner.Did.TheVariants as did
use Rattle.queue_run.specs.declared.runner.RunStop.TheVariants as stop
use Rattle.queue_run.specs.declared.runner.Runner.{Runner}
use Rattle.mail_core.specs.Holding.{held_as, waiting_of}
use Rattle.mail_core.specs.Sites.{Site}
use Rattle.mail_core.specs.States.{State}
use Rattle.mail_core.specs.declared.crew.Crew.{Crew}
use Rattle.mail_core.specs.inner.Carrying.{IsOut}
use Rattle.mail_core.specs.Crews.{AreBeside, HasPlace, IsAble, IsBeside, IsCrew, IsListOf, IsManned, KeepsReady}
use Rattle.mail_core.specs.inner.Nexts.{IsAlike, IsNext}
use Rattle.mail_core.proofs.AbleLemmas.{beside_out}
use Rattle.mail_core.proofs.CarryLemmas.{quiet_awake}
use Rattle.mail_core.proofs.HoldLemmas.{holder_at, places_same}

-- what all have, has one in front too
moved : (P : Runner → Type 0) (front back : List Runner) (r : Runner) → All P (front ++ r ∷ back) → All P (r ∷ (front ++ back))
moved P [] back r all = all
moved P (x ∷ front) back r all =
    let rest = moved P front back r (All-tail P x (front ++ r ∷ back) all) in
    All-cons P r (x ∷ (front ++ back)) (All-head P r (front ++ back) rest) (All-cons P x (front ++ back) (All-head P x (front ++ r ∷ back) all) (All-tail P r (front ++ back) rest))

pub out_of : (kept : Kept) (spawner : Spawned) (crew rest : Crew) (r : Runner) (front back : List Runner) → IsManned kept spawner crew → crew.runners.items ≡ front ++ r ∷ back → rest.runners.items ≡ front ++ back → rest.waiting ≡ crew.waiting → IsOut kept spawner rest r
out_of kept spawner crew rest r front back manned whole left waiting = record {
  able = record {
    each = subst (λ q. All (IsAble kept spawner) (r ∷ q)) (sym left) (moved (IsAble kept spawner) front back r (subst (All (IsAble kept spawner)) whole manned.able.each));
    beside = subst (λ q. AreBeside spawner (r ∷ q)) (sym left) (beside_out spawner front back r (subst (AreBeside spawner) whole manned.able.beside));
  };
  held = subst (λ w. All (HasPlace w) (r ∷ rest.runners.items)) (sym waiting) (subst (λ q. All (HasPlace crew.waiting) (r ∷ q)) (sym left) (moved (HasPlace crew.waiting) front back r (subst (All (HasPlace crew.waiting)) whole manned.held)));
  quiet = subst (λ w. IsQuiet w (store kept).entries) (sym waiting) manned.quiet;
}

-- the others are of other entries
pub out_apart : (kept : Kept) (spawner : Spawned) (rest : Crew) (r : Runner) → IsOut kept spawner rest r → All (λ (o : Runner). o.id ≢ r.id) rest.runners.items
out_apart kept spawner rest r out = All-weaker (IsBeside spawner r) (λ (o : Runner). o.id ≢ r.id) (λ o h. h.ids) rest.runners.items out.able.beside.0

-- the first of a list, and what is left of it
pub front_split : (xs : List Runner) (r : Runner) → 0 < length xs → r ≡ get_or xs 0 r → xs ≡ r ∷ remove xs 0
front_split [] r some is = absurd (omega (arith, some))
front_split (x ∷ xs) r some is = ap (λ q. q ∷ xs) (sym is)

pub nothing : (xs : List Runner) → length xs ≡ 0 → xs ≡ []
nothing [] none = refl
nothing (x ∷ xs) none = absurd (omega (arith, none))

-- a crew that looked for the next entry may go on
pub manned_alike : (kept : Kept) (spawner : Spawned) (crew now : Crew) → IsAlike crew now → IsQuiet now.waiting (store kept).entries → IsManned kept spawner crew → IsManned kept spawner now
manned_alike kept spawner crew now same quiet manned = record {
  able = record {
    each = subst (λ v. All (IsAble kept spawner) v.items) (sym same.runners) manned.able.each;
    beside = subst (λ v. AreBeside spawner v.items) (sym same.runners) manned.able.beside;
  };
  held = subst (λ v. All (HasPlace now.waiting) v.items) (sym same.runners) (places_same crew.waiting now.waiting crew.runners.items same.waiting manned.held);
  quiet = quiet;
}

-- nobody was asked for rows
pub drawn_none : (d : Drawer) → IsDrawnIn d d (Err stop.NoMemory)
drawn_none d = record {
  steady = record { tells = refl; stays = λ tells receiver rows. (λ x. x, λ x. x); later = omega arith };
  cause = refl;
}

pub drawn_calm : (d : Drawer) → IsDrawnIn d d (Ok did.Waits)
drawn_calm d = record {
  steady = record { tells = refl; stays = λ tells receiver rows. (λ x. x, λ x. x); later = omega arith };
  cause = refl;
}

-- ---- the next entry, whatever the moment is before which there is none

next_quiet : (w : Waiting) (q : ℕ) (list : Option (List ℕ)) (moment : ℕ) (entries : List Held) (o : Option ℕ) → IsNext w list moment entries o → IsNext (record w { quiet = q }) list moment entries o
next_quiet w q None moment entries None next = next
next_quiet w q None moment entries (Some id) next = record { held = next.held; among = next.among; is = next.is; may = next.may; least = next.least }
next_quiet w q (Some ids) moment entries None next = next
next_quiet w q (Some ids) moment entries (Some id) next = record { front = next.front; later = next.later; list = next.list; passed = next.passed; held = next.held; among = next.among; is = next.is; free = next.free }

pub next_alike : (crew now : Crew) (moment : ℕ) (entries : List Held) (o : Option ℕ) → IsAlike crew now → IsNext crew.waiting crew.list moment entries o → IsNext now.waiting now.list moment entries o
next_alike crew now moment entries o same next =
    subst (λ l. IsNext now.waiting l moment entries o) (sym same.list)
    (subst (λ w. IsNext w crew.list moment entries o) (sym same.waiting) (next_quiet crew.waiting now.waiting.quiet crew.list moment entries o next))

-- ---- new entries

quiet_own : (w now : Waiting) → now ≡ record w { quiet = 0 } → now ≡ record w { quiet = now.quiet }
quiet_own w now is = is ∙ ap (λ q. record w { quiet = q }) (sym (ap (λ (v : Waiting). v.quiet) is))

-- a table that leaves each runner ready leaves a crew so that it may go on, once it is awake
pub manned_woken : (old new : Kept) (spawner : Spawned) (crew now : Crew) → now.runners ≡ crew.runners → now.waiting ≡ record crew.waiting { quiet = 0 }
    → KeepsReady old new → IsManned old spawner crew → IsManned new spawner now
manned_woken old new spawner crew now same awake keeps manned = record {
  able = record {
    each = subst (λ v. All (IsAble new spawner) v.items) (sym same)
        (All-weaker (IsAble old spawner) (IsAble new spawner) (λ r able. record { ready = keeps r able.ready; child = able.child }) crew.runners.items manned.able.each);
    beside = subst (λ v. AreBeside spawner v.items) (sym same) manned.able.beside;
  };
  held = subst (λ v. All (HasPlace now.waiting) v.items) (sym same) (places_same crew.waiting now.waiting crew.runners.items (quiet_own crew.waiting now.waiting awake) manned.held);
  quiet = quiet_awake now.waiting (store new).entries (ap (λ (v : Waiting). v.quiet) awake);
}

-- and it stands for the same seats
pub crew_woken : (site : Site) (crew now : Crew) (m n : State) → now.runners ≡ crew.runners → now.list ≡ crew.list → now.waiting ≡ record crew.waiting { quiet = 0 } → n.seats ≡ m.seats → n.list ≡ m.list → IsCrew site crew m → IsCrew site now n
crew_woken site crew now m n runners list awake seats ids is = record {
  runners = ap (λ v. map holder_of v.items) runners ∙ is.runners ∙ ap (map holder_at) (sym seats);
  waiting = record {
    lanes = ap (λ (w : Waiting). w.lanes) awake ∙ is.waiting.lanes;
    other = ap (λ (w : Waiting). w.other) awake ∙ is.waiting.other;
    holders = λ p. ap (λ s. count_by p (map held_as s)) seats ∙ is.waiting.holders p ∙ sym (ap (λ (w : Waiting). count_by p w.holders) awake);
  };
  list = subst (λ q. IsListOf site.plan now.list q) (sym ids) (subst (λ q. IsListOf site.plan q m.list) (sym list) is.list);
}

-- ---- a new crew

pub crew_new : (site : Site) (crew : Crew) (m : State) → crew.runners.items ≡ [] → crew.waiting ≡ waiting_of site [] → m.seats ≡ [] → IsListOf site.plan crew.list m.list → IsCrew site crew m
crew_new site crew m runners waiting seats list = record {
  runners = ap (map holder_of) runners ∙ ap (map holder_at) (sym seats);
  waiting = record {
    lanes = ap (λ (w : Waiting). w.lanes) waiting;
    other = ap (λ (w : Waiting). w.other) waiting;
    holders = λ p. ap (λ s. count_by p (map held_as s)) seats ∙ sym (ap (λ (w : Waiting). count_by p w.holders) waiting);
  };
  list = list;
}

pub manned_new : (site : Site) (kept : Kept) (spawner : Spawned) (crew : Crew) → crew.runners.items ≡ [] → crew.waiting ≡ waiting_of site [] → IsManned kept spawner crew
manned_new site kept spawner crew runners waiting = record {
  able = record {
    each = subst (All (IsAble kept spawner)) (sym runners) (All-nil (IsAble kept spawner));
    beside = subst (AreBeside spawner) (sym runners) tt;
  };
  held = subst (All (HasPlace crew.waiting)) (sym runners) (All-nil (HasPlace crew.waiting));
  quiet = quiet_awake crew.waiting (store kept).entries (ap (λ (w : Waiting). w.quiet) waiting);
}
