-- The exits of a turn in which nothing came, and of one behind a Stop.
use Rattle.std.proofs.Common.{◌≡◌, ◌≢◌, ℕ, ◌+◌, List, [], ◌∷◌, Bool, true, false, Option, Some, None, Result, Ok, Err, if◌then◌else◌, refl, sym, ◌∙◌, ap, subst, map, arith}
use Rattle.std.specs.Prelude.{All, IfSome, count_by}
use Rattle.std.specs.Option.{option_map}
use Rattle.std.proofs.lemmas.List.Elements.{All-cons, All-weaker}
use Rattle.mail_base.specs.declared.config.Config.{Config}
use Rattle.mail_base.specs.declared.control.Control.{Control}
use Rattle.map_tables.specs.Answers.{Loaded}
use Rattle.spawn_edge.specs.Spawned.{IsRunningAt, Spawned}
use Rattle.spool_store.specs.Entries.{Table}
use Rattle.spool_store.specs.declared.held.Held.{Held}
use Rattle.queue_table.specs.Calls.{HoldsTable, Tallies, store}
use Rattle.queue_table.specs.Claims.{is_held, lane_of}
use Rattle.queue_table.specs.declared.table.Table.{Table as Kept}
use Rattle.queue_table.specs.declared.waiting.Holder.{Holder as Place}
use Rattle.queue_table.specs.declared.waiting.Lane.{Lane}
use Rattle.queue_table.specs.declared.waiting.Waiting.{Waiting}
use Rattle.queue_run.specs.Claims.{AreRouted, IsClaimed, holder_for}
use Rattle.queue_run.specs.Deeds.{Claims}
use Rattle.queue_run.specs.Holders.{Holder, attempt_of, holder_of}
use Rattle.queue_run.specs.Meant.{ground_by}
use Rattle.queue_run.specs.Ready.{IsReady}
use Rattle.queue_run.specs.Steps.{Luck}
use Rattle.queue_run.specs.Working.{Bench, IsRead, IsWhole}
use Rattle.queue_run.specs.declared.runner.RunStop.{RunStop}
use Rattle.queue_run.specs.declared.runner.RunStop.TheVariants as stop
use Rattle.queue_run.specs.declared.runner.Runner.{Runner}
use Rattle.queue_run.specs.declared.runner.Running.{Running}
use Rattle.mail_core.specs.Holding.{IsNoneClaimable, held_as, lane_at, waiting_of, without_id}
use Rattle.mail_core.specs.Idling.{Carrying, Claiming, Quiet, Starving, carries, claimed as claim_now, claims, ends_list, idle, over_by, quiet, seat_for}
use Rattle.mail_core.specs.Judges.{JudgeSeen, drawer_of}
use Rattle.mail_core.specs.Plans.{Plan, Serve, Once}
use Rattle.mail_core.specs.Resting.{IsCarryMeant, IsCarryRead, ground_at}
use Rattle.mail_core.specs.Sites.{IsUnder, Site}
use Rattle.mail_core.specs.States.{By, NoMemory, Seat, State, Step, cut, still}
use Rattle.mail_core.specs.declared.act.Act.{Act}
use Rattle.mail_core.specs.declared.crew.Crew.{Crew}
use Rattle.mail_core.specs.inner.Carrying.{Carries, HasCauses, IsHolding, IsOut}
use Rattle.mail_core.specs.Crews.{AreAble, HasPlace, HaveTwo, IsAble, IsBeside, IsCrew, IsListOf, IsManned, IsWaiting}
use Rattle.mail_core.specs.inner.Nexts.{IsAlike}
use Rattle.mail_core.specs.inner.Turns.{Happened, Rests, act_by, finish_by}
use Rattle.mail_core.proofs.AbleLemmas.{none_any, some_all}
use Rattle.mail_core.proofs.CarryLemmas.{quiet_awake}
use Rattle.mail_core.proofs.LaneLemmas.{counts_both, counts_one, lane_same, one_if}
use Rattle.mail_core.proofs.FirstLemmas.{IsChosen}
use Rattle.mail_core.proofs.HoldLemmas.{holder_at, last_held, others_differ, places_more, seats_apart}
use Rattle.mail_core.proofs.TakeLemmas.{AreOthers, Took, act_over, acts, happened_none, happened_rest, over_some, took_by, worked_claim, worked_none}

-- ---- the same site

pub ground_same : (j : JudgeSeen) (site : Site) (m : State) (config : Config) (maps : Loaded) (moment : ℕ) (old new : Kept) (r : Runner) (crew next : Crew) (a b : Bench) (result : Result (Unit {0}) RunStop)
    → IsUnder site config maps → m.latest ≡ moment
    → ((table : Table) → HoldsTable old table → Carries (ground_by config maps moment (drawer_of j)) table old new r crew next a b result) → HoldsTable old m.table
    → Carries (ground_at j site m) m.table old new r crew next a b result
ground_same j site m config maps moment old new r crew next a b result under latest c holds =
    subst (λ q. Carries (ground_by q site.maps m.latest (drawer_of j)) m.table old new r crew next a b result) (sym under.config_is)
    (subst (λ q. Carries (ground_by config q m.latest (drawer_of j)) m.table old new r crew next a b result) (sym under.maps_are)
    (subst (λ q. Carries (ground_by config maps q (drawer_of j)) m.table old new r crew next a b result) (sym latest) (c m.table holds)))

-- the moment before which none may be claimed is none of the machine's
pub crew_alike : (site : Site) (crew now : Crew) (m : State) → IsAlike crew now → IsCrew site crew m → IsCrew site now m
crew_alike site crew now m same is = record {
  runners = ap (λ q. map holder_of q) (ap (λ v. v.items) same.runners) ∙ is.runners;
  waiting = record {
    lanes = ap (λ (w : Waiting). w.lanes) same.waiting ∙ is.waiting.lanes;
    other = ap (λ (w : Waiting). w.other) same.waiting ∙ is.waiting.other;
    holders = λ p. is.waiting.holders p ∙ sym (ap (λ (w : Waiting). count_by p w.holders) same.waiting);
  };
  list = subst (λ q. IsListOf site.plan q m.list) (sym same.list) is.list;
}

causes_acts : (a b : Bench) (luck : Luck) (next : Crew) (result : Result (Unit {0}) RunStop) → HasCauses a b luck result → HasCauses a b luck (acts next result)
causes_acts a b luck next (Ok u) h = record { spool = h.spool; spawner = h.spawner; dialer = h.dialer }
causes_acts a b luck next (Err cause) h = record { spool = h.spool; spawner = h.spawner; dialer = h.dialer }

-- ---- the first one takes a step

-- the machine's first seat is that of the first runner
record IsFront (r : Runner) (others : List Runner) (seats : List Seat) : Type 0 where
  seat : Seat
  later : List Seat
  is : seats ≡ seat ∷ later
  first : holder_of r ≡ seat.holder
  same : map holder_of others ≡ map holder_at later

front_of : (r : Runner) (others : List Runner) (seats : List Seat) → map holder_of (r ∷ others) ≡ map holder_at seats → IsFront r others seats
front_of r others [] same = cc same
front_of r others (seat ∷ later) same = record { seat = seat; later = later; is = refl; first = cc same; same = cc same }

abbrev CarriesAt : Site → State → Kept → Kept → Crew → Bench → Bench → Result Act RunStop → Luck → List Seat → Type 0
CarriesAt site m old new next a b went luck seats = Happened site m (ends_list site (carries site m luck seats)) old new next a b went

pub rests_front : (j : JudgeSeen) (site : Site) (m : State) (old new : Kept) (crew rest next : Crew) (r : Runner) (a b : Bench) (result : Result (Unit {0}) RunStop)
    → IsCrew site crew m → crew.runners.items ≡ r ∷ rest.runners.items → rest.list ≡ crew.list → rest.waiting ≡ crew.waiting → All (λ (o : Runner). o.id ≢ r.id) rest.runners.items → IsNoneClaimable site m
    → Carries (ground_at j site m) m.table old new r rest next a b result → Rests j site m old new next a b (acts next result)
rests_front j site m old new crew rest next r a b result is split list waiting apart none c =
    let o = front_of r rest.runners.items m.seats (ap (map holder_of) (sym split) ∙ is.runners) in
    let t = subst (Took j site m old new rest next a b result) o.first (took_by j site m old new r rest next a b result c) in
    let others : AreOthers site rest o.seat o.later m.list = record {
      runners = o.same;
      apart = subst (λ n. All (λ (s : Seat). s.holder.id ≢ n) o.later) (ap (λ (h : Holder). h.id) o.first) (seats_apart r.id rest.runners.items o.later o.same apart);
      waiting = subst (λ w. IsWaiting site w (o.seat ∷ o.later)) (sym waiting) (subst (IsWaiting site crew.waiting) o.is is.waiting);
      list = subst (λ q. IsListOf site.plan q m.list) (sym list) is.list;
    } in record {
      choice = Carrying t.luck;
      meant = subst (IsCarryMeant j site m t.luck) (sym o.is) (none, t.meant);
      read = λ files told stands. subst (IsCarryRead m t.luck) (sym o.is) (t.read files told stands);
      happened = subst (CarriesAt site m old new next a b (acts next result) t.luck) (sym o.is)
          (happened_rest site m old new rest next a b o.seat o.later m.list [] t.luck result others t.worked t.comes);
      causes = causes_acts a b t.luck next result t.causes;
    }

-- ---- nobody holds an entry

abbrev QuietAt : Site → State → Kept → Crew → Bench → Act → List Seat → Type 0
QuietAt site m old crew a act seats = Happened site m (ends_list site (quiet m seats)) old old crew a a (Ok act)

quiet_happened : (site : Site) (m : State) (old : Kept) (crew : Crew) (a : Bench) (act : Act) → IsCrew site crew m → IsManned old a.spawner crew → HoldsTable old m.table → IsWhole site.config old → Tallies old a.spool
    → over_by site.plan m.list m.seats m.over ≡ finish_by (Ok act) → QuietAt site m old crew a act []
quiet_happened site m old crew a act is manned holds whole tallies over =
    happened_none site m (ends_list site (still m)) old crew a act refl over (record { runners = is.runners; waiting = is.waiting; list = is.list }) manned holds whole tallies

no_seats : (seats : List Seat) → map holder_of [] ≡ map holder_at seats → seats ≡ []
no_seats [] same = refl
no_seats (seat ∷ others) same = cc same

pub rests_quiet : (j : JudgeSeen) (site : Site) (m : State) (old : Kept) (crew : Crew) (a : Bench) → IsCrew site crew m → IsManned old a.spawner crew → HoldsTable old m.table → IsWhole site.config old → Tallies old a.spool
    → m.over ≡ None → crew.runners.items ≡ [] → IsNoneClaimable site m → Rests j site m old old crew a a (Ok (act_by crew.list crew.runners.items))
rests_quiet j site m old crew a is manned holds whole tallies on empty none =
    let e : m.seats ≡ [] = no_seats m.seats (sym (ap (map holder_of) empty) ∙ is.runners) in
    let over = ap (over_by site.plan m.list m.seats) on ∙ act_over site.plan crew.list m.list crew.runners.items m.seats is.list is.runners in record {
      choice = Quiet;
      meant = none;
      read = λ files told stands. tt;
      happened = subst (QuietAt site m old crew a (act_by crew.list crew.runners.items)) (sym e)
          (quiet_happened site m old crew a (act_by crew.list crew.runners.items) is manned holds whole tallies over);
      causes = record { spool = refl; spawner = refl; dialer = refl };
    }

-- ---- a claim

-- there is no memory for it
pub rests_starving : (j : JudgeSeen) (site : Site) (m : State) (old : Kept) (crew : Crew) (a : Bench) → Rests j site m old old crew a a (Err stop.NoMemory)
rests_starving j site m old crew a = record {
  choice = Starving;
  meant = tt;
  read = λ files told stands. tt;
  happened = record {
    deeds = [];
    effects = refl;
    worked = worked_none (store old).dirs m.table a;
    over = over_some site.plan m.list m.seats (By NoMemory);
    left = tt;
  };
  causes = record { spool = refl; spawner = refl; dialer = refl };
}

none_mapped : (o : Option Running) → option_map attempt_of o ≡ None → o ≡ None
none_mapped None e = refl
none_mapped (Some r) e = cc e

-- whoever holds an entry since its claim may step, beside the others
pub claimed_out : (config : Config) (maps : Loaded) (spawner : Spawned) (kept : Kept) (crew now : Crew) (r : Runner) (id : ℕ) (h : Held) → IsManned kept spawner crew → is_held crew.waiting.holders id ≡ false
    → h.entry.id ≡ id → IsClaimed config maps id h.entry.control (holder_of r) → IsReady kept r → IsHolding h.entry crew now → IsOut kept spawner now r
claimed_out config maps spawner kept crew now r id h manned out at claimed ready holding =
    let rs = crew.runners.items in
    let own : r.id ≡ id = ap (λ (q : Holder). q.id) claimed.is in
    let calm : r.running ≡ None = none_mapped r.running (ap (λ (q : Holder). q.running) claimed.is) in
    let apart = others_differ crew.waiting id rs out manned.held in record {
      able = subst (λ q. AreAble kept spawner (r ∷ q)) (sym holding.runners) (record {
        each = All-cons (IsAble kept spawner) r rs (record { ready = ready; child = none_any r.running (λ (x : Running). IsRunningAt spawner x.child) calm }) manned.able.each;
        beside = (
          All-weaker (λ (o : Runner). o.id ≢ id) (IsBeside spawner r) (λ o ne. record {
            ids = λ same. ne (same ∙ own);
            children = some_all spawner.told (λ history. HaveTwo r o) (λ history told. none_any r.running (λ (one : Running). IfSome o.running (λ (two : Running). two.child ≢ one.child)) calm);
          }) rs apart,
          manned.able.beside,
        );
      });
      held = subst (λ q. All (HasPlace now.waiting) (r ∷ q)) (sym holding.runners)
          (All-cons (HasPlace now.waiting) r rs
          (subst (λ n. is_held now.waiting.holders n ≡ true) (at ∙ sym own) (last_held crew.waiting now.waiting (record { id = h.entry.id; lane = (lane_of crew.waiting h.entry.control.group).group }) holding.waiting))
          (places_more crew.waiting now.waiting (record { id = h.entry.id; lane = (lane_of crew.waiting h.entry.control.group).group }) rs holding.waiting manned.held));
      quiet = quiet_awake now.waiting (store kept).entries (ap (λ (w : Waiting). w.quiet) holding.waiting);
    }

abbrev ClaimsAt : Site → State → Kept → Kept → Crew → Bench → Bench → Result Act RunStop → Step → Type 0
ClaimsAt site m old new next a b went step = Happened site m (ends_list site step) old new next a b went

module _ (j : JudgeSeen) (site : Site) (m : State) (old new : Kept) (crew rest next : Crew) (r : Runner) (id : ℕ) (a b : Bench) (result : Result (Unit {0}) RunStop) where
  -- the lanes' holders are those of the seats with the new one
  waiting_claimed : (x : IsChosen site m old crew id) (seat : Seat) → seat.holder.id ≡ x.stored.id → seat.lane ≡ (lane_at site x.stored).group → IsHolding x.held.entry crew rest → IsCrew site crew m → IsWaiting site rest.waiting (seat ∷ m.seats)
  waiting_claimed x seat own lane holding is = record {
    lanes = ap (λ (w : Waiting). w.lanes) holding.waiting ∙ is.waiting.lanes;
    other = ap (λ (w : Waiting). w.other) holding.waiting ∙ is.waiting.other;
    holders = λ p.
        let place : Place = record { id = x.held.entry.id; lane = (lane_of crew.waiting x.held.entry.control.group).group } in
        let same : held_as seat ≡ place = λ i. record {
          id = (own ∙ sym x.same.id) i;
          lane = (lane ∙ ap (λ g. (lane_of (waiting_of site m.seats) g).group) (ap (λ (c : Control). c.group) (sym x.same.control)) ∙ ap (λ (q : Lane). q.group) (sym (lane_same site crew.waiting m.seats is.waiting x.held.entry.control.group))) i;
        } in
        let c = counts_one p (held_as seat) (map held_as m.seats) in
        let d = is.waiting.holders p in
        let e : count_by p rest.waiting.holders ≡ count_by p crew.waiting.holders + count_by p (place ∷ []) = ap (λ (w : Waiting). count_by p w.holders) holding.waiting ∙ counts_both p crew.waiting.holders (place ∷ []) in
        let f = counts_one p place [] in
        let g : one_if (p (held_as seat)) ≡ one_if (p place) = ap (λ q. one_if (p q)) same in
        let z : count_by p [] ≡ 0 = refl in
        omega (arith, c, d, e, f, g, z);
  }

  list_claimed : (plan : Plan) (list : Option (List ℕ)) (ids : List ℕ) (n : ℕ) → IsListOf plan list ids → IsListOf plan (option_map (without_id n) list) (without_id n ids)
  list_claimed (Serve wait) list ids n of = ap (option_map (without_id n)) of
  list_claimed (Once group) list ids n of = ap (option_map (without_id n)) of

  pub rests_claim : IsCrew site crew m → IsManned old a.spawner crew → is_held crew.waiting.holders id ≡ false → (x : IsChosen site m old crew id) → IsClaimed site.config site.maps id x.held.entry.control (holder_of r) → IsHolding x.held.entry crew rest
      → Carries (ground_at j site m) m.table old new r rest next a b result → Rests j site m old new next a b (acts next result)
  rests_claim is manned out x claimed holding c =
      let s = x.stored in
      let sid : s.id ≡ id = sym x.same.id ∙ x.is in
      let seat = seat_for site s claimed.rows in
      let first : holder_of r ≡ seat.holder = claimed.is ∙ ap (λ n. holder_for site.config n claimed.rows) (sym sid) in
      let t = subst (Took j site m old new rest next a b result) first (took_by j site m old new r rest next a b result c) in
      let later : map holder_of rest.runners.items ≡ map holder_at m.seats = ap (map holder_of) holding.runners ∙ is.runners in
      let apart = others_differ crew.waiting id crew.runners.items out manned.held in
      let o : AreOthers site rest seat m.seats (without_id s.id m.list) = record {
        runners = later;
        apart = subst (λ n. All (λ (q : Seat). q.holder.id ≢ n) m.seats) (sym sid) (seats_apart id crew.runners.items m.seats is.runners apart);
        waiting = waiting_claimed x seat refl refl holding is;
        list = subst (λ n. IsListOf site.plan rest.list (without_id n m.list)) (x.same.id) (subst (λ q. IsListOf site.plan q (without_id x.held.entry.id m.list)) (sym holding.list) (list_claimed site.plan crew.list m.list x.held.entry.id is.list));
      } in
      let acts_so : idle site m (Claiming id claimed.rows t.luck) ≡ claim_now site m s claimed.rows t.luck = ap (claims site m claimed.rows t.luck) x.found ∙ ap (λ (q : Bool). if q then claim_now site m s claimed.rows t.luck else cut m) x.can in record {
        choice = Claiming id claimed.rows t.luck;
        meant = record {
          stored = s;
          is = x.found;
          first = x.first;
          routed = subst (λ q. AreRouted site.config site.maps id q claimed.rows) x.same.control claimed.routed;
          step = t.meant;
        };
        read = λ files told stands. subst (λ n. IsRead m.table n t.luck) sid (t.read files told stands);
        happened = subst (ClaimsAt site m old new next a b (acts next result)) (sym acts_so)
            (happened_rest site m old new rest next a b seat m.seats (without_id s.id m.list) (Claims s.id claimed.rows ∷ []) t.luck result o
            (worked_claim (store old).dirs m.table a b s.id claimed.rows _ _ t.worked) t.comes);
        causes = causes_acts a b t.luck next result t.causes;
      }
