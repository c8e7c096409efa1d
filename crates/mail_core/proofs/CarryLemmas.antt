-- The step of one runner of a crew.
use Rattle.std.proofs.Common.{◌≡◌, ◌≢◌, ℕ, List, [], ◌∷◌, ◌++◌, false, Some, None, Ok, Err, refl, sym, ◌∙◌, ap, subst, arith, map}
use Rattle.std.proofs.lemmas.List.{append-nil, map-append}
use Rattle.std.specs.Prelude.{All, option_to_list}
use Rattle.std.specs.List.{AllZip, flat_map}
use Rattle.std.proofs.lemmas.List.Elements.{All-cons, All-head, All-nil, All-push, All-tail, All-weaker}
use Rattle.mail_base.specs.declared.config.Config.{Config}
use Rattle.spool_store.specs.Entries.{Stored, Table}
use Rattle.spool_store.specs.Stores.{IsHeld, entered}
use Rattle.spool_store.specs.declared.held.Held.{Held}
use Rattle.queue_table.specs.Calls.{HoldsTable, store}
use Rattle.queue_table.specs.Claims.{IsQuiet, is_held, may_claim}
use Rattle.queue_table.specs.declared.table.Table.{Table as Kept}
use Rattle.queue_table.specs.declared.waiting.Waiting.{Waiting}
use Rattle.queue_run.specs.Deeds.{born_in}
use Rattle.queue_run.specs.Holders.{Holder, holder_of}
use Rattle.queue_run.specs.Kinds.{Kind}
use Rattle.queue_run.specs.Meant.{Ground}
use Rattle.queue_run.specs.Ready.{IsReady}
use Rattle.queue_run.specs.Steps.{Luck, Stepped}
use Rattle.queue_run.specs.Working.{Bench, ComesTo, Steps, kind_in, stepped_on}
use Rattle.queue_run.specs.declared.runner.Did.{Did}
use Rattle.queue_run.specs.declared.runner.Did.TheVariants as did
use Rattle.queue_run.specs.declared.runner.RunStop.{RunStop}
use Rattle.queue_run.specs.declared.runner.Runner.{Runner}
use Rattle.mail_core.specs.Plans.{Once}
use Rattle.mail_core.proofs.ApartLemmas.{IsSameId, stepped_id}
use Rattle.mail_core.proofs.KindLemmas.{Ways, begun, buried, delivered, exited, finished, given_back, halted, let_go, lost, missed, outgrown, settled, waited, warned, ways}
use Rattle.mail_core.specs.declared.crew.Crew.{Crew}
use Rattle.mail_core.specs.inner.Carrying.{Carries, GoesOn, IsFreed, IsOut, IsPutBack, IsSettled, KeepsHeld}
use Rattle.mail_core.specs.Crews.{AreBeside, HasPlace, IsAble, IsBeside}
use Rattle.mail_core.proofs.AbleLemmas.{all_beside_new, all_beside_on, beside_push, others_able}
use Rattle.mail_core.proofs.LaneLemmas.{may_stored, zip_all}
use Rattle.mail_core.proofs.HoldLemmas.{places_left, places_same}

-- ---- where no entry may be claimed

-- before the moment 0 there is none
pub quiet_awake : (w : Waiting) (entries : List Held) → w.quiet ≡ 0 → IsQuiet w entries
quiet_awake w entries awake = λ moment lt. absurd (omega (arith, awake, lt))

zip_back : (P : Held → Type 0) (Q : Stored → Type 0) (hs : List Held) (ss : List Stored) → AllZip IsHeld hs ss → ((h : Held) (s : Stored) → IsHeld h s → Q s → P h) → All Q ss → All P hs
zip_back P Q [] [] zip to all = All-nil P
zip_back P Q [] (s ∷ ss) zip to all = absurd zip
zip_back P Q (h ∷ hs) [] zip to all = absurd zip
zip_back P Q (h ∷ hs) (s ∷ ss) zip to all = All-cons P h hs (to h s zip.0 (All-head Q s ss all)) (zip_back P Q hs ss zip.1 to (All-tail Q s ss all))

-- two stores of one table have the same entries but for their bodies
pub quiet_same : (w : Waiting) (old new : Kept) (table : Table) → HoldsTable old table → HoldsTable new table → IsQuiet w (store old).entries → IsQuiet w (store new).entries
quiet_same w old new table holds held quiet = λ moment lt.
    zip_back (λ (h : Held). may_claim w moment h ≡ false) (λ (s : Stored). may_claim w moment (entered s) ≡ false) (store new).entries table.entries held.entries
    (λ h s same nay. may_stored w moment h s same ∙ nay)
    (zip_all (λ (h : Held). may_claim w moment h ≡ false) (λ (s : Stored). may_claim w moment (entered s) ≡ false) (store old).entries table.entries holds.entries
    (λ h s same nay. sym (may_stored w moment h s same) ∙ nay) (quiet moment lt))

-- ---- what a step that waits leaves

way_waits : (config : Config) (moment : ℕ) (table : Table) (h : Holder) (kind : Kind) (luck : Luck) (x : Stepped) → Ways config moment table h kind luck x → x.answer ≡ did.Waits → x.table ≡ table
way_waits config moment table h kind luck x (halted _ _ halt) e = refl
way_waits config moment table h kind luck x (waited r) e = refl
way_waits config moment table h kind luck x (exited r status failed) e = cc e
way_waits config moment table h kind luck x (lost r failed) e = cc e
way_waits config moment table h kind luck x (settled batch result failed) e = cc e
way_waits config moment table h kind luck x (outgrown _ batch letter failed try) e = cc e
way_waits config moment table h kind luck x (begun batch mailer letter start child count) e = refl
way_waits config moment table h kind luck x (missed batch mailer letter start launch failed none) e = cc e
way_waits config moment table h kind luck x (delivered batch mailer peers letter talk failed) e = cc e
way_waits config moment table h kind luck x (given_back _ bounce failed sent) e = cc e
way_waits config moment table h kind luck x (buried _ failed) e = cc e
way_waits config moment table h kind luck x (warned _ warning failed sent) e = cc e
way_waits config moment table h kind luck x (finished _ failed) e = refl
way_waits config moment table h kind luck x (let_go _) e = refl

module _ (G : Ground) (T : Table) (old new : Kept) (before now : Runner) (crew next : Crew) (a b : Bench) where
  abbrev went : Luck → Stepped
  went luck = stepped_on G T (holder_of before) luck

  id_kept : (luck : Luck) → IsSameId before.id (went luck).holder
  id_kept luck = stepped_id (record { host = []; dirs = []; config = G.config; maps = G.maps; plan = Once None }) G.moment T (holder_of before) luck

  step_way : (luck : Luck) → Ways G.config G.moment T (holder_of before) (kind_in G T (holder_of before)) luck (went luck)
  step_way luck = ways G.config G.moment T (holder_of before) (kind_in G T (holder_of before)) luck

  -- what is known of the others and of the runner behind a step
  record Facts (luck : Luck) (answer : Did) : Type 0 where
    comes : ComesTo G.config old new before a b (went luck) now answer
    able : All (IsAble new b.spawner) crew.runners.items
    beside : AreBeside b.spawner crew.runners.items
    apart : All (λ (r : Runner). r.id ≢ before.id) crew.runners.items
    fresh : now.id ≡ before.id → All (λ (r : Runner). IsBeside b.spawner r now) crew.runners.items
    places : All (HasPlace crew.waiting) crew.runners.items
    own : HasPlace crew.waiting before

  facts : (answer : Did) (out : IsOut old a.spawner crew before) (s : Steps G T old new before now a b (Ok answer)) → Facts s.luck answer
  facts answer out s =
      let gains = s.worked.spawner in
      let rs = crew.runners.items in
      let able = All-tail (IsAble old a.spawner) before rs out.able.each in
      let events = flat_map born_in (went s.luck).deeds in
      record {
        comes = s.comes;
        able = others_able a.spawner b.spawner events gains old new before s.comes.others s.comes.children rs out.able.beside.0 able;
        beside = all_beside_on a.spawner b.spawner events gains rs out.able.beside.1;
        apart = All-weaker (IsBeside a.spawner before) (λ (r : Runner). r.id ≢ before.id) (λ r h. h.ids) rs out.able.beside.0;
        fresh = λ id. all_beside_new a.spawner b.spawner events gains old new before s.comes.others s.comes.children now rs id s.comes.own able out.able.beside.0;
        places = All-tail (HasPlace crew.waiting) before rs out.held;
        own = All-head (HasPlace crew.waiting) before rs out.held;
      }

  -- it is put back
  goes_put : (luck : Luck) (answer : Did) → Facts luck answer → (went luck).holder ≡ Some (holder_of now) → IsReady new now → IsPutBack now crew next → IsQuiet next.waiting (store new).entries
      → GoesOn G.config old new crew next before.id b (went luck)
  goes_put luck answer f holder ready put quiet =
      let rs = crew.runners.items in
      let id : now.id ≡ before.id = subst (IsSameId before.id) holder (id_kept luck) in record {
        goes = f.comes.goes;
        holds = f.comes.holds;
        whole = f.comes.whole;
        agrees = f.comes.agrees;
        stays = f.comes.stays;
        manned = record {
          able = record {
            each = subst (All (IsAble new b.spawner)) (sym put.runners) (All-push (IsAble new b.spawner) rs now f.able (record { ready = ready; child = f.comes.child }));
            beside = subst (AreBeside b.spawner) (sym put.runners) (beside_push b.spawner rs now f.beside (f.fresh id));
          };
          held = subst (All (HasPlace next.waiting)) (sym put.runners)
              (All-push (HasPlace next.waiting) rs now (places_same crew.waiting next.waiting rs put.waiting f.places)
              (ap (λ (w : Waiting). is_held w.holders now.id) put.waiting ∙ ap (is_held crew.waiting.holders) id ∙ f.own));
          quiet = quiet;
        };
        runners = ap (map holder_of) put.runners ∙ map-append holder_of rs (now ∷ []) ∙ ap (λ o. map holder_of rs ++ option_to_list o) (sym holder);
        waiting = subst (λ o. KeepsHeld before.id o crew.waiting next.waiting) (sym holder) put.waiting;
        list = put.list;
      }

  -- it is let go
  goes_free : (luck : Luck) (answer : Did) → Facts luck answer → (went luck).holder ≡ None → IsFreed before.id crew next → GoesOn G.config old new crew next before.id b (went luck)
  goes_free luck answer f holder freed =
      let rs = crew.runners.items in record {
        goes = f.comes.goes;
        holds = f.comes.holds;
        whole = f.comes.whole;
        agrees = f.comes.agrees;
        stays = f.comes.stays;
        manned = record {
          able = record {
            each = subst (All (IsAble new b.spawner)) (sym freed.runners) f.able;
            beside = subst (AreBeside b.spawner) (sym freed.runners) f.beside;
          };
          held = subst (All (HasPlace next.waiting)) (sym freed.runners) (places_left crew.waiting next.waiting before.id rs freed.waiting f.apart f.places);
          quiet = quiet_awake next.waiting (store new).entries (ap (λ (w : Waiting). w.quiet) freed.waiting);
        };
        runners = ap (map holder_of) freed.runners ∙ sym (append-nil (map holder_of rs)) ∙ ap (λ o. map holder_of rs ++ option_to_list o) (sym holder);
        waiting = subst (λ o. KeepsHeld before.id o crew.waiting next.waiting) (sym holder) freed.waiting;
        list = freed.list;
      }

  goes_by : (luck : Luck) (answer : Did) → HoldsTable old T → IsQuiet crew.waiting (store old).entries → Facts luck answer → IsSettled answer before.id now crew next → GoesOn G.config old new crew next before.id b (went luck)
  goes_by luck did.Began holds quiet f put = goes_put luck did.Began f f.comes.holder (f.comes.ready refl) put.0 (quiet_awake next.waiting (store new).entries put.1)
  goes_by luck did.Waits holds quiet f put =
      let same : (went luck).table ≡ T = way_waits G.config G.moment T (holder_of before) (kind_in G T (holder_of before)) luck (went luck) (step_way luck) f.comes.came in
      goes_put luck did.Waits f f.comes.holder (f.comes.ready refl) put.0
      (subst (λ w. IsQuiet w (store new).entries) (sym put.1) (quiet_same crew.waiting old new T holds (subst (HoldsTable new) same f.comes.holds) quiet))
  goes_by luck did.Recorded holds quiet f put = goes_put luck did.Recorded f f.comes.holder (f.comes.ready refl) put.0 (quiet_awake next.waiting (store new).entries put.1)
  goes_by luck did.Gave holds quiet f put = goes_put luck did.Gave f f.comes.holder (f.comes.ready refl) put.0 (quiet_awake next.waiting (store new).entries put.1)
  goes_by luck did.Free holds quiet f freed = goes_free luck did.Free f f.comes.holder freed

  -- a step of a runner, and what became of it
  pub carried : (answer : Did) → HoldsTable old T → IsOut old a.spawner crew before → Steps G T old new before now a b (Ok answer) → IsSettled answer before.id now crew next
      → Carries {T = Unit {0}} G T old new before crew next a b (Ok tt)
  carried answer holds out s came = record {
    luck = s.luck;
    meant = s.meant;
    read = s.read;
    worked = s.worked;
    comes = goes_by s.luck answer holds out.quiet (facts answer out s) came;
    causes = record { spool = s.spool_cause; spawner = s.spawner_cause; dialer = s.dialer_cause };
  }

  -- one that ends the run
  pub uncarried : (cause : RunStop) → Steps G T old new before now a b (Err cause) → Carries {T = Unit {0}} G T old new before crew next a b (Err cause)
  uncarried cause s = record {
    luck = s.luck;
    meant = s.meant;
    read = s.read;
    worked = s.worked;
    comes = s.comes;
    causes = record { spool = s.spool_cause; spawner = s.spawner_cause; dialer = s.dialer_cause };
  }
