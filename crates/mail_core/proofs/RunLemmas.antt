-- Runs begin, go on and end.
use Rattle.std.proofs.Common.{◌≡◌, ℕ, ◌+◌, ◌≤◌, List, [], ◌∷◌, ◌++◌, length, Bool, true, Option, Some, None, Result, Ok, refl, sym, ◌∙◌, ap, subst, arith, append_assoc}
use Rattle.std.specs.Prelude.{is_ok}
use Rattle.std.proofs.lemmas.List.{append-nil, length_push}
use Rattle.mail_base.specs.Histories.{Gains}
use Rattle.mail_base.proofs.Gaining.{gains_none}
use Rattle.link_edge.specs.Heard.{Heard}
use Rattle.link_edge.specs.declared.event.Event.{Event}
use Rattle.spool_disk.specs.Disk.{FileMap}
use Rattle.spool_disk.specs.Spooled.{Spooled}
use Rattle.spool_store.specs.Entries.{Table}
use Rattle.spool_store.specs.Moves.{Moves}
use Rattle.spool_store.specs.Settled.{StandsFor}
use Rattle.spool_store.proofs.MovesLemmas.{moves_weaker, told_after}
use Rattle.queue_table.specs.Asked.{AreStoppable, IsFront, Leaves}
use Rattle.queue_table.proofs.AskedLemmas.{stoppable_first}
use Rattle.mail_core.specs.declared.act.Act.{Act}
use Rattle.mail_core.specs.declared.act.Act.TheVariants.{Went}
use Rattle.mail_core.specs.declared.serving.Core.{Core}
use Rattle.mail_core.specs.declared.serving.CoreStop.{CoreStop}
use Rattle.mail_core.specs.Beginning.{IsStartMeant, Start, beginning, run_over, ticks}
use Rattle.mail_core.specs.Causes.{EndsSo, is_well}
use Rattle.mail_core.specs.Effects.{Effect, commanded, readings_of, table_after}
use Rattle.mail_core.specs.Ends.{IsEnded}
use Rattle.mail_core.specs.Events.{Turns}
use Rattle.mail_core.specs.Judges.{JudgeSeen, untold}
use Rattle.mail_core.specs.Machine.{Turn, run, turned}
use Rattle.mail_core.specs.Meant.{IsEventRead}
use Rattle.mail_core.specs.Plans.{Origin}
use Rattle.mail_core.specs.Runs.{Headline}
use Rattle.mail_core.specs.Seen.{Beside, IsSparing, Ran, RanBy, Seen, seen}
use Rattle.mail_core.specs.Sites.{Site}
use Rattle.mail_core.specs.Standing.{MayGoOn, Stands}
use Rattle.mail_core.specs.States.{Step, followed, headed}
use Rattle.mail_core.specs.inner.UnderWay.{IsReadSince, IsUnderWay}
use Rattle.mail_core.proofs.FollowLemmas.{run_more}
use Rattle.mail_core.proofs.GoingLemmas.{cause_since}
use Rattle.mail_core.proofs.HeadLemmas.{OnlyNow, headline_of}
use Rattle.mail_core.proofs.JudgeLemmas.{run_meant, run_read}
use Rattle.mail_core.proofs.RanLemmas.{ran_joins, ran_quiet}
use Rattle.mail_core.proofs.TableLemmas.{run_tells}

-- ---- a run begins

-- where the spool stands for the table still, nothing was done
opened_front : (dirs : List (List ℕ)) (table : Table) (s t : Spooled) (effects : List Effect) → table_after table effects ≡ table → Moves s t (StandsFor dirs table) (StandsFor dirs table) (StandsFor dirs table)
    → Moves s t (StandsFor dirs table) (Leaves commanded dirs table effects true) (IsFront commanded dirs table effects)
opened_front dirs table s t effects same moves =
    moves_weaker s t (StandsFor dirs table) (StandsFor dirs table) (StandsFor dirs table) (Leaves commanded dirs table effects true) (IsFront commanded dirs table effects) (λ f p. subst (λ q. StandsFor dirs q f) (sym same) p) (λ f p. record { done = []; rest = effects; whole = refl; stands = p }) moves

-- a core over a table for which the spool stands still is under way, after no turn; a run over the
-- queue read the clock for its list
pub under_way_begin : (j : JudgeSeen) (site : Site) (start : Start) (core : Core) (f g : Heard) (s t : Spooled) (c d : Beside) → Moves s t (StandsFor site.dirs start.table) (StandsFor site.dirs start.table) (StandsFor site.dirs start.table) → IsSparing site.dirs s t true
    → g.told ≡ f.told → f.faults ≤ g.faults → s.faults ≤ t.faults → Gains c.clock.told d.clock.told (readings_of (ticks start.first)) → d.clock.readings ≡ c.clock.readings + length (readings_of (ticks start.first)) → d.hands ≡ c.hands
    → Stands site core (beginning start) → MayGoOn core t d.hands.spawner
    → IsUnderWay j site start core 0 (seen f s c) (seen g t d)
under_way_begin j site start core f g s t c d moves sparing same floor_faults spool_faults clock readings hands stands able = record {
  turns = [];
  events = refl;
  meant = tt;
  read = λ files told is stops. tt;
  ran = begun start.first clock readings;
  readings = omega (arith, readings);
  stands = stands;
  able = able;
}
  where
    begun : (first : Option ℕ) → Gains c.clock.told d.clock.told (readings_of (ticks first)) → d.clock.readings ≡ c.clock.readings + length (readings_of (ticks first)) → Ran site.dirs start.table (seen f s c) (seen g t d) (ticks first ++ []) true
    begun None clock readings = record {
      floor = subst (λ q. Gains f.told q []) (sym same) (gains_none f.told);
      clock = clock;
      readings = readings;
      spawner = subst (λ h. Gains c.hands.spawner.told h.spawner.told []) (sym hands) (gains_none c.hands.spawner.told);
      dialer = subst (λ h. Gains c.hands.dialer.told h.dialer.told []) (sym hands) (gains_none c.hands.dialer.told);
      spool = λ stops. opened_front site.dirs start.table s t [] refl moves;
      frame = sparing;
      floor_faults = floor_faults;
      spool_faults = spool_faults;
      spawner_faults = let e = ap (λ h. h.spawner.faults) hands in omega (arith, e);
      dialer_faults = let e = ap (λ h. h.dialer.faults) hands in omega (arith, e);
    }
    begun (Some reading) clock readings = record {
      floor = subst (λ q. Gains f.told q []) (sym same) (gains_none f.told);
      clock = clock;
      readings = readings;
      spawner = subst (λ h. Gains c.hands.spawner.told h.spawner.told []) (sym hands) (gains_none c.hands.spawner.told);
      dialer = subst (λ h. Gains c.hands.dialer.told h.dialer.told []) (sym hands) (gains_none c.hands.dialer.told);
      spool = λ stops. opened_front site.dirs start.table s t (ticks (Some reading) ++ []) refl moves;
      frame = sparing;
      floor_faults = floor_faults;
      spool_faults = spool_faults;
      spawner_faults = let e = ap (λ h. h.spawner.faults) hands in omega (arith, e);
      dialer_faults = let e = ap (λ h. h.dialer.faults) hands in omega (arith, e);
    }

-- ---- a run goes on

-- one turn more
pub over_more : (site : Site) (start : Start) (turns : List Turn) (turn : Turn) → run_over site start (turns ++ turn ∷ []) ≡ followed (run_over site start turns) (turned site (run_over site start turns).state turn)
over_more site start turns turn =
    ap (headed (ticks start.first)) (run_more site (beginning start) turns turn)
    ∙ head_first (ticks start.first) (run site (beginning start) turns) (turned site (run site (beginning start) turns).state turn)
  where
    head_first : (effects : List Effect) (first last : Step) → headed effects (followed first last) ≡ followed (headed effects first) last
    head_first effects first last = ap (λ q. record { state = last.state; effects = q }) (sym (append_assoc effects first.effects last.effects))

-- the table that a run comes to
table_is : (site : Site) (start : Start) (turns : List Turn) → (run_over site start turns).state.table ≡ table_after start.table (run_over site start turns).effects
table_is site start turns = by start.first
  where
    told : (run site (beginning start) turns).state.table ≡ table_after start.table (run site (beginning start) turns).effects
    told = (run_tells untold site (beginning start) turns).table

    by : (first : Option ℕ) → (run site (beginning start) turns).state.table ≡ table_after start.table (ticks first ++ (run site (beginning start) turns).effects)
    by None = told
    by (Some reading) = told

ran_turn : (site : Site) (start : Start) (turns : List Turn) (turn : Turn) (a b c : Seen) (well on : Bool) → Ran site.dirs start.table a b (run_over site start turns).effects true
    → RanBy site.dirs (run_over site start turns).state.table b c (turned site (run_over site start turns).state turn).effects well on
    → RanBy site.dirs start.table a c (run_over site start (turns ++ turn ∷ [])).effects well on
ran_turn site start turns turn a b c well on h k =
    let run = run_over site start turns in
    let last = turned site run.state turn in
    subst (λ (q : Step). RanBy site.dirs start.table a c q.effects well on) (sym (over_more site start turns turn))
    (ran_joins site.dirs start.table a b c run.effects last.effects well on h (subst (λ t. RanBy site.dirs t b c last.effects well on) (table_is site start turns) k))

-- what was read is of the table, one turn more
read_more : (j : JudgeSeen) (site : Site) (start : Start) (core : Core) (n : ℕ) (a b : Seen) (u : IsUnderWay j site start core n a b) (turn : Turn)
    → ((files : FileMap) → b.spool.told ≡ Some files → StandsFor site.dirs (run_over site start u.turns).state.table files → IsEventRead (run_over site start u.turns).state turn.event turn.choices)
    → IsReadSince site start (u.turns ++ turn ∷ []) a
read_more j site start core n a b u turn reads files told stands stops =
    let effects = (run_over site start u.turns).effects in
    let first : AreStoppable commanded start.table effects = stoppable_first commanded start.table effects (turned site (run_over site start u.turns).state turn).effects (subst (λ (q : Step). AreStoppable commanded start.table q.effects) (over_more site start u.turns turn) stops) in
    let now = told_after a.spool.told b.spool.told (StandsFor site.dirs start.table) (Leaves commanded site.dirs start.table effects true) (u.ran.spool first).now files told stands in
    run_read site (beginning start) u.turns turn (u.read files told stands first) (reads now.0 now.1 (subst (λ t. StandsFor site.dirs t now.0) (sym (table_is site start u.turns)) now.2))

-- a core that took one turn more and goes on is under way
pub under_way_more : (j : JudgeSeen) (site : Site) (start : Start) (core new : Core) (n : ℕ) (event : Event) (origin : Origin) (a b c : Seen) → (u : IsUnderWay j site start core n a b) → Turns j site (run_over site start u.turns).state event origin b c new (Ok Went)
    → c.clock.readings ≡ b.clock.readings + 1 → MayGoOn new c.spool c.hands.spawner → IsUnderWay j site start new (n + 1) a c
under_way_more j site start core new n event origin a b c u t read able =
    let turn : Turn = record { event = event; origin = origin; choices = t.choices } in record {
      turns = u.turns ++ turn ∷ [];
      events = length_push u.turns turn ∙ ap (λ q. q + 1) u.events;
      meant = run_meant site j (beginning start) u.turns turn u.meant t.meant;
      read = read_more j site start core n a b u turn t.read;
      ran = ran_turn site start u.turns turn a b c true true u.ran t.ran;
      readings = omega (arith, read, u.readings);
      stands = subst (λ (q : Step). Stands site new q.state) (sym (over_more site start u.turns turn)) (t.stands refl);
      able = able;
    }

-- a turn that failed
pub under_way_floor : (j : JudgeSeen) (site : Site) (start : Start) (core : Core) (n : ℕ) (a : Seen) (f g : Heard) (s : Spooled) (k : Beside) → IsUnderWay j site start core n a (seen f s k) → Gains f.told g.told [] → f.faults ≤ g.faults
    → IsUnderWay j site start core n a (seen g s k)
under_way_floor j site start core n a f g s k u gains le =
    let effects = (run_over site start u.turns).effects in record {
      turns = u.turns;
      events = u.events;
      meant = u.meant;
      read = u.read;
      ran = subst (λ q. Ran site.dirs start.table a (seen g s k) q true) (append-nil effects)
          (ran_joins site.dirs start.table a (seen f s k) (seen g s k) effects [] true true u.ran
          (ran_quiet site.dirs (table_after start.table effects) f g s k k [] (record { commands = refl; born = refl; dialled = refl }) gains le (gains_none k.clock.told) (omega arith) refl));
      readings = u.readings;
      stands = u.stands;
      able = u.able;
    }

-- ---- a run ends

-- a core that took one turn more and stops has ended
pub ended_by : (j : JudgeSeen) (site : Site) (start : Start) (core new : Core) (n : ℕ) (event : Event) (origin : Origin) (a b c : Seen) (went : Result Act CoreStop) → IsStartMeant site site.plan start → (u : IsUnderWay j site start core n a b)
    → Turns j site (run_over site start u.turns).state event origin b c new went → OnlyNow a.spool → IsEnded j site start (n + 1) a c went
ended_by j site start core new n event origin a b c went begun u t only =
    let turn : Turn = record { event = event; origin = origin; choices = t.choices } in
    let turns = u.turns ++ turn ∷ [] in
    let m = (run_over site start u.turns).state in record {
      turns = turns;
      before = u.turns;
      last = turn;
      whole = refl;
      events = length_push u.turns turn ∙ ap (λ q. q + 1) u.events;
      headline = headline_of j site start turns a c (is_well went) (is_ok went) begun (run_meant site j (beginning start) u.turns turn u.meant t.meant)
          (read_more j site start core n a b u turn t.read) only (ran_turn site start u.turns turn a b c (is_well went) (is_ok went) u.ran t.ran);
      ended = λ ending e.
          let so = t.ended ending e in
          subst (λ (q : Step). EndsSo ending q.state a c) (sym (over_more site start u.turns turn))
          (record { over = so.over; cause = cause_since ending (turned site m turn).state.table a b c u.ran.spool_faults so.cause });
    }

-- a run that is cut off between two turns
pub cut_off : (j : JudgeSeen) (site : Site) (start : Start) (core : Core) (n : ℕ) (a b : Seen) → IsStartMeant site site.plan start → (u : IsUnderWay j site start core n a b) → OnlyNow a.spool → Headline j site start u.turns a b true
cut_off j site start core n a b begun u only = headline_of j site start u.turns a b true true begun u.meant u.read only u.ran
