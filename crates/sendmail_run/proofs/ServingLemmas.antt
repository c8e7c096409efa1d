-- How a run that serves goes on and ends.
use Rattle.std.proofs.Common.{◌≡◌, ℕ, ◌+◌, ◌<◌, ◌≤◌, ◌^◌, List, [], length, Option, Some, Result, Ok, Err, Bool, true, false, refl, sym, ◌∙◌, ap, subst, arith, inl, inr}
use Rattle.std.specs.Prelude.{is_some}
use Rattle.std.proofs.Math.Nat.{le_refl}
use Rattle.mail_base.specs.Histories.{Gains, Rose}
use Rattle.mail_base.specs.declared.config.Config.{Config}
use Rattle.mail_edge.specs.Asking.{Asks}
use Rattle.mail_edge.specs.Seen.{ClockSeen, FilesSeen}
use Rattle.link_edge.specs.Heard.{Heard}
use Rattle.link_edge.specs.declared.event.Event.{Event}
use Rattle.spool_disk.specs.Disk.{FileMap}
use Rattle.spool_disk.specs.Spooled.{Spooled}
use Rattle.spool_store.specs.Entries.{Table}
use Rattle.spool_store.specs.Stores.{Holds, StoreSeen}
use Rattle.spool_store.proofs.OpenLemmas.{reads_none}
use Rattle.map_tables.specs.Answers.{Loaded}
use Rattle.mail_judge.specs.Judged.{Grounds}
use Rattle.mail_core.specs.declared.act.Act.{Act}
use Rattle.mail_core.specs.declared.act.Act.TheVariants.{Ended, Went}
use Rattle.mail_core.specs.declared.serving.Core.{Core}
use Rattle.mail_core.specs.declared.serving.CoreStop.{CoreStop}
use Rattle.mail_core.specs.declared.serving.CoreStop.TheVariants as stops
use Rattle.mail_core.specs.Beginning.{Start, run_over, ticks}
use Rattle.mail_core.specs.Causes.{is_well}
use Rattle.mail_core.specs.Effects.{readings_of}
use Rattle.mail_core.specs.Events.{Turns}
use Rattle.mail_core.specs.Judges.{JudgeSeen}
use Rattle.mail_core.specs.Machine.{Turn}
use Rattle.mail_core.specs.Plans.{Origin}
use Rattle.mail_core.specs.Runs.{Headline}
use Rattle.mail_core.specs.Seen.{Beside, Hands, IsSparing, Seen, seen}
use Rattle.mail_core.specs.Sites.{IsUnder, Site}
use Rattle.mail_core.specs.Standing.{IsStanding, MayGoOn, Stands}
use Rattle.mail_core.specs.States.{State}
use Rattle.mail_core.proofs.RunLemmas.{cut_off, ended_by, under_way_begin, under_way_floor, under_way_more}
use Rattle.sendmail_run.specs.declared.serving_mode.ServeEnd.{ServeEnd}
use Rattle.sendmail_run.specs.declared.serving_mode.ServeEnd.TheVariants as ends
use Rattle.sendmail_run.specs.declared.task.Task.{Task}
use Rattle.sendmail_run.specs.declared.outcome.Outcome.TheVariants as outcomes
use Rattle.sendmail_run.specs.Outcomes.{of_serving}
use Rattle.sendmail_run.specs.Rises.{RisesOnlyAt}
use Rattle.sendmail_run.specs.Serving.{HasEnded, IsAsking, IsLeftAlone, IsOverQueue, IsRun, IsServed, IsServedOut, IsTakenOver, IsUnserved, Serves, from_id, judge_by}
use Rattle.sendmail_run.specs.Tasks.{IsBegunAt, door_of}
use Rattle.sendmail_run.specs.inner.Opened.{HasBegun, IsFound, IsGoing, IsOn, IsOpened}

-- ---- what is read or left alone

-- what no call changed is left alone
pub left_alone : (a : Seen) → IsLeftAlone a a
left_alone a = record { floor = refl; clock = refl; hands = refl; spool = reads_none a.spool; spool_faults = refl }

-- ---- turns over each table

-- a run over a table for which the spool stands has begun
on_begin : (j : JudgeSeen) (site : Site) (table : Table) (core : Core) (f g : Heard) (s t : Spooled) (c d : Beside) → IsTakenOver site.dirs s t → IsSparing site.dirs s t true → g.told ≡ f.told → f.faults ≤ g.faults → s.faults ≤ t.faults → d.hands ≡ c.hands
    → HasBegun site core table c.clock d.clock → MayGoOn core t d.hands.spawner → IsOn j site table core 0 (seen f s c) (seen g t d)
on_begin j site table core f g s t c d taken sparing same floor_faults spool_faults hands begun able =
    let b = begun.begins in record {
      start = b.start;
      table_is = b.table_is;
      meant = b.meant;
      under = under_way_begin j site b.start core f g s t c d (taken.stands b.start.table) sparing same floor_faults spool_faults
          (subst (λ (first : Option ℕ). Gains c.clock.told d.clock.told (readings_of (ticks first))) (sym b.first_is) begun.told)
          (begun.readings ∙ ap (λ (first : Option ℕ). c.clock.readings + length (readings_of (ticks first))) (sym b.first_is))
          hands b.stands able;
    }

-- a core over the queue that was opened has begun
pub going_begin : (j : JudgeSeen) (site : Site) (core : Core) (f g : Heard) (s t : Spooled) (c d : Beside) → IsTakenOver site.dirs s t → IsSparing site.dirs s t true → g.told ≡ f.told → f.faults ≤ g.faults → s.faults ≤ t.faults → d.hands ≡ c.hands
    → IsOpened site s.told core c.clock d.clock → MayGoOn core t d.hands.spawner → IsGoing j site core 0 (seen f s c) (seen g t d)
going_begin j site core f g s t c d taken sparing same floor_faults spool_faults hands opened able = record {
  store = opened.store;
  found = opened.found;
  runs = λ table holds. on_begin j site table core f g s t c d taken sparing same floor_faults spool_faults hands (opened.begins table holds) able;
}

-- what is said of turns by files is said of them by those that are the same
by_same : (grounds : Grounds) (files now : FilesSeen) (site : Site) (m : State) (event : Event) (origin : Origin) (a b : Seen) (core : Core) (went : Result Act CoreStop) → now ≡ files
    → Turns (judge_by grounds now) site m event origin a b core went → Turns (judge_by grounds files) site m event origin a b core went
by_same grounds files now site m event origin a b core went same t = subst (λ (f : FilesSeen). Turns (judge_by grounds f) site m event origin a b core went) same t

-- one turn more
pub going_more : (grounds : Grounds) (files now : FilesSeen) (site : Site) (core new : Core) (n : ℕ) (event : Event) (origin : Origin) (a b c : Seen) → now ≡ files → IsGoing (judge_by grounds files) site core n a b
    → ((m : State) → Stands site core m → Turns (judge_by grounds now) site m event origin b c new (Ok Went)) → c.clock.readings ≡ b.clock.readings + 1 → MayGoOn new c.spool c.hands.spawner
    → IsGoing (judge_by grounds files) site new (n + 1) a c
going_more grounds files now site core new n event origin a b c same going turns counted able = record {
  store = going.store;
  found = going.found;
  runs = λ table holds.
      let on = going.runs table holds in
      let u = on.under in
      let m = (run_over site on.start u.turns).state in record {
        start = on.start;
        table_is = on.table_is;
        meant = on.meant;
        under = under_way_more (judge_by grounds files) site on.start core new n event origin a b c u
            (by_same grounds files now site m event origin b c new (Ok Went) same (turns m u.stands)) counted able;
      };
}

-- a turn that the floor failed to give
pub going_floor : (j : JudgeSeen) (site : Site) (core : Core) (n : ℕ) (a : Seen) (f g : Heard) (s : Spooled) (k : Beside) → IsGoing j site core n a (seen f s k) → Gains f.told g.told [] → f.faults ≤ g.faults → IsGoing j site core n a (seen g s k)
going_floor j site core n a f g s k going told later = record {
  store = going.store;
  found = going.found;
  runs = λ table holds.
      let on = going.runs table holds in record {
        start = on.start;
        table_is = on.table_is;
        meant = on.meant;
        under = under_way_floor j site on.start core n a f g s k on.under told later;
      };
}

one_run : (j : JudgeSeen) (site : Site) (core : Core) (n : ℕ) (a b : Seen) → (going : IsGoing j site core n a b) → IsOn j site going.found.some core n a b
one_run j site core n a b going = going.runs going.found.some going.found.holds

-- a core under way stands for the machine's state
pub standing : (j : JudgeSeen) (site : Site) (core : Core) (n : ℕ) (a b : Seen) → IsGoing j site core n a b → (config : Config) (maps : Loaded) → IsUnder site config maps → IsStanding core config maps
standing j site core n a b going config maps under =
    let on = one_run j site core n a b going in
    record { site = site; under = under; state = (run_over site on.start on.under.turns).state; stands = on.under.stands }

-- and may go on
pub able_so : (j : JudgeSeen) (site : Site) (core : Core) (n : ℕ) (a b : Seen) → IsGoing j site core n a b → MayGoOn core b.spool b.hands.spawner
able_so j site core n a b going = (one_run j site core n a b going).under.able

-- no count of the floor falls
pub floor_later : (j : JudgeSeen) (site : Site) (core : Core) (n : ℕ) (a b : Seen) → IsGoing j site core n a b → a.floor.faults ≤ b.floor.faults
floor_later j site core n a b going = (one_run j site core n a b going).under.ran.floor_faults

-- ---- how it ends

abbrev pub OnlyNow : Seen → Type 0
OnlyNow a = (c : FileMap) → a.spool.left_since a.spool.moment c → a.spool.told ≡ Some c

-- what holds over each table that the store held
pub over : (site : Site) (a : Seen) (store : StoreSeen) (Run : Table → Type 0) → IsFound site.dirs a.spool.told store → ((table : Table) → Holds store table → Run table) → IsOverQueue site a Run
over site a store Run found runs = record {
  next = store.next;
  first = found.first;
  some = found.some;
  stands = found.stands;
  run = runs (from_id store.next found.some) (record { entries = found.holds.entries; next = refl });
  each = λ f table told stands. runs (from_id store.next table) (found.each f table told stands);
}

abbrev ran_so : (j : JudgeSeen) (site : Site) (table : Table) (core : Core) (n : ℕ) (a b : Seen) → OnlyNow a → IsOn j site table core n a b → IsRun j site table n a b
ran_so j site table core n a b only on = record {
  start = on.start;
  table_is = on.table_is;
  turns = on.under.turns;
  events = on.under.events;
  on = on.under.stands.on;
  headline = cut_off j site on.start core n a b on.meant on.under only;
}

served : (j : JudgeSeen) (site : Site) (task : Task) (core : Core) (n : ℕ) (a b : Seen) → IsBegunAt (door_of site.config task) a.floor b.floor → OnlyNow a → IsGoing j site core n a b → IsServed j site task n a b
served j site task core n a b begun only going = record {
  begun = begun;
  over = over site a going.store (λ table. IsRun j site table n a b) going.found (λ table holds. ran_so j site table core n a b only (going.runs table holds));
}

-- a core to which no Stop came asks the floor
asks_so : (j : JudgeSeen) (site : Site) (table : Table) (core : Core) (n : ℕ) (a b : Seen) → OnlyNow a → core.stopping ≡ false → IsOn j site table core n a b → IsAsking j site table n a b
asks_so j site table core n a b only asks on = record { run = ran_so j site table core n a b only on; asks = sym on.under.stands.stopping ∙ asks }

-- one that has just begun does
pub asks_first : (site : Site) (told : Option FileMap) (core : Core) (c d : ClockSeen) → IsOpened site told core c d → core.stopping ≡ false
asks_first site told core c d opened = let b = opened.begins opened.found.some opened.found.holds in b.begins.stands.stopping

-- the floor failed
pub serves_lost : (j : JudgeSeen) (faults : ℕ) (site : Site) (task : Task) (core : Core) (n : ℕ) (a b : Seen) → is_some (door_of site.config task) ≡ true → IsBegunAt (door_of site.config task) a.floor b.floor → OnlyNow a → n < 2 ^ 60 → core.stopping ≡ false
    → IsGoing j site core n a b → Rose a.floor.faults b.floor.faults → Serves j faults site task a b ends.FloorFault
serves_lost j faults site task core n a b door begun only few asks going rose = record {
  door = door;
  count = n;
  few = few;
  begun = begun;
  over = over site a going.store (λ table. IsAsking j site table n a b) going.found (λ table holds. asks_so j site table core n a b only asks (going.runs table holds));
  rose = rose;
}

-- all turns were taken
pub serves_spent : (j : JudgeSeen) (faults : ℕ) (site : Site) (task : Task) (core : Core) (n most : ℕ) (a b : Seen) → IsBegunAt (door_of site.config task) a.floor b.floor → OnlyNow a → n ≡ most → most ≡ 2 ^ 60 → IsGoing j site core n a b
    → Serves j faults site task a b (ends.TurnsSpent most)
serves_spent j faults site task core n most a b begun only all is going = (is, served j site task core most a b begun only (subst (λ (q : ℕ). IsGoing j site core q a b) all going))

-- a turn ended the run
pub served_out : (grounds : Grounds) (files now : FilesSeen) (site : Site) (task : Task) (core new : Core) (n : ℕ) (a b c : Seen) (event : Event) (origin : Origin) (went : Result Act CoreStop) → IsBegunAt (door_of site.config task) a.floor c.floor → OnlyNow a → n < 2 ^ 60
    → now ≡ files → IsGoing (judge_by grounds files) site core n a b → ((m : State) → Stands site core m → Turns (judge_by grounds now) site m event origin b c new went) → IsServedOut (judge_by grounds files) site task a c went
served_out grounds files now site task core new n a b c event origin went begun only few same going turns = record {
  count = n + 1;
  few = omega (arith, few);
  begun = begun;
  over = over site a going.store (λ table. HasEnded (judge_by grounds files) site table (n + 1) a c went) going.found (λ table holds.
      let on = going.runs table holds in
      let u = on.under in
      let m = (run_over site on.start u.turns).state in record {
        start = on.start;
        table_is = on.table_is;
        ended = ended_by (judge_by grounds files) site on.start core new n event origin a b c went on.meant u
            (by_same grounds files now site m event origin b c new went same (turns m u.stands)) only;
      });
}

-- ---- what each end says of the counts of faults

pub record IsNoLess (a b : Seen) : Type 0 where
  pub floor : a.floor.faults ≤ b.floor.faults
  pub spool : a.spool.faults ≤ b.spool.faults
  pub spawner : a.hands.spawner.faults ≤ b.hands.spawner.faults
  pub dialer : a.hands.dialer.faults ≤ b.hands.dialer.faults

unserved_later : (site : Site) (a b : Seen) → IsUnserved site a b → IsNoLess a b
unserved_later site a b is = record {
  floor = let e = ap (λ (h : Heard). h.faults) is.floor in omega (arith, e);
  spool = is.spool_faults;
  spawner = let e = ap (λ (h : Hands). h.spawner.faults) is.hands in omega (arith, e);
  dialer = let e = ap (λ (h : Hands). h.dialer.faults) is.hands in omega (arith, e);
}

run_later : (j : JudgeSeen) (site : Site) (start : Start) (turns : List Turn) (a b : Seen) (well : Bool) → Headline j site start turns a b well → IsNoLess a b
run_later j site start turns a b well h = record { floor = h.floor_faults; spool = h.spool_faults; spawner = h.spawner_faults; dialer = h.dialer_faults }

out_later : (j : JudgeSeen) (site : Site) (task : Task) (a b : Seen) (went : Result Act CoreStop) → IsServedOut j site task a b went → IsNoLess a b
out_later j site task a b went is = let e = is.over.run in run_later j site e.start e.ended.turns a b (is_well went) e.ended.headline

served_later : (j : JudgeSeen) (site : Site) (task : Task) (n : ℕ) (a b : Seen) → IsServed j site task n a b → IsNoLess a b
served_later j site task n a b is = let r = is.over.run in run_later j site r.start r.turns a b true r.headline

-- what a run that serves leaves behind is no less than what was there
pub serves_later : (j : JudgeSeen) (faults : ℕ) (site : Site) (task : Task) (a b : Seen) (how : ServeEnd) → Serves j faults site task a b how → IsNoLess a b
serves_later j faults site task a b ends.NotOpened is = unserved_later site a b is.0
serves_later j faults site task a b ends.NoMemory is = unserved_later site a b is
serves_later j faults site task a b ends.FloorFault is = let r = is.over.run in run_later j site r.run.start r.run.turns a b true r.run.headline
serves_later j faults site task a b ends.Finished is = out_later j site task a b (Ok Ended) is
serves_later j faults site task a b (ends.Over stop) is = out_later j site task a b (Err stop) is.1
serves_later j faults site task a b (ends.TurnsSpent count) is = served_later j site task count a b is.1

-- the count of the spool rises in a turn only where the spool's fault ends the run
pub spool_ended : (stop : CoreStop) (first before now : ℕ) → before ≡ first → (is_well {T = Act} (Err stop) ≡ true → now ≡ before) → RisesOnlyAt outcomes.SpoolFault (of_serving (ends.Over stop)) first now
spool_ended stops.SpoolFault first before now same calm = inl refl
spool_ended stops.IdsSpent first before now same calm = inr (calm refl ∙ same)
spool_ended stops.FilesFault first before now same calm = inr (calm refl ∙ same)
spool_ended stops.NoMemory first before now same calm = inr (calm refl ∙ same)

-- ---- the files that the judge reads

-- files that didn't fail are as they were
pub files_same : (f g h : FilesSeen) → g ≡ f → Asks g h false → h ≡ f
files_same f g h same asks = (λ i. record { map = asks.fixed i; faults = asks.calm refl i }) ∙ same

-- files that were as at the start were asked since
pub files_since : (f g h : FilesSeen) (failed : Bool) → g ≡ f → Asks g h failed → Asks f h failed
files_since f g h failed same asks = subst (λ (x : FilesSeen). Asks x h failed) same asks

-- files that are as they were didn't fail
pub files_kept : (f g : FilesSeen) (failed : Bool) → failed ≡ false → g ≡ f → Asks f g failed
files_kept f g failed none same = subst (λ (b : Bool). Asks f g b) (sym none) (subst (λ (x : FilesSeen). Asks f x false) (sym same)
    (record { fixed = refl; later = le_refl f.faults; rose = λ e. absurd (cc e); calm = λ e. refl }))

-- what a judge's faults are is what its files' are
pub files_asked : (f g : FilesSeen) (failed : Bool) → g.map ≡ f.map → f.faults ≤ g.faults → (failed ≡ true → Rose f.faults g.faults) → (failed ≡ false → g.faults ≡ f.faults) → Asks f g failed
files_asked f g failed fixed later rose calm = record { fixed = fixed; later = later; rose = rose; calm = calm }
