-- How a run ends, and what it leaves.
use Rattle.std.proofs.Common.{◌≡◌, ℕ, ◌≤◌, false, List, None, Result, Ok, Err, refl, sym, ◌∙◌, subst, inl, inr}
use Rattle.std.proofs.Math.Nat.{le_refl}
use Rattle.std.specs.Prelude.{IfSome}
use Rattle.link_edge.specs.Heard.{Heard}
use Rattle.mail_base.specs.declared.config.Config.{Config}
use Rattle.mail_core.specs.declared.serving.CoreStop.TheVariants as stops
use Rattle.mail_core.specs.Judges.{JudgeSeen}
use Rattle.mail_core.specs.Plans.{Serve}
use Rattle.mail_core.specs.Sites.{Site}
use Rattle.mail_core.specs.Seen.{Beside, Hands, beside, seen as core_seen}
use Rattle.mail_edge.specs.Seen.{ClockSeen, FilesSeen, SinkSeen, SourceSeen}
use Rattle.spool_disk.specs.Spooled.{Spooled}
use Rattle.mail_submit.specs.declared.words.SubmitWords.{SubmitWords}
use Rattle.queue_table.specs.Directories.{all_dirs, terms_of}
use Rattle.sendmail_run.specs.declared.address_test.TestEnd.{TestEnd}
use Rattle.command_line.specs.declared.mode.Job.{Job}
use Rattle.command_line.specs.declared.mode.Job.TheVariants.{Test, Session, Daemon, Run, List as Listing, Submit}
use Rattle.command_line.specs.declared.mode.Mode.{Mode}
use Rattle.command_line.specs.declared.fault.WordFault.{WordFault}
use Rattle.sendmail_run.specs.declared.fault.ConfigFault.{ConfigFault}
use Rattle.sendmail_run.specs.declared.aliases.Names.{Names}
use Rattle.sendmail_run.specs.declared.fault.AliasesFault.{AliasesFault}
use Rattle.sendmail_run.specs.declared.fault.AliasesFault.TheVariants as alias_faults
use Rattle.sendmail_run.specs.declared.fault.MapsFault.{MapsFault}
use Rattle.sendmail_run.specs.declared.fault.MapsFault.TheVariants as maps_faults
use Rattle.mail_edge.specs.Asking.{Asks}
use Rattle.map_tables.specs.Answers.{Loaded}
use Rattle.sendmail_run.specs.declared.list_mode.ListEnd.{ListEnd}
use Rattle.sendmail_run.specs.declared.outcome.Outcome.{Outcome}
use Rattle.sendmail_run.specs.declared.outcome.Outcome.TheVariants as outcomes
use Rattle.sendmail_run.specs.declared.serving_mode.ServeEnd.{ServeEnd}
use Rattle.sendmail_run.specs.declared.serving_mode.ServeEnd.TheVariants as serve_ends
use Rattle.sendmail_run.specs.declared.submit_mode.SubmitModeEnd.{SubmitModeEnd}
use Rattle.sendmail_run.specs.declared.task.Task.{Task}
use Rattle.sendmail_run.specs.AliasFiles.{LoadsNames, names_by}
use Rattle.sendmail_run.specs.Beginning.{Begins}
use Rattle.command_line.specs.CommandLines.{Fails, IsCommandLine}
use Rattle.sendmail_run.specs.Devices.{World, streams, world}
use Rattle.sendmail_run.specs.Listings.{Lists}
use Rattle.sendmail_run.specs.MapFiles.{Loads, maps_by}
use Rattle.sendmail_run.specs.inner.AliasLoading as alias_loading
use Rattle.sendmail_run.specs.inner.Loading.{Gives, is_files_fault}
use Rattle.sendmail_run.specs.Outcomes.{of_aliases, of_config, of_list, of_maps, of_serving, of_submitting, of_test, of_words}
use Rattle.sendmail_run.specs.Printing.{basis}
use Rattle.sendmail_run.specs.Rises.{Counts, RisesOnlyAt}
use Rattle.sendmail_run.specs.Runs.{Ends, EndsAtMaps, IsUntouched, Stays, SubmitsAt, Works, WorksAt}
use Rattle.sendmail_run.specs.Serving.{Serves, grounds_of, judge_by, site_of}
use Rattle.sendmail_run.specs.Submitting.{EndsSo}
use Rattle.sendmail_run.specs.Tasks.{plan_of}
use Rattle.sendmail_run.specs.inner.Opened.{has_lost_files}
use Rattle.sendmail_run.specs.inner.Submitted.{IsWellSaid, has_lost_files as has_lost_input}
use Rattle.sendmail_run.specs.Testing.{Tests}
use Rattle.command_line.proofs.LineLemmas.{submit_lines}
use Rattle.sendmail_run.proofs.SubmitLemmas.{rises_files}
use Rattle.sendmail_run.proofs.ServingLemmas.{left_alone, serves_later}

-- ---- words

-- words that are taken are in their form, where they hand mail over
form_of : (words : List (List ℕ)) (mode : Mode) (job : Job) → mode.job ≡ job → IsCommandLine words mode → IsWellSaid job
form_of words mode (Submit mail) is said = let lines = submit_lines words mode mail said is in record { addresses = lines.addresses; sender = lines.sender }
form_of words mode Test is said = tt
form_of words mode Session is said = tt
form_of words mode (Daemon wait) is said = tt
form_of words mode (Run group) is said = tt
form_of words mode Listing is said = tt

pub well_said : (words : List (List ℕ)) (mode : Mode) → IsCommandLine words mode → IsWellSaid mode.job
well_said words mode said = form_of words mode mode.job refl said

-- ---- each end of a run

untouched : (f0 f1 : FilesSeen) (i : SourceSeen) (o : SinkSeen) (l : Heard) (s : Spooled) (k : Beside) → IsUntouched (world f0 i o l s k) (world f1 i o l s k)
untouched f0 f1 i o l s k = record { idle = record { input = refl; output = refl }; alone = left_alone (core_seen l s k) }

-- a run whose words are refused ends with the outcome of this fault
pub ends_at_words : (words : List (List ℕ)) (f : FilesSeen) (i : SourceSeen) (o : SinkSeen) (l : Heard) (s : Spooled) (k : Beside) (fault : WordFault) (outcome : Outcome) → outcome ≡ of_words fault → Fails fault words
    → Ends words (world f i o l s k) (world f i o l s k) outcome
ends_at_words words f i o l s k fault outcome told fails = inl (record { fault = fault; told = told; fails = fails; untouched = untouched f f i o l s k; files = refl })

-- a run whose configuration can't be read ends with the outcome of this fault
pub ends_at_file : (words : List (List ℕ)) (f0 f1 : FilesSeen) (i : SourceSeen) (o : SinkSeen) (l : Heard) (s : Spooled) (k : Beside) (mode : Mode) (fault : ConfigFault) (outcome : Outcome) → outcome ≡ of_config fault
    → IsCommandLine words mode → Begins mode.file f0 f1 (Err fault) → Ends words (world f0 i o l s k) (world f1 i o l s k) outcome
ends_at_file words f0 f1 i o l s k mode fault outcome told said begins =
    inr (inl (record { mode = mode; said = said; fault = fault; told = told; begins = begins; untouched = untouched f0 f1 i o l s k }))

-- files that were asked, and didn't fail, are as they were
pub asked_same : (f0 f1 : FilesSeen) → Asks f0 f1 false → f1 ≡ f0
asked_same f0 f1 asks = λ i. record { map = asks.fixed i; faults = asks.calm refl i }

-- files that gave a configuration are as they were
read_same : (f0 f1 : FilesSeen) → f1.map ≡ f0.map → f1.faults ≡ f0.faults → f1 ≡ f0
read_same f0 f1 map kept = λ i. record { map = map i; faults = kept i }

-- a run that has its configuration ends with the work of its mode
pub ends_at_work : (words : List (List ℕ)) (f0 f1 f2 : FilesSeen) (i0 i1 : SourceSeen) (o0 o1 : SinkSeen) (l0 l1 : Heard) (s0 s1 : Spooled) (k0 k1 : Beside) (mode : Mode) (config : Config) (outcome : Outcome) → IsCommandLine words mode
    → Begins mode.file f0 f1 (Ok config) → f1.map ≡ f0.map → f1.faults ≡ f0.faults → Works mode.job config (world f1 i0 o0 l0 s0 k0) (world f2 i1 o1 l1 s1 k1) outcome → Ends words (world f0 i0 o0 l0 s0 k0) (world f2 i1 o1 l1 s1 k1) outcome
ends_at_work words f0 f1 f2 i0 i1 o0 o1 l0 l1 s0 s1 k0 k1 mode config outcome said begins map kept works = inr (inr (record {
  mode = mode;
  said = said;
  config = config;
  begins = begins;
  works = subst (λ (f : FilesSeen). Works mode.job config (world f i0 o0 l0 s0 k0) (world f2 i1 o1 l1 s1 k1) outcome) (read_same f0 f1 map kept) works;
}))

-- ---- the work of each mode

-- the work of the mode that was said
pub as_said : (job known : Job) (config : Config) (before after : World) (outcome : Outcome) → job ≡ known → Works known config before after outcome → Works job config before after outcome
as_said job known config before after outcome is works = subst (λ (j : Job). Works j config before after outcome) (sym is) works

-- why the files of maps gave none
lacked_maps : (config : Config) (f0 f1 : FilesSeen) (fault : MapsFault) → IfSome f0.map (λ map. Gives {V = Loaded} (Err fault) (maps_by map config)) → Asks f0 f1 (is_files_fault {V = Loaded} (Err fault)) → Loads config f0 f1 (Err fault)
lacked_maps config f0 f1 (maps_faults.NoFile name) told asks = told
lacked_maps config f0 f1 maps_faults.FilesFault told asks = asks.rose refl
lacked_maps config f0 f1 maps_faults.NoMemory told asks = tt

-- a mode whose maps can't be loaded ends with the outcome of this fault
pub ends_at_maps : (f0 f1 : FilesSeen) (i : SourceSeen) (o : SinkSeen) (l : Heard) (s : Spooled) (k : Beside) (config : Config) (fault : MapsFault) (outcome : Outcome) → outcome ≡ of_maps fault
    → IfSome f0.map (λ map. Gives {V = Loaded} (Err fault) (maps_by map config)) → Asks f0 f1 (is_files_fault {V = Loaded} (Err fault)) → EndsAtMaps config (world f0 i o l s k) (world f1 i o l s k) outcome
ends_at_maps f0 f1 i o l s k config fault outcome told given asks =
    record { fault = fault; told = told; loads = lacked_maps config f0 f1 fault given asks; untouched = untouched f0 f1 i o l s k }

-- a mode that serves whose maps can't be loaded ends so
pub works_at_maps : (task : Task) (f0 f1 : FilesSeen) (i : SourceSeen) (o : SinkSeen) (l : Heard) (s : Spooled) (k : Beside) (config : Config) (fault : MapsFault) (outcome : Outcome) → outcome ≡ of_maps fault
    → IfSome f0.map (λ map. Gives {V = Loaded} (Err fault) (maps_by map config)) → Asks f0 f1 (is_files_fault {V = Loaded} (Err fault)) → WorksAt task config (world f0 i o l s k) (world f1 i o l s k) outcome
works_at_maps task f0 f1 i o l s k config fault outcome told given asks = inl (ends_at_maps f0 f1 i o l s k config fault outcome told given asks)

-- and so does an address test
pub works_untested : (f0 f1 : FilesSeen) (i : SourceSeen) (o : SinkSeen) (l : Heard) (s : Spooled) (k : Beside) (config : Config) (fault : MapsFault) (outcome : Outcome) → outcome ≡ of_maps fault
    → IfSome f0.map (λ map. Gives {V = Loaded} (Err fault) (maps_by map config)) → Asks f0 f1 (is_files_fault {V = Loaded} (Err fault)) → Works Test config (world f0 i o l s k) (world f1 i o l s k) outcome
works_untested f0 f1 i o l s k config fault outcome told given asks = inl (ends_at_maps f0 f1 i o l s k config fault outcome told given asks)

pub loaded_maps : (config : Config) (f0 f1 : FilesSeen) (maps : Loaded) → IfSome f0.map (λ map. Gives (Ok maps) (maps_by map config)) → Loads config f0 f1 (Ok maps)
loaded_maps config f0 f1 maps told = told

-- an address test ends with the outcome of its end
pub works_tested : (f0 f1 : FilesSeen) (i0 i1 : SourceSeen) (o0 o1 : SinkSeen) (l : Heard) (s : Spooled) (k : Beside) (config : Config) (maps : Loaded) (how : TestEnd) (outcome : Outcome) → outcome ≡ of_test how
    → IfSome f0.map (λ map. Gives (Ok maps) (maps_by map config)) → Tests (basis config maps) (streams i0 o0) (streams i1 o1) how → Works Test config (world f0 i0 o0 l s k) (world f1 i1 o1 l s k) outcome
works_tested f0 f1 i0 i1 o0 o1 l s k config maps how outcome told given tests =
    inr (record { maps = maps; loads = loaded_maps config f0 f1 maps given; work = record { how = how; told = told; tests = tests; alone = left_alone (core_seen l s k) } })

-- a listing ends with the outcome of its end
pub works_listed : (f : FilesSeen) (i : SourceSeen) (o0 o1 : SinkSeen) (l : Heard) (s0 s1 : Spooled) (k : Beside) (config : Config) (how : ListEnd) (outcome : Outcome) → outcome ≡ of_list how
    → Lists (all_dirs (terms_of config)) s0 s1 o0 o1 how → Works Listing config (world f i o0 l s0 k) (world f i o1 l s1 k) outcome
works_listed f i o0 o1 l s0 s1 k config how outcome told lists = record { how = how; told = told; lists = lists; input = refl; floor = refl; clock = refl; hands = refl }

-- the aliases and homes that files give, or why they give none, by what was asked of them
pub loads_names : (config : Config) (f0 f1 : FilesSeen) (result : Result Names AliasesFault) → IfSome f0.map (λ map. alias_loading.Gives result (names_by map config)) → Asks f0 f1 (alias_loading.is_files_fault result) → LoadsNames config f0 f1 result
loads_names config f0 f1 (Ok names) told asks = told
loads_names config f0 f1 (Err (alias_faults.NoFile name)) told asks = told
loads_names config f0 f1 (Err (alias_faults.Refused name line)) told asks = told
loads_names config f0 f1 (Err alias_faults.FilesFault) told asks = asks.rose refl
loads_names config f0 f1 (Err alias_faults.NoMemory) told asks = tt

pub loaded_names : (config : Config) (f0 f1 : FilesSeen) (names : Names) → IfSome f0.map (λ map. alias_loading.Gives (Ok names) (names_by map config)) → LoadsNames config f0 f1 (Ok names)
loaded_names config f0 f1 names told = told

-- a mode that serves whose aliases aren't loaded ends with the outcome of this fault
pub works_at_aliases : (task : Task) (f0 f1 f2 : FilesSeen) (i : SourceSeen) (o : SinkSeen) (l : Heard) (s : Spooled) (k : Beside) (config : Config) (maps : Loaded) (fault : AliasesFault) (outcome : Outcome) → outcome ≡ of_aliases fault
    → IfSome f0.map (λ map. Gives (Ok maps) (maps_by map config)) → Asks f0 f1 false
    → IfSome f1.map (λ map. alias_loading.Gives {V = Names} (Err fault) (names_by map config)) → Asks f1 f2 (alias_loading.is_files_fault {V = Names} (Err fault)) → WorksAt task config (world f0 i o l s k) (world f2 i o l s k) outcome
works_at_aliases task f0 f1 f2 i o l s k config maps fault outcome told loaded calm given asks = inr (record {
  maps = maps;
  loads = loaded_maps config f0 f2 maps loaded;
  work = inl (record {
    fault = fault;
    told = told;
    loads = subst (λ (f : FilesSeen). LoadsNames config f f2 (Err fault)) (asked_same f0 f1 calm) (loads_names config f1 f2 (Err fault) given asks);
    untouched = untouched f0 f2 i o l s k;
  });
})

-- a mode that serves ends with the outcome of its end
pub works_served : (task : Task) (f0 f1 f2 f3 : FilesSeen) (i : SourceSeen) (o : SinkSeen) (l0 l1 : Heard) (s0 s1 : Spooled) (k0 k1 : Beside) (config : Config) (maps : Loaded) (names : Names) (how : ServeEnd) (outcome : Outcome) → outcome ≡ of_serving how
    → IfSome f0.map (λ map. Gives (Ok maps) (maps_by map config)) → Asks f0 f1 false
    → IfSome f1.map (λ map. alias_loading.Gives (Ok names) (names_by map config)) → Asks f1 f2 false → Serves (judge_by (grounds_of config maps names) f2) f3.faults (site_of config maps (plan_of task)) task (core_seen l0 s0 k0) (core_seen l1 s1 k1) how → WorksAt task config (world f0 i o l0 s0 k0) (world f3 i o l1 s1 k1) outcome
works_served task f0 f1 f2 f3 i o l0 l1 s0 s1 k0 k1 config maps names how outcome told loaded calm given asks serves = inr (record {
  maps = maps;
  loads = loaded_maps config f0 f3 maps loaded;
  work = inr (record {
    names = names;
    loads = subst (λ (f : FilesSeen). LoadsNames config f f3 (Ok names)) (asked_same f0 f1 calm) (loaded_names config f1 f3 names given);
    how = how;
    told = told;
    serves = subst (λ (f : FilesSeen). Serves (judge_by (grounds_of config maps names) f) f3.faults (site_of config maps (plan_of task)) task (core_seen l0 s0 k0) (core_seen l1 s1 k1) how) (asked_same f1 f2 asks ∙ asked_same f0 f1 calm) serves;
    idle = record { input = refl; output = refl };
  });
})

-- a mode that takes a message of a program, whose maps can't be loaded, ends so
pub submits_at_maps : (words : SubmitWords) (f0 f1 : FilesSeen) (i : SourceSeen) (o : SinkSeen) (l : Heard) (s : Spooled) (k : Beside) (config : Config) (fault : MapsFault) (outcome : Outcome) → outcome ≡ of_maps fault
    → IfSome f0.map (λ map. Gives {V = Loaded} (Err fault) (maps_by map config)) → Asks f0 f1 (is_files_fault {V = Loaded} (Err fault)) → SubmitsAt words config (world f0 i o l s k) (world f1 i o l s k) outcome
submits_at_maps words f0 f1 i o l s k config fault outcome told given asks = inl (ends_at_maps f0 f1 i o l s k config fault outcome told given asks)

-- one whose aliases aren't loaded
pub submits_at_aliases : (words : SubmitWords) (f0 f1 f2 : FilesSeen) (i : SourceSeen) (o : SinkSeen) (l : Heard) (s : Spooled) (k : Beside) (config : Config) (maps : Loaded) (fault : AliasesFault) (outcome : Outcome) → outcome ≡ of_aliases fault
    → IfSome f0.map (λ map. Gives (Ok maps) (maps_by map config)) → Asks f0 f1 false
    → IfSome f1.map (λ map. alias_loading.Gives {V = Names} (Err fault) (names_by map config)) → Asks f1 f2 (alias_loading.is_files_fault {V = Names} (Err fault)) → SubmitsAt words config (world f0 i o l s k) (world f2 i o l s k) outcome
submits_at_aliases words f0 f1 f2 i o l s k config maps fault outcome told loaded calm given asks = inr (record {
  maps = maps;
  loads = loaded_maps config f0 f2 maps loaded;
  work = inl (record {
    fault = fault;
    told = told;
    loads = subst (λ (f : FilesSeen). LoadsNames config f f2 (Err fault)) (asked_same f0 f1 calm) (loads_names config f1 f2 (Err fault) given asks);
    untouched = untouched f0 f2 i o l s k;
  });
})

-- and one that has them
pub submits_so : (words : SubmitWords) (f0 f1 f2 f3 : FilesSeen) (i0 i1 : SourceSeen) (o : SinkSeen) (l : Heard) (h : Hands) (s0 s1 : Spooled) (c0 c1 : ClockSeen) (config : Config) (maps : Loaded) (names : Names) (how : SubmitModeEnd) (outcome : Outcome) → outcome ≡ of_submitting how
    → IfSome f0.map (λ map. Gives (Ok maps) (maps_by map config)) → Asks f0 f1 false → IfSome f1.map (λ map. alias_loading.Gives (Ok names) (names_by map config)) → Asks f1 f2 false
    → EndsSo (grounds_of config maps names) (site_of config maps (Serve None)) words (world f2 i0 o l s0 (beside c0 h)) (world f3 i1 o l s1 (beside c1 h)) how
    → SubmitsAt words config (world f0 i0 o l s0 (beside c0 h)) (world f3 i1 o l s1 (beside c1 h)) outcome
submits_so words f0 f1 f2 f3 i0 i1 o l h s0 s1 c0 c1 config maps names how outcome told loaded calm given asks ends = inr (record {
  maps = maps;
  loads = loaded_maps config f0 f3 maps loaded;
  work = inr (record {
    names = names;
    loads = subst (λ (f : FilesSeen). LoadsNames config f f3 (Ok names)) (asked_same f0 f1 calm) (loaded_names config f1 f3 names given);
    how = how;
    told = told;
    ends = subst (λ (f : FilesSeen). EndsSo (grounds_of config maps names) (site_of config maps (Serve None)) words (world f i0 o l s0 (beside c0 h)) (world f3 i1 o l s1 (beside c1 h)) how) (asked_same f1 f2 asks ∙ asked_same f0 f1 calm) ends;
    output = refl;
    floor = refl;
    hands = refl;
  });
})

-- ---- what stays

pub same_count : (fault outcome : Outcome) (n : ℕ) → Counts fault outcome n n
same_count fault outcome n = record { later = le_refl n; rises = inr refl }

-- a device's count of faults rises only at the outcome that tells of it
pub counts : (fault outcome how : Outcome) (before after : ℕ) → outcome ≡ how → before ≤ after → RisesOnlyAt fault how before after → Counts fault outcome before after
counts fault outcome how before after told later rises = record { later = later; rises = subst (λ (o : Outcome). RisesOnlyAt fault o before after) (sym told) rises }

-- a run whose words are refused leaves the files, and counts no fault
pub stays_at_words : (f : FilesSeen) (i : SourceSeen) (o : SinkSeen) (l : Heard) (s : Spooled) (k : Beside) (outcome : Outcome) → Stays (world f i o l s k) (world f i o l s k) outcome
stays_at_words f i o l s k outcome = record {
  map = refl;
  files = same_count outcomes.FilesFault outcome f.faults;
  input = same_count outcomes.ReadFault outcome i.faults;
  output = same_count outcomes.WriteFault outcome o.faults;
  floor = same_count outcomes.FloorFault outcome l.faults;
  spool = same_count outcomes.SpoolFault outcome s.faults;
  spawner = le_refl k.hands.spawner.faults;
  dialer = le_refl k.hands.dialer.faults;
}

-- a run whose configuration can't be read leaves the files, and counts a fault of theirs alone
pub stays_at_file : (f0 f1 : FilesSeen) (i : SourceSeen) (o : SinkSeen) (l : Heard) (s : Spooled) (k : Beside) (outcome : Outcome) → f1.map ≡ f0.map → Counts outcomes.FilesFault outcome f0.faults f1.faults → Stays (world f0 i o l s k) (world f1 i o l s k) outcome
stays_at_file f0 f1 i o l s k outcome map files = record {
  map = map;
  files = files;
  input = same_count outcomes.ReadFault outcome i.faults;
  output = same_count outcomes.WriteFault outcome o.faults;
  floor = same_count outcomes.FloorFault outcome l.faults;
  spool = same_count outcomes.SpoolFault outcome s.faults;
  spawner = le_refl k.hands.spawner.faults;
  dialer = le_refl k.hands.dialer.faults;
}

-- a count that rises in the files of maps
maps_rise : (f0 f1 : FilesSeen) (fault : MapsFault) → Asks f0 f1 (is_files_fault {V = Loaded} (Err fault)) → RisesOnlyAt outcomes.FilesFault (of_maps fault) f0.faults f1.faults
maps_rise f0 f1 (maps_faults.NoFile name) asks = inr (asks.calm refl)
maps_rise f0 f1 maps_faults.FilesFault asks = inl refl
maps_rise f0 f1 maps_faults.NoMemory asks = inr (asks.calm refl)

-- a mode whose maps can't be loaded leaves the files, and counts a fault of theirs alone
pub stays_at_maps : (f0 f1 : FilesSeen) (i : SourceSeen) (o : SinkSeen) (l : Heard) (s : Spooled) (k : Beside) (fault : MapsFault) (outcome : Outcome) → outcome ≡ of_maps fault → Asks f0 f1 (is_files_fault {V = Loaded} (Err fault)) → Stays (world f0 i o l s k) (world f1 i o l s k) outcome
stays_at_maps f0 f1 i o l s k fault outcome told asks =
    stays_at_file f0 f1 i o l s k outcome asks.fixed (counts outcomes.FilesFault outcome (of_maps fault) f0.faults f1.faults told asks.later (maps_rise f0 f1 fault asks))

-- a count of the files that no fault of theirs raised
files_asked : (f0 f1 : FilesSeen) (outcome : Outcome) → Asks f0 f1 false → Counts outcomes.FilesFault outcome f0.faults f1.faults
files_asked f0 f1 outcome asks = record { later = asks.later; rises = inr (asks.calm refl) }

-- an address test leaves the files, and counts a fault of a stream only where it ended by it
pub stays_tested : (f0 f1 : FilesSeen) (i0 i1 : SourceSeen) (o0 o1 : SinkSeen) (l : Heard) (s : Spooled) (k : Beside) (outcome : Outcome) → Asks f0 f1 false
    → Counts outcomes.ReadFault outcome i0.faults i1.faults → Counts outcomes.WriteFault outcome o0.faults o1.faults → Stays (world f0 i0 o0 l s k) (world f1 i1 o1 l s k) outcome
stays_tested f0 f1 i0 i1 o0 o1 l s k outcome asks input output = record {
  map = asks.fixed;
  files = files_asked f0 f1 outcome asks;
  input = input;
  output = output;
  floor = same_count outcomes.FloorFault outcome l.faults;
  spool = same_count outcomes.SpoolFault outcome s.faults;
  spawner = le_refl k.hands.spawner.faults;
  dialer = le_refl k.hands.dialer.faults;
}

-- a listing counts a fault of the output or the spool only where it ended by it
pub stays_listed : (f : FilesSeen) (i : SourceSeen) (o0 o1 : SinkSeen) (l : Heard) (s0 s1 : Spooled) (k : Beside) (outcome : Outcome) → Counts outcomes.WriteFault outcome o0.faults o1.faults
    → Counts outcomes.SpoolFault outcome s0.faults s1.faults → Stays (world f i o0 l s0 k) (world f i o1 l s1 k) outcome
stays_listed f i o0 o1 l s0 s1 k outcome output spool = record {
  map = refl;
  files = same_count outcomes.FilesFault outcome f.faults;
  input = same_count outcomes.ReadFault outcome i.faults;
  output = output;
  floor = same_count outcomes.FloorFault outcome l.faults;
  spool = spool;
  spawner = le_refl k.hands.spawner.faults;
  dialer = le_refl k.hands.dialer.faults;
}

-- a count that rises in the files of aliases and homes
aliases_rise : (f0 f1 : FilesSeen) (fault : AliasesFault) → Asks f0 f1 (alias_loading.is_files_fault {V = Names} (Err fault)) → RisesOnlyAt outcomes.FilesFault (of_aliases fault) f0.faults f1.faults
aliases_rise f0 f1 (alias_faults.NoFile name) asks = inr (asks.calm refl)
aliases_rise f0 f1 (alias_faults.Refused name line) asks = inr (asks.calm refl)
aliases_rise f0 f1 alias_faults.FilesFault asks = inl refl
aliases_rise f0 f1 alias_faults.NoMemory asks = inr (asks.calm refl)

-- a mode that serves whose aliases aren't loaded leaves the files, and counts a fault of theirs alone
pub stays_at_aliases : (f0 f1 f2 : FilesSeen) (i : SourceSeen) (o : SinkSeen) (l : Heard) (s : Spooled) (k : Beside) (fault : AliasesFault) (outcome : Outcome) → outcome ≡ of_aliases fault → Asks f0 f1 false → Asks f1 f2 (alias_loading.is_files_fault {V = Names} (Err fault)) → Stays (world f0 i o l s k) (world f2 i o l s k) outcome
stays_at_aliases f0 f1 f2 i o l s k fault outcome told calm asks = subst (λ (f : FilesSeen). Stays (world f i o l s k) (world f2 i o l s k) outcome) (asked_same f0 f1 calm)
    (stays_at_file f1 f2 i o l s k outcome asks.fixed (counts outcomes.FilesFault outcome (of_aliases fault) f1.faults f2.faults told asks.later (aliases_rise f1 f2 fault asks)))

-- a count that rises in the files that the judge reads
serving_rises : (f0 f1 : FilesSeen) (how : ServeEnd) → Asks f0 f1 (has_lost_files how) → RisesOnlyAt outcomes.FilesFault (of_serving how) f0.faults f1.faults
serving_rises f0 f1 serve_ends.NotOpened asks = inr (asks.calm refl)
serving_rises f0 f1 serve_ends.NoMemory asks = inr (asks.calm refl)
serving_rises f0 f1 serve_ends.FloorFault asks = inr (asks.calm refl)
serving_rises f0 f1 serve_ends.Finished asks = inr (asks.calm refl)
serving_rises f0 f1 (serve_ends.Over stops.SpoolFault) asks = inr (asks.calm refl)
serving_rises f0 f1 (serve_ends.Over stops.IdsSpent) asks = inr (asks.calm refl)
serving_rises f0 f1 (serve_ends.Over stops.FilesFault) asks = inl refl
serving_rises f0 f1 (serve_ends.Over stops.NoMemory) asks = inr (asks.calm refl)
serving_rises f0 f1 (serve_ends.TurnsSpent count) asks = inr (asks.calm refl)

-- a mode that serves leaves the files, and counts a fault of files, floor or spool only where it
-- ended by it
pub stays_served : (j : JudgeSeen) (site : Site) (task : Task) (f0 f1 f2 f3 : FilesSeen) (i : SourceSeen) (o : SinkSeen) (l0 l1 : Heard) (s0 s1 : Spooled) (k0 k1 : Beside) (how : ServeEnd) (outcome : Outcome) → outcome ≡ of_serving how
    → Asks f0 f1 false → Asks f1 f2 false → Asks f2 f3 (has_lost_files how) → Serves j f3.faults site task (core_seen l0 s0 k0) (core_seen l1 s1 k1) how → RisesOnlyAt outcomes.FloorFault (of_serving how) l0.faults l1.faults → RisesOnlyAt outcomes.SpoolFault (of_serving how) s0.faults s1.faults
    → Stays (world f0 i o l0 s0 k0) (world f3 i o l1 s1 k1) outcome
stays_served j site task f0 f1 f2 f3 i o l0 l1 s0 s1 k0 k1 how outcome told calm asks lost serves floor spool =
    let no_less = serves_later j f3.faults site task (core_seen l0 s0 k0) (core_seen l1 s1 k1) how serves in
    let since : Asks f0 f3 (has_lost_files how) = subst (λ (f : FilesSeen). Asks f f3 (has_lost_files how)) (asked_same f1 f2 asks ∙ asked_same f0 f1 calm) lost in record {
      map = since.fixed;
      files = counts outcomes.FilesFault outcome (of_serving how) f0.faults f3.faults told since.later (serving_rises f0 f3 how since);
      input = same_count outcomes.ReadFault outcome i.faults;
      output = same_count outcomes.WriteFault outcome o.faults;
      floor = counts outcomes.FloorFault outcome (of_serving how) l0.faults l1.faults told no_less.floor floor;
      spool = counts outcomes.SpoolFault outcome (of_serving how) s0.faults s1.faults told no_less.spool spool;
      spawner = no_less.spawner;
      dialer = no_less.dialer;
    }

-- a mode that takes a message of a program leaves the files, and counts a fault of files, input or
-- spool only where it ended by it
pub stays_submitted : (f0 f1 f2 f3 : FilesSeen) (i0 i1 : SourceSeen) (o : SinkSeen) (l : Heard) (h : Hands) (s0 s1 : Spooled) (c0 c1 : ClockSeen) (how : SubmitModeEnd) (outcome : Outcome) → outcome ≡ of_submitting how
    → Asks f0 f1 false → Asks f1 f2 false → Asks f2 f3 (has_lost_input how) → i0.faults ≤ i1.faults → RisesOnlyAt outcomes.ReadFault (of_submitting how) i0.faults i1.faults → s0.faults ≤ s1.faults → RisesOnlyAt outcomes.SpoolFault (of_submitting how) s0.faults s1.faults
    → Stays (world f0 i0 o l s0 (beside c0 h)) (world f3 i1 o l s1 (beside c1 h)) outcome
stays_submitted f0 f1 f2 f3 i0 i1 o l h s0 s1 c0 c1 how outcome told calm asks lost later_input input later_spool spool =
    let since : Asks f0 f3 (has_lost_input how) = subst (λ (f : FilesSeen). Asks f f3 (has_lost_input how)) (asked_same f1 f2 asks ∙ asked_same f0 f1 calm) lost in record {
      map = since.fixed;
      files = counts outcomes.FilesFault outcome (of_submitting how) f0.faults f3.faults told since.later (rises_files f0 f3 how since);
      input = counts outcomes.ReadFault outcome (of_submitting how) i0.faults i1.faults told later_input input;
      output = same_count outcomes.WriteFault outcome o.faults;
      floor = same_count outcomes.FloorFault outcome l.faults;
      spool = counts outcomes.SpoolFault outcome (of_submitting how) s0.faults s1.faults told later_spool spool;
      spawner = le_refl h.spawner.faults;
      dialer = le_refl h.dialer.faults;
    }

-- what the work of a mode leaves, the run leaves that had its configuration
pub stays_at_work : (f0 f1 f2 : FilesSeen) (i0 i1 : SourceSeen) (o0 o1 : SinkSeen) (l0 l1 : Heard) (s0 s1 : Spooled) (k0 k1 : Beside) (outcome : Outcome) → f1.map ≡ f0.map → f1.faults ≡ f0.faults
    → Stays (world f1 i0 o0 l0 s0 k0) (world f2 i1 o1 l1 s1 k1) outcome → Stays (world f0 i0 o0 l0 s0 k0) (world f2 i1 o1 l1 s1 k1) outcome
stays_at_work f0 f1 f2 i0 i1 o0 o1 l0 l1 s0 s1 k0 k1 outcome map kept stays = subst (λ (f : FilesSeen). Stays (world f i0 o0 l0 s0 k0) (world f2 i1 o1 l1 s1 k1) outcome) (read_same f0 f1 map kept) stays
