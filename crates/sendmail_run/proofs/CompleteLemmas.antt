-- A run that is ready does the whole work of its mode.
use Rattle.std.proofs.Common.{◌≡◌, ℕ, ◌<◌, ◌^◌, true, List, length, Option, Some, None, Result, Ok, Err, refl, sym, ◌∙◌, ap, subst, arith, length-append, inl, inr}
use Rattle.std.specs.Prelude.{IfSome, ◌⊎◌, is_some}
use Rattle.std.proofs.lemmas.Bool.{false≢true}
use Rattle.mail_base.specs.declared.config.Config.{Config}
use Rattle.mail_base.specs.Histories.{Rose}
use Rattle.mail_core.specs.declared.serving.CoreStop.{CoreStop}
use Rattle.mail_core.specs.declared.serving.CoreStop.TheVariants as stops
use Rattle.mail_core.specs.States.{SpoolFault}
use Rattle.mail_core.specs.Causes.{is_judge_fault}
use Rattle.mail_core.specs.declared.act.Act.{Act}
use Rattle.mail_core.specs.Judges.{JudgeSeen}
use Rattle.mail_core.specs.Plans.{Serve}
use Rattle.mail_core.specs.Sites.{Site}
use Rattle.mail_judge.specs.Judged.{Grounds}
use Rattle.mail_submit.specs.declared.words.SubmitWords.{SubmitWords}
use Rattle.submit_run.specs.declared.end.SubmitEnd.{SubmitEnd}
use Rattle.submit_run.specs.declared.end.SubmitEnd.TheVariants as submit_ends
use Rattle.queue_table.specs.Directories.{all_dirs, terms_of}
use Rattle.mail_edge.specs.Moves.{Loses}
use Rattle.mail_edge.specs.Seen.{FilesSeen, FileMap}
use Rattle.sendmail_run.specs.declared.address_test.TestEnd.{TestEnd}
use Rattle.sendmail_run.specs.declared.address_test.TestEnd.TheVariants as test_ends
use Rattle.command_line.specs.declared.mode.Job.{Job}
use Rattle.command_line.specs.declared.mode.Job.TheVariants.{Test, Session, Daemon, Run, List as Listing, Submit}
use Rattle.command_line.specs.declared.mode.Mode.{Mode}
use Rattle.command_line.specs.declared.fault.WordFault.{WordFault}
use Rattle.command_line.specs.declared.fault.WordFault.TheVariants as word_faults
use Rattle.sendmail_run.specs.declared.fault.ConfigFault.{ConfigFault}
use Rattle.sendmail_run.specs.declared.fault.ConfigFault.TheVariants as config_faults
use Rattle.sendmail_run.specs.declared.fault.AliasesFault.{AliasesFault}
use Rattle.sendmail_run.specs.declared.fault.AliasesFault.TheVariants as alias_faults
use Rattle.sendmail_run.specs.declared.fault.MapsFault.{MapsFault}
use Rattle.sendmail_run.specs.declared.fault.MapsFault.TheVariants as maps_faults
use Rattle.cf_reader.specs.declared.fault.CfFault.{CfFault}
use Rattle.cf_reader.specs.declared.fault.CfFault.TheVariants as reasons
use Rattle.map_tables.specs.declared.files.MapFile.{MapFile}
use Rattle.map_tables.specs.Answers.{Loaded}
use Rattle.sendmail_run.specs.declared.list_mode.ListEnd.{ListEnd}
use Rattle.sendmail_run.specs.declared.list_mode.ListEnd.TheVariants as list_ends
use Rattle.sendmail_run.specs.declared.outcome.Outcome.{Outcome}
use Rattle.sendmail_run.specs.declared.outcome.Outcome.TheVariants as outcomes
use Rattle.sendmail_run.specs.declared.serving_mode.ServeEnd.{ServeEnd}
use Rattle.sendmail_run.specs.declared.serving_mode.ServeEnd.TheVariants as serve_ends
use Rattle.sendmail_run.specs.declared.submit_mode.SubmitModeEnd.{SubmitModeEnd}
use Rattle.sendmail_run.specs.declared.submit_mode.SubmitModeEnd.TheVariants as mode_ends
use Rattle.sendmail_run.specs.declared.task.Task.{Task}
use Rattle.sendmail_run.specs.declared.task.Task.TheVariants as tasks
use Rattle.sendmail_run.specs.AliasFiles.{GiveNames, LoadsNames, first_fault, names_by, names_of, unless_fault}
use Rattle.sendmail_run.specs.Beginning.{Begins, Says, said_by}
use Rattle.command_line.specs.CommandLines.{Fails, IsCommandLine}
use Rattle.sendmail_run.specs.Devices.{World, streams_of, core_of}
use Rattle.sendmail_run.specs.Listings.{Lists}
use Rattle.sendmail_run.specs.MapFiles.{GiveMaps, Loads, first_missing, maps_by, maps_of, unless_missing}
use Rattle.sendmail_run.specs.Outcomes.{of_aliases, of_config, of_list, of_maps, of_serving, of_submission, of_submitting, of_test, of_words}
use Rattle.sendmail_run.specs.Printing.{Basis, basis}
use Rattle.sendmail_run.specs.Runs.{Completes, Ends, EndsAtAliases, EndsAtFile, EndsAtMaps, EndsAtWords, EndsAtWork, Finds, HasServed, HasSubmitted, HasTested, IsReady, IsShort, IsSound, IsWhole, NoneFailed, Works, WorksAt}
use Rattle.sendmail_run.specs.Serving.{IsOverQueue, IsServedOut, Serves, grounds_of, judge_by, site_of}
use Rattle.sendmail_run.specs.Submitting.{EndsSo, Submits}
use Rattle.sendmail_run.specs.Tasks.{door_of, plan_of}
use Rattle.sendmail_run.specs.Testing.{IsLarge, Tests}
use Rattle.command_line.proofs.CommandLemmas.{one_mode, not_both}

-- ---- a run that is ready, and in which no device fails, does the mode's whole work

-- memory may run out in each mode
whole_memory : (job : Job) → IsWhole job outcomes.NoMemory
whole_memory Test = inr refl
whole_memory Session = inr (inl refl)
whole_memory (Daemon wait) = inr (inl refl)
whole_memory (Run group) = inr (inl refl)
whole_memory Listing = inr refl
whole_memory (Submit words) = inr (inl refl)

words_whole : (words : List (List ℕ)) (job : Job) (mode : Mode) (fault : WordFault) → IsCommandLine words mode → Fails fault words → IsWhole job (of_words fault)
words_whole words job mode (word_faults.At place) said refused = absurd (not_both words mode place said refused)
words_whole words job mode word_faults.NoMemory said fails = whole_memory job

-- a file that says a configuration isn't missing, and none of its lines is refused
not_said : (files : FilesSeen) (map : FileMap) (file : List ℕ) (config : Config) (said : Option (Result Config CfFault)) → files.map ≡ Some map → said_by map file ≡ Some (Ok config) → Says files file said → said ≡ Some (Ok config)
not_said files map file config said told read says =
    let here : said_by map file ≡ said = subst (λ (o : Option FileMap). IfSome o (λ m. said_by m file ≡ said)) told says in
    sym here ∙ read

-- a file says one configuration
one_config : (files : FilesSeen) (map : FileMap) (file : List ℕ) (config other : Config) → files.map ≡ Some map → said_by map file ≡ Some (Ok config) → Says files file (Some (Ok other)) → config ≡ other
one_config files map file config other told read says =
    let same : Some (Ok other) ≡ Some (Ok config) = not_said files map file config (Some (Ok other)) told read says in
    cc (same)

file_whole : (words : List (List ℕ)) (before after : World) (job : Job) (ready : IsReady words before job) (fault : ConfigFault) → ¬ (Rose before.files.faults after.files.faults) → Begins ready.mode.file before.files after.files (Err fault) → IsWhole job (of_config fault)
file_whole words before after job ready (config_faults.NoFile name) sound is =
    let same : None ≡ Some (Ok ready.config) = not_said before.files ready.map ready.mode.file ready.config None ready.told ready.read is.1 in
    absurd (cc same)
file_whole words before after job ready config_faults.FilesFault sound is = absurd (sound is)
file_whole words before after job ready (config_faults.Refused line fault) sound is =
    let same : Some (Err (reasons.Refused line fault)) ≡ Some (Ok ready.config) = not_said before.files ready.map ready.mode.file ready.config (Some (Err (reasons.Refused line fault))) ready.told ready.read is in
    absurd (cc same)
file_whole words before after job ready config_faults.NoMemory sound is = whole_memory job

few_lost : (left : List ℕ) (after : Option (List ℕ)) (taken : List ℕ) → Loses (Some left) after taken → length taken ≡ 2 ^ 32 → length left < 2 ^ 32 → ⊥
few_lost left None taken h large few = h
few_lost left (Some new) taken h large few = omega (arith, ap length h, length-append taken new, large, few)

not_large : (basis : Basis) (before after : World) → IsShort before.input.left → IsLarge basis (streams_of before) (streams_of after) → ⊥
not_large basis before after short is =
    few_lost short.bytes after.input.left is.taken (subst (λ (o : Option (List ℕ)). Loses o after.input.left is.taken) short.told is.cut.takes) is.all short.few

lines_whole : (basis : Basis) (before after : World) (how : TestEnd) → IsShort before.input.left → NoneFailed Test before after → Tests basis (streams_of before) (streams_of after) how → IsWhole Test (of_test how)
lines_whole basis before after test_ends.Done short sound is = inl refl
lines_whole basis before after test_ends.ReadFault short sound is = absurd (sound.0 is.rose)
lines_whole basis before after test_ends.WriteFault short sound is = absurd (sound.1 is.1)
lines_whole basis before after test_ends.InputLarge short sound is = absurd (not_large basis before after short is)
lines_whole basis before after test_ends.NoMemory short sound is = inr refl

-- files of which none is missing give maps
none_missing : (files : FilesSeen) (map : FileMap) (config : Config) (name : List ℕ) → files.map ≡ Some map → first_missing map config ≡ None → GiveMaps files config (Err name) → ⊥
none_missing files map config name told none gives =
    let here : maps_by map config ≡ Err name = subst (λ (o : Option FileMap). IfSome o (λ m. maps_by m config ≡ Err name)) told gives in
    let there : maps_by map config ≡ Ok (maps_of map config) = ap (λ (o : Option MapFile). unless_missing o (maps_of map config)) none in
    let same : Err name ≡ Ok (maps_of map config) = sym here ∙ there in
    cc same

maps_whole : (config : Config) (before after : World) (job : Job) (map : FileMap) (fault : MapsFault) → before.files.map ≡ Some map → first_missing map config ≡ None → ¬ (Rose before.files.faults after.files.faults)
    → Loads config before.files after.files (Err fault) → IsWhole job (of_maps fault)
maps_whole config before after job map (maps_faults.NoFile name) told none sound is = absurd (none_missing before.files map config name told none is)
maps_whole config before after job map maps_faults.FilesFault told none sound is = absurd (sound is)
maps_whole config before after job map maps_faults.NoMemory told none sound is = whole_memory job

-- files of which each alias file is taken give aliases and homes
none_faulty : (files : FilesSeen) (map : FileMap) (config : Config) (fault : AliasesFault) → files.map ≡ Some map → first_fault map config.options.alias_files ≡ None → GiveNames files config (Err fault) → ⊥
none_faulty files map config fault told none gives =
    let here : names_by map config ≡ Err fault = subst (λ (o : Option FileMap). IfSome o (λ m. names_by m config ≡ Err fault)) told gives in
    let there : names_by map config ≡ Ok (names_of map config) = ap (λ (o : Option AliasesFault). unless_fault o (names_of map config)) none in
    let same : Err fault ≡ Ok (names_of map config) = sym here ∙ there in
    cc same

aliases_whole : (config : Config) (before after : World) (job : Job) (map : FileMap) (fault : AliasesFault) → before.files.map ≡ Some map → first_fault map config.options.alias_files ≡ None → ¬ (Rose before.files.faults after.files.faults)
    → LoadsNames config before.files after.files (Err fault) → IsWhole job (of_aliases fault)
aliases_whole config before after job map (alias_faults.NoFile name) told none sound is = absurd (none_faulty before.files map config (alias_faults.NoFile name) told none is)
aliases_whole config before after job map (alias_faults.Refused name line) told none sound is = absurd (none_faulty before.files map config (alias_faults.Refused name line) told none is)
aliases_whole config before after job map alias_faults.FilesFault told none sound is = absurd (sound is)
aliases_whole config before after job map alias_faults.NoMemory told none sound is = whole_memory job

-- ---- the modes that serve

-- neither files nor spool failed, nor the floor where it was to be begun
record IsCalm (config : Config) (task : Task) (before after : World) : Type 0 where
  files : ¬ (Rose before.files.faults after.files.faults)
  spool : ¬ (Rose before.spool.faults after.spool.faults)
  floor : is_some (door_of config task) ≡ true → ¬ (Rose before.floor.faults after.floor.faults)

over_whole : (j : JudgeSeen) (site : Site) (task : Task) (before after : World) (stop : CoreStop) → j.answerer.faults ≡ before.files.faults → IsCalm site.config task before after
    → (is_judge_fault {T = Act} (Err stop) ≡ true → Rose j.answerer.faults after.files.faults) × IsServedOut j site task (core_of before) (core_of after) (Err stop) → IsWhole Session (of_serving (serve_ends.Over stop))
over_whole j site task before after stops.SpoolFault same calm is = absurd (calm.spool (is.1.over.run.ended.ended SpoolFault refl).cause)
over_whole j site task before after stops.IdsSpent same calm is = inr (inr (inl refl))
over_whole j site task before after stops.FilesFault same calm is = absurd (calm.files (subst (λ (n : ℕ). Rose n after.files.faults) same (is.0 refl)))
over_whole j site task before after stops.NoMemory same calm is = inr (inl refl)

serving_whole : (j : JudgeSeen) (site : Site) (task : Task) (before after : World) (how : ServeEnd) → j.answerer.faults ≡ before.files.faults → IsCalm site.config task before after → Serves j after.files.faults site task (core_of before) (core_of after) how → IsWhole Session (of_serving how)
serving_whole j site task before after serve_ends.NotOpened same calm is = absurd (calm.spool is.1)
serving_whole j site task before after serve_ends.NoMemory same calm is = inr (inl refl)
serving_whole j site task before after serve_ends.FloorFault same calm is = absurd (calm.floor is.door is.rose)
serving_whole j site task before after serve_ends.Finished same calm is = inl refl
serving_whole j site task before after (serve_ends.Over stop) same calm is = over_whole j site task before after stop same calm is
serving_whole j site task before after (serve_ends.TurnsSpent count) same calm is = inr (inr (inr (ap (λ (n : ℕ). outcomes.TurnsSpent n) is.0)))

-- maps that files give, where none is missing
loads_whole : (map : FileMap) (config : Config) (before after : World) (job : Job) (outcome : Outcome) → before.files.map ≡ Some map → first_missing map config ≡ None → ¬ (Rose before.files.faults after.files.faults) → EndsAtMaps config before after outcome → IsWhole job outcome
loads_whole map config before after job outcome told none sound is = subst (IsWhole job) (sym is.told) (maps_whole config before after job map is.fault told none sound is.loads)

tested_whole : (config : Config) (maps : Loaded) (before after : World) (outcome : Outcome) → IsShort before.input.left → IsSound Test before after → HasTested config maps before after outcome → IsWhole Test outcome
tested_whole config maps before after outcome short sound is = subst (λ (o : Outcome). IsWhole Test o) (sym is.told) (lines_whole (basis config maps) before after is.how short sound.own is.tests)

served_whole : (map : FileMap) (config : Config) (task : Task) (maps : Loaded) (before after : World) (outcome : Outcome) → before.files.map ≡ Some map → first_fault map config.options.alias_files ≡ None → IsCalm config task before after
    → EndsAtAliases config before after outcome ⊎ HasServed task config maps before after outcome → IsWhole Session outcome
served_whole map config task maps before after outcome told none calm (inl is) = subst (λ (o : Outcome). IsWhole Session o) (sym is.told) (aliases_whole config before after Session map is.fault told none calm.files is.loads)
served_whole map config task maps before after outcome told none calm (inr is) =
    subst (λ (o : Outcome). IsWhole Session o) (sym is.told) (serving_whole (judge_by (grounds_of config maps is.names) before.files) (site_of config maps (plan_of task)) task before after is.how refl calm is.serves)

task_whole : (map : FileMap) (config : Config) (task : Task) (before after : World) (outcome : Outcome) → before.files.map ≡ Some map → (first_missing map config ≡ None) × (first_fault map config.options.alias_files ≡ None) → IsCalm config task before after
    → WorksAt task config before after outcome → IsWhole Session outcome
task_whole map config task before after outcome told finds calm (inl is) = loads_whole map config before after Session outcome told finds.0 calm.files is
task_whole map config task before after outcome told finds calm (inr is) = served_whole map config task is.maps before after outcome told finds.1 calm is.work

listed_whole : (dirs : List (List ℕ)) (before after : World) (how : ListEnd) → NoneFailed Listing before after → Lists dirs before.spool after.spool before.output after.output how → IsWhole Listing (of_list how)
listed_whole dirs before after list_ends.Done sound is = inl refl
listed_whole dirs before after list_ends.WriteFault sound is = absurd (sound.1 is.writes.rose)
listed_whole dirs before after list_ends.SpoolFault sound is = absurd (sound.0 is.writes.1)
listed_whole dirs before after list_ends.NoMemory sound is = inr refl

-- how a run over an opened queue ends that takes a message of a program
submission_whole : (grounds : Grounds) (site : Site) (words : SubmitWords) (before after : World) (end : SubmitEnd) → ¬ (Rose before.files.faults after.files.faults) → NoneFailed (Submit words) before after → IsOverQueue site (core_of before) (Submits grounds site words before after end)
    → IsWhole (Submit words) (of_submission end)
submission_whole grounds site words before after submit_ends.Done files sound is = inl refl
submission_whole grounds site words before after (submit_ends.MessageRefused code) files sound is = inr (inr (inr tt))
submission_whole grounds site words before after submit_ends.NoRecipient files sound is = inr (inr (inr tt))
submission_whole grounds site words before after (submit_ends.BadRecipient place error) files sound is = inr (inr (inr tt))
submission_whole grounds site words before after submit_ends.ReadFault files sound is = absurd (sound.1 is.run.asked.1)
submission_whole grounds site words before after submit_ends.SpoolFault files sound is = absurd (sound.0 is.run.asked.1)
submission_whole grounds site words before after submit_ends.FilesFault files sound is = absurd (files is.run.asked.1)
submission_whole grounds site words before after submit_ends.IdsSpent files sound is = inr (inr (inl refl))
submission_whole grounds site words before after submit_ends.NoMemory files sound is = inr (inl refl)

submitting_whole : (grounds : Grounds) (site : Site) (words : SubmitWords) (before after : World) (how : SubmitModeEnd) → ¬ (Rose before.files.faults after.files.faults) → NoneFailed (Submit words) before after → EndsSo grounds site words before after how
    → IsWhole (Submit words) (of_submitting how)
submitting_whole grounds site words before after mode_ends.NotOpened files sound is = absurd (sound.0 is.1)
submitting_whole grounds site words before after mode_ends.NoMemory files sound is = inr (inl refl)
submitting_whole grounds site words before after (mode_ends.Over end) files sound is = submission_whole grounds site words before after end files sound is

submitted_whole : (map : FileMap) (config : Config) (words : SubmitWords) (maps : Loaded) (before after : World) (outcome : Outcome) → before.files.map ≡ Some map → first_fault map config.options.alias_files ≡ None → IsSound (Submit words) before after
    → EndsAtAliases config before after outcome ⊎ HasSubmitted words config maps before after outcome → IsWhole (Submit words) outcome
submitted_whole map config words maps before after outcome told none sound (inl is) = subst (λ (o : Outcome). IsWhole (Submit words) o) (sym is.told) (aliases_whole config before after (Submit words) map is.fault told none sound.files is.loads)
submitted_whole map config words maps before after outcome told none sound (inr is) =
    subst (λ (o : Outcome). IsWhole (Submit words) o) (sym is.told) (submitting_whole (grounds_of config maps is.names) (site_of config maps (Serve None)) words before after is.how sound.files sound.own is.ends)

work_whole : (map : FileMap) (config : Config) (before after : World) (job : Job) (outcome : Outcome) → before.files.map ≡ Some map → Finds job map config before → IsSound job before after → Works job config before after outcome → IsWhole job outcome
work_whole map config before after Test outcome told finds sound (inl is) = loads_whole map config before after Test outcome told finds.0 sound.files is
work_whole map config before after Test outcome told finds sound (inr is) = tested_whole config is.maps before after outcome finds.1 sound is.work
work_whole map config before after Session outcome told finds sound is =
    task_whole map config tasks.Session before after outcome told finds (record { files = sound.files; spool = sound.own.1; floor = λ door. sound.own.0 }) is
work_whole map config before after (Daemon wait) outcome told finds sound is =
    task_whole map config (tasks.Daemon wait) before after outcome told finds (record { files = sound.files; spool = sound.own.1; floor = λ door. sound.own.0 }) is
work_whole map config before after (Run group) outcome told finds sound is =
    task_whole map config (tasks.Run group) before after outcome told finds (record { files = sound.files; spool = sound.own; floor = λ door. absurd (false≢true door) }) is
work_whole map config before after (Submit words) outcome told finds sound (inl is) = loads_whole map config before after (Submit words) outcome told finds.0 sound.files is
work_whole map config before after (Submit words) outcome told finds sound (inr is) = submitted_whole map config words is.maps before after outcome told finds.1 sound is.work
work_whole map config before after Listing outcome told finds sound is = subst (λ (o : Outcome). IsWhole Listing o) (sym is.told) (listed_whole (all_dirs (terms_of config)) before after is.how sound.own is.lists)

-- what a run's end says of a run that is ready
complete_at_words : (words : List (List ℕ)) (before after : World) (outcome : Outcome) → EndsAtWords words before after outcome → Completes words before after outcome
complete_at_words words before after outcome is = λ job ready sound. subst (IsWhole job) (sym is.told) (words_whole words job ready.mode is.fault ready.said is.fails)

complete_at_file : (words : List (List ℕ)) (before after : World) (outcome : Outcome) → EndsAtFile words before after outcome → Completes words before after outcome
complete_at_file words before after outcome is = λ job ready sound.
    let same = one_mode words is.mode ready.mode is.said ready.said in
    let begins : Begins ready.mode.file before.files after.files (Err is.fault) = subst (λ (m : Mode). Begins m.file before.files after.files (Err is.fault)) same is.begins in
    subst (IsWhole job) (sym is.told) (file_whole words before after job ready is.fault sound.files begins)

-- the file of the words gives the configuration that a run is ready with
config_of : (words : List (List ℕ)) (before after : World) (job : Job) (ready : IsReady words before job) (mode : Mode) (config : Config) → IsCommandLine words mode → Begins mode.file before.files after.files (Ok config) → config ≡ ready.config
config_of words before after job ready mode config said begins =
    let same = one_mode words mode ready.mode said ready.said in
    let here : Begins ready.mode.file before.files after.files (Ok config) = subst (λ (m : Mode). Begins m.file before.files after.files (Ok config)) same begins in
    sym (one_config before.files ready.map ready.mode.file ready.config config ready.told ready.read here)

complete_at_work : (words : List (List ℕ)) (before after : World) (outcome : Outcome) → EndsAtWork words before after outcome → Completes words before after outcome
complete_at_work words before after outcome is = λ job ready sound.
    let same = one_mode words is.mode ready.mode is.said ready.said in
    let does : is.mode.job ≡ job = ap (λ (m : Mode). m.job) same ∙ ready.does in
    let works : Works job is.config before after outcome = subst (λ (j : Job). Works j is.config before after outcome) does is.works in
    let found : Works job ready.config before after outcome = subst (λ (c : Config). Works job c before after outcome) (config_of words before after job ready is.mode is.config is.said is.begins) works in
    work_whole ready.map ready.config before after job outcome ready.told ready.finds sound found

-- however a run ends, it does the whole work of its mode where it is ready and no device fails
pub completes : (words : List (List ℕ)) (before after : World) (outcome : Outcome) → Ends words before after outcome → Completes words before after outcome
completes words before after outcome (inl is) = complete_at_words words before after outcome is
completes words before after outcome (inr (inl is)) = complete_at_file words before after outcome is
completes words before after outcome (inr (inr is)) = complete_at_work words before after outcome is
