-- The outcomes of a run: what each step's own result is told as, and the status of each (sysexits;
-- 76 and up where it has none; the outcomes are own).
use Rattle.std.specs.Prelude.{ℕ}
use Rattle.submit_run.specs.declared.end.SubmitEnd.{SubmitEnd}
use Rattle.submit_run.specs.declared.end.SubmitEnd.TheVariants as submit_ends
use Rattle.mail_core.specs.declared.serving.CoreStop.{CoreStop}
use Rattle.mail_core.specs.declared.serving.CoreStop.TheVariants as stops
use Rattle.command_line.specs.declared.fault.WordFault.{WordFault}
use Rattle.command_line.specs.declared.fault.WordFault.TheVariants as word_faults
use Rattle.sendmail_run.specs.declared.fault.ConfigFault.{ConfigFault}
use Rattle.sendmail_run.specs.declared.fault.ConfigFault.TheVariants as config_faults
use Rattle.sendmail_run.specs.declared.fault.AliasesFault.{AliasesFault}
use Rattle.sendmail_run.specs.declared.fault.AliasesFault.TheVariants as alias_faults
use Rattle.sendmail_run.specs.declared.fault.MapsFault.{MapsFault}
use Rattle.sendmail_run.specs.declared.fault.MapsFault.TheVariants as maps_faults
use Rattle.sendmail_run.specs.declared.address_test.TestEnd.{TestEnd}
use Rattle.sendmail_run.specs.declared.address_test.TestEnd.TheVariants as test_ends
use Rattle.sendmail_run.specs.declared.list_mode.ListEnd.{ListEnd}
use Rattle.sendmail_run.specs.declared.list_mode.ListEnd.TheVariants as list_ends
use Rattle.sendmail_run.specs.declared.serving_mode.ServeEnd.{ServeEnd}
use Rattle.sendmail_run.specs.declared.serving_mode.ServeEnd.TheVariants as serve_ends
use Rattle.sendmail_run.specs.declared.submit_mode.SubmitModeEnd.{SubmitModeEnd}
use Rattle.sendmail_run.specs.declared.submit_mode.SubmitModeEnd.TheVariants as mode_ends
use Rattle.sendmail_run.specs.declared.outcome.Outcome.{Outcome}
use Rattle.sendmail_run.specs.declared.outcome.Outcome.TheVariants.{Done, Usage, NoFile, NoMemory, FilesFault, WriteFault, ReadFault, InputLarge, ConfigLine, AliasLine, FloorFault, TurnsSpent, SpoolFault, IdsSpent, MessageRefused, NoRecipient, BadRecipient}

-- words that are refused
abbrev pub of_words : WordFault → Outcome
of_words (word_faults.At place) = Usage place
of_words word_faults.NoMemory = NoMemory

-- a configuration that isn't read
abbrev pub of_config : ConfigFault → Outcome
of_config (config_faults.NoFile name) = NoFile name
of_config config_faults.FilesFault = FilesFault
of_config (config_faults.Refused line fault) = ConfigLine line fault
of_config config_faults.NoMemory = NoMemory

-- maps that aren't loaded
abbrev pub of_maps : MapsFault → Outcome
of_maps (maps_faults.NoFile name) = NoFile name
of_maps maps_faults.FilesFault = FilesFault
of_maps maps_faults.NoMemory = NoMemory

-- aliases that aren't loaded
abbrev pub of_aliases : AliasesFault → Outcome
of_aliases (alias_faults.NoFile name) = NoFile name
of_aliases (alias_faults.Refused name line) = AliasLine name line
of_aliases alias_faults.FilesFault = FilesFault
of_aliases alias_faults.NoMemory = NoMemory

-- the end of address test mode
abbrev pub of_test : TestEnd → Outcome
of_test test_ends.Done = Done
of_test test_ends.ReadFault = ReadFault
of_test test_ends.WriteFault = WriteFault
of_test test_ends.InputLarge = InputLarge
of_test test_ends.NoMemory = NoMemory

-- the end of the mode that lists the queue
abbrev pub of_list : ListEnd → Outcome
of_list list_ends.Done = Done
of_list list_ends.WriteFault = WriteFault
of_list list_ends.SpoolFault = SpoolFault
of_list list_ends.NoMemory = NoMemory

-- a turn that could not be served whole
abbrev pub of_stop : CoreStop → Outcome
of_stop stops.SpoolFault = SpoolFault
of_stop stops.IdsSpent = IdsSpent
of_stop stops.FilesFault = FilesFault
of_stop stops.NoMemory = NoMemory

-- the end of a mode that serves
abbrev pub of_serving : ServeEnd → Outcome
of_serving serve_ends.NotOpened = SpoolFault
of_serving serve_ends.NoMemory = NoMemory
of_serving serve_ends.FloorFault = FloorFault
of_serving serve_ends.Finished = Done
of_serving (serve_ends.Over stop) = of_stop stop
of_serving (serve_ends.TurnsSpent count) = TurnsSpent count

-- the end of a run over an opened queue that takes a message of a program
abbrev pub of_submission : SubmitEnd → Outcome
of_submission submit_ends.Done = Done
of_submission (submit_ends.MessageRefused code) = MessageRefused code
of_submission submit_ends.NoRecipient = NoRecipient
of_submission (submit_ends.BadRecipient place error) = BadRecipient place error
of_submission submit_ends.ReadFault = ReadFault
of_submission submit_ends.SpoolFault = SpoolFault
of_submission submit_ends.FilesFault = FilesFault
of_submission submit_ends.IdsSpent = IdsSpent
of_submission submit_ends.NoMemory = NoMemory

-- the end of a mode that does
abbrev pub of_submitting : SubmitModeEnd → Outcome
of_submitting mode_ends.NotOpened = SpoolFault
of_submitting mode_ends.NoMemory = NoMemory
of_submitting (mode_ends.Over end) = of_submission end

-- the status that a program ends with
abbrev pub status_of : Outcome → ℕ
status_of Done = 0
status_of (Usage place) = 64
status_of (AliasLine name line) = 65
status_of (NoFile name) = 66
status_of FloorFault = 69
status_of (TurnsSpent count) = 70
status_of NoMemory = 71
status_of FilesFault = 72
status_of WriteFault = 73
status_of ReadFault = 74
status_of SpoolFault = 75
status_of InputLarge = 76
status_of IdsSpent = 77
status_of (MessageRefused code) = 80
status_of NoRecipient = 79
status_of (BadRecipient number error) = 67
status_of (ConfigLine line fault) = 78
