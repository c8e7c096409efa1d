-- How a run ends that takes a message of a program. It need not be believed: only private contracts
-- cite it.
use Rattle.std.specs.Prelude.{Bool, false}
use Rattle.command_line.specs.declared.mode.Job.{Job}
use Rattle.command_line.specs.declared.mode.Job.TheVariants.{Submit}
use Rattle.mail_submit.specs.Said.{AreSaid}
use Rattle.submit_run.specs.Taken.{is_files_fault}
use Rattle.sendmail_run.specs.declared.submit_mode.SubmitModeEnd.{SubmitModeEnd}
use Rattle.sendmail_run.specs.declared.submit_mode.SubmitModeEnd.TheVariants as ends

-- the words of a mode that takes a message of a program are in their form
abbrev pub IsWellSaid : Job → Type 0
IsWellSaid (Submit words) = AreSaid words
IsWellSaid job = Unit {0}

-- it ended since files failed that aliases name
abbrev pub has_lost_files : SubmitModeEnd → Bool
has_lost_files ends.NotOpened = false
has_lost_files ends.NoMemory = false
has_lost_files (ends.Over end) = is_files_fault end
