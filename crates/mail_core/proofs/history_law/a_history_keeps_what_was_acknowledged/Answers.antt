use Rattle.mail_core.proofs.HistoryLemmas.{kept_law, entries_law, handed_over_law}
use Rattle.mail_core.proofs.history_law.a_history_keeps_what_was_acknowledged.Goals as goal

pub returns : goal.returns
returns c = record {
  acknowledged = λ before p later last session id chain within said. kept_law before p later last chain session id within said;
  handed = λ before p later last command s chain whole among. handed_over_law before p later last chain command s whole among;
  entries = λ before p later last done rest s chain whole among. entries_law before p later last chain done rest s whole among;
}
