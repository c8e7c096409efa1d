use Rattle.mail_core.proofs.HistoryLemmas.{rows_law, sent_law}
use Rattle.mail_core.proofs.history_law.a_history_moves_rows_on.Goals as goal

pub returns : goal.returns
returns c = record {
  rows = λ before p later last done rest id place row chain whole at. rows_law before p later last chain done rest id place row whole at;
  sent = λ before p later last done rest id place chain whole sent. sent_law before p later last chain done rest id place whole sent;
}
