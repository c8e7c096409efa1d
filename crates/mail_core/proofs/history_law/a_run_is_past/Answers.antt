use Rattle.mail_core.proofs.HistoryLemmas.{free_law, handed_law, past_law}
use Rattle.mail_core.proofs.UntoldLemmas.{headline_past}
use Rattle.mail_core.proofs.history_law.a_run_is_past.Goals as goal

pub returns : goal.returns
returns c = record {
  past = λ site start turns well told meant free left. past_law site start turns well told meant free left;
  handed = λ site start effects well told files hands free is left. handed_law site start effects well told files hands free is left;
  free = λ dirs files table next stands first. free_law dirs files table next stands first;
}
