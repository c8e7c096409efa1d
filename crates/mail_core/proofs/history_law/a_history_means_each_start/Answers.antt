use Rattle.mail_core.proofs.HistoryLemmas.{starts_law, talks_law}
use Rattle.mail_core.proofs.history_law.a_history_means_each_start.Goals as goal

pub returns : goal.returns
returns c = record {
  programs = λ before p later last done id places start launch rest chain whole. starts_law before p later last chain done id places start launch rest whole;
  peers = λ before p later last done id places talk rest chain whole. talks_law before p later last chain done id places talk rest whole;
}
