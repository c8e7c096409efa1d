use Rattle.mail_core.proofs.HistoryLemmas.{once_law, peers_law, programs_law}
use Rattle.mail_core.proofs.history_law.a_history_repeats_no_delivery.Goals as goal

pub returns : goal.returns
returns c = record {
  sent = λ before p between q later last sooner rest id place done effect more chain whole sent all try. once_law before p between q later last sooner rest id place done effect more chain whole sent all try;
  programs = λ before p later last done id child status rest chain whole success. programs_law before p later last chain done id child status rest whole success;
  peers = λ before p later last done id places talk rest at place chain whole there success. peers_law before p later last chain done id places talk rest at place whole there success;
}
