use Rattle.mail_core.proofs.LawLemmas.{success_law, taken_law}
use Rattle.mail_core.proofs.law.every_success_is_sent.Goals as goal

pub returns : goal.returns
returns c = record {
  programs = λ site m turns none meant sound done id child status later is success.
      success_law site m turns c.rows_go_on.ensures none sound meant done id child status later is success;
  peers = λ site m turns none meant sound done id places talk later at place is there success.
      taken_law site m turns c.rows_go_on.ensures none sound meant done id places talk later at place is there success;
}
