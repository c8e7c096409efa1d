use Rattle.mail_core.proofs.FollowLemmas.{run_joins}
use Rattle.mail_core.proofs.ManyLemmas.{turn_alone}
use Rattle.mail_core.proofs.law.each_turn_is_answered_before_the_next.Goals as goal

pub returns : goal.returns
returns c = record {
  follows = λ site m some more. run_joins site m some more;
  alone = λ site m turn. turn_alone site m turn;
}
