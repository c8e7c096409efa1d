use Rattle.mail_core.proofs.EndedLemmas.{list_law}
use Rattle.mail_core.proofs.law.a_list_that_ends_was_tried.Goals as goal

pub returns : goal.returns
returns c = λ site m turns group id once none on meant sound finished among. list_law site m turns group id once none on meant sound finished among
