-- What is kept is no Bcc.
use Rattle.std.proofs.Common.{ℕ, List, rules}
use Rattle.std.specs.Prelude.{not}
use Rattle.std.proofs.lemmas.Fn.{filter_same}
use Rattle.mail_submit.specs.Submissions.{is_bcc}
use Rattle.mail_submit.proofs.submitting.take_out_bcc.Goals as goal

pub returns : goal.returns
returns c = filter_same _ (λ (h : List ℕ). not (is_bcc h)) _ (λ x b f h. (search rules, search rules)) _ _ c.retain.ensures.filtered
