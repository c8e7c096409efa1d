-- What is kept is another id.
use Rattle.std.proofs.Common.{rules, ℕ}
use Rattle.std.specs.Prelude.{not, nat_eq}
use Rattle.std.proofs.lemmas.Fn.{filter_same}
use Rattle.mail_core.proofs.listing.keep_others.Goals as goal

pub returns : goal.returns
returns c = filter_same _ (λ (n : ℕ). not (nat_eq n c.args.id)) _ (λ x b f h. (search rules, search rules)) _ _ c.retain.ensures.filtered
