-- What is kept has another id.
use Rattle.std.proofs.Common.{rules}
use Rattle.std.specs.Prelude.{not, eqb}
use Rattle.std.proofs.lemmas.Fn.{filter_same}
use Rattle.queue_table.specs.declared.waiting.Holder.{Holder}
use Rattle.queue_table.proofs.waiting.keep_others.Goals as goal

pub returns : goal.returns
returns c = filter_same _ (λ (h : Holder). not (eqb h.id c.args.id)) _ (λ x b f h. (search rules, search rules)) _ _ c.retain.ensures.filtered
