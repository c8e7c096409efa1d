use Rattle.qf_format.proofs.FieldLemmas.{after_some, after_none}
use Rattle.qf_format.proofs.field.after_tag.Goals as goal

pub returns-clause-some : goal.returns-clause-some
returns-clause-some c = after_some (λ r. r.now) c.strip_prefix.result c.args.tag.now c.args.bytes.now c.strip_prefix.ensures.cases

pub returns-clause-none : goal.returns-clause-none
returns-clause-none c = after_none (λ r. r.now) c.strip_prefix.result c.args.tag.now c.args.bytes.now c.strip_prefix.ensures.cases
