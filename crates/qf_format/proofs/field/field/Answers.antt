use Rattle.qf_format.proofs.FieldLemmas.{no_tag, reads_field}
use Rattle.qf_format.proofs.field.field.Goals as goal

pub returns-in-Some : goal.returns-in-Some
returns-in-Some c = reads_field (λ r. r.0.now) (λ r. r.1.now) c.args.tag.now c.args.bytes.now c.in-Some.rest.now c.line_of.result c.in-Some.ensures.some c.line_of.ensures

pub returns-in-None : goal.returns-in-None
returns-in-None c = no_tag c.args.tag.now c.args.bytes.now c.in-None.ensures.none
