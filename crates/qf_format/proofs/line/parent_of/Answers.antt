use Rattle.std.proofs.Common.{sym, ◌∙◌}
use Rattle.std.proofs.lemmas.Result.{err_from_is_err_and}
use Rattle.qf_format.proofs.ParentLemmas.{parent_line_read, no_parent_text, parent_stops}
use Rattle.qf_format.proofs.line.parent_of.Goals as goal

pub returns-in_err-text : goal.returns-in_err-text
returns-in_err-text c =
    let p = err_from_is_err_and c.from_residual.result c.from_residual.ensures.1 in
    rw (p.1, p.2) (parent_stops c.args.bytes.now c.in_err-text.field-0.0 (sym c.first_byte.ensures ∙ c.if-first_byte-ne112.false) c.in_err-text.ensures)

pub returns-in-Some : goal.returns-in-Some
returns-in-Some c = parent_line_read c.args.bytes.now c.in_ok-text.text.now c.in_ok-text.rest.now c.in-Some.parent (sym c.first_byte.ensures ∙ c.if-first_byte-ne112.false) c.in_ok-text.ensures c.in-Some.ensures

pub returns-in-None : goal.returns-in-None
returns-in-None c = no_parent_text c.args.bytes.now c.in_ok-text.text.now c.in_ok-text.rest.now (sym c.first_byte.ensures ∙ c.if-first_byte-ne112.false) c.in_ok-text.ensures c.in-None.ensures
