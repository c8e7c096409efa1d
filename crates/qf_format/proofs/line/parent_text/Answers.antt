use Rattle.qf_format.proofs.ParentLemmas.{parent_read, no_id, no_revision, no_space}
use Rattle.qf_format.proofs.line.parent_text.Goals as goal

pub returns-in_err-at : goal.returns-in_err-at
returns-in_err-at c = rw c.from_residual.ensures (no_space c.args.bytes.now c.in_err-at.ensures)

pub returns-in_err-id_of : goal.returns-in_err-id_of
returns-in_err-id_of c = rw c.from_residual-in_err-id_of.ensures (no_id c.args.bytes.now c.split_end.result.0.now c.in_ok-at.at c.in_ok-at.ensures c.split_end.ensures.text c.in_err-id_of.ensures)

pub returns-in_err-revision_of : goal.returns-in_err-revision_of
returns-in_err-revision_of c = rw c.from_residual-in_err-revision_of.ensures (no_revision c.args.bytes.now c.split_end.result.1.now c.in_ok-at.at c.in_ok-at.ensures c.split_end.ensures.rest c.in_err-revision_of.ensures)

pub returns : goal.returns
returns c =
    parent_read c.args.bytes.now c.split_end.result.0.now c.split_end.result.1.now c.in_ok-at.at c.in_ok-id_of.field-0 c.in_ok-revision_of.field-0 c.in_ok-at.ensures c.split_end.ensures.text c.split_end.ensures.rest c.in_ok-id_of.ensures c.in_ok-revision_of.ensures
