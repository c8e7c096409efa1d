use Rattle.qf_format.proofs.StateLemmas.{failed_read, none_failed, dead_read, none_dead}
use Rattle.qf_format.proofs.state.state_of.Goals as goal

pub returns-in_err-status : goal.returns-in_err-status
returns-in_err-status c = rw c.from_residual-in_err-status.ensures (none_failed c.args.bytes.now c.in-Some-after_tag-2.rest.now c.in-Some-after_tag-2.ensures.some c.in_err-status.ensures)

pub returns-in-Some-after_tag-2 : goal.returns-in-Some-after_tag-2
returns-in-Some-after_tag-2 c = failed_read c.args.bytes.now c.in-Some-after_tag-2.rest.now c.in_ok-status.status c.in_ok-status.note c.in-Some-after_tag-2.ensures.some c.in_ok-status.ensures

pub returns-in_err-status-2 : goal.returns-in_err-status-2
returns-in_err-status-2 c = rw c.from_residual-in_err-status-2.ensures (none_dead c.args.bytes.now c.in_ok-after_tag.field-0.now c.in_ok-after_tag.ensures.some c.in_err-status-2.ensures)

pub returns : goal.returns
returns c = dead_read c.args.bytes.now c.in_ok-after_tag.field-0.now c.in_ok-status-2.status c.in_ok-status-2.note c.in_ok-after_tag.ensures.some c.in_ok-status-2.ensures
