use Rattle.std.proofs.Common.{refl}
use Rattle.std.proofs.lemmas.Bool.{false≢true}
use Rattle.qf_format.proofs.StateLemmas.{cause_read, no_second, no_status, no_note}
use Rattle.qf_format.proofs.state.cause_of.Goals as goal

pub returns-in_err-at : goal.returns-in_err-at
returns-in_err-at c = rw c.from_residual-in_err-at.ensures (no_second c.args.bytes.now c.in_ok-rest.rest.now c.in_ok-rest.ensures.some c.in_err-at.ensures)

pub returns-in_err-of : goal.returns-in_err-of
returns-in_err-of c =
    rw c.from_residual-in_err-of.ensures (no_status c.args.bytes.now c.in_ok-rest.rest.now c.split_end.result.0.now c.in_ok-at.at c.in_ok-rest.ensures.some c.in_ok-at.ensures c.split_end.ensures.text (λ h. false≢true (c.in_err-of.ensures.form.1 h)))

pub returns-in_err-of-2 : goal.returns-in_err-of-2
returns-in_err-of-2 c =
    rw c.from_residual-in_err-of-2.ensures (no_note c.args.bytes.now c.in_ok-rest.rest.now c.split_end.result.1.now c.in_ok-at.at c.in_ok-rest.ensures.some c.in_ok-at.ensures c.split_end.ensures.rest (λ h. false≢true (c.in_err-of-2.ensures.form.1 h)))

pub returns : goal.returns
returns c =
    rw (c.in_ok-of.ensures.value, c.in_ok-of-2.ensures.value) (cause_read c.args.bytes.now c.in_ok-rest.rest.now c.split_end.result.0.now c.split_end.result.1.now c.in_ok-at.at c.in_ok-rest.ensures.some c.in_ok-at.ensures c.split_end.ensures.text c.split_end.ensures.rest (c.in_ok-of.ensures.form.0 refl) (c.in_ok-of-2.ensures.form.0 refl))
