-- A text ends in the byte, or in another one.
use Rattle.std.proofs.Common.{sym, ap, ◌∙◌}
use Rattle.std.specs.Prelude.{Some}
use Rattle.queue_run.proofs.PeerLemmas.{lacks_last, with_last}
use Rattle.queue_run.proofs.peers.without_last.Goals as goal

pub returns-then-last-end : goal.returns-then-last-end
returns-then-last-end c =
    ap Some c.in_ok-of-in-Some.ensures
    ∙ sym (with_last c.args.end c.args.text.now c.in-Some.rest.now c.in-Some.last.now c.in-Some.ensures.cases.0 c.if-last-end.true)

pub returns-else-last-end : goal.returns-else-last-end
returns-else-last-end c = sym (lacks_last c.args.end c.args.text.now c.in-Some.rest.now c.in-Some.last.now c.in-Some.ensures.cases.0 c.if-last-end.false)
