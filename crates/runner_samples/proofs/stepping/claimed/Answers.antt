-- A claim begins no child.
use Rattle.runner_samples.proofs.Lemmas.{claimed_ok}
use Rattle.runner_samples.proofs.stepping.claimed.Goals as goal

pub returns-clause-child : goal.returns-clause-child
returns-clause-child c = λ spawned. claimed_ok c.args.table.now c.args.config.now c.args.maps.now c.args.id.now c.claim.result spawned c.claim.ensures.id c.claim.ensures.ready c.claim.ensures.claims
