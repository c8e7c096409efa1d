use Rattle.std.proofs.Common.{length}
use Rattle.mailer_smtp.proofs.delivery.+attempt.Given as goal

abbrev pub decreases-attempt : goal.decreases-attempt
decreases-attempt g l = length l.peers.now
