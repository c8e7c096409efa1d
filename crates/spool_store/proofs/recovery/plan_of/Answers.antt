-- What was picked.
use Rattle.std.proofs.Common.{length}
use Rattle.spool_store.proofs.RecoveryLemmas.{stays_within, within_named}
use Rattle.spool_store.proofs.PlanLemmas.{drafts_within}
use Rattle.spool_store.proofs.recovery.plan_of.Goals as goal

pub returns-clause-plan : goal.returns-clause-plan
returns-clause-plan c = record {
  drafts = drafts_within (length c.args.dirs.now) c.items-named.result.now c.in_ok-drafts.drafts c.in_ok-drafts.ensures (within_named (length c.args.dirs.now) c.args.looked.now.named c.items-named.result.now c.items-named.ensures c.requires.look.named);
  dead = stays_within (length c.args.dirs.now) c.args.looked.now.found c.items-found.result.now c.in_ok-dead.dead c.items-found.ensures c.requires.look.indexed.within c.in_ok-dead.ensures.stays;
  closed = stays_within (length c.args.dirs.now) c.args.looked.now.found c.items-found.result.now c.in_ok-closed.closed c.items-found.ensures c.requires.look.indexed.within c.in_ok-closed.ensures.stays;
  kinds = c.in_ok-closed.ensures.kinds;
  bodies = λ x among. within_named (length c.args.dirs.now) c.args.looked.now.named c.items-named.result.now c.items-named.ensures c.requires.look.named x (c.in_ok-bodies.ensures.stays x among);
}
