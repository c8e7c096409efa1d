-- What was made ready is carried out, from what was there before.
use Rattle.queue_table.specs.Calls.{store}
use Rattle.queue_table.specs.Commands.Command.{Warn}
use Rattle.queue_table.proofs.CallLemmas.{done_after}
use Rattle.queue_table.proofs.HoldingLemmas.{tallies_same}
use Rattle.queue_table.proofs.table.Table.warn.Goals as goal

pub commit_under-requires-clause-agrees : goal.commit_under-requires-clause-agrees
commit_under-requires-clause-agrees g c = tallies_same (store c.args.self.now) (store c.plan_warning.new.self) _ c.plan_warning.ensures.same.1 c.requires.agrees

pub returns-clause-does : goal.returns-clause-does
returns-clause-does g c =
    let command = Warn c.args.self.now.terms c.args.id.now c.args.warnings c.args.moment in
    done_after c.args.self.now c.plan_warning.new.self c.commit_under.new.self command c.commit_under.result (g.D.Spool.seen c.args.spool.now) (g.D.Spool.seen c.commit_under.new.spool) c.plan_warning.ensures.same (c.commit_under.ensures.does c.args.id.now command c.in_ok-parcel.ensures.is)
