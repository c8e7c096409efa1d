-- The drafts are those of the message, under the first free ids.
use Rattle.queue_table.specs.Calls.{store}
use Rattle.queue_table.proofs.PlanLemmas.{drafts_can, first_ids}
use Rattle.queue_table.proofs.table.Table.plan_accept.Goals as goal

pub plan-requires : goal.plan-requires
plan-requires c = record { can = drafts_can (store c.args.self.now).dirs c.args.self.now.terms c.args.message c.args.moment c.args.cuts.now (c.in_ok-parent.parent, c.in_ok-parent.children) c.requires.dirs c.requires.valid c.in_ok-parent.ensures }

pub returns-clause-id : goal.returns-clause-id
returns-clause-id c = first_ids c.args.self.now c.plan.new.self c.in_ok-parent.children c.in_ok-parent.parent c.args.message.body c.plan.result c.plan.ensures.same c.plan.ensures.is
