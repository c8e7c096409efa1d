-- With a bounce, or without one.
use Rattle.std.proofs.Common.{◌∙◌, length, sym}
use Rattle.std.specs.Prelude.{IsErrOf}
use Rattle.mail_base.specs.declared.fault.StoreFault.TheVariants.{IdsSpent}
use Rattle.queue_table.specs.Calls.{store}
use Rattle.queue_table.proofs.PlanLemmas.{last_valid, popped_none, return_cuts, return_none, return_one, return_open, spent_by, spent_none}
use Rattle.queue_table.proofs.table.Table.plan_back.Goals as goal

pub plan_bounce-requires-clause-open_at : goal.plan_bounce-requires-clause-open_at
plan_bounce-requires-clause-open_at c = return_open c.args.self.now c.args.id c.args.moment c.args.bounces c.entries.ensures.fit c.requires.asked

pub plan_bounce-requires-clause-valid : goal.plan_bounce-requires-clause-valid
plan_bounce-requires-clause-valid c = last_valid c.args.self.now.terms c.args.moment c.args.bounces c.pop.new.self.items c.in-Some.back c.requires.valid (sym c.into_vec.ensures ∙ c.in-Some.ensures.items)

pub returns-in-Some-clause-is : goal.returns-in-Some-clause-is
returns-in-Some-clause-is c = return_one c.args.self.now c.plan_bounce.new.self c.args.id c.args.moment c.args.bounces c.pop.new.self.items c.in-Some.back c.plan_bounce.result c.requires.asked c.entries.ensures.fit c.plan_bounce.ensures.same c.entries.ensures.ascending (sym c.into_vec.ensures ∙ c.in-Some.ensures.items) c.plan_bounce.ensures.is

pub plan_death-requires : goal.plan_death-requires
plan_death-requires c = record { open_at = return_open c.args.self.now c.args.id c.args.moment c.args.bounces c.entries.ensures.fit c.requires.asked }

pub returns-clause-is : goal.returns-clause-is
returns-clause-is c = return_none c.args.self.now c.plan_death.new.self c.args.id c.args.moment c.args.bounces c.plan_death.result c.requires.asked c.entries.ensures.fit c.plan_death.ensures.same c.entries.ensures.ascending (popped_none c.args.bounces c.into_vec.result.items c.into_vec.result.len c.into_vec.ensures c.into_vec.result.ok.0 c.in-None.ensures.variant) c.plan_death.ensures.is

pub returns-in-Some-clause-spent : goal.returns-in-Some-clause-spent
returns-in-Some-clause-spent c = spent_by (IsErrOf c.plan_bounce.result IdsSpent) (store c.args.self.now).next (length c.in-Some.back.cuts) _ (return_cuts c.args.self.now c.args.id c.args.moment c.args.bounces c.pop.new.self.items c.in-Some.back c.requires.asked (sym c.into_vec.ensures ∙ c.in-Some.ensures.items)) c.plan_bounce.ensures.spent

pub returns-clause-spent : goal.returns-clause-spent
returns-clause-spent c = spent_none (IsErrOf c.plan_death.result IdsSpent) (store c.args.self.now).next c.args.bounces (popped_none c.args.bounces c.into_vec.result.items c.into_vec.result.len c.into_vec.ensures c.into_vec.result.ok.0 c.in-None.ensures.variant) c.plan_death.ensures.spent
