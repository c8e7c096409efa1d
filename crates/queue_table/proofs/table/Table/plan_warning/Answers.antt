-- The one warning.
use Rattle.std.proofs.Common.{◌∙◌, length, sym}
use Rattle.std.specs.Prelude.{IsErrOf}
use Rattle.mail_base.specs.declared.fault.StoreFault.TheVariants.{IdsSpent}
use Rattle.queue_table.specs.Calls.{store}
use Rattle.queue_table.proofs.PlanLemmas.{last_valid, spent_by, warn_cuts, warn_open, warned_one}
use Rattle.queue_table.proofs.table.Table.plan_warning.Goals as goal

pub plan_notice-requires-clause-open_at : goal.plan_notice-requires-clause-open_at
plan_notice-requires-clause-open_at c = warn_open c.args.self.now c.args.id c.args.moment c.args.warnings c.entries.ensures.fit c.requires.asked

pub plan_notice-requires-clause-valid : goal.plan_notice-requires-clause-valid
plan_notice-requires-clause-valid c = last_valid c.args.self.now.terms c.args.moment c.args.warnings c.pop.new.self.items c.in-Some.back c.requires.valid (sym c.into_vec.ensures ∙ c.in-Some.ensures.items)

pub returns-clause-is : goal.returns-clause-is
returns-clause-is c = warned_one c.args.self.now c.plan_notice.new.self c.args.id c.args.moment c.args.warnings c.pop.new.self.items c.in-Some.back c.plan_notice.result c.requires.asked c.entries.ensures.fit c.plan_notice.ensures.same c.entries.ensures.ascending (sym c.into_vec.ensures ∙ c.in-Some.ensures.items) c.plan_notice.ensures.is

pub returns-clause-spent : goal.returns-clause-spent
returns-clause-spent c = spent_by (IsErrOf c.plan_notice.result IdsSpent) (store c.args.self.now).next (length c.in-Some.back.cuts) _ (warn_cuts c.args.self.now c.args.id c.args.moment c.args.warnings c.pop.new.self.items c.in-Some.back c.requires.asked (sym c.into_vec.ensures ∙ c.in-Some.ensures.items)) c.plan_notice.ensures.spent
