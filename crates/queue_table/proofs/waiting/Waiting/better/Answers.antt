-- By whether the entry goes before the least so far, and may be claimed.
use Rattle.std.proofs.Common.{◌∙◌, None, Some, sym, subst}
use Rattle.std.proofs.lemmas.Bool.{false≢true}
use Rattle.queue_table.specs.inner.Least.{IsLeastAt}
use Rattle.queue_table.proofs.ClaimLemmas.{step_not, step_first, step_lower, step_kept}
use Rattle.queue_table.proofs.waiting.Waiting.better.Goals as goal

pub returns-then-not-before : goal.returns-then-not-before
returns-then-not-before c = step_kept c.args.self.now c.args.moment c.args.entries.now c.args.place c.in-Some.first c.at-held.result.now c.at.result.now (subst (IsLeastAt c.args.self.now c.args.moment c.args.entries.now c.args.place) c.in-Some.is c.requires.before) c.at-held.ensures c.at.ensures (λ b. false≢true (sym c.if-not-before.true ∙ c.before-in-Some.ensures.1 b))

pub returns-then-not-may_claim : goal.returns-then-not-may_claim
returns-then-not-may_claim c = step_not c.args.self.now c.args.moment c.args.entries.now c.args.place c.at-held.result.now (Some c.in-Some.first) (subst (IsLeastAt c.args.self.now c.args.moment c.args.entries.now c.args.place) c.in-Some.is c.requires.before) c.at-held.ensures (sym c.may_claim.ensures ∙ c.if-not-may_claim.true)

pub returns-else-not-may_claim : goal.returns-else-not-may_claim
returns-else-not-may_claim c = step_lower c.args.self.now c.args.moment c.args.entries.now c.args.place c.in-Some.first c.at-held.result.now c.at.result.now (subst (IsLeastAt c.args.self.now c.args.moment c.args.entries.now c.args.place) c.in-Some.is c.requires.before) c.at-held.ensures c.at.ensures (sym c.may_claim.ensures ∙ c.if-not-may_claim.false) (c.before-in-Some.ensures.0 c.if-not-before.false)

pub returns-then-not-may_claim-2 : goal.returns-then-not-may_claim-2
returns-then-not-may_claim-2 c = step_not c.args.self.now c.args.moment c.args.entries.now c.args.place c.at-held.result.now None (subst (IsLeastAt c.args.self.now c.args.moment c.args.entries.now c.args.place) c.in-None.is c.requires.before) c.at-held.ensures (sym c.may_claim-in-None.ensures ∙ c.if-not-may_claim-2.true)

pub returns-else-not-may_claim-2 : goal.returns-else-not-may_claim-2
returns-else-not-may_claim-2 c = step_first c.args.self.now c.args.moment c.args.entries.now c.args.place c.at-held.result.now (subst (IsLeastAt c.args.self.now c.args.moment c.args.entries.now c.args.place) c.in-None.is c.requires.before) c.at-held.ensures (sym c.may_claim-in-None.ensures ∙ c.if-not-may_claim-2.false)
