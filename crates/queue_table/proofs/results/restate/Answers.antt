-- The row at its place, or none.
use Rattle.std.proofs.Common.{◌∙◌, ℕ, subst, sym, ◌<◌, ◌≤◌}
use Rattle.qf_format.specs.Valid.{AreRows}
use Rattle.queue_table.proofs.ResultLemmas.{set_restates, past_end, restated_form}
use Rattle.queue_table.proofs.results.restate.Goals as goal

pub returns-then-place-len-clause-is : goal.returns-then-place-len-clause-is
returns-then-place-len-clause-is c = set_restates c.args.rows.now.items c.args.place c.args.state c.index_mut.result.now (subst (λ (n : ℕ). c.args.place < n) (c.len.ensures ∙ c.args.rows.now.ok.0) c.if-place-len.true) c.index_mut.ensures.value

pub returns-then-place-len-clause-form : goal.returns-then-place-len-clause-form
returns-then-place-len-clause-form c = λ form all.
    let within = subst (λ (n : ℕ). c.args.place < n) (c.len.ensures ∙ c.args.rows.now.ok.0) c.if-place-len.true in
    subst AreRows (sym (set_restates c.args.rows.now.items c.args.place c.args.state c.index_mut.result.now within c.index_mut.ensures.value)) (restated_form c.args.rows.now.items c.args.place c.args.state form all)

pub returns-else-place-len-clause-is : goal.returns-else-place-len-clause-is
returns-else-place-len-clause-is c = past_end c.args.rows.now.items c.args.place c.args.state (subst (λ (n : ℕ). n ≤ c.args.place) (c.len.ensures ∙ c.args.rows.now.ok.0) c.if-place-len.false)
