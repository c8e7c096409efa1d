use Rattle.std.proofs.Common.{false, ◌∙◌, ap}
use Rattle.addr_tokens.specs.Reader.{cut}
use Rattle.ruleset_run.specs.Cutting as spec
use Rattle.ruleset_run.specs.inner.Values.{current}
use Rattle.ruleset_run.proofs.ValueLemmas.{cuts_more}
use Rattle.ruleset_run.proofs.values.Values.late_anew.Goals as goal

pub invariant_of-self-2 : goal.invariant_of-self-2
invariant_of-self-2 c =
    let s = c.self.inside in
    let macros = current s.given.now s.changed in
    cuts_more s.operators.now macros c.args.name.now _ _ _ c.self.invariant (rw c.in_ok-copy.ensures at c.in_ok-set.ensures.sets)
    (c.in_ok-copied.ensures ∙ c.in_ok-tokens.ensures ∙ ap (cut s.operators.now false) (c.in_ok-text.ensures ∙ ap (λ m. spec.late_text m c.args.name.now) c.current-macros.ensures))
