use Rattle.std.proofs.Common.{◌≡◌, List, drop}
use Rattle.ruleset_run.specs.Filling.{Part, Matched, filled, put}
use Rattle.ruleset_run.specs.inner.Filler.{IsCutAs, Stand}
use Rattle.ruleset_run.specs.inner.Values.{lates}
use Rattle.ruleset_run.proofs.filler.fill.Given as goal

-- what the steps that are left give behind the parts so far is what all give
abbrev pub invariant-loop-step : goal.invariant-loop-step
invariant-loop-step l = record {
  operators : l.values.operators ≡ l.fn.values.operators;
  macros : l.values.macros ≡ l.fn.values.macros;
  filled : (found : Matched) → IsCutAs l.source.left.now l.source.tokens.now l.source.cuts.now found
      → (given : List Part) × Stand l.parts given × (filled l.maps l.fn.values.operators (lates l.fn.values) found l.steps l.fn.values.macros ≡ put given (filled l.maps l.fn.values.operators (lates l.fn.values) found (drop l.step-index l.steps) l.values.after));
}
