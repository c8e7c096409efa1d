use Rattle.std.proofs.Common.{◌++◌, Ok, Err, ◌∙◌, ap, arith}
use Rattle.std.proofs.lemmas.Result.{err_from_is_err_and}
use Rattle.ruleset_run.specs.Filling.{filled}
use Rattle.ruleset_run.specs.inner.Values.{Known, lates}
use Rattle.ruleset_run.proofs.FillLemmas.{ahead_at, step_as_before, fill_more, fill_fails, fill_last}
use Rattle.ruleset_run.proofs.filler.fill.Goals as goal

pub returns-in_err-fill_step-clause-fills : goal.returns-in_err-fill_step-clause-fills
returns-in_err-fill_step-clause-fills c = λ found is.
    let v = c.args.values.now in
    let l = c.loop-step in
    let i = l.invariant in
    let w = i.filled found is in
    let p = err_from_is_err_and c.from_residual-in_err-fill_step.result c.from_residual-in_err-fill_step.ensures.1 in
    rw (p.1, p.2) (fill_fails (filled c.args.maps.now v.operators (lates v) found) c.args.steps.now l.step-index c.step-item.result (ahead_at c.args.steps.now l.step-index c.step-item.result (omega arith) c.step-item.is) v.macros l.values.after w.0 w.2 c.in_err-fill_step.field-0.0
    (step_as_before c.args.maps.now l.values.operators v.operators l.values.macros v.macros i.operators i.macros found c.step-item.result l.parts l.values.after c.fill_step.new.parts c.fill_step.new.values.after (Err c.in_err-fill_step.field-0.0) (c.in_err-fill_step.ensures.fills found is)))

pub loop-step-preserved : goal.loop-step-preserved
loop-step-preserved c =
    let v = c.args.values.now in
    let l = c.loop-step in
    let i = l.invariant in
    record {
      operators = c.in_ok-fill_step.ensures.operators ∙ i.operators;
      macros = c.in_ok-fill_step.ensures.macros ∙ i.macros;
      filled = λ found is.
          let w = i.filled found is in
          let s = step_as_before c.args.maps.now l.values.operators v.operators l.values.macros v.macros i.operators i.macros found c.step-item.result l.parts l.values.after c.fill_step.new.parts c.fill_step.new.values.after (Ok c.in_ok-fill_step.field-0) (c.in_ok-fill_step.ensures.fills found is) in
          (w.0 ++ s.0, s.1 w.0 w.1, fill_more (filled c.args.maps.now v.operators (lates v) found) c.args.steps.now l.step-index c.step-item.result (ahead_at c.args.steps.now l.step-index c.step-item.result (omega arith) c.step-item.is) v.macros l.values.after w.0 w.2 c.fill_step.new.values.after s.0 s.2);
    }

pub returns-clause-fills : goal.returns-clause-fills
returns-clause-fills c = λ found is.
    let v = c.args.values.now in
    let l = c.loop-step in
    let w = l.invariant.filled found is in
    (w.0, w.1, fill_last c.args.maps.now v.operators (lates v) found c.args.steps.now l.step-index v.macros l.values.after c.settle.new.self.macros w.0 (omega arith) w.2 (ap (λ (k : Known). k.macros) c.in_ok-settle.ensures.ok))
