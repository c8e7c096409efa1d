use Rattle.std.proofs.Common.{◌∙◌, sym, ap, append-nil, take, ◌-◌}
use Rattle.cf_macros.specs.inner.Levels.{is_silent}
use Rattle.cf_macros.proofs.RunLemmas.{run-ends, run-resumes, none-goes, none-end}
use Rattle.cf_macros.proofs.run.Run.next.Goals as goal

pub returns-in_default-clause-reads : goal.returns-in_default-clause-reads
returns-in_default-clause-reads c =
    run-ends c.args.self.now c.levels.self.below.items c.levels.self.followed c.levels.self.level c.in_ok-level.level _ c.read.new.given
    c.levels.invariant.same.same
    (none-goes _ _ _ _ c.in_ok-level.name (sym c.is_some.ensures ∙ c.if-is_some.false) c.in_ok-level.ensures.goes)
    (sym (c.is_silent-self.ensures ∙ ap is_silent c.deref.ensures.value))
    (c.in_default.ensures.items ∙ append-nil c.pop.new.self.items ∙ c.in_default.ensures.rest ∙ ap (λ n. take (n - 1) c.levels.self.below.items) c.in_default.ensures.cases.0)
    (none-end c.in_ok-level.name c.in_ok-level.level (sym c.is_some.ensures ∙ c.if-is_some.false) c.in_ok-level.ensures.end)

pub levels-preserved : goal.levels-preserved
levels-preserved c = record {
  same = record {
    same = run-resumes c.args.self.now c.levels.self.below.items c.pop.new.self.items c.in-Some.outer c.levels.self.followed c.levels.self.level c.in_ok-level.level c.resume-self.result _ c.read.new.given
        c.levels.invariant.same.same
        (none-goes _ _ _ _ c.in_ok-level.name (sym c.is_some.ensures ∙ c.if-is_some.false) c.in_ok-level.ensures.goes)
        (sym (c.is_silent-self.ensures ∙ ap is_silent c.deref.ensures.value))
        c.in-Some.ensures.items
        (none-end c.in_ok-level.name c.in_ok-level.level (sym c.is_some.ensures ∙ c.if-is_some.false) c.in_ok-level.ensures.end)
        c.resume-self.ensures;
  };
  reads = c.resume-self.ensures.reads;
  followed = c.levels.invariant.followed;
}
