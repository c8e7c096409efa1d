use Rattle.std.proofs.Common.{◌∙◌, ◌-◌, ap, append-nil, reverse, take, false}
use Rattle.std.proofs.lemmas.Result.{err_from_is_err_and}
use Rattle.alias_expand.specs.inner.Costs.{deepest}
use Rattle.alias_expand.proofs.TreeLemmas.{all_read, begun, begun_fits, falls_on, steps_on, steps_stop}
use Rattle.mail_edge.proofs.AskLemmas.{asks_join, asks_none}
use Rattle.alias_expand.proofs.tree.read_members.Goals as goal

pub frames-init : goal.frames-init
frames-init g c =
    let a = c.args in
    record {
      so_far = begun a.site.now (g.F.Files.seen a.files.now).map a.opened a.reading.now c.in_ok-stack.stack.items c.in_ok-stack.ensures;
      fits = begun_fits a.site.now (g.F.Files.seen a.files.now).map a.opened a.reading.now c.in_ok-stack.stack.items c.in_ok-stack.ensures c.requires;
      asks = asks_none (g.F.Files.seen a.files.now);
    }

pub frames-preserved : goal.frames-preserved
frames-preserved g c =
    let a = c.args in
    let i = c.frames.invariant in
    record {
      so_far = steps_on a.site.now (g.F.Files.seen a.files.now).map a.opened a.reading.now c.frames.stack.items c.frames.reading i.so_far (g.F.Files.seen c.frames.files).map i.asks.fixed c.pop.new.self.items c.in-Some.frame c.in-Some.ensures.items (reverse c.step.new.stack.items) c.step.new.reading c.in_ok-step.ensures.ok;
      fits = (falls_on (deepest a.site.now) c.frames.stack.items c.pop.new.self.items (reverse c.step.new.stack.items) c.in-Some.frame c.frames.reading c.step.new.reading c.in-Some.ensures.items i.fits c.in_ok-step.ensures.falls).0;
      asks = asks_join (g.F.Files.seen a.files.now) (g.F.Files.seen c.frames.files) (g.F.Files.seen c.step.new.files) false i.asks c.in_ok-step.ensures.asks;
    }

pub returns-in_err-step-clause-reads : goal.returns-in_err-step-clause-reads
returns-in_err-step-clause-reads g c =
    let a = c.args in
    let i = c.frames.invariant in
    let p = err_from_is_err_and c.from_residual-in_err-step.result c.from_residual-in_err-step.ensures.1 in
    rw (p.1, p.2) (steps_stop a.site.now (g.F.Files.seen a.files.now).map a.opened a.reading.now c.frames.stack.items c.frames.reading i.so_far (g.F.Files.seen c.frames.files).map i.asks.fixed c.pop.new.self.items c.in-Some.frame c.in-Some.ensures.items _ c.in_err-step.ensures.refused)

pub returns-clause-reads : goal.returns-clause-reads
returns-clause-reads g c =
    let a = c.args in
    let empty = c.in_default.ensures.items ∙ append-nil c.pop.new.self.items ∙ c.in_default.ensures.rest ∙ ap (λ n. take (n - 1) c.frames.stack.items) c.in_default.ensures.cases.0 in
    all_read a.site.now (g.F.Files.seen a.files.now).map a.opened a.reading.now c.frames.stack.items c.frames.reading c.frames.invariant.so_far empty
