use Rattle.std.proofs.Common.{refl, map, true, arith}
use Rattle.ruleset_run.specs.Filling.{OneToken}
use Rattle.ruleset_run.proofs.FillLemmas.{gain_long, gain_over, gain_tokens_on}
use Rattle.ruleset_run.proofs.parts.Parts.push_tokens.Goals as goal

pub returns-then-self : goal.returns-then-self
returns-then-self c = gain_long c.args.self.now c.args.self.now (map OneToken c.args.more.now) c.if-self.true refl

pub returns-then-more-saturating_sub : goal.returns-then-more-saturating_sub
returns-then-more-saturating_sub c = gain_over c.args.self.now (record c.args.self.now { is_long = true }) c.if-self.false c.args.more.now refl (omega arith)

pub returns : goal.returns
returns c = gain_tokens_on c.args.self.now c.if-self.false c.push_all.result c.args.more.now c.push_all.new.tokens (omega arith) c.push_all.ensures
