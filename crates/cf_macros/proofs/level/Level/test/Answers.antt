use Rattle.std.proofs.Common.{refl, arith, ◌+◌}
use Rattle.cf_macros.specs.inner.Insides.{rest_at, is_closed}
use Rattle.cf_macros.specs.Readings.{behind_end}
use Rattle.cf_macros.proofs.StepLemmas.{goes-test, stops-unclosed, there}
use Rattle.cf_macros.proofs.level.Level.test.Goals as goal

pub returns-then-not-is_closed-clause-err : goal.returns-then-not-is_closed-clause-err
returns-then-not-is_closed-clause-err c = λ was. stops-unclosed c.args.self was c.args.found.text.now (rest_at c.args.self.scope c.args.self.text.now (c.args.self.place + c.args.found.width)) c.requires.reads c.requires.rest (c.if-not-is_closed.ensures.unclosed refl)

pub returns-clause-goes : goal.returns-clause-goes
returns-clause-goes c = λ was.
    let after = there (is_closed c.args.self.depth) (behind_end (rest_at c.args.self.scope c.args.self.text.now (c.args.self.place + c.args.found.width))) (c.if-not-is_closed.ensures.closed refl) in
    goes-test c.args.self _ was c.args.found.text.now after.0 c.requires.reads refl refl refl (omega arith) after.1 c.requires.rest
