use Rattle.std.proofs.Common.{◌+◌, ◌-◌, Some}
use Rattle.cf_macros.specs.inner.Insides.{rest_at}
use Rattle.cf_macros.specs.inner.Levels.{level_rest}
use Rattle.cf_macros.proofs.ReadingLemmas.{behind-of-past}
use Rattle.cf_macros.proofs.StepLemmas.{goes-at, inside-else}
use Rattle.cf_macros.proofs.level.Level.skip.Goals as goal

pub returns-in-Some-clause-goes : goal.returns-in-Some-clause-goes
returns-in-Some-clause-goes c = λ was.
    goes-at c.args.self c.at.result was c.in-Some.place (c.args.self.depth - 1) c.requires.reads c.at.ensures (λ f.
    inside-else f c.args.self.depth (level_rest c.args.self) (rest_at c.args.self.scope c.args.self.text.now (c.args.self.place + c.args.found.width)) (rest_at c.args.self.scope c.args.self.text.now c.in-Some.place) c.requires.inside c.requires.rest
    (behind-of-past (rest_at c.args.self.scope c.args.self.text.now (c.args.self.place + c.args.found.width)) (Some (rest_at c.args.self.scope c.args.self.text.now c.in-Some.place)) c.in-Some.ensures.0))
