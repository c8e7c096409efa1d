use Rattle.std.proofs.Common.{refl}
use Rattle.std.proofs.lemmas.Result.{err_from_is_err_and}
use Rattle.cf_macros.specs.inner.Insides.{inside, rest_at}
use Rattle.cf_macros.proofs.StackLemmas.{goes-give, stops-refusal}
use Rattle.cf_macros.proofs.level.Level.give.Goals as goal

pub returns-clause-goes : goal.returns-clause-goes
returns-clause-goes c = goes-give c.args.self _ c.args.given.now c.give.new.self c.args.bytes.now c.in_ok-give.ensures.ok c.requires.reads refl c.gave_after.ensures refl c.requires.gives.acts

pub returns-in_err-give-clause-err : goal.returns-in_err-give-clause-err
returns-in_err-give-clause-err c =
    let p = err_from_is_err_and c.from_residual.result c.from_residual.ensures.1 in
    rw (p.1, p.2) (stops-refusal c.args.self c.args.given.now c.args.bytes.now (λ f. inside f c.args.self.depth (rest_at c.args.self.scope c.args.self.text.now c.args.next)) c.in_err-give.field-0.0 c.in_err-give.ensures.err c.requires.reads c.requires.gives.acts)
