use Rattle.std.proofs.Common.{◌≡◌, ◌∙◌, ◌+◌, ◌-◌, arith, ap}
use Rattle.cf_macros.specs.declared.construct.Kind.TheVariants.{Plain, Reference, Test, Else, End, Unclosed}
use Rattle.cf_macros.specs.Readings.{Last, Broken}
use Rattle.cf_macros.proofs.ReadingLemmas.{rest-kind, found-within}
use Rattle.cf_macros.proofs.StepLemmas.{gives-next, stops-broken}
use Rattle.cf_macros.proofs.level.Level.step.Goals as goal

pub give-requires-clause-gives : goal.give-requires-clause-gives
give-requires-clause-gives c =
    gives-next c.args.self c.first_piece-found.result.text.now (c.args.self.place + c.first_piece-found.result.width)
    (rest-kind _ _ _ _ c.first_piece-found.result Plain c.rest.ensures c.requires.unfinished c.first_piece-found.ensures c.in-Plain.is)
    (omega (arith, c.first_piece-found.ensures.moves))
    (found-within _ _ _ _ c.first_piece-found.result c.rest.ensures c.requires.unfinished c.first_piece-found.ensures)

pub refer-requires-clause-rest : goal.refer-requires-clause-rest
refer-requires-clause-rest c = rest-kind _ _ _ _ c.first_piece-found.result Reference c.rest.ensures c.requires.unfinished c.first_piece-found.ensures c.in-Reference.is

pub test-requires-clause-rest : goal.test-requires-clause-rest
test-requires-clause-rest c = rest-kind _ _ _ _ c.first_piece-found.result Test c.rest.ensures c.requires.unfinished c.first_piece-found.ensures c.in-Test.is

pub pass_else-requires-clause-rest : goal.pass_else-requires-clause-rest
pass_else-requires-clause-rest c = rest-kind _ _ _ _ c.first_piece-found.result Else c.rest.ensures c.requires.unfinished c.first_piece-found.ensures c.in-Else.is

pub pass_end-requires-clause-rest : goal.pass_end-requires-clause-rest
pass_end-requires-clause-rest c = rest-kind _ _ _ _ c.first_piece-found.result End c.rest.ensures c.requires.unfinished c.first_piece-found.ensures c.in-End.is

pub returns-in-Reference-clause-goes : goal.returns-in-Reference-clause-goes
returns-in-Reference-clause-goes c = c.refer.ensures c.args.given.now

pub returns-in_ok-test-in-Test-clause-goes : goal.returns-in_ok-test-in-Test-clause-goes
returns-in_ok-test-in-Test-clause-goes c = c.in_ok-test-in-Test.ensures.goes c.args.given.now

pub returns-in-Unclosed-clause-err : goal.returns-in-Unclosed-clause-err
returns-in-Unclosed-clause-err c =
    let e = rest-kind _ _ _ _ c.first_piece-found.result Unclosed c.rest.ensures c.requires.unfinished c.first_piece-found.ensures c.in-Unclosed.is in
    let p : c.args.self.place + (c.first_piece-found.result.width - 1) ≡ c.args.self.place + c.first_piece-found.result.width - 1 = omega (arith, c.first_piece-found.ensures.moves) in
    stops-broken c.args.self c.args.given.now _ c.requires.reads (e ∙ ap (λ place. Last (Broken place)) p)
