use Rattle.cf_macros.proofs.level.Level.pass_else.Goals as goal

pub returns-clause-goes : goal.returns-clause-goes
returns-clause-goes c = c.skip.ensures.goes c.args.given.now
