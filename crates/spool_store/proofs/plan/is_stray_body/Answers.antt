-- A body goes where it isn't wanted.
use Rattle.std.proofs.lemmas.Bool.{not-false}
use Rattle.spool_store.proofs.plan.is_stray_body.Goals as goal

pub returns-then-eq-clause-no : goal.returns-then-eq-clause-no
returns-then-eq-clause-no c = λ dirs f found judged e kind. c.is_wanted.ensures.yes dirs f found judged (not-false c.is_wanted.result e)
