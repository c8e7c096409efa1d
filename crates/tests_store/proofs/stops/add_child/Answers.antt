-- A draft behind the others.
use Rattle.tests_store.proofs.SampleLemmas.{pushed}
use Rattle.tests_store.proofs.stops.add_child.Goals as goal

pub returns-in-Some : goal.returns-in-Some
returns-in-Some c = λ all. pushed c.push.result c.args.children.now c.push.new.self c.in_ok-draft.field-0 c.in-Some.draft c.push.ensures.ok c.in_ok-draft.ensures.can c.in-Some.is all
