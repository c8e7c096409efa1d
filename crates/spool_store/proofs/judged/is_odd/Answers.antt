-- Each reason is one of the definition's, and there is no other.
use Rattle.spool_store.proofs.Judgements.{odd_twin, odd_body, odd_open, sober_by}
use Rattle.spool_store.proofs.judged.is_odd.Goals as goal

pub returns-then-has_twin-clause-odd : goal.returns-then-has_twin-clause-odd
returns-then-has_twin-clause-odd c = λ f named found read e. odd_twin c.args.dirs.now f c.args.found.now c.args.named.now c.args.control.now found read (c.has_twin.ensures.yes c.if-has_twin.true)

pub returns-then-lacks_body-clause-odd : goal.returns-then-lacks_body-clause-odd
returns-then-lacks_body-clause-odd c = λ f named found read e. odd_body c.args.dirs.now f c.args.names.now c.args.named.now c.args.control.now c.requires.own named read (c.lacks_body.ensures.yes c.if-lacks_body.true)

pub returns-clause-odd : goal.returns-clause-odd
returns-clause-odd c = λ f named found read e. odd_open c.args.dirs.now f c.args.named.now c.args.control.now read (c.is_reopened.ensures.yes e)

pub returns-clause-sober : goal.returns-clause-sober
returns-clause-sober c = λ f named found read e. sober_by c.args.dirs.now f c.args.names.now c.args.found.now c.args.named.now c.args.control.now named found read (c.has_twin.ensures.no c.if-has_twin.false) (c.lacks_body.ensures.no c.if-lacks_body.false) (c.is_reopened.ensures.no e)
