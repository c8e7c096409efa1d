-- What says no control is strange, and so is what is odd.
use Rattle.spool_store.proofs.Judgements.{odd_unread, read_by}
use Rattle.spool_store.proofs.judged.verdict_on.Goals as goal

pub returns-in-None : goal.returns-in-None
returns-in-None c = λ f named found judged among. odd_unread c.args.dirs.now f c.args.x.now c.in-None.is (found.each c.args.x.now among)

pub returns-then-is_odd : goal.returns-then-is_odd
returns-then-is_odd c = λ f named found judged among. c.is_odd.ensures.odd f named found (read_by c.args.dirs.now f c.args.x.now c.in-Some.control c.in-Some.is (found.each c.args.x.now among)) c.if-is_odd.true

pub returns-else-is_odd : goal.returns-else-is_odd
returns-else-is_odd c = λ f named found judged among. c.by_parent.ensures c.args.dirs.now f found judged (c.is_odd.ensures.sober f named found (read_by c.args.dirs.now f c.args.x.now c.in-Some.control c.in-Some.is (found.each c.args.x.now among)) c.if-is_odd.false)
