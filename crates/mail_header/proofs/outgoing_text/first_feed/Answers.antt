use Rattle.mail_header.proofs.EndsLemmas.{feed_some, feed_none}
use Rattle.mail_header.proofs.outgoing_text.first_feed.Goals as goal

pub returns-clause-some : goal.returns-clause-some
returns-clause-some c = feed_some c.args.body.now c.find_byte.result c.find_byte.ensures

pub returns-clause-none : goal.returns-clause-none
returns-clause-none c = feed_none c.args.body.now c.find_byte.result c.find_byte.ensures
