use Rattle.addr_test.proofs.PrintingLemmas.{mailer_more}
use Rattle.addr_test.proofs.books.mailers.Goals as goal

pub loop-index-preserved : goal.loop-index-preserved
loop-index-preserved c = mailer_more c.args.mailers.now c.loop-index.index c.loop-index.text c.push_mailer_at.new.text _ c.in_ok-push_mailer_at.ensures c.loop-index.invariant
