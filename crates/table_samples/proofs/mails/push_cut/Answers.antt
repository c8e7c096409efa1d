-- A cut behind the others.
use Rattle.table_samples.proofs.Lemmas.{cuts_pushed}
use Rattle.table_samples.proofs.mails.push_cut.Goals as goal

pub returns : goal.returns
returns c = cuts_pushed c.push.result c.args.cuts.now c.push.new.self c.args.cut c.push.ensures.ok c.requires.each c.requires.cut
