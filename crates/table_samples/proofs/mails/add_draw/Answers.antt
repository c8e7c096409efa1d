-- A row behind the others.
use Rattle.table_samples.specs.Samples.{HasAddress}
use Rattle.table_samples.proofs.Lemmas.{pushed}
use Rattle.table_samples.proofs.mails.add_draw.Goals as goal

pub returns : goal.returns
returns c = pushed HasAddress c.push.result c.args.draws.now c.push.new.self c.in_ok-draw.draw c.push.ensures.ok c.requires.draws c.in_ok-draw.ensures
