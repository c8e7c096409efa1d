use Rattle.mail_core.proofs.GroupLemmas.{waiting_same}
use Rattle.mail_core.proofs.lanes.lanes.Goals as goal

pub returns : goal.returns
returns c = λ site same is.
    waiting_same site c.args.usual is c.args.config.now c.in_ok-lanes.lanes c.in_ok-other.other c.new.result same c.in_ok-lanes.ensures c.in_ok-other.ensures c.new.ensures
