-- By the index.
use Rattle.std.proofs.Common.{sym, None}
use Rattle.queue_run.proofs.SplitLemmas.{open_there}
use Rattle.queue_run.proofs.splitting.Splitting.place_of.Goals as goal

pub place_at-requires : goal.place_at-requires
place_at-requires c = record { open_at = open_there c.args.config.now c.args.way.now c.args.self.now.batches.items c.args.self.now.last.entries _ c.requires.indexed (sym c.in-Some.ensures.value) }

pub returns-in-None : goal.returns-in-None
returns-in-None c = open_there c.args.config.now c.args.way.now c.args.self.now.batches.items c.args.self.now.last.entries None c.requires.indexed (sym c.in-None.ensures.value)
