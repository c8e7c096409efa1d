-- Step by step it is what its sum is.
use Rattle.queue_table.proofs.PriorityLemmas.{steps_by}
use Rattle.queue_table.proofs.factors.Factors.priority.Goals as goal

pub returns : goal.returns
returns c = steps_by c.args.self c.args.size c.args.rows c.from.result c.product-load.result c.args.tries c.product-tried.result c.args.class c.bonus_of-bonus.result c.less-first.result c.more-loaded.result c.more.result c.ranges.class (record { sfits = c.bonus_of-bonus.type_inv }) (record { sfits = c.less-first.type_inv }) (record { sfits = c.more-loaded.type_inv }) (record { sfits = c.more.type_inv }) c.bonus_of-bonus.ensures.fits c.bonus_of-bonus.ensures.value c.less-first.ensures c.from.ensures c.product-load.ensures c.more-loaded.ensures c.product-tried.ensures c.more.ensures
