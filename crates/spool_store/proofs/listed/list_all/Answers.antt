-- The files in order of id are the same files.
use Rattle.spool_store.proofs.Finding.{named_order, within_order}
use Rattle.std.proofs.Common.{length}
use Rattle.spool_store.proofs.listed.list_all.Goals as goal

pub returns-clause-within : goal.returns-clause-within
returns-clause-within g c = within_order (length c.args.dirs.now) c.list_dirs.new.listed.named c.in_order.result c.in_order.ensures.same c.in_ok-list_dirs.ensures.within

pub returns-clause-named : goal.returns-clause-named
returns-clause-named g c = λ f e. let files = c.in_ok-list_dirs.ensures.named f e in (named_order c.args.dirs.now f (length c.args.dirs.now) c.list_dirs.new.listed.named c.in_order.result c.in_order.ensures.same files.0, files.1)
