-- No bounce, and no child.
use Rattle.std.proofs.Common.{[], None, Ok}
use Rattle.std.proofs.lemmas.List.Elements.{All-nil}
use Rattle.spool_store.specs.Keepers.{seen}
use Rattle.spool_store.specs.Writes.{IsDraftable}
use Rattle.queue_table.specs.Calls.{store}
use Rattle.queue_table.specs.inner.Planning.{control_by}
use Rattle.queue_table.proofs.PlanLemmas.{can_back, under_is}
use Rattle.queue_table.proofs.table.Table.plan_death.Goals as goal

pub prepare_under-requires : goal.prepare_under-requires
prepare_under-requires c = record { can = rw c.new.ensures (can_back c.args.self.now c.args.id [] c.in_ok-parent.parent None tt c.requires.open_at (All-nil (IsDraftable (store c.args.self.now).dirs)) c.in_ok-parent.ensures) }

pub returns-clause-is : goal.returns-clause-is
returns-clause-is c =
    under_is (seen c.prepare_under-2.new.self) (store c.args.self.now).entries c.args.id [] c.in_ok-parent.parent [] (control_by None) (Ok c.in_ok-prepare_under.field-0) c.in_ok-parent.ensures (rw (← c.new.ensures, ← c.new-2.ensures) c.in_ok-prepare_under.ensures.is)
