-- A batch that needs no attempt.
use Rattle.std.proofs.Common.{◌≡◌, ap, subst, refl, reverse}
use Rattle.queue_run.specs.declared.runner.Runner.{Runner}
use Rattle.queue_run.specs.Kinds.{Settles}
use Rattle.queue_run.specs.Meant.{ground_of}
use Rattle.queue_run.specs.Working.{kind_in}
use Rattle.queue_run.specs.Holders.{holder_of}
use Rattle.queue_run.proofs.PutLemmas.{can_reserve, turned}
use Rattle.queue_run.proofs.SettleLemmas.{exit_settled, first_is, rests}
use Rattle.queue_run.proofs.runner.Runner.settle.Goals as goal

pub put_alike-requires-clause-can : goal.put_alike-requires-clause-can
put_alike-requires-clause-can g c = can_reserve c.args.table.now c.args.self.now c.requires.ready c.in-Some.batch (reverse c.pop.new.self.items) (turned c.args.self.now.rest.items c.pop.new.self.items c.in-Some.batch c.in-Some.ensures.items)

pub returns : goal.returns
returns g c = record {
  steps = λ config maps entries spawner dialer batch whole holds first kind.
      let G = ground_of config maps c.args.moment in
      let s = g.D.Spool.seen c.args.spool.now in
      let s' = g.D.Spool.seen c.put_alike.new.spool in
      let before = c.args.self.now in
      let now : Runner = record { id = before.id; rest = c.pop.new.self; running = before.running } in
      let mine = c.in-Some.batch in
      let same : batch ≡ mine = first_is before.rest.items c.pop.new.self.items mine batch c.in-Some.ensures.items first in
      let kind' : kind_in G entries (holder_of before) ≡ Settles mine c.args.one.now = subst (λ q. kind_in G entries (holder_of before) ≡ Settles q c.args.one.now) same kind in
      let held = c.requires.ready.held in
      exit_settled G entries c.args.table.now c.put_alike.new.table before now s s' spawner dialer mine c.args.one.now c.args.moment c.put_alike.result c.requires.ready kind' refl
      (record { id = refl; split = c.in-Some.ensures.items; running = rests G entries before (Settles mine c.args.one.now) kind' tt }) holds whole
      (c.put_alike.ensures.put held c.requires.ready.among c.requires.ready.is)
      (λ e. ap g.D.Spool.seen (c.put_alike.ensures.none e));
}
