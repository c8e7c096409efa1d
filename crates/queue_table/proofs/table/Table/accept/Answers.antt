-- What was planned is carried out, from what was there before.
use Rattle.std.proofs.Common.{subst}
use Rattle.queue_table.specs.Calls.{CarriesOut, store}
use Rattle.queue_table.specs.Commands.Command.{Accept}
use Rattle.queue_table.specs.declared.terms.Terms.{Terms}
use Rattle.queue_table.proofs.CallLemmas.{done_after}
use Rattle.queue_table.proofs.HoldingLemmas.{tallies_same}
use Rattle.queue_table.proofs.table.Table.accept.Goals as goal

pub carry_out-requires-clause-agrees : goal.carry_out-requires-clause-agrees
carry_out-requires-clause-agrees g c = tallies_same (store c.args.self.now) (store c.plan_accept.new.self) _ c.plan_accept.ensures.same.1 c.requires.agrees

pub returns-clause-does : goal.returns-clause-does
returns-clause-does g c =
    let mid = c.plan_accept.new.self in
    let a = g.D.Spool.seen c.args.spool.now in
    let b = g.D.Spool.seen c.carry_out.new.spool in
    done_after c.args.self.now mid c.carry_out.new.self (Accept c.args.self.now.terms c.args.message c.args.cuts.now c.args.moment) c.carry_out.result a b c.plan_accept.ensures.same
    (subst (λ (q : Terms). CarriesOut mid c.carry_out.new.self (Accept q c.args.message c.args.cuts.now c.args.moment) c.carry_out.result a b) c.plan_accept.ensures.same.0 (c.carry_out.ensures.does c.args.message c.args.cuts.now c.args.moment c.in_ok-accepting.ensures.is))
