-- A command that was carried out, and one that failed.
use Rattle.std.proofs.Common.{◌≡◌, ◌<◌, ◌+◌, ◌↔◌, Ok, Err, refl, sym, ap, subst, length, false}
use Rattle.std.specs.Prelude.{IsErrOf, sum_by}
use Rattle.mail_base.specs.declared.fault.StoreFault.TheVariants.{IdsSpent}
use Rattle.mail_base.specs.declared.id.TheConstants.Id.{MOST}
use Rattle.mail_base.specs.declared.message.Back.{Back}
use Rattle.queue_table.specs.Calls.{CarriesOut, store}
use Rattle.queue_table.specs.Commands.Command.{Return}
use Rattle.queue_run.specs.Meant.{ground_of}
use Rattle.queue_run.specs.Working.{Steps, bench}
use Rattle.queue_run.proofs.AskingLemmas.{asked_bury}
use Rattle.queue_run.proofs.BackLemmas.{valid_none}
use Rattle.queue_run.proofs.SendLemmas.{exit_buried}
use Rattle.queue_run.proofs.runner.Runner.bury.Goals as goal

pub give_back-requires-clause-asked : goal.give_back-requires-clause-asked
give_back-requires-clause-asked g c = asked_bury c.args.table.now c.args.self.now c.new.result c.args.moment c.requires.ready c.requires.failed c.requires.double c.new.ensures

pub give_back-requires-clause-valid : goal.give_back-requires-clause-valid
give_back-requires-clause-valid g c = valid_none c.args.table.now.terms c.args.moment c.new.result c.new.ensures

pub returns-in-Ok : goal.returns-in-Ok
returns-in-Ok g c = record {
  steps = λ config maps entries spawner dialer whole holds kind.
      let s = g.D.Spool.seen c.args.spool.now in
      let s' = g.D.Spool.seen c.give_back.new.spool in
      exit_buried (ground_of config maps c.args.moment) entries c.args.table.now c.give_back.new.self c.args.self.now s s' spawner dialer c.args.moment (Ok c.in-Ok.field-0) kind refl c.requires.ready c.requires.rest c.requires.running holds whole
      (subst (λ q. CarriesOut {T = Unit {0}} c.args.table.now c.give_back.new.self (Return c.args.table.now.terms c.args.self.now.id q c.args.moment) (Ok c.in-Ok.field-0) s s') c.new.ensures c.in-Ok.ensures.does)
      (λ e. let r = c.in-Ok.ensures.refused e in (r.0, ap g.D.Spool.seen r.1))
      (subst (λ q. IsErrOf {T = Unit {0}} (Ok c.in-Ok.field-0) IdsSpent ↔ ((store c.args.table.now).broken ≡ false × (MOST + 1 < (store c.args.table.now).next + sum_by (λ (back : Back). length back.cuts) q))) c.new.ensures c.in-Ok.ensures.spent);
}

pub returns-in-Err : goal.returns-in-Err
returns-in-Err g c = record {
  steps = λ config maps entries spawner dialer whole holds kind.
      let s = g.D.Spool.seen c.args.spool.now in
      let s' = g.D.Spool.seen c.give_back.new.spool in
      subst (λ q. Steps (ground_of config maps c.args.moment) entries c.args.table.now c.give_back.new.self c.args.self.now c.args.self.now (bench s spawner dialer) (bench s' spawner dialer) (Err q)) (sym c.stop_of.ensures)
      (exit_buried (ground_of config maps c.args.moment) entries c.args.table.now c.give_back.new.self c.args.self.now s s' spawner dialer c.args.moment (Err c.in-Err.fault) kind refl c.requires.ready c.requires.rest c.requires.running holds whole
      (subst (λ q. CarriesOut {T = Unit {0}} c.args.table.now c.give_back.new.self (Return c.args.table.now.terms c.args.self.now.id q c.args.moment) (Err c.in-Err.fault) s s') c.new.ensures c.in-Err.ensures.does)
      (λ e. let r = c.in-Err.ensures.refused e in (r.0, ap g.D.Spool.seen r.1))
      (subst (λ q. IsErrOf {T = Unit {0}} (Err c.in-Err.fault) IdsSpent ↔ ((store c.args.table.now).broken ≡ false × (MOST + 1 < (store c.args.table.now).next + sum_by (λ (back : Back). length back.cuts) q))) c.new.ensures c.in-Err.ensures.spent));
}
