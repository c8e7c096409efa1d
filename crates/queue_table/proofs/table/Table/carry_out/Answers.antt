-- What was planned is carried out.
use Rattle.std.proofs.Common.{inr}
use Rattle.mail_base.specs.declared.fault.StoreFault.TheVariants.{SpoolFault}
use Rattle.spool_store.specs.Settled.{IsSettled, StandsFor}
use Rattle.queue_table.specs.Calls.{store}
use Rattle.queue_table.specs.Commands.{after}
use Rattle.queue_table.specs.Commands.Command.{Accept}
use Rattle.queue_table.proofs.CallLemmas.{no_fault, settled_now}
use Rattle.queue_table.proofs.table.Table.carry_out.Goals as goal

pub returns-in-Ok-clause-does : goal.returns-in-Ok-clause-does
returns-in-Ok-clause-does g c = λ message cuts moment is.
    let kept = c.args.self.now in
    record {
      moves = λ table holds may. c.in-Ok.ensures.moves table message cuts moment holds is;
      settled = λ table f holds told stands. settled_now _ _ (StandsFor (store kept).dirs table) (IsSettled (store kept).dirs (after table (Accept kept.terms message cuts moment))) f (c.in-Ok.ensures.moves table message cuts moment holds is).now told stands;
      holds = λ table holds. c.in-Ok.ensures.holds table message cuts moment holds is;
      kept = λ table holds. tt;
      agrees = c.in-Ok.ensures.agrees;
      frame = c.accept_planned.ensures.frame;
      stays = c.accept_planned.ensures.stays;
      whole = c.in-Ok.ensures.ok;
      fault = λ f. absurd (no_fault c.in-Ok.id SpoolFault f);
      later = c.accept_planned.ensures.later;
      calm = inr c.in-Ok.ensures.calm;
      cause = λ f. absurd (no_fault c.in-Ok.id SpoolFault f);
    }
