-- The room has the entry's control.
use Rattle.std.proofs.Common.{◌∙◌, sym, subst, All}
use Rattle.queue_table.specs.Soundness.{IsTried}
use Rattle.queue_table.proofs.table.Table.reserve.Goals as goal

pub returns-clause-is : goal.returns-clause-is
returns-clause-is c =
    let can = c.requires.can in
    record {
      can = record {
        held = can.held;
        among = can.among;
        is = can.is ∙ sym c.in_ok-room.ensures.id;
        waits = can.waits;
        tried = subst (λ q. All (IsTried can.held.entry.control.rows) q) (sym c.in_ok-rows.ensures) can.tried;
      };
      control = c.in_ok-room.ensures.control can.held can.among can.is;
      empty = c.in_ok-room.ensures.paper.0;
      fits = c.in_ok-room.ensures.paper.1;
    }
