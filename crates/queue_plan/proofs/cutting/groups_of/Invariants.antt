-- The rows so far have their groups.
use Rattle.std.proofs.Common.{take}
use Rattle.std.specs.Prelude.{All}
use Rattle.mail_base.specs.Texts.{IsLine}
use Rattle.queue_plan.specs.Cuts.{AreGrouped}
use Rattle.queue_plan.proofs.cutting.groups_of.Given as goal

abbrev pub invariant-loop-row : goal.invariant-loop-row
invariant-loop-row l = record {
  are : AreGrouped l.config l.maps l.macros (take l.row-index l.rows) l.groups;
  lines : All IsLine l.groups;
}
