-- The headings so far and those of the rows that are left are all.
use Rattle.std.proofs.Common.{◌≡◌, ◌++◌, map, zip}
use Rattle.queue_plan.specs.Parts.{heading_of}
use Rattle.queue_plan.proofs.parting.headings_of.Given as goal

abbrev pub invariant-loop-row : goal.invariant-loop-row
invariant-loop-row l = l.headings ++ map heading_of (zip l.row-iterator.a.rest.now l.row-iterator.b.rest.now) ≡ map heading_of (zip l.rows l.groups)
