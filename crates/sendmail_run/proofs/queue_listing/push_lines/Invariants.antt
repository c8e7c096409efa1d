-- The line of the entry, and those of the rows so far.
use Rattle.std.proofs.Common.{◌≡◌, ◌++◌, take}
use Rattle.std.specs.List.{flat_map}
use Rattle.sendmail_run.specs.Listings.{head_line, row_line}
use Rattle.sendmail_run.proofs.queue_listing.push_lines.Given as goal

abbrev pub invariant-loop-row : goal.invariant-loop-row
invariant-loop-row l = l.text ≡ l.fn.text ++ (head_line l.entry.id l.entry.control l.size ++ flat_map row_line (take l.row-index l.row-items))
