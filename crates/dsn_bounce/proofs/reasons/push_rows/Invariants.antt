use Rattle.std.proofs.Common.{◌≡◌, ◌++◌, take, map}
use Rattle.std.specs.List.{flat_map}
use Rattle.dsn_bounce.specs.Rows.{told_of}
use Rattle.dsn_bounce.proofs.reasons.push_rows.Given as goal

abbrev pub invariant-loop-row : goal.invariant-loop-row
invariant-loop-row l = l.text ≡ l.fn.text ++ flat_map (told_of l.fn.topic) (take l.row-index l.rows)
