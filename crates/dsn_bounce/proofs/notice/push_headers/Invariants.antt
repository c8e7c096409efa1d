use Rattle.std.proofs.Common.{◌≡◌, ◌++◌, drop}
use Rattle.std.specs.List.{flat_map}
use Rattle.dsn_bounce.specs.Returned.{header_lines}
use Rattle.dsn_bounce.proofs.notice.push_headers.Given as goal

-- what is written with the headers that are left is all headers
abbrev pub invariant-loop-header : goal.invariant-loop-header
invariant-loop-header l =
    l.text ++ flat_map header_lines (drop l.header-index l.headers)
    ≡ l.fn.text ++ flat_map header_lines l.headers
