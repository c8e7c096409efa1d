use Rattle.std.proofs.Common.{◌≡◌, ◌++◌, drop}
use Rattle.std.specs.List.{flat_map}
use Rattle.mail_header.specs.Outgoing.{header_text}
use Rattle.mail_header.proofs.outgoing_text.push_headers.Given as goal

abbrev pub invariant-loop-header : goal.invariant-loop-header
invariant-loop-header l =
    l.text.items ++ flat_map (header_text l.end) (drop l.header-index l.headers)
    ≡ l.fn.text.items ++ flat_map (header_text l.end) l.headers
