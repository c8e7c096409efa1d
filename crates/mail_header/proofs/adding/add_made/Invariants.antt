use Rattle.std.proofs.Common.{◌≡◌, ◌++◌, drop, filter, map}
use Rattle.mail_header.specs.Made.{made_of, is_added}
use Rattle.mail_header.proofs.adding.add_made.Given as goal

abbrev pub invariant-loop-line : goal.invariant-loop-line
invariant-loop-line l =
    l.all ++ map (made_of l.macros) (filter (is_added l.mailer l.headers) (drop l.line-index l.lines))
    ≡ l.fn.all ++ map (made_of l.macros) (filter (is_added l.mailer l.headers) l.lines)
