use Rattle.std.proofs.Common.{◌<◌, length, sym, ◌∙◌, arith}
use Rattle.std.proofs.lemmas.Bool.{eqb-false}
use Rattle.smtp_lines.proofs.RunLemmas.{last_at}
use Rattle.smtp_lines.proofs.stream.last_asks.Goals as goal

pub returns-then-not-is_empty : goal.returns-then-not-is_empty
returns-then-not-is_empty c =
    let lines = c.args.lines.now in
    let not_zero = eqb-false (length lines) 0 (sym c.is_empty.ensures ∙ c.if-not-is_empty.true) in
    let some : 0 < length lines = omega arith in
    c.asks.ensures ∙ last_at lines c.index-lines-lines.result some c.index-lines-lines.is
