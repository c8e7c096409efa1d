use Rattle.std.proofs.Common.{length, sym, ap, ◌∙◌, arith}
use Rattle.std.proofs.lemmas.Bool.{cond-true, cond-false}
use Rattle.mail_submit.specs.Inputs.{is_dot}
use Rattle.std.specs.Str.Lines.{strip_carriage_return}
use Rattle.mail_submit.proofs.ReadLemmas.{strip_short}
use Rattle.mail_submit.proofs.line.counted.Goals as goal

pub returns-then-is_dot-clause-count : goal.returns-then-is_dot-clause-count
returns-then-is_dot-clause-count c = let line = c.args.line.now in sym (cond-true (is_dot line) 0 (length (strip_carriage_return line)) (sym c.is_dot.ensures ∙ c.if-is_dot.true))

pub returns-clause-count : goal.returns-clause-count
returns-clause-count c =
    let line = c.args.line.now in
    ap length c.without_return.ensures ∙ sym (cond-false (is_dot line) 0 (length (strip_carriage_return line)) (sym c.is_dot.ensures ∙ c.if-is_dot.false))

pub returns-clause-within : goal.returns-clause-within
returns-clause-within c = omega (arith, ap length c.without_return.ensures, (strip_short c.args.line.now).0)
