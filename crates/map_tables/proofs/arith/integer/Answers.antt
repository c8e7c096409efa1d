use Rattle.std.proofs.Common.{◌∙◌, sym, subst}
use Rattle.std.specs.Int.{w64}
use Rattle.std.specs.Str.Parse.{ParsesSigned}
use Rattle.map_tables.proofs.ArithmeticLemmas.{plus_none, parsed, no_text}
use Rattle.map_tables.proofs.arith.integer.Goals as goal

pub returns-then-begins_with : goal.returns-then-begins_with
returns-then-begins_with c = plus_none c.args.text.now (sym c.if-begins_with.ensures)

pub returns-in-Ok : goal.returns-in-Ok
returns-in-Ok c =
    let read = subst (λ t. ParsesSigned w64 10 t c.parse.result) c.in-Ok.ensures.cases.0 c.parse.ensures.value.0 in
    c.ok.ensures.value ∙ parsed c.args.text.now c.parse.result (sym c.if-begins_with.ensures) read

pub returns-in-Err : goal.returns-in-Err
returns-in-Err c = no_text c.args.text.now c.in-Err.ensures.cases.0
