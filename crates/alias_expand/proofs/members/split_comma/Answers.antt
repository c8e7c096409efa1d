use Rattle.std.proofs.Common.{arith}
use Rattle.alias_expand.proofs.PieceLemmas.{written_first, written_one}
use Rattle.alias_expand.proofs.members.split_comma.Goals as goal

pub returns-then-end-text-clause-pieces : goal.returns-then-end-text-clause-pieces
returns-then-end-text-clause-pieces c = written_one c.args.text.now c.length_to-end.result c.length_to-end.ensures.length c.if-end-text.true

pub returns-clause-pieces : goal.returns-clause-pieces
returns-clause-pieces c =
    let not_all = c.if-end-text.false in
    let within = c.length_to-end.ensures.within in
    written_first c.args.text.now c.length_to-end.result c.length_to-end.ensures.length (omega (arith, not_all, within))
