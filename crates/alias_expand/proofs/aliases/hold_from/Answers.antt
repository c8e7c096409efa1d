use Rattle.std.proofs.Common.{arith}
use Rattle.mail_base.proofs.PlaceLemmas.{indexed_all}
use Rattle.alias_expand.specs.Aliases.{has_name}
use Rattle.alias_expand.proofs.AliasLemmas.{indexed_more}
use Rattle.alias_expand.proofs.aliases.hold_from.Goals as goal

pub lines-preserved : goal.lines-preserved
lines-preserved c =
    let lt = c.lines-test.true in
    record {
      within = omega (arith, lt);
      keeps = λ name place held. c.hold_first.ensures.keeps name place (c.lines.invariant.keeps name place held);
      held = λ indexed. indexed_more c.args.lines.now c.lines.place c.index-lines-place.result c.lines.places c.hold_first.new.self c.lines-test.true c.index-lines-place.is c.hold_first.ensures.keeps c.in_ok-hold_first.ensures.held (c.lines.invariant.held indexed);
    }

pub returns-clause-held : goal.returns-clause-held
returns-clause-held c =
    let ended = c.lines-test.false in
    λ indexed. indexed_all has_name c.args.lines.now c.lines.place c.lines.places (omega (arith, ended)) (c.lines.invariant.held indexed)
