use Rattle.std.proofs.Common.{◌∷◌, sym, ap}
use Rattle.rule_match.specs.Wants.{want, wants}
use Rattle.rule_match.proofs.Rowing.{stand_some, stand_none}
use Rattle.rule_match.proofs.rows.ByRowsLengths.next.Goals as goal

pub returns-clause-some : goal.returns-clause-some
returns-clause-some g c =
    let first = want c.args.classes.now c.args.late.now c.args.item.now in
    stand_some first (wants c.args.classes.now c.args._others.now c.args._after.now) c.requires.serves.1 (ap (λ late. first ∷ wants c.args.classes.now late c.args._after.now) (sym c.requires.lists)) c.requires.serves.0 c.next_length.result _ c.next_length.ensures.some

pub returns-clause-none : goal.returns-clause-none
returns-clause-none g c =
    let first = want c.args.classes.now c.args.late.now c.args.item.now in
    stand_none first (wants c.args.classes.now c.args._others.now c.args._after.now) c.requires.serves.1 (ap (λ late. first ∷ wants c.args.classes.now late c.args._after.now) (sym c.requires.lists)) c.next_length.result c.next_length.ensures.none
