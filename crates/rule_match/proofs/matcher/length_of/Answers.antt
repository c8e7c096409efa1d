use Rattle.rule_match.specs.Wants.{want, wants}
use Rattle.rule_match.proofs.Choosing.{found_more, missed_more}
use Rattle.rule_match.proofs.Rowing.{fixed_some, fixed_none}
use Rattle.rule_match.proofs.matcher.length_of.Goals as goal

pub returns-in-More-clause-some : goal.returns-in-More-clause-some
returns-in-More-clause-some c = rw c.in-More.is (found_more (wants c.args.classes.now c.args.others.now c.args.after.now) c.args.left.now c.place_of-in-More.result c.place_of-in-More.ensures.some)

pub returns-in-More-clause-none : goal.returns-in-More-clause-none
returns-in-More-clause-none c = rw c.in-More.is (missed_more (wants c.args.classes.now c.args.others.now c.args.after.now) c.args.left.now c.place_of-in-More.result c.place_of-in-More.ensures.none)

pub returns-in_default : goal.returns-in_default
returns-in_default c = record {
  some = fixed_some (want c.args.classes.now c.args.late.now c.args.item.now) (wants c.args.classes.now c.args.others.now c.args.after.now) c.args.left.now c.fixed_length.result c.fixed_length.ensures.some;
  none = fixed_none (want c.args.classes.now c.args.late.now c.args.item.now) (wants c.args.classes.now c.args.others.now c.args.after.now) c.args.left.now c.fixed_length.result c.fixed_length.ensures.none;
}
