use Rattle.std.specs.List.{list_any}
use Rattle.mail_base.specs.Metas.{is_class}
use Rattle.rule_match.proofs.Fitting.{or_none}
use Rattle.rule_match.proofs.Going.{some_with}
use Rattle.rule_match.proofs.matcher.ByFrontsLengths.next.Goals as goal

pub returns-clause-some : goal.returns-clause-some
returns-clause-some c = some_with _ _ c.length_of.result c.length_of.ensures.some (or_none (is_class c.args.item.now) (list_any is_class c.args.after.now) c.requires.serves).1
