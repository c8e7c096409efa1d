use Rattle.std.proofs.Common.{sym, ◌∙◌}
use Rattle.rule_match.proofs.Rowing.{clear_none}
use Rattle.rule_match.proofs.row.Row.is_empty.Goals as goal

pub returns : goal.returns
returns g c = λ e. clear_none c.self.inside.words c.args.self.now c.self.view_is (sym c.are_clear.ensures ∙ e)
