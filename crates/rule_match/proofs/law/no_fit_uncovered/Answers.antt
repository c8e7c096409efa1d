use Rattle.rule_match.proofs.Masking.{uncovered}
use Rattle.rule_match.proofs.law.no_fit_uncovered.Goals as goal

pub returns : goal.returns
returns c = uncovered
