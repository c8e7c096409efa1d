use Rattle.rule_match.proofs.Keeping.{put_back}
use Rattle.rule_match.proofs.law.put_in.Goals as goal

pub returns : goal.returns
returns c = λ classes late items tokens lengths fits. put_back classes late items tokens 0 lengths fits
