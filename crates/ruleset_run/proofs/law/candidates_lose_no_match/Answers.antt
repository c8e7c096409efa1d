use Rattle.ruleset_run.proofs.Candidates.{no_candidate}
use Rattle.ruleset_run.proofs.law.candidates_lose_no_match.Goals as goal

pub returns : goal.returns
returns c = λ rule tokens none. no_candidate rule tokens none
