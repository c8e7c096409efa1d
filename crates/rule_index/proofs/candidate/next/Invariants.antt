use Rattle.std.proofs.Common.{take}
use Rattle.std.specs.Option.{option_copied}
use Rattle.mail_base.specs.Candidates.{is_candidate}
use Rattle.rule_index.proofs.FirstLemmas.{IsFirst}
use Rattle.rule_index.proofs.candidate.next.Given as goal

-- the first candidate for the tokens so far
abbrev pub invariant-loop-token : goal.invariant-loop-token
invariant-loop-token l = IsFirst (is_candidate (take l.token-index l.token-items)) 0 l.set.rules l.from (option_copied l.least)
