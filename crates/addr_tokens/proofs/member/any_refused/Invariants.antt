use Rattle.std.proofs.Common.{◌≡◌, drop}
use Rattle.std.specs.List.{list_any}
use Rattle.addr_tokens.specs.Members.{cannot_be_cut}
use Rattle.addr_tokens.proofs.member.any_refused.Given as goal

abbrev pub invariant-loop-word : goal.invariant-loop-word
invariant-loop-word l = list_any cannot_be_cut (drop l.word-index l.words) ≡ list_any cannot_be_cut l.fn.words
