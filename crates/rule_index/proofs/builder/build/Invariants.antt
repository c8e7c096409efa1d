use Rattle.std.proofs.Common.{◌≡◌, take}
use Rattle.rule_index.proofs.builder.build.Given as goal

-- the rules so far are there
abbrev pub invariant-loop-rule : goal.invariant-loop-rule
invariant-loop-rule l = l.buckets ≡ take l.rule-index l.rule-items
