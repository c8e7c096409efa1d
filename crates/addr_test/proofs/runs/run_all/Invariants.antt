use Rattle.std.proofs.Common.{ℕ, List, ◌++◌, drop}
use Rattle.addr_test.specs.Answers.{RunsSets}
use Rattle.addr_test.proofs.runs.run_all.Given as goal

-- what the sets that are left print completes what all print
abbrev pub invariant-loop-name : goal.invariant-loop-name
invariant-loop-name l = (rest : List ℕ) → RunsSets l.maps l.config (drop l.name-index l.names) l.tokens rest → RunsSets l.maps l.config l.names l.fn.start (l.text ++ rest)
