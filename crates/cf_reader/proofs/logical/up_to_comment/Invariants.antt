use Rattle.std.proofs.Common.{◌≡◌, ◌++◌, take, drop}
use Rattle.cf_reader.specs.inner.Scans.{read_on}
use Rattle.cf_reader.proofs.logical.up_to_comment.Given as goal

-- what stands so far, and what the rest keeps
abbrev pub invariant-loop-index : goal.invariant-loop-index
invariant-loop-index l = take l.index l.text ++ read_on l.last (drop l.index l.text) ≡ read_on 0 l.text
