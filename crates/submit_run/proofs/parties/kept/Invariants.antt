use Rattle.std.proofs.Common.{◌≡◌, ◌++◌, drop, filter}
use Rattle.submit_run.specs.Parties.{is_kept}
use Rattle.submit_run.proofs.parties.kept.Given as goal

abbrev pub invariant-loop-address : goal.invariant-loop-address
invariant-loop-address l =
    l.all ++ filter (is_kept l.words) (drop l.address-index l.found) ≡ filter (is_kept l.words) l.found
