use Rattle.std.proofs.Common.{length, ◌-◌, ◌≤◌}
use Rattle.cf_macros.specs.inner.Insides.{rest_at}
use Rattle.cf_macros.proofs.ReadingLemmas.{SameBehind}
use Rattle.cf_macros.proofs.scan.find_mark.Given as goal

-- what has been passed has no sign of the conditional
abbrev pub invariant-constructs : goal.invariant-constructs
invariant-constructs l = record {
  same : SameBehind (rest_at l.scope l.text l.fn.from) (rest_at l.scope l.text l.place);
  begun : l.fn.from ≤ l.place;
  in_text : l.place ≤ length l.text;
}

abbrev pub decreases-constructs : goal.decreases-constructs
decreases-constructs l = length l.text - l.place
