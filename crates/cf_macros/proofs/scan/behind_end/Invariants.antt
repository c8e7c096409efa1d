use Rattle.std.proofs.Common.{length, ◌-◌, ◌≡◌, ◌≤◌, ◌+◌}
use Rattle.cf_macros.specs.inner.Insides.{past, rest_at}
use Rattle.cf_macros.proofs.scan.behind_end.Given as goal

-- what is still to pass from here was to pass from the start
abbrev pub invariant-constructs : goal.invariant-constructs
invariant-constructs l = record {
  same : past 1 (rest_at l.scope l.text l.fn.from) ≡ past l.ends (rest_at l.scope l.text l.place);
  begun : l.fn.from ≤ l.place;
  in_text : l.place ≤ length l.text;
  some : 1 ≤ l.ends;
  few : l.ends ≤ l.place + 1;
}

abbrev pub decreases-constructs : goal.decreases-constructs
decreases-constructs l = length l.text - l.place
