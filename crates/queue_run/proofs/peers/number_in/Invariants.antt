-- The number so far; no more than that many bytes write.
use Rattle.std.proofs.Common.{◌≡◌, ◌≤◌, take}
use Rattle.queue_run.specs.Peers.{number_in}
use Rattle.queue_run.proofs.peers.number_in.Given as goal

abbrev pub invariant-loop-digit : goal.invariant-loop-digit
invariant-loop-digit l = record {
  is : l.number ≡ number_in (take l.digit-index l.digits);
  none : l.digit-index ≤ 0 → l.number ≤ 0;
  one : l.digit-index ≤ 1 → l.number ≤ 207;
  two : l.digit-index ≤ 2 → l.number ≤ 2_277;
  three : l.digit-index ≤ 3 → l.number ≤ 22_977;
  four : l.digit-index ≤ 4 → l.number ≤ 229_977;
}
