use Rattle.std.proofs.Common.{◌≡◌, length}
use Rattle.map_tables.specs.Answers.{answers}
use Rattle.map_tables.specs.inner.Members.{Agree}
use Rattle.map_tables.proofs.members.asked.Given as goal

-- the answers so far, where they were asked for
abbrev pub invariant-loop-place : goal.invariant-loop-place
invariant-loop-place l = record {
  agrees : Agree l.marked l.place l.answers (answers l.hosts l.key l.args l.maps);
  length : length l.answers ≡ l.place;
}
