use Rattle.std.proofs.Common.{◌≡◌, drop, map}
use Rattle.std.specs.List.{find}
use Rattle.map_tables.specs.Answers.{answer_at, says_more}
use Rattle.map_tables.proofs.answering.first_answer.Given as goal

-- what is found among the places that are left is what is found among all
abbrev pub invariant-loop-place : goal.invariant-loop-place
invariant-loop-place l = find says_more (map (answer_at l.before) (drop l.place-index l.places)) ≡ find says_more (map (answer_at l.before) l.places)
