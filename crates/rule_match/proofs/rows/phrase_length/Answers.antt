use Rattle.std.proofs.Common.{arith}
use Rattle.rule_match.proofs.Rowing.{no_phrase_found}
use Rattle.rule_match.proofs.rows.phrase_length.Goals as goal

pub returns-clause-none : goal.returns-clause-none
returns-clause-none g c = rw c.in_ok-class.was (no_phrase_found c.in_ok-class.class.now c.args.left.now c.args.place c.args.after.now c.min-most.result (λ n a b. omega (arith, c.min-most.ensures, c.longest_phrase.ensures, a, b)) (λ m below. c.loop-length.invariant m (omega arith)))
