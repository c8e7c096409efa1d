use Rattle.rule_match.proofs.rows.fixed_length.Goals as goal

pub returns-in-Exact-clause-some : goal.returns-in-Exact-clause-some
returns-in-Exact-clause-some c = rw c.in-Exact.is c.exact_length.ensures.some
