use Rattle.std.proofs.Common.{ap, ◌∙◌, length}
use Rattle.ruleset_run.specs.Cutting.{is_cut_left, left_lists}
use Rattle.ruleset_run.specs.inner.Values.{lates}
use Rattle.ruleset_run.proofs.Skipping.{lists_count}
use Rattle.ruleset_run.proofs.Walking.{match_found}
use Rattle.ruleset_run.proofs.runner.match_late.Goals as goal

pub find_into-requires-clause-lists : goal.find_into-requires-clause-lists
find_into-requires-clause-lists c =
    let lists = rw c.items.ensures.items at c.in_ok-late.ensures.lists in
    ap length lists.1 ∙ lists_count (lates c.args.values.now) c.args.rule.now.left

pub returns-clause-found : goal.returns-clause-found
returns-clause-found c =
    let a = c.args in
    let lists = rw c.items.ensures.items at c.in_ok-late.ensures.lists in
    match_found (is_cut_left (lates a.values.now) a.rule.now.left) a.classes.now (left_lists (lates a.values.now) a.rule.now.left) c.in_ok-late.late a.rule.now.left a.tokens.now c.find_into.new.cuts c.find_into.result lists.0 lists.1 c.find_into.ensures.some c.find_into.ensures.none
