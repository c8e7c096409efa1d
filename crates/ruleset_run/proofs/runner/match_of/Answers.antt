use Rattle.std.proofs.Common.{ap, sym, ◌∙◌, length}
use Rattle.ruleset_run.specs.Cutting.{is_cut_left, left_lists}
use Rattle.ruleset_run.specs.inner.Values.{lates}
use Rattle.ruleset_run.proofs.Skipping.{lists_count, no_lists}
use Rattle.ruleset_run.proofs.Walking.{match_found}
use Rattle.ruleset_run.proofs.runner.match_of.Goals as goal

pub find_into-requires-clause-lists : goal.find_into-requires-clause-lists
find_into-requires-clause-lists c =
    let a = c.args in
    let lists = no_lists (lates a.values.now) a.rule.now.left a.no_lists.now (sym c.has_late.ensures ∙ c.if-has_late.false) c.requires.none in
    ap length lists.1 ∙ lists_count (lates a.values.now) a.rule.now.left

pub returns-clause-found : goal.returns-clause-found
returns-clause-found c =
    let a = c.args in
    let lists = no_lists (lates a.values.now) a.rule.now.left a.no_lists.now (sym c.has_late.ensures ∙ c.if-has_late.false) c.requires.none in
    match_found (is_cut_left (lates a.values.now) a.rule.now.left) a.classes.now (left_lists (lates a.values.now) a.rule.now.left) a.no_lists.now a.rule.now.left a.tokens.now c.find_into.new.cuts c.find_into.result lists.0 lists.1 c.find_into.ensures.some c.find_into.ensures.none
