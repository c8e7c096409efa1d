use Rattle.std.proofs.Common.{◌≡◌}
use Rattle.ruleset_run.specs.Sites.{site_of}
use Rattle.ruleset_run.specs.Sets.{Rewrites}
use Rattle.ruleset_run.proofs.RewriteLemmas.{if_ok}
use Rattle.ruleset_run.proofs.rewritten.rewrite.Goals as goal

pub returns-clause-only : goal.returns-clause-only
returns-clause-only c = λ rewritten r.
    let a = c.args in
    let site = site_of a.config.now a.maps.now in
    if_ok (Rewrites site a.macros.now a.sets.now a.address.now) (λ given. given ≡ rewritten) (λ given g. c.one_rewriting.ensures site a.macros.now a.sets.now a.address.now given rewritten g r) c.answered.result (rw c.items.ensures at c.answered.ensures)
