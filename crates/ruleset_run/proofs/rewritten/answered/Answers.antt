use Rattle.std.proofs.Common.{List, ℕ, Ok, Err, sym, subst}
use Rattle.ruleset_run.specs.Sites.{site_of}
use Rattle.ruleset_run.specs.declared.rewritten.Rewritten.TheVariants.{Gives}
use Rattle.ruleset_run.specs.Sets.{Rewrites, rewrites}
use Rattle.ruleset_run.proofs.rewritten.answered.Goals as goal

pub returns-in_ok-join-in-Ok : goal.returns-in_ok-join-in-Ok
returns-in_ok-join-in-Ok c =
    let a = c.args in
    subst (λ (text : List ℕ). Rewrites (site_of a.config.now a.maps.now) a.macros.now a.sets.now a.address.now (Gives text)) (sym c.in_ok-join-in-Ok.ensures) (rewrites (Ok c.in-Ok.tokens) c.in-Ok.ensures)

pub returns-in-Err-Because : goal.returns-in-Err-Because
returns-in-Err-Because c = rw c.in-Err-Because.field-0-is (rewrites (Err c.in-Err-Because.cause) (rw c.in-Err-Because.field-0-is at c.in-Err-Because.ensures))
