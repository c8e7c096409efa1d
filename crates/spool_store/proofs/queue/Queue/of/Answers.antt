-- The directories are copied.
use Rattle.std.proofs.Common.{sym, subst, List, ℕ}
use Rattle.std.specs.Prelude.{All}
use Rattle.spool_store.specs.Openings.{IsFitting}
use Rattle.spool_store.proofs.queue.Queue.of.Goals as goal

pub of-requires-clause-fit : goal.of-requires-clause-fit
of-requires-clause-fit c = subst (λ (d : List (List ℕ)). All (IsFitting d) c.args.opened.entries) (sym c.in_ok-dirs.ensures) c.requires.fit
