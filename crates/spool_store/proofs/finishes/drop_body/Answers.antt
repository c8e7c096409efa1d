-- A body is removed or not.
use Rattle.spool_store.proofs.MovesLemmas.{moves_call, run_call}
use Rattle.spool_store.proofs.Finishing.{drop_safe, drop_leads}
use Rattle.spool_store.proofs.finishes.drop_body.Goals as goal

pub returns-clause-moves : goal.returns-clause-moves
returns-clause-moves g c = λ dirs f s control done none in_dir is. moves_call _ _ _ _ c.remove.result _ _ _ c.remove.ensures.call (drop_safe dirs f s control c.args.dir.now c.args.df.now done none in_dir is) (drop_leads dirs f s control c.args.dir.now c.args.df.now done none in_dir is)

pub returns-clause-runs : goal.returns-clause-runs
returns-clause-runs g c = run_call _ _ _ _ _ c.remove.ensures.call
