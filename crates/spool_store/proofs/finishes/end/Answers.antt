-- A control file is renamed or not.
use Rattle.spool_store.proofs.MovesLemmas.{moves_call, run_call}
use Rattle.spool_store.proofs.Finishing.{move_safe, move_leads}
use Rattle.spool_store.proofs.finishes.end.Goals as goal

pub returns-clause-moves : goal.returns-clause-moves
returns-clause-moves g c = λ dirs f s control done in_dir from to. moves_call _ _ _ _ c.rename.result _ _ _ c.rename.ensures.call (move_safe dirs f s control c.args.dir.now c.args.qf.now c.args.sf.now done in_dir from to) (move_leads dirs f s control c.args.dir.now c.args.qf.now c.args.sf.now done in_dir from to)

pub returns-clause-runs : goal.returns-clause-runs
returns-clause-runs g c = run_call _ _ _ _ _ c.rename.ensures.call
