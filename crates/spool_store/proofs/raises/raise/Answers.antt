-- The renaming of an old entry's control text decides.
use Rattle.spool_store.proofs.MovesLemmas.{moves_call}
use Rattle.spool_store.proofs.Writing.{raise_safe, raise_leads}
use Rattle.spool_store.proofs.raises.raise.Goals as goal

pub returns-clause-moves : goal.returns-clause-moves
returns-clause-moves g c = λ f next these s in_dir from to can. moves_call _ _ _ _ c.rename.result _ _ _ c.rename.ensures.call (raise_safe f next these s c.args.dir.now c.args.tf.now c.args.qf.now in_dir from to can) (raise_leads f next these s c.args.dir.now c.args.tf.now c.args.qf.now in_dir from to can)
