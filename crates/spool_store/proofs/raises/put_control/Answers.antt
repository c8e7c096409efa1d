-- A new control text is written whole before it takes its name.
use Rattle.spool_store.proofs.MovesLemmas.{moves_call}
use Rattle.spool_store.proofs.Writing.{control_safe, control_leads}
use Rattle.spool_store.proofs.raises.put_control.Goals as goal

pub returns-clause-moves : goal.returns-clause-moves
returns-clause-moves g c = λ f next these s in_dir is said can. moves_call _ _ _ _ c.write_new.result _ _ _ c.write_new.ensures.call (control_safe f next these s c.args.dir.now c.args.tf.now in_dir is) (control_leads f next these s c.args.dir.now c.args.tf.now c.args.control.now in_dir is said can)
