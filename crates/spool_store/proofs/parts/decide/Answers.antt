-- The renaming of a new parent decides.
use Rattle.spool_store.specs.Parts.{entry_of}
use Rattle.spool_store.proofs.MovesLemmas.{moves_call}
use Rattle.spool_store.proofs.Writing.{decide_safe, decide_leads}
use Rattle.spool_store.proofs.parts.decide.Goals as goal

pub returns-clause-moves : goal.returns-clause-moves
returns-clause-moves g c = λ body f next own children can.
    let part = c.args.part.now in
    let s = entry_of body part in
    moves_call _ _ _ _ c.rename.result _ _ _ c.rename.ensures.call (decide_safe f next own children s part.tf part.qf part.tf_is part.qf_is can) (decide_leads f next own children s part.tf part.qf part.tf_is part.qf_is can)
