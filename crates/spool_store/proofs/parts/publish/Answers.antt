-- A child is written.
use Rattle.spool_store.specs.Parts.{entry_of}
use Rattle.spool_store.proofs.MovesLemmas.{moves_call}
use Rattle.spool_store.proofs.Writing.{publish_safe, publish_leads}
use Rattle.spool_store.proofs.parts.publish.Goals as goal

pub returns-clause-moves : goal.returns-clause-moves
returns-clause-moves g c = λ body f next own children done can mine k among.
    let part = c.args.part.now in
    let s = entry_of body part in
    moves_call _ _ _ _ c.rename.result _ _ _ c.rename.ensures.call (publish_safe f next own children done s part.tf part.qf part.tf_is part.qf_is can mine k among) (publish_leads f next own children done s part.tf part.qf part.tf_is part.qf_is can mine k among)
