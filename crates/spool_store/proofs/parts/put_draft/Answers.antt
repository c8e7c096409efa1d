-- A control text is written whole before it takes its name.
use Rattle.spool_store.specs.Parts.{entry_of}
use Rattle.spool_store.proofs.MovesLemmas.{moves_call}
use Rattle.spool_store.proofs.Writing.{draft_safe, draft_leads}
use Rattle.spool_store.proofs.parts.put_draft.Goals as goal

pub returns-clause-moves : goal.returns-clause-moves
returns-clause-moves g c = λ body f next own children done can k.
    let part = c.args.part.now in
    let s = entry_of body part in
    moves_call _ _ _ _ c.write_new.result _ _ _ c.write_new.ensures.call (draft_safe f next own children done s part.tf part.tf_is k) (draft_leads f next own children done s part.tf part.control part.tf_is part.printed can k)
