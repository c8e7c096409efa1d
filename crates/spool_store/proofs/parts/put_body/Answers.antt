-- A body that is being written is a file of its entry.
use Rattle.spool_store.specs.Parts.{entry_of}
use Rattle.spool_store.proofs.MovesLemmas.{moves_call}
use Rattle.spool_store.proofs.Writing.{body_safe, body_leads}
use Rattle.spool_store.proofs.parts.put_body.Goals as goal

pub returns-clause-moves : goal.returns-clause-moves
returns-clause-moves g c = λ f next own children done can k.
    let part = c.args.part.now in
    let s = entry_of c.args.body.now part in
    moves_call _ _ _ _ c.write_new.result _ _ _ c.write_new.ensures.call (body_safe f next own children done s part.df part.df_is can k) (body_leads f next own children done s part.df part.df_is can k)
