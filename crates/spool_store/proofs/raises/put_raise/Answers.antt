-- The calls of its parts, said of its drafts.
use Rattle.spool_store.specs.Moves.{Ends}
use Rattle.spool_store.proofs.MovesLemmas.{moves_at}
use Rattle.spool_store.proofs.UnderLemmas.{raise_moves}
use Rattle.spool_store.proofs.Stages.{written_none}
use Rattle.spool_store.proofs.raises.put_raise.Goals as goal

pub returns-clause-moves : goal.returns-clause-moves
returns-clause-moves g c = λ store id children parent f is fresh.
    raise_moves _ _ store id children parent c.args.parcel.now c.items.result.now f (λ Q R. Ends c.put_under.result Q R) c.items.ensures is fresh (λ new can. moves_at _ _ f _ _ _ (written_none f) (c.put_under.ensures.moves f store.next new can))
