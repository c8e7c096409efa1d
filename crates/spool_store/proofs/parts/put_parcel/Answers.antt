-- The calls of its parts, said of its drafts.
use Rattle.spool_store.specs.Moves.{Ends}
use Rattle.spool_store.proofs.MovesLemmas.{moves_at}
use Rattle.spool_store.proofs.ParcelLemmas.{parcel_moves}
use Rattle.spool_store.proofs.Stages.{written_none}
use Rattle.spool_store.proofs.parts.put_parcel.Goals as goal

pub returns-clause-moves : goal.returns-clause-moves
returns-clause-moves g c = λ store children parent f is fresh.
    parcel_moves _ _ store children parent c.args.parcel.now c.items.result.now f (λ Q R. Ends c.put_all.result Q R) c.items.ensures is fresh (λ new can. moves_at _ _ f _ _ _ (written_none f) (c.put_all.ensures.moves f store.next new can))
