-- Each part is written over those before it.
use Rattle.std.proofs.Common.{arith, ◌<◌, ◌≡◌, [], List, length, map, sym, take, subst, take_all, ◌∙◌, refl}
use Rattle.std.proofs.Math.Nat.{le_refl, le_trans}
use Rattle.std.proofs.lemmas.Result.{err_from_is_err_and}
use Rattle.std.proofs.lemmas.List.{length-map}
use Rattle.spool_store.specs.Entries.{Stored}
use Rattle.spool_store.specs.Moves.{Moves}
use Rattle.spool_store.specs.Parts.{entry_of}
use Rattle.spool_store.specs.inner.Parts.{IsUnderWay}
use Rattle.spool_store.specs.Writes.{AreWritten}
use Rattle.spool_store.proofs.MovesLemmas.{moves_join, moves_none}
use Rattle.spool_store.proofs.Writing.{part_at, nth_among, nth_more, nth_follows, taken_among, none_under}
use Rattle.spool_store.proofs.parts.put_parts.Goals as goal

pub loop-part-init : goal.loop-part-init
loop-part-init g c = record {
  moves = λ f next own new mine. moves_none _ _ _ _ (λ x w. (w, none_under f next own _ x w));
  later = le_refl _;
  calm = refl;
}

pub loop-part-preserved : goal.loop-part-preserved
loop-part-preserved g c = record {
  moves = λ f next own new mine.
      let these = map (entry_of c.args.body.now) c.args.parts.now in
      let i = c.loop-part.part-index in
      let s = entry_of c.args.body.now c.part-item.result in
      let at = part_at c.args.body.now c.args.parts.now i c.part-item.result (omega arith) c.part-item.is in
      let lt : i < length these = at.0 in
      let call = c.in_ok-put_part.ensures.moves f next own these (take i these) (nth_follows f next these i s new lt at.1) mine (nth_among these i s lt at.1) (taken_among f next these i new (omega (arith, lt))) in
      subst (λ (q : List Stored). Moves (g.D.Spool.seen c.args.spool.now) (g.D.Spool.seen c.put_part.new.spool) (AreWritten [] f) (λ x. AreWritten q f x × IsUnderWay next own these f x) (IsUnderWay next own these f)) (sym (nth_more these i s lt at.1))
      (moves_join _ _ _ _ _ _ _ (c.loop-part.invariant.moves f next own new mine) call);
  later = le_trans c.loop-part.invariant.later c.in_ok-put_part.ensures.cause.later;
  calm = c.in_ok-put_part.ensures.calm ∙ c.loop-part.invariant.calm;
}

pub returns-in_err-put_part-clause-moves : goal.returns-in_err-put_part-clause-moves
returns-in_err-put_part-clause-moves g c = λ f next own new mine.
    let these = map (entry_of c.args.body.now) c.args.parts.now in
    let i = c.loop-part.part-index in
    let s = entry_of c.args.body.now c.part-item.result in
    let at = part_at c.args.body.now c.args.parts.now i c.part-item.result (omega arith) c.part-item.is in
    let lt : i < length these = at.0 in
    let call = c.in_err-put_part.ensures.moves f next own these (take i these) (nth_follows f next these i s new lt at.1) mine (nth_among these i s lt at.1) (taken_among f next these i new (omega (arith, lt))) in
    let p = err_from_is_err_and c.from_residual.result c.from_residual.ensures.1 in
    rw p.1 (moves_join _ _ _ _ _ _ _ (c.loop-part.invariant.moves f next own new mine) call)

pub returns-clause-moves : goal.returns-clause-moves
returns-clause-moves g c = λ f next own new mine.
    let these = map (entry_of c.args.body.now) c.args.parts.now in
    let all : take c.loop-part.part-index these ≡ these = take_all c.loop-part.part-index these (omega (arith, length-map c.args.parts.now (entry_of c.args.body.now), c.loop-part-test.false)) in
    subst (λ (q : List Stored). Moves (g.D.Spool.seen c.args.spool.now) (g.D.Spool.seen c.loop-part.spool) (AreWritten [] f) (λ x. AreWritten q f x × IsUnderWay next own these f x) (IsUnderWay next own these f)) all (c.loop-part.invariant.moves f next own new mine)
