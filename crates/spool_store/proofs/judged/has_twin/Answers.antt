-- Control files of that id stand together.
use Rattle.std.proofs.Common.{◌≡◌, ◌≢◌, ◌<◌, ⊎_elim, arith, length, get_or}
use Rattle.std.proofs.lemmas.List.{get_or_default}
use Rattle.std.proofs.lemmas.List.Elements.{Contains-get_or}
use Rattle.spool_store.specs.declared.named.Found.{Found}
use Rattle.spool_store.specs.inner.Finds.{spot_named}
use Rattle.spool_store.proofs.Raising.{spot_or}
use Rattle.spool_store.proofs.Searching.{none_below, none_more, none_all, none_from, above_of}
use Rattle.spool_store.proofs.judged.has_twin.Goals as goal

pub loop-place-init : goal.loop-place-init
loop-place-init c = record {
  none = none_below (λ (y : Found). y.named.id) (λ (y : Found). (y.named.id ≡ c.args.named.now.id) × (spot_named c.args.dirs.now y.named ≢ spot_named c.args.dirs.now c.args.named.now)) c.args.found.now c.first_found-place.result c.args.named.now.id (λ x e. e.0) (λ k d lt. omega (arith, c.first_found-place.ensures.before k d lt, c.number-number.ensures.number));
  from = λ k d le lt. omega (arith, c.first_found-place.ensures.from k d le lt, c.number-number.ensures.number);
}

pub is_apart-requires-clause-other : goal.is_apart-requires-clause-other
is_apart-requires-clause-other c = c.requires.within (get_or c.args.found.now c.loop-place.place c.index-found-place.result) (Contains-get_or c.args.found.now c.loop-place.place c.index-found-place.result (omega arith))

pub loop-place-preserved : goal.loop-place-preserved
loop-place-preserved c =
    let lt : c.loop-place.place < length c.args.found.now = omega arith in
    record {
      none = none_more (λ (y : Found). (y.named.id ≡ c.args.named.now.id) × (spot_named c.args.dirs.now y.named ≢ spot_named c.args.dirs.now c.args.named.now)) c.args.found.now c.loop-place.place (get_or c.args.found.now c.loop-place.place c.index-found-place.result) lt
          (get_or_default c.args.found.now c.loop-place.place c.index-found-place.result (get_or c.args.found.now c.loop-place.place c.index-found-place.result) lt) (λ p. p.1 (c.is_apart.ensures.no c.if-is_apart.false p.0)) c.loop-place.invariant.none;
      from = λ k d le lt. c.loop-place.invariant.from k d (omega (arith, le)) lt;
    }

pub returns-then-number-clause-no : goal.returns-then-number-clause-no
returns-then-number-clause-no c = λ e y among i.
    let x = get_or c.args.found.now c.loop-place.place c.index-found-place.result in
    let lt : c.loop-place.place < length c.args.found.now = omega arith in
    ⊎_elim (λ (q : spot_named c.args.dirs.now y.named ≡ spot_named c.args.dirs.now c.args.named.now). q)
    (λ (ne : spot_named c.args.dirs.now y.named ≢ spot_named c.args.dirs.now c.args.named.now). absurd (none_from (λ (z : Found). z.named.id) (λ (z : Found). (z.named.id ≡ c.args.named.now.id) × (spot_named c.args.dirs.now z.named ≢ spot_named c.args.dirs.now c.args.named.now)) c.args.found.now c.loop-place.place c.args.named.now.id x c.requires.order (λ z q. q.0) lt
    (get_or_default c.args.found.now c.loop-place.place c.index-found-place.result x lt)
    (above_of c.args.named.now.id x.named.id (c.loop-place.invariant.from c.loop-place.place c.index-found-place.result (omega arith) lt) (λ q. c.if-number.true (omega (arith, q, c.number.ensures.number, c.number-number.ensures.number))))
    c.loop-place.invariant.none y among (i, ne)))
    (spot_or c.args.dirs.now (spot_named c.args.dirs.now y.named) (spot_named c.args.dirs.now c.args.named.now))

pub returns-clause-no : goal.returns-clause-no
returns-clause-no c = λ e y among i.
    ⊎_elim (λ (q : spot_named c.args.dirs.now y.named ≡ spot_named c.args.dirs.now c.args.named.now). q)
    (λ (ne : spot_named c.args.dirs.now y.named ≢ spot_named c.args.dirs.now c.args.named.now). absurd (none_all (λ (z : Found). (z.named.id ≡ c.args.named.now.id) × (spot_named c.args.dirs.now z.named ≢ spot_named c.args.dirs.now c.args.named.now)) c.args.found.now c.loop-place.place (omega (arith, c.loop-place-test.false)) c.loop-place.invariant.none y among (i, ne)))
    (spot_or c.args.dirs.now (spot_named c.args.dirs.now y.named) (spot_named c.args.dirs.now c.args.named.now))
