-- Files of that id stand together.
use Rattle.std.proofs.Common.{◌≡◌, ◌<◌, ap, arith, length, refl}
use Rattle.mail_base.specs.declared.id.Kind.TheVariants.{Df}
use Rattle.spool_store.specs.declared.named.Named.{Named}
use Rattle.spool_store.proofs.Searching.{none_below, none_more, none_all, none_from, above_of}
use Rattle.spool_store.proofs.judged.has_body.Goals as goal

pub loop-place-init : goal.loop-place-init
loop-place-init c = record {
  none = none_below (λ (x : Named). x.id) (λ (x : Named). x ≡ record { dir = c.args.dir; kind = Df; id = c.args.id }) c.args.names.now c.first_named-place.result c.args.id (λ x e. ap (λ (y : Named). y.id) e) (λ k d lt. omega (arith, c.first_named-place.ensures.before k d lt, c.number-number.ensures.number));
  from = λ k d le lt. omega (arith, c.first_named-place.ensures.from k d le lt, c.number-number.ensures.number);
}

pub loop-place-preserved : goal.loop-place-preserved
loop-place-preserved c = record {
  none = none_more (λ (x : Named). x ≡ record { dir = c.args.dir; kind = Df; id = c.args.id }) c.args.names.now c.loop-place.place c.index-names-place.result (omega arith) c.index-names-place.is (λ e. c.is_body.ensures.no c.if-is_body.false (ap (λ (y : Named). y.kind) e) (ap (λ (y : Named). y.dir) e)) c.loop-place.invariant.none;
  from = λ k d le lt. c.loop-place.invariant.from k d (omega (arith, le)) lt;
}

pub returns-then-number-clause-no : goal.returns-then-number-clause-no
returns-then-number-clause-no c = λ e among.
    let x = c.index-names-place.result in
    let lt : c.loop-place.place < length c.args.names.now = omega arith in
    none_from (λ (y : Named). y.id) (λ (y : Named). y ≡ record { dir = c.args.dir; kind = Df; id = c.args.id }) c.args.names.now c.loop-place.place c.args.id x c.requires.order (λ y q. ap (λ (z : Named). z.id) q) lt c.index-names-place.is
    (above_of c.args.id x.id (omega (arith, c.loop-place.invariant.from c.loop-place.place x (omega arith) lt, ap (λ (y : Named). y.id) c.index-names-place.is)) (λ q. c.if-number.true (omega (arith, q, c.number.ensures.number, c.number-number.ensures.number))))
    c.loop-place.invariant.none (record { dir = c.args.dir; kind = Df; id = c.args.id }) among refl

pub returns-clause-no : goal.returns-clause-no
returns-clause-no c = λ e among. none_all (λ (y : Named). y ≡ record { dir = c.args.dir; kind = Df; id = c.args.id }) c.args.names.now c.loop-place.place (omega (arith, c.loop-place-test.false)) c.loop-place.invariant.none (record { dir = c.args.dir; kind = Df; id = c.args.id }) among refl
