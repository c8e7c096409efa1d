use Rattle.std.proofs.Common.{◌+◌, length, drop, subst, sym, ap, ◌∙◌}
use Rattle.std.proofs.lemmas.List.{take_rest}
use Rattle.mail_header.specs.Places.{AreApart}
use Rattle.header_rewrite.specs.inner.Filling.{FillsBy}
use Rattle.header_rewrite.proofs.FillLemmas.{place_within, apart_behind, fills_behind, fills_all}
use Rattle.header_rewrite.proofs.filling.Way.fill_places.Goals as goal

pub add_place-requires-clause-within : goal.add_place-requires-clause-within
add_place-requires-clause-within c =
    place_within c.places.from c.places.index (length c.args.header.now) c.args.places.now c.places.invariant.apart _ c.places-test.true (length c.bytes-bytes.result.now) (ap length c.bytes-bytes.ensures)

pub places-preserved : goal.places-preserved
places-preserved c = record {
  apart =
      subst (λ e. AreApart e (drop (c.places.index + 1) c.args.places.now) (length c.args.header.now)) (sym c.in_ok-end.ensures.end)
      (apart_behind c.places.from c.places.index (length c.args.header.now) c.args.places.now c.places.invariant.apart _ c.places-test.true);
  fills = λ more f.
      fills_behind c.places.from c.places.index (length c.args.header.now) c.args.places.now c.places.invariant.apart _ c.places-test.true c.args.self.now c.args.header.now c.bytes-bytes.result.now c.args.places.now c.places.text c.add_place.new.text
      c.bytes-bytes.ensures c.places.invariant.fills c.in_ok-end.ensures.adds more
      (subst (λ e. FillsBy c.args.self.now c.args.header.now e (drop (c.places.index + 1) c.args.places.now) more) c.in_ok-end.ensures.end f);
}

pub returns : goal.returns
returns c =
    fills_all c.args.self.now c.args.header.now _ c.places.from c.places.index c.args.places.now c.places.text c.extend.new.self c.places-test.false
    (take_rest c.bytes-bytes.result.now c.places.from ∙ ap (drop c.places.from) c.bytes-bytes.ensures) c.in_ok-extend.ensures.ok c.places.invariant.fills
