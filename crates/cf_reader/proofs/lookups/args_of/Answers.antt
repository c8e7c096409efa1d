use Rattle.std.proofs.Common.{List, ◌+◌, ◌∙◌, ap, drop}
use Rattle.std.proofs.lemmas.List.{take_rest}
use Rattle.std.proofs.lemmas.Result.{err_from_is_err_and}
use Rattle.mail_base.specs.declared.rule.Piece.{Piece}
use Rattle.cf_reader.specs.Sides.{each, pieces_of}
use Rattle.cf_reader.specs.inner.Making.{added, parts_behind}
use Rattle.cf_reader.proofs.RuleLemmas.{fails_on}
use Rattle.cf_reader.proofs.LookupLemmas.{args_go_on, args_stop, args_within}
use Rattle.cf_reader.proofs.lookups.args_of.Goals as goal

pub returns-in_err-pieces_of : goal.returns-in_err-pieces_of
returns-in_err-pieces_of c =
    let fields = c.args.fields.now in
    let place = c.arguments.place in
    let p = err_from_is_err_and c.from_residual.result c.from_residual.ensures.1 in
    rw (p.1, p.2) (fails_on _ _ _ (args_stop fields _ place c.length_before-size.result c.arguments-test.true (take_rest fields (place + 1)) c.length_before-size.ensures.length c.arguments.args _ c.arguments.invariant.1) c.in_err-pieces_of.ensures)

pub arguments-preserved : goal.arguments-preserved
arguments-preserved c =
    let fields = c.args.fields.now in
    let place = c.arguments.place in
    let size = c.length_before-size.result in (
      args_within fields _ place size c.arguments-test.true (take_rest fields (place + 1)) c.length_before-size.ensures.length c.length_before-size.ensures.within,
      ap (λ (args : List (List Piece)). added args (each pieces_of (parts_behind (drop (place + (size + 1)) fields)))) c.in_ok-push.ensures.ok
          ∙ args_go_on fields _ place size c.arguments-test.true (take_rest fields (place + 1)) c.length_before-size.ensures.length _ c.arguments.args _ c.in_ok-pieces_of.ensures c.arguments.invariant.1,
    )
