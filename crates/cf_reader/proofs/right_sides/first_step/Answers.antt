use Rattle.std.proofs.Common.{◌≡◌, Some, None, true, refl, rules, slice_get}
use Rattle.std.proofs.lemmas.Option.{slice_get_read, slice_get_past}
use Rattle.std.proofs.lemmas.Result.{err_from_is_err_and}
use Rattle.cf_reader.specs.Sides.{is_opening}
use Rattle.cf_reader.proofs.RuleLemmas.{first_fails, first_bracket, none_bracket, none_unclosed}
use Rattle.cf_reader.proofs.right_sides.first_step.Goals as goal

pub returns-in_err-bracketed-in-Some : goal.returns-in_err-bracketed-in-Some
returns-in_err-bracketed-in-Some c =
    let opens : is_opening c.args.first.now ≡ true = search rules in
    let at : slice_get c.args.after.now c.length_to_bracket-size.result ≡ Some c.in-Some.closing.now = slice_get_read c.args.after.now _ c.length_to_bracket-size.result c.in-Some.closing.now refl c.in-Some.ensures.lookup.3.0 c.in-Some.ensures.lookup.1 in
    let p = err_from_is_err_and c.from_residual-in_err-bracketed-in-Some.result c.from_residual-in_err-bracketed-in-Some.ensures.1 in
    rw (p.1, p.2)
    (first_fails _ _ _ (none_bracket c.args.first.now c.args.after.now c.length_to_bracket-size.result c.in-Some.closing.now opens c.length_to_bracket-size.ensures.length at) c.in_err-bracketed-in-Some.ensures)

pub returns-in_ok-bracketed-in-Some : goal.returns-in_ok-bracketed-in-Some
returns-in_ok-bracketed-in-Some c =
    let opens : is_opening c.args.first.now ≡ true = search rules in
    let at : slice_get c.args.after.now c.length_to_bracket-size.result ≡ Some c.in-Some.closing.now = slice_get_read c.args.after.now _ c.length_to_bracket-size.result c.in-Some.closing.now refl c.in-Some.ensures.lookup.3.0 c.in-Some.ensures.lookup.1 in
    first_bracket c.args.first.now c.args.after.now c.length_to_bracket-size.result c.in-Some.closing.now opens c.length_to_bracket-size.ensures.length at _ c.in_ok-bracketed-in-Some.ensures

pub returns-in-None : goal.returns-in-None
returns-in-None c =
    let opens : is_opening c.args.first.now ≡ true = search rules in
    let past : slice_get c.args.after.now c.length_to_bracket-size.result ≡ None = slice_get_past c.args.after.now c.length_to_bracket-size.result c.in-None.ensures.lookup.3 in
    (refl, none_unclosed c.args.first.now c.args.after.now c.length_to_bracket-size.result opens c.length_to_bracket-size.ensures.length past)
