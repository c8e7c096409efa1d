use Rattle.std.proofs.Common.{map, [], ◌∷◌, ◌∙◌, refl, ap, sym}
use Rattle.std.proofs.lemmas.Result.{err_from_is_err_and}
use Rattle.mail_base.specs.declared.rule.Query.{Query}
use Rattle.mail_base.specs.declared.rule.Step.TheVariants.{Lookup}
use Rattle.ruleset_run.specs.Filling.{OneToken, OneCall, piece_tokens}
use Rattle.ruleset_run.specs.inner.Values.{Known, lates}
use Rattle.ruleset_run.proofs.LookLemmas.{step_plain, step_call, step_looked, step_look_fails}
use Rattle.ruleset_run.proofs.filler.fill_step.Goals as goal

pub returns-in_ok-add_piece-in-Plain-clause-fills : goal.returns-in_ok-add_piece-in-Plain-clause-fills
returns-in_ok-add_piece-in-Plain-clause-fills c = λ found is.
    let v = c.args.values.now in (
      map OneToken (piece_tokens (lates v) found c.in-Plain.piece),
      c.in_ok-add_piece-in-Plain.ensures.gain found is,
      step_plain c.args.maps.now v.operators (lates v) found c.args.step.now v.after _ c.in-Plain.piece c.in-Plain.is (ap (λ (k : Known). k.after) c.in_ok-add_piece-in-Plain.ensures.same),
    )

pub returns-in_ok-push_call-in-Call-clause-fills : goal.returns-in_ok-push_call-in-Call-clause-fills
returns-in_ok-push_call-in-Call-clause-fills c = λ found is.
    let v = c.args.values.now in
    (OneCall ∷ [], c.in_ok-push_call-in-Call.ensures, step_call c.args.maps.now v.operators (lates v) found c.args.step.now v.after v.after c.in-Call.is refl)

pub returns-in_ok-push_tokens-in-Lookup-clause-fills : goal.returns-in_ok-push_tokens-in-Lookup-clause-fills
returns-in_ok-push_tokens-in-Lookup-clause-fills c = λ found is.
    let v = c.args.values.now in
    let l = c.in-Lookup in (
      map OneToken c.in_ok-given-in-Lookup.given,
      rw c.items.ensures at c.in_ok-push_tokens-in-Lookup.ensures,
      step_looked c.args.maps.now v.operators (lates v) found c.args.step.now v.after _ c.query.result.now (l.is ∙ ap (λ (query : Query). Lookup query) (sym c.query.ensures)) c.in_ok-given-in-Lookup.given (c.in_ok-given-in-Lookup.ensures.looks found is),
    )

pub returns-in_err-given-in-Lookup-clause-fills : goal.returns-in_err-given-in-Lookup-clause-fills
returns-in_err-given-in-Lookup-clause-fills c = λ found is.
    let v = c.args.values.now in
    let l = c.in-Lookup in
    let p = err_from_is_err_and c.from_residual-in_err-given-in-Lookup.result c.from_residual-in_err-given-in-Lookup.ensures.1 in
    rw (p.1, p.2) (step_look_fails c.args.maps.now v.operators (lates v) found c.args.step.now v.after v.after c.query.result.now (l.is ∙ ap (λ (query : Query). Lookup query) (sym c.query.ensures)) _ (c.in_err-given-in-Lookup.ensures.looks found is))
