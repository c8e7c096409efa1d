use Rattle.std.proofs.Common.{List, Some, take, refl, sym, ◌∙◌, ap}
use Rattle.std.proofs.lemmas.List.{take_rest}
use Rattle.std.proofs.lemmas.Result.{err_from_is_err_and}
use Rattle.mail_base.specs.declared.rule.Query.{Query}
use Rattle.mail_base.specs.declared.rule.Step.TheVariants.{Lookup}
use Rattle.addr_tokens.specs.declared.lexeme.Lexeme.{Lexeme}
use Rattle.cf_reader.specs.Sides.{each, pieces_of}
use Rattle.cf_reader.specs.inner.Making.{parts_behind, fallback_from}
use Rattle.cf_reader.proofs.RuleLemmas.{fails_on}
use Rattle.cf_reader.proofs.LookupLemmas.{lookup_made, none_by_key, none_by_args, none_by_fallback}
use Rattle.cf_reader.proofs.lookups.lookup_of.Goals as goal

pub returns-in_err-args : goal.returns-in_err-args
returns-in_err-args c =
    let fields = c.args.fields.now in
    let front = take c.length_before-end.result fields in
    let p = err_from_is_err_and c.from_residual.result c.from_residual.ensures.1 in
    rw (p.1, p.2)
    (fails_on _ _ _
    (λ none. none_by_args c.args.name.now fields front _ _ c.length_before-end.ensures.length refl c.length_before-size.ensures.length
    (ap (λ (zs : List Lexeme). each pieces_of (parts_behind zs)) (sym (take_rest front c.length_before-size.result)) ∙ none))
    c.in_err-args.ensures)

pub returns-in_err-fallback : goal.returns-in_err-fallback
returns-in_err-fallback c =
    let fields = c.args.fields.now in
    let front = take c.length_before-end.result fields in
    let p = err_from_is_err_and c.from_residual-in_err-fallback.result c.from_residual-in_err-fallback.ensures.1 in
    rw (p.1, p.2)
    (fails_on _ _ _
    (λ none. none_by_fallback c.args.name.now fields front _ _ c.length_before-end.ensures.length refl c.length_before-size.ensures.length (ap fallback_from (sym (take_rest fields c.length_before-end.result)) ∙ none))
    c.in_err-fallback.ensures)

pub returns-in_err-key : goal.returns-in_err-key
returns-in_err-key c =
    let fields = c.args.fields.now in
    let front = take c.length_before-end.result fields in
    let p = err_from_is_err_and c.from_residual-in_err-key.result c.from_residual-in_err-key.ensures.1 in
    rw (p.1, p.2) (fails_on _ _ _ (none_by_key c.args.name.now fields front _ _ c.length_before-end.ensures.length refl c.length_before-size.ensures.length) c.in_err-key.ensures)

pub returns : goal.returns
returns c =
    let fields = c.args.fields.now in
    let front = take c.length_before-end.result fields in
    lookup_made c.args.name.now fields front _ _ c.length_before-end.ensures.length refl c.length_before-size.ensures.length c.in_ok-key.key c.in_ok-args.args c.in_ok-fallback.fallback c.in_ok-key.ensures
    (ap (λ (zs : List Lexeme). each pieces_of (parts_behind zs)) (sym (take_rest front c.length_before-size.result)) ∙ c.in_ok-args.ensures)
    (ap fallback_from (sym (take_rest fields c.length_before-end.result)) ∙ c.in_ok-fallback.ensures)
    ∙ ap (λ (name : _). Some (Lookup (record { name = name; key = c.in_ok-key.key; args = c.in_ok-args.args; fallback = c.in_ok-fallback.fallback }))) (sym c.in_ok-of.ensures)
    ∙ ap (λ (query : Query). Some (Lookup query)) (sym c.in_ok-of-2.ensures)
