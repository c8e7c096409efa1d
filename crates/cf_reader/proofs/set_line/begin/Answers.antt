use Rattle.std.proofs.Common.{◌≡◌, ◌∙◌, ◌∷◌, ◌++◌, [], List, length, sym, ap}
use Rattle.std.proofs.lemmas.Result.{on_ok_weaker}
use Rattle.mail_base.specs.Rulesets.{Ruled}
use Rattle.cf_reader.specs.SetLines.{empty_set}
use Rattle.cf_reader.proofs.SetLemmas.{begun_at, begun_new}
use Rattle.cf_reader.proofs.set_line.begin.Goals as goal

pub returns-in-Some : goal.returns-in-Some
returns-in-Some c =
    on_ok_weaker c.name_set.result (λ made. begun_at c.args.names.now c.args.book.now c.name_set.new.book c.in-Some.place (sym c.first_place.ensures ∙ c.in-Some.is) made) c.name_set.ensures

pub returns-in_ok-push-in-None : goal.returns-in_ok-push-in-None
returns-in_ok-push-in-None c =
    let made_set : c.of.result ≡ empty_set = c.of.ensures ∙ (λ i. record { names = c.new.ensures i; rules = c.new-in-None.ensures i }) in
    on_ok_weaker c.name_set-in-None.result
    (λ made. begun_new c.args.names.now c.args.book.now c.push.new.self c.name_set-in-None.new.book _ (sym c.first_place.ensures ∙ c.in-None.is) (c.in_ok-push-in-None.ensures.ok ∙ ap (λ (s : Ruled). c.args.book.now ++ s ∷ []) made_set) (ap (λ (sets : List Ruled). length sets) c.sets-place.ensures) made)
    c.name_set-in-None.ensures
