use Rattle.std.proofs.Common.{◌∙◌, sym, ap}
use Rattle.std.proofs.lemmas.Result.{on_ok_weaker}
use Rattle.mail_base.specs.Rulesets.{Ruled, with_rule}
use Rattle.cf_reader.specs.SetLines.{has_one, with_first, empty_set}
use Rattle.cf_reader.proofs.SetLemmas.{is_first, none_there, changed_at, changed_none}
use Rattle.cf_reader.proofs.set_line.add_rule.Goals as goal

pub returns-in-Some : goal.returns-in-Some
returns-in-Some c =
    let names = c.args.names.now in
    let change : Ruled → Ruled = λ s. with_rule s c.args.rule in
    on_ok_weaker c.push_rule.result
    (λ made.
    made empty_set
    ∙ changed_at (has_one names) change c.begin.new.book c.in-Some.place empty_set (is_first (has_one names) c.begin.new.book c.in-Some.place (sym c.first_place.ensures ∙ c.in-Some.is))
    ∙ ap (with_first (has_one names) change) c.in_ok-begin.ensures)
    c.push_rule.ensures.ok

pub returns-in-None : goal.returns-in-None
returns-in-None c =
    let names = c.args.names.now in
    let change : Ruled → Ruled = λ s. with_rule s c.args.rule in
    sym (changed_none (has_one names) change c.begin.new.book (none_there (has_one names) c.begin.new.book (sym c.first_place.ensures ∙ c.in-None.is)))
    ∙ ap (with_first (has_one names) change) c.in_ok-begin.ensures
