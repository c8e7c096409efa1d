use Rattle.std.proofs.Common.{◌+◌, ◌∷◌, ◌++◌, [], ◌∙◌, List, ℕ, sym, ap, take}
use Rattle.std.proofs.lemmas.List.{take_rest}
use Rattle.sendmail_run.proofs.EndedLemmas.{none_before, none_at_all, cut_at}
use Rattle.sendmail_run.proofs.address_test.split_end.Goals as goal

pub returns-in-Some : goal.returns-in-Some
returns-in-Some c =
    let text = c.args.text.now in
    let end = c.in-Some.end in
    (none_before text end c.in-Some.ensures, cut_at text end c.in-Some.ensures ∙ ap (λ (rest : List ℕ). (take end text ++ 10 ∷ []) ++ rest) (sym (take_rest text (end + 1))))

pub returns-in-None : goal.returns-in-None
returns-in-None c = none_at_all c.args.text.now c.in-None.ensures
