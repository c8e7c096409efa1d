use Rattle.std.proofs.Common.{not, take, sym, ap, ◌∙◌, arith}
use Rattle.std.proofs.lemmas.List.{take_all}
use Rattle.mail_base.specs.Texts.{is_blank}
use Rattle.mail_base.proofs.SearchLemmas.{front_some, front_none, blank_found}
use Rattle.smtp_lines.proofs.line.verb_of.Goals as goal

pub returns-in-Some : goal.returns-in-Some
returns-in-Some c =
    let command = c.args.command.now in
    ap (λ n. take n command) (sym (front_some _ (λ b. not (is_blank b)) blank_found command c.in-Some.end c.in-Some.ensures))

pub returns-in-None : goal.returns-in-None
returns-in-None c =
    let command = c.args.command.now in
    sym (ap (λ n. take n command) (front_none _ (λ b. not (is_blank b)) blank_found command c.in-None.ensures) ∙ take_all _ command (omega arith))
