use Rattle.std.proofs.Common.{not, ◌∙◌, arith}
use Rattle.std.proofs.lemmas.List.Sums.{prefix_len-le-length}
use Rattle.mail_base.specs.Texts.{is_blank}
use Rattle.mail_base.proofs.SearchLemmas.{front_length, blank_found}
use Rattle.smtp_lines.proofs.path.word_end.Goals as goal

pub returns-clause-end : goal.returns-clause-end
returns-clause-end c = c.unwrap_or.ensures ∙ front_length _ (λ b. not (is_blank b)) blank_found c.args.text.now _ c.find_byteset.ensures

pub returns-clause-within : goal.returns-clause-within
returns-clause-within c =
    omega (arith, c.unwrap_or.ensures ∙ front_length _ (λ b. not (is_blank b)) blank_found c.args.text.now _ c.find_byteset.ensures, prefix_len-le-length (λ b. not (is_blank b)) c.args.text.now)
