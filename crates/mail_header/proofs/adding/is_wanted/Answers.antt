use Rattle.std.proofs.Common.{◌==◌, ap, ◌∙◌}
use Rattle.std.specs.List.{list_any}
use Rattle.std.proofs.lemmas.Bool.{false≢true}
use Rattle.mail_header.proofs.MadeLemmas.{wanted_by}
use Rattle.mail_header.proofs.adding.is_wanted.Goals as goal

pub returns-else-is_empty : goal.returns-else-is_empty
returns-else-is_empty c =
    let one = c.has_one.ensures ∙ ap (λ flags. list_any (λ f. list_any (λ m. m == f) c.args.mailer.now.flags) flags) c.bytes.ensures in
    one ∙ wanted_by c.args.line.now.flags _ (λ none. false≢true (c.if-is_empty.ensures.1 none))
