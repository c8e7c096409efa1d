use Rattle.std.proofs.Common.{◌≡◌, List, Option, Some, ◌||◌, ap, ◌∙◌}
use Rattle.mail_base.specs.Classes.{is_cut_into}
use Rattle.mail_base.specs.declared.token.Token.{Token}
use Rattle.mail_base.specs.inner.Phrases.{is_among}
use Rattle.mail_base.proofs.ClassLemmas.{among_insert}
use Rattle.mail_base.proofs.class.put_phrase.Goals as goal

pub returns-in_ok-insert-in-Some-clause-indexed : goal.returns-in_ok-insert-in-Some-clause-indexed
returns-in_ok-insert-in-Some-clause-indexed c =
    let old = c.args.phrases.now.keys in
    let cut : Some c.into_vec-phrase.result.items ≡ c.args.tokens.now = cc (c.into_vec-phrase.ensures, c.in_ok-copy-in-Some.ensures, c.in-Some.is) in
    λ t. ap (λ keys. is_among keys t) c.in_ok-insert-in-Some.ensures.keys ∙ among_insert old c.into_vec-phrase.result t ∙ ap (λ (tokens : Option (List Token)). is_among old t || is_cut_into t tokens) cut
