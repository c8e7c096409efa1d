use Rattle.std.proofs.Common.{ℕ, List, subst}
use Rattle.addr_route.specs.Sets.{recipient_sets, sender_sets}
use Rattle.addr_test.specs.Answers.{RewritesUnder}
use Rattle.addr_test.proofs.RouteLemmas.{both_told}
use Rattle.addr_test.proofs.routes.try_both.Goals as goal

pub returns : goal.returns
returns c =
    let a = c.args in
    both_told a.maps.now a.config.now a.address.now a.mailer.now c.in_ok-sender.sender c.in_ok-recipient.recipient c.try_text.result
    (subst (λ (x : List ℕ). RewritesUnder a.maps.now a.config.now (sender_sets a.mailer.now) x c.in_ok-sender.sender) c.in_ok-address.ensures c.in_ok-sender.ensures)
    (subst (λ (x : List ℕ). RewritesUnder a.maps.now a.config.now (recipient_sets a.mailer.now) x c.in_ok-recipient.recipient) c.in_ok-address.ensures c.in_ok-recipient.ensures)
    c.try_text.ensures
