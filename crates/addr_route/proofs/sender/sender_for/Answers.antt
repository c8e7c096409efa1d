use Rattle.std.proofs.Common.{◌≡◌}
use Rattle.addr_route.specs.Senders.{Sends}
use Rattle.ruleset_run.proofs.RewriteLemmas.{if_ok}
use Rattle.addr_route.proofs.sender.sender_for.Goals as goal

pub returns-clause-only : goal.returns-clause-only
returns-clause-only c = λ text r.
    let a = c.args in
    if_ok (Sends a.config.now a.maps.now a.macros.now a.mailer.now a.sender.now) (λ given. given ≡ text) (λ given g. c.one_sender.ensures a.config.now a.maps.now a.macros.now a.mailer.now a.sender.now given text g r) c.sent.result c.sent.ensures
