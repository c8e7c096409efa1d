-- The peers of the next batch.
use Rattle.std.proofs.Common.{◌∙◌, ap, subst, sym, Contains}
use Rattle.spool_store.specs.Keepers.{seen}
use Rattle.queue_run.specs.Kinds.{host_macros}
use Rattle.queue_run.specs.Meant.{host_of}
use Rattle.queue_run.specs.Peers.{peers_of}
use Rattle.queue_run.proofs.AttemptLemmas.{of_first}
use Rattle.queue_run.proofs.runner.Runner.peers.Goals as goal

pub returns : goal.returns
returns c = λ h among is.
    let at = c.entry.ensures.is h (subst (λ q. Contains (seen q).entries h) (sym c.queue.ensures) among) is in
    of_first c.args.self.now c.peers_of.result (peers_of c.args.maps.now c.args.mailer.now c.in_ok-macros.macros)
    (λ batch. peers_of c.args.maps.now c.args.mailer.now (host_macros c.args.config.now c.args.self.now.id h.entry.control (host_of batch.resolved)))
    c.peers_of.ensures
    (λ batch first. ap (peers_of c.args.maps.now c.args.mailer.now) (c.in_ok-macros.ensures
    ∙ ap (λ q. host_macros c.args.config.now c.args.self.now.id q.control c.in_ok-host.host) at
    ∙ ap (host_macros c.args.config.now c.args.self.now.id h.entry.control) (c.in_ok-host.ensures ∙ ap (λ b. host_of b.resolved) (c.next.ensures batch first))))
