-- The body that was read, and the letter made of it.
use Rattle.std.proofs.Common.{◌∙◌, sym, subst, Contains}
use Rattle.spool_store.specs.Keepers.{seen}
use Rattle.queue_run.specs.Meant.{IsLetter, ground_of}
use Rattle.queue_run.proofs.HandLemmas.{body_read}
use Rattle.queue_run.proofs.handing.hand.Goals as goal

pub returns-clause-is : goal.returns-clause-is
returns-clause-is g c = λ h among is.
    let at = c.entry.ensures.is h (subst (λ q. Contains (seen q).entries h) (sym c.queue-2.ensures) among) is in
    subst (λ q. IsLetter (ground_of c.args.config.now c.args.maps.now c.args.moment) c.args.id.now q.control c.args.mailer.now c.args.host.now c.in_ok-letter.letter) at c.in_ok-letter.ensures.is

pub returns-clause-body : goal.returns-clause-body
returns-clause-body g c = λ files entries told stands s among is needs.
    let q = c.queue.ensures in
    c.in_ok-letter.ensures.body ∙ body_read c.args.table.now c.queue.result.now (g.D.Spool.seen c.args.spool.now) files entries s c.args.id.now c.in-Ok.body q told stands (c.requires.agrees c.requires.whole) c.in-Ok.ensures.bytes among is needs
