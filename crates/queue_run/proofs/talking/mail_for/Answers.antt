-- The entry that was found is the one of that id.
use Rattle.std.proofs.Common.{sym, ap, subst, Contains}
use Rattle.mail_base.specs.declared.control.Entry.{Entry}
use Rattle.spool_store.specs.Keepers.{seen}
use Rattle.queue_run.proofs.talking.mail_for.Goals as goal

pub returns : goal.returns
returns c = record {
  is = λ h among own.
      let at = c.entry.ensures.is h (subst (λ q. Contains (seen q).entries h) (sym c.queue.ensures) among) own in
      c.into_mail.ensures c.args.config.now h.entry.control c.in_ok-host.ensures (ap (λ (q : Entry). q.control.eight) at);
}
