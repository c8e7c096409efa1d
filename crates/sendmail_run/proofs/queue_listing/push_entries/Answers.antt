-- One entry after another.
use Rattle.std.proofs.Common.{◌≡◌, ◌∙◌, ◌++◌, ap, Err, arith}
use Rattle.std.proofs.lemmas.Result.{err_from_is_err_and}
use Rattle.mail_base.specs.declared.fault.StoreFault.{StoreFault}
use Rattle.spool_disk.specs.Disk.{FileMap}
use Rattle.spool_store.specs.Keepers.{seen as queue_seen}
use Rattle.spool_store.proofs.MovesLemmas.{at_told}
use Rattle.spool_store.proofs.OpenLemmas.{reads_told}
use Rattle.sendmail_run.specs.inner.Listing.{held_lines}
use Rattle.sendmail_run.proofs.ListingLemmas.{among_at, lines_more}
use Rattle.sendmail_run.proofs.LooksLemmas.{looks_then, looks_err}
use Rattle.sendmail_run.proofs.queue_listing.push_entries.Goals as goal

pub push_entry-requires-clause-among : goal.push_entry-requires-clause-among
push_entry-requires-clause-among g c = among_at (queue_seen c.args.queue.now).entries c.args.shown.now c.loop-held.held-index c.held-item.result c.requires.among (omega arith) c.held-item.is

pub loop-held-preserved : goal.loop-held-preserved
loop-held-preserved g c =
    let old = g.D.Spool.seen c.args.spool.now in
    let mid = g.D.Spool.seen c.loop-held.spool in
    let new = g.D.Spool.seen c.push_entry.new.spool in
    let inv = c.loop-held.invariant in
    let call = c.in_ok-push_entry.ensures in
    record {
      lines = λ files e. lines_more files c.args.shown.now c.loop-held.held-index c.held-item.result c.args.text.now c.loop-held.text c.push_entry.new.text (omega arith) c.held-item.is (inv.lines files e)
          (at_told mid.told (λ (f : FileMap). c.push_entry.new.text ≡ c.loop-held.text ++ held_lines f c.held-item.result.now) call.lines files (reads_told old mid inv.looks.reads ∙ e));
      looks = looks_then old mid new tt _ inv.looks call.looks;
    }

pub returns-in_err-push_entry-clause-looks : goal.returns-in_err-push_entry-clause-looks
returns-in_err-push_entry-clause-looks g c =
    let p = err_from_is_err_and c.from_residual.result c.from_residual.ensures.1 in
    looks_then _ _ _ tt _ c.loop-held.invariant.looks (looks_err _ _ c.in_err-push_entry.field-0.0 _ (p.1 ∙ ap (λ (e : StoreFault). Err e) p.2) c.in_err-push_entry.ensures.looks)
