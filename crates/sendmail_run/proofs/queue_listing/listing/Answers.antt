-- What is shown is the listing of each table that the files stand for.
use Rattle.std.proofs.Common.{Bor, All, Contains, ◌∙◌, List, map, sym, ap, subst, arith}
use Rattle.std.specs.List.{AllZip}
use Rattle.std.proofs.lemmas.List.{length-map}
use Rattle.mail_base.specs.declared.control.Stray.{Stray}
use Rattle.spool_disk.specs.Listings.{AreSameNames}
use Rattle.spool_store.specs.Keepers.{seen as queue_seen}
use Rattle.spool_store.specs.Stores.{IsHeld}
use Rattle.spool_store.specs.declared.held.Held.{Held}
use Rattle.spool_store.specs.declared.queue.Queue.{Queue}
use Rattle.queue_table.specs.Calls.{store}
use Rattle.sendmail_run.specs.Listings.{path_of}
use Rattle.sendmail_run.proofs.ListingLemmas.{all_among, at_now, is_listing, text_of}
use Rattle.sendmail_run.proofs.queue_listing.listing.Goals as goal

pub push_entries-requires-clause-among : goal.push_entries-requires-clause-among
push_entries-requires-clause-among g c =
    let held = c.entries.ensures.is ∙ ap (λ (q : Queue). (queue_seen q).entries) (sym c.queue-2.ensures) in
    subst (λ (xs : List (Bor Held)). All (λ (b : Bor Held). Contains (queue_seen c.queue-2.result.now).entries b.now) xs) (sym c.as_slice.ensures.value)
    (subst (λ (hs : List Held). All (λ (b : Bor Held). Contains hs b.now) c.in_ok-shown.shown.items) held (all_among c.entries.result.now c.in_ok-shown.shown.items c.in_ok-shown.ensures.same))

pub returns-clause-is : goal.returns-clause-is
returns-clause-is g c = λ files entries told stands holds.
    let kept = store c.args.table.now in
    let strays = c.strange.ensures ∙ ap (λ (q : Queue). (queue_seen q).strange) c.queue.ensures in
    is_listing kept.dirs files entries c.entries.result.now (map at_now c.in_ok-shown.shown.items) kept.strange c.in_ok-paths.paths c.len.result c.push_total.new.text stands
    (subst (λ (hs : List Held). AllZip IsHeld hs entries.entries) (sym c.entries.ensures.is) holds.entries)
    c.in_ok-shown.ensures.same c.in_ok-shown.ensures.order c.in_ok-paths.ensures.ascending
    (subst (λ (xs : List Stray). AreSameNames (map path_of xs) c.in_ok-paths.paths) strays c.in_ok-paths.ensures.same)
    (omega (arith, c.len.ensures, length-map c.in_ok-shown.shown.items at_now, c.in_ok-shown.shown.ok))
    (text_of files _ _ _ c.push_total.new.text c.as_slice.result.now c.in_ok-shown.shown.items c.items.result.now c.in_ok-paths.paths c.len.result c.new-text.ensures c.as_slice.ensures.value c.items.ensures (c.in_ok-push_entries.ensures.lines files told) c.in_ok-push_paths.ensures c.in_ok-push_total.ensures)
