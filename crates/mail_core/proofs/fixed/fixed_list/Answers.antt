-- What is picked of the sorted entries is the list of each table that the store holds.
use Rattle.std.proofs.Common.{Bor, ◌≡◌, [], List, map, sym, subst}
use Rattle.std.specs.Prelude.{IfOk}
use Rattle.std.specs.List.{AllZip}
use Rattle.std.specs.List.Sorted.{IsStrictlySortedBy}
use Rattle.std.specs.Option.{option_copied}
use Rattle.std.specs.Ordering.{nat_cmp}
use Rattle.spool_store.specs.Stores.{IsHeld}
use Rattle.spool_store.specs.declared.held.Held.{Held}
use Rattle.mail_core.specs.inner.Fixing.{picked}
use Rattle.mail_core.proofs.FixingLemmas.{is_fixed}
use Rattle.mail_core.proofs.SortingLemmas.{at_now}
use Rattle.mail_core.proofs.fixed.fixed_list.Goals as goal

pub returns : goal.returns
returns c = λ site entries same once holds.
    let here = sym c.entries.ensures.is in
    is_fixed site c.args.config.now (option_copied c.args.group) c.args.moment entries c.entries.result.now (map at_now c.in_ok-due.due.items) c.picked.result same once c.entries_are_ordered.ensures.total
    (subst (λ (hs : List Held). IsStrictlySortedBy nat_cmp (map (λ (h : Held). h.entry.id) hs)) here c.entries.ensures.ascending)
    (subst (λ (hs : List Held). AllZip IsHeld hs entries.entries) here holds.entries)
    c.in_ok-due.ensures.same c.in_ok-due.ensures.order
    (subst (λ (xs : List (Bor Held)). IfOk c.picked.result (λ list. list ≡ picked c.args.config.now.groups [] (map at_now xs))) c.as_slice.ensures.value c.picked.ensures)
