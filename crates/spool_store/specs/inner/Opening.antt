-- What a store is once its spool was opened (own).
use Rattle.std.specs.Prelude.{ℕ, List, map, false}
use Rattle.mail_base.specs.States.{is_finished}
use Rattle.mail_base.specs.declared.control.Entry.{Entry}
use Rattle.spool_store.specs.Stores.{StoreSeen}
use Rattle.spool_store.specs.declared.held.Held.{Held}
use Rattle.spool_store.specs.declared.opened.Opened.{Opened}

-- an entry: an opening finishes it where no row is open
abbrev pub taken_over : Entry → Held
taken_over e = record { entry = e; finished = is_finished e.control }

abbrev pub opened_store : List (List ℕ) → Opened → StoreSeen
opened_store dirs o =
    record {
      dirs = dirs;
      entries = map taken_over o.entries;
      strange = o.strange;
      next = o.next;
      broken = false;
      room = 0;
    }
