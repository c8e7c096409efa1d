-- The body that is read for an entry.
use Rattle.std.proofs.Common.{◌≡◌, ℕ, List, Some, sym, subst, Contains}
use Rattle.std.specs.Prelude.{IfSome}
use Rattle.mail_base.specs.States.{NeedsBody}
use Rattle.spool_disk.specs.Disk.{FileMap}
use Rattle.spool_disk.specs.Spooled.{Spooled}
use Rattle.spool_store.specs.Entries.{Stored, Table}
use Rattle.spool_store.specs.Keepers.{seen}
use Rattle.spool_store.specs.Settled.{StandsFor}
use Rattle.spool_store.specs.Stores.{Agrees}
use Rattle.spool_store.specs.declared.queue.Queue.{Queue}
use Rattle.queue_table.specs.Calls.{store}
use Rattle.queue_table.specs.declared.table.Table.{Table as Kept}

-- it is that of the entry in the table for which the files stood
pub body_read : (kept : Kept) (queue : Queue) (s : Spooled) (files : FileMap) (table : Table) (e : Stored) (id : ℕ) (body : List ℕ) → queue ≡ kept.queue → s.told ≡ Some files
    → StandsFor (store kept).dirs table files → IfSome s.told (Agrees (store kept))
    → IfSome s.told (λ files. (table : Table) (e : Stored) → StandsFor (seen queue).dirs table files → Agrees (seen queue) files → Contains table.entries e → e.id ≡ id → NeedsBody e.control → body ≡ e.body)
    → Contains table.entries e → e.id ≡ id → NeedsBody e.control → body ≡ e.body
body_read kept queue s files table e id body same told stands agrees read among is needs =
    subst (λ q. IfSome q (λ files. (table : Table) (e : Stored) → StandsFor (seen queue).dirs table files → Agrees (seen queue) files → Contains table.entries e → e.id ≡ id → NeedsBody e.control → body ≡ e.body)) told read table e
    (subst (λ q. StandsFor (seen q).dirs table files) (sym same) stands)
    (subst (λ q. Agrees (seen q) files) (sym same) (subst (λ q. IfSome q (Agrees (store kept))) told agrees)) among is needs
