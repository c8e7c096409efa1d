-- The body of an entry, as it is read.
use Rattle.std.proofs.Common.{◌≡◌, ℕ, List, Option, Some, None, sym, ◌∙◌, ap, get_or, Contains}
use Rattle.std.specs.Prelude.{IfSome}
use Rattle.std.proofs.lemmas.List.Elements.{All-contains}
use Rattle.mail_base.specs.Names.{name_of}
use Rattle.mail_base.specs.States.{NeedsBody}
use Rattle.mail_base.specs.declared.id.Kind.TheVariants.{Df}
use Rattle.spool_disk.specs.Disk.{Place, FileMap, bytes_at}
use Rattle.spool_store.specs.Entries.{Stored, Table}
use Rattle.spool_store.specs.Keepers.{or_nothing}
use Rattle.spool_store.specs.Queue.{IsLive}
use Rattle.spool_store.specs.Settled.{spot_of, HasFiles, StandsFor}
use Rattle.spool_store.specs.Stores.{StoreSeen, HasId, spot_at, Agrees}
use Rattle.spool_store.specs.inner.Shelves.{IsAscending, IsPlaceOf}
use Rattle.spool_store.specs.declared.held.Held.{Held}
use Rattle.spool_store.proofs.Shelving.{held_is}
use Rattle.spool_store.proofs.Standing.{one_live}

-- what is read is what is there
abbrev pub IsRead : Option FileMap → List Held → ℕ → List ℕ → Type 0
IsRead told items id text = IfSome told (λ files. (h : Held) → Contains items h → h.entry.id ≡ id → text ≡ or_nothing (bytes_at files (h.entry.dir, name_of Df id)))

-- what was read under the body's name is the body of the entry
pub body_read : (told : Option FileMap) (items shown : List Held) (id place : ℕ) (d : Held) (name text : List ℕ) (bytes : Option (List ℕ)) → shown ≡ items → IsAscending items → IsPlaceOf items id place → name ≡ name_of Df id → text ≡ or_nothing bytes → IfSome told (λ files. bytes ≡ bytes_at files ((get_or shown place d).entry.dir, name)) → IsRead told items id text
body_read None items shown id place d name text bytes same up at named says read = tt
body_read (Some f) items shown id place d name text bytes same up at named says read = λ h k has.
    let one = held_is items shown id place d h same up at k has in
    let lies : ◌≡◌ {A = Place} ((get_or shown place d).entry.dir, name) (h.entry.dir, name_of Df id) = λ i. ((one i).entry.dir, named i) in
    says ∙ ap or_nothing (read ∙ ap (bytes_at f) lies)

-- the bytes that were read are those of the table's entry, where it needs a body
pub body_bytes : (told : Option FileMap) (store : StoreSeen) (id : ℕ) (text : List ℕ) → HasId store.entries id → IsRead told store.entries id text → IfSome told (λ files. (table : Table) (s : Stored) → StandsFor store.dirs table files → Agrees store files → Contains table.entries s → s.id ≡ id → NeedsBody s.control → text ≡ s.body)
body_bytes None store id text has read = tt
body_bytes (Some f) store id text has read = λ table s stands a k is needs.
    let h = has.held in
    let live : IsLive store.dirs f (spot_at h) h.entry.control = All-contains (λ (q : Held). IsLive store.dirs f (spot_at q) q.entry.control) store.entries h a.each has.among in
    let its : HasFiles store.dirs f s = All-contains (HasFiles store.dirs f) table.entries s stands.each k in
    let one : spot_of its.kind s ≡ spot_at h = (one_live store.dirs f (spot_at h) (spot_of its.kind s) h.entry.control s.control live its.live (is ∙ sym has.is)).0 in
    let lies : ◌≡◌ {A = Place} (h.entry.dir, name_of Df id) (s.dir, name_of Df s.id) = λ i. ((sym one i).dir, name_of Df (sym is i)) in
    read h has.among has.is ∙ ap or_nothing (ap (bytes_at f) lies ∙ its.body needs)
