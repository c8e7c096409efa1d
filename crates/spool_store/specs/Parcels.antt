-- What is asked of drafts of new entries, and of an entry's new control above them, and what a
-- parcel of them is (own).
use Rattle.std.specs.Prelude.{◌≡◌, ◌<◌, ◌≤◌, ℕ, ◌+◌, ◌-◌, ◌^◌, List, [], ◌∷◌, ◌++◌, map, length, None, Some, All, Contains}
use Rattle.mail_base.specs.Limits.{IsId}
use Rattle.mail_base.specs.declared.control.Draft.{Draft}
use Rattle.spool_store.specs.Parts.{entry_of}
use Rattle.spool_store.specs.Keepers.{raised}
use Rattle.spool_store.specs.Queue.{IsOpen}
use Rattle.spool_store.specs.Stores.{StoreSeen, entered, recontrolled}
use Rattle.spool_store.specs.Writes.{IsDraftable, AreDraftable, AreHeirs, children_of, stored}
use Rattle.spool_store.specs.declared.held.Held.{Held}
use Rattle.spool_store.specs.declared.parcel.Parcel.{Parcel}

-- drafts of a new entry and of its children
pub record CanPrepare (dirs : List (List ℕ)) (children : List Draft) (parent : Draft) : Type 0 where
  pub each : All (IsDraftable dirs) children
  pub head : IsDraftable dirs parent
  pub alone : parent.control.parent ≡ None

-- a parcel writes these drafts under the first free ids of a store that has room for them
pub record IsParcel (store : StoreSeen) (children : List Draft) (parent : Draft) (body : List ℕ)
    (parcel : Parcel) : Type 0 where
  pub able : AreDraftable store.dirs store.next children parent
  pub alone : parent.control.parent ≡ None
  pub body_is : parcel.body ≡ body
  pub parts : (b : List ℕ)
      → map (entry_of b) parcel.children ≡ children_of store.next children parent b None
  pub head : (b : List ℕ) → entry_of b parcel.parent ≡ stored store.next b parent
  pub room : length parcel.children + 1 ≤ store.room

-- a parcel was made of some drafts, and nothing was committed since
pub record IsReady (store : StoreSeen) (parcel : Parcel) : Type 0 where
  pub children : List Draft
  pub parent : Draft
  pub body : List ℕ
  pub is : IsParcel store children parent body parcel

-- the store after a commit: the parent under the first free id, and its children under the next
-- ones
abbrev pub with_commit : StoreSeen → List Draft → Draft → StoreSeen
with_commit store children parent =
    record store {
      entries = store.entries
          ++ map entered
          (stored store.next [] parent ∷ children_of store.next children parent [] None);
      next = store.next + 1 + length children;
      room = store.room - (length children + 1);
    }

-- a draft may take an entry's place: it is in its directory, names its parent, and is raised by
-- one; a row of the entry isn't done
pub record MayFollow (h : Held) (d : Draft) : Type 0 where
  pub dir : d.dir ≡ h.entry.dir
  pub parent : d.control.parent ≡ h.entry.control.parent
  pub revision : d.control.revision ≡ raised h.entry.control.revision
  pub open_row : IsOpen h.entry.control

-- drafts of an entry's new control and of its new children
pub record CanPrepareUnder (dirs : List (List ℕ)) (entries : List Held) (children : List Draft)
    (parent : Draft) : Type 0 where
  pub each : All (IsDraftable dirs) children
  pub head : IsDraftable dirs parent
  pub held : Held
  pub among : Contains entries held
  pub named : parent.id ≡ Some held.entry.id
  pub follows : MayFollow held parent

-- a parcel writes these drafts: the parent's over that entry, and the children's under the first
-- free ids of a store that has room for them
pub record IsParcelUnder (store : StoreSeen) (id : ℕ) (children : List Draft) (parent : Draft)
    (body : List ℕ) (parcel : Parcel) : Type 0 where
  pub able : AreHeirs store.dirs store.next children parent
  pub held : Held
  pub among : Contains store.entries held
  pub is : held.entry.id ≡ id
  pub follows : MayFollow held parent
  pub within : IsId id
  pub below : id < store.next
  pub body_is : parcel.body ≡ body
  pub parts : (b : List ℕ)
      → map (entry_of b) parcel.children ≡ children_of store.next children parent b (Some id)
  pub head : (b : List ℕ) → entry_of b parcel.parent ≡ stored id b parent
  pub room : length parcel.children ≤ store.room

-- a parcel was made of such drafts, and nothing was committed, replaced or finished since
pub record IsReadyUnder (store : StoreSeen) (parcel : Parcel) : Type 0 where
  pub id : ℕ
  pub children : List Draft
  pub parent : Draft
  pub body : List ℕ
  pub is : IsParcelUnder store id children parent body parcel

-- the entry of that id has not the last revision
abbrev pub IsBelowLast : List Held → ℕ → Type 0
IsBelowLast entries id =
    (h : Held) → Contains entries h → h.entry.id ≡ id → h.entry.control.revision < 2 ^ 64 - 1

-- the store after it: the entry with its new control, and the children under the first free ids
abbrev pub with_children : StoreSeen → ℕ → List Draft → Draft → StoreSeen
with_children store id children parent =
    record store {
      entries = map (recontrolled id parent.control) store.entries
          ++ map entered (children_of store.next children parent [] (Some id));
      next = store.next + length children;
      room = store.room - length children;
    }
