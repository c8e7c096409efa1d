-- The entries of a commit while they are written and taken in (own).
use Rattle.std.specs.Prelude.{◌≡◌, ◌⊎◌, ℕ, ◌+◌, ◌<◌, List, [], ◌∷◌, ◌++◌, None, Some, Contains, length, get_or, false}
use Rattle.mail_base.specs.Limits.{IsId}
use Rattle.mail_base.specs.Names.{name_of}
use Rattle.mail_base.specs.declared.id.Kind.TheVariants.{Tf}
use Rattle.spool_disk.specs.Disk.{FileMap, bytes_at}
use Rattle.mail_base.specs.declared.control.Draft.{Draft}
use Rattle.spool_store.specs.Changes.{IsNew, draft_place}
use Rattle.spool_store.specs.Entries.{Stored}
use Rattle.spool_store.specs.inner.Parts.{IsUnderWay}
use Rattle.spool_store.specs.Writes.{AreRaised, AreWritten, children_of, stored}
use Rattle.spool_store.specs.declared.held.Held.{Held}
use Rattle.spool_store.specs.declared.part.Part.{Part}

-- the ids of these parts are in a row
abbrev pub IsRow : ℕ → List Part → Type 0
IsRow first parts = (i : ℕ) (d : Part) → i < length parts → (get_or parts i d).entry.id ≡ first + i

-- what the store holds of a part
abbrev pub queued : Part → Held
queued part = record { entry = part.entry; finished = false }

-- no new entry has a draft
abbrev pub HasNoDraft : List (List ℕ) → ℕ → FileMap → Type 0
HasNoDraft dirs next f = (s : Stored) → IsNew dirs next s → bytes_at f (draft_place s) ≡ None

-- the files of a new parent and of its children are written
abbrev pub IsCommitted : ℕ → List Draft → Draft → List ℕ → FileMap → FileMap → Type 0
IsCommitted next children parent body f g =
    AreWritten (children_of next children parent body None ++ stored next body parent ∷ []) f g

-- they are, or what is there of them is before the renaming that decides
abbrev pub IsCommitting : ℕ → List Draft → Draft → List ℕ → FileMap → FileMap → Type 0
IsCommitting next children parent body f g =
    IsUnderWay next (stored next body parent ∷ children_of next children parent body None)
    (children_of next children parent body None) f g
    ⊎ IsCommitted next children parent body f g

-- no draft is there
abbrev pub HasNoDrafts : List (List ℕ) → FileMap → Type 0
HasNoDrafts dirs f =
    (dir : List ℕ) (id : ℕ) → Contains dirs dir → IsId id → bytes_at f (dir, name_of Tf id) ≡ None

-- the files of new children are written, and the control of their old parent is the new one
abbrev pub IsRaisedWith : ℕ → ℕ → List Draft → Draft → List ℕ → FileMap → FileMap → Type 0
IsRaisedWith next id children parent body f g =
    AreRaised (children_of next children parent body (Some id)) (stored id body parent) f g

-- they are, or what is there of them is before the renaming that decides
abbrev pub IsRaising : ℕ → ℕ → List Draft → Draft → List ℕ → FileMap → FileMap → Type 0
IsRaising next id children parent body f g =
    IsUnderWay next (stored id body parent ∷ children_of next children parent body (Some id))
    (children_of next children parent body (Some id)) f g
    ⊎ IsRaisedWith next id children parent body f g

-- a draft names an entry
pub record IsNamedIn (entries : List Held) (d : Draft) : Type 0 where
  pub held : Held
  pub among : Contains entries held
  pub named : d.id ≡ Some held.entry.id
