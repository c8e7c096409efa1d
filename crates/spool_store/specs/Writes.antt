-- Writes of the store: the table after them, and the files of new entries over a map (own).
use Rattle.std.specs.Prelude.{◌≡◌, ◌≢◌, ℕ, ◌+◌, ◌≤◌, List, [], ◌∷◌, ◌++◌, map, length, Option, Some, None, Contains, All}
use Rattle.mail_base.specs.declared.id.Kind.TheVariants.{Df, Qf}
use Rattle.mail_base.specs.Names.{name_of}
use Rattle.mail_base.specs.Limits.{IsId}
use Rattle.spool_disk.specs.Disk.{Place, FileMap, bytes_at}
use Rattle.spool_disk.specs.declared.file.File.{File}
use Rattle.mail_base.specs.declared.control.Control.{Control}
use Rattle.mail_base.specs.declared.control.Draft.{Draft}
use Rattle.mail_base.specs.declared.control.Parent.{Parent}
use Rattle.mail_base.specs.States.{NeedsBody}
use Rattle.qf_format.specs.Valid.{IsValid}
use Rattle.qf_format.specs.Spelling.{spelled}
use Rattle.spool_store.specs.Queue.{IsLive}
use Rattle.spool_store.specs.Entries.{Stored, Table, with_control}
use Rattle.spool_store.specs.Changes.{control_place, body_at, draft_place, IsPut, HoldsBoth}

-- a new entry
abbrev pub stored : ℕ → List ℕ → Draft → Stored
stored id body d = record { id = id; dir = d.dir; control = d.control; body = body }

-- the same with a parent
abbrev pub heir : Parent → Draft → Draft
heir p d = record d { control = record d.control { parent = Some p } }

-- new entries under ids from that one on
abbrev pub numbered : ℕ → List ℕ → List Draft → List Stored
numbered id body [] = []
numbered id body (d ∷ ds) = stored id body d ∷ numbered (id + 1) body ds

-- the new entries of a commit, and the control under which the children stand
abbrev pub head_of : ℕ → Draft → Option ℕ → Parent
head_of next parent None = record { id = next; revision = parent.control.revision }
head_of next parent (Some id) = record { id = id; revision = parent.control.revision }

abbrev pub children_of : ℕ → List Draft → Draft → List ℕ → Option ℕ → List Stored
children_of next children parent body None =
    numbered (next + 1) body (map (heir (head_of next parent None)) children)
children_of next children parent body (Some id) =
    numbered next body (map (heir (head_of next parent (Some id))) children)

abbrev pub after_commit : Table → List Draft → Draft → List ℕ → Option ℕ → Table
after_commit table children parent body None =
    record {
      entries = table.entries ++ stored table.next body parent
          ∷ children_of table.next children parent body None;
      next = table.next + 1 + length children;
    }
after_commit table children parent body (Some id) =
    record {
      entries = with_control id parent.control table.entries
          ++ children_of table.next children parent body (Some id);
      next = table.next + length children;
    }

-- files
abbrev pub control_file : Stored → File
control_file s = record { dir = s.dir; name = name_of Qf s.id; bytes = spelled s.control }

abbrev pub body_file : Stored → File
body_file s = record { dir = s.dir; name = name_of Df s.id; bytes = s.body }

-- a draft of a new entry can be committed
pub record IsDraftable (dirs : List (List ℕ)) (d : Draft) : Type 0 where
  pub among : Contains dirs d.dir
  pub valid : IsValid d.control

-- these entries' files are written, and nothing else has changed
pub record AreWritten (done : List Stored) (f g : FileMap) : Type 0 where
  pub at : (place : Place) → IsPut done f g place
  pub holds : All (HoldsBoth g) done

-- and the body of one more
pub record HasBody (done : List Stored) (s : Stored) (f g : FileMap) : Type 0 where
  pub at : (place : Place) → place ≢ body_at s → IsPut done f g place
  pub holds : All (HoldsBoth g) done
  pub body : bytes_at g (body_at s) ≡ Some s.body

-- and its draft
pub record HasDraft (done : List Stored) (s : Stored) (f g : FileMap) : Type 0 where
  pub at : (place : Place) → place ≢ body_at s → place ≢ draft_place s → IsPut done f g place
  pub holds : All (HoldsBoth g) done
  pub body : bytes_at g (body_at s) ≡ Some s.body
  pub draft : bytes_at g (draft_place s) ≡ Some (spelled s.control)

-- these entries' files are written, and the draft of an old one's new control
pub record HasNewDraft (done : List Stored) (s : Stored) (f g : FileMap) : Type 0 where
  pub at : (place : Place) → place ≢ draft_place s → IsPut done f g place
  pub holds : All (HoldsBoth g) done
  pub draft : bytes_at g (draft_place s) ≡ Some (spelled s.control)

-- an entry that isn't among these: its id is another one
abbrev pub IsFurther : List Stored → Stored → Type 0
IsFurther done s = All (λ t. IsId t.id × (t.id ≢ s.id)) done

-- what is asked of the drafts of a commit
pub record AreDraftable (dirs : List (List ℕ)) (next : ℕ) (children : List Draft)
    (parent : Draft) : Type 0 where
  pub each : All (IsDraftable dirs) children
  pub head : IsDraftable dirs parent
  pub room : next + 1 + length children ≤ 1_000_000_000_000

-- and of those under an old parent
pub record AreHeirs (dirs : List (List ℕ)) (next : ℕ) (children : List Draft)
    (parent : Draft) : Type 0 where
  pub each : All (IsDraftable dirs) children
  pub head : IsDraftable dirs parent
  pub room : next + length children ≤ 1_000_000_000_000

-- with an old one: its entry, and that its control may take the place of that one's
pub record IsOld (dirs : List (List ℕ)) (f : FileMap) (id : ℕ) (parent : Draft)
    (old : Control) : Type 0 where
  pub live : IsLive dirs f (record { dir = parent.dir; kind = Qf; id = id }) old
  pub same : parent.control.parent ≡ old.parent
  pub wanted : NeedsBody parent.control → NeedsBody old
  pub least : old.revision ≤ parent.control.revision

-- the children are written, and the parent's control is the new one
pub record AreRaised (done : List Stored) (s : Stored) (f g : FileMap) : Type 0 where
  pub at : (place : Place) → place ≢ control_place s → IsPut done f g place
  pub holds : All (HoldsBoth g) done
  pub control : bytes_at g (control_place s) ≡ Some (spelled s.control)
