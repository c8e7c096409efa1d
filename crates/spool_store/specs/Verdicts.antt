-- What an opening finds of a control file (own).
use Rattle.std.specs.Prelude.{◌≡◌, ◌≢◌, ℕ, List, None, All}
use Rattle.std.specs.List.Sorted.{IsStrictlySortedBy}
use Rattle.std.specs.Ordering.{nat_cmp}
use Rattle.mail_base.specs.declared.id.Kind.{Kind}
use Rattle.mail_base.specs.declared.id.Kind.TheVariants.{Sf}
use Rattle.spool_disk.specs.Disk.{FileMap, bytes_at}
use Rattle.mail_base.specs.declared.control.Control.{Control}
use Rattle.spool_store.specs.Queue.{IsOpen, Spot, body_place, IsRead, HasTwin, IsLive}
use Rattle.mail_base.specs.States.{NeedsBody}
use Rattle.spool_store.specs.Entries.{Stored, ids}
use Rattle.spool_store.specs.Settled.{spot_of, HasRead}

-- a live control file of that revision
pub record IsLiveAt (dirs : List (List ℕ)) (f : FileMap) (s : Spot) (revision : ℕ) : Type 0 where
  pub control : Control
  pub live : IsLive dirs f s control
  pub is : control.revision ≡ revision

-- a control file that is strange for no reason of its own
pub record IsSober (dirs : List (List ℕ)) (f : FileMap) (s : Spot) (c : Control) : Type 0 where
  pub read : IsRead dirs f s c
  pub single : HasTwin dirs f s → ⊥
  pub body : NeedsBody c → bytes_at f (body_place s) ≢ None
  pub closed : s.kind ≡ Sf → IsOpen c → ⊥

-- the live entries of a map, in order of id, whatever their bodies are
pub record AreLive (dirs : List (List ℕ)) (f : FileMap) (entries : List Stored) : Type 0 where
  pub ascending : IsStrictlySortedBy nat_cmp (ids entries)
  pub each : All (λ s. (k : Kind) × IsLive dirs f (spot_of k s) s.control) entries
  pub all : (s : Spot) (c : Control) → IsLive dirs f s c → HasRead entries s c
