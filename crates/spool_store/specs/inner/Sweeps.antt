-- What an opening takes away, and what is gone so far (own; df, qf, sf and tf are those of the
-- Sendmail Installation and Operation Guide, "The queue").
use Rattle.std.specs.Prelude.{◌≡◌, ◌<◌, ◌≤◌, ◌⊎◌, ℕ, List, map, None, Contains, length, Result, IsErrOf}
use Rattle.mail_base.specs.declared.id.Kind.TheVariants.{Df, Qf, Sf, Tf}
use Rattle.mail_base.specs.declared.control.Control.{Control}
use Rattle.mail_base.specs.Histories.{Rose}
use Rattle.mail_base.specs.declared.fault.StoreFault.{StoreFault}
use Rattle.mail_base.specs.declared.fault.StoreFault.TheVariants.{SpoolFault, IdsSpent}
use Rattle.mail_base.specs.Limits.{IsId}
use Rattle.mail_base.specs.States.{NeedsBody}
use Rattle.spool_disk.specs.Disk.{Place, FileMap, bytes_at}
use Rattle.spool_disk.specs.Spooled.{Spooled}
use Rattle.spool_store.specs.Moves.{Moves}
use Rattle.spool_store.specs.Queue.{IsOpen, Spot, spot_place, IsControl, IsStrange, IsLive}
use Rattle.spool_store.specs.Tidying.{IsDead, IsTidied, as_kind}
use Rattle.spool_store.specs.declared.named.Named.{Named}
use Rattle.spool_store.specs.inner.Finds.{spot_named}

-- where these files lie
abbrev pub place_named : List (List ℕ) → Named → Place
place_named dirs x = spot_place (spot_named dirs x)

abbrev pub places : List (List ℕ) → List Named → List Place
places dirs xs = map (place_named dirs) xs

-- what an opening may leave, with nothing at those places
pub record IsSweptOf (dirs : List (List ℕ)) (f : FileMap) (done : List Place)
    (g : FileMap) : Type 0 where
  pub tidied : IsTidied dirs f g
  pub gone : (p : Place) → Contains done p → bytes_at g p ≡ None

-- no strange file has the id, and no live one of it, in whatever directory, wants the body
pub record IsUnwanted (dirs : List (List ℕ)) (f : FileMap) (x : Named) : Type 0 where
  pub strange : (s : Spot) → s.id ≡ x.id → IsStrange dirs f s → ⊥
  pub live : (s : Spot) (c : Control) → s.id ≡ x.id → IsLive dirs f s c → NeedsBody c → ⊥

-- a strange file has the id, or a live one of it, in whatever directory, wants the body
pub data IsWanted (dirs : List (List ℕ)) (f : FileMap) (x : Named) : Type 0 where
  by_strange : (s : Spot) → s.id ≡ x.id → IsStrange dirs f s → IsWanted dirs f x
  by_live : (s : Spot) (c : Control) → s.id ≡ x.id → IsLive dirs f s c → NeedsBody c
      → IsWanted dirs f x

-- each control file is strange, dead or live
pub record IsDecided (dirs : List (List ℕ)) (f : FileMap) : Type 0 where
  pub verdict : (s : Spot) (bytes : List ℕ) → IsControl dirs f s bytes
      → IsStrange dirs f s ⊎ (IsDead dirs f s ⊎ ((c : Control) × IsLive dirs f s c))

-- why a file may be taken away: it is a draft, a dead control file, or, once no dead one is there,
-- a body that nobody wants
pub data MayGo (dirs : List (List ℕ)) (f : FileMap) (done : List Place) (x : Named) : Type 0 where
  a_draft : x.kind ≡ Tf → x.dir < length dirs → IsId x.id → MayGo dirs f done x
  a_dead : IsDead dirs f (spot_named dirs x) → MayGo dirs f done x
  a_body : x.kind ≡ Df → x.dir < length dirs → IsId x.id
      → ((s : Spot) → IsDead dirs f s → Contains done (spot_place s)) → IsUnwanted dirs f x
      → IsDecided dirs f → MayGo dirs f done x

-- a live qf none of whose rows is open
pub record IsDone (dirs : List (List ℕ)) (f : FileMap) (x : Named) : Type 0 where
  pub kind : x.kind ≡ Qf
  pub control : Control
  pub live : IsLive dirs f (spot_named dirs x) control
  pub closed : IsOpen control → ⊥

-- it may take its other name
pub record MayFinish (dirs : List (List ℕ)) (f : FileMap) (done : List Place)
    (x : Named) : Type 0 where
  pub entry : IsDone dirs f x
  pub free : Contains done (spot_place (as_kind Sf (spot_named dirs x))) → ⊥

-- no map at all
abbrev pub Never : FileMap → Type 0
Never g = ⊥

-- the spool goes on; the count of faults has risen where its failure is told, and stands still else
pub record Counts {T : Type 0} (old new : Spooled) (result : Result T StoreFault) : Type 0 where
  pub steps : Moves old new Never Never Never
  pub later : old.faults ≤ new.faults
  pub never : IsErrOf result IdsSpent → ⊥
  pub cause : IsErrOf result SpoolFault → Rose old.faults new.faults
  pub calm : IsErrOf result SpoolFault ⊎ (new.faults ≡ old.faults)
