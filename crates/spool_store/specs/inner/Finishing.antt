-- What a finish makes of a map (own; sf is a finished entry's control file).
use Rattle.std.specs.Prelude.{◌≡◌, ◌≢◌, ℕ, List, None, false}
use Rattle.mail_base.specs.States.{needs_body}
use Rattle.mail_base.specs.declared.id.Kind.TheVariants.{Qf, Sf}
use Rattle.mail_base.specs.declared.control.Control.{Control}
use Rattle.spool_disk.specs.Disk.{FileMap, bytes_at}
use Rattle.spool_disk.specs.Spooled.{Spooled}
use Rattle.spool_store.specs.Moves.{Moves}
use Rattle.spool_store.specs.Queue.{Spot, spot_place, body_place, IsSpot, IsOpen, IsLive}
use Rattle.spool_store.specs.Tidying.{IsTidied, as_kind}

-- a live qf of which every row is done
pub record IsDone (dirs : List (List ℕ)) (f : FileMap) (s : Spot) (c : Control) : Type 0 where
  pub live : IsLive dirs f s c
  pub kind : s.kind ≡ Qf
  pub closed : IsOpen c → ⊥

-- it has its other name, and no other control file has changed
pub record HasEnded (dirs : List (List ℕ)) (f : FileMap) (s : Spot) (g : FileMap) : Type 0 where
  pub tidied : IsTidied dirs f g
  pub gone : bytes_at g (spot_place s) ≡ None
  pub holds : bytes_at g (spot_place (as_kind Sf s)) ≡ bytes_at f (spot_place s)
  pub others : (t : Spot) → IsSpot dirs t → t ≢ s → t ≢ as_kind Sf s
      → bytes_at g (spot_place t) ≡ bytes_at f (spot_place t)

-- and its body is gone unless it is wanted
pub record HasFinished (dirs : List (List ℕ)) (f : FileMap) (s : Spot) (c : Control)
    (g : FileMap) : Type 0 where
  pub ended : HasEnded dirs f s g
  pub body : needs_body c ≡ false → bytes_at g (body_place s) ≡ None

-- a run of calls, whatever they make of the files
abbrev pub IsRun : Spooled → Spooled → Type 0
IsRun old new = Moves old new (λ f. ⊥) (λ f. ⊥) (λ f. ⊥)
