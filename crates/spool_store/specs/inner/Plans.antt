-- What an opening picks of its files (own).
use Rattle.std.specs.Prelude.{◌≡◌, ◌⊎◌, List, ℕ, Contains}
use Rattle.mail_base.specs.declared.id.Kind.TheVariants.{Df, Tf}
use Rattle.spool_disk.specs.Disk.{FileMap}
use Rattle.spool_store.specs.Tidying.{IsDead}
use Rattle.spool_store.specs.declared.named.Named.{Named}
use Rattle.spool_store.specs.declared.named.Found.{Found}
use Rattle.spool_store.specs.inner.Finds.{spot_named}
use Rattle.spool_store.specs.inner.Sweeps.{IsDone, IsUnwanted, IsWanted}

-- a file is of those
pub record Stays {X : Type 0} (n : X → Named) (from : List X) (x : Named) : Type 0 where
  pub source : X
  pub among : Contains from source
  pub is : n source ≡ x

-- those that are picked have a property, and the others have another one
pub record Picks {X : Type 0} (n : X → Named) (P Q : X → Type 0) (from : List X)
    (out : List Named) : Type 0 where
  pub each : (x : Named) → Contains out x → (y : X) × Contains from y × (n y ≡ x) × P y
  pub all : (y : X) → Contains from y → Contains out (n y) ⊎ Q y

abbrev pub itself : Named → Named
itself x = x

abbrev pub its_name : Found → Named
its_name y = y.named

-- exactly the drafts
abbrev pub AreDrafts : List Named → List Named → Type 0
AreDrafts = Picks itself (λ x. x.kind ≡ Tf) (λ x. x.kind ≡ Tf → ⊥)

-- exactly the dead control files
abbrev pub AreDead : List (List ℕ) → FileMap → List Found → List Named → Type 0
AreDead dirs f = Picks its_name (λ y. IsDead dirs f (spot_named dirs y.named))
    (λ y. IsDead dirs f (spot_named dirs y.named) → ⊥)

-- exactly those of live entries that are to be finished
abbrev pub AreDone : List (List ℕ) → FileMap → List Found → List Named → Type 0
AreDone dirs f = Picks its_name (λ y. IsDone dirs f y.named) (λ y. IsDone dirs f y.named → ⊥)

-- exactly the bodies that nobody wants
abbrev pub AreUnwanted : List (List ℕ) → FileMap → List Named → List Named → Type 0
AreUnwanted dirs f =
    Picks itself (λ x. (x.kind ≡ Df) × IsUnwanted dirs f x) (λ x. x.kind ≡ Df → IsWanted dirs f x)
