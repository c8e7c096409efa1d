-- A parcel has its body itself: what holds with the parcel's own body holds with the one it was made of.
use Rattle.std.proofs.Common.{◌≡◌, ℕ, List, Option, sym, subst}
use Rattle.std.specs.Prelude.{IfSome}
use Rattle.mail_base.specs.declared.control.Draft.{Draft}
use Rattle.spool_disk.specs.Disk.{FileMap}
use Rattle.spool_disk.specs.Spooled.{Spooled}
use Rattle.spool_store.specs.Entries.{Table}
use Rattle.spool_store.specs.Moves.{Moves}
use Rattle.spool_store.specs.Parcels.{IsParcel, IsParcelUnder}
use Rattle.spool_store.specs.Parts.{IsEitherTable}
use Rattle.spool_store.specs.Settled.{IsSettled, StandsFor}
use Rattle.spool_store.specs.Stores.{StoreSeen}
use Rattle.spool_store.specs.Writes.{after_commit}
use Rattle.spool_store.specs.declared.parcel.Parcel.{Parcel}

-- a parcel by its own body
pub own_parcel : (store : StoreSeen) (children : List Draft) (parent : Draft) (b : List ℕ) (parcel : Parcel) → IsParcel store children parent b parcel → IsParcel store children parent parcel.body parcel
own_parcel store children parent b parcel is = subst (λ (q : List ℕ). IsParcel store children parent q parcel) (sym is.body_is) is

pub own_under : (store : StoreSeen) (id : ℕ) (children : List Draft) (parent : Draft) (b : List ℕ) (parcel : Parcel) → IsParcelUnder store id children parent b parcel → IsParcelUnder store id children parent parcel.body parcel
own_under store id children parent b parcel is = subst (λ (q : List ℕ). IsParcelUnder store id children parent q parcel) (sym is.body_is) is

-- where a commit leads that went well
pub commit_done : (a c : Spooled) (dirs : List (List ℕ)) (table : Table) (children : List Draft) (parent : Draft) (own b : List ℕ) (above : Option ℕ) → own ≡ b
    → Moves a c (StandsFor dirs table) (IsSettled dirs (after_commit table children parent own above)) (IsEitherTable dirs table (after_commit table children parent own above))
    → Moves a c (StandsFor dirs table) (IsSettled dirs (after_commit table children parent b above)) (IsEitherTable dirs table (after_commit table children parent b above))
commit_done a c dirs table children parent own b above is moves =
    subst (λ (q : List ℕ). Moves a c (StandsFor dirs table) (IsSettled dirs (after_commit table children parent q above)) (IsEitherTable dirs table (after_commit table children parent q above))) is moves

-- and one that failed
pub commit_failed : (a c : Spooled) (dirs : List (List ℕ)) (table : Table) (children : List Draft) (parent : Draft) (own b : List ℕ) (above : Option ℕ) → own ≡ b
    → Moves a c (StandsFor dirs table) (IsEitherTable dirs table (after_commit table children parent own above)) (IsEitherTable dirs table (after_commit table children parent own above))
    → Moves a c (StandsFor dirs table) (IsEitherTable dirs table (after_commit table children parent b above)) (IsEitherTable dirs table (after_commit table children parent b above))
commit_failed a c dirs table children parent own b above is moves =
    subst (λ (q : List ℕ). Moves a c (StandsFor dirs table) (IsEitherTable dirs table (after_commit table children parent q above)) (IsEitherTable dirs table (after_commit table children parent q above))) is moves

-- what is told after it
pub commit_settled : (told : Option FileMap) (dirs : List (List ℕ)) (table : Table) (children : List Draft) (parent : Draft) (own b : List ℕ) (above : Option ℕ) → own ≡ b
    → IfSome told (IsSettled dirs (after_commit table children parent own above)) → IfSome told (IsSettled dirs (after_commit table children parent b above))
commit_settled told dirs table children parent own b above is settled =
    subst (λ (q : List ℕ). IfSome told (IsSettled dirs (after_commit table children parent q above))) is settled
