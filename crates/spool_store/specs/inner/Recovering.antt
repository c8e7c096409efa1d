-- What an opening knows once it has looked, and what it is to do (own).
use Rattle.std.specs.Prelude.{◌≡◌, ◌<◌, List, ℕ, Contains, length}
use Rattle.mail_base.specs.declared.id.Kind.TheVariants.{Qf}
use Rattle.spool_disk.specs.Disk.{FileMap}
use Rattle.spool_store.specs.declared.named.Named.{Named}
use Rattle.spool_store.specs.declared.looked.Looked.{Looked}
use Rattle.spool_store.specs.declared.looked.Plan.{Plan}
use Rattle.spool_store.specs.inner.Finds.{AreAmong, AreForeign, AreFound, AreNamed}
use Rattle.spool_store.specs.inner.Judging.{AreJudged, IsIndexed}
use Rattle.spool_store.specs.inner.Plans.{AreDead, AreDone, AreDrafts, AreUnwanted}

-- what holds of it whatever the spool tells
pub record IsLook (dirs : List (List ℕ)) (l : Looked) : Type 0 where
  pub indexed : IsIndexed dirs l.named l.found
  pub named : (x : Named) → Contains l.named x → x.dir < length dirs
  pub long : length l.verdicts ≡ length l.found
  pub among : AreAmong l.named l.found

-- it is exactly what a map has
pub record HasLooked (dirs : List (List ℕ)) (f : FileMap) (l : Looked) : Type 0 where
  pub named : AreNamed dirs f (length dirs) l.named
  pub foreign : AreForeign dirs f (length dirs) l.strays
  pub found : AreFound dirs f l.found
  pub judged : AreJudged dirs f l.found l.verdicts

-- each file of a plan is in a directory that is there, and only a qf is to be finished
pub record IsPlan (n : ℕ) (plan : Plan) : Type 0 where
  pub drafts : (x : Named) → Contains plan.drafts x → x.dir < n
  pub dead : (x : Named) → Contains plan.dead x → x.dir < n
  pub closed : (x : Named) → Contains plan.closed x → x.dir < n
  pub kinds : (x : Named) → Contains plan.closed x → x.kind ≡ Qf
  pub bodies : (x : Named) → Contains plan.bodies x → x.dir < n

-- it is exactly what is to be done
pub record HasPlanned (dirs : List (List ℕ)) (f : FileMap) (l : Looked) (plan : Plan) : Type 0 where
  pub drafts : AreDrafts l.named plan.drafts
  pub dead : AreDead dirs f l.found plan.dead
  pub closed : AreDone dirs f l.found plan.closed
  pub bodies : AreUnwanted dirs f l.named plan.bodies
