-- The verdicts on control files, one after another (own).
use Rattle.std.specs.Prelude.{List, ℕ, ◌<◌, length, Contains}
use Rattle.std.specs.List.Sorted.{IsNonDecreasingBy}
use Rattle.std.specs.List.{AllZip}
use Rattle.spool_disk.specs.Disk.{FileMap}
use Rattle.spool_store.specs.Queue.{Spot, IsStrange}
use Rattle.spool_store.specs.Tidying.{IsDead}
use Rattle.spool_store.specs.Verdicts.{IsLiveAt}
use Rattle.spool_store.specs.declared.named.Found.{Found}
use Rattle.spool_store.specs.declared.named.Named.{Named}
use Rattle.spool_store.specs.declared.verdict.Verdict.{Verdict}
use Rattle.spool_store.specs.declared.verdict.Verdict.TheVariants.{Strange, Dead, Live}
use Rattle.spool_store.specs.inner.Finds.{spot_named}

-- what it is that a verdict says
abbrev pub IsVerdict : List (List ℕ) → FileMap → Spot → Verdict → Type 0
IsVerdict dirs f s Strange = IsStrange dirs f s
IsVerdict dirs f s Dead = IsDead dirs f s
IsVerdict dirs f s (Live revision) = IsLiveAt dirs f s revision

-- each control file has its verdict
abbrev pub AreJudged : List (List ℕ) → FileMap → List Found → List Verdict → Type 0
AreJudged dirs f = AllZip (λ x v. IsVerdict dirs f (spot_named dirs x.named) v)

-- files and control files in order of id, in directories that are there
pub record IsIndexed (dirs : List (List ℕ)) (names : List Named) (found : List Found) : Type 0 where
  pub names_order : IsNonDecreasingBy (λ (x : Named). x.id) names
  pub found_order : IsNonDecreasingBy (λ (x : Found). x.named.id) found
  pub within : (x : Found) → Contains found x → x.named.dir < length dirs
