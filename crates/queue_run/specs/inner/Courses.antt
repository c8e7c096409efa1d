-- The index of batches by where they go. It need not be believed: only private contracts cite it.
use Rattle.std.specs.Prelude.{◌≡◌, ◌≢◌, ℕ, List, true, false, Option, None, Some, slice_get}
use Rattle.std.specs.Map.{lookup}
use Rattle.indexmap.specs.IndexMap.{insert_entry}
use Rattle.mail_base.specs.declared.config.Config.{Config}
use Rattle.queue_run.specs.declared.batch.Batch.{Batch}
use Rattle.queue_run.specs.declared.course.Course.{Course}
use Rattle.queue_run.specs.Batches.{course_of, goes_by, has_room, same}

-- no batch has room
abbrev pub AreFull : Config → Option Course → List Batch → Type 0
AreFull config way batches =
    (other : ℕ) (b : Batch) → slice_get batches other ≡ Some b → has_room config way b ≡ false

-- none but that at a place has
abbrev pub AreFullBut : Config → Option Course → List Batch → ℕ → Type 0
AreFullBut config way batches place =
    (other : ℕ) (b : Batch) → other ≢ place → slice_get batches other ≡ Some b
    → has_room config way b ≡ false

-- at that place stands a batch that goes there, and no other one has room
pub record IsOpenAt (config : Config) (course : Course) (batches : List Batch) (place : ℕ)
    : Type 0 where
  pub batch : Batch
  pub there : slice_get batches place ≡ Some batch
  pub goes : goes_by course (course_of batch.resolved) ≡ true
  pub only : AreFullBut config (Some course) batches place

abbrev pub IsOpenBy : Config → Course → List Batch → Option ℕ → Type 0
IsOpenBy config course batches (Some place) = IsOpenAt config course batches place
IsOpenBy config course batches None = AreFull config (Some course) batches

-- of each mailer and host the batch that may have room
abbrev pub IsIndexed : Config → List Batch → List (Course × ℕ) → Type 0
IsIndexed config batches last =
    (course : Course) → IsOpenBy config course batches (lookup (same course) last)

-- where the one batch is that takes a row, if one does
pub record IsPlaceAt (config : Config) (way : Option Course) (batches : List Batch) (place : ℕ)
    : Type 0 where
  pub batch : Batch
  pub there : slice_get batches place ≡ Some batch
  pub room : has_room config way batch ≡ true
  pub only : AreFullBut config way batches place

abbrev pub IsPlaceFor : Config → Option Course → List Batch → Option ℕ → Type 0
IsPlaceFor config way batches (Some place) = IsPlaceAt config way batches place
IsPlaceFor config way batches None = AreFull config way batches

-- what is indexed after a batch was begun
abbrev pub begun_index : Option Course → ℕ → List (Course × ℕ) → List (Course × ℕ)
begun_index None place last = last
begun_index (Some course) place last = insert_entry same last course place
