-- Worked examples of the definitions.
use Rattle.std.specs.Prelude.{◌≡◌, [], ◌∷◌, Some, None, codes, false, refl}
use Rattle.spool_disk.specs.declared.change.Change.TheVariants.{Rename, Remove}
use Rattle.spool_disk.specs.Changes.{after}
use Rattle.spool_disk.specs.Disk.{bytes_at}
use Rattle.spool_disk.specs.Samples.{draft_place, one_draft}
use Rattle.spool_disk.specs.Stops.{left_maps, stopped_call}

first_of_a_place : bytes_at (record { dir = codes "q"; name = codes "tf1"; bytes = codes "newer" } ∷ one_draft) draft_place ≡ Some (codes "newer")
first_of_a_place = refl

gone_after_removal : bytes_at (after (Remove (codes "q") (codes "tf1")) one_draft) draft_place ≡ None
gone_after_removal = refl

renamed_file : after (Rename (codes "q") (codes "tf1") (codes "qf1")) one_draft ≡ record { dir = codes "q"; name = codes "qf1"; bytes = codes "control" } ∷ []
renamed_file = refl

cut_short : stopped_call (record { change = Remove (codes "q") (codes "tf1"); done = false } ∷ []) ≡ Some (Remove (codes "q") (codes "tf1"))
cut_short = refl

both_maps : left_maps (Some (Remove (codes "q") (codes "tf1"))) one_draft ≡ one_draft ∷ [] ∷ []
both_maps = refl
