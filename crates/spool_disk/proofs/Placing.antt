-- What changes do to the files at each place.
use Rattle.std.proofs.Common.{◌≡◌, ℕ, true, false, Bool, List, [], ◌∷◌, ◌++◌, Option, Some, None, is_some, IsSome, true≢false, inl, inr, refl, sym, ◌∙◌, ap, subst}
use Rattle.std.proofs.lemmas.Bool.{false_from_ne_true}
use Rattle.std.specs.Prelude.{◌≢◌, ◌&&◌, not, bytes_eq, cond, if◌then◌else◌}
use Rattle.std.specs.Cmp.{first_so, second_so}
use Rattle.std.specs.Cmp.Lexicographic.{bytes_decides}
use Rattle.spool_disk.specs.declared.file.File.{File}
use Rattle.spool_disk.specs.declared.change.Change.{Change}
use Rattle.spool_disk.specs.declared.change.Change.TheVariants.{Write, Rename, Remove}
use Rattle.spool_disk.specs.Disk.{Place, FileMap, lies_at, bytes_at, IsSame, IsImage, IsDone, HasWritten, HasRenamed, HasRemoved}
use Rattle.spool_disk.specs.Changes.{without_file, with_file, with_renamed, after}

-- a file lies at no other place
alone : (p q : Place) (file : File) → lies_at p file ≡ true → lies_at q file ≡ true → p ≡ q
alone p q file h k =
    let dirs = (bytes_decides p.0 file.dir).0 (first_so (bytes_eq p.0 file.dir) (bytes_eq p.1 file.name) h) ∙ sym ((bytes_decides q.0 file.dir).0 (first_so (bytes_eq q.0 file.dir) (bytes_eq q.1 file.name) k)) in
    let names = (bytes_decides p.1 file.name).0 (second_so (bytes_eq p.0 file.dir) (bytes_eq p.1 file.name) h) ∙ sym ((bytes_decides q.1 file.name).0 (second_so (bytes_eq q.0 file.dir) (bytes_eq q.1 file.name) k)) in
    λ i. (dirs i, names i)

-- whether two places are equal, folder and name
pub same_place : Place → Place → Bool
same_place p q = bytes_eq p.0 q.0 && bytes_eq p.1 q.1

-- whether two places are the same
pub places_decide : (p q : Place) → (same_place p q ≡ true → p ≡ q) × (p ≡ q → same_place p q ≡ true)
unfolding same_place
places_decide p q = (
  λ h. let dirs = (bytes_decides p.0 q.0).0 (first_so (bytes_eq p.0 q.0) (bytes_eq p.1 q.1) h) in let names = (bytes_decides p.1 q.1).0 (second_so (bytes_eq p.0 q.0) (bytes_eq p.1 q.1) h) in λ i. (dirs i, names i),
  λ e. λ i. (bytes_decides p.0 q.0).1 (ap (λ r. r.0) e) i && (bytes_decides p.1 q.1).1 (ap (λ r. r.1) e) i,
)

-- a file lies at its own place
own_place : (place : Place) (bytes : List ℕ) → lies_at place (record { dir = place.0; name = place.1; bytes = bytes }) ≡ true
own_place place bytes = λ i. (bytes_decides place.0 place.0).1 refl i && (bytes_decides place.1 place.1).1 refl i

elsewhere : (p q : Place) (file : File) → p ≢ q → lies_at q file ≡ true → lies_at p file ≡ false
elsewhere p q file ne h = false_from_ne_true (lies_at p file) (λ k. ne (alone p q file k h))

other_step : (file : File) (kept files : FileMap) (p : Place) (b : Bool) → (b ≡ true → lies_at p file ≡ false) → bytes_at kept p ≡ bytes_at files p → bytes_at (cond (not b) (file ∷ kept) kept) p ≡ bytes_at (file ∷ files) p
other_step file kept files p true h ih = ih ∙ sym (ap (λ t. if t then Some file.bytes else bytes_at files p) (h refl))
other_step file kept files p false h ih = ap (λ q. if lies_at p file then Some file.bytes else q) ih

others_stay : (p q : Place) (files : FileMap) → p ≢ q → bytes_at (without_file q files) p ≡ bytes_at files p
others_stay p q [] ne = refl
others_stay p q (file ∷ files) ne = other_step file (without_file q files) files p (lies_at q file) (elsewhere p q file ne) (others_stay p q files ne)

gone_step : (file : File) (kept : FileMap) (p : Place) (b : Bool) → lies_at p file ≡ b → bytes_at kept p ≡ None → bytes_at (cond (not b) (file ∷ kept) kept) p ≡ None
gone_step file kept p true h ih = ih
gone_step file kept p false h ih = ap (λ t. if t then Some file.bytes else bytes_at kept p) h ∙ ih

is_gone : (p : Place) (files : FileMap) → bytes_at (without_file p files) p ≡ None
is_gone p [] = refl
is_gone p (file ∷ files) = gone_step file (without_file p files) p (lies_at p file) refl (is_gone p files)

-- a file added at another place leaves the bytes at this one
pub pushed_elsewhere : (files : FileMap) (file : File) (p : Place) → lies_at p file ≡ false → bytes_at (files ++ file ∷ []) p ≡ bytes_at files p
pushed_elsewhere [] file p h = ap (λ t. if t then Some file.bytes else None) h
pushed_elsewhere (x ∷ files) file p h = ap (λ q. if lies_at p x then Some x.bytes else q) (pushed_elsewhere files file p h)

here_step : (b : Bool) (v w : List ℕ) (rest now : Option (List ℕ)) → (if b then Some v else rest) ≡ None → (rest ≡ None → now ≡ Some w) → (if b then Some v else now) ≡ Some w
here_step true v w rest now e ih = absurd (true≢false (ap is_some e))
here_step false v w rest now e ih = ih e

pushed_here : (files : FileMap) (file : File) (p : Place) → lies_at p file ≡ true → bytes_at files p ≡ None → bytes_at (files ++ file ∷ []) p ≡ Some file.bytes
pushed_here [] file p h e = ap (λ t. if t then Some file.bytes else None) h
pushed_here (x ∷ files) file p h e = here_step (lies_at p x) x.bytes file.bytes (bytes_at files p) (bytes_at (files ++ file ∷ []) p) e (λ r. pushed_here files file p h r)

holds_now : (place : Place) (bytes : List ℕ) (files : FileMap) → bytes_at (with_file place bytes files) place ≡ Some bytes
holds_now place bytes files = pushed_here (without_file place files) (record { dir = place.0; name = place.1; bytes = bytes }) place (own_place place bytes) (is_gone place files)

others_now : (p place : Place) (bytes : List ℕ) (files : FileMap) → p ≢ place → bytes_at (with_file place bytes files) p ≡ bytes_at files p
others_now p place bytes files ne =
    let file : File = record { dir = place.0; name = place.1; bytes = bytes } in
    pushed_elsewhere (without_file place files) file p (elsewhere p place file ne (own_place place bytes)) ∙ others_stay p place files ne

-- a file that is written
pub has_written : (dir name bytes : List ℕ) (files : FileMap) → HasWritten (dir, name) bytes files (after (Write dir name bytes) files)
has_written dir name bytes files = record { holds = holds_now (dir, name) bytes files; others = λ p ne. others_now p (dir, name) bytes files ne }

-- a file that is removed
pub has_removed : (dir name : List ℕ) (files : FileMap) → HasRemoved (dir, name) files (after (Remove dir name) files)
has_removed dir name files = record { gone = is_gone (dir, name) files; others = λ p ne. others_stay p (dir, name) files ne }

put_back_step : (p place : Place) (bytes : List ℕ) (files : FileMap) (b : Bool) → (b ≡ true → p ≡ place) → (p ≡ place → b ≡ true) → bytes_at files place ≡ Some bytes → bytes_at (with_file place bytes (without_file place files)) p ≡ bytes_at files p
put_back_step p place bytes files true same apart e = subst (λ q. bytes_at (with_file place bytes (without_file place files)) q ≡ bytes_at files q) (sym (same refl)) (holds_now place bytes (without_file place files) ∙ sym e)
put_back_step p place bytes files false same apart e =
    let ne : p ≢ place = λ q. true≢false (sym (apart q)) in
    others_now p place bytes (without_file place files) ne ∙ others_stay p place files ne

-- a file that is written as it was
pub put_back : (place : Place) (bytes : List ℕ) (files : FileMap) → bytes_at files place ≡ Some bytes → IsSame files (with_file place bytes (without_file place files))
put_back place bytes files e = λ p. put_back_step p place bytes files (same_place p place) (places_decide p place).0 (places_decide p place).1 e

renamed_by : (dir from to : List ℕ) (files : FileMap) (o : Option (List ℕ)) → from ≢ to → bytes_at files (dir, from) ≡ o → IsSome o → HasRenamed dir from to files (with_renamed dir from to o files)
renamed_by dir from to files None ne e h = absurd (true≢false (sym h))
renamed_by dir from to files (Some bytes) ne e h =
    let left : FileMap = without_file (dir, from) files in
    let apart : (dir, from) ≢ (dir, to) = λ q. ne (λ i. (q i).1) in
    record {
      holds = holds_now (dir, to) bytes left ∙ sym e;
      gone = others_now (dir, from) (dir, to) bytes left apart ∙ is_gone (dir, from) files;
      others = λ p nf nt. others_now p (dir, to) bytes left nt ∙ others_stay p (dir, from) files nf;
    }

-- a file that is renamed
pub has_renamed : (dir from to : List ℕ) (files : FileMap) → from ≢ to → IsSome (bytes_at files (dir, from)) → HasRenamed dir from to files (after (Rename dir from to) files)
has_renamed dir from to files ne h = renamed_by dir from to files (bytes_at files (dir, from)) ne refl h

-- the files themselves are an image of each change
pub still_image : (change : Change) (files : FileMap) → IsImage change files files
still_image (Write dir name bytes) files = λ p ne. refl
still_image (Rename dir from to) files = inl (λ p. refl)
still_image (Remove dir name) files = inl (λ p. refl)

-- what a call that went well leads to is one of its images
pub image_of_done : (change : Change) (old new : FileMap) → IsDone change old new → IsImage change old new
image_of_done (Write dir name bytes) old new h = h.others
image_of_done (Rename dir from to) old new h = inr h
image_of_done (Remove dir name) old new h = inr h

swapped_by : (dir from to : List ℕ) (files : FileMap) (o : Option (List ℕ)) (b : Bool) → (b ≡ true → from ≡ to) → (from ≡ to → b ≡ true) → bytes_at files (dir, from) ≡ o → IsImage (Rename dir from to) files (with_renamed dir from to o files)
swapped_by dir from to files None b same apart e = inl (λ p. refl)
swapped_by dir from to files (Some bytes) false same apart e = inr (renamed_by dir from to files (Some bytes) (λ q. true≢false (sym (apart q))) e refl)
swapped_by dir from to files (Some bytes) true same apart e = inl (subst (λ q. IsSame files (with_file (dir, q) bytes (without_file (dir, from) files))) (same refl) (put_back (dir, from) bytes files e))

-- what a change makes of the files is one of its images
pub image_after : (change : Change) (files : FileMap) → IsImage change files (after change files)
image_after (Write dir name bytes) files = (has_written dir name bytes files).others
image_after (Rename dir from to) files = swapped_by dir from to files (bytes_at files (dir, from)) (bytes_eq from to) (bytes_decides from to).0 (bytes_decides from to).1 refl
image_after (Remove dir name) files = inr (has_removed dir name files)
