-- The first file at a place, found by going over the files in order.
use Rattle.std.proofs.Common.{◌≡◌, ℕ, suc, ◌+◌, ◌<◌, true, false, ◌∷◌, length, drop, get_or, Some, sym, ◌∙◌, ap, add-one, drop-cons}
use Rattle.std.specs.Prelude.{if◌then◌else◌}
use Rattle.spool_disk.specs.declared.file.File.{File}
use Rattle.spool_disk.specs.Disk.{Place, FileMap, lies_at, bytes_at}

-- what is left from a number on begins with the file there
from_here : (files : FileMap) (i : ℕ) (file : File) → i < length files → file ≡ get_or files i file → drop i files ≡ file ∷ drop (i + 1) files
from_here files i file h e = rw add-one (drop-cons files i file h ∙ ap (λ q. q ∷ drop (suc i) files) (sym e))

-- a file at that place is the first one from here on
pub found_here : (files : FileMap) (place : Place) (i : ℕ) (file : File) → i < length files → file ≡ get_or files i file → lies_at place file ≡ true → bytes_at (drop i files) place ≡ Some file.bytes
found_here files place i file h e t = ap (λ q. bytes_at q place) (from_here files i file h e) ∙ ap (λ b. if b then Some file.bytes else bytes_at (drop (i + 1) files) place) t

-- a file at another place is passed by
pub passed_by : (files : FileMap) (place : Place) (i : ℕ) (file : File) → i < length files → file ≡ get_or files i file → lies_at place file ≡ false → bytes_at (drop (i + 1) files) place ≡ bytes_at (drop i files) place
passed_by files place i file h e t = sym (ap (λ q. bytes_at q place) (from_here files i file h e) ∙ ap (λ b. if b then Some file.bytes else bytes_at (drop (i + 1) files) place) t)
