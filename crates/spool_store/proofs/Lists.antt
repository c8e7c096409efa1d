-- What lies where in a list of files.
use Rattle.std.proofs.Common.{◌≡◌, ◌≢◌, ◌∷◌, Some, Bool, true, false, true≢false, refl, sym, ap}
use Rattle.std.specs.Prelude.{◌&&◌, bytes_eq, if◌then◌else◌}
use Rattle.std.specs.Cmp.Lexicographic.{bytes_decides}
use Rattle.std.proofs.lemmas.Bool.{false_from_ne_true}
use Rattle.spool_disk.specs.Disk.{Place, FileMap, bytes_at, lies_at}
use Rattle.spool_disk.specs.declared.file.File.{File}

both : (a b : Bool) → a ≡ true → b ≡ true → a && b ≡ true
both true true p q = refl
both true false p q = absurd (true≢false (sym q))
both false b p q = absurd (true≢false (sym p))

first_of : (a b : Bool) → a && b ≡ true → a ≡ true
first_of true b e = refl
first_of false b e = e

second_of : (a b : Bool) → a && b ≡ true → b ≡ true
second_of true b e = e
second_of false b e = absurd (true≢false (sym e))

pub lies : (p : Place) (file : File) → p ≡ (file.dir, file.name) → lies_at p file ≡ true
lies p file e = both _ _ ((bytes_decides p.0 file.dir).1 (ap (λ (q : Place). q.0) e)) ((bytes_decides p.1 file.name).1 (ap (λ (q : Place). q.1) e))

pub lies_not : (p : Place) (file : File) → p ≢ (file.dir, file.name) → lies_at p file ≡ false
lies_not p file ne = false_from_ne_true (lies_at p file) (λ e.
    let a : p.0 ≡ file.dir = (bytes_decides p.0 file.dir).0 (first_of _ _ e) in
    let b : p.1 ≡ file.name = (bytes_decides p.1 file.name).0 (second_of (bytes_eq p.0 file.dir) _ e) in
    ne (λ i. (a i, b i)))

-- what stands first counts
pub here : (file : File) (files : FileMap) (p : Place) → p ≡ (file.dir, file.name) → bytes_at (file ∷ files) p ≡ Some file.bytes
here file files p e = ap (λ (b : Bool). if b then Some file.bytes else bytes_at files p) (lies p file e)

-- a file at another place doesn't change what lies at a place
pub later : (file : File) (files : FileMap) (p : Place) → p ≢ (file.dir, file.name) → bytes_at (file ∷ files) p ≡ bytes_at files p
later file files p ne = ap (λ (b : Bool). if b then Some file.bytes else bytes_at files p) (lies_not p file ne)
