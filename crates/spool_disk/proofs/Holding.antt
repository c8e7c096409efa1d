-- What writing and taking away files by directory and name makes of what is held.
use Rattle.std.proofs.Common.{◌≡◌, ◌≢◌, ℕ, true, false, Bool, List, [], ◌∷◌, Option, Some, None, true≢false, refl, sym, ◌∙◌, ap, subst}
use Rattle.std.specs.Prelude.{bytes_eq, if◌then◌else◌, Result, Ok, Err, OnOk, OnErr}
use Rattle.std.specs.Cmp.Lexicographic.{bytes_decides}
use Rattle.mail_base.specs.Catalogs.{value_at, with_value, SetsValue}
use Rattle.mail_base.proofs.CatalogLemmas.{with_value_sets}
use Rattle.spool_disk.specs.Disk.{Place}
use Rattle.spool_disk.specs.inner.Folders.{FolderMap, AreApart, in_folder, held_at, Sets}

abbrev Files : Type 0
Files = List (List ℕ × List ℕ)

-- a place in the directory whose files changed, or in another
other_place : (dir name : List ℕ) (was now : List (List ℕ × List ℕ)) (wanted : Option (List ℕ)) (old : FolderMap) (p : Place) (b : Bool) → (b ≡ true → p.0 ≡ dir) → (p.0 ≡ dir → b ≡ true) → p ≢ (dir, name) → ((other : List ℕ) → other ≢ name → value_at other now ≡ in_folder (value_at dir old) other) → held_at (with_value dir now old) p ≡ held_at old p
other_place dir name was now wanted old p true same apart ne others =
    let ours : p.0 ≡ dir = same refl in
    let differs : p.1 ≢ name = λ e. ne (λ i. (ours i, e i)) in
    let set = (with_value_sets dir now old).value in
    ap (λ d. in_folder (value_at d (with_value dir now old)) p.1) ours ∙ ap (λ v. in_folder v p.1) set ∙ others p.1 differs ∙ sym (ap (λ d. in_folder (value_at d old) p.1) ours)
other_place dir name was now wanted old p false same apart ne others =
    let differs : p.0 ≢ dir = λ e. true≢false (sym (apart e)) in
    ap (λ v. in_folder v p.1) ((with_value_sets dir now old).others p.0 differs)

-- a directory's files with one name changed
changed : (dir name : List ℕ) (wanted : Option (List ℕ)) (now : List (List ℕ × List ℕ)) (old : FolderMap) → value_at name now ≡ wanted → ((other : List ℕ) → other ≢ name → value_at other now ≡ in_folder (value_at dir old) other) → Sets (dir, name) wanted old (with_value dir now old)
changed dir name wanted now old here others = record {
  here = ap (λ v. in_folder v name) (with_value_sets dir now old).value ∙ here;
  others = λ p ne. other_place dir name now now wanted old p (bytes_eq p.0 dir) (bytes_decides p.0 dir).0 (bytes_decides p.0 dir).1 ne others;
}

-- a name changed in a directory that is there
pub set_within : (dir name : List ℕ) (wanted : Option (List ℕ)) (was now : List (List ℕ × List ℕ)) (old : FolderMap) → Some was ≡ value_at dir old → SetsValue name wanted was now → Sets (dir, name) wanted old (with_value dir now old)
set_within dir name wanted was now old there set = changed dir name wanted now old set.value (λ other ne. set.others other ne ∙ ap (λ v. in_folder v other) there)

-- a name in a directory that is new
pub set_first : (dir name : List ℕ) (wanted : Option (List ℕ)) (now : List (List ℕ × List ℕ)) (old : FolderMap) → value_at dir old ≡ None → SetsValue name wanted [] now → Sets (dir, name) wanted old (with_value dir now old)
set_first dir name wanted now old none set = changed dir name wanted now old set.value (λ other ne. set.others other ne ∙ sym (ap (λ v. in_folder v other) none))

missing : (dir name : List ℕ) (old : FolderMap) → value_at dir old ≡ None → Sets (dir, name) None old old
missing dir name old none = record { here = ap (λ v. in_folder v name) none; others = λ p ne. refl }

-- a name that is taken from a directory that isn't there
pub none_taken : (dir name : List ℕ) (old new : FolderMap) → value_at dir old ≡ None → new ≡ old → Sets (dir, name) None old new
none_taken dir name old new none same = subst (Sets (dir, name) None old) (sym same) (missing dir name old none)

apart_step : (dir : List ℕ) (now : Files) (folder : List ℕ × Files) (folders : FolderMap) (b : Bool) → (dir ≡ folder.0 → b ≡ true) → (value_at folder.0 folders ≡ None) × AreApart folders → AreApart (with_value dir now folders) → AreApart (if b then (folder.0, now) ∷ folders else folder ∷ with_value dir now folders)
apart_step dir now folder folders true differs h rest = (h.0, h.1)
apart_step dir now folder folders false differs h rest = ((with_value_sets dir now folders).others folder.0 (λ e. true≢false (sym (differs (sym e)))) ∙ h.0, rest)

-- a directory that is set keeps others from standing twice
pub apart_with : (dir : List ℕ) (now : Files) (old : FolderMap) → AreApart old → AreApart (with_value dir now old)
apart_with dir now [] h = (refl, tt)
apart_with dir now (folder ∷ folders) h = apart_step dir now folder folders (bytes_eq dir folder.0) (bytes_decides dir folder.0).1 h (apart_with dir now folders h.1)

-- nor does one that may have been set
pub apart_after : {E : Type 0} (result : Result (Unit {0}) E) (dir : List ℕ) (now : Files) (old new : FolderMap) → OnOk result (new ≡ with_value dir now old) → OnErr result (new ≡ old) → AreApart old → AreApart new
apart_after (Ok x) dir now old new ok err h = subst AreApart (sym ok) (apart_with dir now old h)
apart_after (Err e) dir now old new ok err h = subst AreApart (sym err) h
