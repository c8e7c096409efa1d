-- What is held by directory and name, as files.
use Rattle.std.proofs.Common.{◌≡◌, ◌≢◌, ℕ, zero, suc, ◌+◌, ◌≤◌, true, false, Bool, List, [], ◌∷◌, ◌++◌, drop, length, slice_get, Option, Some, None, is_some, IsSome, true≢false, refl, sym, ◌∙◌, ap, subst, add-one, Bor}
use Rattle.std.specs.Prelude.{◌&&◌, bytes_eq, if◌then◌else◌}
use Rattle.std.specs.Cmp.{first_so, second_so}
use Rattle.std.specs.List.{Contains}
use Rattle.std.specs.Map.{keys_of}
use Rattle.std.specs.Option.{option_or, option_copied}
use Rattle.std.specs.Cmp.Lexicographic.{bytes_decides, nat_list_eq_equiv}
use Rattle.std.proofs.lemmas.List.{append_assoc, append-nil, drop_all}
use Rattle.std.proofs.lemmas.Map.Made.{is_some-lookup}
use Rattle.std.proofs.lemmas.Map.Views.{list_any-from_Contains, Contains-from_any}
use Rattle.mail_base.specs.Catalogs.{value_at}
use Rattle.spool_disk.specs.declared.file.File.{File}
use Rattle.spool_disk.specs.declared.change.Change.TheVariants.{Write, Rename, Remove}
use Rattle.spool_disk.specs.Disk.{Place, FileMap, lies_at, bytes_at, IsSameBut, HasRenamed}
use Rattle.spool_disk.specs.Changes.{without_file, with_file, with_renamed, after}
use Rattle.spool_disk.specs.Listings.{IsListing, IsAscending, AreSameNames}
use Rattle.spool_disk.specs.inner.Folders.{FolderMap, AreApart, in_folder, held_at, Holds, Sets, names_of, names_in, filed, all_filed}
use Rattle.spool_disk.proofs.Naming.{nothing_there}
use Rattle.spool_disk.proofs.Placing.{same_place, places_decide, put_back, has_written, has_removed, has_renamed}

or_step : (b : Bool) (v : List ℕ) (x y : Option (List ℕ)) → (if b then Some v else option_or x y) ≡ option_or (if b then Some v else x) y
or_step true v x y = refl
or_step false v x y = refl

-- of files behind others those count where no other is
appended : (xs ys : FileMap) (p : Place) → bytes_at (xs ++ ys) p ≡ option_or (bytes_at xs p) (bytes_at ys p)
appended [] ys p = refl
appended (x ∷ xs) ys p = ap (λ r. if lies_at p x then Some x.bytes else r) (appended xs ys p) ∙ or_step (lies_at p x) x.bytes (bytes_at xs p) (bytes_at ys p)

lies_decide : (p : Place) (file : File) → (lies_at p file ≡ true → p ≡ (file.dir, file.name)) × (p ≡ (file.dir, file.name) → lies_at p file ≡ true)
lies_decide p file = (
  λ h. let dirs = (bytes_decides p.0 file.dir).0 (first_so (bytes_eq p.0 file.dir) (bytes_eq p.1 file.name) h) in let names = (bytes_decides p.1 file.name).0 (second_so (bytes_eq p.0 file.dir) (bytes_eq p.1 file.name) h) in λ i. (dirs i, names i),
  λ e. λ i. (bytes_decides p.0 file.dir).1 (ap (λ r. r.0) e) i && (bytes_decides p.1 file.name).1 (ap (λ r. r.1) e) i,
)

hidden : (b : Bool) (v : List ℕ) (x : Option (List ℕ)) → (b ≡ true → IsSome x) → x ≡ option_or x (if b then Some v else None)
hidden b v (Some w) h = refl
hidden true v None h = absurd (true≢false (sym (h refl)))
hidden false v None h = refl

-- a file behind one at its place adds nothing
pub added_nothing : (old : FolderMap) (file : File) (files : FileMap) → IsSome (held_at old (file.dir, file.name)) → Holds old files → Holds old (files ++ file ∷ [])
added_nothing old file files there h p =
    let is : lies_at p file ≡ true → IsSome (bytes_at files p) = λ e. subst IsSome (sym (ap (held_at old) ((lies_decide p file).0 e)) ∙ h p) there in
    h p ∙ hidden (lies_at p file) file.bytes (bytes_at files p) is ∙ sym (appended files (file ∷ []) p)

shown : (b : Bool) (v : List ℕ) (x now : Option (List ℕ)) → (b ≡ true → (now ≡ Some v) × (x ≡ None)) → (b ≡ false → now ≡ x) → now ≡ option_or x (if b then Some v else None)
shown true v x now h k = (h refl).0 ∙ sym (ap (λ o. option_or o (Some v)) (h refl).1)
shown false v None now h k = k refl
shown false v (Some w) now h k = k refl

-- a file is put behind those that are there
pub added_one : (old new : FolderMap) (file : File) (files : FileMap) → held_at old (file.dir, file.name) ≡ None → Sets (file.dir, file.name) (Some file.bytes) old new → Holds old files → Holds new (files ++ file ∷ [])
added_one old new file files none set h p =
    shown (lies_at p file) file.bytes (bytes_at files p) (held_at new p)
    (λ e. let here = (lies_decide p file).0 e in (ap (held_at new) here ∙ set.here, sym (h p) ∙ ap (held_at old) here ∙ none))
    (λ e. set.others p (λ here. true≢false (sym ((lies_decide p file).1 here) ∙ e)) ∙ h p)
    ∙ sym (appended files (file ∷ []) p)

at_or_not : (b : Bool) (p place : Place) (P : Type 0) → (b ≡ true → p ≡ place) → (p ≡ place → b ≡ true) → (p ≡ place → P) → (p ≢ place → P) → P
at_or_not true p place P same apart h k = h (same refl)
at_or_not false p place P same apart h k = k (λ e. true≢false (sym (apart e)))

-- whether a place is another
at_place : (p place : Place) (P : Type 0) → (p ≡ place → P) → (p ≢ place → P) → P
at_place p place P h k = at_or_not (same_place p place) p place P (places_decide p place).0 (places_decide p place).1 h k

sets_as : (place : Place) (wanted : Option (List ℕ)) (old new : FolderMap) (files now : FileMap) → Sets place wanted old new → bytes_at now place ≡ wanted → IsSameBut place files now → Holds old files → Holds new now
sets_as place wanted old new files now set here others h p =
    at_place p place (held_at new p ≡ bytes_at now p)
    (λ e. ap (held_at new) e ∙ set.here ∙ sym here ∙ sym (ap (bytes_at now) e))
    (λ ne. set.others p ne ∙ h p ∙ sym (others p ne))

-- a file that is written is held
pub written_is_held : (dir name bytes : List ℕ) (old new : FolderMap) (files : FileMap) → Sets (dir, name) (Some bytes) old new → Holds old files → Holds new (after (Write dir name bytes) files)
written_is_held dir name bytes old new files set h = let w = has_written dir name bytes files in sets_as (dir, name) (Some bytes) old new files (after (Write dir name bytes) files) set w.holds w.others h

-- a file that is removed isn't held
pub removed_is_gone : (dir name : List ℕ) (old new : FolderMap) (files : FileMap) → Sets (dir, name) None old new → Holds old files → Holds new (after (Remove dir name) files)
removed_is_gone dir name old new files set h = let r = has_removed dir name files in sets_as (dir, name) None old new files (after (Remove dir name) files) set r.gone r.others h

-- a file that gets another name
pub renamed_is_held : (dir from to bytes : List ℕ) (old mid new : FolderMap) (files : FileMap) → from ≢ to → Some bytes ≡ held_at old (dir, from) → Sets (dir, to) (Some bytes) old mid → Sets (dir, from) None mid new → Holds old files → Holds new (after (Rename dir from to) files)
renamed_is_held dir from to bytes old mid new files ne there put taken h p =
    let now : FileMap = after (Rename dir from to) files in
    let was : Some bytes ≡ bytes_at files (dir, from) = there ∙ h (dir, from) in
    let r : HasRenamed dir from to files now = has_renamed dir from to files ne (subst IsSome was refl) in
    at_place p (dir, from) (held_at new p ≡ bytes_at now p)
    (λ e. ap (held_at new) e ∙ taken.here ∙ sym r.gone ∙ sym (ap (bytes_at now) e))
    (λ nf. taken.others p nf ∙ at_place p (dir, to) (held_at mid p ≡ bytes_at now p)
    (λ e. ap (held_at mid) e ∙ put.here ∙ was ∙ sym r.holds ∙ sym (ap (bytes_at now) e))
    (λ nt. put.others p nt ∙ h p ∙ sym (r.others p nf nt)))

-- a file that gets its own name again
pub renamed_to_itself : (dir from to bytes : List ℕ) (old new : FolderMap) (files : FileMap) → from ≡ to → Some bytes ≡ held_at old (dir, from) → Sets (dir, to) (Some bytes) old new → Holds old files → Holds new (after (Rename dir from to) files)
renamed_to_itself dir from to bytes old new files same there put h =
    let was : Some bytes ≡ bytes_at files (dir, from) = there ∙ h (dir, from) in
    subst (λ name. Holds new (with_renamed dir from name (bytes_at files (dir, from)) files)) same
    (subst (λ o. Holds new (with_renamed dir from from o files)) was
    (λ p. at_place p (dir, from) (held_at new p ≡ bytes_at (with_file (dir, from) bytes (without_file (dir, from) files)) p)
    (λ e. ap (held_at new) (e ∙ ap (λ name. (dir, name)) same) ∙ put.here ∙ was ∙ sym (ap (bytes_at files) e) ∙ sym (put_back (dir, from) bytes files (sym was) p))
    (λ ne. put.others p (λ e. ne (e ∙ sym (ap (λ name. (dir, name)) same))) ∙ h p ∙ sym (put_back (dir, from) bytes files (sym was) p))))

named : (files : Option (List (List ℕ × List ℕ))) (name : List ℕ) → Contains (names_of files) name → IsSome (in_folder files name)
named None name h = absurd (nothing_there name h)
named (Some files) name h = is_some-lookup (bytes_eq name) files ∙ list_any-from_Contains nat_list_eq_equiv name (keys_of files) h

there_named : (files : Option (List (List ℕ × List ℕ))) (name : List ℕ) → IsSome (in_folder files name) → Contains (names_of files) name
there_named None name h = absurd (true≢false (sym h))
there_named (Some files) name h = Contains-from_any (λ x y e. (bytes_decides x y).0 e) name (keys_of files) (sym (is_some-lookup (bytes_eq name) files) ∙ h)

-- the names of a directory, sorted and each once, are its listing
pub names_are_listed : (folders : FolderMap) (dir : List ℕ) (names last : List (List ℕ)) → names ≡ names_in dir folders → IsAscending last → AreSameNames names last → (files : FileMap) → Holds folders files → IsListing (Some files) dir last
names_are_listed folders dir names last is up same files h = record {
  ascending = up;
  exactly = λ name. (
    λ k. subst IsSome (h (dir, name)) (named (value_at dir folders) name (subst (λ q. Contains q name) is ((same name).1 k))),
    λ k. (same name).0 (subst (λ q. Contains q name) (sym is) (there_named (value_at dir folders) name (subst IsSome (sym (h (dir, name))) k))),
  );
}

abbrev nothing : Option (List ℕ)
nothing = None

none_either : (b : Bool) → (if b then nothing else nothing) ≡ nothing
none_either true = refl
none_either false = refl

filed_step : (b d : Bool) (v : List ℕ) (rest value : Option (List ℕ)) → rest ≡ (if b then value else None) → (if b && d then Some v else rest) ≡ (if b then (if d then Some v else value) else None)
filed_step true true v rest value h = refl
filed_step true false v rest value h = h
filed_step false d v rest value h = h

filed_at : (dir : List ℕ) (pairs : List (List ℕ × List ℕ)) (p : Place) → bytes_at (filed dir pairs) p ≡ (if bytes_eq p.0 dir then value_at p.1 pairs else None)
filed_at dir [] p = sym (none_either (bytes_eq p.0 dir))
filed_at dir (pair ∷ pairs) p = filed_step (bytes_eq p.0 dir) (bytes_eq p.1 pair.0) pair.1 (bytes_at (filed dir pairs) p) (value_at p.1 pairs) (filed_at dir pairs p)

held_step : (b : Bool) (pairs : List (List ℕ × List ℕ)) (folder : Option (List (List ℕ × List ℕ))) (name : List ℕ) (rest : Option (List ℕ)) → (b ≡ true → folder ≡ None) → in_folder folder name ≡ rest → in_folder (if b then Some pairs else folder) name ≡ option_or (if b then value_at name pairs else None) rest
held_step true pairs folder name rest none h = or_none (value_at name pairs) rest (sym h ∙ ap (λ f. in_folder f name) (none refl))
  where
    or_none : (x y : Option (List ℕ)) → y ≡ None → x ≡ option_or x y
    or_none None y e = sym e
    or_none (Some v) y e = refl
held_step false pairs folder name rest none h = h

-- what is held is held as files too
all_are_held : (folders : FolderMap) → AreApart folders → Holds folders (all_filed folders)
all_are_held [] apart p = refl
all_are_held (folder ∷ folders) apart p =
    held_step (bytes_eq p.0 folder.0) folder.1 (value_at p.0 folders) p.1 (bytes_at (all_filed folders) p) (λ e. ap (λ d. value_at d folders) ((bytes_decides p.0 folder.0).0 e) ∙ apart.0) (all_are_held folders apart.1 p)
    ∙ sym (appended (filed folder.0 folder.1) (all_filed folders) p ∙ ap (λ x. option_or x (bytes_at (all_filed folders) p)) (filed_at folder.0 folder.1 p))

next_filed : (folders : FolderMap) (i : ℕ) (folder : List ℕ × List (List ℕ × List ℕ)) → slice_get folders i ≡ Some folder → all_filed (drop i folders) ≡ filed folder.0 folder.1 ++ all_filed (drop (suc i) folders)
next_filed [] i folder e = cc
next_filed (f ∷ folders) zero folder e = let is : f ≡ folder = cc in ap (λ (x : List ℕ × List (List ℕ × List ℕ)). filed x.0 x.1 ++ all_filed folders) is
next_filed (f ∷ folders) (suc i) folder e = next_filed folders i folder e

-- the files of one directory more
pub one_more_filed : (folders : FolderMap) (i : ℕ) (folder : List ℕ × List (List ℕ × List ℕ)) (files : FileMap) → slice_get folders i ≡ Some folder → files ++ all_filed (drop i folders) ≡ all_filed folders → (files ++ filed folder.0 folder.1) ++ all_filed (drop (i + 1) folders) ≡ all_filed folders
one_more_filed folders i folder files e h = append_assoc files (filed folder.0 folder.1) (all_filed (drop (i + 1) folders)) ∙ rw add-one (ap (λ x. files ++ x) (sym (next_filed folders i folder e)) ∙ h)

-- after the last directory they are all
pub filed_at_end : (folders : FolderMap) (i : ℕ) (files : FileMap) → length folders ≤ i → AreApart folders → files ++ all_filed (drop i folders) ≡ all_filed folders → Holds folders files
filed_at_end folders i files le apart h =
    let all : files ≡ all_filed folders = sym (append-nil files) ∙ ap (λ rest. files ++ all_filed rest) (sym (drop_all i folders le)) ∙ h in
    subst (Holds folders) (sym all) (all_are_held folders apart)

-- what is lent is there
pub seen_there : (lent : Option (Bor (List ℕ))) (held : Option (List ℕ)) → option_copied lent ≡ held → is_some lent ≡ true → IsSome held
seen_there (Some bytes) held e h = subst IsSome e refl
seen_there None held e h = absurd (true≢false (sym h))

-- where nothing is lent nothing is there
pub seen_nowhere : (lent : Option (Bor (List ℕ))) (held : Option (List ℕ)) → option_copied lent ≡ held → is_some lent ≡ false → held ≡ None
seen_nowhere (Some bytes) held e h = absurd (true≢false h)
seen_nowhere None held e h = sym e
