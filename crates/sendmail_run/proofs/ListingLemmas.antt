-- The listing that code makes is that of the table which the files stand for.
use Rattle.std.proofs.Common.{Bor, ◌≡◌, ◌⊎◌, inl, inr, ℕ, ℤ, ◌<ℤ◌, ◌<◌, List, [], ◌∷◌, ◌++◌, ◌+◌, length, map, take, filter, Bool, true, false, not, cond, ◌||◌, Some, refl, sym, ◌∙◌, ap, subst, arith, Less, Equal, Greater}
use Rattle.std.specs.Prelude.{All, Contains, ◌&&◌}
use Rattle.std.specs.List.{AllPairs, AllZip, flat_map, slice_index_or, list_all, list_any}
use Rattle.std.specs.List.Sorted.{IsPermutation, IsSortedBy}
use Rattle.std.specs.Ordering.{MatchOrdering, int_cmp, is_lt, nat_cmp, ordering_then}
use Rattle.std.specs.declared.cmp.Ordering.{Ordering}
use Rattle.std.specs.Cmp.{IsTotalOrder, int_cmp_total, nat_cmp_total, on_total, then_total}
use Rattle.std.proofs.lemmas.Cmp.{int_ranked, ranked}
use Rattle.std.proofs.lemmas.Int.{ints}
use Rattle.std.proofs.lemmas.Grind.{flat_map-append}
use Rattle.std.proofs.lemmas.List.{append-nil, append_assoc, get_or-map, length-map, take_more}
use Rattle.std.proofs.lemmas.List.Elements.{All-contains, All-contains_itself, All-filter}
use Rattle.std.proofs.lemmas.List.Sorted.{All-permutation, IsPermutation-map, ranks_by, sorted_far}
use Rattle.mail_base.specs.Names.{name_of}
use Rattle.mail_base.specs.States.{is_dead, is_finished, is_open as row_open}
use Rattle.mail_base.specs.declared.control.Control.{Control}
use Rattle.mail_base.specs.declared.control.Row.{Row}
use Rattle.mail_base.specs.declared.control.Stray.{Stray}
use Rattle.mail_base.specs.declared.id.Kind.TheVariants.{Df}
use Rattle.spool_disk.specs.Disk.{FileMap, bytes_at}
use Rattle.spool_disk.specs.Listings.{AreSameNames, IsAscending}
use Rattle.spool_store.specs.Entries.{Stored, Table}
use Rattle.spool_store.specs.Keepers.{or_nothing}
use Rattle.spool_store.specs.Settled.{HasFiles, StandsFor}
use Rattle.spool_store.specs.Stores.{IsHeld}
use Rattle.spool_store.specs.declared.held.Held.{Held}
use Rattle.spool_store.proofs.Standing.{contains_head, contains_tail}
use Rattle.sendmail_run.specs.Listings.{IsListing, MayFollow, entry_lines, is_listed, path_of, strange_line, total_line}
use Rattle.sendmail_run.specs.inner.Listing.{GoesOn, held_lines, is_open, stored_by}

-- ---- the order

z_less : (p q : ℤ) (o : Ordering) → MatchOrdering o (p <ℤ q) (p ≡ q) (q <ℤ p) → p <ℤ q → o ≡ Less
z_less p q Less m lt = refl
z_less p q Equal m lt = absurd (omega (arith, ints, m, lt))
z_less p q Greater m lt = absurd (omega (arith, ints, m, lt))

z_tied : (p q : ℤ) (o : Ordering) → MatchOrdering o (p <ℤ q) (p ≡ q) (q <ℤ p) → p ≡ q → o ≡ Equal
z_tied p q Less m e = absurd (omega (arith, ints, m, e))
z_tied p q Equal m e = refl
z_tied p q Greater m e = absurd (omega (arith, ints, m, e))

n_less : (i j : ℕ) (o : Ordering) → MatchOrdering o (i < j) (i ≡ j) (j < i) → i < j → o ≡ Less
n_less i j Less m lt = refl
n_less i j Equal m lt = absurd (omega (arith, m, lt))
n_less i j Greater m lt = absurd (omega (arith, m, lt))

-- what goes before is less
before_less : (p q : ℤ) (i j : ℕ) → (p <ℤ q) ⊎ ((p ≡ q) × (i < j)) → is_lt (ordering_then (int_cmp p q) (nat_cmp i j)) ≡ true
before_less p q i j (inl lt) = ap (λ (o : Ordering). is_lt (ordering_then o (nat_cmp i j))) (z_less p q (int_cmp p q) (int_ranked p q (int_cmp p q) refl) lt)
before_less p q i j (inr e) = ap (λ (o : Ordering). is_lt (ordering_then o (nat_cmp i j))) (z_tied p q (int_cmp p q) (int_ranked p q (int_cmp p q) refl) e.0) ∙ ap is_lt (n_less i j (nat_cmp i j) (ranked i j (nat_cmp i j) refl) e.1)

-- the keys of the sort
abbrev pub key_of : Held → ℤ × ℕ
key_of h = (h.entry.control.priority, h.entry.id)

abbrev pub key_cmp : ℤ × ℕ → ℤ × ℕ → Ordering
key_cmp x y = ordering_then (int_cmp x.0 y.0) (nat_cmp x.1 y.1)

abbrev pub comes_first : Bor Held → Bor Held → Bool
comes_first one other = is_lt (key_cmp (key_of one.now) (key_of other.now))

keys_total : IsTotalOrder key_cmp
keys_total = then_total (on_total (λ (p : ℤ × ℕ). p.0) int_cmp_total) (on_total (λ (p : ℤ × ℕ). p.1) nat_cmp_total)

may_follow : (one other : Held) → is_lt (key_cmp (key_of other) (key_of one)) ≡ false → GoesOn one other
may_follow one other greater before =
    let less = before_less other.entry.control.priority one.entry.control.priority other.entry.id one.entry.id before in
    let both : true ≡ false = sym less ∙ greater in
    absurd (cc both)

abbrev pub at_now : Bor Held → Held
at_now b = b.now

follows_at : (xs : List (Bor Held)) (i j : ℕ) (b : Bor Held) (d : Held) → i < length xs → j < length xs → comes_first (slice_index_or xs j b) (slice_index_or xs i b) ≡ false → GoesOn (slice_index_or (map at_now xs) i d) (slice_index_or (map at_now xs) j d)
follows_at xs i j b d li lj greater =
    subst (λ (h : Held). GoesOn h (slice_index_or (map at_now xs) j d)) (sym (get_or-map at_now xs i b d li))
    (subst (λ (h : Held). GoesOn (slice_index_or xs i b).now h) (sym (get_or-map at_now xs j b d lj)) (may_follow (slice_index_or xs i b).now (slice_index_or xs j b).now greater))

goes_by : (xs : List (Bor Held)) → IsSortedBy comes_first xs → (i j : ℕ) (d : Held) → i < j → j < length xs → GoesOn (slice_index_or (map at_now xs) i d) (slice_index_or (map at_now xs) j d)
goes_by [] up i j d lt le = absurd (omega (arith, le))
goes_by (x ∷ xs) up i j d lt le =
    follows_at (x ∷ xs) i j x d (omega (arith, lt, le)) le (sorted_far comes_first (ranks_by keys_total (λ (b : Bor Held). key_of b.now)) (x ∷ xs) up i j x (omega (arith, lt)) le)

-- what was sorted by the keys is in order
pub goes_on : (xs : List (Bor Held)) → IsSortedBy comes_first xs → AllPairs GoesOn (map (λ (h : Bor Held). h.now) xs)
goes_on xs up i j d lt le = goes_by xs up i j d lt (omega (arith, le, length-map xs at_now))

-- ---- the entries

-- an entry with an open row wants its body
want_step : (o dead all any : Bool) → (not o && all) ≡ false → (all ≡ false → any ≡ true) → ((o || dead) || any) ≡ true
want_step true dead all any e rest = refl
want_step false true all any e rest = refl
want_step false false all any e rest = rest e

rows_want : (rows : List Row) → list_all (λ row. not (row_open row.state)) rows ≡ false → list_any (λ row. row_open row.state || is_dead row.state) rows ≡ true
rows_want [] e = sym e
rows_want (row ∷ rows) e = want_step (row_open row.state) (is_dead row.state) (list_all (λ row. not (row_open row.state)) rows) (list_any (λ row. row_open row.state || is_dead row.state) rows) e (rows_want rows)

not_true : (b : Bool) → not b ≡ true → b ≡ false
not_true false e = refl
not_true true e = sym e

-- an entry that is held, with its body as the files have it, is that of the table
held_is : (dirs : List (List ℕ)) (files : FileMap) (h : Held) (s : Stored) → IsHeld h s → HasFiles dirs files s → is_listed s ≡ true → stored_by files h ≡ s
held_is dirs files h s is has listed =
    let bytes : bytes_at files (s.dir, name_of Df s.id) ≡ Some s.body = has.body (rows_want s.control.rows (not_true (is_finished s.control) listed)) in
    let place : bytes_at files (h.entry.dir, name_of Df h.entry.id) ≡ bytes_at files (s.dir, name_of Df s.id) = λ i. bytes_at files (is.dir i, name_of Df (is.id i)) in
    λ i. record { id = is.id i; dir = is.dir i; control = is.control i; body = (ap or_nothing (place ∙ bytes)) i }

same_test : (h : Held) (s : Stored) → IsHeld h s → is_open h ≡ is_listed s
same_test h s is = ap (λ (c : Control). not (is_finished c)) is.control

held_step : (dirs : List (List ℕ)) (files : FileMap) (h : Held) (s : Stored) (hs : List Held) (ss : List Stored) (b : Bool) → is_listed s ≡ b → is_open h ≡ b → IsHeld h s → HasFiles dirs files s → map (stored_by files) (filter is_open hs) ≡ filter is_listed ss
    → map (stored_by files) (filter is_open (h ∷ hs)) ≡ filter is_listed (s ∷ ss)
held_step dirs files h s hs ss true listed opened is has rest =
    ap (λ (b : Bool). map (stored_by files) (cond b (h ∷ filter is_open hs) (filter is_open hs))) opened
    ∙ (λ i. held_is dirs files h s is has listed i ∷ rest i)
    ∙ ap (λ (b : Bool). cond b (s ∷ filter is_listed ss) (filter is_listed ss)) (sym listed)
held_step dirs files h s hs ss false listed opened is has rest =
    ap (λ (b : Bool). map (stored_by files) (cond b (h ∷ filter is_open hs) (filter is_open hs))) opened
    ∙ rest
    ∙ ap (λ (b : Bool). cond b (s ∷ filter is_listed ss) (filter is_listed ss)) (sym listed)

-- the entries that are listed are those of the table
held_are : (dirs : List (List ℕ)) (files : FileMap) (hs : List Held) (ss : List Stored) → AllZip IsHeld hs ss → ((s : Stored) → Contains ss s → HasFiles dirs files s) → map (stored_by files) (filter is_open hs) ≡ filter is_listed ss
held_are dirs files [] [] zip has = refl
held_are dirs files [] (s ∷ ss) zip has = absurd zip
held_are dirs files (h ∷ hs) [] zip has = absurd zip
held_are dirs files (h ∷ hs) (s ∷ ss) zip has =
    held_step dirs files h s hs ss (is_listed s) refl (same_test h s zip.0) zip.0 (has s (contains_head s ss)) (held_are dirs files hs ss zip.1 (λ t among. has t (contains_tail s t ss among)))

-- those that are shown are among all
pub all_among : (entries : List Held) (xs : List (Bor Held)) → IsPermutation (filter is_open entries) (map at_now xs) → All (λ (b : Bor Held). Contains entries b.now) xs
all_among entries [] same i d lt = absurd (omega (arith, lt))
all_among entries (x ∷ xs) same i d lt =
    subst (Contains entries) (get_or-map at_now (x ∷ xs) i d x.now lt)
    (All-permutation (Contains entries) (filter is_open entries) (map at_now (x ∷ xs)) same (All-filter is_open (Contains entries) entries (All-contains_itself entries)) i x.now (omega (arith, lt, length-map (x ∷ xs) at_now)))

pub among_at : (entries : List Held) (xs : List (Bor Held)) (i : ℕ) (x : Bor Held) → All (λ (b : Bor Held). Contains entries b.now) xs → i < length xs → x ≡ slice_index_or xs i x → Contains entries x.now
among_at entries xs i x all lt is = subst (λ (b : Bor Held). Contains entries b.now) (sym is) (all i x lt)

-- ---- the text

flat_map_push : (f : Held → List ℕ) (hs : List Held) (h : Held) → flat_map f (hs ++ h ∷ []) ≡ flat_map f hs ++ f h
flat_map_push f hs h = flat_map-append f hs (h ∷ []) ∙ ap (λ (t : List ℕ). flat_map f hs ++ t) (append-nil (f h))

map_push : (f : Bor Held → Held) (xs : List (Bor Held)) (x : Bor Held) → map f (xs ++ x ∷ []) ≡ map f xs ++ f x ∷ []
map_push f [] x = refl
map_push f (y ∷ xs) x = ap (λ (t : List Held). f y ∷ t) (map_push f xs x)

lines_by : (files : FileMap) (hs : List Held) → flat_map entry_lines (map (stored_by files) hs) ≡ flat_map (held_lines files) hs
lines_by files [] = refl
lines_by files (h ∷ hs) = ap (λ (t : List ℕ). held_lines files h ++ t) (lines_by files hs)

-- a loop's step: the lines of one entry more
pub lines_more : (files : FileMap) (xs : List (Bor Held)) (i : ℕ) (x : Bor Held) (start old new : List ℕ) → i < length xs → x ≡ slice_index_or xs i x → old ≡ start ++ flat_map (held_lines files) (map at_now (take i xs)) → new ≡ old ++ held_lines files x.now
    → new ≡ start ++ flat_map (held_lines files) (map at_now (take (i + 1) xs))
lines_more files xs i x start old new lt is was now =
    let more : take (i + 1) xs ≡ take i xs ++ x ∷ [] = take_more xs i x lt ∙ ap (λ (y : Bor Held). take i xs ++ y ∷ []) (sym is) in
    now
    ∙ ap (λ (t : List ℕ). t ++ held_lines files x.now) was
    ∙ append_assoc start (flat_map (held_lines files) (map at_now (take i xs))) (held_lines files x.now)
    ∙ ap (λ (t : List ℕ). start ++ t) (sym (flat_map_push (held_lines files) (map at_now (take i xs)) x.now) ∙ ap (flat_map (held_lines files)) (sym (map_push at_now (take i xs) x)))
    ∙ ap (λ (q : List (Bor Held)). start ++ flat_map (held_lines files) (map at_now q)) (sym more)

-- the whole text
pub text_of : (files : FileMap) (start entries paths whole : List ℕ) (slice xs : List (Bor Held)) (here listed : List (List ℕ)) (count : ℕ) → start ≡ [] → slice ≡ xs → here ≡ listed → entries ≡ start ++ flat_map (held_lines files) (map at_now slice)
    → paths ≡ entries ++ flat_map strange_line here → whole ≡ paths ++ total_line count → whole ≡ flat_map (held_lines files) (map at_now xs) ++ flat_map strange_line listed ++ total_line count
text_of files start entries paths whole slice xs here listed count empty same there e p w =
    let first : entries ≡ flat_map (held_lines files) (map at_now xs) = e ∙ ap (λ (t : List ℕ). t ++ flat_map (held_lines files) (map at_now slice)) empty ∙ ap (λ (q : List (Bor Held)). flat_map (held_lines files) (map at_now q)) same in
    let second : paths ≡ flat_map (held_lines files) (map at_now xs) ++ flat_map strange_line listed =
    p ∙ ap (λ (t : List ℕ). t ++ flat_map strange_line here) first ∙ ap (λ (q : List (List ℕ)). flat_map (held_lines files) (map at_now xs) ++ flat_map strange_line q) there in
    w ∙ ap (λ (t : List ℕ). t ++ total_line count) second

pairs_by : (files : FileMap) (hs : List Held) → AllPairs GoesOn hs → AllPairs MayFollow (map (stored_by files) hs)
pairs_by files [] pairs i j d lt le = absurd (omega (arith, le))
pairs_by files (h ∷ hs) pairs i j d lt le =
    let less : j < length (h ∷ hs) = omega (arith, le, length-map (h ∷ hs) (stored_by files)) in
    subst (λ (s : Stored). MayFollow s (slice_index_or (map (stored_by files) (h ∷ hs)) j d)) (sym (get_or-map (stored_by files) (h ∷ hs) i h d (omega (arith, lt, less))))
    (subst (λ (s : Stored). MayFollow (stored_by files (slice_index_or (h ∷ hs) i h)) s) (sym (get_or-map (stored_by files) (h ∷ hs) j h d less)) (pairs i j h lt less))

-- what code makes of the entries that a store holds is the listing of the table that the files
-- stand for
pub is_listing : (dirs : List (List ℕ)) (files : FileMap) (table : Table) (held hs : List Held) (strays : List Stray) (paths : List (List ℕ)) (count : ℕ) (text : List ℕ) → StandsFor dirs table files → AllZip IsHeld held table.entries
    → IsPermutation (filter is_open held) hs → AllPairs GoesOn hs → IsAscending paths → AreSameNames (map path_of strays) paths → count ≡ length hs
    → text ≡ flat_map (held_lines files) hs ++ flat_map strange_line paths ++ total_line count → IsListing table.entries strays text
is_listing dirs files table held hs strays paths count text stands zip same order ascending strange counted is = record {
  shown = map (stored_by files) hs;
  same = subst (λ (l : List Stored). IsPermutation l (map (stored_by files) hs)) (held_are dirs files held table.entries zip (λ s among. All-contains (HasFiles dirs files) table.entries s stands.each among))
      (IsPermutation-map (stored_by files) (filter is_open held) hs same);
  order = pairs_by files hs order;
  paths = paths;
  ascending = ascending;
  strange = strange;
  is = is
      ∙ ap (λ (t : List ℕ). t ++ flat_map strange_line paths ++ total_line count) (sym (lines_by files hs))
      ∙ ap (λ (n : ℕ). flat_map entry_lines (map (stored_by files) hs) ++ flat_map strange_line paths ++ total_line n) (counted ∙ sym (length-map hs (stored_by files)));
}
