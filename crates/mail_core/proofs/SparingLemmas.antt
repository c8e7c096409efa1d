-- Files that no call touches stay, one step after the other.
use Rattle.std.proofs.Common.{◌≡◌, inl, inr, ⊎_elim, ℕ, List, Bool, true, false, Option, Some, None, refl, sym, ◌∙◌, ap, subst}
use Rattle.std.specs.Prelude.{Contains, IfSome}
use Rattle.mail_base.specs.declared.control.Stray.{Stray}
use Rattle.mail_base.specs.Names.{name_of}
use Rattle.mail_base.specs.declared.id.Kind.TheVariants.{Df}
use Rattle.mail_base.proofs.FileNames.{same_kind, same_number}
use Rattle.spool_disk.specs.Disk.{FileMap, Place, bytes_at}
use Rattle.spool_disk.specs.Spooled.{Spooled}
use Rattle.spool_store.specs.Moves.{Becomes, Moves}
use Rattle.spool_store.specs.Openings.{AreStrays, IsStray, other_name, strange_file}
use Rattle.spool_store.specs.Queue.{Spot, at, spot_place, IsSpot, IsStrange, unread, twice, upward, under, bodiless, reopened}
use Rattle.spool_store.specs.Stores.{Agrees, IsNobodys, KeepsOthers, StoreSeen, of_its_body, of_none, of_strange}
use Rattle.spool_store.proofs.MovesLemmas.{moves_from, moves_join, moves_none, moves_told, moves_weaker}
use Rattle.spool_store.specs.Tidying.{IsTidied}
use Rattle.mail_core.specs.Seen.{IsSparing, Spares, SparesBy}

-- ---- steps join

nobodys_on : (dirs : List (List ℕ)) (f g : FileMap) → Spares dirs f g → (place : Place) → IsNobodys dirs f place → IsNobodys dirs g place
nobodys_on dirs f g h place (of_none foreign) = of_none foreign
nobodys_on dirs f g h place (of_strange s is e) = of_strange s (h.strange s is) e
nobodys_on dirs f g h place (of_its_body s dir is among e) = of_its_body s dir (h.strange s is) among e

others_join : (dirs : List (List ℕ)) (e f g : FileMap) → Spares dirs e f → KeepsOthers dirs f g → KeepsOthers dirs e g
others_join dirs e f g one two = λ place is. two place (nobodys_on dirs e f one place is) ∙ one.others place is

spares_join : (dirs : List (List ℕ)) (well : Bool) (e f g : FileMap) → Spares dirs e f → SparesBy dirs well f g → SparesBy dirs well e g
spares_join dirs true e f g one two = record { others = others_join dirs e f g one two.others; strange = λ s is. two.strange s (one.strange s is) }
spares_join dirs false e f g one two = others_join dirs e f g one two

spares_itself : (dirs : List (List ℕ)) (f g : FileMap) → g ≡ f → Spares dirs f g
spares_itself dirs f g same = subst (Spares dirs f) (sym same) (record { others = λ place is. refl; strange = λ s is. is })

-- where nothing is done, all is spared
pub sparing_none : (dirs : List (List ℕ)) (s : Spooled) → IsSparing dirs s s true
sparing_none dirs s = λ f. moves_none s (λ g. g ≡ f) (Spares dirs f) (KeepsOthers dirs f) (spares_itself dirs f)

-- a step after another
pub sparing_join : (dirs : List (List ℕ)) (a b c : Spooled) (well : Bool) → IsSparing dirs a b true → IsSparing dirs b c well → IsSparing dirs a c well
sparing_join dirs a b c well h k = λ f.
    moves_join a b c (λ g. g ≡ f) (Spares dirs f) (SparesBy dirs well f) (KeepsOthers dirs f) (h f)
    (moves_from b c (Spares dirs f) (SparesBy dirs well f) (KeepsOthers dirs f) (λ g. g ≡ f) (SparesBy dirs well f) (KeepsOthers dirs f) (k f)
    (λ e one. moves_weaker b c (λ g. g ≡ e) (SparesBy dirs well e) (KeepsOthers dirs e) (SparesBy dirs well f) (KeepsOthers dirs f) (λ g two. spares_join dirs well f e g one two) (λ g two. others_join dirs f e g one two) (k e)))

-- ---- a commit that is done

strange_spot : (dirs : List (List ℕ)) (f : FileMap) (s : Spot) → IsStrange dirs f s → IsSpot dirs s
strange_spot dirs f s (unread _ bytes there not_said) = there.spot
strange_spot dirs f s (twice _ bytes there twin) = there.spot
strange_spot dirs f s (upward _ c p read is le) = read.there.spot
strange_spot dirs f s (under _ c p above read is strange) = read.there.spot
strange_spot dirs f s (bodiless _ c read wanted none) = read.there.spot
strange_spot dirs f s (reopened _ c read is waits) = read.there.spot

-- a control file that is left alone is strange
strange_at : (dirs : List (List ℕ)) (g : FileMap) (s : Spot) (x : Stray) → IsSpot dirs s → x ≡ record { dir = s.dir; name = name_of s.kind s.id } → IsStray dirs g x → IsStrange dirs g s
strange_at dirs g s x spot is (other_name among apart there) = absurd (apart s.kind s.id (ap (λ (q : Stray). q.name) is))
strange_at dirs g s x spot is (strange_file t strange dir name) =
    let same : name_of t.kind t.id ≡ name_of s.kind s.id = name ∙ ap (λ (q : Stray). q.name) is in
    let d : t.dir ≡ s.dir = dir ∙ ap (λ (q : Stray). q.dir) is in
    let k : t.kind ≡ s.kind = same_kind t.kind s.kind t.id s.id same in
    let n : t.id ≡ s.id = same_number t.kind s.kind t.id s.id (strange_spot dirs g t strange).within spot.within same in
    let e : t ≡ s = λ i. record { dir = d i; kind = k i; id = n i } in
    subst (IsStrange dirs g) e strange

-- what a store leaves alone in the one map, it does in the other
strange_on : (one two : StoreSeen) (f g : FileMap) → Agrees one f → Agrees two g → two.dirs ≡ one.dirs → two.strange ≡ one.strange → (s : Spot) → IsStrange one.dirs f s → IsStrange one.dirs g s
strange_on one two f g a b dirs list s is =
    let x : Stray = record { dir = s.dir; name = name_of s.kind s.id } in
    let among : Contains two.strange x = subst (λ (q : List Stray). Contains q x) (sym list) ((a.strange x).0 (strange_file s is refl refl)) in
    strange_at one.dirs g s x (strange_spot one.dirs f s is) refl (subst (λ (q : List (List ℕ)). IsStray q g x) dirs ((b.strange x).1 among))

spared_now : (one two : StoreSeen) (a b : Option FileMap) (f : FileMap) → IfSome a (Agrees one) → IfSome b (Agrees two) → two.dirs ≡ one.dirs → two.strange ≡ one.strange → Becomes a b (λ g. g ≡ f) (KeepsOthers one.dirs f)
    → Becomes a b (λ g. g ≡ f) (Spares one.dirs f)
spared_now one two None None f h k dirs list moves = tt
spared_now one two None (Some g) f h k dirs list moves = absurd moves
spared_now one two (Some e) None f h k dirs list moves = absurd moves
spared_now one two (Some e) (Some g) f h k dirs list moves = λ same. record { others = moves same; strange = strange_on one two f g (subst (Agrees one) same h) k dirs list }

-- a call behind which the store has what is told, and leaves the same alone
pub sparing_call : (one two : StoreSeen) (a b : Spooled) → IfSome a.told (Agrees one) → IfSome b.told (Agrees two) → two.dirs ≡ one.dirs → two.strange ≡ one.strange
    → ((f : FileMap) → Moves a b (λ g. g ≡ f) (KeepsOthers one.dirs f) (KeepsOthers one.dirs f)) → IsSparing one.dirs a b true
sparing_call one two a b h k dirs list moves = λ f. record {
  later = (moves f).later;
  now = spared_now one two a.told b.told f h k dirs list (moves f).now;
  images = (moves f).images;
  kept = (moves f).kept;
}

-- ---- an opening

-- what an opening leaves alone
abbrev pub LeavesStrange : Type 0
LeavesStrange = (dirs : List (List ℕ)) (f g : FileMap) → IsTidied dirs f g → (s : Spot) → IsStrange dirs f s
    → (bytes_at g (spot_place s) ≡ bytes_at f (spot_place s)) × ((dir : List ℕ) → Contains dirs dir → bytes_at g (at dir Df s.id) ≡ bytes_at f (at dir Df s.id))

tidied_others : LeavesStrange → (dirs : List (List ℕ)) (f g : FileMap) → IsTidied dirs f g → KeepsOthers dirs f g
tidied_others law dirs f g h = λ place is. tidied_at law dirs f g h place is
  where
    tidied_at : LeavesStrange → (dirs : List (List ℕ)) (f g : FileMap) → IsTidied dirs f g → (place : Place) → IsNobodys dirs f place → bytes_at g place ≡ bytes_at f place
    tidied_at law dirs f g h place (of_none foreign) = h.others place foreign
    tidied_at law dirs f g h place (of_strange s is e) = let same = (law dirs f g h s is).0 in subst (λ (q : Place). bytes_at g q ≡ bytes_at f q) (sym e) same
    tidied_at law dirs f g h place (of_its_body s dir is among e) = let same = (law dirs f g h s is).1 dir among in subst (λ (q : Place). bytes_at g q ≡ bytes_at f q) (sym e) same

-- what an opening read, its store leaves alone in the map that is left
read_on : (store : StoreSeen) (f g : FileMap) → AreStrays store.dirs f store.strange → Agrees store g → (s : Spot) → IsStrange store.dirs f s → IsStrange store.dirs g s
read_on store f g read b s is =
    let x : Stray = record { dir = s.dir; name = name_of s.kind s.id } in
    strange_at store.dirs g s x (strange_spot store.dirs f s is) refl ((b.strange x).1 (read.all x (strange_file s is refl refl)))

opened_now : (store : StoreSeen) (a b : Option FileMap) (f : FileMap) → LeavesStrange → AreStrays store.dirs f store.strange → IfSome b (Agrees store) → Becomes a b (λ g. g ≡ f) (IsTidied store.dirs f)
    → Becomes a b (λ g. g ≡ f) (Spares store.dirs f)
opened_now store None None f law read k moves = tt
opened_now store None (Some g) f law read k moves = absurd moves
opened_now store (Some e) None f law read k moves = absurd moves
opened_now store (Some e) (Some g) f law read k moves = λ same. record { others = tidied_others law store.dirs f g (moves same); strange = read_on store f g read k }

opened_at : (store : StoreSeen) (a b : Spooled) (f : FileMap) → LeavesStrange → AreStrays store.dirs f store.strange → IfSome b.told (Agrees store) → Moves a b (λ g. g ≡ f) (IsTidied store.dirs f) (IsTidied store.dirs f)
    → Moves a b (λ g. g ≡ f) (Spares store.dirs f) (KeepsOthers store.dirs f)
opened_at store a b f law read k moves = record {
  later = moves.later;
  now = opened_now store a.told b.told f law read k moves.now;
  images = λ e told same t c le left. ⊎_elim (λ before. inl before) (λ tidied. inr (tidied_others law store.dirs f c tidied)) (moves.images e told same t c le left);
  kept = moves.kept;
}

-- an opening spares what its store leaves alone
pub sparing_opening : (store : StoreSeen) (a b : Spooled) (P Q R : FileMap → Type 0) → LeavesStrange → Moves a b P Q R → ((f : FileMap) → a.told ≡ Some f → AreStrays store.dirs f store.strange) → IfSome b.told (Agrees store)
    → ((f : FileMap) → a.told ≡ Some f → Moves a b (λ g. g ≡ f) (IsTidied store.dirs f) (IsTidied store.dirs f)) → IsSparing store.dirs a b true
sparing_opening store a b P Q R law runs read k tidied = λ f.
    moves_told a b (λ g. g ≡ f) (Spares store.dirs f) (KeepsOthers store.dirs f) P Q R runs
    (λ e told same. subst (λ (q : FileMap). Moves a b (λ g. g ≡ e) (Spares store.dirs q) (KeepsOthers store.dirs q)) same (opened_at store a b e law (read e told) k (tidied e told)))
