-- Before the renaming that decides: children wait for their parent, and the map stands for the
-- table before.
use Rattle.std.proofs.Common.{◌≡◌, ◌≢◌, ⊎_elim, ℕ, ◌<◌, ◌≤◌, List, Some, None, sym, ◌∙◌, ap, arith, Contains}
use Rattle.std.proofs.lemmas.Bool.{cases_lt}
use Rattle.std.proofs.lemmas.List.Elements.{All-contains, All-weaker}
use Rattle.mail_base.specs.declared.id.Kind.TheVariants.{Df, Qf, Tf}
use Rattle.spool_disk.specs.Disk.{Place, FileMap, bytes_at}
use Rattle.mail_base.specs.declared.control.Control.{Control}
use Rattle.mail_base.specs.declared.control.Parent.{Parent}
use Rattle.qf_format.specs.Spelling.{spelled}
use Rattle.spool_store.specs.Queue.{Spot, spot_place, body_place, IsSpot, IsControl, IsLive, alone, child}
use Rattle.spool_store.specs.Alike.{AreAlike}
use Rattle.spool_store.specs.Entries.{Stored, Table}
use Rattle.spool_store.specs.Settled.{spot_of, HasFiles, StandsFor, IsTidy, in_name}
use Rattle.spool_store.specs.Changes.{IsNew, IsAway, not_yet, lower, IsWaiting, IsMidway, as_before, body, draft, of_child, IsBefore}
use Rattle.spool_store.proofs.Reading.{says_one, same_spot}
use Rattle.spool_store.proofs.Places.{kinds_of, ids_of, not_kind}
use Rattle.spool_store.proofs.Carrying.{live_read, live_alike, alike_back}
use Rattle.spool_store.proofs.Standing.{one_live}
use Rattle.spool_store.proofs.Adding.{IsOf, live_named}

new_child : (dirs : List (List ℕ)) (next : ℕ) (drafted : Place → Type 0) (children : List Stored) (f g : FileMap) → IsBefore dirs next drafted children f g → (s : Stored) → Contains children s → IsNew dirs next s
new_child dirs next drafted children f g h s k = All-contains (IsNew dirs next) children s h.new k

same_control : (dirs : List (List ℕ)) (next : ℕ) (drafted : Place → Type 0) (children : List Stored) (f g : FileMap) → IsBefore dirs next drafted children f g → (t : Spot) → IsSpot dirs t → t.id < next → IsMidway next drafted children f g (spot_place t) → bytes_at g (spot_place t) ≡ bytes_at f (spot_place t)
same_control dirs next drafted children f g h t spot lt (as_before e) = e
same_control dirs next drafted children f g h t spot lt (body dir id le within e) = absurd ((not_kind t.kind spot.kind).0 (kinds_of t.dir dir t.kind Df t.id id e))
same_control dirs next drafted children f g h t spot lt (draft dir id d e) = absurd ((not_kind t.kind spot.kind).1 (kinds_of t.dir dir t.kind Tf t.id id e))
same_control dirs next drafted children f g h t spot lt (of_child s k e holds) =
    let new = new_child dirs next drafted children f g h s k in
    let i : t.id ≡ s.id = ids_of t.dir s.dir t.kind Qf t.id s.id spot.within new.within e in
    absurd (omega (arith, i, lt, new.free))

same_body : (dirs : List (List ℕ)) (next : ℕ) (drafted : Place → Type 0) (children : List Stored) (f g : FileMap) → IsBefore dirs next drafted children f g → (t : Spot) → IsSpot dirs t → t.id < next → IsMidway next drafted children f g (body_place t) → bytes_at g (body_place t) ≡ bytes_at f (body_place t)
same_body dirs next drafted children f g h t spot lt (as_before e) = e
same_body dirs next drafted children f g h t spot lt (body dir id le within e) =
    let i : t.id ≡ id = ids_of t.dir dir Df Df t.id id spot.within within e in absurd (omega (arith, i, lt, le))
same_body dirs next drafted children f g h t spot lt (draft dir id d e) = absurd (let z : Df ≡ Tf = kinds_of t.dir dir Df Tf t.id id e in cc z)
same_body dirs next drafted children f g h t spot lt (of_child s k e holds) = absurd (let z : Df ≡ Qf = kinds_of t.dir s.dir Df Qf t.id s.id e in cc z)

pub before_alike : (dirs : List (List ℕ)) (next : ℕ) (drafted : Place → Type 0) (children : List Stored) (f g : FileMap) → IsBefore dirs next drafted children f g → AreAlike dirs (λ id. id < next) f g
before_alike dirs next drafted children f g h = record {
  controls = λ t spot lt. same_control dirs next drafted children f g h t spot lt (h.at (spot_place t));
  bodies = λ t c lt read needs. same_body dirs next drafted children f g h t read.there.spot lt (h.at (body_place t));
  up = λ t c p lt read e less. omega (arith, lt, less);
}

-- a control file of a free id is that of a child
of_child_at : (dirs : List (List ℕ)) (next : ℕ) (drafted : Place → Type 0) (children : List Stored) (f g : FileMap) → IsBefore dirs next drafted children f g → IsTidy dirs next f → (t : Spot) (b : List ℕ) → IsControl dirs g t b → next ≤ t.id → IsMidway next drafted children f g (spot_place t) → IsOf children t b
of_child_at dirs next drafted children f g h tidy t b there le (as_before e) = absurd (let lt : t.id < next = tidy.fresh t.id (in_name t.dir t.kind b there.spot.among there.spot.within (sym e ∙ there.there)) in omega arith)
of_child_at dirs next drafted children f g h tidy t b there le (body dir id free within e) = absurd ((not_kind t.kind there.spot.kind).0 (kinds_of t.dir dir t.kind Df t.id id e))
of_child_at dirs next drafted children f g h tidy t b there le (draft dir id d e) = absurd ((not_kind t.kind there.spot.kind).1 (kinds_of t.dir dir t.kind Tf t.id id e))
of_child_at dirs next drafted children f g h tidy t b there le (of_child s k e holds) =
    let new = new_child dirs next drafted children f g h s k in
    let same : Some b ≡ Some (spelled s.control) = sym there.there ∙ holds in
    record { stored = s; among = k; is = same_spot t (spot_of Qf s) there.spot.within new.within e; bytes_are = cc }

of_child_entry : (dirs : List (List ℕ)) (next : ℕ) (drafted : Place → Type 0) (children : List Stored) (f g : FileMap) → IsBefore dirs next drafted children f g → IsTidy dirs next f → (t : Spot) (b : List ℕ) → IsControl dirs g t b → next ≤ t.id → IsOf children t b
of_child_entry dirs next drafted children f g h tidy t b there le = of_child_at dirs next drafted children f g h tidy t b there le (h.at (spot_place t))

-- nothing that a child waits for is there
none_above : (dirs : List (List ℕ)) (next : ℕ) (drafted : Place → Type 0) (children : List Stored) (f g : FileMap) → IsBefore dirs next drafted children f g → IsTidy dirs next f → (p : Parent) → IsAway dirs next f children p → (above : Spot) (d : Control) → above.id ≡ p.id → IsLive dirs g above d → p.revision ≤ d.revision → ⊥
none_above dirs next drafted children f g h tidy p (not_yet free none) above d i live le =
    let read = live_read live in
    let of = of_child_entry dirs next drafted children f g h tidy above read.bytes read.there (omega (arith, free, i)) in
    All-contains (λ (s : Stored). s.id ≢ p.id) children of.stored none of.among (sym (ap (λ (w : Spot). w.id) of.is) ∙ i)
none_above dirs next drafted children f g h tidy p (lower q c lt j old less) above d i live le =
    let under : above.id < next = omega (arith, i, lt) in
    let was = live_alike dirs (λ id. id < next) g f (alike_back dirs (λ id. id < next) f g (before_alike dirs next drafted children f g h)) above d under live in
    let one = one_live dirs f q above c d old was (i ∙ sym j) in
    omega (arith, le, less, ap (λ (w : Control). w.revision) one.1)

-- a child whose parent is away is not live
dead_by : (dirs : List (List ℕ)) (next : ℕ) (drafted : Place → Type 0) (children : List Stored) (f g : FileMap) → IsBefore dirs next drafted children f g → IsTidy dirs next f → (p : Parent) → IsAway dirs next f children p → {t : Spot} {c : Control} → IsLive dirs g t c → c.parent ≡ Some p → ⊥
dead_by dirs next drafted children f g h tidy p away (alone t c read plain none) e = let z : Some p ≡ None = sym e ∙ none in cc z
dead_by dirs next drafted children f g h tidy p away (child t c q above d read plain u live le) e =
    let z : q ≡ p = (let y : Some q ≡ Some p = sym u.parent ∙ e in cc) in
    none_above dirs next drafted children f g h tidy p away above d (u.id ∙ ap (λ (w : Parent). w.id) z) live (omega (arith, le, ap (λ (w : Parent). w.revision) z))

pub child_dead : (dirs : List (List ℕ)) (next : ℕ) (drafted : Place → Type 0) (children : List Stored) (f g : FileMap) → IsBefore dirs next drafted children f g → IsTidy dirs next f → (t : Spot) (c : Control) → next ≤ t.id → IsLive dirs g t c → ⊥
child_dead dirs next drafted children f g h tidy t c le live =
    let read = live_read live in
    let of = of_child_entry dirs next drafted children f g h tidy t read.bytes read.there le in
    let new = new_child dirs next drafted children f g h of.stored of.among in
    let one : c ≡ of.stored.control = says_one read.bytes c of.stored.control read.says (record { valid = new.valid; text = of.bytes_are }) in
    let waits = All-contains (IsWaiting dirs next f children) children of.stored h.waiting of.among in
    dead_by dirs next drafted children f g h tidy waits.parent waits.away live (ap (λ (w : Control). w.parent) one ∙ waits.is)

-- the map stands for what it stood for
pub before_stands : (dirs : List (List ℕ)) (table : Table) (drafted : Place → Type 0) (children : List Stored) (f g : FileMap) → IsBefore dirs table.next drafted children f g → IsTidy dirs table.next f → StandsFor dirs table f → StandsFor dirs table g
before_stands dirs table drafted children f g h tidy stands =
    let alike = before_alike dirs table.next drafted children f g h in
    record {
      ascending = stands.ascending;
      each = All-weaker (HasFiles dirs f) (HasFiles dirs g) (λ e has.
          let lt : e.id < table.next = tidy.fresh e.id (live_named dirs f (spot_of has.kind e) e.control has.live) in
          record {
            kind = has.kind;
            live = live_alike dirs (λ id. id < table.next) f g alike (spot_of has.kind e) e.control lt has.live;
            body = λ needs. alike.bodies (spot_of has.kind e) e.control lt (live_read has.live) needs ∙ has.body needs;
          }) table.entries stands.each;
      all = λ t c live. ⊎_elim
          (λ (lt : t.id < table.next). stands.all t c (live_alike dirs (λ id. id < table.next) g f (alike_back dirs (λ id. id < table.next) f g alike) t c lt live))
          (λ (le : table.next ≤ t.id). absurd (child_dead dirs table.next drafted children f g h tidy t c le live))
          (cases_lt t.id table.next);
    }
