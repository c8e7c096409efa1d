-- A finish, from a map with which the store agrees.
use Rattle.std.proofs.Common.{◌≡◌, ℕ, List, [], ◌∷◌, map, Bool, true, false, true≢false, Option, Some, None, refl, sym, ◌∙◌, ap, subst, Contains, if◌then◌else◌, eq-eqb, ne_eqb, ⊎_elim}
use Rattle.std.specs.Prelude.{IfSome, IsSome}
use Rattle.std.proofs.lemmas.Bool.{cases_eq}
use Rattle.std.proofs.lemmas.List.Elements.{All-contains}
use Rattle.mail_base.specs.Names.{name_of}
use Rattle.mail_base.specs.States.{is_finished}
use Rattle.mail_base.specs.declared.id.Kind.{Kind}
use Rattle.mail_base.specs.declared.id.Kind.TheVariants.{Qf, Sf}
use Rattle.spool_disk.specs.Disk.{Place, FileMap, bytes_at}
use Rattle.spool_disk.specs.Spooled.{Spooled}
use Rattle.spool_store.specs.inner.Finishing.{IsDone, HasFinished, IsRun}
use Rattle.spool_store.specs.Keepers.{CanFinish, IsFiled}
use Rattle.spool_store.specs.Moves.{Moves}
use Rattle.spool_store.specs.Queue.{spot_place, IsLive}
use Rattle.spool_store.specs.Stores.{StoreSeen, spot_at, kind_of, Agrees, refinished}
use Rattle.spool_store.specs.inner.Shelves.{Shelved}
use Rattle.spool_store.specs.Tidying.{IsTidied}
use Rattle.spool_store.specs.declared.held.Held.{Held}
use Rattle.spool_store.proofs.Carrying.{live_read}
use Rattle.spool_store.proofs.Finishing.{ended_agrees}
use Rattle.spool_store.proofs.MovesLemmas.{moves_told, moves_weaker, at_told}
use Rattle.spool_store.proofs.Readings.{some_of}
use Rattle.spool_store.proofs.Standing.{contains_head, contains_tail}

-- an entry of which every row is done, in a qf
pub done_of : (store : StoreSeen) (f : FileMap) (h : Held) → Agrees store f → Contains store.entries h → is_finished h.entry.control ≡ true → h.finished ≡ false → IsDone store.dirs f (spot_at h) h.entry.control
done_of store f h a k done queued = record {
  live = All-contains (λ (q : Held). IsLive store.dirs f (spot_at q) q.entry.control) store.entries h a.each k;
  kind = ap kind_of queued;
  closed = λ is_one. true≢false (sym done ∙ is_one);
}

-- the control file of an entry that isn't finished lies at its place
pub there_of : (o : Option FileMap) (store : StoreSeen) (h : Held) (dir qf : List ℕ) → IfSome o (Agrees store) → Contains store.entries h → h.finished ≡ false → dir ≡ h.entry.dir → qf ≡ name_of Qf h.entry.id → IfSome o (λ files. IsSome (bytes_at files (dir, qf)))
there_of None store h dir qf agrees k queued in_dir is = tt
there_of (Some f) store h dir qf a k queued in_dir is =
    let live : IsLive store.dirs f (spot_at h) h.entry.control = All-contains (λ (q : Held). IsLive store.dirs f (spot_at q) q.entry.control) store.entries h a.each k in
    let place : ◌≡◌ {A = Place} (spot_place (spot_at h)) (dir, qf) = λ i. (sym in_dir i, (ap (λ (b : Bool). name_of (kind_of b) h.entry.id) queued ∙ sym is) i) in
    some_of (bytes_at f (dir, qf)) (live_read live).bytes (ap (bytes_at f) (sym place) ∙ (live_read live).there.there)

-- from each map with which the store agrees
pub from_agreed_run : (a b : Spooled) (store : StoreSeen) (P S T : FileMap → Type 0) (Q R : FileMap → FileMap → Type 0) → IfSome a.told (Agrees store) → IsRun a b → ((f : FileMap) → Agrees store f → Moves a b (λ g. g ≡ f) (Q f) (R f))
    → ((f g : FileMap) → Agrees store f → P f → Q f g → S g) → ((f g : FileMap) → Agrees store f → P f → R f g → T g) → Moves a b P S T
from_agreed_run a b store P S T Q R agrees runs calls leads safe =
    moves_told a b P S T _ _ _ runs
    (λ f e p. let agreed = at_told a.told (Agrees store) agrees f e in
    moves_weaker a b (λ g. g ≡ f) (Q f) (R f) S T (λ x q. leads f x agreed p q) (λ x r. safe f x agreed p r) (calls f agreed))

-- a store with the entry finished agrees with what a finish leaves
pub finish_agrees : (store : StoreSeen) (f g : FileMap) (id : ℕ) (h : Held) → Agrees store f → h.entry.id ≡ id → IsDone store.dirs f (spot_at h) h.entry.control → HasFinished store.dirs f (spot_at h) h.entry.control g → Agrees (record store { entries = map (refinished id) store.entries }) g
finish_agrees store f g id h a is done e = subst (λ (n : ℕ). Agrees (record store { entries = map (refinished n) store.entries }) g) is (ended_agrees store (spot_at h) h.entry.control f g done e.ended a)

pub filed : (dirs : List (List ℕ)) (f g : FileMap) (h : Held) → IsDone dirs f (spot_at h) h.entry.control → HasFinished dirs f (spot_at h) h.entry.control g → IsFiled h g
filed dirs f g h done e =
    let gone : bytes_at g (h.entry.dir, name_of Qf h.entry.id) ≡ None = ap (λ (k : Kind). bytes_at g (h.entry.dir, name_of k h.entry.id)) (sym done.kind) ∙ e.ended.gone in
    record { queued = gone; finished = some_of (bytes_at g (h.entry.dir, name_of Sf h.entry.id)) (live_read done.live).bytes (e.ended.holds ∙ (live_read done.live).there.there); body = e.body }

-- an entry that has its other name already
step : (id : ℕ) (h : Held) → (h.entry.id ≡ id → h.finished ≡ true) → refinished id h ≡ h
step id h known = ⊎_elim
    (λ (e : h.entry.id ≡ id). ap (λ (b : Bool). if b then record h { finished = true } else h) (eq-eqb h.entry.id id e) ∙ (λ i. record h { finished = sym (known e) i }))
    (λ ne. ap (λ (b : Bool). if b then record h { finished = true } else h) (ne_eqb h.entry.id id ne))
    (cases_eq h.entry.id id)

-- entries of which that of an id is finished stay as they are
pub already : (items : List Held) (id : ℕ) → ((h : Held) → Contains items h → h.entry.id ≡ id → h.finished ≡ true) → map (refinished id) items ≡ items
already [] id known = refl
already (h ∷ items) id known = λ i. step id h (known h (contains_head h items)) i ∷ already items id (λ q k. known q (contains_tail h q items k)) i

-- a store with that entry finished
pub seen_finished : (w s : StoreSeen) (shelf : Shelved) (id : ℕ) → w ≡ s → shelf ≡ record { dirs = w.dirs; items = map (refinished id) w.entries; next = w.next; room = w.room } → record w { dirs = shelf.dirs; entries = shelf.items; next = shelf.next; room = shelf.room } ≡ record s { entries = map (refinished id) s.entries }
seen_finished w s shelf id e h = (λ i. record w { dirs = (h i).dirs; entries = (h i).items; next = (h i).next; room = (h i).room }) ∙ (λ i. record (e i) { entries = map (refinished id) (e i).entries })

-- the same for a finish
pub finish_run : (a b : Spooled) (store : StoreSeen) (id : ℕ) (can : CanFinish store.entries id) (P S T : FileMap → Type 0) (Q : Held → FileMap → FileMap → Type 0) → can.held.finished ≡ false → IfSome a.told (Agrees store) → IsRun a b
    → ((f : FileMap) (h : Held) → Contains store.entries h → h.entry.id ≡ id → IsDone store.dirs f (spot_at h) h.entry.control → Moves a b (λ g. g ≡ f) (Q h f) (IsTidied store.dirs f))
    → ((f g : FileMap) → Agrees store f → IsDone store.dirs f (spot_at can.held) can.held.entry.control → P f → Q can.held f g → S g) → ((f g : FileMap) → P f → IsTidied store.dirs f g → T g) → Moves a b P S T
finish_run a b store id can P S T Q queued agrees runs calls leads safe = from_agreed_run a b store P S T (Q can.held) (λ f. IsTidied store.dirs f) agrees runs
    (λ f a. calls f can.held can.among can.is (done_of store f can.held a can.among can.done queued))
    (λ f g a p q. leads f g a (done_of store f can.held a can.among can.done queued) p q)
    (λ f g a p r. safe f g p r)

-- what holds for each map holds where one is told
pub some_any : (o : Option FileMap) (P : FileMap → Type 0) → ((f : FileMap) → P f) → IfSome o P
some_any None P h = tt
some_any (Some f) P h = h f

-- the entry of the id is the one that is filed
pub filed_all : (dirs : List (List ℕ)) (items : List Held) (id : ℕ) (f g : FileMap) (one : Held) → ((h : Held) → Contains items h → h.entry.id ≡ id → h ≡ one) → IsDone dirs f (spot_at one) one.entry.control → HasFinished dirs f (spot_at one) one.entry.control g → (h : Held) → Contains items h → h.entry.id ≡ id → h.finished ≡ false → IsFiled h g
filed_all dirs items id f g one only done e h k has queued = subst (λ (q : Held). IsFiled q g) (sym (only h k has)) (filed dirs f g one done e)
