-- A store agrees with the files after each write.
use Rattle.std.proofs.Common.{◌≡◌, ◌≢◌, ⊎_elim, ℕ, ◌<◌, ◌≤◌, List, ◌++◌, map, Bool, sym, ◌∙◌, ap, subst, Contains, IsSome, if◌then◌else◌, eq-eqb, ne_eqb}
use Rattle.std.specs.Prelude.{All}
use Rattle.std.proofs.lemmas.Bool.{cases_eq, cases_lt}
use Rattle.std.proofs.lemmas.List.Elements.{All-weaker, All-map, All-append, All-contains_itself, All-contains, Contains-append_left, Contains-append_right}
use Rattle.mail_base.specs.declared.id.Kind.TheVariants.{Df, Qf}
use Rattle.mail_base.specs.declared.control.Control.{Control}
use Rattle.mail_base.specs.declared.control.Stray.{Stray}
use Rattle.spool_disk.specs.Disk.{Place, FileMap, bytes_at}
use Rattle.spool_store.specs.Queue.{Spot, IsRead, IsStrange, IsLive}
use Rattle.spool_store.specs.Entries.{Stored, Table}
use Rattle.spool_store.specs.Settled.{spot_of, StandsFor, IsTidy, IsSettled}
use Rattle.spool_store.specs.Tidying.{IsForeign}
use Rattle.spool_store.specs.Changes.{IsRaised, IsAdded, IsNew, IsPut, control, body, other}
use Rattle.spool_store.specs.Openings.{IsStray, other_name, strange_file}
use Rattle.spool_store.specs.Stores.{spot_at, StoreSeen, HasHeld, Agrees, Holds, recontrolled, entered}
use Rattle.spool_store.specs.declared.held.Held.{Held}
use Rattle.spool_store.proofs.Reading.{one_control}
use Rattle.spool_store.proofs.Carrying.{live_read, live_alike, alike_back}
use Rattle.spool_store.proofs.Standing.{one_live, one_spot}
use Rattle.spool_store.proofs.Raising.{spot_or, raised_read, raised_live, raised_strange, raised_strange_back, others_live, others_live_back}
use Rattle.spool_store.proofs.Replacing.{contains_map, whole_raised, named_raised, drafts_raised}
use Rattle.spool_store.proofs.Adding.{live_named, added_alike, added_live, added_strange, added_strange_back, of_added_read, added_tidy}

changed_at : (id : ℕ) (c : Control) (h : Held) → h.entry.id ≡ id → recontrolled id c h ≡ record h { entry = record h.entry { control = c } }
changed_at id c h i = ap (λ (b : Bool). if b then record h { entry = record h.entry { control = c } } else h) (eq-eqb h.entry.id id i)

changed_other : (id : ℕ) (c : Control) (h : Held) → h.entry.id ≢ id → recontrolled id c h ≡ h
changed_other id c h ne = ap (λ (b : Bool). if b then record h { entry = record h.entry { control = c } } else h) (ne_eqb h.entry.id id ne)

-- what is left alone
pub strays_alike : (dirs : List (List ℕ)) (f g : FileMap) → ((s : Spot) → IsStrange dirs f s → IsStrange dirs g s) → ((place : Place) → IsForeign dirs place → bytes_at g place ≡ bytes_at f place) → (stray : Stray) → IsStray dirs f stray → IsStray dirs g stray
strays_alike dirs f g strange same stray (other_name among apart there) =
    let foreign : IsForeign dirs (stray.dir, stray.name) = λ dir kind id d i e. apart kind id (ap (λ (p : Place). p.1) e) in
    other_name among apart (subst IsSome (sym (same (stray.dir, stray.name) foreign)) there)
strays_alike dirs f g strange same stray (strange_file s is dir name) = strange_file s (strange s is) dir name

raised_foreign : (dirs : List (List ℕ)) (s : Spot) (old new : Control) (f g : FileMap) → IsRaised dirs s old new f g → (place : Place) → IsForeign dirs place → bytes_at g place ≡ bytes_at f place
raised_foreign dirs s old new f g h place foreign =
    let spot = (live_read h.live).there.spot in
    h.others place (foreign s.dir s.kind s.id spot.among spot.within)

put_foreign : (dirs : List (List ℕ)) (next : ℕ) (added : List Stored) (f g : FileMap) (place : Place) → All (IsNew dirs next) added → IsForeign dirs place → IsPut added f g place → bytes_at g place ≡ bytes_at f place
put_foreign dirs next added f g place new foreign (control s k is holds) = let n = All-contains (IsNew dirs next) added s new k in absurd (foreign s.dir Qf s.id n.among n.within is)
put_foreign dirs next added f g place new foreign (body s k is holds) = let n = All-contains (IsNew dirs next) added s new k in absurd (foreign s.dir Df s.id n.among n.within is)
put_foreign dirs next added f g place new foreign (other e) = e

-- a replaced control
each_replaced : (dirs : List (List ℕ)) (s : Spot) (old new : Control) (f g : FileMap) → IsRaised dirs s old new f g → (h : Held) → IsLive dirs f (spot_at h) h.entry.control → IsLive dirs g (spot_at (recontrolled s.id new h)) (recontrolled s.id new h).entry.control
each_replaced dirs s old new f g r h live = ⊎_elim
    (λ (i : h.entry.id ≡ s.id).
    let one = one_live dirs f s (spot_at h) old h.entry.control r.live live i in
    subst (λ (q : Held). IsLive dirs g (spot_at q) q.entry.control) (sym (changed_at s.id new h i)) (subst (λ (q : Spot). IsLive dirs g q new) (sym one.0) (raised_live dirs s old new f g r)))
    (λ (i : h.entry.id ≢ s.id).
    subst (λ (q : Held). IsLive dirs g (spot_at q) q.entry.control) (sym (changed_other s.id new h i)) (others_live dirs s old new f g r (spot_at h) h.entry.control (λ q. i (ap (λ (r : Spot). r.id) q)) live))
    (cases_eq h.entry.id s.id)

all_replaced : (store : StoreSeen) (s : Spot) (old new : Control) (f g : FileMap) → IsRaised store.dirs s old new f g → Agrees store f → (t : Spot) (c : Control) → IsLive store.dirs g t c → HasHeld (map (recontrolled s.id new) store.entries) t c
all_replaced store s old new f g r a t c live = ⊎_elim
    (λ (e : t ≡ s).
    let one : c ≡ new = one_control store.dirs g s c new (subst (λ (q : Spot). IsRead store.dirs g q c) e (live_read live)) (raised_read store.dirs s old new f g r) in
    let has = a.all s old r.live in
    let is = changed_at s.id new has.held (ap (λ (q : Spot). q.id) has.spot) in
    record { held = recontrolled s.id new has.held; among = contains_map (recontrolled s.id new) has.held store.entries has.among; spot = ap spot_at is ∙ has.spot ∙ sym e; control = ap (λ (q : Held). q.entry.control) is ∙ sym one })
    (λ (ne : t ≢ s).
    let has = a.all t c (others_live_back store.dirs store.next s old new f g r a.tidy t c ne live) in
    let apart : has.held.entry.id ≢ s.id = λ i. ne (sym (one_spot store.dirs g t s c (raised_read store.dirs s old new f g r).bytes live (raised_read store.dirs s old new f g r).there (sym i ∙ ap (λ (q : Spot). q.id) has.spot))) in
    let is = changed_other s.id new has.held apart in
    record { held = recontrolled s.id new has.held; among = contains_map (recontrolled s.id new) has.held store.entries has.among; spot = ap spot_at is ∙ has.spot; control = ap (λ (q : Held). q.entry.control) is ∙ has.control })
    (spot_or store.dirs t s)

-- a store with the new control agrees with the map in which it was replaced
pub replaced_agrees : (store : StoreSeen) (s : Spot) (old new : Control) (f g : FileMap) → IsRaised store.dirs s old new f g → Agrees store f → Agrees (record store { entries = map (recontrolled s.id new) store.entries }) g
replaced_agrees store s old new f g r a = record {
  each = All-map (λ (h : Held). IsLive store.dirs g (spot_at h) h.entry.control) (recontrolled s.id new) store.entries (All-weaker (λ (h : Held). IsLive store.dirs f (spot_at h) h.entry.control) (λ (h : Held). IsLive store.dirs g (spot_at (recontrolled s.id new h)) (recontrolled s.id new h).entry.control) (each_replaced store.dirs s old new f g r) store.entries a.each);
  all = all_replaced store s old new f g r a;
  strange = λ stray. (
    λ k. (a.strange stray).0 (strays_alike store.dirs g f (λ t is. raised_strange_back store.dirs s old new f g r t is) (λ place foreign. sym (raised_foreign store.dirs s old new f g r place foreign)) stray k),
    λ m. strays_alike store.dirs f g (λ t is. raised_strange store.dirs s old new f g r t is) (raised_foreign store.dirs s old new f g r) stray ((a.strange stray).1 m),
  );
  tidy = record { whole = whole_raised store.dirs store.next s old new f g r a.tidy; fresh = λ id named. a.tidy.fresh id (named_raised store.dirs s old new f g r id named); drafts = drafts_raised store.dirs store.next s old new f g r a.tidy };
}

-- new entries
all_entered : (store : StoreSeen) (added : List Stored) (f g : FileMap) → IsAdded store.dirs store.next added f g → Agrees store f → (t : Spot) (c : Control) → IsLive store.dirs g t c → HasHeld (store.entries ++ map entered added) t c
all_entered store added f g h a t c live = ⊎_elim
    (λ (lt : t.id < store.next).
    let has = a.all t c (live_alike store.dirs (λ id. id < store.next) g f (alike_back store.dirs (λ id. id < store.next) f g (added_alike store.dirs store.next added f g h)) t c lt live) in
    record { held = has.held; among = Contains-append_left store.entries (map entered added) has.held has.among; spot = has.spot; control = has.control })
    (λ (le : store.next ≤ t.id).
    let r = of_added_read store.dirs store.next added f g h a.tidy t c (live_read live) le in
    record { held = entered r.0; among = Contains-append_right store.entries (map entered added) (entered r.0) (contains_map entered r.0 added r.1); spot = sym r.2; control = sym r.3 })
    (cases_lt t.id store.next)

-- a store that agrees with a map and takes in added entries agrees with the map with them
pub added_agrees : (store : StoreSeen) (added : List Stored) (after room : ℕ) (f g : FileMap) → IsAdded store.dirs store.next added f g → store.next ≤ after → All (λ s. s.id < after) added → Agrees store f → Agrees (record store { entries = store.entries ++ map entered added; next = after; room = room }) g
added_agrees store added after room f g h le below a = record {
  each = All-append (λ (e : Held). IsLive store.dirs g (spot_at e) e.entry.control) store.entries (map entered added)
      (All-weaker (λ (e : Held). IsLive store.dirs f (spot_at e) e.entry.control) (λ (e : Held). IsLive store.dirs g (spot_at e) e.entry.control) (λ e live. live_alike store.dirs (λ id. id < store.next) f g (added_alike store.dirs store.next added f g h) (spot_at e) e.entry.control (a.tidy.fresh e.entry.id (live_named store.dirs f (spot_at e) e.entry.control live)) live) store.entries a.each)
      (All-map (λ (e : Held). IsLive store.dirs g (spot_at e) e.entry.control) entered added (All-weaker (Contains added) (λ (s : Stored). IsLive store.dirs g (spot_of Qf s) s.control) (added_live store.dirs store.next added f g h a.tidy) added (All-contains_itself added)));
  all = all_entered store added f g h a;
  strange = λ stray. (
    λ k. (a.strange stray).0 (strays_alike store.dirs g f (λ t is. added_strange_back store.dirs store.next added f g h a.tidy t is) (λ place foreign. sym (put_foreign store.dirs store.next added f g place h.new foreign (h.at place))) stray k),
    λ m. strays_alike store.dirs f g (λ t is. added_strange store.dirs store.next added f g h a.tidy t is) (λ place foreign. put_foreign store.dirs store.next added f g place h.new foreign (h.at place)) stray ((a.strange stray).1 m),
  );
  tidy = added_tidy store.dirs store.next after added f g h a.tidy le below;
}

-- a table that a store holds, and that the files stand for
pub agrees_settled : (store : StoreSeen) (table : Table) (f : FileMap) → Agrees store f → Holds store table → StandsFor store.dirs table f → IsSettled store.dirs table f
agrees_settled store table f a holds stands = record { stands = stands; tidy = subst (λ (n : ℕ). IsTidy store.dirs n f) holds.next a.tidy }
