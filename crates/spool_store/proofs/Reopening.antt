-- A store agrees with the map that its opening left.
use Rattle.std.proofs.Common.{◌≡◌, inl, inr, ℕ, ◌<◌, List, [], ◌∷◌, length, get_or, arith, map, Bool, true, false, true≢false, ◌⊎◌, Option, Some, None, refl, sym, ◌∙◌, ap, subst, Contains}
use Rattle.std.specs.Prelude.{All, IfSome}
use Rattle.std.proofs.lemmas.List.{get_or-map, length-map}
use Rattle.std.proofs.lemmas.List.Elements.{All-map, All-weaker, All-contains_itself}
use Rattle.mail_base.specs.States.{is_finished}
use Rattle.mail_base.specs.declared.control.Control.{Control}
use Rattle.mail_base.specs.declared.control.Entry.{Entry}
use Rattle.mail_base.specs.declared.id.Kind.TheVariants.{Qf, Sf}
use Rattle.spool_disk.specs.Disk.{FileMap}
use Rattle.spool_disk.specs.Spooled.{Spooled}
use Rattle.spool_store.specs.Entries.{Table}
use Rattle.spool_store.specs.Moves.{Becomes}
use Rattle.spool_store.specs.Keepers.{IsReading}
use Rattle.spool_store.specs.Openings.{AreAscending, AreEntries, AreOrdered, AreStrays, IsFitting, IsNext}
use Rattle.spool_store.specs.Queue.{IsLive, Spot, reopened}
use Rattle.spool_store.specs.Settled.{IsSettled, StandsFor}
use Rattle.spool_store.specs.Stores.{Agrees, HasHeld, kind_of, spot_at}
use Rattle.spool_store.specs.inner.Shelves.{IsAscending}
use Rattle.spool_store.proofs.Fitting.{fits_taken}
use Rattle.spool_store.specs.Tidying.{IsClean, IsSwept, IsTidied}
use Rattle.spool_store.specs.declared.held.Held.{Held}
use Rattle.spool_store.specs.declared.opened.Opened.{Opened}
use Rattle.spool_store.specs.inner.Opening.{opened_store, taken_over}
use Rattle.spool_store.specs.inner.Sweeps.{Never}
use Rattle.spool_store.proofs.Agreeing.{strays_alike}
use Rattle.spool_store.proofs.Carrying.{live_plain, live_read}
use Rattle.spool_store.proofs.RecoveryLemmas.{some_told}
use Rattle.spool_store.proofs.Replacing.{contains_map}
use Rattle.spool_store.proofs.Sweeping.{swept_clean, swept_settled, swept_tidy, tidied_same}
use Rattle.spool_store.proofs.Tidying.{live_goes, origin, tidied_live, tidied_live_back, tidied_strange, went_dir, went_id}

-- an entry's control file has the name that its rows say
kind_by : (dirs : List (List ℕ)) (g : FileMap) (t : Spot) (c : Control) (b : Bool) → IsSwept dirs g → IsLive dirs g t c → is_finished c ≡ b → (t.kind ≡ Qf) ⊎ (t.kind ≡ Sf) → kind_of b ≡ t.kind
kind_by dirs g t c true swept live e (inl qf) = absurd (true≢false (sym e ∙ swept.waiting t c live qf))
kind_by dirs g t c false swept live e (inl qf) = sym qf
kind_by dirs g t c true swept live e (inr sf) = sym sf
kind_by dirs g t c false swept live e (inr sf) = absurd (live_plain live (reopened t c (live_read live) sf e))

live_kind : (dirs : List (List ℕ)) (g : FileMap) (t : Spot) (c : Control) → IsSwept dirs g → IsLive dirs g t c → kind_of (is_finished c) ≡ t.kind
live_kind dirs g t c swept live = kind_by dirs g t c (is_finished c) swept live refl (live_read live).there.spot.kind

-- what an opening found of a map, and left of it
pub record IsOpened (dirs : List (List ℕ)) (f g : FileMap) (o : Opened) : Type 0 where
  pub tidied : IsTidied dirs f g
  pub swept : IsSwept dirs g
  pub entries : AreEntries dirs f o.entries
  pub strange : AreStrays dirs f o.strange
  pub next : IsNext dirs f o.next

each_opened : (dirs : List (List ℕ)) (f g : FileMap) (o : Opened) → IsOpened dirs f g o → (e : Entry) → Contains o.entries e → IsLive dirs g (spot_at (taken_over e)) e.control
each_opened dirs f g o h e k =
    let was = h.entries.each e k in
    let s : Spot = record { dir = e.dir; kind = was.0; id = e.id } in
    let goes = live_goes dirs f g h.tidied s e.control was.1 in
    let live = tidied_live dirs f g h.tidied s goes.0 e.control goes.1 was.1 in
    let kind = live_kind dirs g goes.0 e.control h.swept live in
    subst (λ (q : Spot). IsLive dirs g q e.control) (λ i. record { dir = went_dir goes.1 i; kind = sym kind i; id = went_id goes.1 i }) live

all_opened : (dirs : List (List ℕ)) (f g : FileMap) (o : Opened) → IsOpened dirs f g o → (t : Spot) (c : Control) → IsLive dirs g t c → HasHeld (map taken_over o.entries) t c
all_opened dirs f g o h t c live =
    let from = origin dirs f g h.tidied t (live_read live).bytes (live_read live).there in
    let s : Spot = from.0 in
    let e : Entry = record { id = s.id; dir = s.dir; control = c } in
    let kind = live_kind dirs g t c h.swept live in
    record {
      held = taken_over e;
      among = contains_map taken_over e o.entries (h.entries.all s c (tidied_live_back dirs f g h.tidied t s c from.1 live));
      spot = λ i. record { dir = sym (went_dir from.1) i; kind = kind i; id = sym (went_id from.1) i };
      control = refl;
    }

pub opened_agrees : (dirs : List (List ℕ)) (f g : FileMap) (o : Opened) → IsOpened dirs f g o → Agrees (opened_store dirs o) g
opened_agrees dirs f g o h = record {
  each = All-map (λ (q : Held). IsLive dirs g (spot_at q) q.entry.control) taken_over o.entries (All-weaker (Contains o.entries) (λ (e : Entry). IsLive dirs g (spot_at (taken_over e)) e.control) (each_opened dirs f g o h) o.entries (All-contains_itself o.entries));
  all = all_opened dirs f g o h;
  strange = λ stray. (
    λ k. h.strange.all stray (strays_alike dirs g f (tidied_same dirs f g h.tidied) (λ place foreign. sym (h.tidied.others place foreign)) stray k),
    λ m. strays_alike dirs f g (tidied_strange dirs f g h.tidied) h.tidied.others stray (h.strange.each stray m),
  );
  tidy = swept_tidy dirs o.next f g h.tidied h.next.above h.swept;
}

pub opened_settled : (dirs : List (List ℕ)) (f g : FileMap) (o : Opened) (table : Table) → IsOpened dirs f g o → StandsFor dirs table f → IsSettled dirs (record { entries = table.entries; next = o.next }) g
opened_settled dirs f g o table h stands = swept_settled dirs (record { entries = table.entries; next = o.next }) f g h.tidied (record { ascending = stands.ascending; each = stands.each; all = stands.all }) h.next.above h.swept

-- where it is told
becomes_opened : (a b : Option FileMap) (dirs : List (List ℕ)) (o : Opened) → Becomes a b Never Never → ((f : FileMap) → a ≡ Some f → Becomes a b (λ g. g ≡ f) (λ g. IsTidied dirs f g × IsSwept dirs g)) → ((f : FileMap) → a ≡ Some f → AreEntries dirs f o.entries) → ((f : FileMap) → a ≡ Some f → AreStrays dirs f o.strange) → ((f : FileMap) → a ≡ Some f → IsNext dirs f o.next) → (g : FileMap) → b ≡ Some g → (f : FileMap) × (a ≡ Some f) × IsOpened dirs f g o
becomes_opened None None dirs o steps leads entries strange next g e = cc
becomes_opened None (Some q) dirs o steps leads entries strange next g e = absurd steps
becomes_opened (Some f) None dirs o steps leads entries strange next g e = absurd steps
becomes_opened (Some f) (Some q) dirs o steps leads entries strange next g e =
    let same : q ≡ g = cc e in
    let led = subst (λ (x : FileMap). IsTidied dirs f x × IsSwept dirs x) same (leads f refl refl) in
    (f, refl, record { tidied = led.0; swept = led.1; entries = entries f refl; strange = strange f refl; next = next f refl })

-- what a call that has opened it knows
pub record HasOpened (a b : Spooled) (dirs : List (List ℕ)) (o : Opened) : Type 0 where
  pub steps : Becomes a.told b.told Never Never
  pub leads : (f : FileMap) → a.told ≡ Some f → Becomes a.told b.told (λ g. g ≡ f) (λ g. IsTidied dirs f g × IsSwept dirs g)
  pub entries : (f : FileMap) → a.told ≡ Some f → AreEntries dirs f o.entries
  pub strange : (f : FileMap) → a.told ≡ Some f → AreStrays dirs f o.strange
  pub next : (f : FileMap) → a.told ≡ Some f → IsNext dirs f o.next

-- the store that an opening gives agrees with the map that the opening leaves
pub agrees_now : (a b : Spooled) (dirs : List (List ℕ)) (o : Opened) → HasOpened a b dirs o → IfSome b.told (Agrees (opened_store dirs o))
agrees_now a b dirs o h = some_told b.told (Agrees (opened_store dirs o)) (λ g e. let k = becomes_opened a.told b.told dirs o h.steps h.leads h.entries h.strange h.next g e in opened_agrees dirs k.0 g o k.2)

some_is : (o : Option FileMap) (f g : FileMap) → o ≡ Some f → o ≡ Some g → g ≡ f
some_is None f g p q = cc
some_is (Some x) f g p q = let one : x ≡ f = cc p in let other : x ≡ g = cc q in sym other ∙ one

-- the map that an opening leaves is settled with the table that the old one stood for
pub settled_now : (a b : Spooled) (dirs : List (List ℕ)) (o : Opened) (table : Table) (f : FileMap) → HasOpened a b dirs o → a.told ≡ Some f → StandsFor dirs table f → IfSome b.told (IsSettled dirs (record { entries = table.entries; next = o.next }))
settled_now a b dirs o table f h e stands = some_told b.told (IsSettled dirs (record { entries = table.entries; next = o.next })) (λ g q.
    let k = becomes_opened a.told b.told dirs o h.steps h.leads h.entries h.strange h.next g q in
    opened_settled dirs k.0 g o table k.2 (subst (λ (x : FileMap). StandsFor dirs table x) (some_is a.told k.0 f k.1 e) stands))

-- the map that an opening leaves is clean
pub clean_now : (a b : Spooled) (dirs : List (List ℕ)) (o : Opened) → HasOpened a b dirs o → IfSome b.told (IsClean dirs)
clean_now a b dirs o h = some_told b.told (IsClean dirs) (λ g e. swept_clean dirs g (becomes_opened a.told b.told dirs o h.steps h.leads h.entries h.strange h.next g e).2.swept)

-- what the store is of the map that was found
entries_back : (es : List Entry) → map (λ (h : Held). h.entry) (map taken_over es) ≡ es
entries_back [] = refl
entries_back (e ∷ es) = λ i. e ∷ entries_back es i

-- the store that an opening gives is a reading of the map that was found
pub reading_of : (a b : Spooled) (dirs : List (List ℕ)) (o : Opened) (f : FileMap) → HasOpened a b dirs o → a.told ≡ Some f → IsReading dirs f (opened_store dirs o)
reading_of a b dirs o f h e = record { entries = subst (AreEntries dirs f) (sym (entries_back o.entries)) (h.entries f e); strange = h.strange f e; next = h.next f e }

-- entries in order
taken_ascends : (es : List Entry) → AreAscending es → IsAscending (map taken_over es)
taken_ascends es up i j d lt within =
    let long : length (map taken_over es) ≡ length es = length-map es taken_over in
    let one : get_or (map taken_over es) i d ≡ taken_over (get_or es i d.entry) = get_or-map taken_over es i d.entry d (omega (arith, lt, within, long)) in
    let other : get_or (map taken_over es) j d ≡ taken_over (get_or es j d.entry) = get_or-map taken_over es j d.entry d (omega (arith, within, long)) in
    let less = up i j d.entry lt (omega (arith, within, long)) in
    let first = ap (λ (h : Held). h.entry.id) one in
    let second = ap (λ (h : Held). h.entry.id) other in
    omega (arith, less, first, second)

-- entries that are in order below an id stay so on the shelf
pub shelf_ordered : (dirs : List (List ℕ)) (es : List Entry) (next : ℕ) (held : List Held) → held ≡ map taken_over es → AreOrdered es next → All (IsFitting dirs) es → IsAscending held × (All (λ (h : Held). h.entry.id < next) held × All (λ (h : Held). IsFitting dirs h.entry) held)
shelf_ordered dirs es next held is h fit = (subst IsAscending (sym is) (taken_ascends es h.ascending), (subst (All (λ (x : Held). x.entry.id < next)) (sym is) (All-map (λ (x : Held). x.entry.id < next) taken_over es h.below), fits_taken dirs es held is fit))
