-- What the calls of an opening make of a map.
use Rattle.std.proofs.Common.{◌≡◌, ◌≢◌, ◌⊎◌, inl, inr, ⊎_elim, ℕ, ◌+◌, ◌<◌, List, [], ◌∷◌, ◌++◌, map, length, take, drop, get_or, Option, Some, None, IsSome, Result, Ok, Err, refl, sym, ◌∙◌, ap, subst, Contains}
use Rattle.std.specs.Prelude.{IfSome, IsOk, IsErrOf}
use Rattle.std.proofs.Math.Nat.{le_refl, le_trans}
use Rattle.std.proofs.lemmas.List.Elements.{Contains-append_left, Contains-append_right, Contains-append_cases, Contains-push, Contains-push_cases}
use Rattle.mail_base.specs.declared.id.Kind.{Kind}
use Rattle.mail_base.specs.declared.id.Kind.TheVariants.{Qf, Sf}
use Rattle.std.proofs.lemmas.List.{take_more, append_assoc, append-nil, take-append-drop, map-append}
use Rattle.mail_base.specs.declared.control.Control.{Control}
use Rattle.mail_base.specs.Names.{name_of}
use Rattle.mail_base.specs.Histories.{Rose}
use Rattle.mail_base.specs.declared.fault.StoreFault.{StoreFault}
use Rattle.mail_base.specs.declared.fault.StoreFault.TheVariants.{SpoolFault, IdsSpent, NoMemory}
use Rattle.mail_base.specs.States.{NeedsBody}
use Rattle.spool_disk.specs.Disk.{Place, FileMap, bytes_at, IsSame, HasRemoved, HasRenamed as DiskRenamed}
use Rattle.spool_disk.specs.Spooled.{Spooled, Calls, Leads, Reads, Rests}
use Rattle.spool_store.specs.Moves.{Moves, Becomes, Ends}
use Rattle.spool_store.specs.Queue.{at, Spot, spot_place, IsControl, IsRead, IsStrange, IsLive}
use Rattle.spool_store.specs.Tidying.{HasRenamed, IsTidied, IsDead, as_kind}
use Rattle.spool_store.specs.declared.named.Named.{Named}
use Rattle.spool_store.specs.inner.Finds.{dir_at, spot_named}
use Rattle.spool_store.specs.inner.Looks.{Looks}
use Rattle.spool_store.specs.inner.Sweeps.{Counts, Never, IsSweptOf, IsDecided, IsUnwanted, MayFinish, MayGo, a_draft, a_dead, a_body, place_named, places}
use Rattle.spool_store.proofs.Reading.{one_control}
use Rattle.spool_store.proofs.Replacing.{place_or}
use Rattle.spool_store.proofs.Carrying.{live_read}
use Rattle.spool_store.proofs.Tidying.{Went, stayed, went, origin, read_back, went_id}
use Rattle.spool_store.proofs.Sweeping.{tidied_unchanged, drop_draft, drop_body, drop_control, move_live}
use Rattle.spool_store.proofs.Finding.{none_in}
use Rattle.spool_store.proofs.Places.{kinds_of}
use Rattle.spool_store.proofs.Readings.{dir_among, some_bytes}
use Rattle.spool_store.proofs.MovesLemmas.{moves_call, moves_join, moves_none}

-- what is known of the told map
becomes_with : (a b : Option FileMap) (F P Q : FileMap → Type 0) → IfSome a F → Becomes a b (λ g. P g × F g) Q → Becomes a b P Q
becomes_with None None F P Q k h = tt
becomes_with None (Some g) F P Q k h = absurd h
becomes_with (Some f) None F P Q k h = absurd h
becomes_with (Some f) (Some g) F P Q k h = λ p. h (p, k)

pub moves_with : (a b : Spooled) (F P Q R : FileMap → Type 0) → IfSome a.told F → Moves a b (λ g. P g × F g) Q R → Moves a b P Q R
moves_with a b F P Q R k h = record {
  later = h.later;
  now = becomes_with a.told b.told F P Q k h.now;
  images = λ f e p t x le left. h.images f e (p, subst (λ (o : Option FileMap). IfSome o F) e k) t x le left;
  kept = h.kept;
}

-- a call that only reads
becomes_read : (a b : Option FileMap) (P Q : FileMap → Type 0) → Leads a b Rests Rests (Unit {0}) → ((g : FileMap) → P g → Q g) → Becomes a b P Q
becomes_read None None P Q h to = tt
becomes_read None (Some g) P Q h to = absurd h
becomes_read (Some f) None P Q h to = absurd h
becomes_read (Some f) (Some g) P Q h to = λ p. subst Q (sym h.0) (to f p)

-- calls that only read lead to what follows from the fact before
pub moves_read : (a b : Spooled) (P Q R : FileMap → Type 0) → Reads a b → ((g : FileMap) → P g → Q g) → ((g : FileMap) → P g → R g) → Moves a b P Q R
moves_read a b P Q R h to any = record {
  later = h.later;
  now = becomes_read a.told b.told P Q h.now to;
  images = λ f e p t x le left. ⊎_elim (λ before. inl before) (λ (i : x ≡ f). inr (subst R (sym i) (any f p))) (h.images f e t x le left);
  kept = h.kept;
}

-- counts
pub counts_none : {T : Type 0} (a : Spooled) (x : T) → Counts {T = T} a a (Ok x)
counts_none a x = record { steps = moves_none a Never Never Never (λ g n. n); later = le_refl a.faults; never = λ e. cc e; cause = λ e. absurd (cc e); calm = inr refl }

-- want of memory, where no call was made, counts no fault
pub counts_starved : {T : Type 0} (a : Spooled) (r : Result T StoreFault) → r ≡ Err NoMemory → Counts {T = T} a a r
counts_starved {T} a r is = subst (Counts {T = T} a a) (sym is) (record { steps = moves_none a Never Never Never (λ g n. n); later = le_refl a.faults; never = λ e. cc e; cause = λ e. absurd (cc e); calm = inr refl })

-- calls that went well and those after them count their faults together
pub counts_then : {T U : Type 0} (a b c : Spooled) (x : T) (r : Result U StoreFault) → Counts {T = T} a b (Ok x) → Counts {T = U} b c r → Counts {T = U} a c r
counts_then {T} {U} a b c x r h k =
    let same : b.faults ≡ a.faults = ⊎_elim (λ (e : IsErrOf {T = T} (Ok x) SpoolFault). absurd (cc e)) (λ (q : b.faults ≡ a.faults). q) h.calm in
    record {
      steps = moves_join a b c Never Never Never Never h.steps k.steps;
      later = le_trans h.later k.later;
      never = k.never;
      cause = λ e. subst (λ (n : ℕ). Rose n c.faults) same (k.cause e);
      calm = ⊎_elim (λ (e : IsErrOf r SpoolFault). inl e) (λ (e : c.faults ≡ b.faults). inr (e ∙ same)) k.calm;
    }

-- a failure that is handed on counts as the first did
pub counts_err : {T U : Type 0} (a b : Spooled) (e : StoreFault) (r : Result U StoreFault) → r ≡ Err e → Counts {T = T} a b (Err e) → Counts {T = U} a b r
counts_err {T} {U} a b e r is h = subst (Counts {T = U} a b) (sym is) (record {
  steps = h.steps;
  later = h.later;
  never = λ (q : IsErrOf {T = U} (Err e) IdsSpent). h.never (cc q);
  cause = λ (q : IsErrOf {T = U} (Err e) SpoolFault). h.cause (cc q);
  calm = ⊎_elim (λ (q : IsErrOf {T = T} (Err e) SpoolFault). inl (cc q)) (λ (q : b.faults ≡ a.faults). inr q) h.calm;
})

-- calls that only read
pub counts_looks : {T : Type 0} (a b : Spooled) (r : Result T StoreFault) → Looks {T = T} a b r → Counts {T = T} a b r
counts_looks a b r h = record { steps = moves_read a b Never Never Never h.reads (λ g n. n) (λ g n. n); later = h.later; never = h.never; cause = h.cause; calm = h.calm }

-- a file that is taken away, and those that are gone already
gone_more : (dirs : List (List ℕ)) (g h : FileMap) (done : List Place) (p : Place) → ((q : Place) → Contains done q → bytes_at g q ≡ None) → HasRemoved p g h → (q : Place) → Contains (done ++ p ∷ []) q → bytes_at h q ≡ None
gone_more dirs g h done p gone r q c = ⊎_elim
    (λ (e : q ≡ p). ap (bytes_at h) e ∙ r.gone)
    (λ (ne : q ≢ p). ⊎_elim (λ (was : Contains done q). r.others q ne ∙ gone q was) (λ (e : p ≡ q). absurd (ne (sym e))) (Contains-push_cases done p q c))
    (place_or q p)

-- a dead control file that is gone is read no more
pub gone_dead : (dirs : List (List ℕ)) (f g : FileMap) (o s : Spot) (b : List ℕ) → Went dirs f g o s → IsDead dirs f o → bytes_at g (spot_place o) ≡ None → IsControl dirs g s b → ⊥
gone_dead dirs f g o s b (stayed _ e) dead none there = let z : Some b ≡ None = sym there.there ∙ none in cc z
gone_dead dirs f g o s b (went _ m) dead none there = dead.lost m.control m.live

-- what is read in a tidied map was dead in the map that was found, or is live there, or strange
wants_none : (dirs : List (List ℕ)) (f g : FileMap) (done : List Place) (x : Named) → IsTidied dirs f g → ((q : Place) → Contains done q → bytes_at g q ≡ None) → ((s : Spot) → IsDead dirs f s → Contains done (spot_place s)) → IsUnwanted dirs f x
    → IsDecided dirs f
    → (s : Spot) (c : Control) → s.id ≡ x.id → IsRead dirs g s c → NeedsBody c → ⊥
wants_none dirs f g done x tidied gone dead unwanted decided s c i read needs =
    let o = origin dirs f g tidied s read.bytes read.there in
    let was = read_back o.1 c read in
    ⊎_elim
    (λ (k : IsStrange dirs f o.0). unwanted.strange o.0 (sym (went_id o.1) ∙ i) k)
    (λ (rest : IsDead dirs f o.0 ⊎ ((e : Control) × IsLive dirs f o.0 e)). ⊎_elim
    (λ (k : IsDead dirs f o.0). gone_dead dirs f g o.0 s read.bytes o.1 k (gone (spot_place o.0) (dead o.0 k)) read.there)
    (λ (k : (e : Control) × IsLive dirs f o.0 e). unwanted.live o.0 k.0 (sym (went_id o.1) ∙ i) k.1 (subst NeedsBody (one_control dirs f o.0 c k.0 was (live_read k.1)) needs))
    rest)
    (decided.verdict o.0 was.bytes was.there)

-- each file that may go leaves a tidied map
removed_named : (dirs : List (List ℕ)) (f g h : FileMap) (done : List Place) (x : Named) → MayGo dirs f done x → IsSweptOf dirs f done g → HasRemoved (place_named dirs x) g h → IsTidied dirs f h
removed_named dirs f g h done x (a_draft kind before within) swept r = drop_draft dirs f g h (dir_at dirs x.dir) x.id (dir_among dirs x.dir before) within swept.tidied (subst (λ (k : Kind). HasRemoved (at (dir_at dirs x.dir) k x.id) g h) kind r)
removed_named dirs f g h done x (a_dead dead) swept r = drop_control dirs f g h (spot_named dirs x) dead swept.tidied r
removed_named dirs f g h done x (a_body kind before within dead unwanted decided) swept r = drop_body dirs f g h (dir_at dirs x.dir) x.id (dir_among dirs x.dir before) within unwanted.strange (wants_none dirs f g done x swept.tidied swept.gone dead unwanted decided) swept.tidied (subst (λ (k : Kind). HasRemoved (at (dir_at dirs x.dir) k x.id) g h) kind r)

remove_leads : (dirs : List (List ℕ)) (f : FileMap) (done : List Place) (x : Named) → MayGo dirs f done x → (g h : FileMap) → IsSweptOf dirs f done g → HasRemoved (place_named dirs x) g h → IsSweptOf dirs f (done ++ place_named dirs x ∷ []) h
remove_leads dirs f done x may g h swept r = record { tidied = removed_named dirs f g h done x may swept r; gone = gone_more dirs g h done (place_named dirs x) swept.gone r }

remove_safe : (dirs : List (List ℕ)) (f : FileMap) (done : List Place) (x : Named) → MayGo dirs f done x → (g h : FileMap) → IsSweptOf dirs f done g → IsSame g h ⊎ HasRemoved (place_named dirs x) g h → IsTidied dirs f h
remove_safe dirs f done x may g h swept (inl same) = tidied_unchanged dirs f g h same swept.tidied
remove_safe dirs f done x may g h swept (inr r) = removed_named dirs f g h done x may swept r

-- the call that takes it away
pub remove_moves : {T E : Type 0} (a b : Spooled) (dirs : List (List ℕ)) (f : FileMap) (done : List Place) (x : Named) (r : Result T E) → MayGo dirs f done x → Calls a b (λ g h. IsSame g h ⊎ HasRemoved (place_named dirs x) g h) (HasRemoved (place_named dirs x)) (IsOk r) → Moves a b (IsSweptOf dirs f done) (Ends r (IsSweptOf dirs f (done ++ place_named dirs x ∷ [])) (IsTidied dirs f)) (IsTidied dirs f)
remove_moves a b dirs f done x r may call = moves_call a b _ _ r _ _ _ call (remove_safe dirs f done x may) (remove_leads dirs f done x may)

-- nothing was called
pub swept_none : (a : Spooled) (dirs : List (List ℕ)) (f : FileMap) (done : List Place) → Moves a a (IsSweptOf dirs f done) (IsTidied dirs f) (IsTidied dirs f)
swept_none a dirs f done = moves_none a _ _ _ (λ g swept. swept.tidied)

-- what may go still may when more is gone
pub may_more : (dirs : List (List ℕ)) (f : FileMap) (done more : List Place) (x : Named) → MayGo dirs f done x → MayGo dirs f (done ++ more) x
may_more dirs f done more x (a_draft kind before within) = a_draft kind before within
may_more dirs f done more x (a_dead dead) = a_dead dead
may_more dirs f done more x (a_body kind before within dead unwanted decided) = a_body kind before within (λ s k. Contains-append_left done more (spot_place s) (dead s k)) unwanted decided

-- what a mapped list has
one_item : {Y : Type 0} (x y : Y) → Contains (x ∷ []) y → x ≡ y
one_item x y c = ⊎_elim (λ (was : Contains [] y). absurd (none_in y was)) (λ (e : x ≡ y). e) (Contains-push_cases [] x y c)

-- what the image of a list has is the image of one that the list has
pub of_map : {X Y : Type 0} (n : X → Y) (xs : List X) (y : Y) → Contains (map n xs) y → (x : X) × Contains xs x × (n x ≡ y)
of_map n [] y c = absurd (none_in y c)
of_map n (x ∷ xs) y c = ⊎_elim
    (λ (here : Contains (n x ∷ []) y). (x, Contains-append_left (x ∷ []) xs x (Contains-push [] x), one_item (n x) y here))
    (λ (there : Contains (map n xs) y). let o = of_map n xs y there in (o.0, Contains-append_right (x ∷ []) xs o.0 o.1, o.2))
    (Contains-append_cases (n x ∷ []) (map n xs) y c)

-- one more place
pub places_more : (dirs : List (List ℕ)) (done : List Place) (xs : List Named) (i : ℕ) (x : Named) → i < length xs → x ≡ get_or xs i x → done ++ places dirs (take (i + 1) xs) ≡ (done ++ places dirs (take i xs)) ++ place_named dirs x ∷ []
places_more dirs done xs i x lt is =
    ap (λ (q : List Named). done ++ places dirs q) (take_more xs i x lt ∙ ap (λ (y : Named). take i xs ++ y ∷ []) (sym is))
    ∙ ap (λ (q : List Place). done ++ q) (map-append (place_named dirs) (take i xs) (x ∷ []))
    ∙ sym (append_assoc done (places dirs (take i xs)) (place_named dirs x ∷ []))

renamed_by : (dirs : List (List ℕ)) (f g h : FileMap) (done : List Place) (x : Named) → MayFinish dirs f done x → IsSome (bytes_at g (place_named dirs x)) → IsSweptOf dirs f done g → HasRenamed (place_named dirs x) (spot_place (as_kind Sf (spot_named dirs x))) g h → IsSweptOf dirs f (done ++ place_named dirs x ∷ []) h
renamed_by dirs f g h done x may there swept r =
    let b = some_bytes (bytes_at g (place_named dirs x)) there in
    let spot = (live_read may.entry.live).there.spot in
    record {
      tidied = move_live dirs f g h (spot_named dirs x) may.entry.control (record { kind = may.entry.kind; live = may.entry.live; closed = may.entry.closed; bytes = b.0; there = record { spot = spot; there = b.1 }; renamed = r }) swept.tidied;
      gone = λ q c. ⊎_elim
          (λ (e : q ≡ place_named dirs x). ap (bytes_at h) e ∙ r.gone)
          (λ (ne : q ≢ place_named dirs x). ⊎_elim
          (λ (was : Contains done q). r.others q ne (λ e. may.free (subst (λ (p : Place). Contains done p) e was)) ∙ swept.gone q was)
          (λ (e : place_named dirs x ≡ q). absurd (ne (sym e)))
          (Contains-push_cases done (place_named dirs x) q c))
          (place_or q (place_named dirs x));
    }

-- it is gone already
pub gone_already : (dirs : List (List ℕ)) (f g : FileMap) (done : List Place) (x : Named) → bytes_at g (place_named dirs x) ≡ None → IsSweptOf dirs f done g → IsSweptOf dirs f (done ++ place_named dirs x ∷ []) g
gone_already dirs f g done x none swept = record { tidied = swept.tidied; gone = λ q c. ⊎_elim (λ (was : Contains done q). swept.gone q was) (λ (e : place_named dirs x ≡ q). subst (λ (p : Place). bytes_at g p ≡ None) e none) (Contains-push_cases done (place_named dirs x) q c) }

renamed_at : (dir from to : List ℕ) (p q : Place) (g h : FileMap) → p ≡ (dir, from) → q ≡ (dir, to) → DiskRenamed dir from to g h → HasRenamed p q g h
renamed_at dir from to p q g h a b r = record { holds = ap (bytes_at h) b ∙ r.holds ∙ sym (ap (bytes_at g) a); gone = ap (bytes_at h) a ∙ r.gone; others = λ o m n. r.others o (λ e. m (e ∙ sym a)) (λ e. n (e ∙ sym b)) }

-- the call that gives it its name
pub rename_moves : {T E : Type 0} (a b : Spooled) (dirs : List (List ℕ)) (f : FileMap) (done : List Place) (x : Named) (dir from to : List ℕ) (r : Result T E) → MayFinish dirs f done x → place_named dirs x ≡ (dir, from) → spot_place (as_kind Sf (spot_named dirs x)) ≡ (dir, to) → IfSome a.told (λ g. IsSome (bytes_at g (dir, from)))
    → Calls a b (λ g h. IsSame g h ⊎ DiskRenamed dir from to g h) (DiskRenamed dir from to) (IsOk r) → Moves a b (IsSweptOf dirs f done) (Ends r (IsSweptOf dirs f (done ++ place_named dirs x ∷ [])) (IsTidied dirs f)) (IsTidied dirs f)
rename_moves a b dirs f done x dir from to r may p q there call = moves_with a b (λ g. IsSome (bytes_at g (dir, from))) (IsSweptOf dirs f done) _ _ there
    (moves_call a b _ _ r (λ g. IsSweptOf dirs f done g × IsSome (bytes_at g (dir, from))) _ _ call
    (λ g h s i. ⊎_elim
    (λ (same : IsSame g h). tidied_unchanged dirs f g h same s.0.tidied)
    (λ (n : DiskRenamed dir from to g h). (renamed_by dirs f g h done x may (subst (λ (z : Place). IsSome (bytes_at g z)) (sym p) s.1) s.0 (renamed_at dir from to _ _ g h p q n)).tidied)
    i)
    (λ g h s n. renamed_by dirs f g h done x may (subst (λ (z : Place). IsSome (bytes_at g z)) (sym p) s.1) s.0 (renamed_at dir from to _ _ g h p q n)))

-- a file that may finish still may when other qfs have
pub finish_more : (dirs : List (List ℕ)) (f : FileMap) (done : List Place) (xs : List Named) (x : Named) → ((y : Named) → Contains xs y → y.kind ≡ Qf) → MayFinish dirs f done x → MayFinish dirs f (done ++ places dirs xs) x
finish_more dirs f done xs x kinds may = record {
  entry = may.entry;
  free = λ c. ⊎_elim
      (λ (was : Contains done (spot_place (as_kind Sf (spot_named dirs x)))). may.free was)
      (λ (new : Contains (places dirs xs) (spot_place (as_kind Sf (spot_named dirs x)))).
      let y = of_map (place_named dirs) xs _ new in
      let k : y.0.kind ≡ Sf = kinds_of (dir_at dirs y.0.dir) (dir_at dirs x.dir) y.0.kind Sf y.0.id x.id y.2 in
      let z : Qf ≡ Sf = sym (kinds y.0 y.1) ∙ k in cc z)
      (Contains-append_cases done (places dirs xs) (spot_place (as_kind Sf (spot_named dirs x))) c);
}

-- places by their parts
pub same_place : (d e n m : List ℕ) → d ≡ e → n ≡ m → ◌≡◌ {A = Place} (d, n) (e, m)
same_place d e n m p q = λ i. (p i, q i)

-- the removal of a file that may go leads to a map without it, or to a tidied one
pub remove_at : {T E : Type 0} (a b : Spooled) (dirs : List (List ℕ)) (f : FileMap) (done : List Place) (x : Named) (p : Place) (r : Result T E) → place_named dirs x ≡ p → MayGo dirs f done x → Calls a b (λ g h. IsSame g h ⊎ HasRemoved p g h) (HasRemoved p) (IsOk r) → Moves a b (IsSweptOf dirs f done) (Ends r (IsSweptOf dirs f (done ++ place_named dirs x ∷ [])) (IsTidied dirs f)) (IsTidied dirs f)
remove_at a b dirs f done x p r e may call = remove_moves a b dirs f done x r may (subst (λ (q : Place). Calls a b (λ g h. IsSame g h ⊎ HasRemoved q g h) (HasRemoved q) (IsOk r)) (sym e) call)

pub if_some : {X : Type 0} (o : Option X) (P : X → Type 0) → ((x : X) → o ≡ Some x → P x) → IfSome o P
if_some None P h = tt
if_some (Some x) P h = h x refl

-- it wasn't there
pub absent_moves : (a b : Spooled) (dirs : List (List ℕ)) (f : FileMap) (done : List Place) (x : Named) → Reads a b → IfSome a.told (λ g. bytes_at g (place_named dirs x) ≡ None) → Moves a b (IsSweptOf dirs f done) (IsSweptOf dirs f (done ++ place_named dirs x ∷ [])) (IsTidied dirs f)
absent_moves a b dirs f done x reads none = moves_with a b (λ g. bytes_at g (place_named dirs x) ≡ None) (IsSweptOf dirs f done) _ _ none
    (moves_read a b (λ g. IsSweptOf dirs f done g × (bytes_at g (place_named dirs x) ≡ None)) _ _ reads (λ g s. gone_already dirs f g done x s.1 s.0) (λ g s. s.0.tidied))

-- it was only read
pub read_moves : (a b : Spooled) (dirs : List (List ℕ)) (f : FileMap) (done : List Place) → Reads a b → Moves a b (IsSweptOf dirs f done) (IsSweptOf dirs f done) (IsTidied dirs f)
read_moves a b dirs f done reads = moves_read a b _ _ _ reads (λ g s. s) (λ g s. s.tidied)

-- a reading that fails leaves a tidied map
pub read_fails : (a b : Spooled) (dirs : List (List ℕ)) (f : FileMap) (done : List Place) → Reads a b → Moves a b (IsSweptOf dirs f done) (IsTidied dirs f) (IsTidied dirs f)
read_fails a b dirs f done reads = moves_read a b _ _ _ reads (λ g s. s.tidied) (λ g s. s.tidied)

-- where nothing was read at a place, nothing lies there
pub none_at : (told : Option FileMap) (p q : Place) (o : Option (List ℕ)) → p ≡ q → o ≡ None → ((f : FileMap) → told ≡ Some f → o ≡ bytes_at f q) → IfSome told (λ g. bytes_at g p ≡ None)
none_at told p q o e none h = if_some told (λ g. bytes_at g p ≡ None) (λ f is. ap (bytes_at f) e ∙ sym (h f is) ∙ none)

-- where bytes were read at a place, a file lies there
pub some_at : (told now : Option FileMap) (p q : Place) (o : Option (List ℕ)) (b : List ℕ) → p ≡ q → now ≡ told → o ≡ Some b → ((f : FileMap) → told ≡ Some f → o ≡ bytes_at f q) → IfSome now (λ g. IsSome (bytes_at g p))
some_at told now p q o b e same some h = if_some now (λ g. IsSome (bytes_at g p)) (λ f is. subst (λ (z : Option (List ℕ)). IsSome z) (sym (ap (bytes_at f) e ∙ sym (h f (sym same ∙ is)) ∙ some)) refl)

-- the directory and the name of a queue file are its place
pub rename_place : (dirs : List (List ℕ)) (x : Named) (kind : Kind) (dir name : List ℕ) (id : ℕ) → x.kind ≡ kind → dir ≡ dir_at dirs x.dir → x.id ≡ id → name ≡ name_of kind id → place_named dirs x ≡ (dir, name)
rename_place dirs x kind dir name id k d i n = same_place (dir_at dirs x.dir) dir (name_of x.kind x.id) name (sym d) (ap (λ (q : Kind). name_of q x.id) k ∙ ap (λ (q : ℕ). name_of kind q) i ∙ sym n)

-- no names add no places
pub places_none : (dirs : List (List ℕ)) (done : List Place) → done ≡ done ++ places dirs []
places_none dirs done = sym (append-nil done)

-- the first so many of control files are control files
pub kinds_take : (xs : List Named) (i : ℕ) → ((x : Named) → Contains xs x → x.kind ≡ Qf) → (x : Named) → Contains (take i xs) x → x.kind ≡ Qf
kinds_take xs i h x c = h x (subst (λ (q : List Named). Contains q x) (take-append-drop i xs) (Contains-append_left (take i xs) (drop i xs) x c))
