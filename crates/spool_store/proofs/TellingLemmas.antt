-- The entries that are told are those of the live control files.
use Rattle.std.proofs.Common.{◌≡◌, ◌⊎◌, inl, inr, ⊎_elim, ℕ, ◌+◌, ◌<◌, ◌≤◌, List, [], ◌∷◌, ◌++◌, length, take, get_or, Option, IsSome, refl, sym, ◌∙◌, ap, subst, arith, Contains}
use Rattle.std.proofs.lemmas.List.{take_more}
use Rattle.std.proofs.lemmas.List.Elements.{Contains-append_left, Contains-push, Contains-push_cases}
use Rattle.mail_base.specs.declared.control.Control.{Control}
use Rattle.mail_base.specs.declared.control.Entry.{Entry}
use Rattle.std.proofs.Math.Nat.{le_refl, le_trans}
use Rattle.mail_base.specs.declared.control.Parent.{Parent}
use Rattle.spool_disk.specs.Disk.{FileMap, bytes_at}
use Rattle.spool_store.specs.Settled.{IsNamed, in_name, as_parent}
use Rattle.spool_store.specs.declared.named.Named.{Named}
use Rattle.spool_store.proofs.Readings.{dir_among, dir_numbered, some_bytes}
use Rattle.spool_store.proofs.Judgements.{read_by}
use Rattle.spool_store.proofs.PlanLemmas.{found_says}
use Rattle.spool_store.specs.Queue.{at, Spot, IsRead, IsLive}
use Rattle.spool_store.specs.Openings.{AreEntries, IsNext}
use Rattle.spool_store.specs.declared.named.Found.{Found}
use Rattle.spool_store.specs.inner.Finds.{AreFound, AreNamed, dir_at, spot_named}
use Rattle.spool_store.specs.inner.Telling.{AreTold, IsPast, Names, entry_found}
use Rattle.spool_store.proofs.Finding.{none_in}
use Rattle.spool_store.proofs.Reading.{one_control}
use Rattle.spool_store.proofs.Carrying.{live_read}

-- of no control files no entry is told
pub told_none : (dirs : List (List ℕ)) (f : FileMap) → AreTold dirs f [] []
told_none dirs f = record { each = λ e c. absurd (none_in e c); all = λ x c among live. absurd (none_in x among) }

-- a control file that isn't live tells nothing
pub told_skip : (dirs : List (List ℕ)) (f : FileMap) (found : List Found) (x : Found) (out : List Entry) → ((c : Control) → IsLive dirs f (spot_named dirs x.named) c → ⊥) → AreTold dirs f found out → AreTold dirs f (found ++ x ∷ []) out
told_skip dirs f found x out never h = record {
  each = h.each;
  all = λ y c among live. ⊎_elim (λ (was : Contains found y). h.all y c was live) (λ (q : x ≡ y). absurd (never c (subst (λ (z : Found). IsLive dirs f (spot_named dirs z.named) c) (sym q) live))) (Contains-push_cases found x y among);
}

-- a live one tells its entry
pub told_more : (dirs : List (List ℕ)) (f : FileMap) (found : List Found) (x : Found) (d : Control) (out new : List Entry) → IsLive dirs f (spot_named dirs x.named) d → new ≡ out ++ entry_found dirs x d ∷ [] → AreTold dirs f found out → AreTold dirs f (found ++ x ∷ []) new
told_more dirs f found x d out new live e h = rw e (record {
  each = λ w c. ⊎_elim (λ (was : Contains out w). h.each w was) (λ (q : entry_found dirs x d ≡ w). (x, d, live, sym q)) (Contains-push_cases out (entry_found dirs x d) w c);
  all = λ y c among its. ⊎_elim
      (λ (was : Contains found y). Contains-append_left out (entry_found dirs x d ∷ []) (entry_found dirs y c) (h.all y c was its))
      (λ (q : x ≡ y).
      let same : d ≡ c = one_control dirs f (spot_named dirs x.named) d c (live_read live) (subst (λ (z : Found). IsRead dirs f (spot_named dirs z.named) c) (sym q) (live_read its)) in
      subst (λ (w : Entry). Contains (out ++ entry_found dirs x d ∷ []) w) (ap (λ (z : Control). entry_found dirs x z) same ∙ ap (λ (z : Found). entry_found dirs z c) q) (Contains-push out (entry_found dirs x d)))
      (Contains-push_cases found x y among);
})

-- the entries told of the first so many and the next are those of one more
pub told_next : (dirs : List (List ℕ)) (f : FileMap) (found : List Found) (i : ℕ) (x : Found) (out : List Entry) → i < length found → x ≡ get_or found i x → AreTold dirs f (take i found ++ x ∷ []) out → AreTold dirs f (take (i + 1) found) out
told_next dirs f found i x out lt is h = subst (λ (q : List Found). AreTold dirs f q out) (sym (take_more found i x lt ∙ ap (λ (y : Found). take i found ++ y ∷ []) (sym is))) h

-- all of them
pub told_entries : (dirs : List (List ℕ)) (f : FileMap) (found : List Found) (entries : List Entry) → AreFound dirs f found → AreTold dirs f found entries → AreEntries dirs f entries
told_entries dirs f found entries hf h = record {
  each = λ e c. let t = h.each e c in (t.0.named.kind, subst (λ (w : Entry). IsLive dirs f (record { dir = w.dir; kind = t.0.named.kind; id = w.id }) w.control) (sym t.3) t.2);
  all = λ s c live.
      let read = live_read live in
      let y = hf.all s read.bytes read.there in
      subst (λ (w : Spot). Contains entries (record { id = w.id; dir = w.dir; control = c })) y.2 (h.all y.0 c y.1 (subst (λ (w : Spot). IsLive dirs f w c) (sym y.2) live));
}

-- numbers
pub named_next : (xs : List Named) (i : ℕ) (x : Named) (old new : ℕ) → i < length xs → x ≡ get_or xs i x → old ≤ new → x.id < new → ((y : Named) → Contains (take i xs) y → y.id < old) → (y : Named) → Contains (take (i + 1) xs) y → y.id < new
named_next xs i x old new lt is kept above h y c = ⊎_elim
    (λ (was : Contains (take i xs) y). omega (arith, h y was, kept))
    (λ (q : x ≡ y). subst (λ (z : Named). z.id < new) q above)
    (Contains-push_cases (take i xs) x y (subst (λ (l : List Named). Contains l y) (take_more xs i x lt ∙ ap (λ (z : Named). take i xs ++ z ∷ []) (sym is)) c))

-- the next id is 1 or the one after an id that is named
pub named_least : (xs : List Named) (i : ℕ) (x : Named) (old new : ℕ) → i < length xs → x ≡ get_or xs i x → (new ≡ old) ⊎ (new ≡ x.id + 1) → (old ≡ 1) ⊎ ((y : Named) × Contains xs y × (old ≡ y.id + 1)) → (new ≡ 1) ⊎ ((y : Named) × Contains xs y × (new ≡ y.id + 1))
named_least xs i x old new lt is which h = ⊎_elim
    (λ (same : new ≡ old). ⊎_elim (λ (one : old ≡ 1). inl (same ∙ one)) (λ (y : (z : Named) × Contains xs z × (old ≡ z.id + 1)). inr (y.0, y.1, same ∙ y.2)) h)
    (λ (next : new ≡ x.id + 1). inr (x, (i, lt, sym is), next))
    which

-- behind no control files the next id stays
pub past_none : (n : ℕ) → IsPast [] n n
past_none n = record { kept = le_refl n; above = λ x p c names. absurd (none_in x c); least = inl refl }

-- a control file more puts the next id past the parents that it names
pub past_more : (found : List Found) (x : Found) (before old new : ℕ) → old ≤ new → ((p : Parent) → Names x p → p.id < new) → (new ≡ old) ⊎ ((p : Parent) × Names x p × (new ≡ p.id + 1)) → IsPast found before old → IsPast (found ++ x ∷ []) before new
past_more found x before old new kept above which h = record {
  kept = le_trans h.kept kept;
  above = λ y p c names. ⊎_elim
      (λ (was : Contains found y). omega (arith, h.above y p was names, kept))
      (λ (q : x ≡ y). above p (subst (λ (z : Found). Names z p) (sym q) names))
      (Contains-push_cases found x y c);
  least = ⊎_elim
      (λ (same : new ≡ old). ⊎_elim
      (λ (e : old ≡ before). inl (same ∙ e))
      (λ (y : (z : Found) × (p : Parent) × Contains found z × Names z p × (old ≡ p.id + 1)). inr (y.0, y.1, Contains-append_left found (x ∷ []) y.0 y.2, y.3, same ∙ y.4))
      h.least)
      (λ (y : (p : Parent) × Names x p × (new ≡ p.id + 1)). inr (x, y.0, Contains-push found x, y.1, y.2))
      which;
}

-- a next id past the first so many and the next is past one more
pub past_next : (found : List Found) (i : ℕ) (x : Found) (before after : ℕ) → i < length found → x ≡ get_or found i x → IsPast (take i found ++ x ∷ []) before after → IsPast (take (i + 1) found) before after
past_next found i x before after lt is h = subst (λ (q : List Found). IsPast q before after) (sym (take_more found i x lt ∙ ap (λ (y : Found). take i found ++ y ∷ []) (sym is))) h

above_by : (dirs : List (List ℕ)) (f : FileMap) (names : List Named) (found : List Found) (first next : ℕ) → AreNamed dirs f (length dirs) names → AreFound dirs f found → ((x : Named) → Contains names x → x.id < first) → IsPast found first next → (id : ℕ) → IsNamed dirs f id → id < next
above_by dirs f names found first next hn hf above past id (in_name dir kind bytes among within there) =
    let i = dir_numbered dirs dir among in
    let some : IsSome (bytes_at f (at (dir_at dirs i.0) kind id)) = subst (λ (d : List ℕ). IsSome (bytes_at f (at d kind id))) (sym i.2) (subst (λ (o : Option (List ℕ)). IsSome o) (sym there) refl) in
    omega (arith, above (record { dir = i.0; kind = kind; id = id }) (hn.all i.0 kind id i.1 within some), past.kept)
above_by dirs f names found first next hn hf above past id (as_parent s c p read e i) =
    let y = hf.all s read.bytes read.there in
    let its : IsRead dirs f (spot_named dirs y.0.named) c = subst (λ (w : Spot). IsRead dirs f w c) (sym y.2) read in
    omega (arith, past.above y.0 p y.1 (record { control = c; is = found_says dirs f y.0 c (hf.each y.0 y.1) its; parent = e }), i)

-- the first free id
pub next_by : (dirs : List (List ℕ)) (f : FileMap) (names : List Named) (found : List Found) (first next : ℕ) → AreNamed dirs f (length dirs) names → AreFound dirs f found → ((x : Named) → Contains names x → x.id < first) → (first ≡ 1) ⊎ ((x : Named) × Contains names x × (first ≡ x.id + 1)) → IsPast found first next → IsNext dirs f next
next_by dirs f names found first next hn hf above least past = record {
  above = λ id named. above_by dirs f names found first next hn hf above past id named;
  least = ⊎_elim
      (λ (same : next ≡ first). ⊎_elim
      (λ (one : first ≡ 1). inl (same ∙ one))
      (λ (y : (x : Named) × Contains names x × (first ≡ x.id + 1)).
      let t = hn.each y.0 y.1 in
      let b = some_bytes _ t.there in
      inr (y.0.id, in_name (dir_at dirs y.0.dir) y.0.kind b.0 (dir_among dirs y.0.dir t.before) t.within b.1, same ∙ y.2))
      least)
      (λ (y : (x : Found) × (p : Parent) × Contains found x × Names x p × (next ≡ p.id + 1)).
      inr (y.1.id, as_parent (spot_named dirs y.0.named) y.3.control y.1 (read_by dirs f y.0 y.3.control y.3.is (hf.each y.0 y.2)) y.3.parent refl, y.4))
      past.least;
}

-- the next id stays or is the one after a number
pub which_number : (next result number id : ℕ) → number ≡ id → (result ≡ next) ⊎ (result ≡ number + 1) → (result ≡ next) ⊎ (result ≡ id + 1)
which_number next result number id e which = ⊎_elim (λ (q : result ≡ next). inl q) (λ (q : result ≡ number + 1). inr (q ∙ ap (λ (n : ℕ). n + 1) e)) which
