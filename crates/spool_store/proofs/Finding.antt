-- What a directory's listing adds to what was found.
use Rattle.std.proofs.Common.{◌≡◌, inl, inr, ⊎_elim, ℕ, ◌+◌, ◌<◌, ◌≤◌, List, [], ◌∷◌, ◌++◌, Option, Some, IsSome, Result, Ok, Err, sym, ◌∙◌, ap, subst, arith, Contains}
use Rattle.std.specs.Prelude.{OnOk, IfSome}
use Rattle.std.proofs.lemmas.Bool.{cases_lt}
use Rattle.std.specs.List.Sorted.{IsPermutation}
use Rattle.std.proofs.lemmas.List.Sorted.{Contains-permutation, IsPermutation-sym}
use Rattle.std.proofs.lemmas.List.Elements.{Contains-append_left, Contains-push, Contains-push_cases}
use Rattle.mail_base.specs.declared.id.Kind.{Kind}
use Rattle.mail_base.specs.declared.control.Stray.{Stray}
use Rattle.mail_base.specs.Names.{name_of}
use Rattle.mail_base.specs.Limits.{IsId}
use Rattle.mail_base.proofs.FileNames.{same_kind, same_number}
use Rattle.spool_store.specs.declared.named.Named.{Named}
use Rattle.spool_disk.specs.Disk.{FileMap, bytes_at}
use Rattle.spool_disk.specs.Listings.{AreNames, IsListing}
use Rattle.spool_store.specs.Queue.{at}
use Rattle.spool_store.specs.inner.Finds.{AddsNamed, AddsStrays, AreForeign, AreNamed, IsOther, dir_at}

-- what follows from another fact at Ok follows there
pub on_ok : {T E P Q : Type 0} (r : Result T E) → (P → Q) → OnOk r P → OnOk r Q
on_ok (Ok x) to h = to h
on_ok (Err e) to h = h

-- nothing is in an empty list
pub none_in : {X : Type 0} (x : X) → Contains [] x → ⊥
none_in x h = omega (arith, h.1)

-- a name of a file of the queue adds it
named : ℕ → Kind → ℕ → Named
named i kind id = record { dir = i; kind = kind; id = id }

-- a listed name of a queue file adds it to what was found
pub adds_named : (i : ℕ) (names : List (List ℕ)) (name : List ℕ) (kind : Kind) (id : ℕ) (old mid new : List Named) → IsId id → name ≡ name_of kind id → new ≡ mid ++ record { dir = i; kind = kind; id = id } ∷ [] → AddsNamed i names old mid → AddsNamed i (names ++ name ∷ []) old new
adds_named i names name kind id old mid new within is e h = rw e (record {
  kept = λ x c. Contains-append_left mid (record { dir = i; kind = kind; id = id } ∷ []) x (h.kept x c);
  each = λ x c. ⊎_elim
      (λ (was : Contains mid x). ⊎_elim (λ (o : Contains old x). inl o) (λ (n : (x.dir ≡ i) × IsId x.id × Contains names (name_of x.kind x.id)). inr (n.0, n.1, Contains-append_left names (name ∷ []) (name_of x.kind x.id) n.2)) (h.each x was))
      (λ (q : record { dir = i; kind = kind; id = id } ≡ x). inr (sym (ap (λ (y : Named). y.dir) q), subst (λ (y : Named). IsId y.id) q within, subst (λ (y : Named). Contains (names ++ name ∷ []) (name_of y.kind y.id)) q (subst (λ (y : List ℕ). Contains (names ++ name ∷ []) y) is (Contains-push names name))))
      (Contains-push_cases mid (record { dir = i; kind = kind; id = id }) x c);
  all = λ k n w c. ⊎_elim
      (λ (was : Contains names (name_of k n)). Contains-append_left mid (record { dir = i; kind = kind; id = id } ∷ []) (record { dir = i; kind = k; id = n }) (h.all k n w was))
      (λ (q : name ≡ name_of k n).
      let same : kind ≡ k = same_kind kind k id n (sym is ∙ q) in
      let number : id ≡ n = same_number kind k id n within w (sym is ∙ q) in
      subst (λ (y : Named). Contains (mid ++ record { dir = i; kind = kind; id = id } ∷ []) y) (λ j. record { dir = i; kind = same j; id = number j }) (Contains-push mid (record { dir = i; kind = kind; id = id })))
      (Contains-push_cases names name (name_of k n) c);
})

-- another name adds nothing
pub adds_other : (i : ℕ) (names : List (List ℕ)) (name : List ℕ) (old mid : List Named) → IsOther name → AddsNamed i names old mid → AddsNamed i (names ++ name ∷ []) old mid
adds_other i names name old mid other h = record {
  kept = h.kept;
  each = λ x c. ⊎_elim (λ (o : Contains old x). inl o) (λ (n : (x.dir ≡ i) × IsId x.id × Contains names (name_of x.kind x.id)). inr (n.0, n.1, Contains-append_left names (name ∷ []) (name_of x.kind x.id) n.2)) (h.each x c);
  all = λ k n w c. ⊎_elim (λ (was : Contains names (name_of k n)). h.all k n w was) (λ (q : name ≡ name_of k n). absurd (other k n q)) (Contains-push_cases names name (name_of k n) c);
}

-- a listed name of a queue file adds no stray
pub strays_skip : (dir : List ℕ) (names : List (List ℕ)) (name : List ℕ) (kind : Kind) (id : ℕ) (old mid : List Stray) → name ≡ name_of kind id → AddsStrays dir names old mid → AddsStrays dir (names ++ name ∷ []) old mid
strays_skip dir names name kind id old mid is h = record {
  kept = h.kept;
  each = λ x c. ⊎_elim (λ (o : Contains old x). inl o) (λ (n : (x.dir ≡ dir) × Contains names x.name × IsOther x.name). inr (n.0, Contains-append_left names (name ∷ []) x.name n.1, n.2)) (h.each x c);
  all = λ n c other. ⊎_elim (λ (was : Contains names n). h.all n was other) (λ (q : name ≡ n). absurd (other kind id (sym q ∙ is))) (Contains-push_cases names name n c);
}

-- a listed name of no queue file adds a stray
pub strays_more : (dir : List ℕ) (names : List (List ℕ)) (name : List ℕ) (old mid new : List Stray) → IsOther name → new ≡ mid ++ record { dir = dir; name = name } ∷ [] → AddsStrays dir names old mid → AddsStrays dir (names ++ name ∷ []) old new
strays_more dir names name old mid new other e h = rw e (record {
  kept = λ x c. Contains-append_left mid (record { dir = dir; name = name } ∷ []) x (h.kept x c);
  each = λ x c. ⊎_elim
      (λ (was : Contains mid x). ⊎_elim (λ (o : Contains old x). inl o) (λ (n : (x.dir ≡ dir) × Contains names x.name × IsOther x.name). inr (n.0, Contains-append_left names (name ∷ []) x.name n.1, n.2)) (h.each x was))
      (λ (q : record { dir = dir; name = name } ≡ x). inr (sym (ap (λ (y : Stray). y.dir) q), subst (λ (y : Stray). Contains (names ++ name ∷ []) y.name) q (Contains-push names name), subst (λ (y : Stray). IsOther y.name) q other))
      (Contains-push_cases mid (record { dir = dir; name = name }) x c);
  all = λ n c o. ⊎_elim
      (λ (was : Contains names n). Contains-append_left mid (record { dir = dir; name = name } ∷ []) (record { dir = dir; name = n }) (h.all n was o))
      (λ (q : name ≡ n). subst (λ (y : List ℕ). Contains (mid ++ record { dir = dir; name = name } ∷ []) (record { dir = dir; name = y })) q (Contains-push mid (record { dir = dir; name = name })))
      (Contains-push_cases names name n c);
})

-- what a listing says
pub listing_names : (told : Option FileMap) (f : FileMap) (dir : List ℕ) (names : List (List ℕ)) → IsListing told dir names → told ≡ Some f → AreNames f dir names
listing_names told f dir names h e = subst (λ (q : Option FileMap). IfSome q (λ files. AreNames files dir names)) e h.exactly

-- no directory, and one more
pub named_nothing : (dirs : List (List ℕ)) (f : FileMap) (names : List Named) → names ≡ [] → AreNamed dirs f 0 names
named_nothing dirs f names e = record { each = λ x c. absurd (none_in x (subst (λ (q : List Named). Contains q x) e c)); all = λ i kind id lt within there. absurd (omega (arith, lt)) }

-- in the first 0 directories there is no file of another name
pub foreign_nothing : (dirs : List (List ℕ)) (f : FileMap) (strays : List Stray) → strays ≡ [] → AreForeign dirs f 0 strays
foreign_nothing dirs f strays e = record { each = λ x c. absurd (none_in x (subst (λ (q : List Stray). Contains q x) e c)); all = λ i name lt other there. absurd (omega (arith, lt)) }

pub named_more : (dirs : List (List ℕ)) (f : FileMap) (i : ℕ) (dir : List ℕ) (names : List (List ℕ)) (old new : List Named) → dir ≡ dir_at dirs i → AreNames f dir names → AddsNamed i names old new → AreNamed dirs f i old → AreNamed dirs f (i + 1) new
named_more dirs f i dir names old new is exactly adds h = record {
  each = λ x c. ⊎_elim
      (λ (was : Contains old x). let t = h.each x was in record { before = omega (arith, t.before); within = t.within; there = t.there })
      (λ (n : (x.dir ≡ i) × IsId x.id × Contains names (name_of x.kind x.id)). record {
        before = omega (arith, n.0);
        within = n.1;
        there = subst (λ (d : List ℕ). IsSome (bytes_at f (at d x.kind x.id))) (is ∙ ap (λ (k : ℕ). dir_at dirs k) (sym n.0)) ((exactly (name_of x.kind x.id)).0 n.2);
      })
      (adds.each x c);
  all = λ j kind id lt within there. ⊎_elim
      (λ (less : j < i). adds.kept (record { dir = j; kind = kind; id = id }) (h.all j kind id less within there))
      (λ (le : i ≤ j).
      let same : j ≡ i = omega (arith, lt, le) in
      subst (λ (k : ℕ). Contains new (record { dir = k; kind = kind; id = id })) (sym same)
      (adds.all kind id within ((exactly (name_of kind id)).1 (subst (λ (d : List ℕ). IsSome (bytes_at f (at d kind id))) (ap (λ (k : ℕ). dir_at dirs k) same ∙ sym is) there))))
      (cases_lt j i);
}

pub foreign_more : (dirs : List (List ℕ)) (f : FileMap) (i : ℕ) (dir : List ℕ) (names : List (List ℕ)) (old new : List Stray) → dir ≡ dir_at dirs i → AreNames f dir names → AddsStrays dir names old new → AreForeign dirs f i old → AreForeign dirs f (i + 1) new
foreign_more dirs f i dir names old new is exactly adds h = record {
  each = λ x c. ⊎_elim
      (λ (was : Contains old x). let t = h.each x was in record { number = t.number; before = omega (arith, t.before); dir = t.dir; other = t.other; there = t.there })
      (λ (n : (x.dir ≡ dir) × Contains names x.name × IsOther x.name). record {
        number = i;
        before = omega arith;
        dir = n.0 ∙ is;
        other = n.2;
        there = subst (λ (d : List ℕ). IsSome (bytes_at f (d, x.name))) (sym n.0) ((exactly x.name).0 n.1);
      })
      (adds.each x c);
  all = λ j name lt other there. ⊎_elim
      (λ (less : j < i). adds.kept (record { dir = dir_at dirs j; name = name }) (h.all j name less other there))
      (λ (le : i ≤ j).
      let same : dir ≡ dir_at dirs j = is ∙ ap (λ (k : ℕ). dir_at dirs k) (let e : i ≡ j = omega (arith, lt, le) in e) in
      subst (λ (d : List ℕ). Contains new (record { dir = d; name = name })) same
      (adds.all name ((exactly name).1 (subst (λ (d : List ℕ). IsSome (bytes_at f (d, name))) (sym same) there)) other))
      (cases_lt j i);
}

-- the numbers of directories stay below the next one
pub within_more : (i : ℕ) (names : List (List ℕ)) (old new : List Named) → AddsNamed i names old new → ((x : Named) → Contains old x → x.dir < i) → (x : Named) → Contains new x → x.dir < i + 1
within_more i names old new adds h x c = ⊎_elim
    (λ (was : Contains old x). omega (arith, h x was))
    (λ (n : (x.dir ≡ i) × IsId x.id × Contains names (name_of x.kind x.id)). omega (arith, n.0))
    (adds.each x c)

-- no names lie within any number of directories
pub within_nothing : (names : List Named) → names ≡ [] → (n : ℕ) (x : Named) → Contains names x → x.dir < n
within_nothing names e n x c = absurd (none_in x (subst (λ (q : List Named). Contains q x) e c))

-- both after one more directory
pub files_more : (told : Option FileMap) (dirs : List (List ℕ)) (f : FileMap) (i : ℕ) (dir : List ℕ) (names : List (List ℕ)) (named named' : List Named) (strays strays' : List Stray) → told ≡ Some f → dir ≡ dir_at dirs i → IsListing told dir names → AddsNamed i names named named' → AddsStrays dir names strays strays' → AreNamed dirs f i named × AreForeign dirs f i strays → AreNamed dirs f (i + 1) named' × AreForeign dirs f (i + 1) strays'
files_more told dirs f i dir names named named' strays strays' e is listing adds more h =
    let exactly = listing_names told f dir names listing e in
    (named_more dirs f i dir names named named' is exactly adds h.0, foreign_more dirs f i dir names strays strays' is exactly more h.1)

-- the same files in another order
pub named_order : (dirs : List (List ℕ)) (f : FileMap) (n : ℕ) (xs ys : List Named) → IsPermutation xs ys → AreNamed dirs f n xs → AreNamed dirs f n ys
named_order dirs f n xs ys p h = record { each = λ x c. h.each x (Contains-permutation ys xs x (IsPermutation-sym xs ys p) c); all = λ i kind id lt within there. Contains-permutation xs ys (record { dir = i; kind = kind; id = id }) p (h.all i kind id lt within there) }

-- names in another order lie in the same directories
pub within_order : (n : ℕ) (xs ys : List Named) → IsPermutation xs ys → ((x : Named) → Contains xs x → x.dir < n) → (x : Named) → Contains ys x → x.dir < n
within_order n xs ys p h x c = h x (Contains-permutation ys xs x (IsPermutation-sym xs ys p) c)
