-- What an opening comes to.
use Rattle.std.proofs.Common.{◌≡◌, inl, inr, ⊎_elim, ℕ, ◌<◌, List, [], length, Option, Some, None, Result, Ok, Err, refl, sym, ◌∙◌, ap, subst, Contains}
use Rattle.std.specs.Prelude.{IfOk, IfSome}
use Rattle.std.specs.List.Sorted.{IsPermutation}
use Rattle.std.proofs.lemmas.List.Sorted.{Contains-permutation, IsPermutation-sym}
use Rattle.spool_disk.specs.Disk.{FileMap}
use Rattle.spool_disk.specs.Spooled.{Spooled, Reads}
use Rattle.spool_store.specs.Moves.{Moves, Becomes, Ends}
use Rattle.spool_store.specs.Entries.{Table}
use Rattle.spool_store.specs.Settled.{StandsFor}
use Rattle.spool_store.specs.Stores.{KeepsOthers}
use Rattle.spool_store.specs.Tidying.{IsTidied, IsSwept, IsClean}
use Rattle.spool_store.specs.declared.named.Named.{Named}
use Rattle.spool_store.specs.declared.named.Found.{Found}
use Rattle.spool_store.specs.inner.Finds.{AreAmong, AreFound, AreNamed, AreRead}
use Rattle.mail_base.specs.declared.id.Kind.{Kind}
use Rattle.mail_base.specs.declared.fault.StoreFault.{StoreFault}
use Rattle.spool_store.specs.Openings.{AreEntries, AreStrays, IsNext}
use Rattle.spool_store.specs.declared.opened.Opened.{Opened}
use Rattle.spool_store.specs.declared.verdict.Verdict.{Verdict}
use Rattle.spool_store.specs.inner.Plans.{Stays, its_name}
use Rattle.spool_store.specs.inner.Sweeps.{IsSweptOf, Never}
use Rattle.spool_store.proofs.Finding.{none_in}
use Rattle.spool_store.proofs.Keeping.{tidied_keeps}
use Rattle.spool_store.proofs.MovesLemmas.{becomes_to, moves_told, moves_weaker}
use Rattle.spool_store.proofs.Readings.{read_found}
use Rattle.spool_store.proofs.SweepLemmas.{moves_read}
use Rattle.spool_store.proofs.Sweeping.{tidied_none, swept_clean}
use Rattle.spool_store.proofs.Tidying.{tidied_stands}

-- the control files in another order
pub found_order : (dirs : List (List ℕ)) (f : FileMap) (xs ys : List Found) → IsPermutation xs ys → AreFound dirs f xs → AreFound dirs f ys
found_order dirs f xs ys p h = record { each = λ x c. h.each x (Contains-permutation ys xs x (IsPermutation-sym xs ys p) c); all = λ s b there. let y = h.all s b there in (y.0, Contains-permutation xs ys y.0 p y.1, y.2) }

-- what was read of the names, in another order, is what was found
pub found_by : (dirs : List (List ℕ)) (f : FileMap) (names : List Named) (xs ys : List Found) → IsPermutation xs ys → AreNamed dirs f (length dirs) names → AreRead dirs f names xs → AreFound dirs f ys
found_by dirs f names xs ys p named read = found_order dirs f xs ys p (read_found dirs f names xs named read)

-- what was found lies in the directories of the names
pub found_within : (n : ℕ) (names : List Named) (xs ys : List Found) → IsPermutation xs ys → AreAmong names xs → ((x : Named) → Contains names x → x.dir < n) → (y : Found) → Contains ys y → y.named.dir < n
found_within n names xs ys p among within y c = within y.named (among y (Contains-permutation ys xs y (IsPermutation-sym xs ys p) c)).0

-- what is found stays among the files when it is sorted
pub found_among : (names shown : List Named) (xs ys : List Found) → shown ≡ names → IsPermutation xs ys → AreAmong shown xs → AreAmong names ys
found_among names shown xs ys e p among = λ y c. let a = among y (Contains-permutation ys xs y (IsPermutation-sym xs ys p) c) in (subst (λ (q : List Named). Contains q y.named) e a.0, a.1)

-- an end in either fact is one in the weaker
pub ends_in : {T E : Type 0} (r : Result T E) (Q R : FileMap → Type 0) → ((f : FileMap) → Q f → R f) → (f : FileMap) → Ends r Q R f → R f
ends_in (Ok x) Q R to f h = to f h
ends_in (Err e) Q R to f h = h

-- what was found, at the start
pub swept_start : (dirs : List (List ℕ)) (f : FileMap) → IsSweptOf dirs f [] f
swept_start dirs f = record { tidied = tidied_none dirs f; gone = λ p c. absurd (none_in p c) }

becomes_both : (a b : Option FileMap) (P Q S : FileMap → Type 0) → ((f g : FileMap) → P f → Q g → S g) → Becomes a b P Q → Becomes a b P S
becomes_both None None P Q S to h = tt
becomes_both None (Some g) P Q S to h = absurd h
becomes_both (Some f) None P Q S to h = absurd h
becomes_both (Some f) (Some g) P Q S to h = λ p. to f g p (h p)

-- each map that it may leave stands for the same table
pub stands_moves : (a b : Spooled) (dirs : List (List ℕ)) (table : Table) → Moves a b Never Never Never → ((f : FileMap) → a.told ≡ Some f → Moves a b (λ g. g ≡ f) (IsTidied dirs f) (IsTidied dirs f)) → Moves a b (StandsFor dirs table) (StandsFor dirs table) (StandsFor dirs table)
stands_moves a b dirs table steps h = moves_told a b (StandsFor dirs table) (StandsFor dirs table) (StandsFor dirs table) Never Never Never steps (λ f e p. record {
  later = steps.later;
  now = becomes_both a.told b.told (λ g. g ≡ f) (IsTidied dirs f) (StandsFor dirs table) (λ d g q tidied. tidied_stands dirs table f g tidied p) (h f e).now;
  images = λ d i q t x le left. ⊎_elim (λ before. inl before) (λ (r : IsTidied dirs f x). inr (tidied_stands dirs table f x r p)) ((h f e).images d i q t x le left);
  kept = steps.kept;
})

-- each map that it may leave has each file that no call touches
pub frame_moves : (a b : Spooled) (dirs : List (List ℕ)) → Moves a b Never Never Never → ((f : FileMap) → a.told ≡ Some f → Moves a b (λ g. g ≡ f) (IsTidied dirs f) (IsTidied dirs f)) → (f : FileMap) → Moves a b (λ g. g ≡ f) (KeepsOthers dirs f) (KeepsOthers dirs f)
frame_moves a b dirs steps h f = moves_told a b (λ g. g ≡ f) (KeepsOthers dirs f) (KeepsOthers dirs f) Never Never Never steps (λ d e q.
    let keeps = λ (x : FileMap) (t : IsTidied dirs d x). subst (λ (p : FileMap). KeepsOthers dirs p x) q (tidied_keeps dirs d x t) in
    moves_weaker a b (λ g. g ≡ d) (IsTidied dirs d) (IsTidied dirs d) (KeepsOthers dirs f) (KeepsOthers dirs f) keeps keeps (h d e))

-- the map that is left is clean
pub clean_at : (a b : Option FileMap) (dirs : List (List ℕ)) → Becomes a b Never Never → ((f : FileMap) → a ≡ Some f → Becomes a b (λ g. g ≡ f) (IsSwept dirs)) → IfSome b (IsClean dirs)
clean_at None None dirs steps h = tt
clean_at None (Some g) dirs steps h = absurd steps
clean_at (Some f) None dirs steps h = absurd steps
clean_at (Some f) (Some g) dirs steps h = swept_clean dirs g (h f refl refl)

-- a list that is lent
pub within_items : (n : ℕ) (xs ys : List Found) → ys ≡ xs → ((x : Found) → Contains xs x → x.named.dir < n) → (x : Found) → Contains ys x → x.named.dir < n
within_items n xs ys e h x c = h x (subst (λ (q : List Found). Contains q x) e c)

-- equal names lie in the same directories
pub within_named : (n : ℕ) (xs ys : List Named) → ys ≡ xs → ((x : Named) → Contains xs x → x.dir < n) → (x : Named) → Contains ys x → x.dir < n
within_named n xs ys e h x c = h x (subst (λ (q : List Named). Contains q x) e c)

-- equal names are of the same kind
pub kinds_named : (k : Kind) (xs ys : List Named) → ys ≡ xs → ((x : Named) → Contains xs x → x.kind ≡ k) → (x : Named) → Contains ys x → x.kind ≡ k
kinds_named k xs ys e h x c = h x (subst (λ (q : List Named). Contains q x) e c)

-- equal lists of verdicts and control files are of one length
pub long_items : (vs ws : List Verdict) (xs ys : List Found) → ws ≡ vs → ys ≡ xs → length vs ≡ length xs → length ws ≡ length ys
long_items vs ws xs ys d e h = ap (λ (q : List Verdict). length q) d ∙ h ∙ sym (ap (λ (q : List Found). length q) e)

-- names picked of control files lie in their directories
pub stays_within : (n : ℕ) (xs ys : List Found) (out : List Named) → ys ≡ xs → ((x : Found) → Contains xs x → x.named.dir < n) → ((x : Named) → Contains out x → Stays its_name ys x) → (x : Named) → Contains out x → x.dir < n
stays_within n xs ys out e h stays x c = let s = stays x c in subst (λ (y : Named). y.dir < n) s.is (within_items n xs ys e h s.source s.among)

-- by the answer
pub clean_ok : {T : Type 0} (r : Result T StoreFault) (a b : Spooled) (dirs : List (List ℕ)) → Moves a b Never Never Never → ((f : FileMap) → a.told ≡ Some f → Moves a b (λ g. g ≡ f) (Ends r (λ g. IsTidied dirs f g × IsSwept dirs g) (IsTidied dirs f)) (IsTidied dirs f)) → IfOk r (λ x. IfSome b.told (IsClean dirs))
clean_ok (Ok x) a b dirs steps h = clean_at a.told b.told dirs steps.now (λ f e. becomes_to a.told b.told _ _ _ (λ g k. k.1) (h f e).now)
clean_ok (Err e) a b dirs steps h = tt

-- what holds of each map that is told holds where one is told
pub some_told : (o : Option FileMap) (P : FileMap → Type 0) → ((f : FileMap) → o ≡ Some f → P f) → IfSome o P
some_told None P h = tt
some_told (Some f) P h = h f refl

-- entries that are right for each map that is told are right where it is told
pub entries_ok : (r : Result Opened StoreFault) (o : Option FileMap) (dirs : List (List ℕ)) → ((f : FileMap) → o ≡ Some f → IfOk r (λ x. AreEntries dirs f x.entries)) → IfOk r (λ x. IfSome o (λ f. AreEntries dirs f x.entries))
entries_ok (Ok x) o dirs h = some_told o (λ f. AreEntries dirs f x.entries) h
entries_ok (Err e) o dirs h = tt

-- nothing has changed
pub look_moves : (a b : Spooled) (dirs : List (List ℕ)) (f : FileMap) → Reads a b → Moves a b (λ g. g ≡ f) (IsSweptOf dirs f []) (IsTidied dirs f)
look_moves a b dirs f reads = moves_read a b (λ g. g ≡ f) (IsSweptOf dirs f []) (IsTidied dirs f) reads (λ g e. subst (IsSweptOf dirs f []) (sym e) (swept_start dirs f)) (λ g e. subst (IsTidied dirs f) (sym e) (tidied_none dirs f))

-- calls that only read leave a tidied map, also where they fail
pub look_fails : (a b : Spooled) (dirs : List (List ℕ)) (f : FileMap) → Reads a b → Moves a b (λ g. g ≡ f) (IsTidied dirs f) (IsTidied dirs f)
look_fails a b dirs f reads = moves_read a b (λ g. g ≡ f) (IsTidied dirs f) (IsTidied dirs f) reads (λ g e. subst (IsTidied dirs f) (sym e) (tidied_none dirs f)) (λ g e. subst (IsTidied dirs f) (sym e) (tidied_none dirs f))

-- a next id that is right for each map that is told is right where it is told
pub next_ok : (r : Result Opened StoreFault) (o : Option FileMap) (dirs : List (List ℕ)) → ((f : FileMap) → o ≡ Some f → IfOk r (λ x. IsNext dirs f x.next)) → IfOk r (λ x. IfSome o (λ f. IsNext dirs f x.next))
next_ok (Ok x) o dirs h = some_told o (λ f. IsNext dirs f x.next) h
next_ok (Err e) o dirs h = tt

-- strays that are right for each map that is told are right where it is told
pub strays_ok : (r : Result Opened StoreFault) (o : Option FileMap) (dirs : List (List ℕ)) → ((f : FileMap) → o ≡ Some f → IfOk r (λ x. AreStrays dirs f x.strange)) → IfOk r (λ x. IfSome o (λ f. AreStrays dirs f x.strange))
strays_ok (Ok x) o dirs h = some_told o (λ f. AreStrays dirs f x.strange) h
strays_ok (Err e) o dirs h = tt
