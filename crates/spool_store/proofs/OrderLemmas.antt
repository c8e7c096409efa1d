-- The entries that an opening tells are in order of id, each once.
use Rattle.std.proofs.Common.{◌≡◌, ◌⊎◌, inl, inr, ⊎_elim, ℕ, ◌+◌, ◌<◌, ◌≤◌, List, [], ◌∷◌, ◌++◌, length, get_or, sym, ◌∙◌, ap, subst, arith, Contains}
use Rattle.std.specs.Prelude.{All}
use Rattle.std.specs.List.Sorted.{IsNonDecreasingBy}
use Rattle.std.proofs.lemmas.List.{get_or_default}
use Rattle.std.proofs.lemmas.List.Elements.{All-weaker, All-contains_itself, Contains-push_cases}
use Rattle.std.proofs.Math.Nat.{le_refl}
use Rattle.mail_base.specs.declared.control.Control.{Control}
use Rattle.mail_base.specs.declared.control.Entry.{Entry}
use Rattle.spool_disk.specs.Disk.{FileMap}
use Rattle.spool_store.specs.Openings.{AreAscending, AreOrdered}
use Rattle.spool_store.specs.Queue.{IsLive}
use Rattle.spool_store.specs.declared.named.Found.{Found}
use Rattle.spool_store.specs.declared.named.Named.{Named}
use Rattle.spool_store.specs.inner.Finds.{AreAmong, dir_at, spot_named}
use Rattle.spool_store.specs.inner.Telling.{AreTold, ComeFrom, HasEntry, IsAdding, IsPast, IsRising, entry_found}
use Rattle.spool_store.proofs.Standing.{one_live}
use Rattle.spool_store.proofs.Finding.{none_in}
use Rattle.spool_store.proofs.TellingLemmas.{told_more}

-- up to an id
pub rising_to : (es : List Entry) (n m : ℕ) → IsRising es n → n ≤ m → IsRising es m
rising_to es n m h le = record { ascending = h.ascending; most_is = All-weaker (λ (e : Entry). e.id ≤ n) (λ (e : Entry). e.id ≤ m) (λ e k. omega (arith, k, le)) es h.most_is }

-- one that is there already
pub told_again : (dirs : List (List ℕ)) (f : FileMap) (found : List Found) (x : Found) (c : Control) (out new : List Entry) → IsLive dirs f (spot_named dirs x.named) c → new ≡ out → HasEntry out x.named.id → AreTold dirs f found out → AreTold dirs f (found ++ x ∷ []) new
told_again dirs f found x c out new live same has h =
    let t = h.each has.entry has.among in
    let y : Found = t.0 in
    let i : y.named.id ≡ x.named.id = ap (λ (e : Entry). e.id) (sym t.3) ∙ has.is in
    let one = one_live dirs f (spot_named dirs x.named) (spot_named dirs y.named) c t.1 live t.2 i in
    let its : has.entry ≡ entry_found dirs x c = t.3 ∙ (λ j. record { id = (one.0 j).id; dir = (one.0 j).dir; control = sym one.1 j }) in
    subst (λ (q : List Entry). AreTold dirs f (found ++ x ∷ []) q) (sym same) (record {
      each = h.each;
      all = λ z d among its_live. ⊎_elim
          (λ (was : Contains found z). h.all z d was its_live)
          (λ (q : x ≡ z).
          let two = one_live dirs f (spot_named dirs x.named) (spot_named dirs z.named) c d live its_live (ap (λ (w : Found). w.named.id) (sym q)) in
          subst (λ (w : Entry). Contains out w) (its ∙ (λ j. record { id = (q j).named.id; dir = dir_at dirs (q j).named.dir; control = two.1 j })) has.among)
          (Contains-push_cases found x z among);
    })

-- a live file's entry is told where it is added, and where its id was there already
pub told_once : (dirs : List (List ℕ)) (f : FileMap) (found : List Found) (x : Found) (c : Control) (out new : List Entry) (dir : List ℕ) → IsLive dirs f (spot_named dirs x.named) c → dir ≡ dir_at dirs x.named.dir
    → ((new ≡ out) × HasEntry out x.named.id) ⊎ (new ≡ out ++ record { id = x.named.id; dir = dir; control = c } ∷ []) → AreTold dirs f found out → AreTold dirs f (found ++ x ∷ []) new
told_once dirs f found x c out new dir live at (inl again) h = told_again dirs f found x c out new live again.0 again.1 h
told_once dirs f found x c out new dir live at (inr more) h = told_more dirs f found x c out new live (more ∙ ap (λ (d : List ℕ). out ++ record { id = x.named.id; dir = d; control = c } ∷ []) at) h

-- those of the control files before a place
pub record IsListed (found : List Found) (place : ℕ) (entries : List Entry) : Type 0 where
  pub ascending : AreAscending entries
  pub low : (k : ℕ) (d : Found) → place ≤ k → k < length found → All (λ (e : Entry). e.id ≤ (get_or found k d).named.id) entries
  pub source : ComeFrom found entries

listed_nil : (found : List Found) → IsListed found 0 []
listed_nil found = record {
  ascending = λ i j d lt within. absurd (omega (arith, within));
  low = λ k d le lt j e within. absurd (omega (arith, within));
  source = λ e k. absurd (none_in e k);
}

-- before the first file no entry is listed
pub listed_none : (found : List Found) (entries : List Entry) → entries ≡ [] → IsListed found 0 entries
listed_none found entries e = subst (λ (q : List Entry). IsListed found 0 q) (sym e) (listed_nil found)

-- entries listed up to a file rise up to its id
pub listed_rising : (found : List Found) (place : ℕ) (x : Found) (entries : List Entry) → place < length found → x ≡ get_or found place x → IsListed found place entries → IsRising entries x.named.id
listed_rising found place x entries lt is h = record {
  ascending = h.ascending;
  most_is = subst (λ (y : Found). All (λ (e : Entry). e.id ≤ y.named.id) entries) (sym is) (h.low place x (le_refl place) lt);
}

-- entries listed up to a file, to which it adds its own, are listed up to the next
pub listed_more : (found : List Found) (place : ℕ) (x : Found) (old new : List Entry) → IsNonDecreasingBy (λ (y : Found). y.named.id) found → place < length found → x ≡ get_or found place x → IsListed found place old → IsRising new x.named.id → IsAdding old new x.named.id → IsListed found (place + 1) new
listed_more found place x old new order lt is h rises adds = record {
  ascending = rises.ascending;
  low = λ k d le within.
      let later = order place k d (omega (arith, le)) within in
      let same : (get_or found place d).named.id ≡ x.named.id = ap (λ (y : Found). y.named.id) (get_or_default found place d x lt ∙ sym is) in
      All-weaker (λ (e : Entry). e.id ≤ x.named.id) (λ (e : Entry). e.id ≤ (get_or found k d).named.id) (λ e l. omega (arith, l, later, same)) new rises.most_is;
  source = λ e c. ⊎_elim
      (λ (same : new ≡ old). h.source e (subst (λ (q : List Entry). Contains q e) same c))
      (λ (more : (a : Entry) × (a.id ≡ x.named.id) × (new ≡ old ++ a ∷ [])). ⊎_elim
      (λ (was : Contains old e). h.source e was)
      (λ (q : more.0 ≡ e). (x, (place, lt, sym is), ap (λ (w : Entry). w.id) (sym q) ∙ more.1))
      (Contains-push_cases old more.0 e (subst (λ (q : List Entry). Contains q e) more.2 c)))
      adds;
}

-- and below the first free id
pub ordered_by : (names : List Named) (found : List Found) (entries : List Entry) (first next : ℕ) → AreAscending entries → ComeFrom found entries → AreAmong names found → ((x : Named) → Contains names x → x.id < first) → IsPast found first next → AreOrdered entries next
ordered_by names found entries first next ascending source among above past = record {
  ascending = ascending;
  below = All-weaker (Contains entries) (λ (e : Entry). e.id < next) (λ e c.
      let s = source e c in
      let less = above s.0.named (among s.0 s.1).0 in
      omega (arith, less, s.2, past.kept)) entries (All-contains_itself entries);
}
