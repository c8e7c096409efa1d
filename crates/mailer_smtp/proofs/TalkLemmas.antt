-- Parts of a dialogue, one after the other.
use Rattle.std.proofs.Common.{◌≡◌, ℕ, Bool, false, List, [], ◌++◌, refl, sym, ◌∙◌, subst, append_assoc}
use Rattle.std.specs.List.{list_any}
use Rattle.std.proofs.lemmas.List.Folds.{list_any-append}
use Rattle.mail_base.proofs.Gaining.{gains_none, gains_join}
use Rattle.link_edge.specs.declared.dial_event.DialEvent.{DialEvent}
use Rattle.link_edge.specs.Dials.{DialSeen, IsOpenAt, IsSoundAt}
use Rattle.mailer_smtp.specs.Plans.{Plan, Hears}
use Rattle.mailer_smtp.specs.Talks.{Leads, stays, heard, wrote, unwritten, is_fault}
use Rattle.mailer_smtp.specs.Deliveries.{Counts}
use Rattle.mailer_smtp.specs.inner.Steps.{Went}
use Rattle.mailer_smtp.proofs.LineLemmas.{counts_join, counts_calm}

pub leads_join : (line : ℕ) (p q r : Plan) (a b c : List ℕ) (es fs : List DialEvent) → Leads line p a es q b → Leads line q b fs r c → Leads line p a (es ++ fs) r c
leads_join line p q r a b c es fs (stays _ _) k = k
leads_join line p q r a b c es fs (heard wants go bytes events verdict left more to rest is l) k =
    let P : List DialEvent → Type 0 = λ xs. Leads line (Hears wants go) bytes xs r c in
    subst P (sym (append_assoc events more fs)) (heard wants go bytes events verdict left (more ++ fs) r c is (leads_join line (go verdict) to r left rest c more fs l k))
leads_join line p q r a b c es fs (wrote text lost next bytes more to rest l) k = wrote text lost next bytes (more ++ fs) r c (leads_join line next to r bytes rest c more fs l k)
leads_join line p q r a b c es fs (unwritten text lost next bytes more to rest l) k = unwritten text lost next bytes (more ++ fs) r c (leads_join line lost to r bytes rest c more fs l k)

-- faults of both
pub counts_both : (a b c : ℕ) (es fs : List DialEvent) → Counts a b (list_any is_fault es) → Counts b c (list_any is_fault fs) → Counts a c (list_any is_fault (es ++ fs))
counts_both a b c es fs h k =
    let P : Bool → Type 0 = λ f. Counts a c f in
    subst P (sym (list_any-append is_fault es fs)) (counts_join a b c _ _ h k)

pub went_join : (line : ℕ) (old mid new : DialSeen) (p q r : Plan) (a b c : List ℕ) → Went line old mid p a q b → Went line mid new q b r c → Went line old new p a r c
went_join line old mid new p q r a b c h k = record {
  events = h.events ++ k.events;
  leads = leads_join line p q r a b c h.events k.events h.leads k.leads;
  told = gains_join old.told mid.told new.told h.events k.events h.told k.told;
  missed = k.missed ∙ h.missed;
  counts = counts_both old.faults mid.faults new.faults h.events k.events h.counts k.counts;
  live = k.live;
}

-- from and to the same plans
pub went_as : (line : ℕ) (old new : DialSeen) (p q r s : Plan) (a b : List ℕ) → p ≡ q → r ≡ s → Went line old new p a r b → Went line old new q a s b
went_as line old new p q r s a b from to h =
    let P : Plan → Type 0 = λ x. Went line old new x a r b in
    let Q : Plan → Type 0 = λ x. Went line old new q a x b in
    subst Q to (subst P from h)

-- nothing happens
pub went_none : (line : ℕ) (seen : DialSeen) (p : Plan) (a : List ℕ) → IsOpenAt seen line → Went line seen seen p a p a
went_none line seen p a live = record {
  events = [];
  leads = stays p a;
  told = gains_none seen.told;
  missed = refl;
  counts = counts_calm seen.faults seen.faults false refl refl;
  live = live;
}

-- the same at equal states
pub went_moved : (line : ℕ) (old new now : DialSeen) (p q : Plan) (a b c : List ℕ) → now ≡ new → c ≡ b → Went line old new p a q b → Went line old now p a q c
went_moved line old new now p q a b c same rest h =
    let P : DialSeen → Type 0 = λ x. Went line old x p a q b in
    let Q : List ℕ → Type 0 = λ x. Went line old now p a q x in
    subst Q (sym rest) (subst P (sym same) h)

pub sound_moved : (line : ℕ) (new now : DialSeen) → now ≡ new → IsSoundAt new line → IsSoundAt now line
sound_moved line new now same h =
    let P : DialSeen → Type 0 = λ x. IsSoundAt x line in
    subst P (sym same) h
