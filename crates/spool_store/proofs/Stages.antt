-- The stages of a commit, pointwise, and that each image before the deciding renaming is one of
-- 'before'.
use Rattle.std.proofs.Common.{◌≡◌, ◌≢◌, ⊎_elim, ℕ, ◌≤◌, List, [], ◌∷◌, ◌++◌, Some, None, refl, sym, ◌∙◌, ap, subst, Contains}
use Rattle.std.specs.Prelude.{All}
use Rattle.std.proofs.lemmas.List.Elements.{All-nil, All-push, All-weaker, All-contains, All-contains_itself, Contains-append_left, Contains-push}
use Rattle.mail_base.specs.declared.id.Kind.{Kind}
use Rattle.mail_base.specs.declared.id.Kind.TheVariants.{Df, Qf, Tf}
use Rattle.spool_store.specs.Queue.{at}
use Rattle.mail_base.specs.Limits.{IsId}
use Rattle.spool_disk.specs.Disk.{Place, FileMap, bytes_at, IsSameBut}
use Rattle.qf_format.specs.Spelling.{spelled}
use Rattle.spool_store.specs.Entries.{Stored}
use Rattle.spool_store.specs.Tidying.{HasRenamed}
use Rattle.spool_store.specs.Changes.{control_place, body_at, draft_place, IsPut, control, body, other, HoldsBoth, IsMidway, as_before, draft, of_child}
use Rattle.spool_store.specs.Writes.{AreWritten, HasBody, HasDraft, HasNewDraft, AreRaised, IsFurther}
use Rattle.spool_store.proofs.Places.{kinds_of, ids_of}
use Rattle.spool_store.proofs.Replacing.{place_or}

-- a map in which nothing is written yet is the map before
pub written_none : (f : FileMap) → AreWritten [] f f
written_none f = record { at = λ p. other refl; holds = All-nil (HoldsBoth f) }

-- what is put stays put where nothing changes
pub put_same : (done : List Stored) (f g h : FileMap) (p : Place) → bytes_at h p ≡ bytes_at g p → IsPut done f g p → IsPut done f h p
put_same done f g h p e (control t k q holds) = control t k q (e ∙ holds)
put_same done f g h p e (body t k q holds) = body t k q (e ∙ holds)
put_same done f g h p e (other q) = other (e ∙ q)

put_push : (done : List Stored) (s : Stored) (f g : FileMap) (p : Place) → IsPut done f g p → IsPut (done ++ s ∷ []) f g p
put_push done s f g p (control t k q holds) = control t (Contains-append_left done (s ∷ []) t k) q holds
put_push done s f g p (body t k q holds) = body t (Contains-append_left done (s ∷ []) t k) q holds
put_push done s f g p (other q) = other q

-- a place of an entry among these is none of one further
pub holds_same : (done : List Stored) (g h : FileMap) → ((t : Stored) → Contains done t → bytes_at h (control_place t) ≡ bytes_at g (control_place t)) → ((t : Stored) → Contains done t → bytes_at h (body_at t) ≡ bytes_at g (body_at t)) → All (HoldsBoth g) done → All (HoldsBoth h) done
holds_same done g h c b holds = All-weaker (Contains done) (HoldsBoth h) (λ t k. let its = All-contains (HoldsBoth g) done t holds k in record { control = c t k ∙ its.control; body = b t k ∙ its.body }) done (All-contains_itself done)

further : (done : List Stored) (s : Stored) → IsId s.id → IsFurther done s → (t : Stored) → Contains done t → (k j : Kind) → at t.dir k t.id ≢ at s.dir j s.id
further done s within far t m k j = λ e. let its = All-contains (λ (q : Stored). IsId q.id × (q.id ≢ s.id)) done t far m in its.1 (ids_of t.dir s.dir k j t.id s.id its.0 within e)

-- the body of one more is written
pub put_body : (done : List Stored) (s : Stored) (f g h : FileMap) → IsId s.id → IsFurther done s → AreWritten done f g → bytes_at h (body_at s) ≡ Some s.body → IsSameBut (body_at s) g h → HasBody done s f h
put_body done s f g h within far w holds others = record {
  at = λ p ne. put_same done f g h p (others p ne) (w.at p);
  holds = holds_same done g h (λ t k. others (control_place t) (further done s within far t k Qf Df)) (λ t k. others (body_at t) (further done s within far t k Df Df)) w.holds;
  body = holds;
}

-- its draft is written
pub put_draft : (done : List Stored) (s : Stored) (f g h : FileMap) → IsId s.id → IsFurther done s → HasBody done s f g → bytes_at h (draft_place s) ≡ Some (spelled s.control) → IsSameBut (draft_place s) g h → HasDraft done s f h
put_draft done s f g h within far w holds others = record {
  at = λ p ne nor. put_same done f g h p (others p nor) (w.at p ne);
  holds = holds_same done g h (λ t k. others (control_place t) (further done s within far t k Qf Tf)) (λ t k. others (body_at t) (further done s within far t k Df Tf)) w.holds;
  body = others (body_at s) (λ e. let z : Df ≡ Tf = kinds_of s.dir s.dir Df Tf s.id s.id e in cc z) ∙ w.body;
  draft = holds;
}

-- it takes its name
pub publish : (done : List Stored) (s : Stored) (f g h : FileMap) → IsId s.id → IsFurther done s → bytes_at f (draft_place s) ≡ None → HasDraft done s f g → HasRenamed (draft_place s) (control_place s) g h → AreWritten (done ++ s ∷ []) f h
publish done s f g h within far fresh w r =
    let its : HoldsBoth h s = record { control = r.holds ∙ w.draft; body = r.others (body_at s) (λ e. let z : Df ≡ Tf = kinds_of s.dir s.dir Df Tf s.id s.id e in cc z) (λ e. let z : Df ≡ Qf = kinds_of s.dir s.dir Df Qf s.id s.id e in cc z) ∙ w.body } in
    record {
      at = λ p. ⊎_elim
          (λ (e : p ≡ control_place s). control s (Contains-push done s) e (ap (bytes_at h) e ∙ its.control))
          (λ (ne : p ≢ control_place s). ⊎_elim
          (λ (e : p ≡ draft_place s). other (ap (bytes_at h) e ∙ r.gone ∙ sym (ap (bytes_at f) e ∙ fresh)))
          (λ (nor : p ≢ draft_place s). ⊎_elim
          (λ (e : p ≡ body_at s). body s (Contains-push done s) e (ap (bytes_at h) e ∙ its.body))
          (λ (not_body : p ≢ body_at s). put_push done s f h p (put_same done f g h p (r.others p nor ne) (w.at p not_body nor)))
          (place_or p (body_at s)))
          (place_or p (draft_place s)))
          (place_or p (control_place s));
      holds = All-push (HoldsBoth h) done s (holds_same done g h (λ t k. r.others (control_place t) (further done s within far t k Qf Tf) (further done s within far t k Qf Qf)) (λ t k. r.others (body_at t) (further done s within far t k Df Tf) (further done s within far t k Df Qf)) w.holds) its;
    }

-- the draft of an old entry's new control
pub put_new_draft : (done : List Stored) (s : Stored) (f g h : FileMap) → IsId s.id → IsFurther done s → AreWritten done f g → bytes_at h (draft_place s) ≡ Some (spelled s.control) → IsSameBut (draft_place s) g h → HasNewDraft done s f h
put_new_draft done s f g h within far w holds others = record {
  at = λ p ne. put_same done f g h p (others p ne) (w.at p);
  holds = holds_same done g h (λ t k. others (control_place t) (further done s within far t k Qf Tf)) (λ t k. others (body_at t) (further done s within far t k Df Tf)) w.holds;
  draft = holds;
}

-- it takes the old one's name
pub raise : (done : List Stored) (s : Stored) (f g h : FileMap) → IsId s.id → IsFurther done s → bytes_at f (draft_place s) ≡ None → HasNewDraft done s f g → HasRenamed (draft_place s) (control_place s) g h → AreRaised done s f h
raise done s f g h within far fresh w r = record {
  at = λ p ne. ⊎_elim
      (λ (e : p ≡ draft_place s). other (ap (bytes_at h) e ∙ r.gone ∙ sym (ap (bytes_at f) e ∙ fresh)))
      (λ (nor : p ≢ draft_place s). put_same done f g h p (r.others p nor ne) (w.at p nor))
      (place_or p (draft_place s));
  holds = holds_same done g h (λ t k. r.others (control_place t) (further done s within far t k Qf Tf) (further done s within far t k Qf Qf)) (λ t k. r.others (body_at t) (further done s within far t k Df Tf) (further done s within far t k Df Qf)) w.holds;
  control = r.holds ∙ w.draft;
}

-- each of these maps, and what a write in them may leave, is one of 'before' as long as no parent
-- has its name
pub put_before : (next : ℕ) (drafted : Place → Type 0) (done children : List Stored) (f g : FileMap) (p : Place) → ((t : Stored) → Contains done t → Contains children t × (next ≤ t.id) × IsId t.id) → IsPut done f g p → IsMidway next drafted children f g p
put_before next drafted done children f g p among (control t k q holds) = of_child t (among t k).0 q holds
put_before next drafted done children f g p among (body t k q holds) = let a = among t k in IsMidway.body t.dir t.id a.1 a.2 q
put_before next drafted done children f g p among (other q) = as_before q

-- a place that didn't change is as far as it was
pub midway_same : (next : ℕ) (drafted : Place → Type 0) (children : List Stored) (f g h : FileMap) (p : Place) → bytes_at h p ≡ bytes_at g p → IsMidway next drafted children f g p → IsMidway next drafted children f h p
midway_same next drafted children f g h p e (as_before q) = as_before (e ∙ q)
midway_same next drafted children f g h p e (IsMidway.body dir id le within q) = IsMidway.body dir id le within q
midway_same next drafted children f g h p e (draft dir id d q) = draft dir id d q
midway_same next drafted children f g h p e (of_child t k q holds) = of_child t k q (e ∙ holds)

-- a write of a body of a free id
pub body_before : (next : ℕ) (drafted : Place → Type 0) (children : List Stored) (s : Stored) (f g h : FileMap) → next ≤ s.id → IsId s.id → ((p : Place) → IsMidway next drafted children f g p) → IsSameBut (body_at s) g h → (p : Place) → IsMidway next drafted children f h p
body_before next drafted children s f g h le within w others p = ⊎_elim
    (λ (e : p ≡ body_at s). IsMidway.body s.dir s.id le within e)
    (λ (ne : p ≢ body_at s). midway_same next drafted children f g h p (others p ne) (w p))
    (place_or p (body_at s))

-- a write of a draft
pub draft_before : (next : ℕ) (drafted : Place → Type 0) (children : List Stored) (s : Stored) (f g h : FileMap) → drafted (draft_place s) → ((p : Place) → IsMidway next drafted children f g p) → IsSameBut (draft_place s) g h → (p : Place) → IsMidway next drafted children f h p
draft_before next drafted children s f g h d w others p = ⊎_elim
    (λ (e : p ≡ draft_place s). draft s.dir s.id (subst drafted (sym e) d) e)
    (λ (ne : p ≢ draft_place s). midway_same next drafted children f g h p (others p ne) (w p))
    (place_or p (draft_place s))
