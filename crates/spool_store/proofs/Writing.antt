-- The calls of a part: what they lead to, and what a stop in them leaves.
use Rattle.std.proofs.Common.{◌≡◌, ◌≢◌, ◌⊎◌, inl, inr, ⊎_elim, ℕ, ◌<◌, ◌≤◌, ◌+◌, List, [], ◌∷◌, ◌++◌, length, take, map, get_or, length-take-le, get_or-take, Some, None, refl, sym, ◌∙◌, ap, subst, arith, Contains}
use Rattle.std.specs.Prelude.{Any}
use Rattle.std.proofs.lemmas.List.{take_more, get_or_default, get_or-map, length-map}
use Rattle.std.proofs.lemmas.List.Elements.{All-contains_itself, All-weaker, Contains-push_cases, Contains-get_or}
use Rattle.mail_base.specs.declared.id.Kind.TheVariants.{Df, Qf, Tf}
use Rattle.mail_base.specs.Limits.{IsId}
use Rattle.mail_base.specs.Names.{name_of}
use Rattle.qf_format.specs.Spelling.{spelled}
use Rattle.spool_disk.specs.Disk.{Place, FileMap, bytes_at, IsSame, IsSameBut, HasWritten, HasRenamed}
use Rattle.spool_store.specs.Entries.{Stored}
use Rattle.spool_store.specs.Tidying as tidying
use Rattle.spool_store.specs.Changes.{control_place, body_at, draft_place, IsPut, control, body, other}
use Rattle.spool_store.specs.Writes.{AreWritten, HasBody, HasDraft, HasNewDraft, AreRaised}
use Rattle.spool_store.specs.Parts.{entry_of}
use Rattle.spool_store.specs.inner.Parts.{CanFollow, CanRaise, IsOwn, own_body, own_draft, own_control, IsLeft, IsUnderWay, AreNew, AreAmong}
use Rattle.spool_store.specs.declared.part.Part.{Part}
use Rattle.spool_store.proofs.Replacing.{place_or}
use Rattle.spool_store.proofs.Standing.{contains_head}
use Rattle.spool_store.proofs.Stages.{put_new_draft, raise, put_body, put_draft, publish, put_before, midway_same, body_before, draft_before}

-- the place of a name in an entry's directory
pub place_is : (d n m : List ℕ) → n ≡ m → ◌≡◌ {A = Place} (d, n) (d, m)
place_is d n m q = λ i. (d, q i)

-- one of the entries has the draft
drafted : (own : List Stored) (s : Stored) → Contains own s → Any (λ t. draft_place s ≡ draft_place t) own
drafted own s k = (k.0, s, k.1, k.2, refl)

-- what stays one of these entries' files, or as it was
left_same : (own : List Stored) (f g h : FileMap) → IsSame g h → IsLeft own f g → IsLeft own f h
left_same own f g h same left = λ p. ⊎_elim (λ (e : bytes_at g p ≡ bytes_at f p). inl (same p ∙ e)) (λ (o : IsOwn own p). inr o) (left p)

left_but : (own : List Stored) (f g h : FileMap) (place : Place) → IsOwn own place → IsSameBut place g h → IsLeft own f g → IsLeft own f h
left_but own f g h place is others left = λ p. ⊎_elim
    (λ (e : p ≡ place). inr (subst (IsOwn own) (sym e) is))
    (λ (ne : p ≢ place). ⊎_elim (λ (e : bytes_at g p ≡ bytes_at f p). inl (others p ne ∙ e)) (λ (o : IsOwn own p). inr o) (left p))
    (place_or p place)

left_put : (own done : List Stored) (f g : FileMap) (p : Place) → ((t : Stored) → Contains done t → Contains own t) → IsPut done f g p → (bytes_at g p ≡ bytes_at f p) ⊎ IsOwn own p
left_put own done f g p among (control t k is holds) = inr (own_control t (among t k) is)
left_put own done f g p among (body t k is holds) = inr (own_body t (among t k) is)
left_put own done f g p among (other e) = inl e

under_same : (next : ℕ) (own children : List Stored) (f g h : FileMap) → IsSame g h → IsUnderWay next own children f g → IsUnderWay next own children f h
under_same next own children f g h same u = record {
  at = λ q. midway_same next (λ r. Any (λ t. r ≡ draft_place t) own) children f g h q (same q) (u.at q);
  left = left_same own f g h same u.left;
}

under_none : (next : ℕ) (own children : List Stored) (f g : FileMap) → AreWritten [] f g → IsUnderWay next own children f g
under_none next own children f g w = record {
  at = λ q. put_before next (λ r. Any (λ t. r ≡ draft_place t) own) [] children f g q (λ t m. absurd (omega (arith, m.1))) (w.at q);
  left = λ q. left_put own [] f g q (λ t m. absurd (omega (arith, m.1))) (w.at q);
}

-- the body
pub body_safe : (f : FileMap) (next : ℕ) (own children done : List Stored) (s : Stored) (df : List ℕ) → df ≡ name_of Df s.id → CanFollow f next done s → Contains own s → (g h : FileMap) → AreWritten done f g × IsUnderWay next own children f g → IsSameBut (s.dir, df) g h → IsUnderWay next own children f h
body_safe f next own children done s df is can k g h p others =
    let same : IsSameBut (body_at s) g h = subst (λ q. IsSameBut q g h) (place_is s.dir df (name_of Df s.id) is) others in
    record {
      at = body_before next (λ q. Any (λ t. q ≡ draft_place t) own) children s f g h can.free can.within p.1.at same;
      left = left_but own f g h (body_at s) (own_body s k refl) same p.1.left;
    }

-- a body that is written adds to what a commit wrote so far
pub body_leads : (f : FileMap) (next : ℕ) (own children done : List Stored) (s : Stored) (df : List ℕ) → df ≡ name_of Df s.id → CanFollow f next done s → Contains own s → (g h : FileMap) → AreWritten done f g × IsUnderWay next own children f g → HasWritten (s.dir, df) s.body g h → HasBody done s f h × IsUnderWay next own children f h
body_leads f next own children done s df is can k g h p w =
    let place = place_is s.dir df (name_of Df s.id) is in (
      put_body done s f g h can.within can.further p.0 (ap (bytes_at h) (sym place) ∙ w.holds) (subst (λ q. IsSameBut q g h) place w.others),
      body_safe f next own children done s df is can k g h p w.others,
    )

-- the draft
draft_under : (f : FileMap) (next : ℕ) (own children : List Stored) (s : Stored) → Contains own s → (g h : FileMap) → IsUnderWay next own children f g → IsSameBut (draft_place s) g h → IsUnderWay next own children f h
draft_under f next own children s k g h u same = record {
  at = draft_before next (λ q. Any (λ t. q ≡ draft_place t) own) children s f g h (drafted own s k) u.at same;
  left = left_but own f g h (draft_place s) (own_draft s k refl) same u.left;
}

-- a change at the draft's name alone leaves the commit under way
pub draft_safe : (f : FileMap) (next : ℕ) (own children done : List Stored) (s : Stored) (tf : List ℕ) → tf ≡ name_of Tf s.id → Contains own s → (g h : FileMap) → HasBody done s f g × IsUnderWay next own children f g → IsSameBut (s.dir, tf) g h → IsUnderWay next own children f h
draft_safe f next own children done s tf is k g h p others = draft_under f next own children s k g h p.1 (subst (λ q. IsSameBut q g h) (place_is s.dir tf (name_of Tf s.id) is) others)

-- a control that is written as a draft adds to what a commit wrote so far
pub draft_leads : (f : FileMap) (next : ℕ) (own children done : List Stored) (s : Stored) (tf text : List ℕ) → tf ≡ name_of Tf s.id → text ≡ spelled s.control → CanFollow f next done s → Contains own s → (g h : FileMap) → HasBody done s f g × IsUnderWay next own children f g → HasWritten (s.dir, tf) text g h → HasDraft done s f h × IsUnderWay next own children f h
draft_leads f next own children done s tf text is said can k g h p w =
    let place = place_is s.dir tf (name_of Tf s.id) is in (
      put_draft done s f g h can.within can.further p.0 (ap (bytes_at h) (sym place) ∙ w.holds ∙ ap (λ (b : List ℕ). Some b) said) (subst (λ q. IsSameBut q g h) place w.others),
      draft_safe f next own children done s tf is k g h p w.others,
    )

-- a renaming, by its places
pub renamed_as : (s : Stored) (tf qf : List ℕ) → tf ≡ name_of Tf s.id → qf ≡ name_of Qf s.id → (g h : FileMap) → HasRenamed s.dir tf qf g h → tidying.HasRenamed (draft_place s) (control_place s) g h
renamed_as s tf qf from to g h r =
    let one = subst (λ (q : List ℕ). HasRenamed s.dir q qf g h) from r in
    let both = subst (λ (q : List ℕ). HasRenamed s.dir (name_of Tf s.id) q g h) to one in
    record { holds = both.holds; gone = both.gone; others = both.others }

-- that of a child
among_push : (next : ℕ) (these done : List Stored) (s : Stored) → Contains these s → next ≤ s.id → IsId s.id → ((t : Stored) → Contains done t → Contains these t × (next ≤ t.id) × IsId t.id) → (t : Stored) → Contains (done ++ s ∷ []) t → Contains these t × (next ≤ t.id) × IsId t.id
among_push next these done s k free within among t m = ⊎_elim (λ (a : Contains done t). among t a) (λ (e : s ≡ t). subst (λ (q : Stored). Contains these q × (next ≤ q.id) × IsId q.id) e (k, free, within)) (Contains-push_cases done s t m)

-- a child's draft that is renamed is written, and the commit is under way
pub publish_leads : (f : FileMap) (next : ℕ) (own children done : List Stored) (s : Stored) (tf qf : List ℕ) → tf ≡ name_of Tf s.id → qf ≡ name_of Qf s.id → CanFollow f next done s → ((t : Stored) → Contains children t → Contains own t) → Contains children s → AreAmong next done children → (g h : FileMap) → HasDraft done s f g × IsUnderWay next own children f g → HasRenamed s.dir tf qf g h → AreWritten (done ++ s ∷ []) f h × IsUnderWay next own children f h
publish_leads f next own children done s tf qf from to can mine k among g h p r =
    let w = publish done s f g h can.within can.further can.fresh p.0 (renamed_as s tf qf from to g h r) in
    let all = among_push next children done s k can.free can.within among in
    (w, record { at = λ q. put_before next (λ q. Any (λ t. q ≡ draft_place t) own) (done ++ s ∷ []) children f h q all (w.at q); left = λ q. left_put own (done ++ s ∷ []) f h q (λ t m. mine t (all t m).0) (w.at q) })

-- a stop at the renaming of a child's draft leaves the commit under way
pub publish_safe : (f : FileMap) (next : ℕ) (own children done : List Stored) (s : Stored) (tf qf : List ℕ) → tf ≡ name_of Tf s.id → qf ≡ name_of Qf s.id → CanFollow f next done s → ((t : Stored) → Contains children t → Contains own t) → Contains children s → AreAmong next done children → (g h : FileMap) → HasDraft done s f g × IsUnderWay next own children f g → IsSame g h ⊎ HasRenamed s.dir tf qf g h → IsUnderWay next own children f h
publish_safe f next own children done s tf qf from to can mine k among g h p (inl same) = under_same next own children f g h same p.1
publish_safe f next own children done s tf qf from to can mine k among g h p (inr r) = (publish_leads f next own children done s tf qf from to can mine k among g h p r).1

-- that of a new parent
pub decide_leads : (f : FileMap) (next : ℕ) (own children : List Stored) (s : Stored) (tf qf : List ℕ) → tf ≡ name_of Tf s.id → qf ≡ name_of Qf s.id → CanFollow f next children s → (g h : FileMap) → HasDraft children s f g × IsUnderWay next own children f g → HasRenamed s.dir tf qf g h → AreWritten (children ++ s ∷ []) f h
decide_leads f next own children s tf qf from to can g h p r = publish children s f g h can.within can.further can.fresh p.0 (renamed_as s tf qf from to g h r)

-- a stop at the deciding renaming leaves the commit under way or done
pub decide_safe : (f : FileMap) (next : ℕ) (own children : List Stored) (s : Stored) (tf qf : List ℕ) → tf ≡ name_of Tf s.id → qf ≡ name_of Qf s.id → CanFollow f next children s → (g h : FileMap) → HasDraft children s f g × IsUnderWay next own children f g → IsSame g h ⊎ HasRenamed s.dir tf qf g h → IsUnderWay next own children f h ⊎ AreWritten (children ++ s ∷ []) f h
decide_safe f next own children s tf qf from to can g h p (inl same) = inl (under_same next own children f g h same p.1)
decide_safe f next own children s tf qf from to can g h p (inr r) = inr (decide_leads f next own children s tf qf from to can g h p r)

-- an old entry's new control
pub control_safe : (f : FileMap) (next : ℕ) (these : List Stored) (s : Stored) (dir tf : List ℕ) → dir ≡ s.dir → tf ≡ name_of Tf s.id → (g h : FileMap) → AreWritten these f g × IsUnderWay next (s ∷ these) these f g → IsSameBut (dir, tf) g h → IsUnderWay next (s ∷ these) these f h
control_safe f next these s dir tf in_dir is g h p others =
    draft_under f next (s ∷ these) these s (contains_head s these) g h p.1 (subst (λ q. IsSameBut q g h) (λ i. (in_dir i, is i)) others)

-- a new control that is written as a draft adds to what a commit wrote so far
pub control_leads : (f : FileMap) (next : ℕ) (these : List Stored) (s : Stored) (dir tf text : List ℕ) → dir ≡ s.dir → tf ≡ name_of Tf s.id → text ≡ spelled s.control → CanRaise f these s → (g h : FileMap) → AreWritten these f g × IsUnderWay next (s ∷ these) these f g → HasWritten (dir, tf) text g h → HasNewDraft these s f h × IsUnderWay next (s ∷ these) these f h
control_leads f next these s dir tf text in_dir is said can g h p w =
    let place : ◌≡◌ {A = Place} (dir, tf) (draft_place s) = λ i. (in_dir i, is i) in (
      put_new_draft these s f g h can.within can.further p.0 (ap (bytes_at h) (sym place) ∙ w.holds ∙ ap (λ (b : List ℕ). Some b) said) (subst (λ q. IsSameBut q g h) place w.others),
      control_safe f next these s dir tf in_dir is g h p w.others,
    )

raised_as : (s : Stored) (dir tf qf : List ℕ) → dir ≡ s.dir → tf ≡ name_of Tf s.id → qf ≡ name_of Qf s.id → (g h : FileMap) → HasRenamed dir tf qf g h → tidying.HasRenamed (draft_place s) (control_place s) g h
raised_as s dir tf qf in_dir from to g h r = renamed_as s tf qf from to g h (subst (λ (q : List ℕ). HasRenamed q tf qf g h) in_dir r)

-- a new control that is renamed over the old one raises the entry
pub raise_leads : (f : FileMap) (next : ℕ) (these : List Stored) (s : Stored) (dir tf qf : List ℕ) → dir ≡ s.dir → tf ≡ name_of Tf s.id → qf ≡ name_of Qf s.id → CanRaise f these s → (g h : FileMap) → HasNewDraft these s f g × IsUnderWay next (s ∷ these) these f g → HasRenamed dir tf qf g h → AreRaised these s f h
raise_leads f next these s dir tf qf in_dir from to can g h p r = raise these s f g h can.within can.further can.fresh p.0 (raised_as s dir tf qf in_dir from to g h r)

-- a stop at that renaming leaves the commit under way or the entry raised
pub raise_safe : (f : FileMap) (next : ℕ) (these : List Stored) (s : Stored) (dir tf qf : List ℕ) → dir ≡ s.dir → tf ≡ name_of Tf s.id → qf ≡ name_of Qf s.id → CanRaise f these s → (g h : FileMap) → HasNewDraft these s f g × IsUnderWay next (s ∷ these) these f g → IsSame g h ⊎ HasRenamed dir tf qf g h → IsUnderWay next (s ∷ these) these f h ⊎ AreRaised these s f h
raise_safe f next these s dir tf qf in_dir from to can g h p (inl same) = inl (under_same next (s ∷ these) these f g h same p.1)
raise_safe f next these s dir tf qf in_dir from to can g h p (inr r) = inr (raise_leads f next these s dir tf qf in_dir from to can g h p r)

-- the entry of the part at a place is at that place
pub part_at : (b : List ℕ) (parts : List Part) (i : ℕ) (part : Part) → i < length parts → part ≡ get_or parts i part → (i < length (map (entry_of b) parts)) × (get_or (map (entry_of b) parts) i (entry_of b part) ≡ entry_of b part)
part_at b parts i part lt e = (omega (arith, length-map parts (entry_of b), lt), get_or-map (entry_of b) parts i part (entry_of b part) lt ∙ ap (entry_of b) (sym e))

-- what is at a place of a list is in it
pub nth_among : (these : List Stored) (i : ℕ) (s : Stored) → i < length these → get_or these i s ≡ s → Contains these s
nth_among these i s lt e = subst (Contains these) e (Contains-get_or these i s lt)

-- the first so many and the one at that place are the first of one more
pub nth_more : (these : List Stored) (i : ℕ) (s : Stored) → i < length these → get_or these i s ≡ s → take (i + 1) these ≡ take i these ++ s ∷ []
nth_more these i s lt e = take_more these i s lt ∙ ap (λ (q : Stored). take i these ++ q ∷ []) e

-- those before it
taken : (these : List Stored) (i : ℕ) → i ≤ length these → (t : Stored) → Contains (take i these) t → (k : ℕ) × (k < i) × (k < length these) × (get_or these k t ≡ t)
taken these i le t m =
    let n : length (take i these) ≡ i = length-take-le i these le in
    let lt : m.0 < i = omega (arith, m.1, n) in
    (m.0, lt, omega (arith, lt, le), sym (get_or-take i these m.0 t lt) ∙ m.2)

-- of new entries each can follow those before it
pub nth_follows : (f : FileMap) (next : ℕ) (these : List Stored) (i : ℕ) (s : Stored) → AreNew f next these → i < length these → get_or these i s ≡ s → CanFollow f next (take i these) s
nth_follows f next these i s h lt e =
    record {
      free = subst (λ (q : Stored). next ≤ q.id) e (h.free i s lt);
      within = subst (λ (q : Stored). IsId q.id) e (h.within i s lt);
      further = All-weaker (Contains (take i these)) (λ t. IsId t.id × (t.id ≢ s.id)) (λ t m.
          let k = taken these i (omega (arith, lt)) t m in
          let less : (get_or these k.0 t).id < (get_or these i t).id = h.ascending k.0 i t k.1 lt in
          let same : get_or these i t ≡ get_or these i s = get_or_default these i t s lt in
          (subst (λ (q : Stored). IsId q.id) k.3 (h.within k.0 t k.2), λ n. omega (arith, less, ap (λ (q : Stored). q.id) k.3, ap (λ (q : Stored). q.id) same, ap (λ (q : Stored). q.id) e, n))) (take i these) (All-contains_itself (take i these));
      fresh = subst (λ (q : Stored). bytes_at f (draft_place q) ≡ None) e (h.fresh i s lt);
    }

-- the first so many of new entries are among them
pub taken_among : (f : FileMap) (next : ℕ) (these : List Stored) (i : ℕ) → AreNew f next these → i ≤ length these → AreAmong next (take i these) these
taken_among f next these i h le t m =
    let k = taken these i le t m in
    ((k.0, k.2, k.3), subst (λ (q : Stored). next ≤ q.id) k.3 (h.free k.0 t k.2), subst (λ (q : Stored). IsId q.id) k.3 (h.within k.0 t k.2))

-- where nothing is written yet, the commit is under way
pub none_under : (f : FileMap) (next : ℕ) (own children : List Stored) (g : FileMap) → AreWritten [] f g → IsUnderWay next own children f g
none_under f next own children g w = under_none next own children f g w
