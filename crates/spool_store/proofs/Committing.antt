-- A commit, from drafts to settled maps and its images before the renaming that decides.
use Rattle.std.proofs.Common.{◌≡◌, ◌≢◌, ⊎_elim, ℕ, ◌+◌, ◌<◌, List, [], ◌∷◌, ◌++◌, map, length, Some, None, refl, sym, ◌∙◌, ap, subst, arith, Contains}
use Rattle.std.specs.Prelude.{All}
use Rattle.std.proofs.lemmas.List.Elements.{All-cons, All-weaker, All-contains, All-contains_itself, Contains-append_cases, Contains-append_left, Contains-push}
use Rattle.mail_base.specs.declared.id.Kind.TheVariants.{Qf}
use Rattle.spool_disk.specs.Disk.{Place, FileMap, bytes_at}
use Rattle.mail_base.specs.declared.control.Control.{Control}
use Rattle.mail_base.specs.declared.control.Parent.{Parent}
use Rattle.qf_format.specs.Valid.{IsParent}
use Rattle.spool_store.specs.Entries.{Stored, Table, with_control}
use Rattle.spool_store.specs.Settled.{spot_of, StandsFor, IsSettled}
use Rattle.spool_store.specs.Changes.{control_place, IsRaised, IsAdded, IsNew, IsRooted, of_none, of_added, of_live, IsPut, control, body, other, HoldsBoth, not_yet, lower, IsWaiting, IsMidway}
use Rattle.mail_base.specs.declared.control.Draft.{Draft}
use Rattle.spool_store.specs.Writes.{stored, heir, head_of, children_of, after_commit, control_file, AreWritten, AreDraftable, AreHeirs, IsOld, AreRaised}
use Rattle.spool_store.proofs.Standing.{contains_cases, contains_head, contains_tail}
use Rattle.spool_store.proofs.Replacing.{place_or, replaced_settled}
use Rattle.spool_store.proofs.Raising.{raised_live}
use Rattle.spool_store.proofs.Adding.{added_settled, live_named}
use Rattle.spool_store.proofs.Waiting.{before_stands}
use Rattle.spool_store.proofs.Lists.{here, later}
use Rattle.spool_store.proofs.Numbering.{IsFrom, numbered_from, numbered_ascends, first_ascends, numbered_new}

-- the control under which the children of a commit stand
pub new_head : (dirs : List (List ℕ)) (next : ℕ) (children : List Draft) (parent : Draft) → AreDraftable dirs next children parent → IsParent (head_of next parent None)
new_head dirs next children parent able = record { id = omega (arith, able.room); revision = able.head.valid.revision_range }

-- a parent that is there already can be the parent of new entries
pub old_head : (dirs : List (List ℕ)) (next id : ℕ) (children : List Draft) (parent : Draft) → AreHeirs dirs next children parent → id < next → IsParent (head_of next parent (Some id))
old_head dirs next id children parent able lt = record { id = omega (arith, lt, able.room); revision = able.head.valid.revision_range }

-- the order of what is written doesn't matter
put_of : (xs ys : List Stored) (f g : FileMap) (p : Place) → ((s : Stored) → Contains xs s → Contains ys s) → IsPut xs f g p → IsPut ys f g p
put_of xs ys f g p to (control s k e holds) = control s (to s k) e holds
put_of xs ys f g p to (body s k e holds) = body s (to s k) e holds
put_of xs ys f g p to (other e) = other e

pub written_of : (xs ys : List Stored) (f g : FileMap) → ((s : Stored) → Contains xs s → Contains ys s) → ((s : Stored) → Contains ys s → Contains xs s) → AreWritten xs f g → AreWritten ys f g
written_of xs ys f g to back h = record {
  at = λ p. put_of xs ys f g p to (h.at p);
  holds = All-weaker (Contains ys) (HoldsBoth g) (λ s k. All-contains (HoldsBoth g) xs s h.holds (back s k)) ys (All-contains_itself ys);
}

-- what is in a list with an element put behind it is in the one with it put before it
pub front : (x : Stored) (xs : List Stored) (s : Stored) → Contains (xs ++ x ∷ []) s → Contains (x ∷ xs) s
front x xs s k = ⊎_elim (λ (a : Contains xs s). contains_tail x s xs a) (λ (a : Contains (x ∷ []) s). ⊎_elim (λ (e : x ≡ s). subst (Contains (x ∷ xs)) e (contains_head x xs)) (λ (n : Contains [] s). absurd (omega (arith, n.1))) (contains_cases x s [] a)) (Contains-append_cases xs (x ∷ []) s k)

unfront : (x : Stored) (xs : List Stored) (s : Stored) → Contains (x ∷ xs) s → Contains (xs ++ x ∷ []) s
unfront x xs s k = ⊎_elim (λ (e : x ≡ s). subst (Contains (xs ++ x ∷ [])) e (Contains-push xs x)) (λ (a : Contains xs s). Contains-append_left xs (x ∷ []) s a) (contains_cases x s xs k)

-- with a new parent
pub new_added : (dirs : List (List ℕ)) (next : ℕ) (children : List Draft) (parent : Draft) (b : List ℕ) (f g : FileMap) → AreDraftable dirs next children parent → parent.control.parent ≡ None
    → AreWritten (children_of next children parent b None ++ stored next b parent ∷ []) f g → IsAdded dirs next (stored next b parent ∷ children_of next children parent b None) f g
new_added dirs next children parent b f g able alone w =
    let s : Stored = stored next b parent in
    let p : Parent = head_of next parent None in
    let rest : List Stored = children_of next children parent b None in
    let from : All (IsFrom (next + 1) (length children) b p) rest = numbered_from (next + 1) b p children in
    let its = written_of (rest ++ s ∷ []) (s ∷ rest) f g (front s rest) (unfront s rest) w in
    record {
      ascending = first_ascends s b (map (heir p) children);
      new = All-cons (IsNew dirs next) s rest (record { free = omega arith; within = omega (arith, able.room); among = able.head.among; valid = able.head.valid }) (numbered_new dirs next (next + 1) b p children (new_head dirs next children parent able) (omega arith) able.room able.each);
      rooted = All-cons (IsRooted dirs f (s ∷ rest)) s rest (of_none alone) (All-weaker (IsFrom (next + 1) (length children) b p) (IsRooted dirs f (s ∷ rest)) (λ t h. of_added p s h.parent (omega (arith, h.least)) (contains_head s rest) refl (omega arith)) rest from);
      holds = its.holds;
      at = its.at;
    }

-- and their ids are below the next free one
pub new_below : (next : ℕ) (children : List Draft) (parent : Draft) (b : List ℕ) → All (λ (t : Stored). t.id < next + 1 + length children) (stored next b parent ∷ children_of next children parent b None)
new_below next children parent b =
    let p : Parent = head_of next parent None in
    let rest : List Stored = children_of next children parent b None in
    All-cons (λ (t : Stored). t.id < next + 1 + length children) (stored next b parent) rest (omega arith) (All-weaker (IsFrom (next + 1) (length children) b p) (λ (t : Stored). t.id < next + 1 + length children) (λ t h. h.below) rest (numbered_from (next + 1) b p children))

-- a whole commit under a new parent leads from a settled map to one of the table after
pub new_settled : (dirs : List (List ℕ)) (table : Table) (children : List Draft) (parent : Draft) (b : List ℕ) (f g : FileMap) → AreDraftable dirs table.next children parent → parent.control.parent ≡ None
    → AreWritten (children_of table.next children parent b None ++ stored table.next b parent ∷ []) f g → IsSettled dirs table f → IsSettled dirs (after_commit table children parent b None) g
new_settled dirs table children parent b f g able alone w settled = added_settled dirs table (table.next + 1 + length children) (stored table.next b parent ∷ children_of table.next children parent b None) f g (new_added dirs table.next children parent b f g able alone w) (omega arith) (new_below table.next children parent b) settled

put_over_base : (done : List Stored) (f m g : FileMap) (p : Place) → bytes_at m p ≡ bytes_at f p → IsPut done f g p → IsPut done m g p
put_over_base done f m g p e (control s k q holds) = control s k q holds
put_over_base done f m g p e (body s k q holds) = body s k q holds
put_over_base done f m g p e (other q) = other (q ∙ sym e)

-- with an old parent: its control takes its place, and then the children are added
pub old_raised : (dirs : List (List ℕ)) (children : List Draft) (parent : Draft) (old : Control) (next id : ℕ) (b : List ℕ) (f : FileMap) → AreHeirs dirs next children parent → IsOld dirs f id parent old
    → IsRaised dirs (spot_of Qf (stored id b parent)) old parent.control f (control_file (stored id b parent) ∷ f)
old_raised dirs children parent old next id b f able is =
    let s : Stored = stored id b parent in
    record { live = is.live; kind = refl; valid = able.head.valid; parent = is.same; revision = is.least; wanted = is.wanted; holds = here (control_file s) f (control_place s) refl; others = λ place ne. later (control_file s) f place ne }

-- the children are added over the map with that control
pub old_added : (dirs : List (List ℕ)) (children : List Draft) (parent : Draft) (old : Control) (next id : ℕ) (b : List ℕ) (f g : FileMap) → AreHeirs dirs next children parent → IsOld dirs f id parent old → id < next
    → AreRaised (children_of next children parent b (Some id)) (stored id b parent) f g → IsAdded dirs next (children_of next children parent b (Some id)) (control_file (stored id b parent) ∷ f) g
old_added dirs children parent old next id b f g able is lt w =
    let s : Stored = stored id b parent in
    let p : Parent = head_of next parent (Some id) in
    let rest : List Stored = children_of next children parent b (Some id) in
    let mid : FileMap = control_file s ∷ f in
    let raised = old_raised dirs children parent old next id b f able is in
    let from : All (IsFrom next (length children) b p) rest = numbered_from next b p children in
    record {
      ascending = numbered_ascends next b (map (heir p) children);
      new = numbered_new dirs next next b p children (old_head dirs next id children parent able lt) (omega arith) able.room able.each;
      rooted = All-weaker (IsFrom next (length children) b p) (IsRooted dirs mid rest) (λ t h. of_live p h.parent (omega (arith, h.least, lt)) (record { above = spot_of Qf s; control = parent.control; id = refl; live = raised_live dirs (spot_of Qf s) old parent.control f mid raised; least = omega arith })) rest from;
      holds = w.holds;
      at = λ q. ⊎_elim
          (λ (e : q ≡ control_place s). other (ap (bytes_at g) e ∙ w.control ∙ sym (ap (bytes_at mid) e ∙ here (control_file s) f (control_place s) refl)))
          (λ (ne : q ≢ control_place s). put_over_base rest f mid g q (later (control_file s) f q ne) (w.at q ne))
          (place_or q (control_place s));
    }

-- their ids are below the next free one
pub old_below : (next id : ℕ) (children : List Draft) (parent : Draft) (b : List ℕ) → All (λ (t : Stored). t.id < next + length children) (children_of next children parent b (Some id))
old_below next id children parent b =
    let p : Parent = head_of next parent (Some id) in
    All-weaker (IsFrom next (length children) b p) (λ (t : Stored). t.id < next + length children) (λ t h. h.below) (children_of next children parent b (Some id)) (numbered_from next b p children)

-- after a commit under an old parent the map is settled for the table after it
pub old_settled : (dirs : List (List ℕ)) (table : Table) (children : List Draft) (parent : Draft) (old : Control) (id : ℕ) (b : List ℕ) (f g : FileMap) → AreHeirs dirs table.next children parent → IsOld dirs f id parent old
    → AreRaised (children_of table.next children parent b (Some id)) (stored id b parent) f g → IsSettled dirs table f → IsSettled dirs (after_commit table children parent b (Some id)) g
old_settled dirs table children parent old id b f g able is w settled =
    let s : Stored = stored id b parent in
    let mid : FileMap = control_file s ∷ f in
    let first = replaced_settled dirs table (spot_of Qf s) old parent.control f mid (old_raised dirs children parent old table.next id b f able is) settled in
    let lt : id < table.next = settled.tidy.fresh id (live_named dirs f (spot_of Qf s) old is.live) in
    added_settled dirs (record { entries = with_control id parent.control table.entries; next = table.next }) (table.next + length children) (children_of table.next children parent b (Some id)) mid g (old_added dirs children parent old table.next id b f g able is lt w) (omega arith) (old_below table.next id children parent b) first

-- before the renaming that decides
pub new_before : (dirs : List (List ℕ)) (table : Table) (drafted : Place → Type 0) (children : List Draft) (parent : Draft) (b : List ℕ) (f g : FileMap) → AreDraftable dirs table.next children parent
    → ((p : Place) → IsMidway table.next drafted (children_of table.next children parent b None) f g p) → IsSettled dirs table f → StandsFor dirs table g
new_before dirs table drafted children parent b f g able w settled =
    let p : Parent = head_of table.next parent None in
    let rest : List Stored = children_of table.next children parent b None in
    let from : All (IsFrom (table.next + 1) (length children) b p) rest = numbered_from (table.next + 1) b p children in
    before_stands dirs table drafted rest f g (record {
      new = numbered_new dirs table.next (table.next + 1) b p children (new_head dirs table.next children parent able) (omega arith) able.room able.each;
      waiting = All-weaker (IsFrom (table.next + 1) (length children) b p) (IsWaiting dirs table.next f rest) (λ t h. record { parent = p; is = h.parent; away = not_yet (omega arith) (All-weaker (IsFrom (table.next + 1) (length children) b p) (λ (q : Stored). q.id ≢ p.id) (λ q k e. omega (arith, k.least, e)) rest from) }) rest from;
      at = w;
    }) settled.tidy settled.stands

-- before the deciding renaming the map stands for the table as it was
pub old_before : (dirs : List (List ℕ)) (table : Table) (drafted : Place → Type 0) (children : List Draft) (parent : Draft) (old : Control) (id : ℕ) (b : List ℕ) (f g : FileMap) → AreHeirs dirs table.next children parent → IsOld dirs f id parent old → old.revision < parent.control.revision
    → ((p : Place) → IsMidway table.next drafted (children_of table.next children parent b (Some id)) f g p) → IsSettled dirs table f → StandsFor dirs table g
old_before dirs table drafted children parent old id b f g able is lower_one w settled =
    let p : Parent = head_of table.next parent (Some id) in
    let rest : List Stored = children_of table.next children parent b (Some id) in
    let lt : id < table.next = settled.tidy.fresh id (live_named dirs f (record { dir = parent.dir; kind = Qf; id = id }) old is.live) in
    let from : All (IsFrom table.next (length children) b p) rest = numbered_from table.next b p children in
    before_stands dirs table drafted rest f g (record {
      new = numbered_new dirs table.next table.next b p children (old_head dirs table.next id children parent able lt) (omega arith) able.room able.each;
      waiting = All-weaker (IsFrom table.next (length children) b p) (IsWaiting dirs table.next f rest) (λ t h. record { parent = p; is = h.parent; away = lower (record { dir = parent.dir; kind = Qf; id = id }) old lt refl is.live lower_one }) rest from;
      at = w;
    }) settled.tidy settled.stands
