-- A commit of a parcel: from a map with which the store agrees, and what a stop leaves.
use Rattle.std.proofs.Common.{◌≡◌, ◌≢◌, ◌⊎◌, inl, inr, ℕ, zero, suc, ◌+◌, ◌-◌, ◌<◌, ◌≤◌, List, [], ◌∷◌, ◌++◌, map, length, get_or, None, refl, sym, ◌∙◌, ap, subst, arith, Contains}
use Rattle.std.specs.Prelude.{All, AllPairs, Any, IfSome}
use Rattle.std.specs.List.{AllZip}
use Rattle.std.proofs.lemmas.List.{append_assoc, length-map, get_or-map}
use Rattle.std.proofs.lemmas.List.Elements.{All-weaker, All-contains, All-cons}
use Rattle.mail_base.specs.Limits.{IsId}
use Rattle.mail_base.specs.declared.control.Draft.{Draft}
use Rattle.mail_base.specs.declared.control.Parent.{Parent}
use Rattle.spool_disk.specs.Disk.{Place, FileMap, bytes_at}
use Rattle.spool_disk.specs.Spooled.{Spooled}
use Rattle.spool_store.specs.Changes.{IsNew, IsMidway, IsPut, control, body, other, draft_place}
use Rattle.spool_store.specs.Entries.{Stored, Table}
use Rattle.spool_store.specs.Moves.{Moves}
use Rattle.spool_store.specs.Parcels.{IsParcel, with_commit}
use Rattle.qf_format.specs.Valid.{IsValid}
use Rattle.spool_store.specs.Openings.{IsFitting}
use Rattle.spool_store.specs.Parts.{entry_of}
use Rattle.spool_store.proofs.Fitting.{parts_fit}
use Rattle.spool_store.specs.inner.Parts.{AreNew, CanFollow, IsOwn, IsUnderWay, own_body, own_control}
use Rattle.spool_store.specs.Settled.{StandsFor, IsSettled}
use Rattle.spool_store.specs.Stores.{Agrees, Holds, IsHeld, KeepsOthers, StoreSeen, entered}
use Rattle.spool_store.specs.inner.Shelves.{Shelved}
use Rattle.spool_store.specs.Writes.{AreDraftable, AreWritten, after_commit, children_of, head_of, heir, numbered, stored}
use Rattle.spool_store.specs.declared.held.Held.{Held}
use Rattle.spool_store.specs.declared.parcel.Parcel.{Parcel}
use Rattle.spool_store.specs.declared.part.Part.{Part}
use Rattle.spool_store.specs.inner.Commits.{HasNoDraft, IsCommitted, IsCommitting, IsRow, queued}
use Rattle.spool_store.proofs.Agreeing.{added_agrees, agrees_settled}
use Rattle.spool_store.proofs.Committing.{front, new_added, new_below, new_before, new_head, new_settled}
use Rattle.spool_store.proofs.Drafting.{numbered_long}
use Rattle.spool_store.proofs.Keeping.{mine_new, left_keeps}
use Rattle.spool_store.proofs.MovesLemmas.{at_told, moves_told, moves_weaker}
use Rattle.spool_store.proofs.Numbering.{IsFrom, numbered_from, numbered_new}

-- the ids of numbered entries
pub numbered_at : (id : ℕ) (b : List ℕ) (ds : List Draft) (i : ℕ) (d : Stored) → i < length ds → (get_or (numbered id b ds) i d).id ≡ id + i
numbered_at id b [] i d lt = absurd (omega (arith, lt))
numbered_at id b (x ∷ ds) zero d lt = omega arith
numbered_at id b (x ∷ ds) (suc i) d lt = let h = numbered_at (id + 1) b ds i d (omega (arith, lt)) in omega (arith, h)

pub numbered_pairs : (id : ℕ) (b : List ℕ) (ds : List Draft) → AllPairs (λ (s : Stored) (t : Stored). s.id < t.id) (numbered id b ds)
numbered_pairs id b ds i j d lt within =
    let long = numbered_long id b ds in
    let one = numbered_at id b ds i d (omega (arith, lt, within, long)) in
    let other = numbered_at id b ds j d (omega (arith, within, long)) in
    omega (arith, lt, one, other)

-- the new entries of a commit
news : (dirs : List (List ℕ)) (next : ℕ) (children : List Draft) (parent : Draft) (b : List ℕ) → AreDraftable dirs next children parent → All (IsNew dirs next) (stored next b parent ∷ children_of next children parent b None)
news dirs next children parent b able =
    All-cons (IsNew dirs next) (stored next b parent) (children_of next children parent b None) (record { free = omega arith; within = omega (arith, able.room); among = able.head.among; valid = able.head.valid })
    (numbered_new dirs next (next + 1) b (head_of next parent None) children (new_head dirs next children parent able) (omega arith) able.room able.each)

are_new : (dirs : List (List ℕ)) (next : ℕ) (children : List Draft) (parent : Draft) (b : List ℕ) (f : FileMap) → AreDraftable dirs next children parent → HasNoDraft dirs next f → AreNew f next (children_of next children parent b None)
are_new dirs next children parent b f able fresh =
    let rest : List Stored = children_of next children parent b None in
    let all = numbered_new dirs next (next + 1) b (head_of next parent None) children (new_head dirs next children parent able) (omega arith) able.room able.each in
    record {
      ascending = numbered_pairs (next + 1) b (map (heir (head_of next parent None)) children);
      free = All-weaker (IsNew dirs next) (λ (s : Stored). next ≤ s.id) (λ s h. h.free) rest all;
      within = All-weaker (IsNew dirs next) (λ (s : Stored). IsId s.id) (λ s h. h.within) rest all;
      fresh = All-weaker (IsNew dirs next) (λ (s : Stored). bytes_at f (draft_place s) ≡ None) fresh rest all;
    }

can_follow : (dirs : List (List ℕ)) (next : ℕ) (children : List Draft) (parent : Draft) (b : List ℕ) (f : FileMap) → AreDraftable dirs next children parent → HasNoDraft dirs next f → CanFollow f next (children_of next children parent b None) (stored next b parent)
can_follow dirs next children parent b f able fresh =
    let rest : List Stored = children_of next children parent b None in
    let from : All (IsFrom (next + 1) (length children) b (head_of next parent None)) rest = numbered_from (next + 1) b (head_of next parent None) children in
    record {
      free = omega arith;
      within = omega (arith, able.room);
      further = All-weaker (IsFrom (next + 1) (length children) b (head_of next parent None)) (λ (t : Stored). IsId t.id × (t.id ≢ next)) (λ t h. (omega (arith, h.below, able.room), λ e. omega (arith, h.least, e))) rest from;
      fresh = fresh (stored next b parent) (record { free = omega arith; within = omega (arith, able.room); among = able.head.among; valid = able.head.valid });
    }

-- what the calls of a parcel's parts come to
pub parcel_moves : (a c : Spooled) (store : StoreSeen) (children : List Draft) (parent : Draft) (parcel : Parcel) (shown : List Part) (f : FileMap) (E : (FileMap → Type 0) → (FileMap → Type 0) → FileMap → Type 0) → shown ≡ parcel.children → IsParcel store children parent parcel.body parcel → HasNoDraft store.dirs store.next f
    → (AreNew f store.next (map (entry_of parcel.body) shown) → CanFollow f store.next (map (entry_of parcel.body) shown) (entry_of parcel.body parcel.parent) → Moves a c
    (λ g. g ≡ f)
    (E (AreWritten (map (entry_of parcel.body) shown ++ entry_of parcel.body parcel.parent ∷ []) f) (λ g. IsUnderWay store.next (entry_of parcel.body parcel.parent ∷ map (entry_of parcel.body) shown) (map (entry_of parcel.body) shown) f g ⊎ AreWritten (map (entry_of parcel.body) shown ++ entry_of parcel.body parcel.parent ∷ []) f g))
    (λ g. IsUnderWay store.next (entry_of parcel.body parcel.parent ∷ map (entry_of parcel.body) shown) (map (entry_of parcel.body) shown) f g ⊎ AreWritten (map (entry_of parcel.body) shown ++ entry_of parcel.body parcel.parent ∷ []) f g))
    → Moves a c (λ g. g ≡ f) (E (IsCommitted store.next children parent parcel.body f) (IsCommitting store.next children parent parcel.body f)) (IsCommitting store.next children parent parcel.body f)
parcel_moves a c store children parent parcel shown f E same is fresh calls =
    let b : List ℕ = parcel.body in
    let rest : List Stored = children_of store.next children parent b None in
    let s : Stored = stored store.next b parent in
    let these : map (entry_of b) shown ≡ rest = ap (map (entry_of b)) same ∙ is.parts b in
    let head : entry_of b parcel.parent ≡ s = is.head b in
    let Does : List Stored → Stored → Type 0 = λ xs x. AreNew f store.next xs → CanFollow f store.next xs x → Moves a c (λ g. g ≡ f) (E (AreWritten (xs ++ x ∷ []) f) (λ g. IsUnderWay store.next (x ∷ xs) xs f g ⊎ AreWritten (xs ++ x ∷ []) f g)) (λ g. IsUnderWay store.next (x ∷ xs) xs f g ⊎ AreWritten (xs ++ x ∷ []) f g) in
    let done : Does rest s = subst (λ (x : Stored). Does rest x) head (subst (λ (xs : List Stored). Does xs (entry_of b parcel.parent)) these calls) in
    done (are_new store.dirs store.next children parent b f is.able fresh) (can_follow store.dirs store.next children parent b f is.able fresh)

-- from each map with which the store agrees
pub from_told : (a c : Spooled) (store : StoreSeen) (C P S T : FileMap → Type 0) (Q R : FileMap → FileMap → Type 0) → IfSome a.told (Agrees store) → C [] → ((f : FileMap) → C f → Moves a c (λ g. g ≡ f) (Q f) (R f)) → ((f : FileMap) → Agrees store f → C f)
    → ((f g : FileMap) → Agrees store f → P f → Q f g → S g) → ((f g : FileMap) → Agrees store f → P f → R f g → T g) → Moves a c P S T
from_told a c store C P S T Q R agrees none calls can leads safe =
    moves_told a c P S T _ _ _ (calls [] none)
    (λ f e p. let agreed = at_told a.told (Agrees store) agrees f e in
    moves_weaker a c (λ g. g ≡ f) (Q f) (R f) S T (λ x q. leads f x agreed p q) (λ x r. safe f x agreed p r) (calls f (can f agreed)))

-- a map that a store agrees with has no draft from its first free id on
pub agrees_fresh : (store : StoreSeen) (f : FileMap) → Agrees store f → HasNoDraft store.dirs store.next f
agrees_fresh store f a = λ s new. a.tidy.drafts s.dir s.id new.among new.within

-- the map of no file has no draft
pub none_fresh : (dirs : List (List ℕ)) (next : ℕ) → HasNoDraft dirs next []
none_fresh dirs next = λ s new. refl

-- it leads to the table after
pub commit_leads : (store : StoreSeen) (table : Table) (children : List Draft) (parent : Draft) (parcel : Parcel) (f g : FileMap) → IsParcel store children parent parcel.body parcel → Agrees store f → Holds store table → StandsFor store.dirs table f → IsCommitted store.next children parent parcel.body f g → IsSettled store.dirs (after_commit table children parent parcel.body None) g
commit_leads store table children parent parcel f g is a holds stands w =
    new_settled store.dirs table children parent parcel.body f g
    (subst (λ (n : ℕ). AreDraftable store.dirs n children parent) holds.next is.able) is.alone
    (subst (λ (n : ℕ). AreWritten (children_of n children parent parcel.body None ++ stored n parcel.body parent ∷ []) f g) holds.next w)
    (agrees_settled store table f a holds stands)

-- what a commit may leave at any moment stands for the table before or after
pub commit_safe : (store : StoreSeen) (table : Table) (children : List Draft) (parent : Draft) (parcel : Parcel) (f g : FileMap) → IsParcel store children parent parcel.body parcel → Agrees store f → Holds store table → StandsFor store.dirs table f → IsCommitting store.next children parent parcel.body f g
    → StandsFor store.dirs table g ⊎ StandsFor store.dirs (after_commit table children parent parcel.body None) g
commit_safe store table children parent parcel f g is a holds stands (inl u) = inl (new_before store.dirs table (λ (p : Place). Any (λ (s : Stored). p ≡ draft_place s) (stored store.next parcel.body parent ∷ children_of store.next children parent parcel.body None)) children parent parcel.body f g
    (subst (λ (n : ℕ). AreDraftable store.dirs n children parent) holds.next is.able)
    (subst (λ (n : ℕ). (p : Place) → IsMidway n (λ (q : Place). Any (λ (s : Stored). q ≡ draft_place s) (stored store.next parcel.body parent ∷ children_of store.next children parent parcel.body None)) (children_of n children parent parcel.body None) f g p) holds.next u.at)
    (agrees_settled store table f a holds stands))
commit_safe store table children parent parcel f g is a holds stands (inr w) = inr (commit_leads store table children parent parcel f g is a holds stands w).stands

-- what is nobody's stays
pub written_left : (xs : List Stored) (f g : FileMap) (place : Place) → IsPut xs f g place → (bytes_at g place ≡ bytes_at f place) ⊎ IsOwn xs place
written_left xs f g place (control t k e holds) = inr (own_control t k e)
written_left xs f g place (body t k e holds) = inr (own_body t k e)
written_left xs f g place (other e) = inl e

-- what a commit may leave at any moment has each place that no call touches as it was
pub commit_keeps : (store : StoreSeen) (children : List Draft) (parent : Draft) (parcel : Parcel) (f g : FileMap) → IsParcel store children parent parcel.body parcel → Agrees store f → IsCommitting store.next children parent parcel.body f g → KeepsOthers store.dirs f g
commit_keeps store children parent parcel f g is a (inl u) =
    let b : List ℕ = parcel.body in
    let own : List Stored = stored store.next b parent ∷ children_of store.next children parent b None in
    left_keeps store.dirs store.next own f g a.tidy (λ s k. mine_new (All-contains (IsNew store.dirs store.next) own s (news store.dirs store.next children parent b is.able) k)) u.left
commit_keeps store children parent parcel f g is a (inr w) =
    let b : List ℕ = parcel.body in
    let s : Stored = stored store.next b parent in
    let rest : List Stored = children_of store.next children parent b None in
    left_keeps store.dirs store.next (rest ++ s ∷ []) f g a.tidy (λ t k. mine_new (All-contains (IsNew store.dirs store.next) (s ∷ rest) t (news store.dirs store.next children parent b is.able) (front s rest t k))) (λ place. written_left (rest ++ s ∷ []) f g place (w.at place))

-- the store agrees with it
pub entered_same : (id : ℕ) (b c : List ℕ) (ds : List Draft) → map entered (numbered id b ds) ≡ map entered (numbered id c ds)
entered_same id b c [] = refl
entered_same id b c (d ∷ ds) = λ i. entered (stored id c d) ∷ entered_same (id + 1) b c ds i

-- the store after a commit agrees with the map of the whole commit
pub commit_agrees : (store : StoreSeen) (children : List Draft) (parent : Draft) (parcel : Parcel) (f g : FileMap) → IsParcel store children parent parcel.body parcel → Agrees store f → IsCommitted store.next children parent parcel.body f g → Agrees (with_commit store children parent) g
commit_agrees store children parent parcel f g is a w =
    let b : List ℕ = parcel.body in
    let s : Stored = stored store.next b parent in
    let rest : List Stored = children_of store.next children parent b None in
    let after : ℕ = store.next + 1 + length children in
    subst (λ (q : List Held). Agrees (record store { entries = store.entries ++ q; next = after; room = store.room - (length children + 1) }) g)
    (λ i. entered s ∷ entered_same (store.next + 1) b [] (map (heir (head_of store.next parent None)) children) i)
    (added_agrees store (s ∷ rest) after (store.room - (length children + 1)) f g (new_added store.dirs store.next children parent b f g is.able is.alone w) (omega arith) (new_below store.next children parent b) a)

-- what the store takes in
pub queued_are : (parts : List Part) → map queued parts ≡ map entered (map (entry_of []) parts)
queued_are [] = refl
queued_are (p ∷ parts) = λ i. queued p ∷ queued_are parts i

pub row_of : (id : ℕ) (b : List ℕ) (ds : List Draft) (parts : List Part) → map (entry_of b) parts ≡ numbered id b ds → IsRow id parts
row_of id b ds parts made i d lt =
    let long : length parts ≡ length ds = sym (length-map parts (entry_of b)) ∙ ap length made ∙ numbered_long id b ds in
    let mapped : get_or (map (entry_of b) parts) i (entry_of b d) ≡ entry_of b (get_or parts i d) = get_or-map (entry_of b) parts i d (entry_of b d) lt in
    let its : (get_or (numbered id b ds) i (entry_of b d)).id ≡ id + i = numbered_at id b ds i (entry_of b d) (omega (arith, lt, long)) in
    ap (λ (s : Stored). s.id) (sym mapped ∙ ap (λ (q : List Stored). get_or q i (entry_of b d)) made) ∙ its

-- parts that stand in a row do so under an equal first id
pub row_at : (n m : ℕ) (xs ys : List Part) → xs ≡ ys → m ≡ n → IsRow n ys → IsRow m xs
row_at n m xs ys e at row = subst (λ (q : List Part). IsRow m q) (sym e) (subst (λ (k : ℕ). IsRow k ys) (sym at) row)

-- the children of a parcel stand in a row behind the first free id
pub parcel_row : (store : StoreSeen) (children : List Draft) (parent : Draft) (b : List ℕ) (parcel : Parcel) → IsParcel store children parent b parcel → IsRow (store.next + 1) parcel.children
parcel_row store children parent b parcel is = row_of (store.next + 1) [] (map (heir (head_of store.next parent None)) children) parcel.children (is.parts [])

-- the parent of a parcel has the first free id
pub parcel_id : (store : StoreSeen) (children : List Draft) (parent : Draft) (b : List ℕ) (parcel : Parcel) → IsParcel store children parent b parcel → parcel.parent.entry.id ≡ store.next
parcel_id store children parent b parcel is = ap (λ (s : Stored). s.id) (is.head [])

-- the parts of a parcel fit
pub parcel_fits : (store : StoreSeen) (children : List Draft) (parent : Draft) (b : List ℕ) (parcel : Parcel) → IsParcel store children parent b parcel → All (λ (p : Part). IsFitting store.dirs p.entry) parcel.children
parcel_fits store children parent b parcel is = parts_fit store.dirs store.next parcel.children (children_of store.next children parent [] None) (is.parts [])
    (numbered_new store.dirs store.next (store.next + 1) [] (head_of store.next parent None) children (new_head store.dirs store.next children parent is.able) (omega arith) is.able.room is.able.each)

pub parent_fits : (store : StoreSeen) (children : List Draft) (parent : Draft) (b : List ℕ) (parcel : Parcel) → IsParcel store children parent b parcel → IsFitting store.dirs parcel.parent.entry
parent_fits store children parent b parcel is = record {
  dir = subst (Contains store.dirs) (ap (λ (s : Stored). s.dir) (sym (is.head []))) is.able.head.among;
  valid = subst IsValid (ap (λ (s : Stored). s.control) (sym (is.head []))) is.able.head.valid;
}

-- a shelf that has taken in all parts of a parcel has what the store has after the commit
pub taken_in : (store : StoreSeen) (children : List Draft) (parent : Draft) (b : List ℕ) (parcel : Parcel) (one more : Shelved) → IsParcel store children parent b parcel
    → one.dirs ≡ store.dirs → more.dirs ≡ one.dirs → one.items ≡ store.entries ++ queued parcel.parent ∷ [] → one.next ≡ store.next + 1 → one.room + 1 ≡ store.room
    → more.items ≡ one.items ++ map queued parcel.children → more.next ≡ one.next + length parcel.children → more.room + length parcel.children ≡ one.room
    → record store { dirs = more.dirs; entries = more.items; next = more.next; room = more.room } ≡ with_commit store children parent
taken_in store children parent b parcel one more is dirs_one dirs_more first first_next first_room second second_next second_room =
    let rest : List Stored = children_of store.next children parent [] None in
    let long : length parcel.children ≡ length children = sym (length-map parcel.children (entry_of [])) ∙ ap length (is.parts []) ∙ numbered_long (store.next + 1) [] (map (heir (head_of store.next parent None)) children) ∙ length-map children (heir (head_of store.next parent None)) in
    let items : more.items ≡ store.entries ++ map entered (stored store.next [] parent ∷ rest) =
    second ∙ ap (λ (q : List Held). q ++ map queued parcel.children) first
    ∙ append_assoc store.entries (queued parcel.parent ∷ []) (map queued parcel.children)
    ∙ (λ i. store.entries ++ entered (is.head [] i) ∷ (queued_are parcel.children ∙ ap (map entered) (is.parts [])) i) in
    let next : more.next ≡ store.next + 1 + length children = omega (arith, second_next, first_next, long) in
    let room : more.room ≡ store.room - (length children + 1) = omega (arith, second_room, first_room, long) in
    let dirs : more.dirs ≡ store.dirs = dirs_more ∙ dirs_one in
    λ i. record store { dirs = dirs i; entries = items i; next = next i; room = room i }

-- the table goes with it
pub held_numbered : (id : ℕ) (b c : List ℕ) (ds : List Draft) → AllZip IsHeld (map entered (numbered id b ds)) (numbered id c ds)
held_numbered id b c [] = tt
held_numbered id b c (d ∷ ds) = (record { id = refl; dir = refl; control = refl }, held_numbered (id + 1) b c ds)

pub zip_append : {X Y : Type 0} (R : X → Y → Type 0) (xs vs : List X) (ys ws : List Y) → AllZip R xs ys → AllZip R vs ws → AllZip R (xs ++ vs) (ys ++ ws)
zip_append R [] vs [] ws h k = k
zip_append R [] vs (y ∷ ys) ws h k = absurd h
zip_append R (x ∷ xs) vs [] ws h k = absurd h
zip_append R (x ∷ xs) vs (y ∷ ys) ws h k = (h.0, zip_append R xs vs ys ws h.1 k)

-- a store that holds a table holds the table after a commit once it has done it too
pub commit_holds : (store : StoreSeen) (table : Table) (children : List Draft) (parent : Draft) (b : List ℕ) → Holds store table → Holds (with_commit store children parent) (after_commit table children parent b None)
commit_holds store table children parent b holds =
    let p : Parent = head_of store.next parent None in
    record {
      entries = zip_append IsHeld store.entries (map entered (stored store.next [] parent ∷ children_of store.next children parent [] None)) table.entries (stored table.next b parent ∷ children_of table.next children parent b None) holds.entries
          (subst (λ (n : ℕ). AllZip IsHeld (map entered (stored store.next [] parent ∷ children_of store.next children parent [] None)) (stored n b parent ∷ children_of n children parent b None)) holds.next
          (record { id = refl; dir = refl; control = refl }, held_numbered (store.next + 1) [] b (map (heir p) children)));
      next = ap (λ (n : ℕ). n + 1 + length children) holds.next;
    }
