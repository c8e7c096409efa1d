-- A commit under an entry that is there: from a map with which the store agrees, and what a stop
-- leaves.
use Rattle.std.proofs.Common.{◌≡◌, ◌≢◌, ◌⊎◌, inl, inr, ⊎_elim, ℕ, ◌+◌, ◌-◌, ◌<◌, ◌≤◌, ◌^◌, List, [], ◌∷◌, ◌++◌, map, length, Some, None, refl, sym, ◌∙◌, ap, subst, arith, Contains}
use Rattle.std.specs.Prelude.{All, Any, IfSome, Option}
use Rattle.std.specs.List.{AllZip}
use Rattle.std.proofs.lemmas.List.{length-map}
use Rattle.std.proofs.lemmas.List.Elements.{All-weaker, All-contains}
use Rattle.mail_base.specs.Limits.{IsId}
use Rattle.mail_base.specs.declared.id.Kind.TheVariants.{Qf}
use Rattle.mail_base.specs.declared.control.Control.{Control}
use Rattle.mail_base.specs.declared.control.Draft.{Draft}
use Rattle.mail_base.specs.declared.control.Entry.{Entry}
use Rattle.mail_base.specs.declared.control.Parent.{Parent}
use Rattle.spool_disk.specs.Disk.{Place, FileMap, bytes_at}
use Rattle.spool_disk.specs.Spooled.{Spooled}
use Rattle.spool_store.specs.Changes.{IsNew, IsMidway, control_place, draft_place}
use Rattle.spool_store.specs.Entries.{Stored, Table, with_control}
use Rattle.spool_store.specs.Keepers.{raised}
use Rattle.spool_store.specs.Moves.{Becomes, Moves}
use Rattle.spool_store.specs.Parcels.{CanPrepareUnder, IsBelowLast, IsParcelUnder, with_children}
use Rattle.qf_format.specs.Valid.{IsValid}
use Rattle.spool_store.specs.Openings.{IsFitting}
use Rattle.spool_store.specs.Parts.{entry_of}
use Rattle.spool_store.proofs.Fitting.{parts_fit}
use Rattle.spool_store.specs.inner.Parts.{AreNew, CanRaise, IsLeft, IsOwn, IsUnderWay, own_body, own_control, own_draft}
use Rattle.spool_store.specs.Queue.{Spot, IsLive}
use Rattle.spool_store.specs.Settled.{StandsFor, IsSettled, spot_of}
use Rattle.spool_store.specs.Stores.{Agrees, HasId, Holds, IsHeld, KeepsOthers, StoreSeen, entered, recontrolled, spot_at}
use Rattle.spool_store.specs.inner.Shelves.{Shelved}
use Rattle.spool_store.specs.Writes.{AreHeirs, AreRaised, IsOld, after_commit, children_of, control_file, head_of, heir, numbered, stored}
use Rattle.spool_store.specs.declared.held.Held.{Held}
use Rattle.spool_store.specs.declared.parcel.Parcel.{Parcel}
use Rattle.spool_store.specs.declared.part.Part.{Part}
use Rattle.spool_store.specs.inner.Commits.{HasNoDrafts, IsRaisedWith, IsRaising, IsRow, queued}
use Rattle.spool_store.proofs.Agreeing.{added_agrees, agrees_settled, replaced_agrees}
use Rattle.spool_store.proofs.Carrying.{live_read}
use Rattle.spool_store.proofs.Committing.{old_added, old_before, old_below, old_head, old_raised, old_settled}
use Rattle.spool_store.proofs.Drafting.{numbered_long}
use Rattle.spool_store.proofs.HoldingLemmas.{replace_holds}
use Rattle.spool_store.proofs.Keeping.{IsMine, mine_live, mine_new, left_keeps}
use Rattle.spool_store.proofs.Numbering.{IsFrom, numbered_from, numbered_new}
use Rattle.spool_store.proofs.ParcelLemmas.{entered_same, held_numbered, numbered_pairs, queued_are, row_of, written_left, zip_append}
use Rattle.spool_store.proofs.Replaces.{open_kind, open_needs}
use Rattle.spool_store.proofs.Replacing.{place_or, raised_least}
use Rattle.spool_store.proofs.Standing.{contains_cases, contains_head, contains_tail}

-- the new children of a commit under an old parent
children_new : (dirs : List (List ℕ)) (next id : ℕ) (children : List Draft) (parent : Draft) (b : List ℕ) → AreHeirs dirs next children parent → id < next → All (IsNew dirs next) (children_of next children parent b (Some id))
children_new dirs next id children parent b able lt = numbered_new dirs next next b (head_of next parent (Some id)) children (old_head dirs next id children parent able lt) (omega arith) able.room able.each

are_new : (dirs : List (List ℕ)) (next id : ℕ) (children : List Draft) (parent : Draft) (b : List ℕ) (f : FileMap) → AreHeirs dirs next children parent → id < next → HasNoDrafts dirs f → AreNew f next (children_of next children parent b (Some id))
are_new dirs next id children parent b f able lt fresh =
    let rest : List Stored = children_of next children parent b (Some id) in
    let all = children_new dirs next id children parent b able lt in
    record {
      ascending = numbered_pairs next b (map (heir (head_of next parent (Some id))) children);
      free = All-weaker (IsNew dirs next) (λ (s : Stored). next ≤ s.id) (λ s h. h.free) rest all;
      within = All-weaker (IsNew dirs next) (λ (s : Stored). IsId s.id) (λ s h. h.within) rest all;
      fresh = All-weaker (IsNew dirs next) (λ (s : Stored). bytes_at f (draft_place s) ≡ None) (λ s h. fresh s.dir s.id h.among h.within) rest all;
    }

can_raise : (dirs : List (List ℕ)) (next id : ℕ) (children : List Draft) (parent : Draft) (b : List ℕ) (f : FileMap) → AreHeirs dirs next children parent → id < next → IsId id → HasNoDrafts dirs f → CanRaise f (children_of next children parent b (Some id)) (stored id b parent)
can_raise dirs next id children parent b f able lt within fresh =
    let p : Parent = head_of next parent (Some id) in
    let rest : List Stored = children_of next children parent b (Some id) in
    let from : All (IsFrom next (length children) b p) rest = numbered_from next b p children in
    record {
      within = within;
      further = All-weaker (IsFrom next (length children) b p) (λ (t : Stored). IsId t.id × (t.id ≢ id)) (λ t h. (omega (arith, h.below, able.room), λ e. omega (arith, h.least, e, lt))) rest from;
      fresh = fresh parent.dir id able.head.among within;
    }

-- what the calls of a parcel's parts come to
pub raise_moves : (a c : Spooled) (store : StoreSeen) (id : ℕ) (children : List Draft) (parent : Draft) (parcel : Parcel) (shown : List Part) (f : FileMap) (E : (FileMap → Type 0) → (FileMap → Type 0) → FileMap → Type 0) → shown ≡ parcel.children → IsParcelUnder store id children parent parcel.body parcel → HasNoDrafts store.dirs f
    → (AreNew f store.next (map (entry_of parcel.body) shown) → CanRaise f (map (entry_of parcel.body) shown) (entry_of parcel.body parcel.parent) → Moves a c
    (λ g. g ≡ f)
    (E (AreRaised (map (entry_of parcel.body) shown) (entry_of parcel.body parcel.parent) f) (λ g. IsUnderWay store.next (entry_of parcel.body parcel.parent ∷ map (entry_of parcel.body) shown) (map (entry_of parcel.body) shown) f g ⊎ AreRaised (map (entry_of parcel.body) shown) (entry_of parcel.body parcel.parent) f g))
    (λ g. IsUnderWay store.next (entry_of parcel.body parcel.parent ∷ map (entry_of parcel.body) shown) (map (entry_of parcel.body) shown) f g ⊎ AreRaised (map (entry_of parcel.body) shown) (entry_of parcel.body parcel.parent) f g))
    → Moves a c (λ g. g ≡ f) (E (IsRaisedWith store.next id children parent parcel.body f) (IsRaising store.next id children parent parcel.body f)) (IsRaising store.next id children parent parcel.body f)
raise_moves a c store id children parent parcel shown f E same is fresh calls =
    let b : List ℕ = parcel.body in
    let rest : List Stored = children_of store.next children parent b (Some id) in
    let s : Stored = stored id b parent in
    let these : map (entry_of b) shown ≡ rest = ap (map (entry_of b)) same ∙ is.parts b in
    let head : entry_of b parcel.parent ≡ s = is.head b in
    let Does : List Stored → Stored → Type 0 = λ xs x. AreNew f store.next xs → CanRaise f xs x → Moves a c (λ g. g ≡ f) (E (AreRaised xs x f) (λ g. IsUnderWay store.next (x ∷ xs) xs f g ⊎ AreRaised xs x f g)) (λ g. IsUnderWay store.next (x ∷ xs) xs f g ⊎ AreRaised xs x f g) in
    let done : Does rest s = subst (λ (x : Stored). Does rest x) head (subst (λ (xs : List Stored). Does xs (entry_of b parcel.parent)) these calls) in
    done (are_new store.dirs store.next id children parent b f is.able is.below fresh) (can_raise store.dirs store.next id children parent b f is.able is.below is.within fresh)

-- the map of no file has no draft, and one that a store agrees with has none
pub none_drafted : (dirs : List (List ℕ)) → HasNoDrafts dirs []
none_drafted dirs = λ dir id among within. refl

pub agrees_drafted : (store : StoreSeen) (f : FileMap) → Agrees store f → HasNoDrafts store.dirs f
agrees_drafted store f a = a.tidy.drafts

-- the parent's control file is live
parent_live : (store : StoreSeen) (id : ℕ) (children : List Draft) (parent : Draft) (parcel : Parcel) (f : FileMap) → (is : IsParcelUnder store id children parent parcel.body parcel) → Agrees store f → IsLive store.dirs f (record { dir = parent.dir; kind = Qf; id = id }) is.held.entry.control
parent_live store id children parent parcel f is a =
    let h : Held = is.held in
    let live : IsLive store.dirs f (spot_at h) h.entry.control = All-contains (λ (q : Held). IsLive store.dirs f (spot_at q) q.entry.control) store.entries h a.each is.among in
    let kind = open_kind store.dirs f h live is.follows.open_row h.finished refl in
    let dir : h.entry.dir ≡ parent.dir = sym is.follows.dir in
    subst (λ (q : Spot). IsLive store.dirs f q h.entry.control) (λ i. record { dir = dir i; kind = kind i; id = is.is i }) live

parent_old : (store : StoreSeen) (id : ℕ) (children : List Draft) (parent : Draft) (parcel : Parcel) (f : FileMap) → (is : IsParcelUnder store id children parent parcel.body parcel) → Agrees store f → IsOld store.dirs f id parent is.held.entry.control
parent_old store id children parent parcel f is a =
    let c : Control = is.held.entry.control in
    let live = parent_live store id children parent parcel f is a in
    record {
      live = live;
      same = is.follows.parent;
      wanted = λ needs. open_needs c.rows is.follows.open_row;
      least = subst (λ (n : ℕ). c.revision ≤ n) (sym is.follows.revision) (raised_least c.revision (live_read live).says.valid.revision_range.most);
    }

raised_more : (r : ℕ) → r < 2 ^ 64 - 1 → r < raised r
raised_more r lt = grind (arith, lt)

-- below the last revision the parent's new one is greater
parent_more : (store : StoreSeen) (id : ℕ) (children : List Draft) (parent : Draft) (parcel : Parcel) → (is : IsParcelUnder store id children parent parcel.body parcel) → IsBelowLast store.entries id → is.held.entry.control.revision < parent.control.revision
parent_more store id children parent parcel is last =
    let r : ℕ = is.held.entry.control.revision in
    subst (λ (n : ℕ). r < n) (sym is.follows.revision) (raised_more r (last is.held is.among is.is))

-- it leads to the table after
pub under_leads : (store : StoreSeen) (table : Table) (id : ℕ) (children : List Draft) (parent : Draft) (parcel : Parcel) (f g : FileMap) → IsParcelUnder store id children parent parcel.body parcel → Agrees store f → Holds store table → StandsFor store.dirs table f → IsRaisedWith store.next id children parent parcel.body f g → IsSettled store.dirs (after_commit table children parent parcel.body (Some id)) g
under_leads store table id children parent parcel f g is a holds stands w =
    old_settled store.dirs table children parent is.held.entry.control id parcel.body f g
    (subst (λ (n : ℕ). AreHeirs store.dirs n children parent) holds.next is.able)
    (parent_old store id children parent parcel f is a)
    (subst (λ (n : ℕ). AreRaised (children_of n children parent parcel.body (Some id)) (stored id parcel.body parent) f g) holds.next w)
    (agrees_settled store table f a holds stands)

-- what it may leave at any moment stands for the table before or after
pub under_safe : (store : StoreSeen) (table : Table) (id : ℕ) (children : List Draft) (parent : Draft) (parcel : Parcel) (f g : FileMap) → IsParcelUnder store id children parent parcel.body parcel → IsBelowLast store.entries id → Agrees store f → Holds store table → StandsFor store.dirs table f → IsRaising store.next id children parent parcel.body f g
    → StandsFor store.dirs table g ⊎ StandsFor store.dirs (after_commit table children parent parcel.body (Some id)) g
under_safe store table id children parent parcel f g is last a holds stands (inl u) =
    let own : List Stored = stored id parcel.body parent ∷ children_of store.next children parent parcel.body (Some id) in
    let drafted : Place → Type 0 = λ (p : Place). Any (λ (s : Stored). p ≡ draft_place s) own in
    inl (old_before store.dirs table drafted children parent is.held.entry.control id parcel.body f g
    (subst (λ (n : ℕ). AreHeirs store.dirs n children parent) holds.next is.able)
    (parent_old store id children parent parcel f is a)
    (parent_more store id children parent parcel is last)
    (subst (λ (n : ℕ). (p : Place) → IsMidway n drafted (children_of n children parent parcel.body (Some id)) f g p) holds.next u.at)
    (agrees_settled store table f a holds stands))
under_safe store table id children parent parcel f g is last a holds stands (inr w) = inr (under_leads store table id children parent parcel f g is a holds stands w).stands

-- what is nobody's stays
own_more : (s : Stored) (rest : List Stored) (place : Place) → IsOwn rest place → IsOwn (s ∷ rest) place
own_more s rest place (own_body t k e) = own_body t (contains_tail s t rest k) e
own_more s rest place (own_draft t k e) = own_draft t (contains_tail s t rest k) e
own_more s rest place (own_control t k e) = own_control t (contains_tail s t rest k) e

raised_left : (s : Stored) (rest : List Stored) (f g : FileMap) → AreRaised rest s f g → IsLeft (s ∷ rest) f g
raised_left s rest f g w place = ⊎_elim
    (λ (e : place ≡ control_place s). inr (own_control s (contains_head s rest) e))
    (λ (ne : place ≢ control_place s). ⊎_elim (λ (e : bytes_at g place ≡ bytes_at f place). inl e) (λ (o : IsOwn rest place). inr (own_more s rest place o)) (written_left rest f g place (w.at place ne)))
    (place_or place (control_place s))

all_mine : (store : StoreSeen) (id : ℕ) (children : List Draft) (parent : Draft) (parcel : Parcel) (f : FileMap) → IsParcelUnder store id children parent parcel.body parcel → Agrees store f → (s : Stored) → Contains (stored id parcel.body parent ∷ children_of store.next children parent parcel.body (Some id)) s → IsMine store.dirs store.next f s
all_mine store id children parent parcel f is a s k =
    let b : List ℕ = parcel.body in
    let head : Stored = stored id b parent in
    let rest : List Stored = children_of store.next children parent b (Some id) in
    ⊎_elim
    (λ (e : head ≡ s). subst (IsMine store.dirs store.next f) e (mine_live is.held.entry.control (parent_live store id children parent parcel f is a)))
    (λ (m : Contains rest s). mine_new (All-contains (IsNew store.dirs store.next) rest s (children_new store.dirs store.next id children parent b is.able is.below) m))
    (contains_cases head s rest k)

-- what it may leave at any moment has each place that no call touches as it was
pub under_keeps : (store : StoreSeen) (id : ℕ) (children : List Draft) (parent : Draft) (parcel : Parcel) (f g : FileMap) → IsParcelUnder store id children parent parcel.body parcel → Agrees store f → IsRaising store.next id children parent parcel.body f g → KeepsOthers store.dirs f g
under_keeps store id children parent parcel f g is a (inl u) =
    left_keeps store.dirs store.next (stored id parcel.body parent ∷ children_of store.next children parent parcel.body (Some id)) f g a.tidy (all_mine store id children parent parcel f is a) u.left
under_keeps store id children parent parcel f g is a (inr w) =
    let s : Stored = stored id parcel.body parent in
    let rest : List Stored = children_of store.next children parent parcel.body (Some id) in
    left_keeps store.dirs store.next (s ∷ rest) f g a.tidy (all_mine store id children parent parcel f is a) (raised_left s rest f g w)

-- the store after it agrees with the map of the whole commit
pub under_agrees : (store : StoreSeen) (id : ℕ) (children : List Draft) (parent : Draft) (parcel : Parcel) (f g : FileMap) → IsParcelUnder store id children parent parcel.body parcel → Agrees store f → IsRaisedWith store.next id children parent parcel.body f g → Agrees (with_children store id children parent) g
under_agrees store id children parent parcel f g is a w =
    let b : List ℕ = parcel.body in
    let s : Stored = stored id b parent in
    let old : Control = is.held.entry.control in
    let rest : List Stored = children_of store.next children parent b (Some id) in
    let mid : FileMap = control_file s ∷ f in
    let its = parent_old store id children parent parcel f is a in
    let entries : List Held = map (recontrolled id parent.control) store.entries in
    let first : Agrees (record store { entries = entries }) mid = replaced_agrees store (spot_of Qf s) old parent.control f mid (old_raised store.dirs children parent old store.next id b f is.able its) a in
    let after : ℕ = store.next + length children in
    let left : ℕ = store.room - length children in
    subst (λ (q : List Held). Agrees (record store { entries = entries ++ q; next = after; room = left }) g)
    (entered_same store.next b [] (map (heir (head_of store.next parent (Some id))) children))
    (added_agrees (record store { entries = entries }) rest after left mid g (old_added store.dirs children parent old store.next id b f g is.able its is.below w) (omega arith) (old_below store.next id children parent b) first)

-- the children of a parcel stand in a row from the first free id on
pub under_row : (store : StoreSeen) (id : ℕ) (children : List Draft) (parent : Draft) (b : List ℕ) (parcel : Parcel) → IsParcelUnder store id children parent b parcel → IsRow store.next parcel.children
under_row store id children parent b parcel is = row_of store.next [] (map (heir (head_of store.next parent (Some id))) children) parcel.children (is.parts [])

-- its parent has the entry's id
pub under_id : (store : StoreSeen) (id : ℕ) (children : List Draft) (parent : Draft) (b : List ℕ) (parcel : Parcel) → IsParcelUnder store id children parent b parcel → parcel.parent.entry.id ≡ id
under_id store id children parent b parcel is = ap (λ (s : Stored). s.id) (is.head [])

-- the parts of a parcel fit
pub under_fits : (store : StoreSeen) (id : ℕ) (children : List Draft) (parent : Draft) (b : List ℕ) (parcel : Parcel) → IsParcelUnder store id children parent b parcel → All (λ (p : Part). IsFitting store.dirs p.entry) parcel.children
under_fits store id children parent b parcel is = parts_fit store.dirs store.next parcel.children (children_of store.next children parent [] (Some id)) (is.parts []) (children_new store.dirs store.next id children parent [] is.able is.below)

pub under_valid : (store : StoreSeen) (id : ℕ) (children : List Draft) (parent : Draft) (b : List ℕ) (parcel : Parcel) → IsParcelUnder store id children parent b parcel → IsValid parcel.parent.entry.control
under_valid store id children parent b parcel is = subst IsValid (ap (λ (s : Stored). s.control) (sym (is.head []))) is.able.head.valid

-- a shelf that has taken in all parts of a parcel has what the store has after the commit
pub taken_under : (store : StoreSeen) (id n : ℕ) (c : Control) (children : List Draft) (parent : Draft) (b : List ℕ) (parcel : Parcel) (one more : Shelved) → IsParcelUnder store id children parent b parcel → n ≡ id → c ≡ parcel.parent.entry.control
    → one ≡ record { dirs = store.dirs; items = map (recontrolled n c) store.entries; next = store.next; room = store.room }
    → more.dirs ≡ one.dirs → more.items ≡ one.items ++ map queued parcel.children → more.next ≡ one.next + length parcel.children → more.room + length parcel.children ≡ one.room
    → record store { dirs = more.dirs; entries = more.items; next = more.next; room = more.room } ≡ with_children store id children parent
taken_under store id n c children parent b parcel one more is at its first dirs_are items_are next_is room_is =
    let p : Parent = head_of store.next parent (Some id) in
    let long : length parcel.children ≡ length children = sym (length-map parcel.children (entry_of [])) ∙ ap length (is.parts []) ∙ numbered_long store.next [] (map (heir p) children) ∙ length-map children (heir p) in
    let control : c ≡ parent.control = its ∙ ap (λ (s : Stored). s.control) (is.head []) in
    let items : more.items ≡ map (recontrolled id parent.control) store.entries ++ map entered (children_of store.next children parent [] (Some id)) =
    items_are ∙ ap (λ (q : Shelved). q.items ++ map queued parcel.children) first
    ∙ (λ i. map (recontrolled (at i) (control i)) store.entries ++ (queued_are parcel.children ∙ ap (map entered) (is.parts [])) i) in
    let one_next : one.next ≡ store.next = ap (λ (q : Shelved). q.next) first in
    let one_room : one.room ≡ store.room = ap (λ (q : Shelved). q.room) first in
    let next : more.next ≡ store.next + length children = omega (arith, next_is, one_next, long) in
    let room : more.room ≡ store.room - length children = omega (arith, room_is, one_room, long) in
    let dirs : more.dirs ≡ store.dirs = dirs_are ∙ ap (λ (q : Shelved). q.dirs) first in
    λ i. record store { dirs = dirs i; entries = items i; next = next i; room = room i }

-- a store that holds a table holds the table after it once it has done it too
pub under_holds : (store : StoreSeen) (table : Table) (id : ℕ) (children : List Draft) (parent : Draft) (b : List ℕ) → Holds store table → Holds (with_children store id children parent) (after_commit table children parent b (Some id))
under_holds store table id children parent b holds =
    let ds : List Draft = map (heir (head_of store.next parent (Some id))) children in
    record {
      entries = zip_append IsHeld (map (recontrolled id parent.control) store.entries) (map entered (numbered store.next [] ds)) (with_control id parent.control table.entries) (numbered table.next b ds) (replace_holds store table id parent.control holds).entries
          (subst (λ (n : ℕ). AllZip IsHeld (map entered (numbered store.next [] ds)) (numbered n b ds)) holds.next (held_numbered store.next [] b ds));
      next = ap (λ (n : ℕ). n + length children) holds.next;
    }

-- what is made of the drafts
pub parcel_under : (store : StoreSeen) (id : ℕ) (children : List Draft) (parent : Draft) (body : List ℕ) (parts : List Part) (head : Part) → (can : CanPrepareUnder store.dirs store.entries children parent) → parent.id ≡ Some id → IsId id → id < store.next → store.next + length children ≤ 1_000_000_000_000 → length children ≤ store.room
    → ((b : List ℕ) → map (entry_of b) parts ≡ numbered store.next b (map (heir (record { id = id; revision = parent.control.revision })) children)) → head.entry ≡ record { id = id; dir = parent.dir; control = record parent.control { parent = parent.control.parent } } → IsParcelUnder store id children parent body (record { children = parts; parent = head; body = body })
parcel_under store id children parent body parts head can named within below ids room made its =
    let p : Parent = record { id = id; revision = parent.control.revision } in
    let long : length parts ≡ length children = sym (length-map parts (entry_of [])) ∙ ap length (made []) ∙ numbered_long store.next [] (map (heir p) children) ∙ length-map children (heir p) in
    let same : can.held.entry.id ≡ id = cc (can.named, named) in
    record {
      able = record { each = can.each; head = can.head; room = ids };
      held = can.held;
      among = can.among;
      is = same;
      follows = can.follows;
      within = within;
      below = below;
      body_is = refl;
      parts = made;
      head = λ b. ap (λ (e : Entry). record { id = e.id; dir = e.dir; control = e.control; body = b }) its;
      room = omega (arith, long, room);
    }

-- an id that a draft names is one
pub same_id : (d : Draft) (n id : ℕ) → d.id ≡ Some n → d.id ≡ Some id → n ≡ id
same_id d n id one other = cc (one, other)

-- the entry that a parcel is under is there
pub parcel_has : (store : StoreSeen) (id : ℕ) (children : List Draft) (parent : Draft) (b : List ℕ) (parcel : Parcel) → IsParcelUnder store id children parent b parcel → HasId store.entries parcel.parent.entry.id
parcel_has store id children parent b parcel is = record { held = is.held; among = is.among; is = is.is ∙ sym (under_id store id children parent b parcel is) }

-- from a told map with P the told files have come to Q
pub settled_now : (a b : Option FileMap) (f : FileMap) (P Q : FileMap → Type 0) → a ≡ Some f → P f → Becomes a b P Q → IfSome b Q
settled_now a None f P Q e p h = tt
settled_now None (Some g) f P Q e p h = absurd h
settled_now (Some d) (Some g) f P Q e p h = let same : f ≡ d = cc e in h (subst P same p)
