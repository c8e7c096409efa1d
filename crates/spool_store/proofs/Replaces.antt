-- A replaced control: from a map with which the store agrees, and what a stop leaves.
use Rattle.std.proofs.Common.{◌≡◌, ◌≢◌, ◌⊎◌, inl, inr, ⊎_elim, ℕ, ◌≤◌, List, [], ◌∷◌, map, length, Bool, true, false, refl, sym, ◌∙◌, ap, subst, arith, Contains}
use Rattle.std.specs.Prelude.{not, ◌&&◌, ◌||◌, IfSome}
use Rattle.std.specs.List.{list_all, list_any}
use Rattle.std.proofs.lemmas.List.Elements.{All-nil, All-contains}
use Rattle.mail_base.specs.Limits.{IsId}
use Rattle.mail_base.specs.States.{is_open, is_dead, is_finished}
use Rattle.mail_base.specs.declared.id.Kind.TheVariants.{Qf}
use Rattle.mail_base.specs.declared.control.Control.{Control}
use Rattle.mail_base.specs.declared.control.Row.{Row}
use Rattle.qf_format.specs.Sheets.{Sheet}
use Rattle.qf_format.specs.Spelling.{spelled}
use Rattle.qf_format.proofs.RoomLemmas.{text_fits_room}
use Rattle.std.proofs.Math.Nat.{le_trans}
use Rattle.spool_disk.specs.Spooled.{Spooled}
use Rattle.spool_store.specs.Moves.{Moves}
use Rattle.spool_store.proofs.MovesLemmas.{moves_told, moves_weaker, at_told}
use Rattle.spool_disk.specs.Disk.{Place, FileMap, bytes_at}
use Rattle.spool_store.specs.Queue.{Spot, reopened, IsLive}
use Rattle.spool_store.specs.Entries.{Stored, Table}
use Rattle.spool_store.specs.Settled.{spot_of, StandsFor, IsSettled}
use Rattle.spool_store.specs.Changes.{control_place, IsRaised, IsPut, control, body, other, IsNew, IsWaiting}
use Rattle.spool_store.specs.Writes.{AreRaised}
use Rattle.spool_store.specs.inner.Parts.{CanRaise, IsUnderWay, IsLeft, own_control, with_new}
use Rattle.spool_store.specs.Stores.{StoreSeen, spot_at, kind_of, Agrees, Holds, recontrolled, KeepsOthers}
use Rattle.spool_store.specs.inner.Shelves.{Shelved}
use Rattle.spool_store.specs.Keepers.{CanReplace, after_replace}
use Rattle.spool_store.specs.declared.held.Held.{Held}
use Rattle.spool_store.proofs.Agreeing.{replaced_agrees, agrees_settled}
use Rattle.spool_store.proofs.Carrying.{live_read, live_plain}
use Rattle.spool_store.proofs.Keeping.{IsMine, mine_live, left_keeps}
use Rattle.spool_store.proofs.Replacing.{place_or, raised_least, replaced_settled}
use Rattle.spool_store.proofs.Standing.{contains_cases}
use Rattle.spool_store.proofs.Waiting.{before_stands}

-- an open row wants the body
step : (o d a y : Bool) → not o && a ≡ false → (a ≡ false → y ≡ true) → (o || d) || y ≡ true
step true d a y e k = refl
step false true a y e k = refl
step false false a y e k = k e

pub open_needs : (rows : List Row) → list_all (λ row. not (is_open row.state)) rows ≡ false → list_any (λ row. is_open row.state || is_dead row.state) rows ≡ true
open_needs [] e = sym e
open_needs (row ∷ rows) e = step (is_open row.state) (is_dead row.state) (list_all (λ row. not (is_open row.state)) rows) (list_any (λ row. is_open row.state || is_dead row.state) rows) e (open_needs rows)

-- an entry with an open row is in a qf
pub open_kind : (dirs : List (List ℕ)) (f : FileMap) (h : Held) → IsLive dirs f (spot_at h) h.entry.control → is_finished h.entry.control ≡ false → (b : Bool) → b ≡ h.finished → kind_of b ≡ Qf
open_kind dirs f h live is_one false e = refl
open_kind dirs f h live is_one true e = absurd (live_plain live (reopened (spot_at h) h.entry.control (live_read live) (ap kind_of (sym e)) is_one))

put_none : (f g : FileMap) (place : Place) → IsPut [] f g place → bytes_at g place ≡ bytes_at f place
put_none f g place (control s k is holds) = absurd (omega (arith, k.1))
put_none f g place (body s k is holds) = absurd (omega (arith, k.1))
put_none f g place (other e) = e

-- what is known of an entry whose control is replaced
pub record IsReplaced (store : StoreSeen) (f : FileMap) (h : Held) (c : Control) : Type 0 where
  pub agrees : Agrees store f
  pub live : IsLive store.dirs f (spot_of Qf (with_new h c)) h.entry.control

pub replaced_by : (store : StoreSeen) (f : FileMap) (id : ℕ) (c : Control) (paper : Sheet) → Agrees store f → (can : CanReplace store.entries id c paper) → IsReplaced store f can.held c
replaced_by store f id c paper a can =
    let h = can.held in
    let live : IsLive store.dirs f (spot_at h) h.entry.control = All-contains (λ (q : Held). IsLive store.dirs f (spot_at q) q.entry.control) store.entries h a.each can.among in
    let kind = open_kind store.dirs f h live can.open_row h.finished refl in
    record { agrees = a; live = subst (λ (q : Spot). IsLive store.dirs f q h.entry.control) (λ i. record { dir = h.entry.dir; kind = kind i; id = h.entry.id }) live }

pub raises_to : (store : StoreSeen) (f g : FileMap) (id : ℕ) (c : Control) (paper : Sheet) (can : CanReplace store.entries id c paper) → IsReplaced store f can.held c → AreRaised [] (with_new can.held c) f g → IsRaised store.dirs (spot_of Qf (with_new can.held c)) can.held.entry.control c f g
raises_to store f g id c paper can is w = record {
  live = is.live;
  kind = refl;
  valid = can.valid;
  parent = can.parent;
  revision = subst (λ (n : ℕ). can.held.entry.control.revision ≤ n) (sym can.revision) (raised_least can.held.entry.control.revision (live_read is.live).says.valid.revision_range.most);
  wanted = λ needs. open_needs can.held.entry.control.rows can.open_row;
  holds = w.control;
  others = λ place ne. put_none f g place (w.at place ne);
}

-- before the renaming
none_before : (dirs : List (List ℕ)) (next : ℕ) (s : Stored) (f g : FileMap) → IsUnderWay next (s ∷ []) [] f g → (table : Table) → table.next ≡ next → IsSettled dirs table f → StandsFor dirs table g
none_before dirs next s f g u table e settled =
    let u' : IsUnderWay table.next (s ∷ []) [] f g = subst (λ (n : ℕ). IsUnderWay n (s ∷ []) [] f g) (sym e) u in
    before_stands dirs table _ [] f g (record { new = All-nil (IsNew dirs table.next); waiting = All-nil (IsWaiting dirs table.next f []); at = u'.at }) settled.tidy settled.stands

-- a replace that is done leaves the map settled for the table with the new control
pub replace_leads : (store : StoreSeen) (table : Table) (f g : FileMap) (id : ℕ) (c : Control) (paper : Sheet) (can : CanReplace store.entries id c paper) → Agrees store f → Holds store table → StandsFor store.dirs table f → AreRaised [] (with_new can.held c) f g → IsSettled store.dirs (after_replace table id c) g
replace_leads store table f g id c paper can a holds stands w =
    let is = replaced_by store f id c paper a can in
    subst (λ (n : ℕ). IsSettled store.dirs (after_replace table n c) g) can.is (replaced_settled store.dirs table (spot_of Qf (with_new can.held c)) can.held.entry.control c f g (raises_to store f g id c paper can is w) (agrees_settled store table f a holds stands))

-- a replace that stops leaves a map for the table before it or after it
pub replace_safe : (store : StoreSeen) (table : Table) (f g : FileMap) (id : ℕ) (c : Control) (paper : Sheet) (can : CanReplace store.entries id c paper) → Agrees store f → Holds store table → StandsFor store.dirs table f
    → IsUnderWay store.next (with_new can.held c ∷ []) [] f g ⊎ AreRaised [] (with_new can.held c) f g → StandsFor store.dirs table g ⊎ StandsFor store.dirs (after_replace table id c) g
replace_safe store table f g id c paper can a holds stands (inl u) = inl (none_before store.dirs store.next (with_new can.held c) f g u table (sym holds.next) (agrees_settled store table f a holds stands))
replace_safe store table f g id c paper can a holds stands (inr w) = inr (replace_leads store table f g id c paper can a holds stands w).stands

-- a store with the new control agrees with what a replace leaves
pub replace_agrees : (store : StoreSeen) (f g : FileMap) (id : ℕ) (c : Control) (paper : Sheet) (can : CanReplace store.entries id c paper) → Agrees store f → AreRaised [] (with_new can.held c) f g → Agrees (record store { entries = map (recontrolled id c) store.entries }) g
replace_agrees store f g id c paper can a w =
    let is = replaced_by store f id c paper a can in
    subst (λ (n : ℕ). Agrees (record store { entries = map (recontrolled n c) store.entries }) g) can.is (replaced_agrees store (spot_of Qf (with_new can.held c)) can.held.entry.control c f g (raises_to store f g id c paper can is w) a)

-- what is nobody's
mine : (store : StoreSeen) (f : FileMap) (h : Held) (c : Control) → IsReplaced store f h c → (s : Stored) → Contains (with_new h c ∷ []) s → IsMine store.dirs store.next f s
mine store f h c is s k = ⊎_elim (λ (e : with_new h c ≡ s). subst (IsMine store.dirs store.next f) e (mine_live h.entry.control is.live)) (λ (m : Contains [] s). absurd (omega (arith, m.1))) (contains_cases (with_new h c) s [] k)

raised_left : (s : Stored) (f g : FileMap) → AreRaised [] s f g → IsLeft (s ∷ []) f g
raised_left s f g w place = ⊎_elim (λ (e : place ≡ control_place s). inr (own_control s (0, omega arith, refl) e)) (λ (ne : place ≢ control_place s). inl (put_none f g place (w.at place ne))) (place_or place (control_place s))

-- a replace keeps the files of others, wherever it stops
pub replace_keeps : (store : StoreSeen) (f g : FileMap) (id : ℕ) (c : Control) (paper : Sheet) (can : CanReplace store.entries id c paper) → Agrees store f → IsUnderWay store.next (with_new can.held c ∷ []) [] f g ⊎ AreRaised [] (with_new can.held c) f g → KeepsOthers store.dirs f g
replace_keeps store f g id c paper can a (inl u) = left_keeps store.dirs store.next (with_new can.held c ∷ []) f g a.tidy (mine store f can.held c (replaced_by store f id c paper a can)) u.left
replace_keeps store f g id c paper can a (inr w) = left_keeps store.dirs store.next (with_new can.held c ∷ []) f g a.tidy (mine store f can.held c (replaced_by store f id c paper a can)) (raised_left (with_new can.held c) f g w)

-- its file has no draft beside it
pub can_raise_one : (store : StoreSeen) (f : FileMap) (h : Held) (c : Control) → IsReplaced store f h c → CanRaise f [] (with_new h c)
can_raise_one store f h c is =
    let spot = (live_read is.live).there.spot in
    record { within = spot.within; further = All-nil (λ (t : Stored). IsId t.id × (t.id ≢ h.entry.id)); fresh = is.agrees.tidy.drafts h.entry.dir h.entry.id spot.among spot.within }

-- from each map with which the store agrees
pub from_agreed : (a b : Spooled) (store : StoreSeen) (s : Stored) (P S T : FileMap → Type 0) (Q R : FileMap → FileMap → Type 0) → IfSome a.told (Agrees store) → IsId s.id → ((f : FileMap) → CanRaise f [] s → Moves a b (λ g. g ≡ f) (Q f) (R f)) → ((f : FileMap) → Agrees store f → CanRaise f [] s)
    → ((f g : FileMap) → Agrees store f → P f → Q f g → S g) → ((f g : FileMap) → Agrees store f → P f → R f g → T g) → Moves a b P S T
from_agreed a b store s P S T Q R agrees within calls can leads safe =
    moves_told a b P S T _ _ _ (calls [] (record { within = within; further = All-nil (λ (t : Stored). IsId t.id × (t.id ≢ s.id)); fresh = refl }))
    (λ f e p. let agreed = at_told a.told (Agrees store) agrees f e in
    moves_weaker a b (λ g. g ≡ f) (Q f) (R f) S T (λ x q. leads f x agreed p q) (λ x r. safe f x agreed p r) (calls f (can f agreed)))

-- what may take an entry's place
pub can_of : (store : StoreSeen) (id : ℕ) (c : Control) (paper : Sheet) (can : CanReplace store.entries id c paper) (f : FileMap) → Agrees store f → CanRaise f [] (with_new can.held c)
can_of store id c paper can f a = can_raise_one store f can.held c (replaced_by store f id c paper a can)

-- the text of a control that can be replaced fits in its buffer
pub fits_paper : (store : StoreSeen) (id : ℕ) (c : Control) (paper : Sheet) → CanReplace store.entries id c paper → length (spelled c) ≤ paper.room
fits_paper store id c paper can = le_trans (text_fits_room can.held.entry.control c can.texts can.valid) can.fits

-- a store with that entry's control
pub seen_set : (w s : StoreSeen) (shelf : Shelved) (id n : ℕ) (c d : Control) → w ≡ s → shelf ≡ record { dirs = w.dirs; items = map (recontrolled n d) w.entries; next = w.next; room = w.room } → n ≡ id → d ≡ c → record w { dirs = shelf.dirs; entries = shelf.items; next = shelf.next; room = shelf.room } ≡ record s { entries = map (recontrolled id c) s.entries }
seen_set w s shelf id n c d e h p q = (λ i. record w { dirs = (h i).dirs; entries = (h i).items; next = (h i).next; room = (h i).room }) ∙ (λ i. record (e i) { entries = map (recontrolled (p i) (q i)) (e i).entries })
