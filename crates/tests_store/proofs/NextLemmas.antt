-- The next control of an entry can take its place, and can be committed with children.
use Rattle.std.proofs.Common.{◌≡◌, ◌≤◌, ℕ, List, [], None, Some, Result, Ok, Err, refl, sym, ap, ◌∙◌, subst, arith, Contains}
use Rattle.std.specs.Prelude.{All, IfOk}
use Rattle.std.proofs.lemmas.List.Elements.{All-contains, All-weaker}
use Rattle.mail_base.specs.declared.control.Control.{Control}
use Rattle.mail_base.specs.declared.control.Draft.{Draft}
use Rattle.mail_base.specs.declared.fault.StoreFault.{StoreFault}
use Rattle.qf_format.specs.Room.{addresses, room_of}
use Rattle.qf_format.specs.Sheets.{Sheet}
use Rattle.qf_format.specs.Valid.{IsRevision, IsValid}
use Rattle.spool_disk.specs.Disk.{FileMap}
use Rattle.spool_store.specs.Keepers.{CanReplace, raised, seen}
use Rattle.spool_store.specs.Openings.{IsFitting}
use Rattle.spool_store.specs.Parcels.{CanPrepareUnder, IsParcelUnder, IsReadyUnder}
use Rattle.spool_store.specs.Queue.{IsLive}
use Rattle.spool_store.specs.Stores.{Agrees, StoreSeen, spot_at}
use Rattle.spool_store.specs.Writes.{IsDraftable}
use Rattle.spool_store.specs.declared.held.Held.{Held}
use Rattle.spool_store.specs.declared.parcel.Parcel.{Parcel}
use Rattle.spool_store.specs.declared.queue.Queue.{Queue}
use Rattle.spool_store.proofs.Carrying.{live_read}
use Rattle.spool_store.proofs.Numbering.{valid_with}
use Rattle.tests_store.specs.Nexts.{HasOpen, IsNext}
use Rattle.tests_store.specs.Samples.{sample_dirs}

raised_range : (r : ℕ) → IsRevision r → IsRevision (raised r)
raised_range r v = record { least = grind (arith, v.least); most = grind (arith, v.most) }

raised_valid : (c : Control) → IsValid c → IsValid (record c { revision = raised c.revision })
raised_valid c v = valid_with (raised c.revision) c.parent c (raised_range c.revision v.revision_range) v.parent_form v

pub can_replace : (store : StoreSeen) (id n k : ℕ) (c : Control) (paper : Sheet) → All (λ (h : Held). IsFitting store.dirs h.entry) store.entries → HasOpen store.entries id → n ≡ id → ((h : Held) → Contains store.entries h → h.entry.id ≡ id → c ≡ h.entry.control) → (paper.bytes ≡ []) × (room_of c ≤ paper.room) → k ≡ raised c.revision → CanReplace store.entries n (record c { revision = k }) paper
can_replace store id n k c paper fit o known same sheet next =
    let h : Held = o.held in
    let e : c ≡ h.entry.control = same h o.among o.is in
    let can = All-contains (λ (h : Held). IsFitting store.dirs h.entry) store.entries h fit o.among in
    record {
      held = h;
      among = o.among;
      is = o.is ∙ sym known;
      open_row = o.open_row;
      valid = subst (λ (r : ℕ). IsValid (record c { revision = r })) (sym next) (raised_valid c (subst (λ (q : Control). IsValid q) (sym e) can.valid));
      texts = record {
        group = ap (λ (q : Control). q.group) e;
        sender = ap (λ (q : Control). q.sender) e;
        kept = ap (λ (q : Control). q.kept) e;
        addresses = ap (λ (q : Control). addresses q.rows) e;
        headers = ap (λ (q : Control). q.headers) e;
      };
      parent = ap (λ (q : Control). q.parent) e;
      revision = next ∙ ap (λ (q : Control). raised q.revision) e;
      empty = sheet.0;
      fits = subst (λ (q : Control). room_of q ≤ paper.room) e sheet.1;
    }

pub can_prepare_under : (store : StoreSeen) (children : List Draft) (parent : Draft) → store.dirs ≡ sample_dirs → All (IsDraftable sample_dirs) children → All (λ (h : Held). IsFitting store.dirs h.entry) store.entries → IsNext store.entries parent → CanPrepareUnder store.dirs store.entries children parent
can_prepare_under store children parent e each fit next =
    let h : Held = next.held in
    let can = All-contains (λ (h : Held). IsFitting store.dirs h.entry) store.entries h fit next.among in
    subst (λ (d : Draft). CanPrepareUnder store.dirs store.entries children d) (sym next.is) (record {
      each = subst (λ (q : List (List ℕ)). All (IsDraftable q) children) (sym e) each;
      head = record { among = can.dir; valid = raised_valid h.entry.control can.valid };
      held = h;
      among = next.among;
      named = refl;
      follows = record { dir = refl; parent = refl; revision = refl; open_row = next.open_row };
    })

-- what was made ready so
pub ready_under_ok : (r : Result Parcel StoreFault) (store : StoreSeen) (entries : List Held) (children : List Draft) (parent : Draft) (body : List ℕ) → IsNext entries parent → IfOk r (λ parcel. (id : ℕ) → parent.id ≡ Some id → IsParcelUnder store id children parent body parcel) → IfOk r (IsReadyUnder store)
ready_under_ok (Ok parcel) store entries children parent body next is =
    let made = is next.held.entry.id (ap (λ (d : Draft). d.id) next.is) in
    record { id = next.held.entry.id; children = children; parent = parent; body = body; is = made }
ready_under_ok (Err e) store entries children parent body next is = tt
