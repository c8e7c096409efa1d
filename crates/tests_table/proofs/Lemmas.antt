-- Commands may be asked of a table with what is sent.
use Rattle.std.proofs.Common.{◌<◌, ◌^◌, ℕ, List, [], ◌∷◌, map, Bool, true, false, Option, refl, sym, subst}
use Rattle.std.specs.Prelude.{IsSome, not}
use Rattle.std.specs.List.{AllZip}
use Rattle.std.proofs.lemmas.List.Elements.{All-nil, All-cons, All-contains}
use Rattle.mail_base.specs.declared.message.Back.{Back}
use Rattle.spool_disk.specs.Disk.{FileMap}
use Rattle.spool_store.specs.Entries.{Stored, Table}
use Rattle.spool_store.specs.Stores.{Holds, IsHeld, StoreSeen}
use Rattle.spool_store.specs.declared.held.Held.{Held}
use Rattle.spool_store.proofs.Replacing.{contains_map}
use Rattle.queue_table.specs.Calls.{AreBacksValid, AreValid, IsAsked, store}
use Rattle.queue_table.specs.Commands.Command.{Return, Warn}
use Rattle.queue_table.specs.Soundness.{AreBounces}
use Rattle.queue_table.specs.declared.table.Table.{Table as Kept}
use Rattle.queue_table.specs.declared.terms.Terms.{Terms}
use Rattle.table_samples.proofs.Lemmas.{are_cuts, valid_cuts}
use Rattle.tests_table.specs.Samples.{AreBacks, IsOpenWith}

-- the first controls of what is sent for an entry have a text
pub valid_backs : (terms : Terms) (moment : ℕ) (backs : List Back) → moment < 2 ^ 64 → AreBacks backs → AreBacksValid terms moment backs
valid_backs terms moment backs fits are =
    let b = are.sample in
    subst (AreBacksValid terms moment) (sym are.is) (All-cons (λ (back : Back). AreValid terms back.message moment back.cuts) are.back [] (valid_cuts terms are.back.message moment are.back.cuts fits b.message b.cuts) (All-nil (λ (back : Back). AreValid terms back.message moment back.cuts)))

-- nothing is sent
pub no_backs : (terms : Terms) (moment : ℕ) → AreBacksValid terms moment []
no_backs terms moment = All-nil (λ (back : Back). AreValid terms back.message moment back.cuts)

-- an entry without its body
abbrev bare : Held → Stored
bare h = record { id = h.entry.id; dir = h.entry.dir; control = h.entry.control; body = [] }

-- the table of a store, without bodies
abbrev table_of : StoreSeen → Table
table_of s = record { entries = map bare s.entries; next = s.next }

bare_held : (entries : List Held) → AllZip IsHeld entries (map bare entries)
bare_held [] = tt
bare_held (h ∷ entries) = (record { id = refl; dir = refl; control = refl }, bare_held entries)

holds_bare : (s : StoreSeen) → Holds s (table_of s)
holds_bare s = record { entries = bare_held s.entries; next = refl }

-- an entry that is no double bounce may be returned by what is sent
pub asked_return : (kept : Kept) (terms : Terms) (id : ℕ) (backs : List Back) (moment : ℕ) → IsOpenWith (store kept).entries false id → AreBacks backs → IsAsked kept (Return terms id backs moment)
asked_return kept terms id backs moment o are =
    let b = are.sample in
    record {
      table = table_of (store kept);
      holds = holds_bare (store kept);
      can = record {
        has = record { entry = bare o.held; among = contains_map bare o.held (store kept).entries o.among; is = o.is };
        waits = o.waits;
        bounces_are = subst (λ (d : Bool). AreBounces (not d) backs) (sym o.double_is) (are.back, are.is, record { cuts = are_cuts are.back.cuts b.cuts; marked = b.marked });
      };
    }

-- and a double bounce by nothing
pub asked_burial : (kept : Kept) (terms : Terms) (id moment : ℕ) → IsOpenWith (store kept).entries true id → IsAsked kept (Return terms id [] moment)
asked_burial kept terms id moment o = record {
  table = table_of (store kept);
  holds = holds_bare (store kept);
  can = record {
    has = record { entry = bare o.held; among = contains_map bare o.held (store kept).entries o.among; is = o.is };
    waits = o.waits;
    bounces_are = subst (λ (d : Bool). AreBounces (not d) []) (sym o.double_is) refl;
  };
}

-- and a warning may be sent for an entry
pub asked_warning : (kept : Kept) (terms : Terms) (id : ℕ) (backs : List Back) (moment : ℕ) (d : Bool) → IsOpenWith (store kept).entries d id → AreBacks backs → IsAsked kept (Warn terms id backs moment)
asked_warning kept terms id backs moment d o are = record {
  table = table_of (store kept);
  holds = holds_bare (store kept);
  can = record {
    has = record { entry = bare o.held; among = contains_map bare o.held (store kept).entries o.among; is = o.is };
    waits = o.waits;
    warning = are.back;
    one = are.is;
    cuts = are_cuts are.back.cuts are.sample.cuts;
  };
}
