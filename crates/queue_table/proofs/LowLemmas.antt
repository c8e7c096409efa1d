-- No command raises a revision by more than one.
use Rattle.std.proofs.Common.{◌≡◌, ℕ, ◌+◌, ◌-◌, ◌<◌, ◌≤◌, ◌^◌, List, [], ◌∷◌, map, length, Option, Some, None, Bool, true, false, if◌then◌else◌, refl, sym, ◌∙◌, subst, arith}
use Rattle.std.specs.Prelude.{All, IfSome, eqb}
use Rattle.std.proofs.lemmas.List.Elements.{All-head, All-tail, All-nil, All-cons, All-append, All-weaker, All-map, All-contains}
use Rattle.mail_base.specs.declared.control.Control.{Control}
use Rattle.mail_base.specs.declared.control.Draft.{Draft}
use Rattle.mail_base.specs.declared.control.Parent.{Parent}
use Rattle.mail_base.specs.declared.message.Back.{Back}
use Rattle.mail_base.specs.declared.message.Cut.{Cut}
use Rattle.mail_base.specs.declared.message.Message.{Message}
use Rattle.spool_store.specs.Entries.{Stored, Table, replaced, with_control}
use Rattle.spool_store.specs.Keepers.{after_replace, raised}
use Rattle.spool_store.specs.Writes.{heir, numbered, stored}
use Rattle.queue_table.specs.Asked.{AllStop, AreLow, IsLow}
use Rattle.queue_table.specs.Calls.{HoldsTable, MayStop, store}
use Rattle.queue_table.specs.Commands.{Command, after, applied, brought, changed_by, control_at, draft_of, drafts_of, with_children, with_entry}
use Rattle.queue_table.specs.Commands.Command.{Accept, Record, Return, Warn}
use Rattle.queue_table.specs.Results.{recorded, with_returns, with_warning}
use Rattle.queue_table.specs.declared.table.Table.{Table as Kept}
use Rattle.queue_table.specs.declared.terms.Terms.{Terms}
use Rattle.queue_table.proofs.EntryLemmas.{by_test}
use Rattle.queue_table.proofs.HoldingLemmas.{stored_in}

low_more : (b c : ℕ) (xs : List Stored) → b ≤ c → All (λ s. s.control.revision ≤ b) xs → All (λ s. s.control.revision ≤ c) xs
low_more b c xs le h = All-weaker (λ (s : Stored). s.control.revision ≤ b) (λ (s : Stored). s.control.revision ≤ c) (λ s k. omega (arith, k, le)) xs h

low_changed : (id : ℕ) (d : Control) (xs : List Stored) (c : ℕ) → d.revision ≤ c → All (λ s. s.control.revision ≤ c) xs → All (λ s. s.control.revision ≤ c) (with_control id d xs)
low_changed id d xs c le h = All-map (λ (s : Stored). s.control.revision ≤ c) (replaced id d) xs
    (All-weaker (λ (s : Stored). s.control.revision ≤ c) (λ (s : Stored). (replaced id d s).control.revision ≤ c) (λ s k. by_test (λ (q : Stored). q.control.revision ≤ c) (eqb s.id id) d s (λ t. le) (λ f. k)) xs h)

-- the control that is found is that of an entry
low_pick : (q : Bool) (id : ℕ) (x : Stored) (xs : List Stored) (b : ℕ) → x.control.revision ≤ b → ((c : Control) → control_at id xs ≡ Some c → c.revision ≤ b) → (c : Control) → (if q then Some x.control else control_at id xs) ≡ Some c → c.revision ≤ b
low_pick true id x xs b one rest c e = let same : x.control ≡ c = cc e in subst (λ (d : Control). d.revision ≤ b) same one
low_pick false id x xs b one rest c e = rest c e

low_at : (id : ℕ) (xs : List Stored) (b : ℕ) → All (λ s. s.control.revision ≤ b) xs → (c : Control) → control_at id xs ≡ Some c → c.revision ≤ b
low_at id [] b h c e = absurd (cc e)
low_at id (x ∷ xs) b h c e = low_pick (eqb x.id id) id x xs b (All-head (λ (s : Stored). s.control.revision ≤ b) x xs h) (low_at id xs b (All-tail (λ (s : Stored). s.control.revision ≤ b) x xs h)) c e

low_option : (c : ℕ) (change : Control → Table) (table : Table) (o : Option Control) → AreLow c table → ((d : Control) → o ≡ Some d → AreLow c (change d)) → AreLow c (with_entry change table o)
low_option c change table None kept each = kept
low_option c change table (Some d) kept each = each d refl

low_entry : (b c : ℕ) (change : Control → Table) (table : Table) (id : ℕ) → AreLow b table → AreLow c table → ((d : Control) → d.revision ≤ b → AreLow c (change d)) → AreLow c (with_entry change table (control_at id table.entries))
low_entry b c change table id low kept each = low_option c change table (control_at id table.entries) kept (λ d e. each d (low_at id table.entries b low d e))

-- new entries have the first revision
low_numbered : (id : ℕ) (b : List ℕ) (ds : List Draft) (c : ℕ) → All (λ (d : Draft). d.control.revision ≤ c) ds → All (λ s. s.control.revision ≤ c) (numbered id b ds)
low_numbered id b [] c h = All-nil (λ (s : Stored). s.control.revision ≤ c)
low_numbered id b (d ∷ ds) c h = All-cons (λ (s : Stored). s.control.revision ≤ c) (stored id b d) (numbered (id + 1) b ds) (All-head (λ (x : Draft). x.control.revision ≤ c) d ds h) (low_numbered (id + 1) b ds c (All-tail (λ (x : Draft). x.control.revision ≤ c) d ds h))

low_heirs : (terms : Terms) (message : Message) (moment : ℕ) (p : Parent) (cuts : List Cut) (c : ℕ) → 1 ≤ c → All (λ (d : Draft). d.control.revision ≤ c) (map (heir p) (drafts_of terms message moment cuts))
low_heirs terms message moment p [] c le = All-nil (λ (d : Draft). d.control.revision ≤ c)
low_heirs terms message moment p (cut ∷ cuts) c le = All-cons (λ (d : Draft). d.control.revision ≤ c) (heir p (draft_of terms message moment cut)) (map (heir p) (drafts_of terms message moment cuts)) le (low_heirs terms message moment p cuts c le)

low_brought : (terms : Terms) (moment : ℕ) (p : Parent) (next : ℕ) (backs : List Back) (c : ℕ) → 1 ≤ c → All (λ s. s.control.revision ≤ c) (brought terms moment p next backs)
low_brought terms moment p next [] c le = All-nil (λ (s : Stored). s.control.revision ≤ c)
low_brought terms moment p next (back ∷ backs) c le = All-append (λ (s : Stored). s.control.revision ≤ c)
    (numbered next back.message.body (map (heir p) (drafts_of terms back.message moment back.cuts)))
    (brought terms moment p (next + length back.cuts) backs)
    (low_numbered next back.message.body (map (heir p) (drafts_of terms back.message moment back.cuts)) c (low_heirs terms back.message moment p back.cuts c le))
    (low_brought terms moment p (next + length back.cuts) backs c le)

low_raised : (n b : ℕ) → n ≤ b → raised n ≤ b + 1
low_raised n b le = omega (arith, le)

low_children : (b : ℕ) (terms : Terms) (moment : ℕ) (table : Table) (id : ℕ) (backs : List Back) (d : Control) → AreLow b table → d.revision ≤ b + 1 → AreLow (b + 1) (with_children terms moment table id backs d)
low_children b terms moment table id backs d low le =
    let p : Parent = record { id = id; revision = d.revision } in
    All-append (λ (s : Stored). s.control.revision ≤ b + 1) (with_control id d table.entries) (brought terms moment p table.next backs)
    (low_changed id d table.entries (b + 1) le (low_more b (b + 1) table.entries (omega arith) low))
    (low_brought terms moment p table.next backs (b + 1) (omega arith))

-- a command raises no revision by more than one
pub low_after : (b : ℕ) (table : Table) (command : Command) → AreLow b table → AreLow (b + 1) (after table command)
low_after b table (Accept terms message [] moment) low = low_more b (b + 1) table.entries (omega arith) low
low_after b table (Accept terms message (cut ∷ cuts) moment) low =
    let p : Parent = record { id = table.next; revision = 1 } in
    let first : Stored = stored table.next message.body (draft_of terms message moment cut) in
    let rest : List Stored = numbered (table.next + 1) message.body (map (heir p) (drafts_of terms message moment cuts)) in
    All-append (λ (s : Stored). s.control.revision ≤ b + 1) table.entries (first ∷ rest) (low_more b (b + 1) table.entries (omega arith) low)
    (All-cons (λ (s : Stored). s.control.revision ≤ b + 1) first rest (omega arith) (low_numbered (table.next + 1) message.body (map (heir p) (drafts_of terms message moment cuts)) (b + 1) (low_heirs terms message moment p cuts (b + 1) (omega arith))))
low_after b table (Record terms id places results moment) low =
    let more = low_more b (b + 1) table.entries (omega arith) low in
    low_entry b (b + 1) (λ c. after_replace table id (recorded terms places results moment c)) table id low more
    (λ d le. low_changed id (recorded terms places results moment d) table.entries (b + 1) (low_raised d.revision b le) more)
low_after b table (Return terms id bounces moment) low =
    low_entry b (b + 1) (λ c. with_children terms moment table id bounces (with_returns table.next c)) table id low (low_more b (b + 1) table.entries (omega arith) low)
    (λ d le. low_children b terms moment table id bounces (with_returns table.next d) low (low_raised d.revision b le))
low_after b table (Warn terms id warnings moment) low =
    low_entry b (b + 1) (λ c. with_children terms moment table id warnings (with_warning c)) table id low (low_more b (b + 1) table.entries (omega arith) low)
    (λ d le. low_children b terms moment table id warnings (with_warning d) low (low_raised d.revision b le))

-- nor do commands by more than their number
pub low_run : (b : ℕ) (table : Table) (commands : List Command) → AreLow b table → AreLow (b + length commands) (applied table commands)
low_run b table [] low = low_more b (b + 0) table.entries (omega arith) low
low_run b table (command ∷ commands) low = low_more (b + 1 + length commands) (b + length (command ∷ commands)) (applied (after table command) commands).entries (omega arith) (low_run (b + 1) (after table command) commands (low_after b table command low))

low_stop : (b : ℕ) (table : Table) (o : Option ℕ) → AreLow b table → b < 2 ^ 64 - 1 → IfSome o (IsLow table)
low_stop b table None low lt = tt
low_stop b table (Some id) low lt = λ s k e. let le = All-contains (λ (q : Stored). q.control.revision ≤ b) table.entries s low k in omega (arith, le, lt)

-- so far below the last revision a stop in any command leaves the table before or after
pub low_stops : (b : ℕ) (table : Table) (commands : List Command) → AreLow b table → b + length commands < 2 ^ 64 - 1 → AllStop table commands
low_stops b table [] low lt = tt
low_stops b table (command ∷ commands) low lt = (low_stop b table (changed_by command) low (omega (arith, lt)), low_stops (b + 1) (after table command) commands (low_after b table command low) (omega (arith, lt)))

-- what can be stopped over a table can be over its store
pub stops_may : (kept : Kept) (table : Table) (command : Command) → HoldsTable kept table → IfSome (changed_by command) (IsLow table) → MayStop (store kept) command
stops_may kept table (Accept terms message cuts moment) holds low = tt
stops_may kept table (Record terms id places results moment) holds low = tt
stops_may kept table (Return terms id bounces moment) holds low = λ h k e. let s = stored_in (store kept).entries table.entries h holds.entries k in subst (λ (c : Control). c.revision < 2 ^ 64 - 1) (sym s.is.control) (low s.one s.among (sym s.is.id ∙ e))
stops_may kept table (Warn terms id warnings moment) holds low = λ h k e. let s = stored_in (store kept).entries table.entries h holds.entries k in subst (λ (c : Control). c.revision < 2 ^ 64 - 1) (sym s.is.control) (low s.one s.among (sym s.is.id ∙ e))
