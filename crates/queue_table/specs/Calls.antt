-- A message table over a store: what it holds, and what is asked of its calls (own).
use Rattle.std.specs.Prelude.{◌≡◌, ◌⊎◌, ◌≤◌, ℕ, List, ◌∷◌, Option, Some, IfSome, IsErrOf, OnOk, OnErr, All, Contains, Result, true, false}
use Rattle.mail_base.specs.Histories.{Rose}
use Rattle.mail_base.specs.declared.fault.StoreFault.{StoreFault}
use Rattle.mail_base.specs.declared.fault.StoreFault.TheVariants.{SpoolFault}
use Rattle.mail_base.specs.declared.message.Back.{Back}
use Rattle.mail_base.specs.declared.message.Cut.{Cut}
use Rattle.mail_base.specs.declared.message.Message.{Message}
use Rattle.qf_format.specs.Valid.{IsValid}
use Rattle.spool_disk.specs.Disk.{FileMap}
use Rattle.spool_disk.specs.Spooled.{Spooled}
use Rattle.spool_store.specs.Entries.{Stored, Table}
use Rattle.spool_store.specs.Keepers.{seen}
use Rattle.spool_store.specs.Moves.{Ends, Moves}
use Rattle.spool_store.specs.Parcels.{IsBelowLast, IsParcel}
use Rattle.spool_store.specs.Parts.{IsEitherTable}
use Rattle.spool_store.specs.Settled.{IsSettled, StandsFor}
use Rattle.spool_store.specs.Stores.{Holds, IsAtRest, IsHeld, KeepsOthers, StoreSeen}
use Rattle.spool_store.specs.declared.held.Held.{Held}
use Rattle.queue_table.specs.Commands.{Command, after, draft_of, drafts_of, new_control}
use Rattle.queue_table.specs.Commands.Command.{Accept, Record, Return, Warn}
use Rattle.queue_table.specs.Directories.{dir_of}
use Rattle.queue_table.specs.Soundness.{CanDo}
use Rattle.queue_table.specs.declared.accepting.Accepting.{Accepting}
use Rattle.queue_table.specs.declared.table.Table.{Table as Kept}
use Rattle.queue_table.specs.declared.terms.Terms.{Terms}

-- the store of a table
abbrev pub store : Kept → StoreSeen
store kept = seen kept.queue

-- its store holds the entries of a table and its first free id
abbrev pub HoldsTable : Kept → Table → Type 0
HoldsTable kept table = Holds (store kept) table

-- its store has what the files say that are told, if they are, unless it is broken
abbrev pub Tallies : Kept → Spooled → Type 0
Tallies kept spooled = (store kept).broken ≡ false → IsAtRest (store kept) spooled

-- what a store holds of an entry of a table
pub record IsHeldIn (held : List Held) (s : Stored) : Type 0 where
  pub one : Held
  pub among : Contains held one
  pub is : IsHeld one s

-- what a table has of an entry of a store
pub record IsStoredIn (entries : List Stored) (h : Held) : Type 0 where
  pub one : Stored
  pub among : Contains entries one
  pub is : IsHeld h one

-- the same entry is among these, whatever its control file is called
pub record HasSame (held : List Held) (h : Held) : Type 0 where
  pub one : Held
  pub among : Contains held one
  pub same : one.entry ≡ h.entry

-- what no call changes: the terms, the directories and the strange files
pub record Stays (old new : Kept) : Type 0 where
  pub terms : new.terms ≡ old.terms
  pub dirs : (store new).dirs ≡ (store old).dirs
  pub strange : (store new).strange ≡ (store old).strange

-- the store is broken, and else as before
abbrev pub broken_one : StoreSeen → StoreSeen
broken_one s = record s { broken = true }

-- but for the room, the store is as before
abbrev pub IsSame : Kept → Kept → Type 0
IsSame old new =
    (new.terms ≡ old.terms) × (store new ≡ record (store old) { room = (store new).room })

-- from the files of a table a call leads to those of another, or where it fails to those of
-- either, and a stop leaves those of either
abbrev pub LeadsTo : {T E : Type 0} → List (List ℕ) → Table → Table → Result T E → Spooled
    → Spooled → Type 0
LeadsTo dirs before after result old new =
    Moves old new (StandsFor dirs before)
    (Ends result (IsSettled dirs after) (IsEitherTable dirs before after))
    (IsEitherTable dirs before after)

-- a stop in a command leaves the table before or after: where it has children, its entry has not
-- the last revision
abbrev pub MayStop : StoreSeen → Command → Type 0
MayStop s (Accept terms message cuts moment) = Unit {0}
MayStop s (Record terms id places results moment) = Unit {0}
MayStop s (Return terms id bounces moment) = IsBelowLast s.entries id
MayStop s (Warn terms id warnings moment) = IsBelowLast s.entries id

-- a call carries a command out, from what was there before it
pub record CarriesOut {T : Type 0} (old new : Kept) (command : Command)
    (result : Result T StoreFault) (a b : Spooled) : Type 0 where
  -- the files go from those of the table to those of the table after it, and a stop leaves either
  pub moves : (table : Table) → HoldsTable old table → MayStop (store old) command
      → LeadsTo (store old).dirs table (after table command) result a b
  pub settled : (table : Table) (f : FileMap) → HoldsTable old table → a.told ≡ Some f
      → StandsFor (store old).dirs table f
      → OnOk result (IfSome b.told (IsSettled (store old).dirs (after table command)))
  -- the store holds the table after it, and where it fails, still the one before
  pub holds : (table : Table) → HoldsTable old table
      → OnOk result (HoldsTable new (after table command))
  pub kept : (table : Table) → HoldsTable old table → OnErr result (HoldsTable new table)
  pub agrees : OnOk result (IsAtRest (store new) b)
  -- no place of a strange file, and none outside, is touched
  pub frame : (f : FileMap) → Moves a b (λ g. g ≡ f) (KeepsOthers (store old).dirs f)
      (KeepsOthers (store old).dirs f)
  pub stays : Stays old new
  pub whole : OnOk result ((store new).broken ≡ (store old).broken)
  pub fault : IsErrOf result SpoolFault → (store new).broken ≡ true
  -- it fails so only where the store was broken, or the spool's count of faults rose
  pub later : a.faults ≤ b.faults
  pub calm : IsErrOf result SpoolFault ⊎ (b.faults ≡ a.faults)
  pub cause : IsErrOf result SpoolFault → ((store old).broken ≡ true) ⊎ Rose a.faults b.faults

-- the directory of each group is among these
abbrev pub AreDirs : Terms → List (List ℕ) → Type 0
AreDirs terms dirs = (group : List ℕ) → Contains dirs (dir_of terms group)

-- the first control of each part of a message has a text
abbrev pub AreValid : Terms → Message → ℕ → List Cut → Type 0
AreValid terms message moment cuts =
    All (λ cut. IsValid (new_control terms message moment cut)) cuts

-- and that of each part of these messages
abbrev pub AreBacksValid : Terms → ℕ → List Back → Type 0
AreBacksValid terms moment backs =
    All (λ back. AreValid terms back.message moment back.cuts) backs

-- what is planned takes in a message with these cuts, under the first free ids
pub record IsAccepting (kept : Kept) (message : Message) (cuts : List Cut) (moment : ℕ)
    (accepting : Accepting) : Type 0 where
  pub first : Cut
  pub rest : List Cut
  pub whole : cuts ≡ first ∷ rest
  pub parcel : IsParcel (store kept) (drafts_of kept.terms message moment rest)
      (draft_of kept.terms message moment first) message.body accepting.parcel

-- what was planned since the last change
pub record IsPlanned (kept : Kept) (accepting : Accepting) : Type 0 where
  pub message : Message
  pub cuts : List Cut
  pub moment : ℕ
  pub is : IsAccepting kept message cuts moment accepting

-- a command may be asked of the table that a store holds
pub record IsAsked (kept : Kept) (command : Command) : Type 0 where
  pub table : Table
  pub holds : HoldsTable kept table
  pub can : CanDo table command
