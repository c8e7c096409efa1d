-- A command that a runner asks. It need not be believed: only private contracts cite it.
use Rattle.std.specs.Prelude.{◌≡◌, ◌⊎◌, ℕ, ◌≤◌, Err, IfErr, IfOk, IfSome, List, OnErr, OnOk, Result, map}
use Rattle.mail_base.specs.Histories.{Rose}
use Rattle.mail_base.specs.declared.control.Control.{Control}
use Rattle.mail_base.specs.declared.outcome.Result1.{Result1}
use Rattle.spool_disk.specs.Disk.{FileMap}
use Rattle.spool_disk.specs.Spooled.{Spooled}
use Rattle.spool_store.specs.Entries.{Table}
use Rattle.spool_store.specs.Moves.{Moves}
use Rattle.spool_store.specs.Stores.{Agrees, KeepsOthers, recontrolled}
use Rattle.queue_table.specs.Calls.{HoldsTable, LeadsTo, MayStop, Stays, store}
use Rattle.queue_table.specs.Commands.{Command, after}
use Rattle.queue_table.specs.Commands.Command.{Record}
use Rattle.queue_table.specs.Results.{recorded}
use Rattle.queue_table.specs.declared.table.Table.{Table as Kept}
use Rattle.queue_run.specs.declared.runner.Did.{Did}
use Rattle.queue_run.specs.declared.runner.RunStop.{RunStop}
use Rattle.queue_run.specs.declared.runner.RunStop.TheVariants.{NoMemory, SpoolFault}
use Rattle.queue_run.specs.declared.runner.Did.TheVariants.{Recorded}
use Rattle.queue_run.specs.Results.{alike}

-- it was carried out, and answered so; or the spool failed
pub record Put (old new : Kept) (command : Command) (answer : Did) (result : Result Did RunStop)
    (a b : Spooled) : Type 0 where
  pub moves : (table : Table) → HoldsTable old table → MayStop (store old) command
      → LeadsTo (store old).dirs table (after table command) result a b
  pub holds : (table : Table) → HoldsTable old table
      → OnOk result (HoldsTable new (after table command))
  pub frame : (f : FileMap) → Moves a b (λ g. g ≡ f) (KeepsOthers (store old).dirs f)
      (KeepsOthers (store old).dirs f)
  pub agrees : OnOk result (IfSome b.told (Agrees (store new)))
  pub stays : Stays old new
  pub whole : OnOk result ((store new).broken ≡ (store old).broken)
  pub ok : IfOk result (λ did. did ≡ answer)
  pub err : IfErr result (λ stop. stop ≡ SpoolFault)
  pub later : a.faults ≤ b.faults
  pub calm : OnOk result (b.faults ≡ a.faults)
  pub cause : OnErr result (Rose a.faults b.faults)

-- an attempt at some rows of an entry was recorded
pub record IsPutAs (old new : Kept) (id : ℕ) (places : List ℕ) (results : List Result1)
    (moment : ℕ) (control : Control) (result : Result Did RunStop) (a b : Spooled)
    : Type 0 where
  pub put : Put old new (Record old.terms id places results moment) Recorded result a b
  pub entries : OnOk result ((store new).entries
      ≡ map (recontrolled id (recorded old.terms places results moment control))
      (store old).entries)

-- or there was no memory for it
abbrev pub IsPutOrNot : Kept → Kept → ℕ → List ℕ → Result1 → ℕ → Control → Result Did RunStop
    → Spooled → Spooled → Type 0
IsPutOrNot old new id places one moment control result a b =
    (result ≡ Err NoMemory) ⊎ IsPutAs old new id places (alike one places) moment control result a b
