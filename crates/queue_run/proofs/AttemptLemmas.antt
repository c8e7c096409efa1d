-- The exits of an attempt: what is known where a batch is tried.
use Rattle.std.proofs.Common.{◌≡◌, ◌∙◌, ◌<◌, List, [], ◌∷◌, length, arith, Some, None, Result, Ok, Err, refl, sym, subst, reverse, Contains}
use Rattle.std.specs.Prelude.{IfOk, get_or, slice_get}
use Rattle.std.proofs.lemmas.List.{length-reverse}
use Rattle.std.proofs.lemmas.Option.{slice_get-get_or}
use Rattle.mail_base.specs.declared.fault.NoMemory.{NoMemory}
use Rattle.link_edge.specs.Dials.{DialSeen}
use Rattle.link_edge.specs.declared.peer.Peer.{Peer}
use Rattle.spawn_edge.specs.Spawned.{Spawned}
use Rattle.spool_disk.specs.Spooled.{Spooled}
use Rattle.spool_store.specs.Entries.{Table}
use Rattle.spool_store.specs.declared.held.Held.{Held}
use Rattle.queue_table.specs.Calls.{HoldsTable, store}
use Rattle.queue_table.specs.declared.table.Table.{Table as Kept}
use Rattle.queue_run.specs.declared.batch.Batch.{Batch}
use Rattle.queue_run.specs.declared.runner.Runner.{Runner}
use Rattle.queue_run.specs.declared.runner.RunStop.TheVariants as stop
use Rattle.queue_run.specs.Holders.{holder_of}
use Rattle.queue_run.specs.Kinds.{kind_at_end, kind_by_route}
use Rattle.queue_run.specs.Meant.{Ground}
use Rattle.queue_run.specs.Ready.{IsReady}
use Rattle.queue_run.specs.Working.{Steps, bench, kind_in}
use Rattle.queue_run.proofs.AimLemmas.{kind_end, kind_first, starved_route}
use Rattle.queue_run.proofs.SettleLemmas.{exit_memory}
use Rattle.queue_run.proofs.LetterLemmas.{found}
use Rattle.queue_run.proofs.StepLemmas.{reads_itself}

-- a batch is tried: the entry's control, the batch, and the kind of the step
pub record Trying (G : Ground) (T : Table) (old : Kept) (r : Runner) : Type 0 where
  pub held : Held
  pub among : Contains (store old).entries held
  pub is : held.entry.id ≡ r.id
  pub batch : Batch
  pub first : slice_get (holder_of r).rest 0 ≡ Some batch
  pub kind : kind_in G T (holder_of r) ≡ kind_by_route G.config G.maps r.id held.entry.control batch batch.resolved

record First (xs : List Batch) : Type 0 where
  batch : Batch
  first : slice_get (reverse xs) 0 ≡ Some batch

first_there : (xs : List Batch) → 0 < length xs → First xs
first_there [] some = absurd (omega (arith, some))
first_there (x ∷ xs) some = record {
  batch = get_or (reverse (x ∷ xs)) 0 x;
  first = slice_get-get_or (reverse (x ∷ xs)) 0 x (subst (λ n. 0 < n) (sym (length-reverse (x ∷ xs))) some);
}

pub trying : (G : Ground) (T : Table) (old : Kept) (r : Runner) → HoldsTable old T → IsReady old r → 0 < length r.rest.items → r.running ≡ None → Trying G T old r
trying G T old r holds ready some running =
    let f = found old T r holds ready in
    let b = first_there r.rest.items some in record {
      held = f.held;
      among = f.among;
      is = f.is;
      batch = b.batch;
      first = b.first;
      kind = kind_first G T r f.held.entry.control b.batch running b.first f.at;
    }

-- all rows were tried: the entry's control, and the kind of the step
pub record Closing (G : Ground) (T : Table) (old : Kept) (r : Runner) : Type 0 where
  pub held : Held
  pub among : Contains (store old).entries held
  pub is : held.entry.id ≡ r.id
  pub kind : kind_in G T (holder_of r) ≡ kind_at_end G.config G.moment held.entry.control

pub closing : (G : Ground) (T : Table) (old : Kept) (r : Runner) → HoldsTable old T → IsReady old r → r.running ≡ None → r.rest.items ≡ [] → Closing G T old r
closing G T old r holds ready running rest =
    let f = found old T r holds ready in record {
      held = f.held;
      among = f.among;
      is = f.is;
      kind = kind_end G T r f.held.entry.control running rest f.at;
    }

-- memory is wanting before anything is tried
pub starved : (G : Ground) (T : Table) (old : Kept) (r : Runner) (s : Spooled) (sp : Spawned) (d : DialSeen) → Trying G T old r → Steps G T old old r r (bench s sp d) (bench s sp d) (Err stop.NoMemory)
starved G T old r s sp d t =
    exit_memory G T old old r r s s sp d (kind_by_route G.config G.maps r.id t.held.entry.control t.batch t.batch.resolved) t.kind
    (starved_route G.config G.moment T (holder_of r) G.maps r.id t.held.entry.control t.batch t.batch.resolved) (reads_itself s) refl

-- an answer that is of the next batch
pub of_first : (r : Runner) (answer : Result (List Peer) NoMemory) (X : List Peer) (Y : Batch → List Peer) → IfOk answer (λ peers. peers ≡ X) → ((batch : Batch) → slice_get (holder_of r).rest 0 ≡ Some batch → X ≡ Y batch)
    → IfOk answer (λ peers. (batch : Batch) → slice_get (holder_of r).rest 0 ≡ Some batch → peers ≡ Y batch)
of_first r (Ok peers) X Y is same = λ batch first. is ∙ same batch first
of_first r (Err e) X Y is same = tt
