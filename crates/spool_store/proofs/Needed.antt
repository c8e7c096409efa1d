-- Why a map between calls must have no dead control file: a stopped commit with an old parent
-- leaves one that stands for the table before, and a replace would make its children live.
use Rattle.std.proofs.Common.{◌≡◌, ℕ, ◌<◌, List, Some, arith, Contains}
use Rattle.std.specs.Prelude.{All}
use Rattle.std.proofs.lemmas.List.Elements.{All-contains}
use Rattle.mail_base.specs.declared.id.Kind.{Kind}
use Rattle.mail_base.specs.declared.id.Kind.TheVariants.{Df, Qf}
use Rattle.spool_store.specs.Queue.{at}
use Rattle.mail_base.specs.Limits.{IsId}
use Rattle.spool_disk.specs.Disk.{FileMap, bytes_at, IsSameBut}
use Rattle.mail_base.specs.declared.control.Control.{Control}
use Rattle.mail_base.specs.declared.control.Parent.{Parent}
use Rattle.qf_format.specs.Spelling.{spelled}
use Rattle.spool_store.specs.Entries.{Stored, Table}
use Rattle.spool_store.specs.Settled.{spot_of, StandsFor, IsSettled}
use Rattle.spool_store.specs.Changes.{control_place, body_at, IsNew}
use Rattle.mail_base.specs.declared.control.Draft.{Draft}
use Rattle.spool_store.specs.Writes.{stored, head_of, children_of, after_commit, AreHeirs, IsOld, AreWritten}
use Rattle.spool_store.proofs.Places.{ids_of}
use Rattle.spool_store.proofs.Carrying.{live_read}
use Rattle.spool_store.proofs.Numbering.{numbered_new}
use Rattle.spool_store.proofs.Stages.{put_before, put_same, holds_same}
use Rattle.spool_store.proofs.Adding.{live_named}
use Rattle.spool_store.proofs.Committing.{old_head, old_before, old_settled}

pub whole_is_needed : (dirs : List (List ℕ)) (table : Table) (children : List Draft) (parent : Draft) (old : Control) (id : ℕ) (b : List ℕ) (f m g : FileMap) → AreHeirs dirs table.next children parent → IsOld dirs f id parent old → old.revision < parent.control.revision → IsSettled dirs table f
    → AreWritten (children_of table.next children parent b (Some id)) f m → bytes_at g (control_place (stored id b parent)) ≡ Some (spelled parent.control) → IsSameBut (control_place (stored id b parent)) m g
    → StandsFor dirs table m × StandsFor dirs (after_commit table children parent b (Some id)) g
whole_is_needed dirs table children parent old id b f m g able is lower settled w holds others =
    let s : Stored = stored id b parent in
    let p : Parent = head_of table.next parent (Some id) in
    let rest : List Stored = children_of table.next children parent b (Some id) in
    let lt : id < table.next = settled.tidy.fresh id (live_named dirs f (spot_of Qf s) old is.live) in
    let within : IsId id = (live_read is.live).there.spot.within in
    let new : All (IsNew dirs table.next) rest = numbered_new dirs table.next table.next b p children (old_head dirs table.next id children parent able lt) (omega arith) able.room able.each in
    let apart = λ (t : Stored) (k : Contains rest t) (j : Kind) (e : at t.dir j t.id ≡ control_place s). let n = All-contains (IsNew dirs table.next) rest t new k in let i : t.id ≡ id = ids_of t.dir parent.dir j Qf t.id id n.within within e in let z : ⊥ = omega (arith, i, n.free, lt) in z in (
      old_before dirs table (λ q. ⊥) children parent old id b f m able is lower (λ q. put_before table.next (λ r. ⊥) rest rest f m q (λ t k. let n = All-contains (IsNew dirs table.next) rest t new k in (k, n.free, n.within)) (w.at q)) settled,
      (old_settled dirs table children parent old id b f g able is (record {
        at = λ q ne. put_same rest f m g q (others q ne) (w.at q);
        holds = holds_same rest m g (λ t k. others (control_place t) (apart t k Qf)) (λ t k. others (body_at t) (apart t k Df)) w.holds;
        control = holds;
      }) settled).stands,
    )
