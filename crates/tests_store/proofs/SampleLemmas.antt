-- The samples can be committed.
use Rattle.std.proofs.Common.{◌≡◌, ℕ, List, [], ◌∷◌, ◌++◌, None, Option, Some, Result, Ok, Err, sym, subst}
use Rattle.std.specs.Prelude.{All, Contains, IfOk, IfSome, OnOk}
use Rattle.std.proofs.lemmas.List.Elements.{All-push, Contains-push}
use Rattle.mail_base.specs.declared.control.Control.{Control}
use Rattle.mail_base.specs.declared.control.Draft.{Draft}
use Rattle.mail_base.specs.declared.fault.StoreFault.{StoreFault}
use Rattle.qf_format.specs.Valid.{IsValid}
use Rattle.spool_disk.specs.Disk.{FileMap}
use Rattle.spool_store.specs.Parcels.{CanPrepare, IsParcel, IsReady}
use Rattle.spool_store.specs.Stores.{Agrees, StoreSeen}
use Rattle.spool_store.specs.declared.parcel.Parcel.{Parcel}
use Rattle.spool_store.specs.Writes.{IsDraftable}
use Rattle.spool_store.proofs.Numbering.{valid_with}
use Rattle.tests_store.specs.Samples.{sample_dir, sample_dirs}

pub placed : (dir : List ℕ) → dir ≡ sample_dir → Contains sample_dirs dir
placed dir d = subst (λ (q : List ℕ). Contains sample_dirs q) (sym d) (Contains-push [] sample_dir)

-- a control that is no child's
pub alone_valid : (c : Control) → IsValid c → IsValid (record c { parent = None })
alone_valid c v = valid_with c.revision None c v.revision_range tt v

pub draftable : (dir : List ℕ) (c : Control) → dir ≡ sample_dir → IsValid c → IsDraftable sample_dirs (record { id = None; dir = dir; control = record c { parent = None } })
draftable dir c d v = record { among = placed dir d; valid = alone_valid c v }

-- of its room nothing is said
pub room_agrees : (o : Option FileMap) (s t : StoreSeen) → t ≡ record s { room = t.room } → IfSome o (Agrees s) → IfSome o (Agrees t)
room_agrees None s t e h = tt
room_agrees (Some f) s t e h = subst (λ (q : StoreSeen). Agrees q f) (sym e) (record { each = h.each; all = h.all; strange = h.strange; tidy = h.tidy })

-- what can be made ready, and is
pub can_prepare : (dirs : List (List ℕ)) (children : List Draft) (parent : Draft) → dirs ≡ sample_dirs → All (IsDraftable sample_dirs) children → IsDraftable sample_dirs parent → parent.control.parent ≡ None → CanPrepare dirs children parent
can_prepare dirs children parent e each head alone = subst (λ (q : List (List ℕ)). CanPrepare q children parent) (sym e) (record { each = each; head = head; alone = alone })

pub ready_ok : (r : Result Parcel StoreFault) (store : StoreSeen) (children : List Draft) (parent : Draft) (body : List ℕ) → IfOk r (IsParcel store children parent body) → IfOk r (IsReady store)
ready_ok (Ok parcel) store children parent body is = record { children = children; parent = parent; body = body; is = is }
ready_ok (Err e) store children parent body is = tt

-- one more
pub pushed : {E : Type 0} (r : Result (Unit {0}) E) (old new : List Draft) (o : Option Draft) (x : Draft) → OnOk r (new ≡ old ++ x ∷ []) → IfSome o (IsDraftable sample_dirs) → o ≡ Some x → All (IsDraftable sample_dirs) old → OnOk r (All (IsDraftable sample_dirs) new)
pushed (Ok u) old new o x e can is all = subst (All (IsDraftable sample_dirs)) (sym e) (All-push (IsDraftable sample_dirs) old x all (subst (λ (q : Option Draft). IfSome q (IsDraftable sample_dirs)) is can))
pushed (Err e) old new o x made can is all = tt
