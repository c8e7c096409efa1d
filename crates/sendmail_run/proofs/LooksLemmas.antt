-- Calls that only read, joined.
use Rattle.std.proofs.Common.{◌≡◌, inl, inr, ⊎_elim, ℕ, Result, Ok, Err, refl, sym, ◌∙◌, subst}
use Rattle.std.specs.Prelude.{IsErrOf}
use Rattle.std.proofs.Math.Nat.{le_refl, le_trans}
use Rattle.mail_base.specs.Histories.{Rose}
use Rattle.mail_base.specs.declared.fault.StoreFault.{StoreFault}
use Rattle.mail_base.specs.declared.fault.StoreFault.TheVariants.{SpoolFault, IdsSpent}
use Rattle.spool_disk.specs.Spooled.{Spooled}
use Rattle.spool_store.specs.inner.Looks.{Looks}
use Rattle.spool_store.proofs.OpenLemmas.{reads_none, reads_join}

-- no call was made
pub looks_none : {T : Type 0} (a : Spooled) (x : T) → Looks {T = T} a a (Ok x)
looks_none a x = record { reads = reads_none a; later = le_refl a.faults; never = λ e. cc e; cause = λ e. absurd (cc e); calm = inr refl }

-- after calls that went well the count of faults is as before
pub calm_ok : {T : Type 0} {a b : Spooled} (x : T) → Looks {T = T} a b (Ok x) → b.faults ≡ a.faults
calm_ok x h = ⊎_elim (λ e. absurd (cc e)) (λ same. same) h.calm

-- calls that went well and those after them are calls together
pub looks_then : {T U : Type 0} (a b c : Spooled) (x : T) (r : Result U StoreFault) → Looks {T = T} a b (Ok x) → Looks {T = U} b c r → Looks {T = U} a c r
looks_then {T = T} {U = U} a b c x r h k =
    let same : b.faults ≡ a.faults = calm_ok x h in
    record {
      reads = reads_join a b c h.reads k.reads;
      later = le_trans h.later k.later;
      never = k.never;
      cause = λ e. subst (λ (n : ℕ). Rose n c.faults) same (k.cause e);
      calm = ⊎_elim (λ (e : IsErrOf r SpoolFault). inl e) (λ (e : c.faults ≡ b.faults). inr (e ∙ same)) k.calm;
    }

-- the same fault of another call
pub looks_err : {T U : Type 0} (a b : Spooled) (e : StoreFault) (r : Result U StoreFault) → r ≡ Err e → Looks {T = T} a b (Err e) → Looks {T = U} a b r
looks_err {T = T} {U = U} a b e r is h = subst (Looks {T = U} a b) (sym is) (record {
  reads = h.reads;
  later = h.later;
  never = λ (q : IsErrOf {T = U} (Err e) IdsSpent). h.never (cc q);
  cause = λ (q : IsErrOf {T = U} (Err e) SpoolFault). h.cause (cc q);
  calm = ⊎_elim (λ (q : IsErrOf {T = T} (Err e) SpoolFault). inl (cc q)) (λ (q : b.faults ≡ a.faults). inr q) h.calm;
})
