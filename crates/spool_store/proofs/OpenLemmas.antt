-- Calls that only read.
use Rattle.std.proofs.Common.{◌≡◌, inl, inr, ⊎_elim, Option, Some, None, refl, sym, ◌∙◌, subst}
use Rattle.std.proofs.Math.Nat.{le_refl, le_trans}
use Rattle.spool_disk.specs.Disk.{FileMap}
use Rattle.spool_disk.specs.Spooled.{Spooled, Leads, Reads, Rests}
use Rattle.spool_store.proofs.MovesLemmas.{leads_told}

-- what is told stays
pub reads_told : (a b : Spooled) → Reads a b → b.told ≡ a.told
reads_told a b h = leads_told a.told b.told h.now

same_leads : (a : Option FileMap) → Leads a a Rests Rests (Unit {0})
same_leads None = tt
same_leads (Some f) = (refl, λ w. refl)

told_leads : (a b : Option FileMap) → b ≡ a → Leads a b Rests Rests (Unit {0})
told_leads a b e = subst (λ (q : Option FileMap). Leads a q Rests Rests (Unit {0})) (sym e) (same_leads a)

-- no call reads only
pub reads_none : (a : Spooled) → Reads a a
reads_none a = record { later = le_refl a.moment; now = same_leads a.told; images = λ f e t x le left. inl left; kept = λ t x left. left }

-- calls that only read, one after the other, only read
pub reads_join : (a b c : Spooled) → Reads a b → Reads b c → Reads a c
reads_join a b c h k = record {
  later = le_trans h.later k.later;
  now = told_leads a.told c.told (reads_told b c k ∙ reads_told a b h);
  images = λ f e t x le left. ⊎_elim (h.images f e t x le) (λ i. inr i) (k.images f (reads_told a b h ∙ e) t x (le_trans le h.later) left);
  kept = λ t x left. k.kept t x (h.kept t x left);
}
