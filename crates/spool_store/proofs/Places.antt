-- Places of files apart.
use Rattle.std.proofs.Common.{◌≡◌, ◌⊎◌, inl, inr, ℕ, List, sym, ◌∙◌, ap}
use Rattle.mail_base.specs.declared.id.Kind.{Kind}
use Rattle.mail_base.specs.declared.id.Kind.TheVariants.{Df, Qf, Tf, Sf}
use Rattle.spool_store.specs.Queue.{at}
use Rattle.mail_base.specs.Names.{name_of}
use Rattle.mail_base.specs.Limits.{IsId}
use Rattle.spool_disk.specs.Disk.{Place}
use Rattle.mail_base.proofs.FileNames.{same_kind, same_number}

pub names_of : (d e : List ℕ) (k j : Kind) (n m : ℕ) → at d k n ≡ at e j m → name_of k n ≡ name_of j m
names_of d e k j n m q = ap (λ (r : Place). r.1) q

-- equal places are of one kind
pub kinds_of : (d e : List ℕ) (k j : Kind) (n m : ℕ) → at d k n ≡ at e j m → k ≡ j
kinds_of d e k j n m q = same_kind k j n m (names_of d e k j n m q)

-- equal places are of one id
pub ids_of : (d e : List ℕ) (k j : Kind) (n m : ℕ) → IsId n → IsId m → at d k n ≡ at e j m → n ≡ m
ids_of d e k j n m a b q = same_number k j n m a b (names_of d e k j n m q)

-- a control file's place is no other spot's, and no body's, and no draft's
pub not_kind : (k : Kind) → (k ≡ Qf) ⊎ (k ≡ Sf) → (k ≡ Df → ⊥) × (k ≡ Tf → ⊥)
not_kind k (inl q) = (λ e. cc (sym q ∙ e), λ e. cc (sym q ∙ e))
not_kind k (inr q) = (λ e. cc (sym q ∙ e), λ e. cc (sym q ∙ e))
