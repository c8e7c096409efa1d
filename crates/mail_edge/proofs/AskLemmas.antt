-- Files that are asked more than once.
use Rattle.std.proofs.Common.{◌≡◌, ℕ, Bool, false, refl, subst, ◌∙◌, arith}
use Rattle.mail_base.specs.Histories.{Rose}
use Rattle.mail_edge.specs.Asking.{Asks}
use Rattle.mail_edge.specs.Seen.{FilesSeen}

-- nothing that is asked leaves files as they are
pub asks_none : (files : FilesSeen) → Asks files files false
asks_none files = record { fixed = refl; later = omega arith; rose = λ f. absurd (cc f); calm = λ f. refl }

-- what is asked one after the other, if only the last failed
pub asks_join : (a b c : FilesSeen) (failed : Bool) → Asks a b false → Asks b c failed → Asks a c failed
asks_join a b c failed ab bc =
    let same : b.faults ≡ a.faults = ab.calm refl in record {
      fixed = bc.fixed ∙ ab.fixed;
      later = omega (arith, ab.later, bc.later);
      rose = λ f. subst (λ (n : ℕ). Rose n c.faults) same (bc.rose f);
      calm = λ f. bc.calm f ∙ same;
    }
