-- Worked examples of R lines, under the operators that are there at first and without macros.
use Rattle.std.specs.Prelude.{◌≡◌, ℕ, List, [], ◌∷◌, codes, Option, Some, None, refl}
use Rattle.mail_base.specs.declared.token.Token.TheVariants.{Op}
use Rattle.mail_base.specs.declared.rule.Item.TheVariants.{One, More, Exact}
use Rattle.mail_base.specs.declared.rule.Piece.TheVariants.{Give, Cut}
use Rattle.mail_base.specs.declared.rule.Step.TheVariants.{Plain}
use Rattle.mail_base.specs.declared.rule.Go.TheVariants.{Return}
use Rattle.addr_tokens.specs.Scans.{most_tokens}
use Rattle.cf_macros.specs.Readings.{reading}
use Rattle.cf_macros.specs.Expansion.{value_in, followed}
use Rattle.cf_reader.specs.declared.fault.Fault.{Fault}
use Rattle.cf_reader.specs.declared.fault.Fault.TheVariants.{NoTab, BadPattern, TooManyMetas, BadReference}
use Rattle.cf_reader.specs.Rules.{fault_of_rule, rule_of}

abbrev fault : List ℕ → Option Fault
fault line = fault_of_rule line [] (codes ".:@[]")

pub eric : (fault (codes "$-:$+\t$@ $2 @ $1\tup\tside") ≡ None)
    × (rule_of (codes "$-:$+\t\t$@ $2 @ $1\tup\tside") [] (codes ".:@[]") ≡ record {
      left = One ∷ Exact (Op 58) ∷ More ∷ [];
      right = record { go = Return; steps = Plain (Cut 2) ∷ Plain (Give (Op 64)) ∷ Plain (Cut 1) ∷ [] };
    })
unfolding value_in followed reading most_tokens
eric = (refl, refl)

pub each_fault :
    (fault (codes "$*") ≡ Some NoTab) × (fault (codes "\t$1") ≡ Some NoTab)
    × (fault (codes "\"x\ty") ≡ Some BadPattern) × (fault (codes "x\t$*") ≡ Some BadPattern)
    × (fault (codes "$-\t$2") ≡ Some BadReference) × (fault (codes "$-\t$0") ≡ Some BadReference) × (fault (codes "$@\t$1") ≡ Some BadReference)
    × (fault (codes "$=w\t$1") ≡ None) × (fault (codes "$-\t$#x") ≡ None) × (fault (codes "$-\t$&x") ≡ None)
unfolding value_in followed reading most_tokens
each_fault = (refl, refl, refl, refl, refl, refl, refl, refl, refl, refl)

pub many_metas : (fault (codes "$@$@$@$@$@$@$@$@$@$@$@$@$@$@$@$@$@$@$@$@\tx") ≡ None) × (fault (codes "$@$@$@$@$@$@$@$@$@$@$@$@$@$@$@$@$@$@$@$@$:\tx") ≡ Some TooManyMetas)
unfolding value_in followed reading most_tokens
many_metas = (refl, refl)

-- of two faults the first in their order comes
pub first_of_two :
    (fault (codes "\"x") ≡ Some NoTab) × (fault (codes "$-\t$2 \"x") ≡ Some BadPattern)
    × (fault (codes "$@$@$@$@$@$@$@$@$@$@$@$@$@$@$@$@$@$@$@$@$@\t$>") ≡ Some BadPattern) × (fault (codes "$@$@$@$@$@$@$@$@$@$@$@$@$@$@$@$@$@$@$@$@$@\t$1") ≡ Some TooManyMetas)
    × (fault (codes "$-\t$2 $>x") ≡ Some BadReference)
unfolding value_in followed reading most_tokens
first_of_two = (refl, refl, refl, refl, refl)
