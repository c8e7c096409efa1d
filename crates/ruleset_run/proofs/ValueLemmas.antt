-- The macros of a run, and what their `$&x` stand for.
use Rattle.std.proofs.Common.{◌≡◌, ℕ, List, Bool, true, false, Option, Some, bytes_eq, refl, sym, ◌∙◌, ap}
use Rattle.std.proofs.lemmas.Slice.Eq.{bytes_eq-Decides}
use Rattle.mail_base.specs.declared.token.Token.{Token}
use Rattle.mail_base.specs.Catalogs.{value_at, SetsValue}
use Rattle.ruleset_run.specs.Sites.{Macros}
use Rattle.ruleset_run.specs.Cutting.{late_tokens}
use Rattle.ruleset_run.specs.inner.Values.{AreCuts}

-- ---- what was cut

-- kept cuts stay those of the macros' values when one more is kept
pub cuts_more : (operators : List ℕ) (macros : Macros) (name : List ℕ) (tokens : Option (List Token)) (old new : List (List ℕ × Option (List Token))) → AreCuts operators macros old → SetsValue name (Some tokens) old new
    → tokens ≡ late_tokens operators macros name → AreCuts operators macros new
cuts_more operators macros name tokens old new are sets is other given at = by (bytes_eq other name) refl
  where
    by : (b : Bool) → bytes_eq other name ≡ b → given ≡ late_tokens operators macros other
    by true e =
        let same : other ≡ name = (bytes_eq-Decides other name).0 e in
        let there : Some given ≡ Some tokens = sym at ∙ ap (λ q. value_at q new) same ∙ sets.value in
        let g : given ≡ tokens = cc there in
        g ∙ is ∙ ap (late_tokens operators macros) (sym same)
    by false e = are other given (sym (sets.others other (λ same. absurd (cc (e, (bytes_eq-Decides other name).1 same)))) ∙ at)
