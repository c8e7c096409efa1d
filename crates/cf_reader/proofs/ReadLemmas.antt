-- A rule from its two sides.
use Rattle.std.proofs.Common.{◌≡◌, ℕ, List, false, Option, Some, Result, sym, ◌∙◌, subst}
use Rattle.std.proofs.lemmas.Bool.{cond-false}
use Rattle.mail_base.specs.declared.rule.Rule.{Rule}
use Rattle.addr_tokens.specs.declared.lexeme.Lexeme.{Lexeme}
use Rattle.cf_reader.specs.declared.fault.Fault.{Fault}
use Rattle.cf_reader.specs.declared.fault.Fault.TheVariants.{NoTab}
use Rattle.cf_reader.specs.declared.fault.LineStop.{LineStop}
use Rattle.cf_reader.specs.Reads.{first_fault}
use Rattle.cf_reader.specs.inner.Readings.{Reads}
use Rattle.cf_reader.specs.Sides.{left_of, right_of, lexemes_in}
use Rattle.cf_reader.specs.Rules.{lacks_tab, sides, rule_in, faults_in, fault_of_rule, rule_of}

-- a line with a tab, whose two sides were cut into lexemes, is read as its rule or its first fault
pub rule_read : (line : List ℕ) (macros : List (List ℕ × List ℕ)) (operators : List ℕ) (left right : Option (List Lexeme)) (result : Result Rule LineStop) → lacks_tab line ≡ false
    → lexemes_in macros operators (left_of line) ≡ left → lexemes_in macros operators (right_of line) ≡ right
    → Reads result (first_fault (faults_in (sides left right))) (rule_in (sides left right)) → Reads result (fault_of_rule line macros operators) (rule_of line macros operators)
rule_read line macros operators left right result tab l r reads =
    let fault : fault_of_rule line macros operators ≡ first_fault (faults_in (sides left right)) =
    cond-false (lacks_tab line) (Some NoTab) (first_fault (faults_in (sides (lexemes_in macros operators (left_of line)) (lexemes_in macros operators (right_of line))))) tab ∙ (λ i. first_fault (faults_in (sides (l i) (r i)))) in
    let rule : rule_of line macros operators ≡ rule_in (sides left right) = λ i. rule_in (sides (l i) (r i)) in
    subst (λ (f : Option Fault). Reads result f (rule_of line macros operators)) (sym fault) (subst (λ (v : Rule). Reads result (first_fault (faults_in (sides left right))) v) (sym rule) reads)
