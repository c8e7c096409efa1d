use Rattle.std.proofs.Common.{◌≡◌, ℕ, List, Some, false, sym, ◌∙◌, ap, rules}
use Rattle.cf_reader.specs.Sides.{lexemes_in}
use Rattle.cf_reader.specs.Rules.{lacks_tab}
use Rattle.cf_reader.proofs.ReadLemmas.{rule_read}
use Rattle.cf_reader.proofs.rules.rule.Goals as goal

pub returns : goal.returns
returns c =
    let tab : lacks_tab c.args.line.now ≡ false = search rules in
    let cut : List ℕ → _ = lexemes_in c.args.macros.now c.args.operators.now in
    rule_read c.args.line.now c.args.macros.now c.args.operators.now (Some c.items.result.now) (Some c.items-2.result.now) c.rule_in.result tab
    (ap cut (sym c.left_of.ensures) ∙ c.in_ok-left.ensures ∙ ap (λ (lexemes : _). Some lexemes) (sym c.items.ensures))
    (ap cut (sym c.right_of.ensures) ∙ c.in_ok-right.ensures ∙ ap (λ (lexemes : _). Some lexemes) (sym c.items-2.ensures))
    c.rule_in.ensures
