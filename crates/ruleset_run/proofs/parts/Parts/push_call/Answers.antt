use Rattle.std.proofs.Common.{[], ◌∷◌, refl, sym, ◌∙◌, ap, length, arith}
use Rattle.ruleset_run.specs.Filling.{OneCall}
use Rattle.ruleset_run.proofs.FillLemmas.{gain_long, gain_call_on}
use Rattle.ruleset_run.proofs.parts.Parts.push_call.Goals as goal

pub returns-then-self : goal.returns-then-self
returns-then-self c = gain_long c.args.self.now c.args.self.now (OneCall ∷ []) c.if-self.true refl

pub returns-then-is_empty : goal.returns-then-is_empty
returns-then-is_empty c =
    let none = c.if-is_empty.ensures.0 refl in
    gain_call_on c.args.self.now c.if-self.false c.push.result c.push.new.self c.new.result c.args.self.now.last c.args.self.now.count (c.new.ensures ∙ sym none) none (λ few. omega (arith, ap length none)) c.push.ensures.ok

pub returns : goal.returns
returns c =
    gain_call_on c.args.self.now c.if-self.false c.push-2.result c.push-2.new.self c.replace-front.result c.replace-front.new.dest c.saturating_add-self.result c.replace-front.ensures.value (c.replace-front.ensures.after ∙ c.new-2.ensures) (λ few. omega (arith, few, c.saturating_add-self.ensures, c.len.ensures, ap length c.replace-front.ensures.value)) c.push-2.ensures.ok
