use Rattle.std.proofs.Common.{sym, ◌∙◌}
use Rattle.std.proofs.lemmas.Result.{IfOk-weaker}
use Rattle.addr_tokens.proofs.DollarLemmas.{undoubled_none}
use Rattle.addr_tokens.proofs.given.undoubled.Goals as goal

pub returns-then-not-holds_dollar : goal.returns-then-not-holds_dollar
returns-then-not-holds_dollar c = IfOk-weaker c.of.result _ _ (λ text is. is ∙ sym (undoubled_none c.args.bytes.now (sym c.holds_dollar.ensures ∙ c.if-not-holds_dollar.true))) c.of.ensures
