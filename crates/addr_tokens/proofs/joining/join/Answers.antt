use Rattle.std.proofs.Common.{◌≤◌, ◌++◌, length, sym, ◌∙◌, ap, arith}
use Rattle.std.proofs.lemmas.List.{append-nil, drop_all}
use Rattle.addr_tokens.specs.inner.Joining.{joined_on}
use Rattle.addr_tokens.proofs.JoinLemmas.{joined_from_left}
use Rattle.addr_tokens.proofs.joining.join.Goals as goal

pub returns : goal.returns
returns c =
    let past : length c.args.tokens.now ≤ c.tokens.token-index = omega (arith, ap length c.items-token-items.ensures) in
    sym (append-nil c.tokens.text)
    ∙ ap (λ ts. c.tokens.text ++ joined_on c.tokens.after c.args.blank ts) (sym (drop_all c.tokens.token-index c.args.tokens.now past))
    ∙ c.tokens.invariant ∙ joined_from_left c.args.blank c.args.tokens.now
