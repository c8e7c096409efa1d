use Rattle.std.proofs.Common.{◌&&◌, drop, sym, ◌∙◌, ap}
use Rattle.std.proofs.lemmas.List.{take_rest}
use Rattle.addr_tokens.specs.Pieces.{means, is_doubled}
use Rattle.addr_tokens.specs.Reader.{begins_dollar, first_dollar}
use Rattle.addr_tokens.proofs.DollarLemmas.{pair_is, meant_is, unlisted_is, construct_front}
use Rattle.addr_tokens.proofs.front.dollar_of.Goals as goal

pub returns-then-is_doubled-clause-read : goal.returns-then-is_doubled-clause-read
returns-then-is_doubled-clause-read c = λ alphabet table.
    let after = take_rest c.args.text.now 1 in
    let two = ap (λ x. begins_dollar x && is_doubled alphabet) (sym after) ∙ sym (c.is_doubled.ensures.value alphabet table) ∙ c.if-is_doubled.true in
    pair_is alphabet c.args.place c.args.text.now c.requires.some c.requires.first two ∙ c.run_of.ensures.read alphabet table

pub returns-then-means-clause-read : goal.returns-then-means-clause-read
returns-then-means-clause-read c = λ alphabet table.
    let after = take_rest c.args.text.now 1 in
    let one = ap (λ x. begins_dollar x && is_doubled alphabet) (sym after) ∙ sym (c.is_doubled.ensures.value alphabet table) ∙ c.if-is_doubled.false in
    let meant = ap (λ d. means d (drop 1 c.args.text.now)) (sym table.means) ∙ ap (means c.args.table.now.dollars) (sym after) ∙ sym c.means.ensures ∙ c.if-means.true in
    meant_is alphabet c.args.place c.args.text.now c.requires.some c.requires.first one meant
    ∙ ap (first_dollar alphabet c.args.place) (sym after) ∙ c.in_ok-construct.ensures.read alphabet table ∙ construct_front c.args.text.now _ c.in_ok-construct.construct after

pub returns-clause-read : goal.returns-clause-read
returns-clause-read c = λ alphabet table.
    let after = take_rest c.args.text.now 1 in
    let one = ap (λ x. begins_dollar x && is_doubled alphabet) (sym after) ∙ sym (c.is_doubled.ensures.value alphabet table) ∙ c.if-is_doubled.false in
    let none = ap (λ d. means d (drop 1 c.args.text.now)) (sym table.means) ∙ ap (means c.args.table.now.dollars) (sym after) ∙ sym c.means.ensures ∙ c.if-means.false in
    unlisted_is alphabet c.args.place c.args.text.now c.requires.some c.requires.first one none (sym (c.is_listed.ensures alphabet table) ∙ c.if-is_listed.false) ∙ c.run_of-2.ensures.read alphabet table
