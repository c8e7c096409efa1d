use Rattle.std.proofs.Common.{◌≡◌, ◌+◌, ℕ, List, [], drop, Option, subst, arith}
use Rattle.std.proofs.lemmas.List.{drop_all}
use Rattle.mail_base.specs.declared.token.Token.{Token}
use Rattle.addr_test.specs.inner.Telling.{Tells}
use Rattle.addr_test.proofs.RunLemmas.{Completes, ahead_at, all_run, one_more, one_refused}
use Rattle.addr_test.proofs.runs.run_all.Goals as goal

pub returns-in-None : goal.returns-in-None
returns-in-None c =
    let maps = c.args.maps.now in
    let config = c.args.config.now in
    let names = c.args.names.now in
    let l = c.loop-name in
    let name = c.name-item.result in
    let ahead = ahead_at names l.name-index name (omega arith) c.name-item.is in
    one_refused maps config names (drop (l.name-index + 1) names) name c.args.start l.tokens l.text c.run_one.new.text
    (subst (λ (left : List (List ℕ)). Completes maps config names c.args.start l.text left l.tokens) ahead l.invariant)
    (subst (λ (given : Option (List Token)). Tells maps config name l.tokens given l.text c.run_one.new.text) c.in-None.is c.in_ok-given.ensures)

pub loop-name-preserved : goal.loop-name-preserved
loop-name-preserved c =
    let maps = c.args.maps.now in
    let config = c.args.config.now in
    let names = c.args.names.now in
    let l = c.loop-name in
    let name = c.name-item.result in
    let ahead = ahead_at names l.name-index name (omega arith) c.name-item.is in
    one_more maps config names (drop (l.name-index + 1) names) name c.args.start l.tokens c.in-Some.given l.text c.run_one.new.text
    (subst (λ (left : List (List ℕ)). Completes maps config names c.args.start l.text left l.tokens) ahead l.invariant)
    (subst (λ (given : Option (List Token)). Tells maps config name l.tokens given l.text c.run_one.new.text) c.in-Some.is c.in_ok-given.ensures)

pub returns : goal.returns
returns c =
    let names = c.args.names.now in
    let l = c.loop-name in
    let none : drop l.name-index names ≡ [] = drop_all l.name-index names (omega arith) in
    all_run c.args.maps.now c.args.config.now names (drop l.name-index names) c.args.start l.tokens l.text l.invariant none
