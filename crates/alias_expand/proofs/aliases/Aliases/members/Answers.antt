use Rattle.std.proofs.Common.{◌≡◌, List, ap, sym, subst, ◌∙◌}
use Rattle.std.specs.Prelude.{option_map}
use Rattle.std.specs.List.{find}
use Rattle.mail_base.specs.Places.{IsIndexed}
use Rattle.alias_expand.specs.Aliases.{has_name}
use Rattle.alias_expand.specs.declared.aliases.Alias.{Alias}
use Rattle.alias_expand.proofs.AliasLemmas.{found_has}
use Rattle.alias_expand.proofs.aliases.Aliases.members.Goals as goal

pub returns-in-Some-clause-members : goal.returns-in-Some-clause-members
returns-in-Some-clause-members c =
    let lines : c.items.result.now ≡ c.self.inside.lines = c.items.ensures in
    let found = c.in-Some.ensures (subst (λ (shown : List Alias). IsIndexed has_name shown c.self.inside.places) (sym lines) c.self.invariant.indexed) in
    ap (option_map (λ (alias : Alias). alias.members)) (found ∙ ap (find (has_name c.args.name.now)) (lines ∙ c.self.view_is))

pub returns-in-Some-clause-each : goal.returns-in-Some-clause-each
returns-in-Some-clause-each c =
    let lines : c.items.result.now ≡ c.self.inside.lines = c.items.ensures in
    let found = c.in-Some.ensures (subst (λ (shown : List Alias). IsIndexed has_name shown c.self.inside.places) (sym lines) c.self.invariant.indexed) in
    found_has c.args.name.now c.in-Some.alias.now c.self.inside.lines (found ∙ ap (find (has_name c.args.name.now)) lines) c.self.invariant.each

pub returns-in-None-clause-members : goal.returns-in-None-clause-members
returns-in-None-clause-members c =
    let lines : c.items.result.now ≡ c.self.inside.lines = c.items.ensures in
    let found = c.in-None.ensures (subst (λ (shown : List Alias). IsIndexed has_name shown c.self.inside.places) (sym lines) c.self.invariant.indexed) in
    ap (option_map (λ (alias : Alias). alias.members)) (found ∙ ap (find (has_name c.args.name.now)) (lines ∙ c.self.view_is))
