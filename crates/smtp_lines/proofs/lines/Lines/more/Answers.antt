use Rattle.std.proofs.Common.{◌≡◌, ◌+◌, List, ℕ, drop, ap, sym, subst, ◌∙◌}
use Rattle.std.proofs.lemmas.List.{take_rest, drop-drop}
use Rattle.smtp_lines.specs.Views.{under}
use Rattle.smtp_lines.specs.Reader.{Reader, Stands, given}
use Rattle.smtp_lines.specs.inner.Readings.{Takes}
use Rattle.smtp_lines.proofs.StandLemmas.{stands_given}
use Rattle.smtp_lines.proofs.lines.Lines.more.Goals as goal

pub returns-clause-stands : goal.returns-clause-stands
returns-clause-stands c =
    λ s st.
    let inside = c.self.inside in
    let seen : Reader = record { under = under inside.begun; left = drop inside.start inside.left.items } in
    let view_is : seen ≡ c.args.self.now = c.self.view_is in
    let before : Stands seen s = subst (λ r. Stands r s) (sym view_is) st in
    let lines = c.in_ok-lines.lines in
    let used = c.in_ok-lines.used in
    let now : Reader = record { under = under c.take.new.self; left = drop (inside.start + used) inside.left.items } in
    let P : List ℕ → Type 0 = λ x. Takes (under inside.begun) (under c.take.new.self) before.begun x lines used in
    let takes = subst P (take_rest c.deref.result.now inside.start ∙ ap (drop inside.start) c.deref.ensures.value) (c.in_ok-lines.ensures.takes before.begun before.holds) in
    subst (λ (r : Reader). Stands now (given r.under.may_turn s lines)) view_is
    (stands_given seen now s lines used before takes (sym (drop-drop used inside.start inside.left.items)))
