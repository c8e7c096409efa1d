use Rattle.std.proofs.Common.{◌≡◌, drop, refl, ap, sym, subst, ◌∙◌}
use Rattle.smtp_lines.specs.Views.{under}
use Rattle.smtp_lines.specs.Reader.{Reader, Stands}
use Rattle.smtp_lines.proofs.StandLemmas.{stands_at, stands_refused}
use Rattle.smtp_lines.proofs.lines.Lines.refuse.Goals as goal

pub returns-clause-stands : goal.returns-clause-stands
returns-clause-stands c =
    λ s st.
    let inside = c.self.inside in
    let seen : Reader = record { under = under inside.begun; left = drop inside.start inside.left.items } in
    let view_is : seen ≡ c.args.self.now = c.self.view_is in
    let before : Stands seen s = subst (λ r. Stands r s) (sym view_is) st in
    stands_at _ _ _ _ _ c.refuse.ensures refl (stands_refused seen s (ap (λ (r : Reader). r.under.may_turn) view_is ∙ c.requires) before)
