use Rattle.std.proofs.Common.{◌≡◌, ◌++◌, ◌-◌, [], List, ℕ, length, take, drop, ap, sym, subst, ◌∙◌}
use Rattle.std.specs.Result.{is_ok}
use Rattle.std.proofs.lemmas.Bool.{cond-true}
use Rattle.std.proofs.lemmas.List.{take_rest}
use Rattle.smtp_lines.specs.Views.{under}
use Rattle.smtp_lines.specs.Reader.{Reader, Stands, given, received}
use Rattle.smtp_lines.proofs.StandLemmas.{stands_given, stands_received}
use Rattle.smtp_lines.proofs.lines.Lines.feed_alone.Goals as goal

pub returns-clause-stands : goal.returns-clause-stands
returns-clause-stands c =
    λ s st.
    let inside = c.self.inside in
    let piece = c.args.piece.now in
    let seen : Reader = record { under = under inside.begun; left = drop inside.start inside.left.items } in
    let view_is : seen ≡ c.args.self.now = c.self.view_is in
    let nothing_left : seen.left ≡ [] = ap (λ (r : Reader). r.left) view_is ∙ c.requires in
    let fed : Reader = record { under = under inside.begun; left = piece } in
    let Q : List ℕ → Type 0 = λ x. Stands (record { under = under inside.begun; left = x }) (received s piece) in
    let before : Stands fed (received s piece) =
    subst Q (ap (λ x. x ++ piece) nothing_left) (stands_received seen s piece (subst (λ r. Stands r s) (sym view_is) st)) in
    let lines = c.in_ok-lines.lines in
    let used = c.in_ok-lines.used in
    let now : Reader = record { under = under c.take.new.self; left = c.extend_from_slice.new.self.items } in
    let room = c.reserve.new.self.items in
    let slice = take (length piece - used) (drop used piece) in
    let kept : c.extend_from_slice.new.self.items ≡ drop used piece =
    c.extend_from_slice.ensures.items
    ∙ cond-true (is_ok c.extend_from_slice.result) (room ++ slice) room (ap is_ok c.unwrap.ensures)
    ∙ ap (λ x. x ++ slice) (c.in_ok-reserve.ensures.items ∙ c.clear.ensures.items)
    ∙ take_rest piece used in
    subst (λ (r : Reader). Stands now (given r.under.may_turn (received s piece) lines)) view_is
    (stands_given fed now (received s piece) lines used before (c.in_ok-lines.ensures.takes before.begun before.holds) kept)
