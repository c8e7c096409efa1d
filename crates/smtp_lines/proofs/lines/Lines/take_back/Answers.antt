use Rattle.std.proofs.Common.{◌≡◌, List, ℕ, ◌≤◌, ◌+◌, ◌-◌, length, take, drop, ap, sym, subst, ◌∙◌, arith}
use Rattle.std.proofs.lemmas.List.{drop-take, length-drop}
use Rattle.smtp_lines.specs.Views.{under}
use Rattle.smtp_lines.specs.Reader.{Reader}
use Rattle.smtp_lines.proofs.lines.Lines.take_back.Goals as goal

pub returns : goal.returns
returns c =
    let inside = c.self.inside in
    let items = inside.left.items in
    let start = inside.start in
    let seen : Reader = record { under = under inside.begun; left = drop start items } in
    let view_is : seen ≡ c.args.self.now = c.self.view_is in
    let within : c.args.count ≤ length (drop start items) = subst (λ (r : Reader). c.args.count ≤ length r.left) (sym view_is) c.requires in
    let length_is = inside.left.ok.0 in
    let count : c.len.result - c.args.count ≡ start + (length (drop start items) - c.args.count) = omega (arith, length-drop start items, c.len.ensures, c.self.invariant, length_is) in
    let left : drop start c.truncate.new.self.items ≡ take (length (drop start items) - c.args.count) (drop start items) =
    ap (drop start) (c.truncate.ensures.items ∙ ap (λ n. take n items) count) ∙ drop-take start (length (drop start items) - c.args.count) items in
    let with_left = λ (x : List ℕ). let r : Reader = record { under = under inside.begun; left = x } in r in
    let P : Reader → Type 0 = λ r. with_left (drop start c.truncate.new.self.items) ≡ record { under = r.under; left = take (length r.left - c.args.count) r.left } in
    subst P view_is (ap with_left left)
