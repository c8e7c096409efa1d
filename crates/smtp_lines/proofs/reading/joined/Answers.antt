use Rattle.std.proofs.Common.{◌-◌, length, take, ◌++◌, ap, sym, ◌∙◌}
use Rattle.std.proofs.lemmas.List.{take_min}
use Rattle.smtp_lines.proofs.LineLemmas.{take_joined}
use Rattle.smtp_lines.proofs.reading.joined.Goals as goal

pub returns : goal.returns
returns c =
    let front = c.args.front.now in
    let back = c.args.back.now in
    let room = c.args.most - length front in
    c.in_ok-extend_from_slice-2.ensures.items
    ∙ ap (λ x. x ++ take c.min-more.result back) (c.in_ok-extend_from_slice.ensures.items ∙ ap (λ x. x ++ front) c.in_ok-bytes.ensures.items)
    ∙ ap (λ n. front ++ take n back) c.min-more.ensures
    ∙ ap (λ x. front ++ x) (take_min room back)
    ∙ sym (take_joined front back c.args.most c.if-most-front.false)
