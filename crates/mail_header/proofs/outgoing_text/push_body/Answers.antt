use Rattle.std.proofs.Common.{◌≡◌, ◌+◌, ◌-◌, ◌++◌, take, drop, subst, sym, ap, ◌∙◌, arith}
use Rattle.std.proofs.lemmas.List.{take_rest}
use Rattle.mail_header.specs.inner.Ends.{EndsLine, ended_line}
use Rattle.mail_header.proofs.EndsLemmas.{IsWritten, written_more}
use Rattle.mail_header.proofs.outgoing_text.push_body.Goals as goal

pub lines-preserved : goal.lines-preserved
lines-preserved c =
    let body = c.args.body.now in
    let end = c.args.end.now in
    let place = c.lines.place in
    let feed = c.in-Some.feed in
    let size : place + feed - place ≡ feed = omega arith in
    let line = subst (λ t. EndsLine t feed) (take_rest body place) c.in-Some.ensures.some in
    subst (IsWritten end body c.args.text.now.items (place + (feed + 1))) (sym (c.in_ok-push_line.ensures ∙ ap (λ n. c.lines.text.items ++ ended_line end (take n (drop place body))) size)) (written_more end body c.args.text.now.items c.lines.text.items place feed c.lines.invariant line)
