use Rattle.std.proofs.Common.{◌≡◌, ◌+◌, ◌-◌, take, drop, sym, ap, subst, ◌∙◌, arith}
use Rattle.std.proofs.lemmas.List.{take_rest}
use Rattle.mail_header.specs.inner.Added.{header_added}
use Rattle.mail_header.specs.inner.Wholes.{BeginsLine}
use Rattle.mail_header.proofs.WholeLemmas.{ReadsHeaders, reads_none, reads_more}
use Rattle.mail_header.proofs.whole.split_text.Goals as goal

pub lines-init : goal.lines-init
lines-init c = subst (ReadsHeaders c.args.text.now 0) (sym c.new-headers.ensures) (reads_none c.args.text.now)

pub lines-preserved : goal.lines-preserved
lines-preserved c =
    let text = c.args.text.now in
    let place = c.lines.place in
    let end = c.in-Some.end in
    let size : place + end - place ≡ end = omega arith in
    let begins = subst (λ b. BeginsLine b (drop place text) end) c.has_some.ensures (subst (λ t. BeginsLine c.has_some.result t end) (take_rest text place) c.in-Some.ensures.some) in
    subst (ReadsHeaders text (place + (end + 2))) (sym (c.in_ok-add_header_line.ensures.ok ∙ ap (λ n. header_added (take n (drop place text)) c.lines.headers) size)) (reads_more text place end c.lines.headers c.lines.invariant begins)
