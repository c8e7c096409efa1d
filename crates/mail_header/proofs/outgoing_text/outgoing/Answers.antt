use Rattle.std.proofs.Common.{◌++◌, ap, ◌∙◌}
use Rattle.mail_header.specs.Outgoing.{from_line, with_ends}
use Rattle.mail_header.proofs.EndsLemmas.{put_together}
use Rattle.mail_header.proofs.outgoing_text.outgoing.Goals as goal

pub returns : goal.returns
returns c =
    let mailer = c.args.mailer.now in
    let macros = c.args.macros.now in
    let front = c.in_ok-push_from.ensures ∙ ap (λ t. t ++ from_line mailer macros) c.new-text.ensures.items in
    let body = c.in_ok-push_body.ensures ∙ ap (λ t. t ++ with_ends c.end_for-end.result.now c.bytes.result.now) c.in_ok-reserve.ensures.items in
    c.from_vec.ensures ∙ put_together mailer macros c.args.headers.now c.args.body.now _ _ _ _ _ _ _ c.end_for-end.ensures c.items.ensures c.bytes.ensures front c.in_ok-push_headers.ensures c.in_ok-extend_from_slice.ensures.items body
