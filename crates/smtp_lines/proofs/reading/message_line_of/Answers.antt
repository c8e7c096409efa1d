use Rattle.std.proofs.Common.{◌+◌, ◌≤◌, min, ◌++◌, take, ap, ◌∙◌, arith}
use Rattle.mail_base.specs.Limits.{most_message}
use Rattle.smtp_lines.specs.Stream.{message_line}
use Rattle.smtp_lines.proofs.LineLemmas.{message-front, message_line-front, enough-message}
use Rattle.smtp_lines.proofs.reading.message_line_of.Goals as goal

pub returns : goal.returns
unfolding most_message
returns c =
    λ begun content is some whole.
    let kept = c.args.kept.now in
    let bytes = c.args.bytes.now in
    let room : most_message + 2 + 1 ≤ is.most = omega (arith, enough-message, is.enough) in
    c.message_line.ensures
    ∙ ap message_line
    (c.in_ok-joined.ensures
    ∙ ap (λ n. take n (kept ++ bytes)) (c.min-most.ensures ∙ ap (λ n. min n (most_message + 2)) c.saturating_sub.ensures)
    ∙ message-front begun bytes content kept is.most (most_message + 2) is.is room some whole)
    ∙ message_line-front content
