use Rattle.std.proofs.Common.{◌++◌, take, ap, ◌∙◌}
use Rattle.mail_base.specs.Limits.{most_command}
use Rattle.smtp_lines.specs.Stream.{command_line}
use Rattle.smtp_lines.proofs.LineLemmas.{command-long, command-short}
use Rattle.smtp_lines.proofs.reading.command_of.Goals as goal

pub returns-then-length-gt-MOST_COMMAND : goal.returns-then-length-gt-MOST_COMMAND
unfolding most_command
returns-then-length-gt-MOST_COMMAND c =
    λ begun content is some whole. command-long begun c.args.bytes.now content c.args.kept.now is whole c.if-length-gt-MOST_COMMAND.true

pub returns : goal.returns
unfolding most_command
returns c =
    λ begun content is some whole.
    let kept = c.args.kept.now in
    let bytes = c.args.bytes.now in
    c.command_line.ensures
    ∙ ap command_line
    (c.in_ok-joined.ensures
    ∙ ap (λ n. take n (kept ++ bytes)) c.saturating_sub.ensures
    ∙ command-short begun bytes content kept is some whole c.if-length-gt-MOST_COMMAND.false)
