use Rattle.std.proofs.Common.{◌≤◌, ◌++◌, codes, length, FitsSigned, w32, subst, sym, ap, ◌∙◌}
use Rattle.std.specs.Fmt.{signed_decimal}
use Rattle.std.proofs.lemmas.Int.{to_z-of_z}
use Rattle.mail_base.specs.Notes.{IsNote}
use Rattle.mailer_pipe.proofs.NoteLemmas.{exit_note}
use Rattle.mailer_pipe.proofs.exit.note_of.Goals as goal

pub unwrap-requires : goal.unwrap-requires
unwrap-requires c =
    let fits : FitsSigned w32 c.args.status = record { sfits = c.ranges.status.sfits } in
    let text = c.format.ensures.text ∙ ap signed_decimal (to_z-of_z w32 c.args.status fits) in
    let line = c.as_slice.ensures.value ∙ c.line_of.ensures ∙ ap (λ t. codes "exit " ++ t) (c.as_bytes.ensures.value ∙ text) in
    c.of.ensures.form.1 (subst IsNote (sym line) (exit_note c.args.status fits (subst (λ t. length t ≤ 40) text c.format.ensures.short)))
