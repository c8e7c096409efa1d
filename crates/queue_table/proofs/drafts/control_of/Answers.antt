-- An entry has few rows.
use Rattle.std.proofs.Common.{arith}
use Rattle.std.proofs.lemmas.List.{length-map}
use Rattle.mail_base.specs.Limits.{most_rows}
use Rattle.queue_table.specs.Commands.{new_row}
use Rattle.queue_table.proofs.drafts.control_of.Goals as goal

pub overflow_cast-count : goal.overflow_cast-count
unfolding most_rows
overflow_cast-count c = omega (arith, c.requires.valid.rows_form.few, length-map c.args.cut.now.rows new_row, c.len-count.ensures)
