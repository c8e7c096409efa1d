-- What contracts see of the line under way.
use Rattle.smtp_lines.specs.declared.under_way.Begun.{Begun}
use Rattle.smtp_lines.specs.Reader.{Under}

abbrev pub under : Begun → Under
under b =
    record { mode = b.mode; may_turn = b.may_turn; kept = b.kept.items; after_cr = b.after_cr }
