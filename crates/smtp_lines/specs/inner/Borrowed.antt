-- What private contracts say of parts that are borrowed from their line.
use Rattle.std.specs.Prelude.{Result, Ok, Err}
use Rattle.mail_base.specs.declared.command.LineFault.{LineFault}
use Rattle.smtp_lines.specs.declared.path.Parts.{Parts as Borrowed}
use Rattle.smtp_lines.specs.Paths.{Parts}

-- the parts that are borrowed of a text
abbrev pub parts_of : Borrowed → Parts
parts_of parts = record { front = parts.front.now; back = parts.back.now }

abbrev pub as_parts : Result Borrowed LineFault → Result Parts LineFault
as_parts (Ok parts) = Ok (parts_of parts)
as_parts (Err fault) = Err fault
