-- A run over a stream whose grants are known beforehand.
use Rattle.std.specs.Prelude.{Bool, true, false}
use Rattle.smtp_lines.specs.declared.line.Mode.TheVariants.{Message}
use Rattle.smtp_lines.specs.Reader.{Reader, refused_by}

-- the reader after an answer
abbrev pub granted_by : Bool → Reader → Reader
granted_by true r = record r { under = record r.under { mode = Message; may_turn = false } }
granted_by false r = refused_by r
