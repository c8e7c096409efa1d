use Rattle.std.proofs.Common.{◌≡◌, take}
use Rattle.std.specs.Prelude.{fold}
use Rattle.cf_reader.specs.OptionLines.{first_port, with_field}
use Rattle.cf_reader.proofs.daemon_port.port_of.Given as goal

abbrev pub invariant-loop-field : goal.invariant-loop-field
invariant-loop-field l = l.port ≡ fold with_field first_port (take l.field-index l.fields)
