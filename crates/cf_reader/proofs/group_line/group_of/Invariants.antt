use Rattle.std.proofs.Common.{◌≡◌, take}
use Rattle.std.specs.Prelude.{fold}
use Rattle.cf_reader.specs.GroupLines.{first_group, with_group_field}
use Rattle.cf_reader.proofs.group_line.group_of.Given as goal

abbrev pub invariant-loop-field : goal.invariant-loop-field
invariant-loop-field l = l.group ≡ fold with_group_field (first_group l.name) (take l.field-index l.fields)
