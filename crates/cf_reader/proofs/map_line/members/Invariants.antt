use Rattle.std.proofs.Common.{◌≡◌, ◌++◌, drop}
use Rattle.std.specs.List.{list_any}
use Rattle.cf_reader.specs.MapLines.{is_unknown, members_of}
use Rattle.cf_reader.proofs.map_line.members.Given as goal

-- the members so far with those of the names that are left are all members
abbrev pub invariant-loop-name : goal.invariant-loop-name
invariant-loop-name l = record {
  members : l.members ++ members_of (drop l.name-index l.names) l.maps ≡ members_of l.names l.maps;
  unknown : list_any (is_unknown l.maps) (drop l.name-index l.names) ≡ list_any (is_unknown l.maps) l.names;
}
