use Rattle.mail_base.specs.Places.{IsIndexedTo}
use Rattle.map_tables.specs.Hosts.{has_name}
use Rattle.map_tables.proofs.host_table.hold_lines.Given as goal

-- the lines so far are held
abbrev pub invariant-loop-place : goal.invariant-loop-place
invariant-loop-place l = IsIndexedTo has_name l.place l.lines l.places
