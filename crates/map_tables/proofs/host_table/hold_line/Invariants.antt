use Rattle.std.proofs.Common.{◌≡◌, ◌||◌, ℕ, List, true, take}
use Rattle.std.specs.List.{list_any}
use Rattle.std.specs.Str.{str_eq_ignore_ascii_case}
use Rattle.map_tables.specs.Hosts.{has_name}
use Rattle.mail_base.specs.Places.{IsFirstAt, Keeps, is_held_for}
use Rattle.map_tables.proofs.host_table.hold_line.Given as goal

-- what was held stays, and the place is held for each name so far that stands first there
abbrev pub invariant-loop-alias : goal.invariant-loop-alias
invariant-loop-alias l = record {
  keeps : Keeps l.fn.places l.places;
  held : (name : List ℕ) → (str_eq_ignore_ascii_case name l.line.name || list_any (str_eq_ignore_ascii_case name) (take l.alias-index l.alias-items)) ≡ true → IsFirstAt (has_name name) l.lines l.place
      → is_held_for name l.place l.places ≡ true;
}
