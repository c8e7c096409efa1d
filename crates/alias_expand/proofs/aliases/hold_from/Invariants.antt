use Rattle.std.proofs.Common.{◌≤◌, ◌-◌, length}
use Rattle.mail_base.specs.Places.{IsIndexedTo, Keeps}
use Rattle.alias_expand.specs.Aliases.{has_name}
use Rattle.alias_expand.proofs.aliases.hold_from.Given as goal

-- what was held stays, and the lines up to the place are held
abbrev pub invariant-lines : goal.invariant-lines
invariant-lines l = record {
  within : l.place ≤ length l.lines;
  keeps : Keeps l.fn.places l.places;
  held : IsIndexedTo has_name l.start l.lines l.fn.places → IsIndexedTo has_name l.place l.lines l.places;
}

abbrev pub decreases-lines : goal.decreases-lines
decreases-lines l = length l.lines - l.place
