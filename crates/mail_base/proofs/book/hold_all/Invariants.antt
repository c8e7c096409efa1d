use Rattle.std.proofs.Common.{◌≡◌, ℕ, List, true, take}
use Rattle.std.specs.List.{list_any}
use Rattle.std.specs.Str.{str_eq_ignore_ascii_case}
use Rattle.mail_base.specs.Places.{Keeps, is_held_for}
use Rattle.mail_base.proofs.book.hold_all.Given as goal

-- what was held stays, and the place is held for each name so far
abbrev pub invariant-loop-name : goal.invariant-loop-name
invariant-loop-name l = record {
  keeps : Keeps l.fn.places l.places;
  held : (name : List ℕ) → list_any (λ given. str_eq_ignore_ascii_case given name) (take l.name-index l.names) ≡ true → is_held_for name l.place l.places ≡ true;
}
