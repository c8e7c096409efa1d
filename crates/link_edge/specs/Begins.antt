-- Where a floor is begun (own).
use Rattle.std.specs.Prelude.{ℕ}
use Rattle.link_edge.specs.declared.begun.Calls.{Calls}
use Rattle.link_edge.specs.declared.begun.Calls.TheVariants.{Zero, One, Many}
use Rattle.link_edge.specs.declared.place.Place.{Place}

-- how a floor was begun so far: not yet, once, at that place and for so many sessions, or more than
-- once
pub data Beginnings : Type 0 where
  Never : Beginnings
  Once : (place : Place) (most : ℕ) → Beginnings
  Often : Beginnings

-- after one call of begin more
abbrev pub begun_after : Beginnings → Place → ℕ → Beginnings
begun_after Never place most = Once place most
begun_after (Once first few) place most = Often
begun_after Often place most = Often

-- what is kept of the calls
abbrev pub begun_by : Calls → Beginnings
begun_by Zero = Never
begun_by (One place most) = Once place.value most
begun_by Many = Often
