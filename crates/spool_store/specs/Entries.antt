-- The message table with entries of several parts, in order of id (own; an entry is that of the
-- Sendmail Installation and Operation Guide, "The queue").
use Rattle.std.specs.Prelude.{◌≡◌, ℕ, List, map, eqb, if◌then◌else◌}
use Rattle.std.specs.List.{AllZip}
use Rattle.mail_base.specs.declared.control.Control.{Control}
use Rattle.mail_base.specs.States.{NeedsBody}

pub record Stored : Type 0 where
  pub id : ℕ
  pub dir : List ℕ
  pub control : Control
  pub body : List ℕ

pub record Table : Type 0 where
  pub entries : List Stored
  pub next : ℕ

abbrev pub ids : List Stored → List ℕ
ids entries = map (λ s. s.id) entries

-- the same entry, and the same body where it is wanted
pub record IsSameEntry (one another : Stored) : Type 0 where
  pub id : one.id ≡ another.id
  pub dir : one.dir ≡ another.dir
  pub control : one.control ≡ another.control
  pub body : NeedsBody one.control → one.body ≡ another.body

-- the same entries in the same order
abbrev pub AreSameEntries : List Stored → List Stored → Type 0
AreSameEntries = AllZip IsSameEntry

-- an entry with another control, where it has that id
abbrev pub replaced : ℕ → Control → Stored → Stored
replaced id c s =
    if eqb s.id id then record { id = s.id; dir = s.dir; control = c; body = s.body } else s

-- the entries with another control of that id
abbrev pub with_control : ℕ → Control → List Stored → List Stored
with_control id c entries = map (replaced id c) entries
