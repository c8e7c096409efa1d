-- Paper: bytes, and the room that was reserved for them (our own).
use Rattle.std.specs.Prelude.{ℕ, ◌+◌, ◌≤◌, List, ◌++◌, length}

-- the bytes that were written, and the most that may be
pub record Sheet : Type 0 where
  pub bytes : List ℕ
  pub room : ℕ

-- the sheet has room for more bytes
abbrev pub Fits : Sheet → List ℕ → Type 0
Fits sheet more = length sheet.bytes + length more ≤ sheet.room

-- the sheet with more bytes on it
abbrev pub with_more : Sheet → List ℕ → Sheet
with_more sheet more = record sheet { bytes = sheet.bytes ++ more }
