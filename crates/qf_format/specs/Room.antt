-- How long the text of a control may become while its texts stay (our own).
use Rattle.std.specs.Prelude.{◌≡◌, ℕ, ◌+◌, List, length, map, sum_by}
use Rattle.mail_base.specs.declared.control.Control.{Control}
use Rattle.mail_base.specs.declared.control.Row.{Row}

-- the addresses of rows
abbrev pub addresses : List Row → List (List ℕ)
addresses rows = map (λ row. row.address) rows

-- two controls have the same group, sender, macros, addresses and headers; their states, notes,
-- numbers and flags may differ
pub record SameTexts (one another : Control) : Type 0 where
  pub group : another.group ≡ one.group
  pub sender : another.sender ≡ one.sender
  pub kept : another.kept ≡ one.kept
  pub addresses : addresses another.rows ≡ addresses one.rows
  pub headers : another.headers ≡ one.headers

-- the lines of one row have at most 532 bytes beside its address: 6 of its own line, and 526 of a
-- state with the longest status and note
unfoldable pub row_room : List ℕ → ℕ
row_room address = 532 + length address

-- a header has its letter and its end beside it
unfoldable pub header_room : List ℕ → ℕ
header_room header = 2 + length header

-- all other lines have at most 233 bytes beside the texts in them
unfoldable pub room_of : Control → ℕ
room_of c = 233 + length c.group + length c.sender + length c.kept.protocol + length c.kept.helo
    + length c.kept.client
    + sum_by row_room (addresses c.rows) + sum_by header_room c.headers
