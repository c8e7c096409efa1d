-- The rows of the receivers of returned mail (Sendmail Operation Guide, aliases; the limit of rows
-- is our own).
use Rattle.std.specs.Prelude.{◌≡◌, ℕ, ◌≤◌, List, length, All, codes}
use Rattle.mail_base.specs.Limits.{most_rows}
use Rattle.mail_base.specs.Texts.{IsAddress, IsBracketed}
use Rattle.mail_base.specs.declared.draw.Draw.{Draw}

-- the sender of a message that is not to be returned (RFC 5321, section 4.5.5)
abbrev pub null_sender : List ℕ
null_sender = codes "<>"

-- a row of returned mail has the null sender
pub record IsReturned (row : Draw) : Type 0 where
  pub sender : row.sender ≡ null_sender
  pub address : IsAddress row.address

-- the rows of a receiver are one at least, and no more than an entry has
pub record AreDrawn (rows : List Draw) : Type 0 where
  pub some : 1 ≤ length rows
  pub few : length rows ≤ most_rows
  pub each : All IsReturned rows

-- a row has an address, and a sender in its angles
pub record IsDrawn (row : Draw) : Type 0 where
  pub address_form : IsAddress row.address
  pub sender_form : IsBracketed row.sender

-- the rows of an address are one at least, and no more than an entry has
pub record AreRows (rows : List Draw) : Type 0 where
  pub some : 1 ≤ length rows
  pub few : length rows ≤ most_rows
  pub each : All IsDrawn rows
