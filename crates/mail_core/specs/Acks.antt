-- What a final 250 says of the table (own; RFC 5321 section 6.1).
use Rattle.std.specs.Prelude.{◌≡◌, ℕ, List, [], ◌∷◌, ◌++◌, drop, length, Contains}
use Rattle.mail_base.specs.Limits.{IsId}
use Rattle.mail_base.specs.States.{NeedsBody}
use Rattle.smtp_receive.specs.Replies.{stored_text}
use Rattle.spool_store.specs.Entries.{Stored, Table}
use Rattle.queue_table.specs.Commands.{Command, after}
use Rattle.queue_table.specs.Soundness.{IsSound}
use Rattle.queue_run.specs.Deeds.{asked_in}
use Rattle.mail_core.specs.Effects.{Effect, Takes, Ticks, Sends, HangsUp, Does, table_after}

-- the table after each front of some effects is sound
abbrev pub StaysSound : Table → List Effect → Type 0
StaysSound table effects =
    (done rest : List Effect) → effects ≡ done ++ rest → IsSound (table_after table done)

-- the entry of that id is in the table, and its body is wanted
pub record HasEntry (table : Table) (id : ℕ) : Type 0 where
  pub stored : Stored
  pub among : Contains table.entries stored
  pub id_is : stored.id ≡ id
  pub wanted : NeedsBody stored.control

-- the entries that a command puts into a table, behind those that are there
abbrev pub put_by : Table → Command → List Stored
put_by table command = drop (length table.entries) (after table command).entries

-- what was put in last, behind commands
abbrev pub put_in : List Stored → Table → List Command → List Stored
put_in latest table [] = latest
put_in latest table (command ∷ commands) =
    put_in (put_by table command) (after table command) commands

-- the first of these entries has that id
abbrev pub BeginsWith : ℕ → List Stored → Type 0
BeginsWith id [] = ⊥
BeginsWith id (s ∷ entries) = s.id ≡ id

-- a message that was put in as these entries, of which the first has that id, is in the table: each
-- of them is, and its body is wanted
pub record HasMessage (table : Table) (entries : List Stored) (id : ℕ) : Type 0 where
  pub first : BeginsWith id entries
  pub each : (s : Stored) → Contains entries s → HasEntry table s.id

-- where an effect is the final 250 of an id, it is of the message that was put in last, which is in
-- the table with all its entries
abbrev pub IsAcked : List Stored → Table → Effect → Type 0
IsAcked latest table (Takes event) = Unit {0}
IsAcked latest table (Ticks reading) = Unit {0}
IsAcked latest table (Sends session text whole) =
    (id : ℕ) → IsId id → text ≡ stored_text id → HasMessage table latest id
IsAcked latest table (HangsUp session) = Unit {0}
IsAcked latest table (Does deed) = Unit {0}

-- what was put in last, behind an effect
abbrev pub latest_by : List Stored → Table → Effect → List Stored
latest_by latest table (Takes event) = latest
latest_by latest table (Ticks reading) = latest
latest_by latest table (Sends session text whole) = latest
latest_by latest table (HangsUp session) = latest
latest_by latest table (Does deed) = put_in latest table (asked_in deed)

-- each final 250 is of the message that was put in last, in the table as it is then
abbrev pub AreAcked : List Stored → Table → List Effect → Type 0
AreAcked latest table [] = Unit {0}
AreAcked latest table (effect ∷ effects) =
    IsAcked latest table effect
    × AreAcked (latest_by latest table effect) (table_after table (effect ∷ [])) effects
