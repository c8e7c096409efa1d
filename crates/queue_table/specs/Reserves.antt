-- What is reserved for the record of an attempt (own).
use Rattle.std.specs.Prelude.{◌≡◌, ◌≤◌, ℕ, List, [], All, Contains}
use Rattle.qf_format.specs.Room.{room_of}
use Rattle.spool_store.specs.Queue.{IsOpen}
use Rattle.spool_store.specs.declared.held.Held.{Held}
use Rattle.queue_table.specs.Soundness.{IsTried}
use Rattle.queue_table.specs.declared.recording.Reserved.{Reserved}

-- the rows at these places of the entry of an id are still tried
pub record CanReserve (entries : List Held) (id : ℕ) (places : List ℕ) : Type 0 where
  pub held : Held
  pub among : Contains entries held
  pub is : held.entry.id ≡ id
  pub waits : IsOpen held.entry.control
  pub tried : All (IsTried held.entry.control.rows) places

-- it was reserved for rows of an entry that wasn't changed since
pub record IsReserved (entries : List Held) (reserved : Reserved) : Type 0 where
  pub can : CanReserve entries reserved.room.id reserved.rows
  pub control : reserved.room.control ≡ can.held.entry.control
  pub empty : reserved.room.paper.bytes ≡ []
  pub fits : room_of reserved.room.control ≤ reserved.room.paper.room
