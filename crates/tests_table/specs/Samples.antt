-- What is sent for an entry, and entries for which it may be sent, for examples (own).
use Rattle.std.specs.Prelude.{◌≡◌, ℕ, List, [], ◌∷◌, Contains, Bool, true}
use Rattle.mail_base.specs.declared.message.Back.{Back}
use Rattle.spool_store.specs.Queue.{IsOpen}
use Rattle.spool_store.specs.declared.held.Held.{Held}
use Rattle.table_samples.specs.Samples.{AreSampleCuts, IsSampleMessage}

-- what is sent for an entry
pub record IsSampleBack (back : Back) : Type 0 where
  pub message : IsSampleMessage back.message
  pub marked : back.message.marks.bounce ≡ true
  pub cuts : AreSampleCuts back.cuts

-- one of these alone
pub record AreBacks (backs : List Back) : Type 0 where
  pub back : Back
  pub is : backs ≡ back ∷ []
  pub sample : IsSampleBack back

-- the entry of an id has an open row, and is a double bounce or none
pub record IsOpenWith (entries : List Held) (double : Bool) (id : ℕ) : Type 0 where
  pub held : Held
  pub among : Contains entries held
  pub is : held.entry.id ≡ id
  pub waits : IsOpen held.entry.control
  pub double_is : held.entry.control.marks.double ≡ double
