-- What reading a message's input comes to. It need not be believed: only private contracts cite it.
use Rattle.std.specs.Prelude.{◌≡◌, ℕ, ◌+◌, ◌<◌, ◌≤◌, List, length, Bool, true, false, Result, Ok, Err}
use Rattle.mail_base.specs.Histories.{Rose}
use Rattle.mail_edge.specs.Seen.{SourceSeen}
use Rattle.mail_submit.specs.Inputs.{Holds, message_of, read}
use Rattle.mail_submit.specs.declared.held.Held.{Held}
use Rattle.submit_run.specs.Inputs.{IsLarge, IsRead, Takes, TakesSome}
use Rattle.submit_run.specs.declared.reading.ReadEnd.{ReadEnd}
use Rattle.submit_run.specs.declared.reading.ReadEnd.TheVariants as reads

-- what the end of input comes to behind these bytes
abbrev pub ComesTo : Bool → ℕ → List ℕ → Result (List ℕ) ReadEnd → Type 0
ComesTo dot most bytes (Ok text) =
    (text ≡ message_of dot (read dot bytes)) × (length text ≤ most)
ComesTo dot most bytes (Err reads.TooLarge) = most < length (message_of dot (read dot bytes))
ComesTo dot most bytes (Err reads.ReadFault) = ⊥
ComesTo dot most bytes (Err reads.NoMemory) = Unit {0}

-- what reading it comes to
abbrev pub Reads : Bool → ℕ → SourceSeen → SourceSeen → Result (List ℕ) ReadEnd → Type 0
Reads dot most before after (Ok text) = IsRead dot most before after text
Reads dot most before after (Err reads.TooLarge) = IsLarge dot most before after
Reads dot most before after (Err reads.ReadFault) =
    TakesSome before after × Rose before.faults after.faults
Reads dot most before after (Err reads.NoMemory) = TakesSome before after

abbrev pub is_read_fault : {T : Type 0} → Result T ReadEnd → Bool
is_read_fault (Err reads.ReadFault) = true
is_read_fault result = false

-- so many bytes were taken of the input, which end no message yet
pub record IsUnderWay (dot : Bool) (most : ℕ) (before now : SourceSeen) (lines : Held) (total : ℕ)
    : Type 0 where
  pub taken : List ℕ
  pub count : length taken ≡ total
  pub few : total ≤ most + 2
  pub takes : Takes before now taken
  pub holds : Holds lines dot taken
  pub going : (read dot taken).ended ≡ false
  pub calm : now.faults ≡ before.faults
