-- A line by its letter.
use Rattle.std.proofs.Common.{◌≡◌, ℕ, List, ◌∷◌, Ok, Err, sym, subst}
use Rattle.std.specs.Prelude.{Option, Result}
use Rattle.mail_edge.specs.Seen.{FileMap}
use Rattle.cf_reader.specs.declared.fault.Fault.{Fault}
use Rattle.cf_reader.specs.declared.fault.LineStop.{LineStop}
use Rattle.cf_reader.specs.declared.fault.LineStop.TheVariants as stops
use Rattle.cf_reader.specs.declared.state.State.{State}
use Rattle.cf_reader.specs.Faults.{fault}
use Rattle.cf_reader.specs.Letters.{after_option, after_text}
use Rattle.cf_reader.specs.OptionLines.{fault_of_option}
use Rattle.cf_reader.specs.inner.Steps.{Steps, Seeks}

steps_seek : (r : Result (Unit {0}) LineStop) (f : Option Fault) (after new : State) → Steps r f after new → Seeks r f after new
steps_seek (Ok u) f after new h = h
steps_seek (Err (stops.Refused found)) f after new h = h
steps_seek (Err stops.FilesFault) f after new h = tt
steps_seek (Err stops.NoMemory) f after new h = tt

-- an O line (79)
pub option_seeks : (map : FileMap) (state new : State) (number : ℕ) (line text : List ℕ) (r : Result (Unit {0}) LineStop) → line ≡ 79 ∷ text → Steps r (fault_of_option state.has_rules text) (after_option number text state) new
    → Seeks r (fault map state line) (after_text map number line state) new
option_seeks map state new number line text r is h =
    subst (λ (l : List ℕ). Seeks r (fault map state l) (after_text map number l state) new) (sym is) (steps_seek r (fault map state (79 ∷ text)) (after_text map number (79 ∷ text) state) new h)
