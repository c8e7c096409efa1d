-- The pieces of a text with their places, one after the other.
use Rattle.std.specs.Prelude.{◌≡◌, ◌≢◌, ℕ, ◌+◌, ◌≤◌, Bool, List, ◌++◌, length, drop, Result, Ok, Err}
use Rattle.addr_tokens.specs.declared.fault.ScanFault.{ScanFault}
use Rattle.addr_tokens.specs.declared.fault.ScanFault.TheVariants.{NoMemory}
use Rattle.addr_tokens.specs.declared.span.PieceSpan.{PieceSpan}
use Rattle.addr_tokens.specs.Pieces.{Alphabet}
use Rattle.addr_tokens.specs.Spans.{spans_on, spans_or_fault}

-- pieces behind others
abbrev pub behind : List PieceSpan → Result (List PieceSpan) ScanFault
    → Result (List PieceSpan) ScanFault
behind spans (Ok more) = Ok (spans ++ more)
behind spans (Err fault) = Err fault

-- how it goes on from a place, where the rest of the text begins
pub record SpansAt (alphabet : Alphabet) (angles : Bool) (text : List ℕ) (checked : Bool)
    (place : ℕ) (lefts : List ℕ) (spans : List PieceSpan) : Type 0 where
  pub within : place ≤ length text
  pub outcome : behind spans (spans_on alphabet checked place lefts (drop place text))
      ≡ spans_or_fault alphabet angles text

-- what a step answers: it goes on behind so many bytes, or the fault is that of the text
abbrev pub SpansGo : Alphabet → Bool → List ℕ → Bool → ℕ → List ℕ → List PieceSpan
    → Result ℕ ScanFault → Type 0
SpansGo alphabet angles text checked place lefts spans (Ok size) =
    SpansAt alphabet angles text checked (place + size) lefts spans
SpansGo alphabet angles text checked place lefts spans (Err fault) =
    fault ≢ NoMemory → spans_or_fault alphabet angles text ≡ Err fault
