-- What a part of a rule is made into, or its fault; and a right side from its front.
use Rattle.std.specs.Prelude.{◌≡◌, ℕ, ◌≤◌, List, [], ◌∷◌, ◌++◌, length, drop, Bool, ◌||◌, Option, Some, None, option_map, Result, Ok, Err}
use Rattle.std.specs.List.{slice_split}
use Rattle.mail_base.specs.declared.rule.Piece.{Piece}
use Rattle.mail_base.specs.declared.rule.Step.{Step}
use Rattle.addr_tokens.specs.declared.lexeme.Lexeme.{Lexeme}
use Rattle.addr_tokens.specs.declared.fault.ScanFault.{ScanFault}
use Rattle.addr_tokens.specs.declared.fault.ScanFault.TheVariants as scan
use Rattle.cf_macros.specs.declared.fault.ExpandFault.{ExpandFault}
use Rattle.cf_macros.specs.declared.fault.ExpandFault.TheVariants as expansion
use Rattle.cf_reader.specs.declared.fault.Fault.TheVariants.{BadPattern}
use Rattle.cf_reader.specs.declared.fault.LineStop.{LineStop}
use Rattle.cf_reader.specs.declared.fault.LineStop.TheVariants as stops
use Rattle.cf_reader.specs.Sides.{is_dollar, is_opening, is_closing, pieces_of, put, rest_of, whole}

module _ {V : Type 0} where
  -- it is made where it has a meaning, and is BadPattern where it has none, unless memory runs out
  abbrev pub Makes : Result V LineStop → Option V → Type 0
  Makes (Ok value) meant = meant ≡ Some value
  Makes (Err (stops.Refused fault)) meant = (fault ≡ BadPattern) × (meant ≡ None)
  Makes (Err stops.FilesFault) meant = ⊥
  Makes (Err stops.NoMemory) meant = Unit {0}

-- what a refused expansion is as a line's fault
abbrev pub stop_of_expansion : ExpandFault → LineStop
stop_of_expansion expansion.NoMemory = stops.NoMemory
stop_of_expansion (expansion.Unclosed place) = stops.Refused BadPattern
stop_of_expansion expansion.Deep = stops.Refused BadPattern
stop_of_expansion expansion.Large = stops.Refused BadPattern

-- what a refused cutting is as a line's fault
abbrev pub stop_of_scan : ScanFault → LineStop
stop_of_scan scan.NoMemory = stops.NoMemory
stop_of_scan (scan.Unbalanced place) = stops.Refused BadPattern
stop_of_scan (scan.BadQuote place) = stops.Refused BadPattern
stop_of_scan (scan.BadDollar place) = stops.Refused BadPattern
stop_of_scan scan.Long = stops.Refused BadPattern

-- a lexeme that opens or closes a look-up
abbrev pub is_bracket : Lexeme → Bool
is_bracket lexeme = is_opening lexeme || is_closing lexeme

-- what stands so far, in front of what the rest gives
module _ {Y : Type 0} where
  abbrev pub added : List Y → Option (List Y) → Option (List Y)
  added ys None = None
  added ys (Some more) = Some (ys ++ more)

-- the steps of lexemes, if they make some
abbrev pub steps_in : List Lexeme → Option (List Step)
steps_in lexemes = whole (rest_of lexemes)

-- the first step of lexemes, and how many of them it takes; or they have no steps
abbrev pub IsFirst : Result (Step × ℕ) LineStop → List Lexeme → Type 0
IsFirst (Ok first) lexemes = (1 ≤ first.1) × (first.1 ≤ length lexemes)
    × (steps_in lexemes ≡ put (Some first.0) (steps_in (drop first.1 lexemes)))
IsFirst (Err (stops.Refused fault)) lexemes = (fault ≡ BadPattern) × (steps_in lexemes ≡ None)
IsFirst (Err stops.FilesFault) lexemes = ⊥
IsFirst (Err stops.NoMemory) lexemes = Unit {0}

-- what `$@` separates, behind the first of them
abbrev pub parts_behind : List Lexeme → List (List Lexeme)
parts_behind [] = []
parts_behind (sign ∷ lexemes) = slice_split (is_dollar 64) lexemes

-- the fallback, from its `$:` on
abbrev pub fallback_from : List Lexeme → Option (Option (List Piece))
fallback_from [] = Some None
fallback_from (sign ∷ lexemes) = option_map Some (pieces_of lexemes)
