-- What is seen of a source, a sink, the files and a clock (own).
use Rattle.std.specs.Prelude.{ℕ, List, Option, bytes_eq}
use Rattle.std.specs.Map.{lookup}

-- what is left, where that is told, and how often a call failed
pub record SourceSeen : Type 0 where
  pub left : Option (List ℕ)
  pub faults : ℕ

-- what was written, where that is told, and how often a call failed
pub record SinkSeen : Type 0 where
  pub written : Option (List ℕ)
  pub faults : ℕ

-- names, each with its text
abbrev pub FileMap : Type 0
FileMap = List (List ℕ × List ℕ)

-- the text of the first file of that name
abbrev pub text_of : FileMap → List ℕ → Option (List ℕ)
text_of files name = lookup (bytes_eq name) files

-- the files, where they are told, and how often a call failed
pub record FilesSeen : Type 0 where
  pub map : Option FileMap
  pub faults : ℕ

-- the readings so far, where they are told, and how many there were
pub record ClockSeen : Type 0 where
  pub told : Option (List ℕ)
  pub readings : ℕ
