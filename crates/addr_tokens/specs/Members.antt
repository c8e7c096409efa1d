-- Words as members of a class, and which words can't be (Sendmail Installation and Operation Guide,
-- "C and F: Define Classes"; which words are refused is our own).
use Rattle.std.specs.Prelude.{ℕ, Bool, true, false, List, [], Option, Some, None, Result, Ok, Err, if◌then◌else◌}
use Rattle.std.specs.List.{list_any}
use Rattle.mail_base.specs.Words.{words_of}
use Rattle.mail_base.specs.declared.class.Member.{Member}
use Rattle.mail_base.specs.declared.token.Token.{Token}
use Rattle.addr_tokens.specs.declared.fault.ScanFault.{ScanFault}
use Rattle.addr_tokens.specs.declared.fault.ScanFault.TheVariants.{Long}
use Rattle.addr_tokens.specs.Pieces.{plain}
use Rattle.addr_tokens.specs.Reader.{cut, tokens_or_fault}

-- a fault of a text whatever the operators are: only how many tokens it has depends on these
abbrev pub is_fault_anyway : Result (List Token) ScanFault → Bool
is_fault_anyway (Ok tokens) = false
is_fault_anyway (Err Long) = false
is_fault_anyway (Err fault) = true

-- a word that can't be cut into tokens under any operators
abbrev pub cannot_be_cut : List ℕ → Bool
cannot_be_cut word = is_fault_anyway (tokens_or_fault (plain []) false word)

-- these words, or nothing where one of them can't be cut
abbrev pub words_or_none : List (List ℕ) → Option (List (List ℕ))
words_or_none words = if list_any cannot_be_cut words then None else Some words

-- the words of a text, or nothing where there is no text or one of them can't be cut
abbrev pub words_in : {E : Type 0} → Result (List ℕ) E → Option (List (List ℕ))
words_in (Ok text) = words_or_none (words_of text)
words_in (Err fault) = None

-- a word as a member of its class, under these operators
abbrev pub member_of : List ℕ → List ℕ → Member
member_of operators word =
    record { text = word; tokens = cut operators false word }
