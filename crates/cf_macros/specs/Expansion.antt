-- The expansion of a text (Sendmail Installation and Operation Guide, macros and conditionals; the
-- limits and the order of refusals are our own).
use Rattle.std.specs.Prelude.{ℕ, zero, suc, List, [], ◌∷◌, ◌++◌, map, Bool, true, false, if◌then◌else◌, Result, Ok, Err, codes, unwrap_or, ◌≡◌}
use Rattle.std.specs.Result.{result_unwrap_or}
use Rattle.mail_base.specs.Catalogs.{value_at}
use Rattle.cf_macros.specs.declared.fault.ExpandFault.{ExpandFault}
use Rattle.cf_macros.specs.declared.fault.ExpandFault.TheVariants.{Unclosed, Deep, Large, NoMemory}
use Rattle.cf_macros.specs.declared.scope.Scope.{Scope}
use Rattle.cf_macros.specs.declared.scope.Scope.TheVariants.{Outside, Rule}
use Rattle.cf_macros.specs.Readings.{Parts, Nothing, Bytes, Refer, Choose, Broken, Reading, Last, BeforeElse, BeforeEnd, reading}

-- what happens in an expansion, in reading order: a byte is given, a reference is followed, or
-- something is refused
pub data Act : Type 0 where
  Gives : ℕ → Act
  Follows : Act
  Fails : ExpandFault → Act

-- whether the acts give a byte
abbrev pub gives_any : List Act → Bool
gives_any [] = false
gives_any (Gives byte ∷ acts) = true
gives_any (Follows ∷ acts) = gives_any acts
gives_any (Fails fault ∷ acts) = gives_any acts

-- a test gives nothing
abbrev pub silent : List Act → List Act
silent [] = []
silent (Gives byte ∷ acts) = silent acts
silent (Follows ∷ acts) = Follows ∷ silent acts
silent (Fails fault ∷ acts) = Fails fault ∷ silent acts

-- the acts of a text, given those of a reference by its name
abbrev pub acts_of : (List ℕ → List Act) → Parts → List Act
acts_of followed Nothing = []
acts_of followed (Bytes bytes parts) = map Gives bytes ++ acts_of followed parts
acts_of followed (Refer name parts) = followed name ++ acts_of followed parts
acts_of followed (Choose name shown other parts) =
    silent (followed name)
    ++ ((if gives_any (followed name) then acts_of followed shown else acts_of followed other)
    ++ acts_of followed parts)
acts_of followed (Broken place) = Fails (Unclosed place) ∷ []

-- outside conditionals, `$|` and `$.` stand for themselves
abbrev pub whole : (List ℕ → List Act) → Reading → List Act
whole followed (Last parts) = acts_of followed parts
whole followed (BeforeElse parts more) =
    acts_of followed parts ++ (map Gives (codes "$|") ++ whole followed more)
whole followed (BeforeEnd parts more) =
    acts_of followed parts ++ (map Gives (codes "$.") ++ whole followed more)

-- the acts of a reference, with so many levels left; a macro that isn't set has the empty value
unfoldable pub followed : Scope → ℕ → List (List ℕ × List ℕ) → List ℕ → List Act
followed scope zero macros name = Fails Deep ∷ []
followed scope (suc levels) macros name =
    Follows ∷ whole (followed scope levels macros)
    (reading scope 0 0 (unwrap_or (value_at name macros) []))

-- a byte in front of what is given, if nothing is refused
abbrev pub with_byte : ℕ → Result (List ℕ) ExpandFault → Result (List ℕ) ExpandFault
with_byte byte (Ok text) = Ok (byte ∷ text)
with_byte byte (Err fault) = Err fault

-- what the acts come to, with so many references and bytes left
abbrev pub outcome : ℕ → ℕ → List Act → Result (List ℕ) ExpandFault
outcome references bytes [] = Ok []
outcome references zero (Gives byte ∷ acts) = Err Large
outcome references (suc bytes) (Gives byte ∷ acts) = with_byte byte (outcome references bytes acts)
outcome zero bytes (Follows ∷ acts) = Err Large
outcome (suc references) bytes (Follows ∷ acts) = outcome references bytes acts
outcome references bytes (Fails fault ∷ acts) = Err fault

-- the expansion of a text: at most ten levels of references, 10,000 references and 1,048,576 bytes
unfoldable pub value_in : Scope → List ℕ → List (List ℕ × List ℕ) → Result (List ℕ) ExpandFault
value_in scope text macros =
    outcome 10_000 1_048_576 (whole (followed scope 10 macros) (reading scope 0 0 text))

-- outside rules
abbrev pub value : List ℕ → List (List ℕ × List ℕ) → Result (List ℕ) ExpandFault
value text macros = value_in Outside text macros

-- the same of a text that counts as empty where its expansion is refused
abbrev pub expanded : List ℕ → List (List ℕ × List ℕ) → List ℕ
expanded text macros = result_unwrap_or (value text macros) []

-- the name of this host: the value of `$j`
abbrev pub host_name : List (List ℕ × List ℕ) → List ℕ
host_name macros = expanded (codes "$j") macros

-- as a side of a rule, in which `$$`, `$&x` and `$&{x}` stay as they are written at every level
abbrev pub rule_value : List ℕ → List (List ℕ × List ℕ) → Result (List ℕ) ExpandFault
rule_value text macros = value_in Rule text macros

-- the expansion is refused for this cause; want of memory may come at any time
abbrev pub IsRefused : ExpandFault → Result (List ℕ) ExpandFault → Type 0
IsRefused (Unclosed place) expansion = expansion ≡ Err (Unclosed place)
IsRefused Deep expansion = expansion ≡ Err Deep
IsRefused Large expansion = expansion ≡ Err Large
IsRefused NoMemory expansion = Unit {0}
