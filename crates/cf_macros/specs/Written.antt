-- How texts that name macros are written, for the laws on their values (Sendmail Installation and
-- Operation Guide, macros and conditionals).
use Rattle.std.specs.Prelude.{◌≡◌, ◌≢◌, ℕ, List, [], ◌∷◌, ◌++◌, All, Result, Ok, codes, true, false, unwrap_or}
use Rattle.mail_base.specs.Catalogs.{value_at}
use Rattle.cf_macros.specs.declared.fault.ExpandFault.{ExpandFault}
use Rattle.cf_macros.specs.Constructs.{is_name}

-- a name as it is written: one byte, or a word in braces
pub data Named : Type 0 where
  Bare : ℕ → Named
  Braced : List ℕ → Named

-- the name without its braces
abbrev pub name_of : Named → List ℕ
name_of (Bare byte) = byte ∷ []
name_of (Braced word) = word

-- the name as it is written
abbrev pub name_spelling : Named → List ℕ
name_spelling (Bare byte) = byte ∷ []
name_spelling (Braced word) = 123 ∷ (word ++ 125 ∷ [])

-- a byte that is a name, or a word without a closing brace
abbrev pub IsNamed : Named → Type 0
IsNamed (Bare byte) = is_name byte ≡ true
IsNamed (Braced word) = All (λ byte. byte ≢ 125) word

-- a byte with which `$` begins no construct, so that both stand for themselves, as in `$*`
pub record IsNoName (byte : ℕ) : Type 0 where
  pub no_name : is_name byte ≡ false
  pub no_dollar : byte ≢ 36
  pub no_late : byte ≢ 38
  pub no_test : byte ≢ 63
  pub no_else : byte ≢ 124
  pub no_end : byte ≢ 46
  pub no_brace : byte ≢ 123

-- a construct but a conditional: a byte other than `$`, `$$`, `$x` and `${x}`, `$&x` and `$&{x}`,
-- or `$` and a byte that begins nothing
pub data Simple : Type 0 where
  Byte : ℕ → Simple
  Doubled : Simple
  Macro : Named → Simple
  Late : Named → Simple
  Alone : ℕ → Simple

-- a construct as it is written
abbrev pub simple_spelling : Simple → List ℕ
simple_spelling (Byte byte) = byte ∷ []
simple_spelling Doubled = codes "$$"
simple_spelling (Macro name) = 36 ∷ name_spelling name
simple_spelling (Late name) = 36 ∷ 38 ∷ name_spelling name
simple_spelling (Alone byte) = 36 ∷ byte ∷ []

-- what is written is that construct and no other
abbrev pub IsSimple : Simple → Type 0
IsSimple (Byte byte) = byte ≢ 36
IsSimple Doubled = Unit {0}
IsSimple (Macro name) = IsNamed name
IsSimple (Late name) = IsNamed name
IsSimple (Alone byte) = IsNoName byte

-- a part of a conditional: constructs one behind the other, and of conditionals whole ones, with or
-- without a part behind `$|`
pub data Part : Type 0 where
  Ends : Part
  One : Simple → Part → Part
  Short : Named → Part → Part → Part
  Long : Named → Part → Part → Part → Part

-- a part as it is written
abbrev pub part_spelling : Part → List ℕ
part_spelling Ends = []
part_spelling (One simple more) = simple_spelling simple ++ part_spelling more
part_spelling (Short name shown more) = codes "$?"
    ++ (name_spelling name ++ (part_spelling shown ++ (codes "$." ++ part_spelling more)))
part_spelling (Long name shown other more) =
    codes "$?" ++ (name_spelling name
    ++ (part_spelling shown
    ++ (codes "$|" ++ (part_spelling other ++ (codes "$." ++ part_spelling more)))))

-- each construct and each name of the part has its form
abbrev pub IsPart : Part → Type 0
IsPart Ends = Unit {0}
IsPart (One simple more) = IsSimple simple × IsPart more
IsPart (Short name shown more) = IsNamed name × IsPart shown × IsPart more
IsPart (Long name shown other more) = IsNamed name × IsPart shown × IsPart other × IsPart more

-- the value of a macro as it is set, or nothing
abbrev pub set_to : List (List ℕ × List ℕ) → List ℕ → List ℕ
set_to macros name = unwrap_or (value_at name macros) []

-- the part that is given, by the value of the test
abbrev pub chosen : List ℕ → Part → Part → Part
chosen [] shown other = other
chosen (byte ∷ value) shown other = shown

-- a whole value is these bytes, and then the value of the rest
abbrev pub Then : List ℕ → Result (List ℕ) ExpandFault → List ℕ → Type 0
Then first rest whole = (later : List ℕ) × (rest ≡ Ok later) × (whole ≡ first ++ later)

-- a whole value is the one value and then the other
abbrev pub Joins : Result (List ℕ) ExpandFault → Result (List ℕ) ExpandFault → List ℕ → Type 0
Joins one rest whole = (first : List ℕ) × (one ≡ Ok first) × Then first rest whole
