-- The parameters of MAIL (RFC 5321, section 4.1.1.11; RFC 1870, section 3, for SIZE; RFC 6152,
-- section 2, for BODY; that the last of two counts is our own).
use Rattle.std.specs.Prelude.{◌≡◌, ◌≤◌, ◌<◌, ℕ, Bool, true, false, List, [], ◌∷◌, ◌++◌, length, Option, Some, None, unwrap_or, filter, codes, refl}
use Rattle.std.specs.List.{list_all, slice_split}
use Rattle.std.specs.Char.{is_ascii_digit}
use Rattle.std.specs.Str.{str_eq_ignore_ascii_case}
use Rattle.std.specs.Str.Parse.{digits_value}
use Rattle.mail_base.specs.Texts.{is_blank}
use Rattle.smtp_lines.specs.declared.parameter.Given.{Given}
use Rattle.smtp_lines.specs.declared.parameter.Given.TheVariants.{Size, Body}

abbrev pub is_some_text : List ℕ → Bool
is_some_text [] = false
is_some_text (b ∷ text) = true

-- the words of a text: what isn't empty between its blanks
abbrev pub words_of : List ℕ → List (List ℕ)
words_of text = filter is_some_text (slice_split is_blank text)

-- what a size may be: 1 to 20 digits
pub record IsSize (digits : List ℕ) : Type 0 where
  pub some : 0 < length digits
  pub most : length digits ≤ 20
  pub all : list_all is_ascii_digit digits ≡ true

-- a parameter, whatever its case, with what it gives: the message's size, or whether its body has
-- bytes above 127
pub data IsParameter : List ℕ → Given → Type 0 where
  says_size : (key digits : List ℕ) → str_eq_ignore_ascii_case key (codes "SIZE=") ≡ true
      → IsSize digits → IsParameter (key ++ digits) (Size (digits_value 10 digits))
  says_seven : (word : List ℕ) → str_eq_ignore_ascii_case word (codes "BODY=7BIT") ≡ true
      → IsParameter word (Body false)
  says_eight : (word : List ℕ) → str_eq_ignore_ascii_case word (codes "BODY=8BITMIME") ≡ true
      → IsParameter word (Body true)

-- words that are parameters, with what they give in turn
pub data AreParameters : List (List ℕ) → List Given → Type 0 where
  no_more : AreParameters [] []
  one_more : (word : List ℕ) (words : List (List ℕ)) (given : Given) (later : List Given)
      → IsParameter word given → AreParameters words later
      → AreParameters (word ∷ words) (given ∷ later)

-- the sizes that are given, and what is said of the body
abbrev pub sizes_in : List Given → List ℕ
sizes_in [] = []
sizes_in (Size size ∷ later) = size ∷ sizes_in later
sizes_in (Body eight ∷ later) = sizes_in later

abbrev pub bodies_in : List Given → List Bool
bodies_in [] = []
bodies_in (Size size ∷ later) = bodies_in later
bodies_in (Body eight ∷ later) = eight ∷ bodies_in later

-- the last item, or the other where there is none
abbrev pub last_or : {A : Type 0} → Option A → List A → Option A
last_or other [] = other
last_or other (x ∷ later) = last_or (Some x) later

-- the words of a text are parameters, of which the last give this size, if any gives one, and
-- whether the body has 8 bits
pub record AreGiven (text : List ℕ) (size : Option ℕ) (eight : Bool) : Type 0 where
  pub given : List Given
  pub body : Option Bool
  pub are : AreParameters (words_of text) given
  pub size_is : last_or None (sizes_in given) ≡ size
  pub body_is : last_or None (bodies_in given) ≡ body
  pub eight_is : eight ≡ unwrap_or body false

example : (words_of (codes " SIZE=5  BODY=7BIT ") ≡ codes "SIZE=5" ∷ codes "BODY=7BIT" ∷ [])
    × (last_or None (sizes_in (Size 5 ∷ Body true ∷ Size 7 ∷ [])) ≡ Some 7)
example = (refl, refl)
