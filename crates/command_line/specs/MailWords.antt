-- The words of a run that hands mail over (Sendmail Installation and Operation Guide, "Command Line
-- Flags": `-t`, `-f`, `-i` and `-oi`; what is refused, and where, is our own).
use Rattle.std.specs.Prelude.{◌≡◌, ◌&&◌, ◌||◌, ◌==◌, ℕ, Bool, true, false, not, List, [], ◌∷◌, ◌++◌, codes, option_to_list, None, refl}
use Rattle.std.specs.Option.{is_some}
use Rattle.std.specs.List.{flat_map}
use Rattle.mail_base.specs.Texts.{has_lf}
use Rattle.mail_base.specs.Configs.{default_options}
use Rattle.addr_tokens.specs.Reader.{cut}
use Rattle.addr_tokens.specs.Scans.{most_tokens}
use Rattle.mail_submit.specs.declared.words.SubmitWords.{SubmitWords}

-- ---- texts

-- it isn't empty, and holds no LF
abbrev pub is_one_line : List ℕ → Bool
is_one_line [] = false
is_one_line (first ∷ others) = not (has_lf (first ∷ others))

-- it begins with `-`
abbrev pub is_dashed : List ℕ → Bool
is_dashed [] = false
is_dashed (first ∷ others) = first == 45

-- a word that is an address
abbrev pub is_address : List ℕ → Bool
is_address word = not (is_dashed word) && is_one_line word

-- a text that a `-f` takes: a line that can be cut into tokens, under the operators that addresses
-- have where no configuration names others; `<>` is the null sender
abbrev pub is_sender : List ℕ → Bool
is_sender text = is_one_line text && is_some (cut default_options.operator_chars true text)

-- ---- options

-- an option of mail as it is written: `-t`; `-i`; `-oi`; `-f` with its text in the same word; `-f`
-- with the next word as its text, whatever it begins with; an address
pub data MailWord : Type 0 where
  Gathers : MailWord
  Ignores : MailWord
  IgnoresToo : MailWord
  Sends : (text : List ℕ) (is : is_sender text ≡ true) → MailWord
  SendsApart : (text : List ℕ) (is : is_sender text ≡ true) → MailWord
  Names : (address : List ℕ) (is : is_address address ≡ true) → MailWord

-- the words of it
abbrev pub mail_spelling : MailWord → List (List ℕ)
mail_spelling Gathers = codes "-t" ∷ []
mail_spelling Ignores = codes "-i" ∷ []
mail_spelling IgnoresToo = codes "-oi" ∷ []
mail_spelling (Sends text is) = (codes "-f" ++ text) ∷ []
mail_spelling (SendsApart text is) = codes "-f" ∷ text ∷ []
mail_spelling (Names address is) = address ∷ []

-- one mark, or none
abbrev pub marks : Bool → List (Unit {0})
marks true = tt ∷ []
marks false = []

-- a mark for a `-t`
abbrev pub headers_in : MailWord → List (Unit {0})
headers_in Gathers = tt ∷ []
headers_in Ignores = []
headers_in IgnoresToo = []
headers_in (Sends text is) = []
headers_in (SendsApart text is) = []
headers_in (Names address is) = []

-- a mark for a `-i` or a `-oi`
abbrev pub dots_in : MailWord → List (Unit {0})
dots_in Gathers = []
dots_in Ignores = tt ∷ []
dots_in IgnoresToo = tt ∷ []
dots_in (Sends text is) = []
dots_in (SendsApart text is) = []
dots_in (Names address is) = []

-- the text of a `-f`
abbrev pub senders_in : MailWord → List (List ℕ)
senders_in Gathers = []
senders_in Ignores = []
senders_in IgnoresToo = []
senders_in (Sends text is) = text ∷ []
senders_in (SendsApart text is) = text ∷ []
senders_in (Names address is) = []

-- an address
abbrev pub addresses_in : MailWord → List (List ℕ)
addresses_in Gathers = []
addresses_in Ignores = []
addresses_in IgnoresToo = []
addresses_in (Sends text is) = []
addresses_in (SendsApart text is) = []
addresses_in (Names address is) = address ∷ []

-- ---- what they say together

-- what options of mail say: the line `.` ends the input where neither `-i` nor `-oi` is there, the
-- sender is the text of the `-f`, and the addresses stand in their order
pub record IsMail (options : List MailWord) (words : SubmitWords) : Type 0 where
  pub headers : flat_map headers_in options ≡ marks words.from_headers
  pub dot : flat_map dots_in options ≡ marks (not words.dot)
  pub sender : flat_map senders_in options ≡ option_to_list words.sender
  pub addresses : flat_map addresses_in options ≡ words.addresses

-- nothing is said of mail
abbrev pub no_mail : SubmitWords
no_mail = record { from_headers = false; dot = true; sender = None; addresses = [] }

abbrev pub has_some : List (List ℕ) → Bool
has_some [] = false
has_some (first ∷ others) = true

-- mail goes to someone: to those whom its headers name, or to an address
abbrev pub names_someone : SubmitWords → Bool
names_someone words = words.from_headers || has_some words.addresses

example : (is_address (codes "ann") ≡ true)
    × (is_address (codes "a\nb") ≡ false)
    × (is_address (codes "-a") ≡ false)
    × (is_address [] ≡ false)
    × (is_sender (codes "<>") ≡ true)
    × (is_sender (codes "bob@c.example") ≡ true)
    × (is_sender (codes "<bob@c>") ≡ true)
    × (is_sender (codes "bob(") ≡ false)
    × (is_sender (codes "a>b<c") ≡ false)
unfolding cut most_tokens
example = (refl, refl, refl, refl, refl, refl, refl, refl, refl)
