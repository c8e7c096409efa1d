-- The parts that a control text is read in, as they are spelled and formed; together they are the
-- whole text (our own).
use Rattle.std.specs.Prelude.{◌≡◌, ◌≢◌, ℕ, ◌+◌, ◌-◌, ◌<◌, ◌≤◌, ◌^◌, Bool, true, false, ◌∷◌, ◌==◌, if◌then◌else◌, List, [], ◌++◌, Option, None, Some, IfSome, All, FitsSigned, Result, Ok, Err, codes, length, slice_index, ◌||◌}
use Rattle.std.specs.Int.{w64, w128}
use Rattle.std.specs.Fmt.{decimal, signed_decimal}
use Rattle.mail_base.specs.Texts.{IsBlank, IsHeader, IsLine, IsBracketed}
use Rattle.mail_base.specs.declared.message.Marks.{Marks}
use Rattle.std.specs.List.{flat_map}
use Rattle.mail_base.specs.declared.control.Control.{Control}
use Rattle.qf_format.specs.declared.stop.Stop.{Stop}
use Rattle.qf_format.specs.declared.stop.Stop.TheVariants.{Outside, Memory}
use Rattle.qf_format.specs.inner.Reading.{Whole, NoWhole}
use Rattle.mail_base.specs.declared.control.Parent.{Parent}
use Rattle.mail_base.specs.declared.control.Row.{Row}
use Rattle.qf_format.specs.declared.part.Place.{Place}
use Rattle.qf_format.specs.declared.part.Order.{Order}
use Rattle.qf_format.specs.declared.part.Envelope.{Envelope}
use Rattle.mail_base.specs.Names.{id_text}
use Rattle.qf_format.specs.Spelling.{eight_line, flags, header_lines, kept_lines, line, marks_line, order_lines, parent_line, place_lines, row_lines, sender_lines, spelled}
use Rattle.qf_format.specs.Valid.{IsParent, IsRevision, IsRow, IsValid}

-- a letter stands first
abbrev pub At : ℕ → List ℕ → Type 0
At letter bytes = slice_index bytes 0 ≡ letter

-- a letter doesn't stand first
abbrev pub NotAt : ℕ → List ℕ → Type 0
NotAt letter bytes = slice_index bytes 0 ≢ letter

-- a number that a u64 holds
abbrev pub IsSmall : ℕ → Type 0
IsSmall n = n < 2 ^ 64

-- neither a plus nor a zero before other digits stands first
abbrev pub IsPlain : List ℕ → Type 0
IsPlain bytes = (slice_index bytes 0 ≢ 43) × (slice_index bytes 0 ≡ 48 → length bytes ≤ 1)

-- some letter is set
abbrev pub IsMarked : Marks → Type 0
IsMarked marks = (marks.bounce || (marks.double || marks.warned)) ≡ true

-- the lines of a place: version, revision, parent and group
unfoldable pub place_text : Place → List ℕ
place_text p = line (codes "V1") ++ line (codes "v" ++ decimal p.revision) ++ parent_line p.parent
    ++ line (codes "g" ++ p.group)

-- a place has its forms
pub record IsPlace (p : Place) : Type 0 where
  pub revision_range : IsRevision p.revision
  pub parent_form : IfSome p.parent IsParent
  pub group_form : IsLine p.group

-- the lines of an order: creation, last try, tries, priority and class
unfoldable pub order_text : Order → List ℕ
order_text o = line (codes "T" ++ decimal o.created) ++ line (codes "K" ++ decimal o.last_try)
    ++ line (codes "N" ++ decimal o.tries)
    ++ line (codes "P" ++ signed_decimal o.priority) ++ line (codes "c" ++ signed_decimal o.class)

-- the numbers of an order are in their ranges
pub record IsOrder (o : Order) : Type 0 where
  pub created_range : o.created < 2 ^ 64
  pub last_try_range : o.last_try < 2 ^ 64
  pub tries_range : o.tries < 2 ^ 64
  pub priority_range : FitsSigned w128 o.priority
  pub class_range : FitsSigned w64 o.class

-- the lines of an envelope: marks, body type and sender
unfoldable pub envelope_text : Envelope → List ℕ
envelope_text e = marks_line e.marks ++ eight_line e.eight ++ line (codes "S" ++ e.sender)

-- the sender stands in angle brackets
pub record IsEnvelope (e : Envelope) : Type 0 where
  pub sender_form : IsBracketed e.sender

-- a note behind a space, if there is one
abbrev pub queued_text : Option (List ℕ) → List ℕ
queued_text None = []
queued_text (Some note) = codes " " ++ note

-- each is a row, however many there are
abbrev pub EachRow : List Row → Type 0
EachRow rows = All IsRow rows

-- each is a header
abbrev pub EachHeader : List (List ℕ) → Type 0
EachHeader headers = All IsHeader headers

-- the line of an address, which may be primary
abbrev pub address_line : Bool → List ℕ → List ℕ
address_line primary address = line (codes "R" ++ (flags primary ++ (codes ":" ++ address)))

-- no header goes on here
abbrev pub NotBlank : List ℕ → Type 0
NotBlank bytes = ¬ (IsBlank (slice_index bytes 0))

-- a header ends at that place
abbrev pub EndsAt : List ℕ → ℕ → Type 0
EndsAt text k = (slice_index text k ≡ 10) × ¬ (IsBlank (slice_index text (k + 1)))

-- the first place at which a header ends, if there is one
abbrev pub IsHeaderEnd : List ℕ → Option ℕ → Type 0
IsHeaderEnd text None = (k : ℕ) → EndsAt text k → ⊥
IsHeaderEnd text (Some at) =
    (at < length text) × EndsAt text at × ((k : ℕ) → k < at → EndsAt text k → ⊥)

-- a parent, if there is one, has its form
abbrev pub IsParentOrNone : Option Parent → Type 0
IsParentOrNone parent = IfSome parent IsParent

-- an id, a space and a revision
abbrev pub parent_text : Parent → List ℕ
parent_text parent = id_text parent.id ++ (codes " " ++ decimal parent.revision)

-- any marks have a line, or none
abbrev pub AnyMarks : Marks → Type 0
AnyMarks marks = Unit {0}

-- either will do
abbrev pub AnyBool : Bool → Type 0
AnyBool eight = Unit {0}

-- whether a letter is first, and what comes after it
abbrev pub letter_first : ℕ → List ℕ → Bool × List ℕ
letter_first letter [] = (false, [])
letter_first letter (b ∷ bytes) = if b == letter then (true, bytes) else (false, b ∷ bytes)

-- a text begins with `<` and ends with `>`
abbrev pub HasBrackets : List ℕ → Type 0
HasBrackets text = (slice_index text 0 ≡ 60) × (slice_index text (length text - 1) ≡ 62)

-- a control text without its last line
unfoldable pub control_front : Control → List ℕ
control_front c = place_lines c ++ order_lines c ++ sender_lines c ++ kept_lines c.kept
    ++ flat_map row_lines c.rows ++ flat_map header_lines c.headers

-- the whole bytes are the text of a control, and of no other, or of none
abbrev pub Parses : List ℕ → Result Control Stop → Type 0
Parses bytes (Ok c) = Whole spelled IsValid bytes c
Parses bytes (Err Outside) = NoWhole spelled IsValid bytes
Parses bytes (Err Memory) = Unit {0}
