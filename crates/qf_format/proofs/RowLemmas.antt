-- Rows as they are read.
use Rattle.std.proofs.Common.{◌≡◌, ℕ, ◌<◌, ◌≤◌, Bool, false, List, [], ◌∷◌, ◌++◌, length, refl, ap, arith, length-append}
use Rattle.std.specs.Prelude.{IsTrue, codes}
use Rattle.std.proofs.lemmas.Bool.{false≢true}
use Rattle.std.specs.List.{flat_map}
use Rattle.mail_base.specs.Limits.{most_rows}
use Rattle.mail_base.specs.Texts.{IsAddress}
use Rattle.mail_base.specs.declared.control.Row.{Row}
use Rattle.mail_base.specs.declared.control.State.{State}
use Rattle.qf_format.specs.declared.stop.Stop.{Stop}
use Rattle.qf_format.specs.inner.Reading.{Front, NoFront, Stops, Anything}
use Rattle.qf_format.specs.inner.Parts.{address_line, At, NotAt, EachRow}
use Rattle.qf_format.specs.Spelling.{line, row_lines, state_text}
use Rattle.qf_format.specs.Valid.{AreRows, IsRow, IsState}
use Rattle.qf_format.proofs.ReadLemmas.{both, BothFormed, front_then, Retold, front_as}
use Rattle.qf_format.proofs.ListLemmas.{ReadSoFar, none_so_far, one_more, all_read, stuck, front_narrow, front_away, none_narrow, stop_first, stop_second, stop_as}
use Rattle.qf_format.proofs.ApartLemmas.{Apart, apart_then, apart_as, apart_fewer, list_apart}
use Rattle.qf_format.specs.declared.stop.Stop.TheVariants.{Outside, Memory}

-- the line of an address, whose flag and address are one value
abbrev pub AddressText : Bool × List ℕ → List ℕ
AddressText p = address_line p.0 p.1

-- the second of these two is an address
abbrev pub AddressForm : Bool × List ℕ → Type 0
AddressForm p = IsAddress p.1

-- the line of a state
abbrev pub state_line_text : State → List ℕ
state_line_text s = line (codes "e" ++ state_text s)

abbrev Parted : Type 0
Parted = (Bool × List ℕ) × State

abbrev row_from : Parted → Row
row_from p = record { address = p.0.1; primary = p.0.0; state = p.1 }

abbrev row_to : Row → Parted
row_to r = ((r.primary, r.address), r.state)

abbrev PartedText : Parted → List ℕ
PartedText = both AddressText AddressForm Anything state_line_text IsState Anything

abbrev PartedForm : Parted → Type 0
PartedForm = BothFormed AddressText AddressForm Anything state_line_text IsState Anything

retold : Retold PartedText PartedForm row_lines IsRow row_from row_to
unfolding row_lines
retold = record {
  back = λ y. refl;
  text_to = λ x. refl;
  text_from = λ y. refl;
  form_to = λ x h. record { address_form = h.0; state_form = h.1 };
  form_from = λ y h. (h.address_form, h.state_form);
}

on : (y : State) (z : List ℕ) → IsState y → Anything z → Anything (state_line_text y ++ z)
on y z h k = tt

-- a line of an address and a line of a state are read as a row
pub row_read : (bytes rest after address : List ℕ) (primary : Bool) (state : State) → Front AddressText AddressForm Anything bytes (primary, address) rest → Front state_line_text IsState Anything rest state after → Front row_lines IsRow Anything bytes (record { address = address; primary = primary; state = state }) after
row_read bytes rest after address primary state a b =
    front_as PartedText PartedForm row_lines IsRow row_from row_to Anything bytes ((primary, address), state) after retold (front_then AddressText AddressForm Anything state_line_text IsState Anything on bytes (primary, address) rest state after a b)

-- where no line of an address can be read, neither can a row
pub no_address : (bytes : List ℕ) (e : Stop) → Stops AddressText AddressForm Anything bytes e → Stops row_lines IsRow Anything bytes e
no_address bytes e h = stop_as PartedText PartedForm row_lines IsRow row_from row_to Anything bytes retold e (stop_first AddressText AddressForm Anything state_line_text IsState Anything on bytes e h)

-- where no line of a state can be read behind that of an address, neither can a row
pub no_state : (bytes rest address : List ℕ) (primary : Bool) → Front AddressText AddressForm Anything bytes (primary, address) rest → (e : Stop) → Stops state_line_text IsState Anything rest e → Stops row_lines IsRow Anything bytes e
no_state bytes rest address primary a e h =
    stop_as PartedText PartedForm row_lines IsRow row_from row_to Anything bytes retold e (stop_second AddressText AddressForm Anything state_line_text IsState Anything on bytes (primary, address) rest a e h)

-- ---- all rows

row_begins : (x : Row) (z : List ℕ) → At 82 (row_lines x ++ z)
unfolding row_lines
row_begins x z = refl

row_ends : (z : List ℕ) → NotAt 82 z → NotAt 82 z
row_ends z h = h

row_on : (xs : List Row) (z : List ℕ) → NotAt 82 z → Anything (flat_map row_lines xs ++ z)
row_on xs z h = tt

-- before any row was read, none was, and all bytes are the rest
pub no_rows_yet : (bytes : List ℕ) → ReadSoFar row_lines IsRow (NotAt 82) bytes [] bytes
no_rows_yet bytes = none_so_far row_lines IsRow Anything (NotAt 82) 82 row_begins row_ends row_on bytes

-- one row more was read, and what stands behind it is the rest
pub row_more : (bytes : List ℕ) (xs : List Row) (rest : List ℕ) (x : Row) (after : List ℕ) → ReadSoFar row_lines IsRow (NotAt 82) bytes xs rest → Front row_lines IsRow Anything rest x after → ReadSoFar row_lines IsRow (NotAt 82) bytes (xs ++ x ∷ []) after
row_more bytes = one_more row_lines IsRow Anything (NotAt 82) 82 row_begins row_ends row_on bytes

-- where no R follows, the rows so far are all of them
pub rows_read : (bytes : List ℕ) (xs : List Row) (rest : List ℕ) → ReadSoFar row_lines IsRow (NotAt 82) bytes xs rest → NotAt 82 rest → Front (flat_map row_lines) EachRow (NotAt 82) bytes xs rest
rows_read bytes = all_read row_lines IsRow Anything (NotAt 82) 82 row_begins row_ends row_on bytes

-- where an R follows and no row can be read there, the rows can't be read
pub row_stops : (bytes : List ℕ) (xs : List Row) (rest : List ℕ) → ReadSoFar row_lines IsRow (NotAt 82) bytes xs rest → At 82 rest → (e : Stop) → Stops row_lines IsRow Anything rest e → Stops (flat_map row_lines) EachRow (NotAt 82) bytes e
row_stops bytes xs rest r h Outside n = stuck row_lines IsRow Anything (NotAt 82) 82 row_begins row_ends row_on bytes xs rest r h n
row_stops bytes xs rest r h Memory n = tt

-- a row takes bytes away
pub row_shorter : (rest : List ℕ) (x : Row) (after : List ℕ) → Front row_lines IsRow Anything rest x after → length after < length rest
unfolding row_lines
row_shorter rest x after a = omega (arith, ap length a.parts, length-append (row_lines x) after, length-append (address_line x.primary x.address) (state_line_text x.state))

-- ---- at least one row, and not too many

rows_weaker : (xs : List Row) → AreRows xs → EachRow xs
rows_weaker xs h = h.each

-- rows that were read are read as the rows of a control, if there is one and not too many
pub rows_whole : (bytes : List ℕ) (xs : List Row) (rest : List ℕ) → Front (flat_map row_lines) EachRow (NotAt 82) bytes xs rest → AreRows xs → Front (flat_map row_lines) AreRows (NotAt 82) bytes xs rest
rows_whole bytes = front_narrow (flat_map row_lines) EachRow AreRows (NotAt 82) rows_weaker bytes

-- rows that were read and are none, or too many, are no rows of a control
pub rows_away : (bytes : List ℕ) (xs : List Row) (rest : List ℕ) → Front (flat_map row_lines) EachRow (NotAt 82) bytes xs rest → (AreRows xs → ⊥) → NoFront (flat_map row_lines) AreRows (NotAt 82) bytes
rows_away bytes = front_away (flat_map row_lines) EachRow AreRows (NotAt 82) rows_weaker bytes

-- what stops the reader of rows stops that of a control's rows
pub rows_stop : (bytes : List ℕ) (e : Stop) → Stops (flat_map row_lines) EachRow (NotAt 82) bytes e → Stops (flat_map row_lines) AreRows (NotAt 82) bytes e
rows_stop bytes Outside h = none_narrow (flat_map row_lines) EachRow AreRows (NotAt 82) rows_weaker bytes h
rows_stop bytes Memory h = tt

-- rows that were read are a control's, if there is one and not more than the limit
pub are_rows : (bytes : List ℕ) (xs : List Row) (rest : List ℕ) → Front (flat_map row_lines) EachRow (NotAt 82) bytes xs rest → 0 < length xs → length xs ≤ most_rows → AreRows xs
are_rows bytes xs rest a some few = record { some = some; few = few; each = a.is_formed }

-- more rows than the limit are no rows of a control
pub not_few : (xs : List Row) → most_rows < length xs → AreRows xs → ⊥
not_few xs h a = omega (arith, a.few)

-- no row at all is no rows of a control
pub no_empty : (xs : List Row) → xs ≡ [] → AreRows xs → ⊥
no_empty xs e a = omega (arith, a.some, ap length e)

-- rows that aren't empty have a length above 0
pub some_rows : (xs : List Row) → (xs ≡ [] → IsTrue false) → 0 < length xs
some_rows [] h = absurd (false≢true (h refl))
some_rows (x ∷ xs) h = omega arith

-- ---- rows are told apart

-- rows are told apart by their lines, as addresses and states are by theirs
pub row_apart : Apart AddressText AddressForm Anything → Apart state_line_text IsState Anything → Apart row_lines IsRow Anything
row_apart a b = apart_as PartedText PartedForm row_lines IsRow row_from row_to Anything retold (apart_then AddressText AddressForm Anything state_line_text IsState Anything on a b)

-- the rows of controls are told apart by their lines, as each row is
pub rows_apart : Apart row_lines IsRow Anything → Apart (flat_map row_lines) AreRows (NotAt 82)
rows_apart a = apart_fewer (flat_map row_lines) EachRow AreRows (NotAt 82) rows_weaker (list_apart row_lines IsRow Anything (NotAt 82) 82 row_begins row_ends row_on a)
