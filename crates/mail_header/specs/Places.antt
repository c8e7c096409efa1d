-- Where the addresses of a header stand (RFC 5322, sections 3.4 and 4.4; which members have a
-- place is our own).
use Rattle.std.specs.Prelude.{◌≡◌, ℕ, zero, suc, ◌+◌, ◌-◌, ◌<◌, ◌≤◌, ◌==◌, nat_lt, Bool, true, false, ◌&&◌, ◌||◌, List, [], ◌∷◌, length, take, drop, slice_get, Option, Some, None, Result, Ok, Err, find, filter_map, if◌then◌else◌, codes, refl}
use Rattle.std.specs.List.{list_any, count_by, prefix_len, suffix_len, slice_split}
use Rattle.addr_tokens.specs.declared.fault.ScanFault.{ScanFault}
use Rattle.addr_tokens.specs.declared.span.PieceKind.{PieceKind}
use Rattle.addr_tokens.specs.declared.span.PieceKind.TheVariants as kind
use Rattle.addr_tokens.specs.declared.span.PieceSpan.{PieceSpan}
use Rattle.addr_tokens.specs.Pieces.{plain}
use Rattle.addr_tokens.specs.Spans.{spans_or_fault}
use Rattle.mail_header.specs.declared.part.Part.{Part}
use Rattle.mail_header.specs.declared.span.Span.{Span}
use Rattle.mail_header.specs.Fields.{value_of}

-- ---- pieces of a value

-- this operator
abbrev pub is_op : ℕ → PieceKind → Bool
is_op byte kind.White = false
is_op byte kind.Comment = false
is_op byte kind.Quotation = false
is_op byte (kind.Operator found) = found == byte
is_op byte kind.Run = false

-- how many angles are open behind a piece, where so many are before it
abbrev pub depth_after : ℕ → PieceKind → ℕ
depth_after depth kind = if is_op 60 kind then depth + 1
    else if is_op 62 kind then depth - 1 else depth

-- a piece of a value before which so many bytes of the header stand, behind so many open angles
abbrev pub part_of : ℕ → ℕ → PieceSpan → Part
part_of before depth piece = record {
  kind = piece.kind;
  depth = depth;
  start = before + piece.start;
  end = before + (piece.start + piece.length);
}

abbrev pub parts_of : ℕ → ℕ → List PieceSpan → List Part
parts_of before depth [] = []
parts_of before depth (piece ∷ pieces) =
    part_of before depth piece ∷ parts_of before (depth_after depth piece.kind) pieces

-- outside of angles a comma ends a member, and a colon or a semicolon makes a group
abbrev pub is_comma : Part → Bool
is_comma part = part.depth == 0 && is_op 44 part.kind

abbrev pub is_group : Part → Bool
is_group part = part.depth == 0 && (is_op 58 part.kind || is_op 59 part.kind)

abbrev pub is_left : Part → Bool
is_left part = is_op 60 part.kind

abbrev pub is_right : Part → Bool
is_right part = is_op 62 part.kind

abbrev pub is_comment_kind : PieceKind → Bool
is_comment_kind kind.White = false
is_comment_kind kind.Comment = true
is_comment_kind kind.Quotation = false
is_comment_kind (kind.Operator found) = false
is_comment_kind kind.Run = false

abbrev pub is_comment : Part → Bool
is_comment part = is_comment_kind part.kind

-- a comment or white space
abbrev pub is_gap_kind : PieceKind → Bool
is_gap_kind kind.White = true
is_gap_kind kind.Comment = true
is_gap_kind kind.Quotation = false
is_gap_kind (kind.Operator found) = false
is_gap_kind kind.Run = false

abbrev pub is_gap : Part → Bool
is_gap part = is_gap_kind part.kind

-- ---- the place of a member

-- what stands between two bytes of the header, where that is not empty
abbrev pub span_from : ℕ → ℕ → Option Span
span_from start end =
    if nat_lt start end then Some (record { start = start; length = end - start }) else None

-- what stands between a `<` and a `>`
abbrev pub span_between : Option Part → Option Part → Option Span
span_between (Some left) (Some right) = span_from left.end right.start
span_between (Some left) None = None
span_between None right = None

-- what stands from a first part to a last one
abbrev pub span_over : Option Part → Option Part → Option Span
span_over (Some first) (Some last) = span_from first.start last.end
span_over (Some first) None = None
span_over None last = None

-- a member without the comments and the white space at its front
abbrev pub without_gaps : List Part → List Part
without_gaps member = drop (prefix_len is_gap member) member

-- a member without those at both ends
abbrev pub stripped : List Part → List Part
stripped member = let rest = without_gaps member in
    take (length rest - suffix_len is_gap rest) rest

-- the place of a member without angles: what is left of it, where that holds no comment
abbrev pub bare_place : List Part → Option Span
bare_place parts = if list_any is_comment parts then None
    else span_over (slice_get parts 0) (slice_get parts (length parts - 1))

-- the place of a member that has so many pairs of angles: with one that between them, with more
-- none
abbrev pub place_by : ℕ → List Part → Option Span
place_by zero member = bare_place (stripped member)
place_by (suc zero) member = span_between (find is_left member) (find is_right member)
place_by (suc (suc pairs)) member = None

abbrev pub place_of : List Part → Option Span
place_of member = place_by (count_by is_left member) member

-- ---- the places of a header

-- those of the members, which stand between commas; none where there is a group
abbrev pub places_in : List Part → List Span
places_in parts =
    if list_any is_group parts then [] else filter_map place_of (slice_split is_comma parts)

-- none where the value can't be cut with its angles checked
abbrev pub places_read : ℕ → Result (List PieceSpan) ScanFault → List Span
places_read before (Ok pieces) = places_in (parts_of before 0 pieces)
places_read before (Err fault) = []

-- the places of addresses in a header: those in its value
unfoldable pub places_of : List ℕ → List Span
places_of header = places_read (length header - length (value_of header))
    (spans_or_fault (plain (codes ":")) true (value_of header))

abbrev place : ℕ → ℕ → Span
place start n = record { start = start; length = n }

-- a comment at an end is passed over, and a comma in quotes ends no member; a group, and a quote
-- that isn't closed, leave no place
example :
    (places_of (codes "To: Ann <a@b>, c@d (x), \"e,f\"@g") ≡ place 9 3 ∷ place 15 3 ∷ place 24 7 ∷ [])
    × (places_of (codes "To: us: a@b;") ≡ []) × (places_of (codes "To: a@b, \"c") ≡ [])
    × (places_of (codes "To: <a@b> <c@d>, , (e) f (g) h, i j") ≡ place 32 3 ∷ [])
unfolding places_of
example = (refl, refl, refl, refl)

-- places that aren't empty, each behind the one before it, between two bytes of a header
abbrev pub AreApart : ℕ → List Span → ℕ → Type 0
AreApart from [] to = from ≤ to
AreApart from (span ∷ spans) to =
    (from ≤ span.start) × (0 < span.length) × AreApart (span.start + span.length) spans to
