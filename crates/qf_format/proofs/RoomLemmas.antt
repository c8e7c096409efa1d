-- No text of a valid control is longer than its room.
use Rattle.std.proofs.Common.{◌≡◌, ℕ, suc, ◌+◌, ◌^◌, ◌<◌, ◌≤◌, Bool, true, false, List, [], ◌∷◌, ◌++◌, length, Option, Some, None, sum_by, arith, length-append, ℤ, pos, negsuc, ◌/◌, rules}
use Rattle.std.specs.Prelude.{All, IfSome, codes, FitsSigned}
use Rattle.std.specs.Int.{w64, w128}
use Rattle.std.specs.List.{flat_map}
use Rattle.std.specs.Fmt.{decimal, signed_decimal}
use Rattle.std.proofs.lemmas.Fmt.{length-decimal-le, length-decimal-le_wide}
use Rattle.std.proofs.lemmas.List.Elements.{All-head, All-tail}
use Rattle.std.proofs.lemmas.List.Sums.{sum_by-cons}
use Rattle.std.proofs.lemmas.Int.{ints}
use Rattle.mail_base.proofs.Digits.{length-digits}
use Rattle.mail_base.specs.Names.{id_text}
use Rattle.mail_base.specs.Notes.{is_status}
use Rattle.mail_base.specs.declared.control.Control.{Control}
use Rattle.mail_base.specs.declared.control.Parent.{Parent}
use Rattle.mail_base.specs.declared.control.Row.{Row}
use Rattle.mail_base.specs.declared.control.State.{State}
use Rattle.mail_base.specs.declared.control.State.TheVariants.{Queued, Sent, Failed, Returned, Dead}
use Rattle.mail_base.specs.declared.message.Kept.{Kept}
use Rattle.qf_format.specs.Spelling.{line, parent_line, marks_line, eight_line, cause, state_text, flags, row_lines, header_lines, place_lines, order_lines, sender_lines, kept_lines, spelled}
use Rattle.qf_format.specs.Valid.{IsValid, IsRow, IsState, IsCause, IsParent}
use Rattle.qf_format.proofs.StatusLemmas.{status_in}
use Rattle.qf_format.specs.Room.{SameTexts, addresses, row_room, header_room, room_of}

number_len : (n : ℕ) → n < 2 ^ 64 → length (decimal n) ≤ 20
number_len n h = length-decimal-le 20 n (omega arith) (omega arith) h

wide_len : (z : ℤ) → FitsSigned w128 z → length (signed_decimal z) ≤ 40
wide_len (pos n) h = let l = length-decimal-le_wide 39 n (omega arith) (omega (arith, ints)) (omega (arith, ints)) in omega arith
wide_len (negsuc n) h = let l = length-decimal-le_wide 39 (suc n) (omega arith) (omega (arith, ints)) (omega (arith, ints)) in omega arith

class_len : (z : ℤ) → FitsSigned w64 z → length (signed_decimal z) ≤ 20
class_len (pos n) h = let l = length-decimal-le 20 n (omega arith) (omega (arith, ints)) (omega (arith, ints)) in omega arith
class_len (negsuc n) h = let l = length-decimal-le 19 (suc n) (omega arith) (omega (arith, ints)) (omega (arith, ints)) in omega arith

line_len : (x : List ℕ) → length (line x) ≡ length x + 1
line_len x = length-append x (10 ∷ [])

id_len : (n : ℕ) → length (id_text n) ≡ 13
id_len n = omega (arith, length-digits 12 n)

parent_len : (p : Option Parent) → IfSome p IsParent → length (parent_line p) ≤ 36
parent_len None h = omega arith
parent_len (Some p) h = omega (arith, line_len (codes "p" ++ (id_text p.id ++ (codes " " ++ decimal p.revision))), length-append (id_text p.id) (codes " " ++ decimal p.revision), id_len p.id, number_len p.revision h.revision.most)

marks_len : (b d w : Bool) → length (marks_line (record { bounce = b; double = d; warned = w })) ≤ 5
marks_len true true true = omega arith
marks_len true true false = omega arith
marks_len true false true = omega arith
marks_len true false false = omega arith
marks_len false true true = omega arith
marks_len false true false = omega arith
marks_len false false true = omega arith
marks_len false false false = omega arith

eight_len : (b : Bool) → length (eight_line b) ≤ 10
eight_len true = omega arith
eight_len false = omega arith

place_len : (c : Control) → IsValid c → length (place_lines c) ≤ 63 + length c.group
unfolding place_lines
place_len c v = simp length-append (omega (arith, number_len c.revision v.revision_range.most, parent_len c.parent v.parent_form))

order_len : (c : Control) → IsValid c → length (order_lines c) ≤ 130
unfolding order_lines
order_len c v =
    simp length-append (omega (arith, number_len c.created v.created_range, number_len c.last_try v.last_try_range, number_len c.tries v.tries_range, wide_len c.priority v.priority_range, class_len c.class v.class_range))

sender_len : (c : Control) → length (sender_lines c) ≤ 17 + length c.sender
unfolding sender_lines
sender_len c = simp length-append (omega (arith, marks_len c.marks.bounce c.marks.double c.marks.warned, eight_len c.eight))

kept_len : (k : Kept) → length (kept_lines k) ≤ 21 + length k.protocol + length k.helo + length k.client
unfolding kept_lines
kept_len k = simp length-append (omega arith)

status_len : (s : List ℕ) → is_status s ≡ true → length s ≤ 9
status_len s h = (status_in s h).short

cause_len : (s n : List ℕ) → IsCause s n → length (cause s n) ≤ 523
cause_len s n h = omega (arith, status_len s h.status_form, h.note_form.short, length-append s (codes " " ++ n))

state_len : (s : State) → IsState s → length (line (codes "e" ++ state_text s)) ≤ 526
state_len (Queued None) h = omega arith
state_len (Queued (Some n)) h = omega (arith, line_len (codes "eQ " ++ n), h.short)
state_len Sent h = omega arith
state_len (Failed s n) h = omega (arith, line_len (codes "eF" ++ cause s n), cause_len s n h)
state_len (Returned id) h = omega (arith, line_len (codes "eR " ++ id_text id), id_len id)
state_len (Dead s n) h = omega (arith, line_len (codes "eD" ++ cause s n), cause_len s n h)

address_len : (p : Bool) (a : List ℕ) → length (line (codes "R" ++ (flags p ++ (codes ":" ++ a)))) ≤ 6 + length a
address_len true a = omega (arith, line_len (codes "RPFD:" ++ a))
address_len false a = omega (arith, line_len (codes "RFD:" ++ a))

row_len : (r : Row) → IsRow r → length (row_lines r) ≤ row_room r.address
unfolding row_lines row_room
row_len r h = omega (arith, address_len r.primary r.address, state_len r.state h.state_form, length-append (line (codes "R" ++ (flags r.primary ++ (codes ":" ++ r.address)))) (line (codes "e" ++ state_text r.state)))

rows_len : (rows : List Row) → All IsRow rows → length (flat_map row_lines rows) ≤ sum_by row_room (addresses rows)
rows_len [] h = omega arith
rows_len (r ∷ rows) h =
    let one = row_len r (All-head IsRow r rows h) in
    let more = rows_len rows (All-tail IsRow r rows h) in
    omega (arith, one, more, length-append (row_lines r) (flat_map row_lines rows), sum_by-cons row_room r.address (addresses rows))

header_len : (h : List ℕ) → length (header_lines h) ≤ header_room h
unfolding header_room
header_len h = omega (arith, line_len (codes "H" ++ h))

headers_len : (hs : List (List ℕ)) → length (flat_map header_lines hs) ≤ sum_by header_room hs
headers_len [] = omega arith
headers_len (h ∷ hs) = omega (arith, header_len h, headers_len hs, length-append (header_lines h) (flat_map header_lines hs), sum_by-cons header_room h hs)

alike : (one another : Control) → SameTexts one another → room_of another ≡ room_of one
unfolding room_of
alike one another same = search (rules, same.group, same.sender, same.kept, same.addresses, same.headers)

fits : (c : Control) → IsValid c → length (spelled c) ≤ room_of c
unfolding spelled room_of
fits c v =
    simp length-append (omega (arith, place_len c v, order_len c v, sender_len c, kept_len c.kept, rows_len c.rows v.rows_form.each, headers_len c.headers))

-- the text of a valid control with the texts of another is no longer than that one's room
pub text_fits_room : (c other : Control) → SameTexts c other → IsValid other → length (spelled other) ≤ room_of c
text_fits_room c other same v = omega (arith, fits other v, alike c other same)
