-- How bytes of input are read, one by one and line by line.
use Rattle.std.proofs.Common.{◌≡◌, ℕ, ◌+◌, ◌-◌, ◌<◌, ◌≤◌, ◌==◌, Bool, true, false, ◌&&◌, List, [], ◌∷◌, ◌++◌, length, get_or, take, drop, Some, None, Result, OnOk, refl, sym, ap, ◌∙◌, subst, arith}
use Rattle.std.specs.Prelude.{fold}
use Rattle.std.specs.List.{All}
use Rattle.std.specs.Str.Lines.{strip_carriage_return}
use Rattle.std.proofs.lemmas.Bool.{cond-true, cond-false, cond_both, eqb-true, false_from_ne_true}
use Rattle.std.proofs.lemmas.Slice.Eq.{bytes_eq-Decides}
use Rattle.std.proofs.lemmas.List.{append-nil, append_assoc, get_or-take, length-take-le, take-append-drop, take_all, take_more}
use Rattle.std.proofs.lemmas.List.Concat.{flat_map-append}
use Rattle.std.proofs.lemmas.List.Elements.{All-from_get_or, All-head, All-tail}
use Rattle.std.proofs.lemmas.List.Folds.{fold_stays}
use Rattle.std.proofs.lemmas.List.Sums.{fold-append, fold_push}
use Rattle.std.proofs.lemmas.Result.{on_ok_weaker}
use Rattle.bstr.specs.Find.{IsFirstByte, is_byte}
use Rattle.mail_header.specs.Fields.{is_feed}
use Rattle.mail_header.specs.Headers.{text_of, with_end}
use Rattle.mail_submit.specs.Inputs.{Holds, Reading, Stands, counted, is_dot, is_last, message_of, nothing, read, size_of, with_byte, with_feed}
use Rattle.std.proofs.Math.Seq.{take-add}
use Rattle.mail_submit.specs.Parts.{Parts}
use Rattle.mail_submit.specs.declared.held.Held.{Held}

-- ---- bytes

-- behind the line `.` no byte counts
pub stuck : (dot : Bool) (r : Reading) (bytes : List ℕ) → r.ended ≡ true → fold (with_byte dot) r bytes ≡ r
stuck dot r bytes ended = fold_stays (with_byte dot) r (λ b. cond-true r.ended r _ ended) bytes

-- a byte that isn't LF is one of the line
one_plain : (dot : Bool) (r : Reading) (b : ℕ) → r.ended ≡ false → is_feed b ≡ false → with_byte dot r b ≡ record r { line = r.line ++ b ∷ [] }
one_plain dot r b going plain =
    cond-false r.ended r _ going ∙ cond-false (is_feed b) (with_feed dot r) (record r { line = r.line ++ b ∷ [] }) plain

-- an LF ends a line
one_feed : (dot : Bool) (r : Reading) → r.ended ≡ false → with_byte dot r 10 ≡ with_feed dot r
one_feed dot r going = cond-false r.ended r _ going

-- bytes of which none is LF are bytes of the line
plain : (dot : Bool) (r : Reading) (bytes : List ℕ) → r.ended ≡ false → All (λ b. is_feed b ≡ false) bytes → fold (with_byte dot) r bytes ≡ record r { line = r.line ++ bytes }
plain dot r [] going all = ap (λ l. record r { line = l }) (sym (append-nil r.line))
plain dot r (b ∷ bytes) going all =
    let here = one_plain dot r b going (All-head (λ b. is_feed b ≡ false) b bytes all) in
    ap (λ q. fold (with_byte dot) q bytes) here
    ∙ plain dot (record r { line = r.line ++ b ∷ [] }) bytes going (All-tail (λ b. is_feed b ≡ false) b bytes all)
    ∙ ap (λ l. record r { line = l }) (append_assoc r.line (b ∷ []) bytes)

-- a search for LF that finds none, and what stands before the one that it finds
none_plain : (bytes : List ℕ) → IsFirstByte (is_byte 10) bytes None → All (λ b. is_feed b ≡ false) bytes
none_plain bytes none = All-from_get_or (λ b. is_feed b ≡ false) bytes 0 (λ i lt. false_from_ne_true _ (none i (omega arith) lt))

front_plain : (bytes : List ℕ) (end : ℕ) → IsFirstByte (is_byte 10) bytes (Some end) → All (λ b. is_feed b ≡ false) (take end bytes)
front_plain bytes end found =
    let low : end < length bytes = found.0.high in
    let size : length (take end bytes) ≡ end = length-take-le end bytes (omega arith) in
    All-from_get_or (λ b. is_feed b ≡ false) (take end bytes) 0
    (λ i lt. ap is_feed (get_or-take end bytes i 0 (omega (arith, size, lt))) ∙ false_from_ne_true _ (found.0.before i (omega arith) (omega (arith, size, lt))))

-- ---- lines

pub all_read : (dot : Bool) (r : Reading) (bytes : List ℕ) → r.ended ≡ false → IsFirstByte (is_byte 10) bytes None → fold (with_byte dot) r bytes ≡ record r { line = r.line ++ bytes }
all_read dot r bytes going none = plain dot r bytes going (none_plain bytes none)

pub front_read : (dot : Bool) (r : Reading) (bytes : List ℕ) (end : ℕ) → r.ended ≡ false → IsFirstByte (is_byte 10) bytes (Some end)
    → fold (with_byte dot) r (take (end + 1) bytes) ≡ with_feed dot (record r { line = r.line ++ take end bytes })
front_read dot r bytes end going found =
    let low : end < length bytes = found.0.high in
    let byte : get_or bytes end 0 ≡ 10 = eqb-true _ _ found.1 in
    let mid : Reading = record r { line = r.line ++ take end bytes } in
    ap (fold (with_byte dot) r) (take_more bytes end 0 low ∙ ap (λ b. take end bytes ++ b ∷ []) byte)
    ∙ fold_push (with_byte dot) r (take end bytes) 10
    ∙ ap (λ q. with_byte dot q 10) (plain dot r (take end bytes) going (front_plain bytes end found))
    ∙ one_feed dot mid going

-- ---- what is held

-- bytes of the line more
stands_line : (h : Held) (dot : Bool) (r : Reading) (bytes : List ℕ) → Stands h dot r
    → Stands (record h { buffer = record h.buffer { line = h.buffer.line ++ bytes } }) dot (record r { line = r.line ++ bytes })
stands_line h dot r bytes s = record { counts = s.counts; text = s.text; line = ap (λ l. l ++ bytes) s.line; ended = s.ended }

with_buffer : (h : Held) (dot : Bool) (r : Reading) (a b : Parts) → a ≡ b → Stands (record h { buffer = b }) dot r → Stands (record h { buffer = a }) dot r
with_buffer h dot r a b is s = subst (λ p. Stands (record h { buffer = p }) dot r) (sym is) s

-- a piece without LF
pub takes_all : (h : Held) (b : Parts) (bytes : List ℕ) (n : ℕ) → h.ended ≡ false → b ≡ record h.buffer { line = h.buffer.line ++ bytes } → IsFirstByte (is_byte 10) bytes None → n ≡ length bytes
    → (dot : Bool) (r : Reading) → Stands h dot r → Stands (record h { buffer = b }) dot (fold (with_byte dot) r (take n bytes))
takes_all h b bytes n going b_is none all dot r s =
    let read_is : fold (with_byte dot) r (take n bytes) ≡ record r { line = r.line ++ bytes } =
    ap (fold (with_byte dot) r) (take_all n bytes (omega (arith, all))) ∙ all_read dot r bytes (sym s.ended ∙ going) none in
    subst (Stands (record h { buffer = b }) dot) (sym read_is) (with_buffer h dot (record r { line = r.line ++ bytes }) b _ b_is (stands_line h dot r bytes s))

-- a piece up to its first LF, where the LF is taken behind it
pub takes_front : (h new : Held) (b : Parts) (bytes front : List ℕ) (end : ℕ) → h.ended ≡ false → front ≡ take end bytes → b ≡ record h.buffer { line = h.buffer.line ++ front }
    → IsFirstByte (is_byte 10) bytes (Some end)
    → ((dot : Bool) (r : Reading) → Stands (record h { buffer = b }) dot r → r.ended ≡ false → Stands new dot (with_feed dot r))
    → (dot : Bool) (r : Reading) → Stands h dot r → Stands new dot (fold (with_byte dot) r (take (end + 1) bytes))
takes_front h new b bytes front end going front_is b_is found feeds dot r s =
    let goes : r.ended ≡ false = sym s.ended ∙ going in
    let mid : Reading = record r { line = r.line ++ take end bytes } in
    let line_is : b ≡ record h.buffer { line = h.buffer.line ++ take end bytes } = b_is ∙ ap (λ f. record h.buffer { line = h.buffer.line ++ f }) front_is in
    subst (Stands new dot) (sym (front_read dot r bytes end goes found)) (feeds dot mid (with_buffer h dot mid b _ line_is (stands_line h dot r (take end bytes) s)) goes)

same_test : (h : Held) (dot : Bool) (r : Reading) (b : Bool) → Stands h dot r → (h.dot && is_dot h.buffer.line) ≡ b → (dot && is_dot r.line) ≡ b
same_test h dot r b s is = sym (ap (λ d. d && is_dot h.buffer.line) s.counts ∙ ap (λ l. dot && is_dot l) s.line) ∙ is

-- an LF behind the line `.`
pub dot_ends : (h : Held) → (h.dot && is_dot h.buffer.line) ≡ true → (dot : Bool) (r : Reading) → Stands h dot r → r.ended ≡ false → Stands (record h { ended = true }) dot (with_feed dot r)
dot_ends h is dot r s going =
    subst (Stands (record h { ended = true }) dot) (sym (cond-true (dot && is_dot r.line) (record r { ended = true }) _ (same_test h dot r true s is)))
    (record { counts = s.counts; text = s.text; line = s.line; ended = refl })

text_more : (lines : List (List ℕ)) (line : List ℕ) → text_of (lines ++ line ∷ []) ≡ text_of lines ++ with_end line
text_more lines line = flat_map-append with_end lines (line ∷ []) ∙ ap (λ t. text_of lines ++ t) (append-nil (with_end line))

-- what is held where the line is ended
abbrev pub closed : Held → Held
closed h = record h { buffer = record { text = h.buffer.text ++ with_end (strip_carriage_return h.buffer.line); line = [] } }

text_closed : (h : Held) (dot : Bool) (r : Reading) → Stands h dot r → h.buffer.text ++ with_end (strip_carriage_return h.buffer.line) ≡ text_of (r.lines ++ strip_carriage_return r.line ∷ [])
text_closed h dot r s = ap (λ t. t ++ with_end (strip_carriage_return h.buffer.line)) s.text ∙ ap (λ l. text_of r.lines ++ with_end (strip_carriage_return l)) s.line ∙ sym (text_more r.lines (strip_carriage_return r.line))

abbrev ended_parts : List ℕ → Parts
ended_parts text = record { text = text; line = [] }

-- how it is ended
pub closes : {T E : Type 0} (result : Result T E) (h : Held) (b : Parts) (line end : List ℕ) → line ≡ h.buffer.line → line ++ end ≡ with_end (strip_carriage_return line)
    → OnOk result (b ≡ record { text = h.buffer.text ++ (h.buffer.line ++ end); line = [] }) → OnOk result (record h { buffer = b } ≡ closed h)
closes result h b line end line_is end_is =
    let whole : h.buffer.line ++ end ≡ with_end (strip_carriage_return h.buffer.line) = subst (λ l. l ++ end ≡ with_end (strip_carriage_return l)) line_is end_is in
    on_ok_weaker result (λ is. ap (λ p. record h { buffer = p }) (is ∙ ap (λ t. ended_parts (h.buffer.text ++ t)) whole))

-- an LF behind another line
pub line_ends : (h new : Held) → (h.dot && is_dot h.buffer.line) ≡ false → new ≡ closed h → (dot : Bool) (r : Reading) → Stands h dot r → r.ended ≡ false → Stands new dot (with_feed dot r)
line_ends h new is new_is dot r s going =
    subst (λ n. Stands n dot (with_feed dot r)) (sym new_is)
    (subst (Stands (closed h) dot) (sym (cond-false (dot && is_dot r.line) _ (record r { lines = r.lines ++ strip_carriage_return r.line ∷ []; line = [] }) (same_test h dot r false s is)))
    (record { counts = s.counts; text = text_closed h dot r s; line = refl; ended = s.ended }))

-- ---- the end of input

same_last : (h : Held) (dot : Bool) (r : Reading) (b : Bool) → Stands h dot r → is_last h.dot h.buffer.line ≡ b → is_last dot r.line ≡ b
same_last h dot r b s is = sym (ap (λ d. is_last d h.buffer.line) s.counts ∙ ap (is_last dot) s.line) ∙ is

-- a last line is ended
pub last_ends : (h new : Held) → is_last h.dot h.buffer.line ≡ true → new ≡ closed h → (dot : Bool) (r : Reading) → Stands h dot r → new.buffer.text ≡ message_of dot r
last_ends h new is new_is dot r s =
    ap (λ (n : Held). n.buffer.text) new_is ∙ text_closed h dot r s ∙ ap (λ l. text_of (r.lines ++ l)) (sym (cond-true (is_last dot r.line) (strip_carriage_return r.line ∷ []) [] (same_last h dot r true s is)))

-- there is no last line
pub none_last : (h : Held) → is_last h.dot h.buffer.line ≡ false → (dot : Bool) (r : Reading) → Stands h dot r → h.buffer.text ≡ message_of dot r
none_last h is dot r s =
    s.text ∙ ap text_of (sym (append-nil r.lines) ∙ ap (λ l. r.lines ++ l) (sym (cond-false (is_last dot r.line) (strip_carriage_return r.line ∷ []) [] (same_last h dot r false s is))))

-- ---- sizes

pub size_stands : (h : Held) (dot : Bool) (r : Reading) → Stands h dot r → length h.buffer.text + counted h.buffer.line ≡ size_of r
size_stands h dot r s = ap (λ t. length t + counted h.buffer.line) s.text ∙ ap (λ l. length (text_of r.lines) + counted l) s.line

-- ---- a piece line by line

-- more of a piece
pub takes_more : (dot : Bool) (r : Reading) (piece rest : List ℕ) (place n : ℕ) → rest ≡ drop place piece
    → fold (with_byte dot) (fold (with_byte dot) r (take place piece)) (take n rest) ≡ fold (with_byte dot) r (take (place + n) piece)
takes_more dot r piece rest place n rest_is =
    let cut : take place piece ++ take n rest ≡ take (place + n) piece =
    ap (λ t. take place piece ++ take n t) rest_is ∙ sym (take-add place n piece) in
    sym (fold-append (with_byte dot) r (take place piece) (take n rest)) ∙ ap (fold (with_byte dot) r) cut

-- at its end, or where the line `.` ended input
pub takes_end : (dot : Bool) (r : Reading) (piece : List ℕ) (place : ℕ) → length piece ≤ place → fold (with_byte dot) r (take place piece) ≡ fold (with_byte dot) r piece
takes_end dot r piece place all = ap (fold (with_byte dot) r) (take_all place piece all)

pub takes_stuck : (dot : Bool) (r : Reading) (piece : List ℕ) (place : ℕ) → (fold (with_byte dot) r (take place piece)).ended ≡ true → fold (with_byte dot) r (take place piece) ≡ fold (with_byte dot) r piece
takes_stuck dot r piece place ended =
    sym (stuck dot (fold (with_byte dot) r (take place piece)) (drop place piece) ended)
    ∙ sym (fold-append (with_byte dot) r (take place piece) (drop place piece)) ∙ ap (fold (with_byte dot) r) (take-append-drop place piece)

-- ---- all bytes so far

-- a piece more
pub read_more : (dot : Bool) (bytes piece : List ℕ) → read dot (bytes ++ piece) ≡ fold (with_byte dot) (read dot bytes) piece
read_more dot bytes piece = fold-append (with_byte dot) nothing bytes piece

pub holds_more : (h new : Held) (piece : List ℕ) → ((dot : Bool) (r : Reading) → Stands h dot r → Stands new dot (fold (with_byte dot) r piece))
    → (dot : Bool) (bytes : List ℕ) → Holds h dot bytes → Holds new dot (bytes ++ piece)
holds_more h new piece stands dot bytes holds = subst (Stands new dot) (sym (read_more dot bytes piece)) (stands dot (read dot bytes) holds)

pub ended_more : (h new : Held) (piece : List ℕ) → ((dot : Bool) (r : Reading) → Stands h dot r → Stands new dot (fold (with_byte dot) r piece))
    → (dot : Bool) (bytes : List ℕ) → Holds h dot bytes → new.ended ≡ (read dot (bytes ++ piece)).ended
ended_more h new piece stands dot bytes holds = (holds_more h new piece stands dot bytes holds).ended

pub within_more : (h new : Held) (piece : List ℕ) (most : ℕ) → ((dot : Bool) (r : Reading) → Stands h dot r → Stands new dot (fold (with_byte dot) r piece))
    → length new.buffer.text + counted new.buffer.line ≤ most → (dot : Bool) (bytes : List ℕ) → Holds h dot bytes → size_of (read dot (bytes ++ piece)) ≤ most
within_more h new piece most stands within dot bytes holds =
    omega (arith, within, size_stands new dot (read dot (bytes ++ piece)) (holds_more h new piece stands dot bytes holds))

-- a size above a limit
pub above_more : (h new : Held) (piece : List ℕ) (most : ℕ) → ((dot : Bool) (r : Reading) → Stands h dot r → Stands new dot (fold (with_byte dot) r piece))
    → most < length new.buffer.text + counted new.buffer.line → (dot : Bool) (r : Reading) → Stands h dot r → most < size_of (fold (with_byte dot) r piece)
above_more h new piece most stands above dot r s = omega (arith, above, size_stands new dot (fold (with_byte dot) r piece) (stands dot r s))

-- ---- the ends of lines

return_line : (line : List ℕ) → (get_or line (length line - 1) 0 == 13) ≡ true → line ≡ take (length line - 1) line ++ 13 ∷ []
return_line line is =
    let byte : get_or line (length line - 1) 0 ≡ 13 = eqb-true _ _ is in
    let some : 0 < length line = positive line byte in
    sym (take_all (length line - 1 + 1) line (omega arith)) ∙ take_more line (length line - 1) 0 (omega arith) ∙ ap (λ b. take (length line - 1) line ++ b ∷ []) byte
  where
    positive : (l : List ℕ) → get_or l (length l - 1) 0 ≡ 13 → 0 < length l
    positive [] e = absurd (omega (arith, e))
    positive (b ∷ l) e = omega arith

-- an LF behind a CR, and both behind another line
pub return_end : (line : List ℕ) → (get_or line (length line - 1) 0 == 13) ≡ true → line ++ 10 ∷ [] ≡ strip_carriage_return line ++ (13 ∷ 10 ∷ [])
return_end line is =
    ap (λ l. l ++ 10 ∷ []) (return_line line is) ∙ append_assoc (take (length line - 1) line) (13 ∷ []) (10 ∷ [])
    ∙ ap (λ l. l ++ (13 ∷ 10 ∷ [])) (sym (cond-true (get_or line (length line - 1) 0 == 13) (take (length line - 1) line) line is))

pub plain_end : (line : List ℕ) → (get_or line (length line - 1) 0 == 13) ≡ false → line ++ (13 ∷ 10 ∷ []) ≡ strip_carriage_return line ++ (13 ∷ 10 ∷ [])
plain_end line is = ap (λ l. l ++ (13 ∷ 10 ∷ [])) (sym (cond-false (get_or line (length line - 1) 0 == 13) (take (length line - 1) line) line is))

-- ---- what doesn't count is at most two bytes

-- a line is no longer than what is left of it and a CR
pub strip_short : (line : List ℕ) → (length (strip_carriage_return line) ≤ length line) × (length line ≤ length (strip_carriage_return line) + 1)
strip_short line =
    cond_both (get_or line (length line - 1) 0 == 13) (take (length line - 1) line) line (λ l. (length l ≤ length line) × (length line ≤ length l + 1))
    (λ e. (omega (arith, length-take-le (length line - 1) line (omega arith)), omega (arith, length-take-le (length line - 1) line (omega arith))))
    (λ e. (omega arith, omega arith))

dot_short : (line : List ℕ) → is_dot line ≡ true → length line ≤ 2
dot_short line is = omega (arith, (strip_short line).1, ap length ((bytes_eq-Decides (strip_carriage_return line) (46 ∷ [])).0 is))

pub counted_short : (line : List ℕ) → (counted line ≤ length line) × (length line ≤ counted line + 2)
counted_short line =
    cond_both (is_dot line) 0 (length (strip_carriage_return line)) (λ n. (n ≤ length line) × (length line ≤ n + 2))
    (λ e. (omega arith, omega (arith, dot_short line e)))
    (λ e. ((strip_short line).0, omega (arith, (strip_short line).1)))
