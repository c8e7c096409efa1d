-- The input is read to its end, or to the line `.`.
use Rattle.std.proofs.Common.{◌≡◌, inl, inr, ℕ, ◌+◌, ◌-◌, ◌<◌, ◌≤◌, ◌==◌, ◌&&◌, List, [], ◌∷◌, ◌++◌, length, take, fold, Bool, true, false, cond, Option, Some, None, Result, Ok, Err, refl, sym, ◌∙◌, ap, subst, arith, append-nil}
use Rattle.std.specs.Prelude.{IfSome, ◌↔◌, get_or}
use Rattle.std.specs.Str.Lines.{strip_carriage_return}
use Rattle.std.proofs.lemmas.Bool.{cond_both, cond-true, true≢false}
use Rattle.std.proofs.lemmas.List.{append_assoc, length-append, length-take-le}
use Rattle.std.proofs.lemmas.List.Sums.{fold-append}
use Rattle.std.proofs.lemmas.Grind.{flat_map-append}
use Rattle.mail_base.specs.Histories.{Rose}
use Rattle.mail_edge.specs.Moves.{Loses}
use Rattle.mail_edge.specs.Seen.{SourceSeen}
use Rattle.mail_header.specs.Fields.{is_feed}
use Rattle.mail_header.specs.Headers.{text_of, with_end}
use Rattle.mail_submit.specs.declared.held.Held.{Held}
use Rattle.mail_submit.specs.Inputs.{Holds, Reading, is_dot, nothing, read, size_of, with_byte, with_feed}
use Rattle.submit_run.specs.Inputs.{IsLarge, Takes}
use Rattle.submit_run.specs.inner.Reading.{ComesTo, IsUnderWay, Reads}
use Rattle.submit_run.specs.declared.reading.ReadEnd.{ReadEnd}
use Rattle.submit_run.specs.declared.reading.ReadEnd.TheVariants as reads

-- ---- what is held grows by each byte

-- the bytes of lines with their ends, and of what no LF ended
abbrev held : Reading → ℕ
held r = length (text_of r.lines) + length r.line

-- an ended line has all its bytes but a CR, and its end
closed_long : (lines : List (List ℕ)) (line : List ℕ) → length (text_of lines) + length line + 1 ≤ length (text_of (lines ++ strip_carriage_return line ∷ []))
closed_long lines line =
    let more : text_of (lines ++ strip_carriage_return line ∷ []) ≡ text_of lines ++ (with_end (strip_carriage_return line) ++ []) = flat_map-append with_end lines (strip_carriage_return line ∷ []) in
    let size = length-append (text_of lines) (with_end (strip_carriage_return line) ++ []) in
    let last = length-append (with_end (strip_carriage_return line)) [] in
    let end = length-append (strip_carriage_return line) (13 ∷ 10 ∷ []) in
    let short = strip_short line in
    omega (arith, ap length more, size, last, end, short)
  where
    strip_short : (line : List ℕ) → length line ≤ length (strip_carriage_return line) + 1
    strip_short line =
        cond_both (get_or line (length line - 1) 0 == 13) (take (length line - 1) line) line (λ l. length line ≤ length l + 1)
        (λ e. omega (arith, length-take-le (length line - 1) line (omega arith)))
        (λ e. omega arith)

grows : (dot : Bool) (r : Reading) (b : ℕ) → (with_byte dot r b).ended ≡ false → held r + 1 ≤ held (with_byte dot r b)
grows dot r b =
    cond_both r.ended r (cond (is_feed b) (with_feed dot r) (record r { line = r.line ++ b ∷ [] })) (λ (q : Reading). q.ended ≡ false → held r + 1 ≤ held q)
    (λ e h. absurd (true≢false (sym e ∙ h)))
    (λ e. cond_both (is_feed b) (with_feed dot r) (record r { line = r.line ++ b ∷ [] }) (λ (q : Reading). q.ended ≡ false → held r + 1 ≤ held q)
    (λ f. cond_both (dot && is_dot r.line) (record r { ended = true }) (record r { lines = r.lines ++ strip_carriage_return r.line ∷ []; line = [] }) (λ (q : Reading). q.ended ≡ false → held r + 1 ≤ held q)
    (λ d h. absurd (true≢false h))
    (λ d h. omega (arith, closed_long r.lines r.line)))
    (λ f h. omega (arith, length-append r.line (b ∷ []))))

-- behind the line `.` nothing changes
pub stuck : (dot : Bool) (r : Reading) (bytes : List ℕ) → r.ended ≡ true → fold (with_byte dot) r bytes ≡ r
stuck dot r [] e = refl
stuck dot r (b ∷ bytes) e =
    let here : with_byte dot r b ≡ r = cond-true r.ended r _ e in
    ap (λ (q : Reading). fold (with_byte dot) q bytes) here ∙ stuck dot r bytes e

-- a piece more
pub read_more : (dot : Bool) (bytes piece : List ℕ) → read dot (bytes ++ piece) ≡ fold (with_byte dot) (read dot bytes) piece
read_more dot bytes piece = fold-append (with_byte dot) nothing bytes piece

going_before : (dot : Bool) (r : Reading) (bytes : List ℕ) (e : Bool) → r.ended ≡ e → (fold (with_byte dot) r bytes).ended ≡ false → r.ended ≡ false
going_before dot r bytes false is h = is
going_before dot r bytes true is h = ap (λ (q : Reading). q.ended) (sym (stuck dot r bytes is)) ∙ h

longer : (dot : Bool) (r : Reading) (bytes : List ℕ) → (fold (with_byte dot) r bytes).ended ≡ false → held r + length bytes ≤ held (fold (with_byte dot) r bytes)
longer dot r [] h = omega arith
longer dot r (b ∷ bytes) h =
    let here = going_before dot (with_byte dot r b) bytes _ refl h in
    let one = grows dot r b here in
    let rest = longer dot (with_byte dot r b) bytes h in
    omega (arith, one, rest)

-- so input that no line `.` ended has no more bytes than are held
few_taken : (dot : Bool) (most : ℕ) (h : Held) (bytes : List ℕ) → Holds h dot bytes → (read dot bytes).ended ≡ false → length h.buffer.text + length h.buffer.line ≤ most + 2 → length bytes ≤ most + 2
few_taken dot most h bytes s going small =
    let long : held nothing + length bytes ≤ held (read dot bytes) = longer dot nothing bytes going in
    let text = ap length s.text in
    let line = ap length s.line in
    omega (arith, long, text, line, small)

-- ---- what is left of the input

pub loses_none : {X : Type 0} (left : Option (List X)) → Loses left left []
loses_none None = tt
loses_none (Some bytes) = refl

pub loses_more : {X : Type 0} (a b c : Option (List X)) (xs ys : List X) → Loses a b xs → Loses b c ys → Loses a c (xs ++ ys)
loses_more None None None xs ys h k = tt
loses_more (Some x) (Some y) (Some z) xs ys h k = h ∙ ap (λ q. xs ++ q) k ∙ sym (append_assoc xs ys z)
loses_more None None (Some z) xs ys h k = absurd k
loses_more None (Some y) c xs ys h k = absurd h
loses_more (Some x) None c xs ys h k = absurd h
loses_more (Some x) (Some y) None xs ys h k = absurd k

-- a call that takes nothing shows the end
at_end : (a b : Option (List ℕ)) (buffer : List ℕ) (count : ℕ) → count ≡ 0 → Loses a b (take count buffer) → IfSome a (λ bytes. (count ≡ 0) ↔ (bytes ≡ [])) → IfSome b (λ left. left ≡ [])
at_end None None buffer count none lost end = tt
at_end (Some x) (Some y) buffer count none lost end =
    sym (lost ∙ ap (λ n. take n buffer ++ y) none) ∙ end.0 none
at_end None (Some y) buffer count none lost end = absurd lost
at_end (Some x) None buffer count none lost end = absurd lost

same_left : (a b : Option (List ℕ)) (buffer : List ℕ) (count : ℕ) → count ≡ 0 → Loses a b (take count buffer) → Loses a b []
same_left a b buffer count none lost = subst (λ n. Loses a b (take n buffer)) none lost

-- ---- the loop

pub begun : (dot : Bool) (most : ℕ) (s : SourceSeen) (lines : Held) → Holds lines dot [] → IsUnderWay dot most s s lines 0
begun dot most s lines holds = record {
  taken = [];
  count = refl;
  few = omega arith;
  takes = loses_none s.left;
  holds = holds;
  going = refl;
  calm = refl;
}

module _ (dot : Bool) (most : ℕ) (before now after : SourceSeen) (lines : Held) (total : ℕ) (u : IsUnderWay dot most before now lines total) where
  -- a piece more
  pub taken_more : (piece : List ℕ) → Loses now.left after.left piece → Takes before after (u.taken ++ piece)
  taken_more piece lost = loses_more before.left now.left after.left u.taken piece u.takes lost

  pub went_on : (new : Held) (piece : List ℕ) (count : ℕ) → length piece ≡ count → Loses now.left after.left piece → after.faults ≡ now.faults → Holds new dot (u.taken ++ piece) → (read dot (u.taken ++ piece)).ended ≡ false
      → length new.buffer.text + length new.buffer.line ≤ most + 2 → IsUnderWay dot most before after new (total + count)
  went_on new piece count size lost calm holds going small =
      let both : length (u.taken ++ piece) ≡ total + count = length-append u.taken piece ∙ ap (λ n. n + length piece) u.count ∙ ap (λ n. total + n) size in
      let few = few_taken dot most new (u.taken ++ piece) holds going small in
      record {
        taken = u.taken ++ piece;
        count = both;
        few = omega (arith, few, both);
        takes = taken_more piece lost;
        holds = holds;
        going = going;
        calm = calm ∙ u.calm;
      }

  -- the end
  pub ended_here : (buffer : List ℕ) (count : ℕ) (result : Result (List ℕ) ReadEnd) → count ≡ 0 → Loses now.left after.left (take count buffer) → IfSome now.left (λ bytes. (count ≡ 0) ↔ (bytes ≡ [])) → ComesTo dot most u.taken result → Reads dot most before after result
  ended_here buffer count (Ok text) none lost end comes = record {
    taken = u.taken;
    takes = subst (λ q. Takes before after q) (append-nil u.taken) (taken_more [] (same_left now.left after.left buffer count none lost));
    over = inr (at_end now.left after.left buffer count none lost end);
    is = comes.0;
    within = comes.1;
  }
  ended_here buffer count (Err reads.TooLarge) none lost end comes = record {
    taken = u.taken;
    takes = subst (λ q. Takes before after q) (append-nil u.taken) (taken_more [] (same_left now.left after.left buffer count none lost));
    large = inr comes;
  }
  ended_here buffer count (Err reads.ReadFault) none lost end comes = absurd comes
  ended_here buffer count (Err reads.NoMemory) none lost end comes = (u.taken, subst (λ q. Takes before after q) (append-nil u.taken) (taken_more [] (same_left now.left after.left buffer count none lost)))

  -- the line `.`
  pub dot_here : (piece : List ℕ) (result : Result (List ℕ) ReadEnd) → Loses now.left after.left piece → (read dot (u.taken ++ piece)).ended ≡ true → ComesTo dot most (u.taken ++ piece) result → Reads dot most before after result
  dot_here piece (Ok text) lost ended comes = record {
    taken = u.taken ++ piece;
    takes = taken_more piece lost;
    over = inl ended;
    is = comes.0;
    within = comes.1;
  }
  dot_here piece (Err reads.TooLarge) lost ended comes = record {
    taken = u.taken ++ piece;
    takes = taken_more piece lost;
    large = inr comes;
  }
  dot_here piece (Err reads.ReadFault) lost ended comes = absurd comes
  dot_here piece (Err reads.NoMemory) lost ended comes = (u.taken ++ piece, taken_more piece lost)

  -- it is too large
  pub large_here : (piece : List ℕ) → Loses now.left after.left piece → most < size_of (read dot (u.taken ++ piece)) → IsLarge dot most before after
  large_here piece lost large = record {
    taken = u.taken ++ piece;
    takes = taken_more piece lost;
    large = inl large;
  }

  -- the input failed
  pub lost_here : after.left ≡ now.left → Rose now.faults after.faults → Reads dot most before after (Err reads.ReadFault)
  lost_here same rose = ((u.taken, subst (λ q. Loses before.left q u.taken) (sym same) u.takes), subst (λ n. Rose n after.faults) u.calm rose)
