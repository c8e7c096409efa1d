-- A front of a stream's lines stays one when bytes come, and grows by the next line.
use Rattle.std.proofs.Common.{◌≡◌, ℕ, zero, suc, List, [], ◌∷◌, ◌++◌, Bool, true, false, Some, None, refl, sym, ◌∙◌, ap, subst, append_assoc, ⊎_elim}
use Rattle.std.specs.Prelude.{length, drop, slice_get, ◌==◌}
use Rattle.std.proofs.lemmas.Bool.{cases_Bool, eqb-true, and_parts, or_from, cond-true, cond-false, false≢true}
use Rattle.smtp_lines.specs.declared.line.Line.{Line}
use Rattle.smtp_lines.specs.declared.line.Mode.{Mode}
use Rattle.smtp_lines.specs.declared.line.Mode.TheVariants.{Commands, Message}
use Rattle.smtp_lines.specs.Stream.{Reads, nothing, plain, asked, asks, begins_with_end, cut, end_of, granted_mode, has_end, line_of, longer, mode_after, Reading, parts_by, reading_by, reading_of}
use Rattle.smtp_lines.specs.Reader.{StandsFirst}
use Rattle.smtp_lines.proofs.GivenLemmas.{reading_by-first}
use Rattle.smtp_lines.proofs.ReadingLemmas.{cut-at, follows_itself, follows_refused, reads-length}

-- no value is none
pub none_is : {X : Type 0} (x : X) → None ≡ Some x → ⊥
none_is x h = cc h

-- equal options of values have equal values
pub some_is : {X : Type 0} (x y : X) → Some x ≡ Some y → x ≡ y
some_is x y h = cc h

-- bytes come
pub reads_more : (mode : Mode) (bytes : List ℕ) (granted : List Bool) (lines : List Line) (last : Mode) (rest more : List ℕ) → Reads mode bytes granted lines last rest → Reads mode (bytes ++ more) granted lines last (rest ++ more)
reads_more mode bytes granted lines last rest more (nothing m b) = nothing mode (bytes ++ more)
reads_more mode bytes granted lines last rest more (plain m content after g ls l r none silent h) =
    subst (λ q. Reads mode q granted lines last (rest ++ more)) (sym (append_assoc content (end_of mode ++ after) more ∙ ap (λ q. content ++ q) (append_assoc (end_of mode) after more)))
    (plain mode content (after ++ more) granted ls last (rest ++ more) none silent (reads_more (mode_after (line_of mode content)) after granted ls last rest more h))
reads_more mode bytes granted lines last rest more (asked m content after grant g ls l r none asking h) =
    subst (λ q. Reads mode q granted lines last (rest ++ more)) (sym (append_assoc content (end_of mode ++ after) more ∙ ap (λ q. content ++ q) (append_assoc (end_of mode) after more)))
    (asked mode content (after ++ more) grant g ls last (rest ++ more) none asking (reads_more (granted_mode grant) after g ls last rest more h))

-- the next line, where it doesn't ask and where it does
pub reads_plain : (mode : Mode) (bytes : List ℕ) (granted : List Bool) (lines : List Line) (last : Mode) (rest content after : List ℕ) → rest ≡ content ++ (end_of last ++ after) → has_end last content ≡ false → asks (line_of last content) ≡ false
    → Reads mode bytes granted lines last rest → Reads mode bytes granted (lines ++ line_of last content ∷ []) (mode_after (line_of last content)) after
reads_plain mode bytes granted lines last rest content after is none silent (nothing m b) = subst (λ q. Reads mode q [] (line_of mode content ∷ []) (mode_after (line_of mode content)) after) (sym is)
    (plain mode content after [] [] (mode_after (line_of mode content)) after none silent (nothing (mode_after (line_of mode content)) after))
reads_plain mode bytes granted lines last rest content after is none silent (plain m c a g ls l r none2 silent2 h) = plain mode c a granted (ls ++ line_of last content ∷ []) (mode_after (line_of last content)) after none2 silent2
    (reads_plain (mode_after (line_of mode c)) a granted ls last rest content after is none silent h)
reads_plain mode bytes granted lines last rest content after is none silent (asked m c a grant g ls l r none2 asks2 h) = asked mode c a grant g (ls ++ line_of last content ∷ []) (mode_after (line_of last content)) after none2 asks2
    (reads_plain (granted_mode grant) a g ls last rest content after is none silent h)

-- bytes that are read so far are read up to behind the next line, where that line asks
pub reads_asked : (mode : Mode) (bytes : List ℕ) (granted : List Bool) (lines : List Line) (last : Mode) (rest content after : List ℕ) (grant : Bool) → rest ≡ content ++ (end_of last ++ after) → has_end last content ≡ false → asks (line_of last content) ≡ true
    → Reads mode bytes granted lines last rest → Reads mode bytes (granted ++ grant ∷ []) (lines ++ line_of last content ∷ []) (granted_mode grant) after
reads_asked mode bytes granted lines last rest content after grant is none asking (nothing m b) = subst (λ q. Reads mode q (grant ∷ []) (line_of mode content ∷ []) (granted_mode grant) after) (sym is)
    (asked mode content after grant [] [] (granted_mode grant) after none asking (nothing (granted_mode grant) after))
reads_asked mode bytes granted lines last rest content after grant is none asking (plain m c a g ls l r none2 silent2 h) = plain mode c a (granted ++ grant ∷ []) (ls ++ line_of last content ∷ []) (granted_mode grant) after none2 silent2
    (reads_asked (mode_after (line_of mode c)) a granted ls last rest content after grant is none asking h)
reads_asked mode bytes granted lines last rest content after grant is none asking (asked m c a first g ls l r none2 asks2 h) = asked mode c a first (g ++ grant ∷ []) (ls ++ line_of last content ∷ []) (granted_mode grant) after none2 asks2
    (reads_asked (granted_mode first) a g ls last rest content after grant is none asking h)

-- ---- the first line end

-- what stands before and after it
pub record IsCut (mode : Mode) (bytes front back : List ℕ) : Type 0 where
  pub whole : bytes ≡ front ++ (end_of mode ++ back)
  pub none : has_end mode front ≡ false

no_end : (mode : Mode) → has_end mode [] ≡ false
no_end Commands = refl
no_end Message = refl

at_end : (mode : Mode) (bytes : List ℕ) → begins_with_end mode bytes ≡ true → bytes ≡ end_of mode ++ drop (length (end_of mode)) bytes
at_end Commands [] h = absurd (false≢true h)
at_end Commands (b ∷ bytes) h = ap (λ q. q ∷ bytes) (eqb-true b 10 h)
at_end Message [] h = absurd (false≢true h)
at_end Message (b ∷ []) h = absurd (false≢true h)
at_end Message (b ∷ c ∷ bytes) h = let both = and_parts (b == 13) (c == 10) h in ap (λ q. q ∷ c ∷ bytes) (eqb-true b 13 both.0) ∙ ap (λ q. 13 ∷ q ∷ bytes) (eqb-true c 10 both.1)

begins_front : (mode : Mode) (b : ℕ) (xs ys : List ℕ) → begins_with_end mode (b ∷ (xs ++ ys)) ≡ false → begins_with_end mode (b ∷ xs) ≡ false
begins_front Commands b xs ys h = h
begins_front Message b [] ys h = refl
begins_front Message b (c ∷ xs) ys h = h

-- there is none, or bytes stand before the first
pub data EndsSomewhere (mode : Mode) (bytes : List ℕ) : Type 0 where
  nowhere : has_end mode bytes ≡ false → cut mode bytes ≡ None → EndsSomewhere mode bytes
  somewhere : (front back : List ℕ) → cut mode bytes ≡ Some (front, back) → IsCut mode bytes front back → EndsSomewhere mode bytes

later_end : (mode : Mode) (b : ℕ) (bytes : List ℕ) → begins_with_end mode (b ∷ bytes) ≡ false → EndsSomewhere mode bytes → EndsSomewhere mode (b ∷ bytes)
later_end mode b bytes other (nowhere none is) = nowhere (or_from (begins_with_end mode (b ∷ bytes)) (has_end mode bytes) other none) (cond-false _ _ _ other ∙ ap (longer b) is)
later_end mode b bytes other (somewhere front back is c) =
    somewhere (b ∷ front) back (cond-false _ _ _ other ∙ ap (longer b) is) (record {
      whole = ap (λ q. b ∷ q) c.whole;
      none = or_from (begins_with_end mode (b ∷ front)) (has_end mode front) (begins_front mode b front (end_of mode ++ back) (subst (λ q. begins_with_end mode (b ∷ q) ≡ false) c.whole other)) c.none;
    })

pub ends_somewhere : (mode : Mode) (bytes : List ℕ) → EndsSomewhere mode bytes
ends_somewhere mode [] = nowhere (no_end mode) refl
ends_somewhere mode (b ∷ bytes) =
    ⊎_elim
    (λ here. somewhere [] (drop (length (end_of mode)) (b ∷ bytes)) (cond-true _ _ _ here) (record { whole = at_end mode (b ∷ bytes) here; none = no_end mode }))
    (λ other. later_end mode b bytes other (ends_somewhere mode bytes))
    (cases_Bool (begins_with_end mode (b ∷ bytes)))

-- ---- the next line of a reading

-- the line behind a front of lines
pub record IsNext (last : Mode) (rest : List ℕ) (line : Line) : Type 0 where
  pub front : List ℕ
  pub back : List ℕ
  pub cut_is : IsCut last rest front back
  pub is : line ≡ line_of last front

first_by : (n : ℕ) (mode : Mode) (bytes : List ℕ) (grants : List Bool) (line : Line) → EndsSomewhere mode bytes → slice_get (parts_by (reading_by n) mode bytes grants (cut mode bytes)).lines 0 ≡ Some line → IsNext mode bytes line
first_by n mode bytes grants line (nowhere none is) h = absurd (none_is line (sym (ap (λ o. slice_get (parts_by (reading_by n) mode bytes grants o).lines 0) is) ∙ h))
first_by n mode bytes grants line (somewhere front back is c) h = record {
  front = front;
  back = back;
  cut_is = c;
  is = sym (some_is (line_of mode front) line (sym (ap (λ o. slice_get (parts_by (reading_by n) mode bytes grants o).lines 0) is) ∙ h));
}

-- the line that a reading gives behind those that were read is the next one of the rest
pub next_reads : (n : ℕ) (mode : Mode) (bytes : List ℕ) (granted : List Bool) (lines : List Line) (last : Mode) (rest : List ℕ) (line : Line) → Reads mode bytes granted lines last rest → slice_get (reading_by n mode bytes granted).lines (length lines) ≡ Some line → IsNext last rest line
next_reads zero mode bytes granted lines last rest line h k = absurd (none_is line k)
next_reads (suc n) mode bytes granted lines last rest line (nothing m b) k = first_by n mode bytes [] line (ends_somewhere mode bytes) k
next_reads (suc n) mode bytes granted lines last rest line (plain m c a g ls l r none silent h) k =
    next_reads n (mode_after (line_of mode c)) a granted ls last rest line h
    (subst (λ (q : Reading). slice_get q.lines (length ls) ≡ Some line) (cond-false _ _ _ silent) (subst (λ q. slice_get (parts_by (reading_by n) mode (c ++ (end_of mode ++ a)) granted q).lines (suc (length ls)) ≡ Some line) (cut-at mode c a none) k))
next_reads (suc n) mode bytes granted lines last rest line (asked m c a grant g ls l r none asking h) k =
    next_reads n (granted_mode grant) a g ls last rest line h
    (subst (λ (q : Reading). slice_get q.lines (length ls) ≡ Some line) (cond-true _ _ _ asking) (subst (λ q. slice_get (parts_by (reading_by n) mode (c ++ (end_of mode ++ a)) (grant ∷ g) q).lines (suc (length ls)) ≡ Some line) (cut-at mode c a none) k))

-- ---- where no line is left

one_more : (lines : List Line) (line : Line) (later : List Line) → slice_get ((lines ++ line ∷ []) ++ later) (length lines) ≡ Some line
one_more [] line later = refl
one_more (l ∷ lines) line later = one_more lines line later

found_more : (bytes : List ℕ) (granted : List Bool) (lines : List Line) (line : Line) → StandsFirst (lines ++ line ∷ []) (reading_of bytes granted).lines → slice_get (reading_of bytes granted).lines (length lines) ≡ None → ⊥
found_more bytes granted lines line first none = none_is line (sym none ∙ ap (λ q. slice_get q (length lines)) first.is ∙ one_more lines line first.later)

stands_plain : (bytes : List ℕ) (granted : List Bool) (lines : List Line) (last : Mode) (rest : List ℕ) → Reads Commands bytes granted lines last rest → StandsFirst lines (reading_of bytes granted).lines
stands_plain bytes granted lines last rest h = reading_by-first (length bytes) Commands bytes granted lines last rest granted [] h (follows_itself granted) (reads-length Commands bytes granted lines last rest h)

stands_asked : (bytes : List ℕ) (granted : List Bool) (lines : List Line) (last : Mode) (rest : List ℕ) → Reads Commands bytes (granted ++ false ∷ []) lines last rest → StandsFirst lines (reading_of bytes granted).lines
stands_asked bytes granted lines last rest h = reading_by-first (length bytes) Commands bytes (granted ++ false ∷ []) lines last rest granted [] h (follows_refused granted true) (reads-length Commands bytes (granted ++ false ∷ []) lines last rest h)

none_by : (bytes : List ℕ) (granted : List Bool) (lines : List Line) (last : Mode) (rest : List ℕ) → Reads Commands bytes granted lines last rest → slice_get (reading_of bytes granted).lines (length lines) ≡ None → EndsSomewhere last rest → has_end last rest ≡ false
none_by bytes granted lines last rest h none (nowhere ended is) = ended
none_by bytes granted lines last rest h none (somewhere front back is c) =
    let line = line_of last front in
    absurd (⊎_elim
    (λ asking. found_more bytes granted lines line (stands_asked bytes granted (lines ++ line ∷ []) (granted_mode false) back (reads_asked Commands bytes granted lines last rest front back false c.whole c.none asking h)) none)
    (λ silent. found_more bytes granted lines line (stands_plain bytes granted (lines ++ line ∷ []) (mode_after line) back (reads_plain Commands bytes granted lines last rest front back c.whole c.none silent h)) none)
    (cases_Bool (asks line)))

-- where a reading gives no line behind those that were read, the rest has no line's end
pub none_left : (bytes : List ℕ) (granted : List Bool) (lines : List Line) (last : Mode) (rest : List ℕ) → Reads Commands bytes granted lines last rest → slice_get (reading_of bytes granted).lines (length lines) ≡ None → has_end last rest ≡ false
none_left bytes granted lines last rest h none = none_by bytes granted lines last rest h none (ends_somewhere last rest)
