-- The one reading of a stream.
use Rattle.std.proofs.Common.{◌≡◌, ℕ, zero, suc, ◌<◌, ◌≤◌, ◌==◌, Bool, true, false, List, [], ◌∷◌, ◌++◌, length, drop, Some, None, refl, sym, ap, subst, ◌∙◌, arith}
use Rattle.std.proofs.lemmas.Bool.{or_parts, and_right, cond-true, cond-false}
use Rattle.std.proofs.lemmas.List.{length-append, append-nil}
use Rattle.smtp_lines.specs.declared.line.Line.{Line}
use Rattle.smtp_lines.specs.declared.line.Mode.{Mode}
use Rattle.smtp_lines.specs.declared.line.Mode.TheVariants.{Commands, Message}
use Rattle.smtp_lines.specs.Stream.{Reads, nothing, plain, asked, has_end, end_of, line_of, granted_mode, cut, longer, Reading, first_grant, with_line, parts_by, reading_by, reading_of}
use Rattle.smtp_lines.specs.Reader.{awaited, mode_by, Reader, Stream, Stands}
use Rattle.smtp_lines.specs.inner.Courses.{Follows}

cut-none : (mode : Mode) (bytes : List ℕ) → has_end mode bytes ≡ false → cut mode bytes ≡ None
cut-none mode [] none = refl
cut-none mode (b ∷ bytes) none =
    let p = or_parts _ _ none in
    cond-false _ _ _ p.0 ∙ ap (longer b) (cut-none mode bytes p.1)

cut-command : (content after : List ℕ) → has_end Commands content ≡ false → cut Commands (content ++ 10 ∷ after) ≡ Some (content, after)
cut-command [] after none = refl
cut-command (b ∷ content) after none =
    let p = or_parts (b == 10) _ none in
    cond-false _ _ _ p.0 ∙ ap (longer b) (cut-command content after p.1)

cut-message : (content after : List ℕ) → has_end Message content ≡ false → cut Message (content ++ 13 ∷ 10 ∷ after) ≡ Some (content, after)
cut-message [] after none = refl
cut-message (b ∷ []) after none = cond-false _ _ _ (and_right (b == 13) false refl)
cut-message (b ∷ c ∷ content) after none =
    let p = or_parts _ _ none in
    cond-false _ _ _ p.0 ∙ ap (longer b) (cut-message (c ∷ content) after p.1)

-- a content without an end in it is cut at the end behind it
pub cut-at : (mode : Mode) (content after : List ℕ) → has_end mode content ≡ false → cut mode (content ++ (end_of mode ++ after)) ≡ Some (content, after)
cut-at Commands content after none = cut-command content after none
cut-at Message content after none = cut-message content after none

abbrev at_rest : Mode → List ℕ → Reading
at_rest mode bytes = record { lines = []; mode = mode; rest = bytes }

reading_by-none : (n : ℕ) (mode : Mode) (bytes : List ℕ) (granted : List Bool) → has_end mode bytes ≡ false → reading_by n mode bytes granted ≡ at_rest mode bytes
reading_by-none zero mode bytes granted none = refl
reading_by-none (suc n) mode bytes granted none = ap (parts_by (reading_by n) mode bytes granted) (cut-none mode bytes none)

reading_by-is : (n : ℕ) (mode : Mode) (bytes : List ℕ) (granted : List Bool) (lines : List Line) (last : Mode) (rest : List ℕ) (grants left : List Bool)
    → Reads mode bytes granted lines last rest → has_end last rest ≡ false → Follows grants granted left → length lines ≤ n
    → reading_by n mode bytes grants ≡ record { lines = lines; mode = last; rest = rest }
reading_by-is n _ _ _ _ _ _ grants left (nothing mode bytes) none follows le = reading_by-none n mode bytes grants none
reading_by-is zero _ _ _ _ _ _ grants left (plain mode content after granted lines last rest ended quiet then) none follows le = absurd (omega arith)
reading_by-is (suc n) _ _ _ _ _ _ grants left (plain mode content after granted lines last rest ended quiet then) none follows le =
    let line = line_of mode content in
    ap (parts_by (reading_by n) mode (content ++ (end_of mode ++ after)) grants) (cut-at mode content after ended)
    ∙ ap (with_line line) (cond-false _ _ _ quiet ∙ reading_by-is n _ _ _ _ _ _ grants left then none follows (omega arith))
reading_by-is zero _ _ _ _ _ _ grants left (asked mode content after grant granted lines last rest ended asking then) none follows le = absurd (omega arith)
reading_by-is (suc n) _ _ _ _ _ _ grants left (asked mode content after grant granted lines last rest ended asking then) none follows le =
    let line = line_of mode content in
    ap (parts_by (reading_by n) mode (content ++ (end_of mode ++ after)) grants) (cut-at mode content after ended)
    ∙ ap (with_line line)
    (cond-true _ _ _ asking
    ∙ ap (λ g. reading_by n (granted_mode g) after (drop 1 grants)) (sym follows.0)
    ∙ reading_by-is n _ _ _ _ _ _ (drop 1 grants) left then none follows.1 (omega arith))

-- read so far and no further
pub reading_by-all : (mode : Mode) (bytes : List ℕ) (granted : List Bool) (lines : List Line) (last : Mode) (rest : List ℕ) → Reads mode bytes granted lines last rest
    → reading_by (length lines) mode bytes granted ≡ record { lines = lines; mode = last; rest = rest }
reading_by-all _ _ _ _ _ _ (nothing mode bytes) = refl
reading_by-all _ _ _ _ _ _ (plain mode content after granted lines last rest ended quiet then) =
    ap (parts_by (reading_by (length lines)) mode (content ++ (end_of mode ++ after)) granted) (cut-at mode content after ended)
    ∙ ap (with_line (line_of mode content)) (cond-false _ _ _ quiet ∙ reading_by-all _ _ _ _ _ _ then)
reading_by-all _ _ _ _ _ _ (asked mode content after grant granted lines last rest ended asking then) =
    ap (parts_by (reading_by (length lines)) mode (content ++ (end_of mode ++ after)) (grant ∷ granted)) (cut-at mode content after ended)
    ∙ ap (with_line (line_of mode content)) (cond-true _ _ _ asking ∙ reading_by-all _ _ _ _ _ _ then)

end_some : (mode : Mode) → 0 < length (end_of mode)
end_some Commands = omega arith
end_some Message = omega arith

-- a stream has no more lines than bytes
pub reads-length : (mode : Mode) (bytes : List ℕ) (granted : List Bool) (lines : List Line) (last : Mode) (rest : List ℕ) → Reads mode bytes granted lines last rest → length lines ≤ length bytes
reads-length _ _ _ _ _ _ (nothing mode bytes) = omega arith
reads-length _ _ _ _ _ _ (plain mode content after granted lines last rest ended quiet then) =
    omega (arith, length-append content (end_of mode ++ after), length-append (end_of mode) after, end_some mode, reads-length _ _ _ _ _ _ then)
reads-length _ _ _ _ _ _ (asked mode content after grant granted lines last rest ended asking then) =
    omega (arith, length-append content (end_of mode ++ after), length-append (end_of mode) after, end_some mode, reads-length _ _ _ _ _ _ then)

-- a stream that is read under some grants is read so by the one reading
pub reading_of-is : (bytes : List ℕ) (granted : List Bool) (lines : List Line) (last : Mode) (rest : List ℕ) (grants left : List Bool)
    → Reads Commands bytes granted lines last rest → has_end last rest ≡ false → Follows grants granted left
    → reading_of bytes grants ≡ record { lines = lines; mode = last; rest = rest }
reading_of-is bytes granted lines last rest grants left reads none follows =
    reading_by-is (length bytes) Commands bytes granted lines last rest grants left reads none follows (reads-length _ _ _ _ _ _ reads)

-- the grants themselves are answers by them, and none is left
pub follows_itself : (granted : List Bool) → Follows granted granted []
follows_itself [] = refl
follows_itself (grant ∷ granted) = (refl, follows_itself granted)

-- what isn't said is refused
pub follows_refused : (granted : List Bool) (may_turn : Bool) → Follows granted (granted ++ awaited may_turn false) []
follows_refused [] true = (refl, refl)
follows_refused [] false = refl
follows_refused (grant ∷ granted) may_turn = (refl, follows_refused granted may_turn)

-- one more answer, the next of the grants, is as these grants say
pub follows_more : (grants answered rest : List Bool) (grant : Bool) → Follows grants answered rest → grant ≡ first_grant rest → Follows grants (answered ++ grant ∷ []) (drop 1 rest)
follows_more grants [] rest grant follows is = (is ∙ ap first_grant follows, ap (drop 1) follows)
follows_more grants (a ∷ answered) rest grant follows is = (follows.0, follows_more (drop 1 grants) answered rest grant follows.1 is)

mode_by-any : (may_turn : Bool) (mode : Mode) (begun : List ℕ) → (may_turn ≡ true → mode ≡ Commands) → has_end mode begun ≡ false → has_end (mode_by may_turn false mode) begun ≡ false
mode_by-any true mode begun commands none = subst (λ m. has_end m begun ≡ false) (commands refl) none
mode_by-any false mode begun commands none = none

-- where no byte is left, the lines that were given are those of the one reading
pub stands-reading : (r : Reader) (s : Stream) (grants left : List Bool) → Stands r s → r.left ≡ [] → Follows grants (s.granted ++ awaited r.under.may_turn false) left
    → (reading_of s.received grants).lines ≡ s.lines
stands-reading r s grants left st nil follows =
    let may = r.under.may_turn in
    let whole : st.begun ++ r.left ≡ st.begun = ap (λ x. st.begun ++ x) nil ∙ append-nil st.begun in
    let reads = subst (λ x. Reads Commands s.received (s.granted ++ awaited may false) s.lines (mode_by may false r.under.mode) x) whole (st.reads false) in
    ap (λ (x : Reading). x.lines)
    (reading_of-is s.received _ s.lines _ st.begun grants left reads (mode_by-any may r.under.mode st.begun st.holds.commands st.holds.none) follows)
