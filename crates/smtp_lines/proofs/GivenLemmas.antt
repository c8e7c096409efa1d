-- The lines that were given, the grants that a caller keeps, and the reading of the stream.
use Rattle.std.proofs.Common.{◌≡◌, ℕ, zero, suc, ◌+◌, ◌≤◌, Bool, true, false, ◌||◌, List, [], ◌∷◌, ◌++◌, length, drop, refl, sym, ap, subst, ◌∙◌, arith}
use Rattle.std.specs.List.{list_any}
use Rattle.std.proofs.lemmas.Bool.{cond-true, cond-false, or_from, false≢true}
use Rattle.std.proofs.lemmas.List.{append-nil, length-append}
use Rattle.smtp_lines.specs.declared.line.Line.{Line}
use Rattle.smtp_lines.specs.declared.line.Mode.{Mode}
use Rattle.smtp_lines.specs.declared.line.Mode.TheVariants.{Commands}
use Rattle.smtp_lines.specs.Stream.{Reads, nothing, plain, asked, asks, line_of, end_of, mode_after, granted_mode, Reading, with_line, parts_by, reading_by, reading_of}
use Rattle.smtp_lines.specs.Reader.{asked_after, awaited, Reader, Stream, Stands, given, granted, refused, StandsFirst, HasGrants, Gives, OnlyLastAsks}
use Rattle.smtp_lines.specs.inner.Courses.{Follows}
use Rattle.smtp_lines.proofs.ReadLemmas.{asked_after-push, not_nil}
use Rattle.smtp_lines.proofs.ReadingLemmas.{cut-at, reads-length, follows_refused, stands-reading}

-- ---- the lines stand first

with_first : (line : Line) (lines others all : List Line) → all ≡ line ∷ others → StandsFirst lines others → StandsFirst (line ∷ lines) all
with_first line lines others all is first = record { later = first.later; is = is ∙ ap (λ l. line ∷ l) first.is }

-- lines that are read of bytes, with the answers that follow, stand first among those computed of them
pub reading_by-first : (n : ℕ) (mode : Mode) (bytes : List ℕ) (answers : List Bool) (lines : List Line) (last : Mode) (rest : List ℕ) (grants left : List Bool)
    → Reads mode bytes answers lines last rest → Follows grants answers left → length lines ≤ n
    → StandsFirst lines (reading_by n mode bytes grants).lines
reading_by-first n _ _ _ _ _ _ grants left (nothing mode bytes) follows le = record { later = (reading_by n mode bytes grants).lines; is = refl }
reading_by-first zero _ _ _ _ _ _ grants left (plain mode content after answers lines last rest ended quiet then) follows le = absurd (omega arith)
reading_by-first (suc n) _ _ _ _ _ _ grants left (plain mode content after answers lines last rest ended quiet then) follows le =
    let line = line_of mode content in
    with_first line lines (reading_by n (mode_after line) after grants).lines _
    (ap (λ (x : Reading). x.lines)
    (ap (parts_by (reading_by n) mode (content ++ (end_of mode ++ after)) grants) (cut-at mode content after ended)
    ∙ ap (with_line line) (cond-false _ _ _ quiet)))
    (reading_by-first n _ _ _ _ _ _ grants left then follows (omega arith))
reading_by-first zero _ _ _ _ _ _ grants left (asked mode content after grant answers lines last rest ended asking then) follows le = absurd (omega arith)
reading_by-first (suc n) _ _ _ _ _ _ grants left (asked mode content after grant answers lines last rest ended asking then) follows le =
    let line = line_of mode content in
    with_first line lines (reading_by n (granted_mode grant) after (drop 1 grants)).lines _
    (ap (λ (x : Reading). x.lines)
    (ap (parts_by (reading_by n) mode (content ++ (end_of mode ++ after)) grants) (cut-at mode content after ended)
    ∙ ap (with_line line)
    (cond-true _ _ _ asking
    ∙ ap (λ g. reading_by n (granted_mode g) after (drop 1 grants)) (sym follows.0))))
    (reading_by-first n _ _ _ _ _ _ (drop 1 grants) left then follows.1 (omega arith))

stands-first : (r : Reader) (s : Stream) (grants left : List Bool) (grant : Bool) → Stands r s → Follows grants (s.granted ++ awaited r.under.may_turn grant) left
    → StandsFirst s.lines (reading_of s.received grants).lines
stands-first r s grants left grant st follows =
    let reads = st.reads grant in
    reading_by-first (length s.received) Commands s.received (s.granted ++ awaited r.under.may_turn grant) s.lines _ _ grants left reads follows (reads-length _ _ _ _ _ _ reads)

-- answers at the front of a list follow it
pub follows_front : (answers more : List Bool) → Follows (answers ++ more) answers more
follows_front [] more = refl
follows_front (grant ∷ answers) more = (refl, follows_front answers more)

-- whatever is answered to the last line that asked and to those after it
pub given_first : (r : Reader) (s : Stream) (grant : Bool) (more : List Bool) → Stands r s
    → StandsFirst s.lines (reading_of s.received ((s.granted ++ awaited r.under.may_turn grant) ++ more)).lines
given_first r s grant more st = stands-first r s _ more grant st (follows_front (s.granted ++ awaited r.under.may_turn grant) more)

-- where nothing is answered to it yet
pub given_first_unanswered : (r : Reader) (s : Stream) → Stands r s → StandsFirst s.lines (reading_of s.received s.granted).lines
given_first_unanswered r s st = stands-first r s s.granted [] false st (follows_refused s.granted r.under.may_turn)

-- where no byte is left, further grants change no line of the reading
pub given_all : (r : Reader) (s : Stream) (more : List Bool) → Stands r s → r.left ≡ []
    → (reading_of s.received ((s.granted ++ awaited r.under.may_turn false) ++ more)).lines ≡ s.lines
given_all r s more st nil = stands-reading r s _ more st nil (follows_front (s.granted ++ awaited r.under.may_turn false) more)

-- ---- the same with the grants that a caller keeps

told_first : (r : Reader) (s : Stream) (told more : List Bool) → Stands r s → HasGrants r s told → StandsFirst s.lines (reading_of s.received (told ++ more)).lines
told_first r s told more st has = subst (λ g. StandsFirst s.lines (reading_of s.received (g ++ more)).lines) has (given_first r s false more st)

-- the lines given so far stand first in the reading under the grants told
pub told_first_now : (r : Reader) (s : Stream) (told : List Bool) → Stands r s → HasGrants r s told → StandsFirst s.lines (reading_of s.received told).lines
told_first_now r s told st has = subst (λ g. StandsFirst s.lines (reading_of s.received g).lines) (append-nil told) (told_first r s told [] st has)

-- while the last line that asked waits for its grant
pub waiting_first : (r : Reader) (s : Stream) (told : List Bool) → Stands r s → s.granted ≡ told → StandsFirst s.lines (reading_of s.received told).lines
waiting_first r s told st has = subst (λ g. StandsFirst s.lines (reading_of s.received g).lines) has (given_first_unanswered r s st)

told_all : (r : Reader) (s : Stream) (told more : List Bool) → Stands r s → r.left ≡ [] → HasGrants r s told → (reading_of s.received (told ++ more)).lines ≡ s.lines
told_all r s told more st nil has = subst (λ g. (reading_of s.received (g ++ more)).lines ≡ s.lines) has (given_all r s more st nil)

-- where no byte is left, the lines given are the reading under the grants told
pub told_all_now : (r : Reader) (s : Stream) (told : List Bool) → Stands r s → r.left ≡ [] → HasGrants r s told → (reading_of s.received told).lines ≡ s.lines
told_all_now r s told st nil has = subst (λ g. (reading_of s.received g).lines ≡ s.lines) (append-nil told) (told_all r s told [] st nil has)

-- ---- after a call

has_grants-turns : (old new : Reader) (s : Stream) (told : List Bool) → new.under.may_turn ≡ old.under.may_turn → HasGrants old s told → HasGrants new s told
has_grants-turns old new s told is has = ap (λ b. s.granted ++ awaited b false) is ∙ has

has_grants-quiet : (new : Reader) (s : Stream) (told : List Bool) → new.under.may_turn ≡ false → s.granted ≡ told → HasGrants new s told
has_grants-quiet new s told quiet has = ap (λ b. s.granted ++ awaited b false) quiet ∙ append-nil s.granted ∙ has

-- lines that are given keep the grants that a caller was told
pub after_given : (old new : Reader) (s : Stream) (told : List Bool) (lines : List Line) → HasGrants old s told → Stands new (given old.under.may_turn s lines)
    → new.under.may_turn ≡ asked_after old.under.may_turn lines → Gives s told lines new (given old.under.may_turn s lines)
after_given old new s told [] has stands turns = record {
  stands = stands;
  received_is = refl;
  lines_are = sym (append-nil s.lines);
  quiet = λ _. has_grants-turns old new s told turns has;
  asking = λ no. absurd (false≢true no);
}
after_given old new s told (line ∷ lines) has stands turns = record {
  stands = stands;
  received_is = refl;
  lines_are = refl;
  quiet = λ quiet. has_grants-quiet new (given old.under.may_turn s (line ∷ lines)) told (turns ∙ quiet) has;
  asking = λ asking. (has, turns ∙ asking);
}

-- the last line that asked is refused, unless it is granted
pub after_none : (r : Reader) (s : Stream) (told : List Bool) → s.granted ≡ told → r.under.may_turn ≡ true → HasGrants r s (told ++ false ∷ [])
after_none r s told has turns = ap (λ b. s.granted ++ awaited b false) turns ∙ ap (λ g. g ++ false ∷ []) has

-- a refusal is one more grant told, a no
pub after_refusal : (r : Reader) (s : Stream) (told : List Bool) → s.granted ≡ told → r.under.may_turn ≡ false → HasGrants r (refused s) (told ++ false ∷ [])
after_refusal r s told has turned =
    ap (λ b. (s.granted ++ false ∷ []) ++ awaited b false) turned ∙ append-nil (s.granted ++ false ∷ []) ∙ ap (λ g. g ++ false ∷ []) has

-- a grant is one more grant told, a yes
pub after_grant : (r : Reader) (s : Stream) (told : List Bool) → s.granted ≡ told → r.under.may_turn ≡ false → HasGrants r (granted s) (told ++ true ∷ [])
after_grant r s told has turned =
    ap (λ b. (s.granted ++ true ∷ []) ++ awaited b false) turned ∙ append-nil (s.granted ++ true ∷ []) ∙ ap (λ g. g ++ true ∷ []) has

-- ---- only the last asks

abbrev one_if : Bool → ℕ
one_if true = 1
one_if false = 0

-- how many of the lines ask
abbrev how_many : List Line → ℕ
how_many [] = 0
how_many (line ∷ lines) = one_if (asks line) + how_many lines

how_many-append : (front back : List Line) → how_many (front ++ back) ≡ how_many front + how_many back
how_many-append [] back = omega arith
how_many-append (line ∷ front) back = omega (arith, how_many-append front back)

none_of : (b : Bool) (lines : List Line) → one_if b + how_many lines ≡ 0 → (how_many lines ≡ 0 → list_any asks lines ≡ false) → (b || list_any asks lines) ≡ false
none_of true lines none go = absurd (omega arith)
none_of false lines none go = or_from false _ refl (go (omega arith))

how_many-none : (lines : List Line) → how_many lines ≡ 0 → list_any asks lines ≡ false
how_many-none [] none = refl
how_many-none (line ∷ lines) none = none_of (asks line) lines none (λ k. how_many-none lines k)

count_left : (before here front one told wait : ℕ) → before + here ≡ told + wait → before ≡ told → wait ≡ one → here ≡ front + (one + 0) → front ≡ 0
count_left before here front one told wait both first waits split = omega arith

awaited-length : (b : Bool) → length (awaited b false) ≡ one_if b
awaited-length true = refl
awaited-length false = refl

-- each line that asks has its grant
reads-how_many : (mode : Mode) (bytes : List ℕ) (answers : List Bool) (lines : List Line) (last : Mode) (rest : List ℕ) → Reads mode bytes answers lines last rest → how_many lines ≡ length answers
reads-how_many _ _ _ _ _ _ (nothing mode bytes) = refl
reads-how_many _ _ _ _ _ _ (plain mode content after answers lines last rest ended quiet then) =
    let here : one_if (asks (line_of mode content)) ≡ 0 = ap one_if quiet in
    omega (arith, here, reads-how_many _ _ _ _ _ _ then)
reads-how_many _ _ _ _ _ _ (asked mode content after grant answers lines last rest ended asking then) =
    let here : one_if (asks (line_of mode content)) ≡ 1 = ap one_if asking in
    omega (arith, here, reads-how_many _ _ _ _ _ _ then)

-- of the lines that a call gives only the last may ask
pub only_last : (old new : Reader) (s : Stream) (lines : List Line) → Stands old s → Stands new (given old.under.may_turn s lines)
    → new.under.may_turn ≡ asked_after old.under.may_turn lines → OnlyLastAsks lines
only_last old new s [] before after turns = λ front last is. absurd (not_nil front last (sym is))
only_last old new s (line ∷ lines) before after turns = λ front last is.
    let may = old.under.may_turn in
    let now = new.under.may_turn in
    let told = s.granted ++ awaited may false in
    let first : how_many s.lines ≡ length told = reads-how_many _ _ _ _ _ _ (before.reads false) in
    let both : how_many (s.lines ++ (line ∷ lines)) ≡ length (told ++ awaited now false) = reads-how_many _ _ _ _ _ _ (after.reads false) in
    let waits : length (awaited now false) ≡ one_if (asks last) =
    ap (λ b. length (awaited b false)) (turns ∙ ap (asked_after may) is ∙ asked_after-push may front last) ∙ awaited-length (asks last) in
    let split : how_many (line ∷ lines) ≡ how_many front + (one_if (asks last) + 0) = ap how_many is ∙ how_many-append front (last ∷ []) in
    how_many-none front (count_left (how_many s.lines) (how_many (line ∷ lines)) (how_many front) (one_if (asks last)) (length told) (length (awaited now false))
    (sym (how_many-append s.lines (line ∷ lines)) ∙ both ∙ length-append told (awaited now false)) first waits split)
