-- The text of the input is that of all that was left of it.
use Rattle.std.proofs.Common.{◌≡◌, ℕ, ◌+◌, ◌-◌, ◌<◌, ◌≤◌, ◌==◌, ◌&&◌, List, [], ◌∷◌, ◌++◌, length, take, fold, Bool, true, false, not, cond, Option, Some, None, refl, sym, ◌∙◌, ap, subst, arith, append-nil, ⊎_elim, inl, inr, ◌⊎◌}
use Rattle.std.specs.Prelude.{IfSome, get_or}
use Rattle.std.specs.Str.Lines.{strip_carriage_return}
use Rattle.std.proofs.lemmas.Bool.{and_parts, cond_both, cond-true, cond-false, false≢true, ne_eqb, true≢false}
use Rattle.std.proofs.lemmas.List.{length-append, length-take-le, take_at}
use Rattle.std.proofs.lemmas.Grind.{flat_map-append}
use Rattle.std.proofs.lemmas.Slice.Eq.{bytes_eq-Decides}
use Rattle.mail_edge.specs.Moves.{Loses}
use Rattle.mail_edge.specs.Seen.{SourceSeen}
use Rattle.mail_header.specs.Fields.{is_feed}
use Rattle.mail_header.specs.Headers.{text_of, with_end}
use Rattle.mail_submit.specs.Inputs.{Reading, counted, is_dot, is_last, last_line, message_of, read, size_of, with_byte, with_feed}
use Rattle.submit_run.specs.Inputs.{IsLarge, IsRead}
use Rattle.submit_run.proofs.ReadingLemmas.{read_more, stuck}

-- ---- what was taken, and all

-- what is read behind the end of input changes nothing
text_all : (dot : Bool) (bytes taken rest : List ℕ) → bytes ≡ taken ++ rest → ((read dot taken).ended ≡ true) ⊎ (rest ≡ []) → read dot bytes ≡ read dot taken
text_all dot bytes taken rest whole over =
    ap (read dot) whole ∙ ⊎_elim
    (λ (ended : (read dot taken).ended ≡ true). read_more dot taken rest ∙ stuck dot (read dot taken) rest ended)
    (λ (none : rest ≡ []). ap (λ (q : List ℕ). read dot (taken ++ q)) none ∙ ap (read dot) (append-nil taken))
    over

-- ---- more input is no smaller message

text_more : (xs ys : List (List ℕ)) → length (text_of (xs ++ ys)) ≡ length (text_of xs) + length (text_of ys)
text_more xs ys = ap length (flat_map-append with_end xs ys) ∙ length-append (text_of xs) (text_of ys)

one_line : (line : List ℕ) → length (text_of (line ∷ [])) ≡ length line + 2
one_line line = length-append (with_end line) [] ∙ ap (λ n. n + 0) (length-append line (13 ∷ 10 ∷ [])) ∙ plus_none (length line + 2)
  where
    plus_none : (n : ℕ) → n + 0 ≡ n
    plus_none n = omega arith

-- the bytes of what no LF ended, at the end of input
abbrev last_size : Bool → List ℕ → ℕ
last_size dot line = length (text_of (last_line dot line))

abbrev size : Bool → Reading → ℕ
size dot r = length (message_of dot r)

size_is : (dot : Bool) (r : Reading) → size dot r ≡ length (text_of r.lines) + last_size dot r.line
size_is dot r = text_more r.lines (last_line dot r.line)

-- at most the line with its end
last_small : (dot : Bool) (line : List ℕ) → last_size dot line ≤ length (strip_carriage_return line) + 2
last_small dot line =
    cond_both (is_last dot line) (strip_carriage_return line ∷ []) [] (λ ls. length (text_of ls) ≤ length (strip_carriage_return line) + 2)
    (λ is. omega (arith, one_line (strip_carriage_return line)))
    (λ none. omega arith)

counted_small : (line : List ℕ) → counted line ≤ length (strip_carriage_return line)
counted_small line =
    cond_both (is_dot line) 0 (length (strip_carriage_return line)) (λ n. n ≤ length (strip_carriage_return line)) (λ is. omega arith) (λ none. omega arith)

-- what isn't a last line doesn't count
uncounted : (dot : Bool) (line : List ℕ) → is_last dot line ≡ false → counted line ≡ 0
uncounted dot [] none = refl
uncounted dot (b ∷ line) none = by (dot && is_dot (b ∷ line)) refl
  where
    some : (length (b ∷ line) == 0) ≡ false
    some = ne_eqb (length (b ∷ line)) 0 (λ e. absurd (omega (arith, e)))

    by : (t : Bool) → (dot && is_dot (b ∷ line)) ≡ t → counted (b ∷ line) ≡ 0
    by true is = cond-true (is_dot (b ∷ line)) 0 (length (strip_carriage_return (b ∷ line))) (and_parts dot (is_dot (b ∷ line)) is).1
    by false is = absurd (true≢false (sym (ap (λ t. not t && not false) some) ∙ ap (λ t. not (length (b ∷ line) == 0) && not t) (sym is) ∙ none))

counted_last : (dot : Bool) (line : List ℕ) → counted line ≤ last_size dot line
counted_last dot line =
    cond_both (is_last dot line) (strip_carriage_return line ∷ []) [] (λ ls. counted line ≤ length (text_of ls))
    (λ is. omega (arith, one_line (strip_carriage_return line), counted_small line))
    (λ none. omega (arith, uncounted dot line none))

strip_push : (line : List ℕ) (b : ℕ) → strip_carriage_return (line ++ b ∷ []) ≡ cond (b == 13) line (line ++ b ∷ [])
strip_push line b =
    let all : List ℕ = line ++ b ∷ [] in
    let place : length all - 1 ≡ length line = omega (arith, length-append line (b ∷ [])) in
    let byte : get_or all (length line) 0 ≡ b = get_or_at line b in
    ap (λ k. cond (get_or all k 0 == 13) (take k all) all) place
    ∙ ap (λ c. cond (c == 13) (take (length line) all) all) byte
    ∙ ap (λ (q : List ℕ). cond (b == 13) q all) (take_at line (b ∷ []) (length line) refl)
  where
    get_or_at : (line : List ℕ) (b : ℕ) → get_or (line ++ b ∷ []) (length line) 0 ≡ b
    get_or_at [] b = refl
    get_or_at (c ∷ line) b = get_or_at line b

strip_short : (line : List ℕ) → length (strip_carriage_return line) ≤ length line
strip_short line =
    cond_both (get_or line (length line - 1) 0 == 13) (take (length line - 1) line) line (λ l. length l ≤ length line)
    (λ e. omega (arith, length-take-le (length line - 1) line (omega arith)))
    (λ e. omega arith)

strip_grows : (line : List ℕ) (b : ℕ) → length (strip_carriage_return line) ≤ length (strip_carriage_return (line ++ b ∷ []))
strip_grows line b =
    subst (λ (q : List ℕ). length (strip_carriage_return line) ≤ length q) (sym (strip_push line b))
    (cond_both (b == 13) line (line ++ b ∷ []) (λ q. length (strip_carriage_return line) ≤ length q)
    (λ is. strip_short line)
    (λ is. omega (arith, strip_short line, length-append line (b ∷ []))))

-- a line that becomes `.` by one byte more was it before, or is that byte
was_dot : (line : List ℕ) (b : ℕ) → is_dot (line ++ b ∷ []) ≡ true → (is_dot line ≡ true) ⊎ (line ≡ [])
was_dot line b is = by (b == 13) refl
  where
    same : strip_carriage_return (line ++ b ∷ []) ≡ 46 ∷ []
    same = (bytes_eq-Decides (strip_carriage_return (line ++ b ∷ [])) (46 ∷ [])).0 is

    one : (line : List ℕ) → line ++ b ∷ [] ≡ 46 ∷ [] → line ≡ []
    one [] e = refl
    one (c ∷ line) e = absurd (omega (arith, ap length e, length-append line (b ∷ [])))

    by : (t : Bool) → (b == 13) ≡ t → (is_dot line ≡ true) ⊎ (line ≡ [])
    by true e =
        let dot_is : line ≡ 46 ∷ [] = sym (strip_push line b ∙ cond-true (b == 13) line (line ++ b ∷ []) e) ∙ same in
        inl (ap is_dot dot_is)
    by false e = inr (one line (sym (strip_push line b ∙ cond-false (b == 13) line (line ++ b ∷ []) e) ∙ same))

stays_last : (dot : Bool) (line : List ℕ) (b : ℕ) → is_last dot line ≡ true → is_last dot (line ++ b ∷ []) ≡ true
stays_last dot line b is = by (dot && is_dot (line ++ b ∷ [])) refl
  where
    parts : (not (length line == 0) ≡ true) × (not (dot && is_dot line) ≡ true)
    parts = and_parts (not (length line == 0)) (not (dot && is_dot line)) is

    some : (length (line ++ b ∷ []) == 0) ≡ false
    some = ne_eqb (length (line ++ b ∷ [])) 0 (λ e. absurd (omega (arith, e, length-append line (b ∷ []))))

    by : (t : Bool) → (dot && is_dot (line ++ b ∷ [])) ≡ t → is_last dot (line ++ b ∷ []) ≡ true
    by false e = ap (λ t. not t && not (dot && is_dot (line ++ b ∷ []))) some ∙ ap not e
    by true e =
        let both = and_parts dot (is_dot (line ++ b ∷ [])) e in
        absurd (⊎_elim
        (λ (before : is_dot line ≡ true). false≢true (sym (ap not (ap (λ t. t && is_dot line) both.0 ∙ before)) ∙ parts.1))
        (λ (none : line ≡ []). true≢false (sym parts.0 ∙ ap (λ (q : List ℕ). not (length q == 0)) none))
        (was_dot line b both.1))

last_grows : (dot : Bool) (line : List ℕ) (b : ℕ) → last_size dot line ≤ last_size dot (line ++ b ∷ [])
last_grows dot line b =
    cond_both (is_last dot line) (strip_carriage_return line ∷ []) [] (λ ls. length (text_of ls) ≤ last_size dot (line ++ b ∷ []))
    (λ is.
    let more : last_line dot (line ++ b ∷ []) ≡ strip_carriage_return (line ++ b ∷ []) ∷ [] = cond-true (is_last dot (line ++ b ∷ [])) (strip_carriage_return (line ++ b ∷ []) ∷ []) [] (stays_last dot line b is) in
    omega (arith, one_line (strip_carriage_return line), one_line (strip_carriage_return (line ++ b ∷ [])), strip_grows line b, ap (λ (q : List (List ℕ)). length (text_of q)) more))
    (λ none. omega arith)

step_grows : (dot : Bool) (r : Reading) (b : ℕ) → size dot r ≤ size dot (with_byte dot r b)
step_grows dot r b =
    cond_both r.ended r (cond (is_feed b) (with_feed dot r) (record r { line = r.line ++ b ∷ [] })) (λ (q : Reading). size dot r ≤ size dot q)
    (λ e. omega arith)
    (λ e. cond_both (is_feed b) (with_feed dot r) (record r { line = r.line ++ b ∷ [] }) (λ (q : Reading). size dot r ≤ size dot q)
    (λ f. cond_both (dot && is_dot r.line) (record r { ended = true }) (record r { lines = r.lines ++ strip_carriage_return r.line ∷ []; line = [] }) (λ (q : Reading). size dot r ≤ size dot q)
    (λ d. omega arith)
    (λ d. omega (arith, size_is dot r, size_is dot (record r { lines = r.lines ++ strip_carriage_return r.line ∷ []; line = [] }), text_more r.lines (strip_carriage_return r.line ∷ []), one_line (strip_carriage_return r.line), last_small dot r.line)))
    (λ f. omega (arith, size_is dot r, size_is dot (record r { line = r.line ++ b ∷ [] }), last_grows dot r.line b)))

all_grows : (dot : Bool) (r : Reading) (bytes : List ℕ) → size dot r ≤ size dot (fold (with_byte dot) r bytes)
all_grows dot r [] = omega arith
all_grows dot r (b ∷ bytes) = omega (arith, step_grows dot r b, all_grows dot (with_byte dot r b) bytes)

-- ---- the laws

pub text_whole : (dot : Bool) (most : ℕ) (before after : SourceSeen) (bytes text : List ℕ) → before.left ≡ Some bytes → IsRead dot most before after text → text ≡ message_of dot (read dot bytes)
text_whole dot most before after bytes text told is = is.is ∙ ap (message_of dot) (sym (by after.left before.left told is.takes is.over))
  where
    by : (b a : Option (List ℕ)) → a ≡ Some bytes → Loses a b is.taken → ((read dot is.taken).ended ≡ true) ⊎ IfSome b (λ left. left ≡ []) → read dot bytes ≡ read dot is.taken
    by (Some rest) a same lost over = text_all dot bytes is.taken rest (subst (λ (q : Option (List ℕ)). Loses q (Some rest) is.taken) same lost) over
    by None a same lost over = absurd (subst (λ (q : Option (List ℕ)). Loses q None is.taken) same lost)

pub within_whole : (dot : Bool) (most : ℕ) (before after : SourceSeen) (bytes text : List ℕ) → before.left ≡ Some bytes → IsRead dot most before after text → length (message_of dot (read dot bytes)) ≤ most
within_whole dot most before after bytes text told is = subst (λ (q : List ℕ). length q ≤ most) (text_whole dot most before after bytes text told is) is.within

pub large_whole : (dot : Bool) (most : ℕ) (before after : SourceSeen) (bytes : List ℕ) → before.left ≡ Some bytes → IsLarge dot most before after → most < length (message_of dot (read dot bytes))
large_whole dot most before after bytes told is = by after.left before.left told is.takes
  where
    taken_large : most < size dot (read dot is.taken)
    taken_large = ⊎_elim
        (λ (counts : most < size_of (read dot is.taken)). small counts)
        (λ (whole : most < size dot (read dot is.taken)). whole)
        is.large
      where
        small : most < size_of (read dot is.taken) → most < size dot (read dot is.taken)
        small counts = omega (arith, counts, size_is dot (read dot is.taken), counted_last dot (read dot is.taken).line)

    more_large : (rest : List ℕ) → bytes ≡ is.taken ++ rest → most < size dot (read dot bytes)
    more_large rest whole =
        let same = ap (λ (q : List ℕ). size dot (read dot q)) whole ∙ ap (size dot) (read_more dot is.taken rest) in
        omega (arith, taken_large, same, all_grows dot (read dot is.taken) rest)

    by : (b a : Option (List ℕ)) → a ≡ Some bytes → Loses a b is.taken → most < size dot (read dot bytes)
    by (Some rest) a same lost = more_large rest (subst (λ (q : Option (List ℕ)). Loses q (Some rest) is.taken) same lost)
    by None a same lost = absurd (subst (λ (q : Option (List ℕ)). Loses q None is.taken) same lost)
