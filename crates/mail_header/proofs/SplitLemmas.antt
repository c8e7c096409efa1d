-- The split of lines with one line more.
use Rattle.std.proofs.Common.{◌≡◌, ℕ, ◌+◌, ◌≤◌, ◌<◌, min, Bool, true, false, cond, List, [], ◌∷◌, ◌++◌, length, refl, sym, ap, subst, ◌∙◌, arith, append_assoc, append-nil, ⊎_elim, ◌==◌, Result, Ok, Err, OnOk}
use Rattle.std.specs.List.{flat_map}
use Rattle.std.proofs.lemmas.Bool.{cond-true, cond-false, false≢true, cases_Bool, cases_lt, eqb-true, ltb-false, lt-ltb, le-ltb}
use Rattle.std.proofs.lemmas.List.Concat.{flat_map-append}
use Rattle.std.proofs.lemmas.List.Sums.{sum_by_push}
use Rattle.mail_base.specs.Limits.{most_headers}
use Rattle.mail_base.specs.Texts.{crlf}
use Rattle.mail_header.specs.Headers.{is_continuation, is_some_line, with_end}
use Rattle.mail_header.specs.Lines.{belongs, block_of, rest_of, goes_on, joined, headers_in, headers_of, without_empty, body_of, size_of}
use Rattle.mail_header.specs.declared.gathered.Gathered.{Gathered}
use Rattle.mail_header.specs.Gatherings.{counted, is_above, unless, KeepsSplit, Gathers}
use Rattle.mail_header.specs.inner.Added.{onto_last, header_added, AddsHeader}

-- ---- sizes

size_more : (lines : List (List ℕ)) (line : List ℕ) → size_of (lines ++ line ∷ []) ≡ size_of lines + (length line + 2)
size_more lines line = sum_by_push (λ l. length l + 2) lines line

counted_more : (limit size length : ℕ) → counted limit (counted limit size + length + 2) ≡ counted limit (size + (length + 2))
unfolding counted
counted_more limit size length = omega arith

counted_size : (limit : ℕ) (lines : List (List ℕ)) (line : List ℕ) (size : ℕ) → size ≡ counted limit (size_of lines) → counted limit (size + length line + 2) ≡ counted limit (size_of (lines ++ line ∷ []))
counted_size limit lines line size is =
    ap (λ n. counted limit (n + length line + 2)) is ∙ counted_more limit (size_of lines) (length line) ∙ sym (ap (counted limit) (size_more lines line))

-- ---- the header block

-- whether the block has begun after lines
abbrev pub begun_by : Bool → List (List ℕ) → Bool
begun_by begun [] = begun
begun_by begun (line ∷ lines) = true

begun_true : (lines : List (List ℕ)) → begun_by true lines ≡ true
begun_true [] = refl
begun_true (line ∷ lines) = refl

block_more : (begun : Bool) (lines : List (List ℕ)) (line : List ℕ) → is_some_line (rest_of begun lines) ≡ true → block_of begun (lines ++ line ∷ []) ≡ block_of begun lines
block_more begun [] line h = absurd (false≢true h)
block_more begun (l ∷ lines) line h =
    elim (belongs begun l) as (λ b. is_some_line (cond b (rest_of true lines) (l ∷ lines)) ≡ true → cond b (l ∷ block_of true (lines ++ line ∷ [])) [] ≡ cond b (l ∷ block_of true lines) [])
    [ true ↦ λ some. ap (λ t. l ∷ t) (block_more true lines line some) | false ↦ λ some. refl ] h

rest_more : (begun : Bool) (lines : List (List ℕ)) (line : List ℕ) → is_some_line (rest_of begun lines) ≡ true → rest_of begun (lines ++ line ∷ []) ≡ rest_of begun lines ++ line ∷ []
rest_more begun [] line h = absurd (false≢true h)
rest_more begun (l ∷ lines) line h =
    elim (belongs begun l) as (λ b. is_some_line (cond b (rest_of true lines) (l ∷ lines)) ≡ true → cond b (rest_of true (lines ++ line ∷ [])) (l ∷ (lines ++ line ∷ [])) ≡ cond b (rest_of true lines) (l ∷ lines) ++ line ∷ [])
    [ true ↦ λ some. rest_more true lines line some | false ↦ λ some. refl ] h

block_all : (begun : Bool) (lines : List (List ℕ)) → is_some_line (rest_of begun lines) ≡ false → block_of begun lines ≡ lines
block_all begun [] h = refl
block_all begun (l ∷ lines) h =
    elim (belongs begun l) as (λ b. is_some_line (cond b (rest_of true lines) (l ∷ lines)) ≡ false → cond b (l ∷ block_of true lines) [] ≡ l ∷ lines)
    [ true ↦ λ none. ap (λ t. l ∷ t) (block_all true lines none) | false ↦ λ none. absurd (false≢true (sym none)) ] h

-- a line that belongs to the block, and one that doesn't, where no line after the block has come
block_yes : (begun : Bool) (lines : List (List ℕ)) (line : List ℕ) → is_some_line (rest_of begun lines) ≡ false → belongs (begun_by begun lines) line ≡ true → block_of begun (lines ++ line ∷ []) ≡ block_of begun lines ++ line ∷ []
block_yes begun [] line h met = cond-true (belongs begun line) (line ∷ []) [] met
block_yes begun (l ∷ lines) line h met =
    let inner = ap (λ b. belongs b line) (begun_true lines) ∙ met in
    elim (belongs begun l) as (λ b. is_some_line (cond b (rest_of true lines) (l ∷ lines)) ≡ false → cond b (l ∷ block_of true (lines ++ line ∷ [])) [] ≡ cond b (l ∷ block_of true lines) [] ++ line ∷ [])
    [ true ↦ λ none. ap (λ t. l ∷ t) (block_yes true lines line none inner) | false ↦ λ none. absurd (false≢true (sym none)) ] h

rest_yes : (begun : Bool) (lines : List (List ℕ)) (line : List ℕ) → is_some_line (rest_of begun lines) ≡ false → belongs (begun_by begun lines) line ≡ true → rest_of begun (lines ++ line ∷ []) ≡ []
rest_yes begun [] line h met = cond-true (belongs begun line) [] (line ∷ []) met
rest_yes begun (l ∷ lines) line h met =
    let inner = ap (λ b. belongs b line) (begun_true lines) ∙ met in
    elim (belongs begun l) as (λ b. is_some_line (cond b (rest_of true lines) (l ∷ lines)) ≡ false → cond b (rest_of true (lines ++ line ∷ [])) (l ∷ (lines ++ line ∷ [])) ≡ [])
    [ true ↦ λ none. rest_yes true lines line none inner | false ↦ λ none. absurd (false≢true (sym none)) ] h

block_no : (begun : Bool) (lines : List (List ℕ)) (line : List ℕ) → is_some_line (rest_of begun lines) ≡ false → belongs (begun_by begun lines) line ≡ false → block_of begun (lines ++ line ∷ []) ≡ block_of begun lines
block_no begun [] line h unmet = cond-false (belongs begun line) (line ∷ []) [] unmet
block_no begun (l ∷ lines) line h unmet =
    let inner = ap (λ b. belongs b line) (begun_true lines) ∙ unmet in
    elim (belongs begun l) as (λ b. is_some_line (cond b (rest_of true lines) (l ∷ lines)) ≡ false → cond b (l ∷ block_of true (lines ++ line ∷ [])) [] ≡ cond b (l ∷ block_of true lines) [])
    [ true ↦ λ none. ap (λ t. l ∷ t) (block_no true lines line none inner) | false ↦ λ none. absurd (false≢true (sym none)) ] h

rest_no : (begun : Bool) (lines : List (List ℕ)) (line : List ℕ) → is_some_line (rest_of begun lines) ≡ false → belongs (begun_by begun lines) line ≡ false → rest_of begun (lines ++ line ∷ []) ≡ line ∷ []
rest_no begun [] line h unmet = cond-false (belongs begun line) [] (line ∷ []) unmet
rest_no begun (l ∷ lines) line h unmet =
    let inner = ap (λ b. belongs b line) (begun_true lines) ∙ unmet in
    elim (belongs begun l) as (λ b. is_some_line (cond b (rest_of true lines) (l ∷ lines)) ≡ false → cond b (rest_of true (lines ++ line ∷ [])) (l ∷ (lines ++ line ∷ [])) ≡ line ∷ [])
    [ true ↦ λ none. rest_no true lines line none inner | false ↦ λ none. absurd (false≢true (sym none)) ] h

no_lines : (lines : List (List ℕ)) → is_some_line lines ≡ false → lines ≡ []
no_lines [] h = refl
no_lines (line ∷ lines) h = absurd (false≢true (sym h))

-- ---- headers

joined_some : (line : List ℕ) (on : Bool) (headers : List (List ℕ)) → is_some_line (joined line on headers) ≡ true
joined_some line false headers = refl
joined_some line true [] = refl
joined_some line true (header ∷ headers) = refl

headers_some : (line : List ℕ) (lines : List (List ℕ)) → is_some_line (headers_in (line ∷ lines)) ≡ true
headers_some line lines = joined_some line (goes_on lines) (headers_in lines)

joined_push : (line : List ℕ) (on : Bool) (headers : List (List ℕ)) (last : List ℕ) → is_some_line headers ≡ true → joined line on (headers ++ last ∷ []) ≡ joined line on headers ++ last ∷ []
joined_push line on [] last h = absurd (false≢true h)
joined_push line false (header ∷ headers) last h = refl
joined_push line true (header ∷ headers) last h = refl

joined_onto : (line : List ℕ) (on : Bool) (headers : List (List ℕ)) (last : List ℕ) → is_some_line headers ≡ true → joined line on (onto_last last headers) ≡ onto_last last (joined line on headers)
joined_onto line on [] last h = absurd (false≢true h)
joined_onto line false (header ∷ []) last h = refl
joined_onto line true (header ∷ []) last h = ap (λ t. t ∷ []) (sym (append_assoc line (crlf ++ header) (crlf ++ last)))
joined_onto line false (header ∷ next ∷ headers) last h = refl
joined_onto line true (header ∷ next ∷ headers) last h = refl

headers_push : (lines : List (List ℕ)) (line : List ℕ) → is_continuation line ≡ false → headers_in (lines ++ line ∷ []) ≡ headers_in lines ++ line ∷ []
headers_push [] line unmet = refl
headers_push (l ∷ []) line unmet = ap (λ b. joined l b (line ∷ [])) unmet
headers_push (l ∷ m ∷ lines) line unmet =
    ap (joined l (is_continuation m)) (headers_push (m ∷ lines) line unmet)
    ∙ joined_push l (is_continuation m) (headers_in (m ∷ lines)) line (headers_some m lines)

headers_onto : (lines : List (List ℕ)) (line : List ℕ) → is_continuation line ≡ true → headers_in (lines ++ line ∷ []) ≡ onto_last line (headers_in lines)
headers_onto [] line met = refl
headers_onto (l ∷ []) line met = ap (λ b. joined l b (line ∷ [])) met
headers_onto (l ∷ m ∷ lines) line met =
    ap (joined l (is_continuation m)) (headers_onto (m ∷ lines) line met)
    ∙ joined_onto l (is_continuation m) (headers_in (m ∷ lines)) line (headers_some m lines)

headers_added : (lines : List (List ℕ)) (line : List ℕ) → headers_in (lines ++ line ∷ []) ≡ header_added line (headers_in lines)
headers_added lines line =
    ⊎_elim
    (λ met. headers_onto lines line met ∙ sym (cond-true (is_continuation line) (onto_last line (headers_in lines)) (headers_in lines ++ line ∷ []) met))
    (λ unmet. headers_push lines line unmet ∙ sym (cond-false (is_continuation line) (onto_last line (headers_in lines)) (headers_in lines ++ line ∷ []) unmet))
    (cases_Bool (is_continuation line))

pub onto_last_push : (line header : List ℕ) (headers : List (List ℕ)) → onto_last line (headers ++ header ∷ []) ≡ headers ++ (header ++ (crlf ++ line)) ∷ []
onto_last_push line header [] = refl
onto_last_push line header (h ∷ []) = refl
onto_last_push line header (h ∷ next ∷ headers) = ap (λ t. h ∷ t) (onto_last_push line header (next ∷ headers))

some_begun : (lines : List (List ℕ)) → is_some_line lines ≡ begun_by false lines
some_begun [] = refl
some_begun (line ∷ lines) = refl

some_push : (lines : List (List ℕ)) (line : List ℕ) → is_some_line (lines ++ line ∷ []) ≡ true
some_push [] line = refl
some_push (l ∷ lines) line = refl

-- the block has begun where it has a line
begun_is : (lines : List (List ℕ)) → is_some_line (rest_of false lines) ≡ false → is_some_line (block_of false lines) ≡ begun_by false lines
begun_is lines none = ap is_some_line (block_all false lines none) ∙ some_begun lines

-- ---- the body

without_empty_push : (lines : List (List ℕ)) (line : List ℕ) → is_some_line lines ≡ true → without_empty (lines ++ line ∷ []) ≡ without_empty lines ++ line ∷ []
without_empty_push [] line h = absurd (false≢true h)
without_empty_push ([] ∷ lines) line h = refl
without_empty_push ((b ∷ l) ∷ lines) line h = refl

body_more : (lines : List (List ℕ)) (line : List ℕ) → is_some_line (rest_of false lines) ≡ true → body_of (lines ++ line ∷ []) ≡ body_of lines ++ with_end line
body_more lines line some =
    ap (λ r. flat_map with_end (without_empty r)) (rest_more false lines line some)
    ∙ ap (flat_map with_end) (without_empty_push (rest_of false lines) line some)
    ∙ flat_map-append with_end (without_empty (rest_of false lines)) (line ∷ [])
    ∙ ap (λ t. body_of lines ++ t) (append-nil (with_end line))

body_none : (lines : List (List ℕ)) → is_some_line (rest_of false lines) ≡ false → body_of lines ≡ []
body_none lines none = ap (λ r. flat_map with_end (without_empty r)) (no_lines (rest_of false lines) none)

body_yes : (lines : List (List ℕ)) (line : List ℕ) → is_some_line (rest_of false lines) ≡ false → belongs (begun_by false lines) line ≡ true → body_of (lines ++ line ∷ []) ≡ body_of lines
body_yes lines line none met = ap (λ r. flat_map with_end (without_empty r)) (rest_yes false lines line none met) ∙ sym (body_none lines none)

body_empty : (lines : List (List ℕ)) → is_some_line (rest_of false lines) ≡ false → belongs (begun_by false lines) [] ≡ false → body_of (lines ++ [] ∷ []) ≡ body_of lines
body_empty lines none unmet = ap (λ r. flat_map with_end (without_empty r)) (rest_no false lines [] none unmet) ∙ sym (body_none lines none)

body_first : (lines : List (List ℕ)) (b : ℕ) (line : List ℕ) → is_some_line (rest_of false lines) ≡ false → belongs (begun_by false lines) (b ∷ line) ≡ false → body_of (lines ++ (b ∷ line) ∷ []) ≡ body_of lines ++ with_end (b ∷ line)
body_first lines b line none unmet =
    ap (λ r. flat_map with_end (without_empty r)) (rest_no false lines (b ∷ line) none unmet)
    ∙ append-nil (with_end (b ∷ line))
    ∙ sym (ap (λ t. t ++ with_end (b ∷ line)) (body_none lines none))

-- ---- limits

earlier : (limit size length : ℕ) → is_above limit (counted limit (size + length + 2)) ≡ false → is_above limit size ≡ false
unfolding counted
earlier limit size length h =
    let most = ltb-false limit (min (size + length + 2) (limit + 1)) h in
    let le : size ≤ limit = omega arith in
    le-ltb limit size le

-- a size that is counted and isn't above the limit is exact
pub exact_size : (limit size : ℕ) → is_above limit (counted limit size) ≡ false → counted limit size ≡ size
unfolding counted
exact_size limit size h =
    let most = ltb-false limit (min size (limit + 1)) h in
    omega arith

-- a size that is counted is above the limit if the size itself is
pub same_above : (limit size : ℕ) → is_above limit (counted limit size) ≡ is_above limit size
unfolding counted
same_above limit size =
    ⊎_elim
    (λ (above : limit < size). lt-ltb limit (min size (limit + 1)) (omega arith) ∙ sym (lt-ltb limit size above))
    (λ (within : size ≤ limit). le-ltb limit (min size (limit + 1)) (omega arith) ∙ sym (le-ltb limit size within))
    (cases_lt limit size)

-- ---- what is kept, with one line more

unless_none : (is : Bool) → unless is [] ≡ []
unless_none true = refl
unless_none false = refl

-- headers that were given up stay so
unless_more : (was is : Bool) (line : List ℕ) (old headers : List (List ℕ)) → (is ≡ false → was ≡ false) → old ≡ unless was headers → unless is (header_added line old) ≡ unless is (header_added line headers)
unless_more was true line old headers earlier kept = refl
unless_more was false line old headers earlier kept = ap (header_added line) (kept ∙ ap (λ b. unless b headers) (earlier refl))

moved_split : (g : Gathered) (size : ℕ) (lines : List (List ℕ)) → KeepsSplit g lines → KeepsSplit (record g { size = size }) lines
moved_split g size lines is = record { headers = is.headers; has_header = is.has_header; block = is.block; body = is.body; has_body = is.has_body }

-- a new message has gathered no line
pub gathers_none : (g : Gathered) (limit : ℕ) → g.size ≡ 0 → g.block ≡ 0 → g.headers ≡ [] → g.has_header ≡ false → g.body ≡ [] → g.has_body ≡ false → Gathers g limit []
unfolding counted
gathers_none g limit size block headers has_header body has_body = record {
  size = size ∙ nothing limit;
  split = λ small. record { headers = headers ∙ sym (unless_none (is_above most_headers g.block)); has_header = has_header; block = block ∙ nothing most_headers; body = body; has_body = has_body };
  gone = λ large. record { headers = headers; body = body };
}
  where
    nothing : (limit : ℕ) → 0 ≡ min 0 (limit + 1)
    nothing limit = omega arith

-- the lines are too large
pub gathers_large : (g n : Gathered) (limit size : ℕ) (line : List ℕ) (lines : List (List ℕ)) → n ≡ record g { size = size; headers = []; body = [] } → size ≡ counted limit (g.size + length line + 2) → is_above limit size ≡ true → Gathers g limit lines
    → Gathers n limit (lines ++ line ∷ [])
gathers_large g n limit size line lines new counted_is large is =
    subst (λ x. Gathers x limit (lines ++ line ∷ [])) (sym new)
    (record { size = counted_is ∙ counted_size limit lines line g.size is.size; split = λ small. absurd (false≢true (sym small ∙ large)); gone = λ more. record { headers = refl; body = refl } })

-- they aren't
pub gathers_split : (g m : Gathered) (limit size : ℕ) (line : List ℕ) (lines : List (List ℕ)) → size ≡ counted limit (g.size + length line + 2) → is_above limit size ≡ false
    → (KeepsSplit g lines → KeepsSplit m (lines ++ line ∷ [])) → Gathers g limit lines → Gathers (record m { size = size }) limit (lines ++ line ∷ [])
gathers_split g m limit size line lines counted_is small split is = record {
  size = counted_is ∙ counted_size limit lines line g.size is.size;
  split = λ within. moved_split m size (lines ++ line ∷ []) (split (is.split (earlier limit g.size (length line) (sym (ap (is_above limit) counted_is) ∙ small))));
  gone = λ large. absurd (false≢true (sym small ∙ large));
}

body_added : (g : Gathered) (line : List ℕ) (lines : List (List ℕ)) → g.has_body ≡ true → KeepsSplit g lines → KeepsSplit (record g { body = g.body ++ with_end line; has_body = true }) (lines ++ line ∷ [])
body_added g line lines has is =
    let some : is_some_line (rest_of false lines) ≡ true = sym is.has_body ∙ has in
    let block : block_of false (lines ++ line ∷ []) ≡ block_of false lines = block_more false lines line some in
    record {
      headers = is.headers ∙ sym (ap (λ b. unless (is_above most_headers g.block) (headers_in b)) block);
      has_header = is.has_header ∙ sym (ap is_some_line block);
      block = is.block ∙ sym (ap (λ b. counted most_headers (size_of b)) block);
      body = ap (λ b. b ++ with_end line) is.body ∙ sym (body_more lines line some);
      has_body = sym (ap is_some_line (rest_more false lines line some) ∙ some_push (rest_of false lines) line);
    }

-- once the body began, one line more with its end is added to the body
pub split_body : {T E : Type 0} (r : Result T E) (g n : Gathered) (line : List ℕ) → g.has_body ≡ true → OnOk r (n ≡ record g { body = g.body ++ with_end line; has_body = true })
    → OnOk r ((lines : List (List ℕ)) → KeepsSplit g lines → KeepsSplit n (lines ++ line ∷ []))
split_body (Err e) g n line has new = tt
split_body (Ok u) g n line has new = λ lines is. subst (λ x. KeepsSplit x (lines ++ line ∷ [])) (sym new) (body_added g line lines has is)

header_added_to : (g n : Gathered) (line : List ℕ) (lines : List (List ℕ)) → g.has_body ≡ false → belongs g.has_header line ≡ true → AddsHeader g n line → KeepsSplit g lines → KeepsSplit n (lines ++ line ∷ [])
header_added_to g n line lines has met adds is =
    let none : is_some_line (rest_of false lines) ≡ false = sym is.has_body ∙ has in
    let belongs_is : belongs (begun_by false lines) line ≡ true = sym (ap (λ b. belongs b line) (is.has_header ∙ begun_is lines none)) ∙ met in
    let block : block_of false (lines ++ line ∷ []) ≡ block_of false lines ++ line ∷ [] = block_yes false lines line none belongs_is in
    record {
      headers = adds.headers
          ∙ unless_more (is_above most_headers g.block) (is_above most_headers n.block) line g.headers (headers_of lines) (λ small. earlier most_headers g.block (length line) (sym (ap (is_above most_headers) adds.block) ∙ small)) is.headers
          ∙ ap (unless (is_above most_headers n.block)) (sym (headers_added (block_of false lines) line) ∙ sym (ap headers_in block));
      has_header = adds.has_header ∙ sym (ap is_some_line block ∙ some_push (block_of false lines) line);
      block = adds.block ∙ counted_size most_headers (block_of false lines) line g.block is.block ∙ sym (ap (λ b. counted most_headers (size_of b)) block);
      body = adds.body ∙ is.body ∙ sym (body_yes lines line none belongs_is);
      has_body = adds.has_body ∙ has ∙ sym (ap is_some_line (rest_yes false lines line none belongs_is));
    }

-- before the body, a line that belongs to the headers is added to them
pub split_header : {T E : Type 0} (r : Result T E) (g n : Gathered) (line : List ℕ) → g.has_body ≡ false → belongs g.has_header line ≡ true → OnOk r (AddsHeader g n line)
    → OnOk r ((lines : List (List ℕ)) → KeepsSplit g lines → KeepsSplit n (lines ++ line ∷ []))
split_header (Err e) g n line has met adds = tt
split_header (Ok u) g n line has met adds = λ lines is. header_added_to g n line lines has met adds is

-- the first line after the header block
body_begun : (g : Gathered) (body line : List ℕ) (lines : List (List ℕ)) → g.has_body ≡ false → belongs g.has_header line ≡ false
    → (belongs (begun_by false lines) line ≡ false → is_some_line (rest_of false lines) ≡ false → body ≡ body_of (lines ++ line ∷ [])) → KeepsSplit g lines → KeepsSplit (record g { body = body; has_body = true }) (lines ++ line ∷ [])
body_begun g body line lines has unmet body_is is =
    let none : is_some_line (rest_of false lines) ≡ false = sym is.has_body ∙ has in
    let belongs_not : belongs (begun_by false lines) line ≡ false = sym (ap (λ b. belongs b line) (is.has_header ∙ begun_is lines none)) ∙ unmet in
    let block : block_of false (lines ++ line ∷ []) ≡ block_of false lines = block_no false lines line none belongs_not in
    record {
      headers = is.headers ∙ sym (ap (λ b. unless (is_above most_headers g.block) (headers_in b)) block);
      has_header = is.has_header ∙ sym (ap is_some_line block);
      block = is.block ∙ sym (ap (λ b. counted most_headers (size_of b)) block);
      body = body_is belongs_not none;
      has_body = sym (ap is_some_line (rest_no false lines line none belongs_not));
    }

-- it is empty
pub split_empty : (g n : Gathered) (line : List ℕ) → g.has_body ≡ false → belongs g.has_header line ≡ false → (length line == 0) ≡ true → n ≡ record g { has_body = true }
    → (lines : List (List ℕ)) → KeepsSplit g lines → KeepsSplit n (lines ++ line ∷ [])
split_empty g n [] has unmet empty new lines is =
    subst (λ x. KeepsSplit x (lines ++ [] ∷ [])) (sym new)
    (body_begun g g.body [] lines has unmet (λ not_in none. is.body ∙ sym (body_empty lines none not_in)) is)
split_empty g n (b ∷ line) has unmet empty new lines is = let e = eqb-true (length (b ∷ line)) 0 empty in absurd (omega arith)

-- it is not
pub split_first : {T E : Type 0} (r : Result T E) (g n : Gathered) (line : List ℕ) → g.has_body ≡ false → belongs g.has_header line ≡ false → (length line == 0) ≡ false
    → OnOk r (n ≡ record g { body = g.body ++ with_end line; has_body = true }) → OnOk r ((lines : List (List ℕ)) → KeepsSplit g lines → KeepsSplit n (lines ++ line ∷ []))
split_first (Err e) g n line has unmet some new = tt
split_first (Ok u) g n [] has unmet some new = absurd (false≢true (sym some))
split_first (Ok u) g n (b ∷ line) has unmet some new = λ lines is.
    subst (λ x. KeepsSplit x (lines ++ (b ∷ line) ∷ [])) (sym new)
    (body_begun g (g.body ++ with_end (b ∷ line)) (b ∷ line) lines has unmet
    (λ not_in none. ap (λ t. t ++ with_end (b ∷ line)) is.body ∙ sym (body_first lines b line none not_in)) is)
