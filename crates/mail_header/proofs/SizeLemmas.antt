-- What is kept of a message is within its limits.
use Rattle.std.proofs.Common.{◌≡◌, ℕ, ◌+◌, ◌≤◌, Bool, true, false, cond, List, [], ◌∷◌, ◌++◌, length, refl, sym, ap, subst, ◌∙◌, arith, ⊎_elim}
use Rattle.std.specs.List.{flat_map}
use Rattle.std.proofs.lemmas.Bool.{cases_Bool, ltb-false}
use Rattle.std.proofs.lemmas.List.{length-append}
use Rattle.std.proofs.lemmas.List.Sums.{sum_by-cons}
use Rattle.mail_base.specs.Limits.{most_headers}
use Rattle.mail_base.specs.Texts.{crlf}
use Rattle.mail_header.specs.Headers.{with_end, text_of}
use Rattle.mail_header.specs.Lines.{belongs, block_of, rest_of, goes_on, joined, headers_in, headers_of, without_empty, body_of, size_of}
use Rattle.mail_header.specs.declared.gathered.Gathered.{Gathered}
use Rattle.mail_header.specs.Gatherings.{is_above, unless, Gathers, IsSmall}
use Rattle.mail_header.proofs.SplitLemmas.{same_above}

-- ---- sizes of what lines are split into

size_more : (line : List ℕ) (lines : List (List ℕ)) → size_of (line ∷ lines) ≡ (length line + 2) + size_of lines
size_more line lines = sum_by-cons (λ l. length l + 2) line lines

joined_size : (line : List ℕ) (on : Bool) (headers : List (List ℕ)) → size_of (joined line on headers) ≡ (length line + 2) + size_of headers
joined_size line false headers = size_more line headers
joined_size line true [] = size_more line []
joined_size line true (header ∷ headers) =
    let one : length (line ++ (crlf ++ header)) ≡ length line + length (crlf ++ header) = length-append line (crlf ++ header) in
    let two : length (crlf ++ header) ≡ 2 + length header = length-append crlf header in
    let all = size_more (line ++ (crlf ++ header)) headers in
    let rest = size_more header headers in
    omega arith

headers_size : (lines : List (List ℕ)) → size_of (headers_in lines) ≡ size_of lines
headers_size [] = refl
headers_size (line ∷ lines) =
    joined_size line (goes_on lines) (headers_in lines) ∙ ap (λ n. (length line + 2) + n) (headers_size lines) ∙ sym (size_more line lines)

parts_size : (begun : Bool) (lines : List (List ℕ)) → size_of (block_of begun lines) + size_of (rest_of begun lines) ≡ size_of lines
parts_size begun [] = refl
parts_size begun (line ∷ lines) =
    let more : size_of (block_of true lines) + size_of (rest_of true lines) ≡ size_of lines = parts_size true lines in
    let whole = size_more line lines in
    let block = size_more line (block_of true lines) in
    let none : size_of (line ∷ lines) ≡ 0 + size_of (line ∷ lines) = omega arith in
    let all : size_of (line ∷ block_of true lines) + size_of (rest_of true lines) ≡ size_of (line ∷ lines) = omega arith in
    elim (belongs begun line) as (λ b. size_of (cond b (line ∷ block_of true lines) []) + size_of (cond b (rest_of true lines) (line ∷ lines)) ≡ size_of (line ∷ lines))
    [ true ↦ all | false ↦ sym none ]

-- lines with their ends have as many bytes as is counted for them
pub ended_size : (lines : List (List ℕ)) → length (flat_map with_end lines) ≡ size_of lines
ended_size [] = refl
ended_size (line ∷ lines) =
    let more = ended_size lines in
    let one : length (flat_map with_end (line ∷ lines)) ≡ length (with_end line) + length (flat_map with_end lines) = length-append (with_end line) (flat_map with_end lines) in
    let two : length (with_end line) ≡ length line + 2 = length-append line crlf in
    let all = size_more line lines in
    omega arith

empty_size : (lines : List (List ℕ)) → size_of (without_empty lines) ≤ size_of lines
empty_size [] = omega arith
empty_size ([] ∷ lines) = let all = size_more [] lines in omega arith
empty_size ((b ∷ line) ∷ lines) = omega arith

-- headers and body have no more bytes than the lines
split_size : (lines : List (List ℕ)) → size_of (headers_of lines) + length (body_of lines) ≤ size_of lines
split_size lines =
    let headers = headers_size (block_of false lines) in
    let body = ended_size (without_empty (rest_of false lines)) in
    let less = empty_size (rest_of false lines) in
    let parts = parts_size false lines in
    omega arith

-- ---- what is kept

-- no headers are kept
bodied : (g : Gathered) (limit : ℕ) → g.headers ≡ [] → length g.body ≤ limit → IsSmall g limit
bodied g limit none within = record { headers = subst (λ h. length (text_of h) ≤ most_headers) (sym none) (omega arith); all = subst (λ h. length (text_of h) + length g.body ≤ limit) (sym none) (omega arith) }

-- what is gathered under a limit is within it
pub gathers_small : (g : Gathered) (limit : ℕ) (lines : List (List ℕ)) → Gathers g limit lines → IsSmall g limit
gathers_small g limit lines gathers =
    ⊎_elim
    (λ large. let gone = gathers.gone large in bodied g limit gone.headers (subst (λ b. length b ≤ limit) (sym gone.body) (omega arith)))
    (λ small.
    let split = gathers.split small in
    let most = ltb-false limit (size_of lines) (sym (same_above limit (size_of lines)) ∙ sym (ap (is_above limit) gathers.size) ∙ small) in
    let both = split_size lines in
    let body : length g.body ≡ length (body_of lines) = ap (λ b. length b) split.body in
    ⊎_elim
    (λ large. bodied g limit (split.headers ∙ ap (λ b. unless b (headers_of lines)) large) (omega arith))
    (λ within.
    let headers : g.headers ≡ headers_of lines = split.headers ∙ ap (λ b. unless b (headers_of lines)) within in
    let size : length (text_of g.headers) ≡ size_of (headers_of lines) = ended_size g.headers ∙ ap size_of headers in
    let block : size_of (headers_of lines) ≡ size_of (block_of false lines) = headers_size (block_of false lines) in
    let less = ltb-false most_headers (size_of (block_of false lines)) (sym (same_above most_headers (size_of (block_of false lines))) ∙ sym (ap (is_above most_headers) split.block) ∙ within) in
    record { headers = omega arith; all = omega arith })
    (cases_Bool (is_above most_headers g.block)))
    (cases_Bool (is_above limit g.size))
