-- What a message's text hands over is in its forms, and so are its sender and its recipients.
use Rattle.std.proofs.Common.{◌≡◌, ℕ, zero, suc, ◌+◌, ◌-◌, ◌<◌, ◌≤◌, ◌==◌, ◌&&◌, List, [], ◌∷◌, ◌++◌, length, take, map, Bool, true, false, not, Option, Some, None, refl, sym, ap, subst, arith, codes, ⊎_elim}
use Rattle.std.specs.Prelude.{All, IfSome, filter, find, slice_get, slice_index, slice_range, unwrap_or, option_and_then, nat_lt}
use Rattle.std.specs.List.{list_all, prefix_len}
use Rattle.std.proofs.lemmas.Bool.{and_parts, cond_both, false≢true}
use Rattle.std.proofs.lemmas.List.{length-append}
use Rattle.std.proofs.lemmas.List.Elements.{All-append, All-cons, All-filter, All-head, All-nil, All-tail, All-take}
use Rattle.mail_base.specs.Texts.{IsAddress, IsBlank, IsBracketed, IsHeader, IsLine, crlf, ends_in, is_blank, without_angles}
use Rattle.mail_header.specs.declared.span.Span.{Span}
use Rattle.mail_header.specs.Headers.{AreHeaders, IsFolded, IsHeaderText, folded, is_continuation, is_header_by, is_name_byte, is_plain, last_fold, no_headers, one_fold, one_header, text_of, unfolded, with_end}
use Rattle.mail_header.specs.Places.{places_of}
use Rattle.mail_header.proofs.MadeLemmas.{blank_is}
use Rattle.mail_submit.specs.Submissions.{IsSubmission, address_at, addresses_in, is_addressed, is_bcc, is_from, kept_headers, recipients_in, recipients_of_one, recipients_of as found_of}
use Rattle.mail_submit.specs.declared.submission.Submission.{Submission}
use Rattle.mail_submit.specs.declared.words.SubmitWords.{SubmitWords}
use Rattle.smtp_receive.proofs.PathLemmas.{brackets_form}
use Rattle.mail_submit.specs.Said.{AreSaid, bracketed}
use Rattle.submit_run.specs.Parties.{is_kept, is_left_out, recipients_of, sender_of}
use Rattle.submit_run.specs.inner.Steps.{IsSound}
use Rattle.submit_run.proofs.StoringLemmas.{NotLf, plain_byte, plain_line}

-- ---- headers

-- the same as IsHeader, in a form that computes
abbrev Goes : List ℕ → Type 0
Goes header = (k : ℕ) → slice_index header k ≡ 10 → IsBlank (slice_index header (suc k))

header_from : (header : List ℕ) → Goes header → IsHeader header
header_from header goes k is =
    let next : suc k ≡ k + 1 = omega arith in
    subst (λ n. IsBlank (slice_index header n)) next (goes k is)

goes_line : (line : List ℕ) → IsLine line → Goes line
goes_line [] plain k is = absurd (omega arith)
goes_line (b ∷ line) plain zero is = absurd (All-head NotLf b line plain is)
goes_line (b ∷ line) plain (suc k) is = goes_line line (All-tail NotLf b line plain) k is

goes_onto : (line header : List ℕ) → IsLine line → IsBlank (slice_index header 0) → Goes header → Goes (line ++ (crlf ++ header))
goes_onto [] header plain blank goes zero is = absurd (omega arith)
goes_onto [] header plain blank goes (suc zero) is = blank
goes_onto [] header plain blank goes (suc (suc k)) is = goes k is
goes_onto (b ∷ line) header plain blank goes zero is = absurd (All-head NotLf b line plain is)
goes_onto (b ∷ line) header plain blank goes (suc k) is = goes_onto line header (All-tail NotLf b line plain) blank goes k is

header_line : (line : List ℕ) (n : ℕ) → is_header_by line n ≡ true → IsLine line
header_line line n is =
    let parts = and_parts (nat_lt 0 n && nat_lt n (length line)) (slice_index line n == 58 && list_all is_plain line) is in
    plain_line line (and_parts (slice_index line n == 58) (list_all is_plain line) parts.1).1

next_line : (line : List ℕ) → is_continuation line ≡ true → IsLine line
next_line line is = plain_line line (and_parts (is_blank (slice_index line 0)) (list_all is_plain line) is).1

next_blank : (line : List ℕ) → is_continuation line ≡ true → IsBlank (slice_index line 0)
next_blank line is = blank_is (slice_index line 0) (and_parts (is_blank (slice_index line 0)) (list_all is_plain line) is).0

-- a line before others begins as it does
not_blank : IsBlank 0 → ⊥
not_blank is = ⊎_elim (λ space. absurd (omega arith)) (λ tab. absurd (omega arith)) is

blank_before : (line more : List ℕ) → IsBlank (slice_index line 0) → IsBlank (slice_index (line ++ more) 0)
blank_before [] more blank = absurd (not_blank blank)
blank_before (b ∷ line) more blank = blank

folded_blank : (text : List ℕ) → IsFolded text → IsBlank (slice_index text 0)
folded_blank text (last_fold line goes) = next_blank line goes
folded_blank text (one_fold line more goes later) = blank_before line (crlf ++ more) (next_blank line goes)

folded_goes : (text : List ℕ) → IsFolded text → Goes text
folded_goes text (last_fold line goes) = goes_line line (next_line line goes)
folded_goes text (one_fold line more goes later) = goes_onto line more (next_line line goes) (folded_blank more later) (folded_goes more later)

header_form : (header : List ℕ) → IsHeaderText header → IsHeader header
header_form header (unfolded line is) = header_from line (goes_line line (header_line line (prefix_len is_name_byte line) is))
header_form header (folded line more is later) =
    header_from (line ++ (crlf ++ more)) (goes_onto line more (header_line line (prefix_len is_name_byte line) is) (folded_blank more later) (folded_goes more later))

headers_form : (headers : List (List ℕ)) → AreHeaders headers → All IsHeader headers
headers_form headers no_headers = All-nil IsHeader
headers_form headers (one_header header later is are) = All-cons IsHeader header later (header_form header is) (headers_form later are)

kept_form : (from_headers : Bool) (headers : List (List ℕ)) → All IsHeader headers → All IsHeader (kept_headers from_headers headers)
kept_form true headers each = All-filter (λ header. not (is_bcc header)) IsHeader headers each
kept_form false headers each = each

-- ---- how many there are

filter_short : {X : Type 0} (p : X → Bool) (xs : List X) → length (filter p xs) ≤ length xs
filter_short p [] = omega arith
filter_short p (x ∷ xs) =
    let rest = filter_short p xs in
    cond_both (p x) (x ∷ filter p xs) (filter p xs) (λ ys. length ys ≤ length (x ∷ xs)) (λ e. omega (arith, rest)) (λ e. omega (arith, rest))

kept_short : (from_headers : Bool) (headers : List (List ℕ)) → length (kept_headers from_headers headers) ≤ length headers
kept_short true headers = filter_short (λ header. not (is_bcc header)) headers
kept_short false headers = omega arith

text_long : (headers : List (List ℕ)) → length headers ≤ length (text_of headers)
text_long [] = omega arith
text_long (header ∷ headers) =
    let rest = text_long headers in
    let whole = length-append (with_end header) (text_of headers) in
    let one = length-append header crlf in
    omega (arith, rest, whole, one)

-- ---- addresses

plain_filter : (text : List ℕ) → IsLine (filter is_plain text)
plain_filter [] = All-nil NotLf
plain_filter (b ∷ text) =
    cond_both (is_plain b) (b ∷ filter is_plain text) (filter is_plain text) IsLine
    (λ plain. All-cons NotLf b (filter is_plain text) (plain_byte b plain) (plain_filter text))
    (λ folds. plain_filter text)

all_lines : (header : List ℕ) (places : List Span) → All IsLine (map (address_at header) places)
all_lines header [] = All-nil IsLine
all_lines header (place ∷ places) = All-cons IsLine (address_at header place) (map (address_at header) places) (plain_filter (slice_range header place.start (place.start + place.length))) (all_lines header places)

one_found : (header : List ℕ) → All IsLine (recipients_of_one header)
one_found header = cond_both (is_addressed header) (addresses_in header) [] (All IsLine) (λ e. all_lines header (places_of header)) (λ e. All-nil IsLine)

all_found : (headers : List (List ℕ)) → All IsLine (recipients_in headers)
all_found [] = All-nil IsLine
all_found (header ∷ headers) = All-append IsLine (recipients_of_one header) (recipients_in headers) (one_found header) (all_found headers)

found_form : (from_headers : Bool) (headers : List (List ℕ)) → All IsLine (found_of from_headers headers)
found_form true headers = all_found headers
found_form false headers = All-nil IsLine

first_of : (addresses : List (List ℕ)) → All IsLine addresses → IfSome (slice_get addresses 0) IsLine
first_of [] each = tt
first_of (address ∷ addresses) each = All-head IsLine address addresses each

first_in : (header : Option (List ℕ)) → IfSome (option_and_then (λ header. slice_get (addresses_in header) 0) header) IsLine
first_in None = tt
first_in (Some header) = first_of (addresses_in header) (all_lines header (places_of header))

-- what a text hands over is in its forms
pub sound_of : (text : List ℕ) (from_headers : Bool) (s : Submission) → IsSubmission text from_headers s → IsSound s
sound_of text from_headers s is = record {
  headers = subst (All IsHeader) (sym is.headers) (kept_form from_headers is.split.headers (headers_form is.split.headers is.is.are));
  count =
      let kept = ap length is.headers in
      let short = kept_short from_headers is.split.headers in
      let long = text_long is.split.headers in
      let block = is.is.block in
      let same = is.block in omega (arith, kept, short, long, block, same);
  found = subst (All IsLine) (sym is.recipients) (found_form from_headers is.split.headers);
  first_from = subst (λ (q : Option (List ℕ)). IfSome q IsLine) (sym is.first_from) (first_in (find is_from is.split.headers));
}

-- ---- recipients

some_kept : (words : List (List ℕ)) (address : List ℕ) → is_kept words address ≡ true → 0 < length address
some_kept words [] kept = absurd (false≢true (and_parts (not (length {A = ℕ} [] == 0)) (not (is_left_out words [])) kept).0)
some_kept words (b ∷ address) kept = omega arith

kept_all : (words addresses : List (List ℕ)) → All IsLine addresses → All IsAddress (filter (is_kept words) addresses)
kept_all words [] each = All-nil IsAddress
kept_all words (address ∷ addresses) each =
    let rest = kept_all words addresses (All-tail IsLine address addresses each) in
    cond_both (is_kept words address) (address ∷ filter (is_kept words) addresses) (filter (is_kept words) addresses) (All IsAddress)
    (λ kept. All-cons IsAddress address (filter (is_kept words) addresses) (record { line = All-head IsLine address addresses each; some = some_kept words address kept }) rest)
    (λ out. rest)

pub recipients_form : (words : SubmitWords) (found : List (List ℕ)) → AreSaid words → All IsLine found → All IsAddress (recipients_of words found)
recipients_form words found said each =
    cond_both words.from_headers (filter (is_kept words.addresses) found) words.addresses (All IsAddress)
    (λ headers. kept_all words.addresses found each)
    (λ alone. said.addresses)

-- ---- the sender

bare_line : (text : List ℕ) → IsLine text → IsLine (without_angles text)
bare_line [] line = All-nil NotLf
bare_line (b ∷ text) line =
    cond_both (b == 60 && ends_in 62 text) (take (length text - 1) text) (b ∷ text) IsLine
    (λ angles. All-take NotLf (length text - 1) text (All-tail NotLf b text line))
    (λ none. line)

pub bracketed_form : (text : List ℕ) → IsLine text → IsBracketed (bracketed text)
bracketed_form text line = brackets_form (without_angles text) (bare_line text line)

line_or : (text : Option (List ℕ)) (other : List ℕ) → IfSome text IsLine → IsLine other → IsLine (unwrap_or text other)
line_or None other some line = line
line_or (Some text) other some line = some

pub sender_form : (words : SubmitWords) (first : Option (List ℕ)) → AreSaid words → IfSome first IsLine → IsBracketed (sender_of words first)
sender_form words first said from =
    bracketed_form _ (line_or words.sender (unwrap_or first (codes "postmaster")) said.sender (line_or first (codes "postmaster") from (plain_line (codes "postmaster") refl)))
