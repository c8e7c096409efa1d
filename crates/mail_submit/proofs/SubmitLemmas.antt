-- What a message's text hands over.
use Rattle.std.proofs.Common.{◌≡◌, ℕ, ◌+◌, ◌-◌, ◌<◌, ◌≤◌, Bool, true, false, not, List, [], ◌∷◌, ◌++◌, length, get_or, drop, map, Some, None, refl, sym, ap, ◌∙◌, subst, arith}
use Rattle.std.specs.Prelude.{IfSome, option_map, slice_get}
use Rattle.std.specs.List.{All}
use Rattle.std.proofs.lemmas.Bool.{cond-true, cond-false}
use Rattle.std.proofs.lemmas.Option.{none-some, slice_get-map}
use Rattle.std.proofs.lemmas.List.{append-nil, append_cancel_left, drop_more, length-append}
use Rattle.std.proofs.lemmas.List.Concat.{length-flat_map}
use Rattle.std.proofs.lemmas.List.Elements.{All-cons, All-head, All-nil}
use Rattle.std.proofs.lemmas.List.Filters.{sum_by-filter_both}
use Rattle.mail_base.specs.declared.message.Split.{Split}
use Rattle.mail_header.specs.declared.span.Span.{Span}
use Rattle.mail_header.specs.Headers.{IsSplit, text_of, with_end}
use Rattle.mail_header.specs.Places.{AreApart, places_of}
use Rattle.mail_submit.specs.Submissions.{IsSubmission, address_at, addresses_in, first_from, is_addressed, is_bcc, kept_headers, recipients_of, recipients_of_one, without_bcc}
use Rattle.mail_submit.specs.declared.submission.Submission.{Submission}

-- ---- places

apart_end : (from : ℕ) (places : List Span) (to : ℕ) → AreApart from places to → from ≤ to
apart_end from [] to a = a
apart_end from (place ∷ places) to a = omega (arith, a.0, a.1, apart_end (place.start + place.length) places to a.2)

-- places that are apart end in the header
pub all_within : (from : ℕ) (places : List Span) (to : ℕ) → AreApart from places to → All (λ (place : Span). place.start + place.length ≤ to) places
all_within from [] to a = All-nil (λ (place : Span). place.start + place.length ≤ to)
all_within from (place ∷ places) to a =
    All-cons (λ (place : Span). place.start + place.length ≤ to) place places (apart_end (place.start + place.length) places to a.2) (all_within (place.start + place.length) places to a.2)

-- the same of the bytes and the items that code looks at
pub places_fit : (header bytes : List ℕ) (places items : List Span) → bytes ≡ header → items ≡ places → AreApart 0 places (length header) → All (λ (place : Span). place.start + place.length ≤ length bytes) items
places_fit header bytes places items bytes_is items_is apart =
    subst (λ ps. All (λ (place : Span). place.start + place.length ≤ length bytes) ps) (sym items_is)
    (subst (λ b. All (λ (place : Span). place.start + place.length ≤ length b) places) (sym bytes_is) (all_within 0 places (length header) apart))

-- the first place is in the header
pub first_fits : (header bytes : List ℕ) (places items : List Span) (place : Span) → bytes ≡ header → items ≡ places → AreApart 0 places (length header) → Some place ≡ slice_get items 0
    → place.start + place.length ≤ length bytes
first_fits header bytes places items place bytes_is items_is apart first =
    fits items (places_fit header bytes places items bytes_is items_is apart) first
  where
    fits : (ps : List Span) → All (λ (p : Span). p.start + p.length ≤ length bytes) ps → Some place ≡ slice_get ps 0 → place.start + place.length ≤ length bytes
    fits [] all is = absurd (none-some place (sym is))
    fits (p ∷ ps) all is = subst (λ o. IfSome o (λ (q : Span). q.start + q.length ≤ length bytes)) (sym is) (All-head (λ (q : Span). q.start + q.length ≤ length bytes) p ps all)

-- a header that names no recipient, and one that does
pub names_none : (header : List ℕ) (list : List (List ℕ)) → is_addressed header ≡ false → list ≡ list ++ recipients_of_one header
names_none header list is = sym (append-nil list) ∙ ap (λ l. list ++ l) (sym (cond-false (is_addressed header) (addresses_in header) [] is))

pub names_some : (header : List ℕ) (old new : List (List ℕ)) → is_addressed header ≡ true → new ≡ old ++ addresses_in header → new ≡ old ++ recipients_of_one header
names_some header old new is new_is = new_is ∙ ap (λ l. old ++ l) (sym (cond-true (is_addressed header) (addresses_in header) [] is))

-- the addresses at the places of a header
pub addresses_are : (header bytes : List ℕ) (places items : List Span) → bytes ≡ header → items ≡ places → places ≡ places_of header → map (address_at bytes) items ≡ addresses_in header
addresses_are header bytes places items bytes_is items_is places_are =
    ap (λ b. map (address_at b) items) bytes_is ∙ ap (map (address_at header)) (items_is ∙ places_are)

-- the first address of a header
pub first_is : (header bytes : List ℕ) (places items : List Span) (place : Span) (address : List ℕ) → bytes ≡ header → items ≡ places → places ≡ places_of header → Some place ≡ slice_get items 0
    → address ≡ address_at bytes place → Some address ≡ slice_get (addresses_in header) 0
first_is header bytes places items place address bytes_is items_is places_are first address_is =
    ap Some (address_is ∙ ap (λ b. address_at b place) bytes_is) ∙ ap (option_map (address_at header)) first ∙ sym (slice_get-map (address_at header) items 0)
    ∙ ap (λ ps. slice_get (map (address_at header) ps) 0) (items_is ∙ places_are)

pub none_is : (header : List ℕ) (places items : List Span) → items ≡ places → places ≡ places_of header → None ≡ slice_get items 0 → None ≡ slice_get (addresses_in header) 0
none_is header places items items_is places_are first =
    ap (option_map (address_at header)) first ∙ sym (slice_get-map (address_at header) items 0) ∙ ap (λ ps. slice_get (map (address_at header) ps) 0) (items_is ∙ places_are)

-- ---- sizes

-- a header more
length_more : (header : List ℕ) (headers : List (List ℕ)) → length (text_of (header ∷ headers)) ≡ (length header + 2) + length (text_of headers)
length_more header headers = length-append (with_end header) (text_of headers) ∙ ap (λ n. n + length (text_of headers)) (length-append header (13 ∷ 10 ∷ []))

pub length_here : (headers : List (List ℕ)) (i : ℕ) (d : List ℕ) → i < length headers
    → length (text_of (drop i headers)) ≡ (length (get_or headers i d) + 2) + length (text_of (drop (i + 1) headers))
length_here headers i d some = ap (λ hs. length (text_of hs)) (drop_more headers i d some) ∙ length_more (get_or headers i d) (drop (i + 1) headers)

without_less : (headers : List (List ℕ)) → length (text_of (without_bcc headers)) ≤ length (text_of headers)
without_less headers =
    omega (
      arith,
      length-flat_map with_end (without_bcc headers),
      length-flat_map with_end headers,
      sum_by-filter_both is_bcc (λ h. not (is_bcc h)) (λ h. refl) (λ h. length (with_end h)) headers,
    )

-- what is sent is no larger than what came
pub kept_less : (from_headers : Bool) (headers : List (List ℕ)) → length (text_of (kept_headers from_headers headers)) ≤ length (text_of headers)
kept_less true headers = without_less headers
kept_less false headers = omega arith

-- the header block is no larger than the text
pub block_less : (text : List ℕ) (split : Split) → IsSplit text split → split.block ≤ length text
block_less text split is = omega (arith, is.block, ap length is.whole, length-append (text_of split.headers) is.rest)

-- the size of the message that is sent
pub size_is : (text : List ℕ) (split : Split) (is : IsSplit text split) (kept : List (List ℕ)) → length (text_of kept) + (length text - split.block) ≡ length (text_of kept ++ is.rest)
size_is text split is kept =
    omega (arith, is.block, ap length is.whole, length-append (text_of split.headers) is.rest, length-append (text_of kept) is.rest)

-- ---- one thing is handed over

same : (a b : Submission) → a.headers ≡ b.headers → a.body ≡ b.body → a.size ≡ b.size → a.block ≡ b.block → a.recipients ≡ b.recipients → a.first_from ≡ b.first_from → a ≡ b
same a b headers body size block recipients from =
    ap (λ x. record a { headers = x }) headers
    ∙ ap (λ x. record a { headers = b.headers; body = x }) body
    ∙ ap (λ x. record a { headers = b.headers; body = b.body; size = x }) size
    ∙ ap (λ x. record a { headers = b.headers; body = b.body; size = b.size; block = x }) block
    ∙ ap (λ x. record a { headers = b.headers; body = b.body; size = b.size; block = b.block; recipients = x }) recipients
    ∙ ap (λ x. record b { first_from = x }) from

module _ (text : List ℕ) (from_headers : Bool) (one other : Submission) (a : IsSubmission text from_headers one) (b : IsSubmission text from_headers other) (split : a.split ≡ b.split) where
  rests : a.is.rest ≡ b.is.rest
  rests = append_cancel_left (text_of a.split.headers) a.is.rest b.is.rest (sym a.is.whole ∙ b.is.whole ∙ ap (λ (s : Split). text_of s.headers ++ b.is.rest) (sym split))

  headers_are : one.headers ≡ other.headers
  headers_are = a.headers ∙ ap (λ (s : Split). kept_headers from_headers s.headers) split ∙ sym b.headers

  pub same_submission : one ≡ other
  same_submission = same one other
      headers_are
      (a.body ∙ ap (λ (s : Split). s.body) split ∙ sym b.body)
      (a.size ∙ ap (λ h. length (text_of h ++ a.is.rest)) headers_are ∙ ap (λ r. length (text_of other.headers ++ r)) rests ∙ sym b.size)
      (a.block ∙ ap (λ (s : Split). s.block) split ∙ sym b.block)
      (a.recipients ∙ ap (λ (s : Split). recipients_of from_headers s.headers) split ∙ sym b.recipients)
      (a.first_from ∙ ap (λ (s : Split). first_from s.headers) split ∙ sym b.first_from)
