-- A message that a program hands over, and who gets it (RFC 5322, sections 3.4 and 3.6.3; the
-- manual page of Sendmail's own program, -t).
use Rattle.std.specs.Prelude.{◌≡◌, ℕ, Bool, not, ◌||◌, List, [], ◌∷◌, ◌++◌, length, map, filter, flat_map, slice_get, slice_range, find, Option, Some, option_and_then, ◌+◌, if◌then◌else◌, codes, refl}
use Rattle.mail_base.specs.declared.message.Split.{Split}
use Rattle.mail_header.specs.declared.span.Span.{Span}
use Rattle.mail_header.specs.Fields.{is_named}
use Rattle.mail_header.specs.Headers.{IsSplit, is_plain, text_of}
use Rattle.mail_header.specs.Places.{places_of}
use Rattle.mail_submit.specs.declared.submission.Submission.{Submission}

-- ---- addresses in headers

-- an address at a place of a header, without the CRs and LFs of folds
abbrev pub address_at : List ℕ → Span → List ℕ
address_at header place =
    filter is_plain (slice_range header place.start (place.start + place.length))

abbrev pub addresses_in : List ℕ → List (List ℕ)
addresses_in header = map (address_at header) (places_of header)

abbrev pub is_bcc : List ℕ → Bool
is_bcc header = is_named (codes "Bcc") header

-- a header that names recipients
abbrev pub is_addressed : List ℕ → Bool
is_addressed header =
    is_named (codes "To") header || (is_named (codes "Cc") header || is_bcc header)

-- the recipients that a header names
abbrev pub recipients_of_one : List ℕ → List (List ℕ)
recipients_of_one header = if is_addressed header then addresses_in header else []

-- those that headers name, in their order
abbrev pub recipients_in : List (List ℕ) → List (List ℕ)
recipients_in headers = flat_map recipients_of_one headers

abbrev pub is_from : List ℕ → Bool
is_from header = is_named (codes "From") header

-- the first address of the first From header
abbrev pub first_from : List (List ℕ) → Option (List ℕ)
first_from headers =
    option_and_then (λ header. slice_get (addresses_in header) 0) (find is_from headers)

-- ---- what is handed over

abbrev pub without_bcc : List (List ℕ) → List (List ℕ)
without_bcc headers = filter (λ header. not (is_bcc header)) headers

-- the headers that are sent: Bcc is taken out where recipients come from headers
abbrev pub kept_headers : Bool → List (List ℕ) → List (List ℕ)
kept_headers from_headers headers = if from_headers then without_bcc headers else headers

abbrev pub recipients_of : Bool → List (List ℕ) → List (List ℕ)
recipients_of from_headers headers = if from_headers then recipients_in headers else []

-- what a message's text hands over; its size is that of the text with the headers that are sent
pub record IsSubmission (text : List ℕ) (from_headers : Bool) (s : Submission) : Type 0 where
  pub split : Split
  pub is : IsSplit text split
  pub headers : s.headers ≡ kept_headers from_headers split.headers
  pub body : s.body ≡ split.body
  pub size : s.size ≡ length (text_of s.headers ++ is.rest)
  pub block : s.block ≡ split.block
  pub recipients : s.recipients ≡ recipients_of from_headers split.headers
  pub first_from : s.first_from ≡ first_from split.headers

-- comments and names are no part of an address, a fold in it is taken out, and a group has none
example :
    (recipients_in (codes "To: Ann <ann@mx>, (b) cid@mx" ∷ codes "Subject: x" ∷ codes "bcc: dan@mx" ∷ [])
    ≡ codes "ann@mx" ∷ codes "cid@mx" ∷ codes "dan@mx" ∷ [])
    × (recipients_in (codes "Cc: <ann@\r\n mx>" ∷ codes "To: us: eve@mx;" ∷ []) ≡ codes "ann@ mx" ∷ [])
    × (first_from (codes "From: Bob <bob@c>, cid@c" ∷ codes "From: dan@c" ∷ []) ≡ Some (codes "bob@c"))
unfolding places_of
example = (refl, refl, refl)
