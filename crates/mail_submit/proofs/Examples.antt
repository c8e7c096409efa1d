-- The worked example, computed.
use Rattle.std.specs.Prelude.{◌≡◌, ℕ, List, [], ◌∷◌, true, false, codes, refl}
use Rattle.std.proofs.Common.{ap, subst, sym}
use Rattle.mail_base.specs.declared.message.Split.{Split}
use Rattle.mail_header.specs.Headers.{AreHeaders, EndsHeaders, IsSplit, behind_empty_line, is_continuation, is_header, no_headers, one_header, unfolded}
use Rattle.mail_header.specs.Places.{places_of}
use Rattle.mail_submit.specs.Examples.{input, sent, text}
use Rattle.mail_submit.specs.Inputs.{message_of, read}
use Rattle.mail_submit.specs.Submissions.{IsSubmission, recipients_of}

pub ended : (read true input).ended ≡ true
ended = refl

pub message : message_of true (read true input) ≡ text
message = refl

abbrev headers : List (List ℕ)
headers = codes "To: ann@mx.example" ∷ codes "Bcc: <cid@mx.example>" ∷ codes "Subject: hi" ∷ []

abbrev split : Split
split = record { headers = headers; body = codes "hello\r\n"; block = 56 }

abbrev rest : List ℕ
rest = codes "\r\nhello\r\n"

abbrev head_or : ℕ → List ℕ → ℕ
head_or d [] = d
head_or d (b ∷ bytes) = b

-- no line that begins with a CR is one of the header block
no_line : (b : ℕ) (line : List ℕ) → b ≡ 13 → (is_header (b ∷ line) ≡ false) × (is_continuation (b ∷ line) ≡ false)
no_line b line is = subst (λ c. (is_header (c ∷ line) ≡ false) × (is_continuation (c ∷ line) ≡ false)) (sym is) (refl, refl)

ends : EndsHeaders headers rest
ends [] more is = (refl, λ _. refl)
ends (b ∷ line) more is =
    let no = no_line b line (sym (ap (head_or 0) is)) in (no.0, λ _. no.1)

are : AreHeaders headers
are = one_header _ _ (unfolded _ refl) (one_header _ _ (unfolded _ refl) (one_header _ _ (unfolded _ refl) no_headers))

abbrev split_is : IsSplit text split
split_is = record { rest = rest; whole = refl; are = are; ends = ends; body = behind_empty_line (codes "hello\r\n"); block = refl }

recipients : sent.recipients ≡ recipients_of true headers
unfolding places_of
recipients = refl

pub submission : IsSubmission text true sent
submission = record {
  split = split;
  is = split_is;
  headers = refl;
  body = refl;
  size = refl;
  block = refl;
  recipients = recipients;
  first_from = refl;
}
