-- The message that a text is which is handed over, or with what it is refused (the manual page of
-- Sendmail's own program; RFC 5321, section 6.3, for loops; the limit of a header block and the order
-- of refusals are own).
use Rattle.std.specs.Prelude.{◌≡◌, ℕ, false, ◌==◌, List, [], length, Option, Some, None, Result, Ok, Err, if◌then◌else◌}
use Rattle.mail_base.specs.Limits.{most_headers}
use Rattle.mail_base.specs.declared.config.Config.{Config}
use Rattle.mail_base.specs.declared.draw.Draw.{Draw}
use Rattle.mail_base.specs.declared.message.Message.{Message}
use Rattle.mail_edge.specs.Seen.{FileMap}
use Rattle.mail_header.specs.Fields.{class_in, hops_of}
use Rattle.mail_header.specs.Gatherings.{is_above}
use Rattle.mail_judge.specs.Judged.{Grounds}
use Rattle.mail_submit.specs.Submissions.{IsSubmission}
use Rattle.mail_submit.specs.declared.submission.Submission.{Submission}
use Rattle.mail_submit.specs.declared.words.SubmitWords.{SubmitWords}
use Rattle.smtp_receive.specs.Dialogue.{no_marks}
use Rattle.submit_run.specs.Parties.{kept, recipients_of, sender_of}
use Rattle.submit_run.specs.Rows.{Draws}
use Rattle.submit_run.specs.declared.end.SubmitEnd.{SubmitEnd}
use Rattle.submit_run.specs.declared.end.SubmitEnd.TheVariants.{MessageRefused, NoRecipient}

-- the code with which a submission is refused whatever its recipients are
abbrev pub code_of : Config → Submission → Option ℕ
code_of config s =
    if is_above most_headers s.block then Some 552
    else if is_above config.options.max_hop_count (hops_of s.headers) then Some 554
    else None

-- what it is refused with before any recipient is drawn
abbrev pub refused_with : Option ℕ → List (List ℕ) → Option SubmitEnd
refused_with (Some code) recipients = Some (MessageRefused code)
refused_with None recipients = if length recipients == 0 then Some NoRecipient else None

abbrev pub refusal_of : Config → SubmitWords → Submission → Option SubmitEnd
refusal_of config words s =
    refused_with (code_of config s) (recipients_of words s.recipients)

-- the message of a submission with its sender and the rows of its recipients
abbrev pub message_with : Config → List ℕ → Submission → List Draw → Message
message_with config sender s rows = record {
  sender = sender;
  rows = rows;
  headers = s.headers;
  body = s.body;
  size = s.size;
  class = class_in config.precedences s.headers;
  eight = false;
  marks = no_marks;
  kept = kept;
}

abbrev pub message_of : Config → List ℕ → Submission → Result (List Draw) SubmitEnd
    → Result Message SubmitEnd
message_of config sender s (Ok rows) = Ok (message_with config sender s rows)
message_of config sender s (Err end) = Err end

-- what a submission comes to: it is refused as a whole, or its recipients are drawn
pub data Comes (grounds : Grounds) (files : Option FileMap) (words : SubmitWords) (s : Submission)
    : Result Message SubmitEnd → Type 0 where
  refuses : (end : SubmitEnd) → refusal_of grounds.config words s ≡ Some end
      → Comes grounds files words s (Err end)
  goes_on : (drawn : Result (List Draw) SubmitEnd) → refusal_of grounds.config words s ≡ None
      → Draws grounds files (sender_of words s.first_from) 0 [] (recipients_of words s.recipients)
      drawn
      → Comes grounds files words s
      (message_of grounds.config (sender_of words s.first_from) s drawn)

-- what a text comes to that is handed over under these words
pub record IsHandedOver (grounds : Grounds) (files : Option FileMap) (words : SubmitWords)
    (text : List ℕ) (outcome : Result Message SubmitEnd) : Type 0 where
  pub submission : Submission
  pub is : IsSubmission text words.from_headers submission
  pub comes : Comes grounds files words submission outcome
