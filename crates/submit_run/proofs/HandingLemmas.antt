-- A text comes to a message, or is refused.
use Rattle.std.proofs.Common.{◌≡◌, ℕ, ◌==◌, List, [], ◌∷◌, length, Option, Some, None, Result, Ok, Err, refl, sym, ◌∙◌, ap, subst, arith}
use Rattle.std.proofs.lemmas.Bool.{cond-false, ne_eqb}
use Rattle.mail_base.specs.Drawing.{AreRows}
use Rattle.mail_base.specs.declared.config.Config.{Config}
use Rattle.mail_base.specs.declared.draw.Draw.{Draw}
use Rattle.mail_base.specs.declared.message.Message.{Message}
use Rattle.mail_edge.specs.Seen.{FileMap}
use Rattle.mail_judge.specs.Judged.{Grounds}
use Rattle.mail_submit.specs.Submissions.{IsSubmission}
use Rattle.mail_submit.specs.declared.submission.Submission.{Submission}
use Rattle.mail_submit.specs.declared.words.SubmitWords.{SubmitWords}
use Rattle.submit_run.specs.Messages.{Comes, IsHandedOver, code_of, goes_on, message_with, refusal_of, refused_with, refuses}
use Rattle.submit_run.specs.Parties.{recipients_of, sender_of}
use Rattle.submit_run.specs.Rows.{Draws}
use Rattle.submit_run.specs.inner.Steps.{AreGathered, IsSound, Tells}
use Rattle.submit_run.specs.inner.Storing.{IsFit}
use Rattle.submit_run.specs.declared.end.SubmitEnd.{SubmitEnd}
use Rattle.submit_run.specs.declared.end.SubmitEnd.TheVariants as ends

pub same_list : {one other : List (List ℕ)} (P : List (List ℕ) → Type 0) → one ≡ other → P one → P other
same_list P is p = subst P is p

-- what is told of a result is more of it
pub tells_weaker : {T : Type 0} (P Q : Result T SubmitEnd → Type 0) (result : Result T SubmitEnd) → ((r : Result T SubmitEnd) → P r → Q r) → Tells P result → Tells Q result
tells_weaker P Q (Ok value) more tells = more (Ok value) tells
tells_weaker P Q (Err (ends.MessageRefused code)) more tells = more (Err (ends.MessageRefused code)) tells
tells_weaker P Q (Err ends.NoRecipient) more tells = more (Err ends.NoRecipient) tells
tells_weaker P Q (Err (ends.BadRecipient place error)) more tells = more (Err (ends.BadRecipient place error)) tells
tells_weaker P Q (Err ends.FilesFault) more tells = tt
tells_weaker P Q (Err ends.NoMemory) more tells = tt
tells_weaker P Q (Err ends.Done) more tells = absurd tells
tells_weaker P Q (Err ends.ReadFault) more tells = absurd tells
tells_weaker P Q (Err ends.SpoolFault) more tells = absurd tells
tells_weaker P Q (Err ends.IdsSpent) more tells = absurd tells

-- a submission is what its text hands over
pub handed : (grounds : Grounds) (files : Option FileMap) (words : SubmitWords) (text : List ℕ) (s : Submission) (result : Result Message SubmitEnd) → IsSubmission text words.from_headers s → Tells (Comes grounds files words s) result → Tells (IsHandedOver grounds files words text) result
handed grounds files words text s result is tells = tells_weaker (Comes grounds files words s) (IsHandedOver grounds files words text) result (λ r comes. record { submission = s; is = is; comes = comes }) tells

module _ (grounds : Grounds) (files : Option FileMap) (words : SubmitWords) (s : Submission) where
  -- it is refused as a whole
  pub refused_whole : (code : ℕ) → Some code ≡ code_of grounds.config s → Comes grounds files words s (Err (ends.MessageRefused code))
  refused_whole code is = refuses (ends.MessageRefused code) (ap (λ q. refused_with q (recipients_of words s.recipients)) (sym is))

  -- nobody gets it
  pub nobody : (recipients : List (List ℕ)) → code_of grounds.config s ≡ None → recipients ≡ recipients_of words s.recipients → recipients ≡ [] → Comes grounds files words s (Err ends.NoRecipient)
  nobody recipients passed are none =
      let empty : recipients_of words s.recipients ≡ [] = sym are ∙ none in
      refuses ends.NoRecipient (ap (λ q. refused_with q (recipients_of words s.recipients)) passed ∙ ap (λ (q : List (List ℕ)). refused_with None q) empty)

  some_left : (recipients : List (List ℕ)) → ((recipients ≡ []) → ⊥) → refused_with None recipients ≡ None
  some_left [] some = absurd (some refl)
  some_left (r ∷ rs) some = cond-false (length (r ∷ rs) == 0) (Some ends.NoRecipient) None (ne_eqb (length (r ∷ rs)) 0 (λ e. absurd (omega (arith, e))))

  -- somebody gets it
  module _ (recipients : List (List ℕ)) (sender : List ℕ) (passed : code_of grounds.config s ≡ None) (are : recipients ≡ recipients_of words s.recipients) (some : (recipients ≡ []) → ⊥) (sender_is : sender ≡ sender_of words s.first_from) where
    passes : refusal_of grounds.config words s ≡ None
    passes = ap (λ q. refused_with q (recipients_of words s.recipients)) passed ∙ ap (λ (q : List (List ℕ)). refused_with None q) (sym are) ∙ some_left recipients some

    there : (drawn : Result (List Draw) SubmitEnd) → Draws grounds files sender 0 [] recipients drawn → Draws grounds files (sender_of words s.first_from) 0 [] (recipients_of words s.recipients) drawn
    there drawn d = subst (λ (q : List ℕ). Draws grounds files q 0 [] (recipients_of words s.recipients) drawn) sender_is (subst (λ (q : List (List ℕ)). Draws grounds files sender 0 [] q drawn) are d)

    pub one_bad : (end : SubmitEnd) → Tells (Draws grounds files sender 0 [] recipients) (Err end) → Tells (Comes grounds files words s) (Err end)
    one_bad (ends.MessageRefused code) tells = goes_on (Err (ends.MessageRefused code)) passes (there (Err (ends.MessageRefused code)) tells)
    one_bad ends.NoRecipient tells = goes_on (Err ends.NoRecipient) passes (there (Err ends.NoRecipient) tells)
    one_bad (ends.BadRecipient place error) tells = goes_on (Err (ends.BadRecipient place error)) passes (there (Err (ends.BadRecipient place error)) tells)
    one_bad ends.FilesFault tells = tt
    one_bad ends.NoMemory tells = tt
    one_bad ends.Done tells = absurd tells
    one_bad ends.ReadFault tells = absurd tells
    one_bad ends.SpoolFault tells = absurd tells
    one_bad ends.IdsSpent tells = absurd tells

    pub all_good : (rows : List Draw) (message : Message) → Draws grounds files sender 0 [] recipients (Ok rows) → message ≡ message_with grounds.config sender s rows → Comes grounds files words s (Ok message)
    all_good rows message tells is =
        let same : message_with grounds.config (sender_of words s.first_from) s rows ≡ message = ap (λ (q : List ℕ). message_with grounds.config q s rows) (sym sender_is) ∙ sym is in
        subst (λ (m : Message). Comes grounds files words s (Ok m)) same (goes_on (Ok rows) passes (there (Ok rows) tells))

-- ---- forms

-- the rows of one recipient at least
pub rows_form : (recipients : List (List ℕ)) (rows : List Draw) → ((recipients ≡ []) → ⊥) → AreGathered (length recipients) rows → AreRows rows
rows_form [] rows some are = absurd (some refl)
rows_form (r ∷ rs) rows some are =
    let least = are.some in record { some = omega (arith, least); few = are.few; each = are.each }

pub message_fit : (config : Config) (sender : List ℕ) (s : Submission) (rows : List Draw) (message : Message) → IsSound s → AreRows rows → message ≡ message_with config sender s rows → IsFit message
message_fit config sender s rows message sound are is = subst IsFit (sym is) (record { headers = sound.headers; kept_is = refl; rows = are })
