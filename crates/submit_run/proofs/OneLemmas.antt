-- A text comes to one thing at most, where the files are told.
use Rattle.std.proofs.Common.{◌≡◌, ℕ, ◌+◌, List, [], ◌∷◌, Bool, true, false, Some, Result, Ok, Err, refl, sym, ◌∙◌, ap, subst}
use Rattle.std.proofs.lemmas.Bool.{true≢false}
use Rattle.mail_base.specs.Limits.{recipient_limit}
use Rattle.mail_base.specs.declared.draw.Draw.{Draw}
use Rattle.mail_base.specs.declared.message.Message.{Message}
use Rattle.mail_base.specs.declared.route.RouteError.{RouteError}
use Rattle.alias_expand.specs.Rows.{Expands, Site}
use Rattle.alias_expand.specs.declared.refusal.ExpandRefusal.{ExpandRefusal}
use Rattle.mail_edge.specs.Seen.{FileMap}
use Rattle.mail_judge.specs.Judged.{Grounds, error_of}
use Rattle.mail_submit.specs.Submissions.{IsSubmission}
use Rattle.mail_submit.specs.declared.submission.Submission.{Submission}
use Rattle.mail_submit.specs.declared.words.SubmitWords.{SubmitWords}
use Rattle.submit_run.specs.Messages.{Comes, IsHandedOver, goes_on, message_of, refuses}
use Rattle.submit_run.specs.Parties.{recipients_of, sender_of}
use Rattle.submit_run.specs.Rows.{Draws, DrawsOne, draws, draws_none, goes, is_refused, joined, runs, site_under, stops}
use Rattle.submit_run.specs.declared.end.SubmitEnd.{SubmitEnd}
use Rattle.submit_run.specs.declared.end.SubmitEnd.TheVariants.{BadRecipient}

abbrev Outcome : Type 0
Outcome = Result (List Draw) ExpandRefusal

abbrev refused : ExpandRefusal → Outcome
refused refusal = Err refusal

abbrev rows_are : List Draw → Outcome
rows_are rows = Ok rows

-- rows of a recipient, or its error
abbrev bad : RouteError → Result (List Draw) RouteError
bad error = Err error

abbrev good : List Draw → Result (List Draw) RouteError
good rows = Ok rows

-- an address comes to one outcome, and a text hands over one thing
abbrev IsOneExpansion : Type 0
IsOneExpansion = (site : Site) (files : FileMap) (address sender : List ℕ) (one another : Outcome) → Expands site (Some files) address sender one → Expands site (Some files) address sender another → one ≡ another

abbrev IsOneSubmission : Type 0
IsOneSubmission = (text : List ℕ) (from_headers : Bool) (one other : Submission) → IsSubmission text from_headers one → IsSubmission text from_headers other → one ≡ other

-- a test has one result
two_ways : {X : Type 0} (b : Bool) → b ≡ true → b ≡ false → X
two_ways b one other = absurd (true≢false (sym one ∙ other))

module _ (one_expansion : IsOneExpansion) (grounds : Grounds) (files : FileMap) where
  module _ (sender : List ℕ) where
    module _ (place : ℕ) (rows : List Draw) (recipient : List ℕ) where
      abbrev outcome : (one another : Outcome) → Expands (site_under grounds sender) (Some files) recipient sender one → Expands (site_under grounds sender) (Some files) recipient sender another → one ≡ another
      outcome = one_expansion (site_under grounds sender) files recipient sender

      one_error : (r s : ExpandRefusal) (e f : RouteError) → refused r ≡ refused s → error_of r ≡ Some e → error_of s ≡ Some f → e ≡ f
      one_error r s e f is p q =
          let same : r ≡ s = cc is in
          let also : Some e ≡ Some f = sym p ∙ ap error_of same ∙ q in
          cc also

      -- a recipient comes to one thing
      one_draw : (one another : Result (List Draw) RouteError) → DrawsOne grounds (Some files) sender place rows recipient one → DrawsOne grounds (Some files) sender place rows recipient another → one ≡ another
      one_draw one another (runs is) (runs js) = refl
      one_draw one another (runs is) (is_refused s f plain y q) = two_ways _ is plain
      one_draw one another (runs is) (goes more plain y) = two_ways _ is plain
      one_draw one another (is_refused r e plain x p) (runs js) = two_ways _ js plain
      one_draw one another (is_refused r e plain x p) (is_refused s f _ y q) = ap bad (one_error r s e f (outcome (refused r) (refused s) x y) p q)
      one_draw one another (is_refused r e plain x p) (goes more _ y) = absurd (cc (outcome (refused r) (rows_are more) x y))
      one_draw one another (goes more plain x) (runs js) = two_ways _ js plain
      one_draw one another (goes more plain x) (is_refused s f _ y q) = absurd (cc (outcome (rows_are more) (refused s) x y))
      one_draw one another (goes more plain x) (goes others _ y) =
          let same : rows_are more ≡ rows_are others = outcome (rows_are more) (rows_are others) x y in
          let rows_same : more ≡ others = cc same in
          ap (λ q. joined (recipient_limit grounds.config.options) place rows q) rows_same

    -- and so do all of them
    one_drawn : (recipients : List (List ℕ)) (place : ℕ) (rows : List Draw) (one another : Result (List Draw) SubmitEnd) → Draws grounds (Some files) sender place rows recipients one → Draws grounds (Some files) sender place rows recipients another → one ≡ another
    one_drawn [] place rows one another (draws_none p r) (draws_none q s) = refl
    one_drawn (recipient ∷ recipients) place rows one another (stops p r x xs e a) (stops q s y ys f b) =
        let same : bad e ≡ bad f = one_draw place rows recipient (bad e) (bad f) a b in
        let error : e ≡ f = cc same in
        ap (λ (q : RouteError). Err (BadRecipient place q)) error
    one_drawn (recipient ∷ recipients) place rows one another (stops p r x xs e a) (draws q s next y ys drawn b rest) = absurd (cc (one_draw place rows recipient (bad e) (good next) a b))
    one_drawn (recipient ∷ recipients) place rows one another (draws p r next x xs drawn a rest) (stops q s y ys f b) = absurd (cc (one_draw place rows recipient (good next) (bad f) a b))
    one_drawn (recipient ∷ recipients) place rows one another (draws p r next x xs drawn a rest) (draws q s other y ys told b later) =
        let same : good next ≡ good other = one_draw place rows recipient (good next) (good other) a b in
        let rows_same : other ≡ next = sym (cc same) in
        one_drawn recipients (place + 1) next one another rest (subst (λ (q : List Draw). Draws grounds (Some files) sender (place + 1) q recipients another) rows_same later)

  module _ (words : SubmitWords) where
    one_come : (s : Submission) (one another : Result Message SubmitEnd) → Comes grounds (Some files) words s one → Comes grounds (Some files) words s another → one ≡ another
    one_come s one another (refuses e a) (refuses f b) =
        let same : Some e ≡ Some f = sym a ∙ b in
        let ends_same : e ≡ f = cc same in
        ap (λ (q : SubmitEnd). Err q) ends_same
    one_come s one another (refuses e a) (goes_on drawn b d) = absurd (cc (sym a ∙ b))
    one_come s one another (goes_on drawn a d) (refuses f b) = absurd (cc (sym a ∙ b))
    one_come s one another (goes_on drawn a d) (goes_on other b k) =
        ap (message_of grounds.config (sender_of words s.first_from) s) (one_drawn (sender_of words s.first_from) (recipients_of words s.recipients) 0 [] drawn other d k)

    -- a text comes to one thing
    pub one_outcome : IsOneSubmission → (text : List ℕ) (one another : Result Message SubmitEnd) → IsHandedOver grounds (Some files) words text one → IsHandedOver grounds (Some files) words text another → one ≡ another
    one_outcome one_submission text one another a b =
        let same : b.submission ≡ a.submission = one_submission text words.from_headers b.submission a.submission b.is a.is in
        one_come a.submission one another a.comes (subst (λ (q : Submission). Comes grounds (Some files) words q another) same b.comes)
