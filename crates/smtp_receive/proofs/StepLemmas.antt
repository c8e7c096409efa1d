-- What a command that was answered has done.
use Rattle.std.specs.Prelude.{nat_lt, ◌<◌}
use Rattle.std.proofs.Common.{◌≡◌, ℕ, zero, suc, ◌+◌, ◌==◌, Bool, true, false, List, length, Option, Some, None, is_some, Result, Ok, Err, IfOk, refl, sym, ap, subst, ◌∙◌, arith}
use Rattle.std.proofs.lemmas.Bool.{false≢true, cond_both, eqb-true}
use Rattle.mail_base.specs.Answering.{Answerer}
use Rattle.mail_base.specs.Limits.{message_limit, recipient_limit, most_rows}
use Rattle.mail_base.specs.declared.command.LineFault.{LineFault}
use Rattle.mail_base.specs.declared.config.Config.{Config}
use Rattle.mail_base.specs.declared.fault.JudgeFault.{JudgeFault}
use Rattle.mail_base.specs.declared.fault.NoMemory.{NoMemory}
use Rattle.mail_base.specs.declared.route.RouteError.{RouteError}
use Rattle.smtp_lines.specs.Commands.{Order, Data, Mail, Rcpt}
use Rattle.smtp_receive.specs.Dialogue.{Says, Grants, bracketed, data_answer, did_of, is_uncut, mail_answer, mail_fault, mail_question, rcpt_answer, rcpt_fault, rcpt_question, recipient_answer, sender_answer}
use Rattle.smtp_receive.specs.Judging.{Answers, AsksRecipient, Question, Said, Unasked, OfSender, OfRecipient, IsSaid, drawn_in, refusal_in}
use Rattle.smtp_receive.specs.Mails.{deed_of}
use Rattle.smtp_receive.specs.declared.did.Did.{Did}
use Rattle.smtp_receive.specs.declared.judge.Verdict.{Verdict}
use Rattle.smtp_receive.specs.declared.reply.Reply.{Reply}
use Rattle.smtp_receive.specs.declared.reply.Reply.TheVariants.{NeedRcpt}
use Rattle.smtp_receive.specs.declared.session.Session.{Session}
use Rattle.smtp_receive.proofs.RowLemmas.{rcpt_given}
use Rattle.smtp_receive.specs.inner.Steps.{BeginsMessage, Changes, ChecksRecipient, ChecksSender, Does, after, judged, verdict_answer, with_sender}

-- ---- results that hang on no judge

-- what holds of what was done holds of the same result
pub ok_of : (P : Did → Type 0) (r : Result Did JudgeFault) (done : Result Did NoMemory) → r ≡ judged done → IfOk done P → IfOk r P
ok_of P r done is holds = subst (λ x. IfOk x P) (sym is) (same done holds)
  where
    same : (done : Result Did NoMemory) → IfOk done P → IfOk (judged done) P
    same (Ok d) holds = holds
    same (Err e) holds = tt

-- ---- commands that ask no judge

-- what DATA changes
data_changes : {E : Type 0} (done : Result Did E) (config : Config) (s n : Session) (order : Option Order) → IfOk done (λ _. s.count ≡ 0 → n ≡ s)
    → IfOk done (λ _. 0 < s.count → (limit : ℕ) → BeginsMessage limit s n) → IfOk done (λ _. Changes config s n (data_answer s.count) order Unasked)
data_changes (Err e) config s n order refused begins = tt
data_changes (Ok d) config s n order refused begins =
    cond_both (s.count == 0) (Says NeedRcpt) Grants (λ a. Changes config s n a order Unasked) (λ none. refused (eqb-true s.count 0 none)) (λ some. begins (positive s.count some) (message_limit config.options))
  where
    positive : (count : ℕ) → (count == 0) ≡ false → 0 < count
    positive zero h = absurd (false≢true (sym h))
    positive (suc count) h = omega arith

data_did : (done : Result Did NoMemory) (seen : Answerer) (Test : Question → Said → Type 0) (s n : Session) (config : Config)
    → IfOk done (λ did. deed_of did ≡ did_of s.host (message_limit config.options) (data_answer s.count)) → IfOk done (λ _. Changes config s n (data_answer s.count) (Some Data) Unasked)
    → IfOk done (Does seen Test s n config (Ok Data))
data_did (Err e) seen Test s n config did changes = tt
data_did (Ok d) seen Test s n config did changes = record { said = Unasked; is_said = refl; did_is = did; changes = changes }

-- a DATA that was answered
pub data_does : (r : Result Did JudgeFault) (done : Result Did NoMemory) (seen : Answerer) (Test : Question → Said → Type 0) (s n : Session) (config : Config) (read : Result Order LineFault) → r ≡ judged done
    → read ≡ Ok Data → IfOk done (λ did. deed_of did ≡ did_of s.host (message_limit config.options) (data_answer s.count)) → IfOk done (λ _. s.count ≡ 0 → n ≡ s)
    → IfOk done (λ _. 0 < s.count → (limit : ℕ) → BeginsMessage limit s n) → IfOk r (Does seen Test s n config read)
data_does r done seen Test s n config read is read_is did refused begins =
    subst (λ x. IfOk r (Does seen Test s n config x)) (sym read_is)
    (ok_of (Does seen Test s n config (Ok Data)) r done is (data_did done seen Test s n config did (data_changes done config s n (Some Data) refused begins)))

-- ---- MAIL

-- why a MAIL isn't put to the judge, by what the session keeps
pub mail_fault_is : (fault : Option Reply) (given : Bool) (limit : ℕ) (s : Session) (config : Config) (size : Option ℕ) → fault ≡ mail_fault given limit size → given ≡ is_some s.sender
    → limit ≡ message_limit config.options → mail_fault (is_some s.sender) (message_limit config.options) size ≡ fault
mail_fault_is fault given limit s config size is given_is limit_is = sym (is ∙ ap (λ b. mail_fault b limit size) given_is ∙ ap (λ n. mail_fault (is_some s.sender) n size) limit_is)

sender_changes : (config : Config) (s n : Session) (path : List ℕ) (size : Option ℕ) (eight : Bool) (refusal : Option RouteError) (uncut : Bool)
    → n ≡ with_sender s (sender_answer refusal uncut) (bracketed path) eight → Changes config s n (sender_answer refusal uncut) (Some (Mail path size eight)) (OfSender refusal)
sender_changes config s n path size eight (Some error) uncut new = new
sender_changes config s n path size eight None true new = new
sender_changes config s n path size eight None false new = new

-- a MAIL that was put to it
pub mail_checked : {E : Type 0} (r : Result Did E) (seen : Answerer) (Test : Question → Said → Type 0) (s n : Session) (config : Config) (path : List ℕ) (size : Option ℕ) (eight : Bool)
    → mail_fault (is_some s.sender) (message_limit config.options) size ≡ None → IfOk r (ChecksSender seen Test s n config path eight) → IfOk r (Does seen Test s n config (Ok (Mail path size eight)))
mail_checked (Err e) seen Test s n config path size eight fault checks = tt
mail_checked (Ok d) seen Test s n config path size eight fault checks =
    let said : Said = OfSender checks.refusal in
    record {
      said = said;
      is_said = subst (λ f. IsSaid seen Test (mail_question f path s.kept) said) (sym fault) checks.answers;
      did_is = checks.did_is ∙ ap (λ f. did_of s.host (message_limit config.options) (mail_answer f config.options.operator_chars path said)) (sym fault);
      changes = subst (λ f. Changes config s n (mail_answer f config.options.operator_chars path said) (Some (Mail path size eight)) said) (sym fault)
          (sender_changes config s n path size eight checks.refusal (is_uncut config.options.operator_chars path) checks.new_is);
    }

-- ---- RCPT

-- the same of an RCPT
pub rcpt_fault_is : (fault : Option Reply) (given : Bool) (limit : ℕ) (s : Session) (config : Config) (path : List ℕ) → fault ≡ rcpt_fault given limit s.count path → given ≡ is_some s.sender
    → limit ≡ recipient_limit config.options → rcpt_fault (is_some s.sender) (recipient_limit config.options) s.count path ≡ fault
rcpt_fault_is fault given limit s config path is given_is limit_is =
    sym (is ∙ ap (λ b. rcpt_fault b limit s.count path) given_is ∙ ap (λ n. rcpt_fault (is_some s.sender) n s.count path) limit_is)

-- what a judge's verdict is answered with
pub recipient_checks : (r : Result Did JudgeFault) (done : Result Did NoMemory) (seen : Answerer) (Test : Question → Said → Type 0) (s n : Session) (limit : ℕ) (path : List ℕ) (verdict : Verdict) → r ≡ judged done
    → ((sender : List ℕ) → s.sender ≡ Some sender → Answers seen Test (AsksRecipient (bracketed path) sender s.kept) (OfRecipient verdict))
    → IfOk done (λ did. deed_of did ≡ did_of s.host limit (verdict_answer s (OfRecipient verdict))) → IfOk done (λ _. n ≡ after s (verdict_answer s (OfRecipient verdict)) None (OfRecipient verdict))
    → IfOk r (ChecksRecipient seen Test s n limit path)
recipient_checks r done seen Test s n limit path verdict is answers did new = ok_of (ChecksRecipient seen Test s n limit path) r done is (checked done did new)
  where
    checked : (done : Result Did NoMemory) → IfOk done (λ did. deed_of did ≡ did_of s.host limit (verdict_answer s (OfRecipient verdict)))
        → IfOk done (λ _. n ≡ after s (verdict_answer s (OfRecipient verdict)) None (OfRecipient verdict)) → IfOk done (ChecksRecipient seen Test s n limit path)
    checked (Err e) did new = tt
    checked (Ok d) did new = record { verdict = verdict; answers = answers; did_is = did; new_is = new }

-- a judge was asked of a recipient where there is a sender
recipient_said : (seen : Answerer) (Test : Question → Said → Type 0) (s : Session) (path : List ℕ) (verdict : Verdict) (sender : Option (List ℕ)) → s.sender ≡ sender → is_some sender ≡ true
    → ((told : List ℕ) → s.sender ≡ Some told → Answers seen Test (AsksRecipient (bracketed path) told s.kept) (OfRecipient verdict))
    → IsSaid seen Test (rcpt_question None path sender s.kept) (OfRecipient verdict)
recipient_said seen Test s path verdict None is given answers = absurd (false≢true given)
recipient_said seen Test s path verdict (Some sender) is given answers = answers sender is

recipient_changes : (config : Config) (s n : Session) (path : List ℕ) (said : Said) (refusal : Option RouteError) (full : Bool)
    → n ≡ after s (recipient_answer refusal full) None said → Changes config s n (recipient_answer refusal full) (Some (Rcpt path)) said
recipient_changes config s n path said (Some error) full new = new
recipient_changes config s n path said None true new = new
recipient_changes config s n path said None false new = new

-- an RCPT that was put to it
pub rcpt_checked : {E : Type 0} (r : Result Did E) (seen : Answerer) (Test : Question → Said → Type 0) (s n : Session) (config : Config) (path : List ℕ)
    → rcpt_fault (is_some s.sender) (recipient_limit config.options) s.count path ≡ None → IfOk r (ChecksRecipient seen Test s n (message_limit config.options) path)
    → IfOk r (Does seen Test s n config (Ok (Rcpt path)))
rcpt_checked (Err e) seen Test s n config path fault checks = tt
rcpt_checked (Ok d) seen Test s n config path fault checks =
    let said : Said = OfRecipient checks.verdict in
    record {
      said = said;
      is_said = subst (λ f. IsSaid seen Test (rcpt_question f path s.sender s.kept) said) (sym fault) (recipient_said seen Test s path checks.verdict s.sender refl (rcpt_given (is_some s.sender) (recipient_limit config.options) s.count path fault) checks.answers);
      did_is = checks.did_is ∙ ap (λ f. did_of s.host (message_limit config.options) (rcpt_answer f (length s.rows) said)) (sym fault);
      changes = subst (λ f. Changes config s n (rcpt_answer f (length s.rows) said) (Some (Rcpt path)) said) (sym fault)
          (recipient_changes config s n path said (refusal_in said) (nat_lt most_rows (length s.rows + length (drawn_in said))) checks.new_is);
    }
