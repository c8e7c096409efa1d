-- What a recipient comes to, and what a judge of it is then.
use Rattle.std.specs.Prelude.{IfErr, IsTrue, codes, is_some, slice_index}
use Rattle.std.proofs.Common.{◌≡◌, ℕ, ◌<◌, ◌≤◌, ◌==◌, ◌||◌, List, [], ◌∷◌, All, Bool, true, false, not, map, length, Option, None, Some, Result, Ok, Err, IfOk, option_map, refl, sym, subst, ap, arith}
use Rattle.std.proofs.lemmas.List.Elements.{All-cons, All-nil}
use Rattle.mail_base.specs.Answering.{HasAnswered, HasJudgeCause, TellsOne, is_calm}
use Rattle.mail_base.specs.Histories.{Rose}
use Rattle.mail_base.specs.Notes.{IsLineByte, blanked, is_status}
use Rattle.mail_base.specs.Refusals.{IsRefusal}
use Rattle.mail_base.specs.Texts.{IsAddress, IsBracketed}
use Rattle.mail_base.specs.declared.draw.Draw.{Draw}
use Rattle.mail_base.specs.declared.fault.JudgeFault.{JudgeFault}
use Rattle.mail_base.specs.declared.fault.JudgeFault.TheVariants.{FilesFault, NoMemory}
use Rattle.mail_base.specs.declared.route.Cause.{Cause}
use Rattle.mail_base.specs.declared.route.Cause.TheVariants as cause
use Rattle.mail_base.specs.declared.route.RouteError.{RouteError}
use Rattle.mail_edge.specs.Asking.{Asks}
use Rattle.mail_edge.specs.Seen.{FileMap, FilesSeen}
use Rattle.ruleset_run.specs.Sites.{Macros}
use Rattle.addr_route.specs.Checks.{Checks}
use Rattle.alias_expand.specs.Rows.{Expands, HoldsOf, IsTellable, is_files_fault}
use Rattle.alias_expand.specs.declared.refusal.ExpandRefusal.{ExpandRefusal}
use Rattle.alias_expand.specs.declared.refusal.ExpandRefusal.TheVariants as refusals
use Rattle.smtp_receive.specs.declared.judge.Verdict.{Verdict}
use Rattle.smtp_receive.specs.declared.judge.Verdict.TheVariants.{Rows, No}
use Rattle.smtp_receive.specs.Judging.{Question, Said, IsFormedSaid, OfRecipient, as_said}
use Rattle.mail_judge.specs.Judged.{Grounds, IsJudged, Judges, is_checked, is_refused, goes, answerer_of, error_of, error_with, site_in}

abbrev Outcome : Type 0
Outcome = Result (List Draw) ExpandRefusal

-- ---- refusals

blanked_by : (b : ℕ) (t : Bool) → (b == 10 || b == 13) ≡ t → IsLineByte (blanked b)
blanked_by b true e = rw e (grind arith)
blanked_by b false e = rw e (grind (arith, e))

-- bytes with CR and LF blanked fit in a line
all_blanked : (bytes : List ℕ) → All IsLineByte (map blanked bytes)
all_blanked [] = All-nil IsLineByte
all_blanked (b ∷ bytes) = All-cons IsLineByte (blanked b) (map blanked bytes) (blanked_by b (b == 10 || b == 13) refl) (all_blanked bytes)

fixed : (code : ℕ) (status text : List ℕ) (why : Cause) (error : RouteError) → 400 ≤ code → code ≤ 599 → IsTrue (is_status status) → 0 < length (map blanked text) → Some (error_with code status (map blanked text) why) ≡ Some error → IsRefusal error
fixed code status text why error least most form some is =
    let same : error_with code status (map blanked text) why ≡ error = cc is in
    subst IsRefusal same (record { least = least; most = most; status_form = form; some = some; text_form = all_blanked text })

-- what a refusal is told by can stand in a reply
error_form : (refusal : ExpandRefusal) (error : RouteError) → IsTellable refusal → error_of refusal ≡ Some error → IsRefusal error
error_form (refusals.Refuses e) error form is = let same : e ≡ error = cc is in subst IsRefusal same form
error_form refusals.TooDeep error form is = fixed 554 (codes "5.4.6") (codes "Aliases too deep") cause.Deep error (omega arith) (omega arith) refl (omega arith) is
error_form refusals.TooMany error form is = fixed 452 (codes "4.5.3") (codes "Too many recipients") cause.Work error (omega arith) (omega arith) refl (omega arith) is
error_form (refusals.IncludeAbsent name) error form is = fixed 550 (codes "5.2.4") (codes "Include file absent") cause.FileMailer error (omega arith) (omega arith) refl (omega arith) is
error_form refusals.NoOne error form is = fixed 554 (codes "5.4.6") (codes "Aliases leave no one") cause.NotResolved error (omega arith) (omega arith) refl (omega arith) is
error_form refusals.FilesFault error form is = absurd (cc is)
error_form refusals.NoMemory error form is = absurd (cc is)

-- what is told is no fault of files or memory
held : (P : Outcome → Type 0) (refusal : ExpandRefusal) (error : RouteError) → error_of refusal ≡ Some error → HoldsOf (Err refusal) P → P (Err refusal)
held P (refusals.Refuses e) error is p = p
held P refusals.TooDeep error is p = p
held P refusals.TooMany error is p = p
held P (refusals.IncludeAbsent name) error is p = p
held P refusals.NoOne error is p = p
held P refusals.FilesFault error is p = absurd (cc is)
held P refusals.NoMemory error is p = absurd (cc is)

-- the error of a verdict
abbrev Tells : ExpandRefusal → Verdict → Type 0
Tells refusal verdict = option_map No (error_of refusal) ≡ Some verdict

by_error : {X : Type 0} (refusal : ExpandRefusal) (verdict : Verdict) → Tells refusal verdict → ((error : RouteError) → error_of refusal ≡ Some error → No error ≡ verdict → X) → X
by_error {X} refusal verdict tells go = by (error_of refusal) refl tells
  where
    by : (told : Option RouteError) → error_of refusal ≡ told → option_map No told ≡ Some verdict → X
    by None e is = absurd (cc is)
    by (Some error) e is = let same : No error ≡ verdict = cc is in go error e same

pub refused_form : (refusal : ExpandRefusal) (result : Result Verdict JudgeFault) → IsTellable refusal → IfOk result (Tells refusal) → IfOk result (λ verdict. IsFormedSaid (OfRecipient verdict))
refused_form refusal (Err fault) form tells = tt
refused_form refusal (Ok verdict) form tells = by_error refusal verdict tells (λ error e is. subst (λ (v : Verdict). IsFormedSaid (OfRecipient v)) is (error_form refusal error form e))

-- ---- forms

-- what begins with an angle isn't empty
some_bytes : (path : List ℕ) → slice_index path 0 ≡ 60 → 0 < length path
some_bytes [] e = absurd (cc e)
some_bytes (b ∷ bytes) e = omega arith

-- a path in its angles is an address
pub address_form : (path : List ℕ) → IsBracketed path → IsAddress path
address_form path b = record { line = b.line; some = some_bytes path b.opens }

-- ---- verdicts

module _ (grounds : Grounds) (files : Option FileMap) (macros : Macros) (path sender : List ℕ) where
  abbrev Accepts : Type 0
  Accepts = Checks grounds.config grounds.maps macros (codes "check_rcpt") path None

  -- the set refuses it
  pub by_check : (at : Grounds) → at ≡ grounds → (set : List ℕ) (refusal : Option RouteError) (error : RouteError) → set ≡ codes "check_rcpt" → refusal ≡ Some error → Checks at.config at.maps macros set path refusal → Judges grounds files macros path sender (No error)
  by_check at same set refusal error named is c =
      let here : Checks grounds.config grounds.maps macros set path refusal = subst (λ (x : Grounds). Checks x.config x.maps macros set path refusal) same c in
      let asked : Checks grounds.config grounds.maps macros (codes "check_rcpt") path refusal = subst (λ (x : List ℕ). Checks grounds.config grounds.maps macros x path refusal) named here in
      is_checked error (subst (λ (x : Option RouteError). Checks grounds.config grounds.maps macros (codes "check_rcpt") path x) is asked)

  -- it has rows
  pub by_rows : (rows : List Draw) → Expands (site_in grounds macros) files path sender (Ok rows) → Accepts → Judges grounds files macros path sender (Rows rows)
  by_rows rows holds c = goes rows c holds

  -- its aliases give it no rows
  pub by_refusal : (refusal : ExpandRefusal) (result : Result Verdict JudgeFault) → HoldsOf (Err refusal) (Expands (site_in grounds macros) files path sender) → IfOk result (Tells refusal) → Accepts → IfOk result (Judges grounds files macros path sender)
  by_refusal refusal (Err fault) holds tells c = tt
  by_refusal refusal (Ok verdict) holds tells c = by_error refusal verdict tells (λ error e is.
      subst (Judges grounds files macros path sender) is
      (is_refused refusal error c (held (Expands (site_in grounds macros) files path sender) refusal error e holds) e))

-- ---- what a judge is

-- a refusal leaves the files as they were asked
pub refused_asks : (a b : FilesSeen) (refusal : ExpandRefusal) (result : Result Verdict JudgeFault) → not (is_calm result) ≡ is_files_fault {T = List Draw} (Err refusal) → Asks a b (is_files_fault {T = List Draw} (Err refusal)) → Asks a b (not (is_calm result))
refused_asks a b refusal result same asks = subst (λ (f : Bool). Asks a b f) (sym same) asks

risen : {T : Type 0} (before now : ℕ) (result : Result T JudgeFault) → (not (is_calm result) ≡ true → Rose before now) → IfErr result (λ fault. fault ≡ FilesFault → Rose before now)
risen before now (Ok value) rose = tt
risen before now (Err FilesFault) rose = λ is. rose refl
risen before now (Err NoMemory) rose = λ is. absurd (cc is)

said_so : (P : Said → Type 0) (result : Result Verdict JudgeFault) → IfOk result (λ verdict. P (OfRecipient verdict)) → IfOk (as_said OfRecipient result) P
said_so P (Ok verdict) p = p
said_so P (Err fault) p = tt

module _ {T : Type 0} (a b : FilesSeen) (result : Result T JudgeFault) (asks : Asks a b (not (is_calm result))) where
  pub caused : HasJudgeCause (answerer_of a).faults (answerer_of b).faults result
  caused = record { later = asks.later; failed = risen a.faults b.faults result asks.rose }

  pub calmed : is_calm result ≡ true → (answerer_of b).faults ≡ (answerer_of a).faults
  calmed calm = asks.calm (ap not calm)

module _ (a b : FilesSeen) (result : Result Verdict JudgeFault) (asks : Asks a b (not (is_calm result))) where
  pub answered : (grounds : Grounds) (question : Question) → IfOk result (λ verdict. IsJudged grounds a.map question (OfRecipient verdict)) → HasAnswered (answerer_of a) (answerer_of b) (IsJudged grounds a.map) (IsJudged grounds b.map) question (as_said OfRecipient result)
  answered grounds question judged = record {
    tells = ap is_some asks.fixed;
    stays = λ told q said. (subst (λ (m : Option FileMap). IsJudged grounds m q said) (sym asks.fixed), subst (λ (m : Option FileMap). IsJudged grounds m q said) asks.fixed);
    told = λ told. said_so (IsJudged grounds a.map question) result judged;
  }

abbrev pub IsOneSaid : Type 0
IsOneSaid = (grounds : Grounds) (files : FileMap) (question : Question) (one another : Said) → IsJudged grounds (Some files) question one → IsJudged grounds (Some files) question another → one ≡ another

only_told : IsOneSaid → (grounds : Grounds) (told : Option FileMap) (question : Question) → IsTrue (is_some told) → (one another : Said) → IsJudged grounds told question one → IsJudged grounds told question another → one ≡ another
only_told law grounds None question is one another = absurd (cc is)
only_told law grounds (Some files) question is one another = law grounds files question one another

pub tells_one : IsOneSaid → (grounds : Grounds) (a : FilesSeen) (question : Question) → TellsOne (answerer_of a) (IsJudged grounds a.map) question
tells_one law grounds a question = only_told law grounds a.map question
