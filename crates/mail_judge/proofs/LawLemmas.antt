-- A question has one answer, and one alone.
use Rattle.std.proofs.Common.{◌≡◌, ℕ, List, [], ◌∷◌, Option, None, Some, Result, Ok, Err, refl, ap, sym, ◌∙◌}
use Rattle.std.specs.Prelude.{codes}
use Rattle.std.specs.List.{find}
use Rattle.mail_base.specs.Rulesets.{is_named}
use Rattle.mail_base.specs.declared.config.Config.{Config}
use Rattle.mail_base.specs.declared.draw.Draw.{Draw}
use Rattle.mail_base.specs.declared.route.RouteError.{RouteError}
use Rattle.mail_edge.specs.Seen.{FileMap}
use Rattle.mail_base.specs.declared.rule.RuleSet.{RuleSet}
use Rattle.map_tables.specs.Answers.{Loaded}
use Rattle.ruleset_run.specs.Sites.{Macros, Site as RunSite, site_of}
use Rattle.ruleset_run.specs.declared.rewritten.Rewritten.{Rewritten}
use Rattle.addr_route.specs.Checks.{Checks, unchecked, checked, verdict}
use Rattle.addr_route.specs.Sets.{Rewrites, rewrites}
use Rattle.alias_expand.specs.Rows.{Expands, IsMeant, Site}
use Rattle.alias_expand.specs.declared.refusal.ExpandRefusal.{ExpandRefusal}
use Rattle.alias_expand.specs.declared.refusal.ExpandRefusal.TheVariants as refusals
use Rattle.smtp_receive.specs.declared.judge.Verdict.{Verdict}
use Rattle.smtp_receive.specs.declared.judge.Verdict.TheVariants.{Rows, No}
use Rattle.smtp_receive.specs.Judging.{Question, AsksSender, AsksRecipient, Said, Unasked, OfSender, OfRecipient}
use Rattle.cf_macros.specs.SessionMacros.{session_macros}
use Rattle.mail_judge.specs.Judged.{Grounds, IsJudged, Judges, is_checked, is_refused, goes, error_of, site_in}

abbrev Outcome : Type 0
Outcome = Result (List Draw) ExpandRefusal

abbrev refused : ExpandRefusal → Outcome
refused refusal = Err refusal

abbrev rows_are : List Draw → Outcome
rows_are rows = Ok rows

-- a check has one answer
abbrev pub IsOneCheck : Type 0
IsOneCheck = (config : Config) (maps : Loaded) (macros : Macros) (set address : List ℕ) (one another : Option RouteError)
    → Checks config maps macros set address one → Checks config maps macros set address another → one ≡ another

-- an address comes to one outcome
abbrev pub IsOneExpansion : Type 0
IsOneExpansion = (site : Site) (files : FileMap) (address sender : List ℕ) (one another : Outcome)
    → Expands site (Some files) address sender one → Expands site (Some files) address sender another → one ≡ another

module _ (one_check : IsOneCheck) (one_expansion : IsOneExpansion) (grounds : Grounds) (files : FileMap) where
  module _ (macros : Macros) (path sender : List ℕ) where
    abbrev check : (one another : Option RouteError) → Checks grounds.config grounds.maps macros (codes "check_rcpt") path one → Checks grounds.config grounds.maps macros (codes "check_rcpt") path another → one ≡ another
    check = one_check grounds.config grounds.maps macros (codes "check_rcpt") path

    abbrev outcome : (one another : Outcome) → Expands (site_in grounds macros) (Some files) path sender one → Expands (site_in grounds macros) (Some files) path sender another → one ≡ another
    outcome = one_expansion (site_in grounds macros) files path sender

    one_error : (r s : ExpandRefusal) (e f : RouteError) → refused r ≡ refused s → error_of r ≡ Some e → error_of s ≡ Some f → e ≡ f
    one_error r s e f is p q =
        let same : r ≡ s = cc is in
        let also : Some e ≡ Some f = sym p ∙ ap error_of same ∙ q in
        cc also

    one_verdict : {one another : Verdict} → Judges grounds (Some files) macros path sender one → Judges grounds (Some files) macros path sender another → one ≡ another
    one_verdict (is_checked e c) (is_checked f d) = let same : Some e ≡ Some f = check (Some e) (Some f) c d in cc same
    one_verdict (is_checked e c) (is_refused s f d y q) = absurd (cc (check (Some e) None c d))
    one_verdict (is_checked e c) (goes rows d y) = absurd (cc (check (Some e) None c d))
    one_verdict (is_refused r e c x p) (is_checked f d) = absurd (cc (check None (Some f) c d))
    one_verdict (is_refused r e c x p) (is_refused s f d y q) = ap No (one_error r s e f (outcome (refused r) (refused s) x y) p q)
    one_verdict (is_refused r e c x p) (goes rows d y) = absurd (cc (outcome (refused r) (rows_are rows) x y))
    one_verdict (goes rows c x) (is_checked f d) = absurd (cc (check None (Some f) c d))
    one_verdict (goes rows c x) (is_refused s f d y q) = absurd (cc (outcome (rows_are rows) (refused s) x y))
    one_verdict (goes rows c x) (goes others d y) = let same : rows_are rows ≡ rows_are others = outcome (rows_are rows) (rows_are others) x y in cc same

  -- a question has one answer alone
  pub one_said : (question : Question) (one another : Said) → IsJudged grounds (Some files) question one → IsJudged grounds (Some files) question another → one ≡ another
  one_said (AsksSender path kept) (OfSender one) (OfSender another) a b = ap OfSender (one_check grounds.config grounds.maps (session_macros grounds.config kept path) (codes "check_mail") path one another a b)
  one_said (AsksSender path kept) (OfSender one) Unasked a b = absurd b
  one_said (AsksSender path kept) (OfSender one) (OfRecipient another) a b = absurd b
  one_said (AsksSender path kept) Unasked another a b = absurd a
  one_said (AsksSender path kept) (OfRecipient one) another a b = absurd a
  one_said (AsksRecipient path sender kept) (OfRecipient one) (OfRecipient another) a b = ap OfRecipient (one_verdict (session_macros grounds.config kept sender) path sender a b)
  one_said (AsksRecipient path sender kept) (OfRecipient one) Unasked a b = absurd b
  one_said (AsksRecipient path sender kept) (OfRecipient one) (OfSender another) a b = absurd b
  one_said (AsksRecipient path sender kept) Unasked another a b = absurd a
  one_said (AsksRecipient path sender kept) (OfSender one) another a b = absurd a

-- ---- an answer

-- an address is rewritten, or refused
abbrev pub HasRewriting : Type 0
HasRewriting = (site : RunSite) (macros : Macros) (sets : List (List ℕ)) (address : List ℕ) → (rewritten : Rewritten) × Rewrites site macros sets address rewritten

-- a check has an answer
abbrev IsSomeCheck : Type 0
IsSomeCheck = (config : Config) (maps : Loaded) (macros : Macros) (set address : List ℕ) → (refusal : Option RouteError) × Checks config maps macros set address refusal

module _ (has_rewriting : HasRewriting) (config : Config) (maps : Loaded) where
  module _ (macros : Macros) (set path : List ℕ) where
    by_sets : (rules : RuleSet) → find (is_named set) config.book ≡ Some rules → (rewritten : Rewritten) → Rewrites (site_of config maps) macros (set ∷ []) path rewritten → (refusal : Option RouteError) × Checks config maps macros set path refusal
    by_sets rules e _ (rewrites answer p) = (verdict answer, checked rules answer e p)

    by_book : (found : Option RuleSet) → find (is_named set) config.book ≡ found → (refusal : Option RouteError) × Checks config maps macros set path refusal
    by_book None e = (None, unchecked e)
    by_book (Some rules) e = let w = has_rewriting (site_of config maps) macros (set ∷ []) path in by_sets rules e w.0 w.1

    -- each set says something of an address
    pub some_check : (refusal : Option RouteError) × Checks config maps macros set path refusal
    some_check = by_book (find (is_named set) config.book) refl

-- an address comes to an outcome, which is no fault of files and no want of memory
abbrev pub IsSomeExpansion : Type 0
IsSomeExpansion = (site : Site) (files : FileMap) (address sender : List ℕ) → (outcome : Outcome) × (Expands site (Some files) address sender outcome × IsMeant outcome)

told : (refusal : ExpandRefusal) → IsMeant (refused refusal) → (error : RouteError) × (error_of refusal ≡ Some error)
told (refusals.Refuses e) m = (e, refl)
told refusals.TooDeep m = (_, refl)
told refusals.TooMany m = (_, refl)
told (refusals.IncludeAbsent name) m = (_, refl)
told refusals.NoOne m = (_, refl)
told refusals.FilesFault m = absurd m
told refusals.NoMemory m = absurd m

module _ (some_check : IsSomeCheck) (some_expansion : IsSomeExpansion) (grounds : Grounds) (files : FileMap) where
  module _ (macros : Macros) (path sender : List ℕ) where
    abbrev Comes : Type 0
    Comes = (verdict : Verdict) × Judges grounds (Some files) macros path sender verdict

    by_outcome : Checks grounds.config grounds.maps macros (codes "check_rcpt") path None → (outcome : Outcome) → Expands (site_in grounds macros) (Some files) path sender outcome → IsMeant outcome → Comes
    by_outcome c (Ok rows) x m = (Rows rows, goes rows c x)
    by_outcome c (Err refusal) x m = let t = told refusal m in (No t.0, is_refused refusal t.0 c x t.1)

    by_refusal : (refusal : Option RouteError) → Checks grounds.config grounds.maps macros (codes "check_rcpt") path refusal → Comes
    by_refusal (Some error) c = (No error, is_checked error c)
    by_refusal None c = let o = some_expansion (site_in grounds macros) files path sender in by_outcome c o.0 o.1.0 o.1.1

  -- a question has an answer
  pub some_said : (question : Question) → (said : Said) × IsJudged grounds (Some files) question said
  some_said (AsksSender path kept) = let w = some_check grounds.config grounds.maps (session_macros grounds.config kept path) (codes "check_mail") path in (OfSender w.0, w.1)
  some_said (AsksRecipient path sender kept) =
      let macros = session_macros grounds.config kept sender in
      let w = some_check grounds.config grounds.maps macros (codes "check_rcpt") path in
      let v = by_refusal macros path sender w.0 w.1 in
      (OfRecipient v.0, v.1)
