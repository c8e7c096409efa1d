-- The rows of all recipients are drawn, or one recipient is refused.
use Rattle.std.proofs.Common.{◌≡◌, ℕ, ◌+◌, ◌<◌, ◌≤◌, List, [], ◌∷◌, ◌++◌, length, drop, true, false, Option, Some, Result, Ok, Err, refl, sym, ◌∙◌, ap, subst, arith}
use Rattle.std.specs.Prelude.{get_or}
use Rattle.std.proofs.lemmas.List.{drop_all, drop_more, length-append}
use Rattle.std.proofs.lemmas.List.Elements.{All-append, All-nil}
use Rattle.mail_base.specs.Drawing.{AreRows, IsDrawn}
use Rattle.mail_base.specs.Limits.{most_rows, recipient_limit}
use Rattle.mail_base.specs.declared.draw.Draw.{Draw}
use Rattle.mail_base.specs.declared.route.RouteError.{RouteError}
use Rattle.cf_macros.specs.SessionMacros.{session_macros}
use Rattle.ruleset_run.specs.Sites.{Macros}
use Rattle.alias_expand.specs.Rows.{Expands, HoldsOf}
use Rattle.alias_expand.specs.declared.refusal.ExpandRefusal.{ExpandRefusal}
use Rattle.alias_expand.specs.declared.refusal.ExpandRefusal.TheVariants as refusals
use Rattle.mail_edge.specs.Seen.{FileMap}
use Rattle.mail_judge.specs.Judged.{Grounds, error_of, site_in}
use Rattle.submit_run.specs.Rows.{Draws, DrawsOne, draws, draws_none, goes, is_program, is_refused, joined, no_program, runs, site_under, stops}
use Rattle.submit_run.specs.Parties.{kept}
use Rattle.submit_run.specs.inner.Steps.{AreGathered, Gathers, RefusesBy, Tells}
use Rattle.submit_run.specs.declared.end.SubmitEnd.{SubmitEnd}
use Rattle.submit_run.specs.declared.end.SubmitEnd.TheVariants as ends

-- what is told is no fault of files or memory
told_of : (P : Result (List Draw) ExpandRefusal → Type 0) (refusal : ExpandRefusal) (error : RouteError) → error_of refusal ≡ Some error → HoldsOf (Err refusal) P → P (Err refusal)
told_of P (refusals.Refuses e) error is p = p
told_of P refusals.TooDeep error is p = p
told_of P refusals.TooMany error is p = p
told_of P (refusals.IncludeAbsent name) error is p = p
told_of P refusals.NoOne error is p = p
told_of P refusals.FilesFault error is p = absurd (cc is)
told_of P refusals.NoMemory error is p = absurd (cc is)

-- what an address comes to under the macros of a sender
pub under_sender : (grounds : Grounds) (macros : Macros) (files : Option FileMap) (recipient sender : List ℕ) (result : Result (List Draw) ExpandRefusal) → macros ≡ session_macros grounds.config kept sender
    → HoldsOf result (Expands (site_in grounds macros) files recipient sender) → HoldsOf result (Expands (site_under grounds sender) files recipient sender)
under_sender grounds macros files recipient sender result is h = subst (λ (m : Macros). HoldsOf result (Expands (site_in grounds m) files recipient sender)) is h

module _ (grounds : Grounds) (files : Option FileMap) (sender : List ℕ) where
  -- ---- one recipient

  module _ (place : ℕ) (rows : List Draw) (recipient : List ℕ) where
    abbrev One : Result (List Draw) RouteError → Type 0
    One drawn = DrawsOne grounds files sender place rows recipient drawn

    pub one_runs : (error : RouteError) → is_program recipient ≡ true → error ≡ no_program → (place ≡ place) × One (Err error)
    one_runs error is same = (refl, subst (λ (q : RouteError). One (Err q)) (sym same) (runs is))

    pub one_refused : {T : Type 0} (refusal : ExpandRefusal) (result : Result T SubmitEnd) (next : List Draw) → is_program recipient ≡ false → HoldsOf (Err refusal) (Expands (site_under grounds sender) files recipient sender) → RefusesBy place refusal result → Gathers place One result next
    one_refused refusal (Ok done) next plain holds says = absurd says
    one_refused refusal (Err (ends.BadRecipient at error)) next plain holds says =
        (says.0, is_refused refusal error plain (told_of (Expands (site_under grounds sender) files recipient sender) refusal error says.1 holds) says.1)
    one_refused refusal (Err ends.FilesFault) next plain holds says = tt
    one_refused refusal (Err ends.NoMemory) next plain holds says = tt
    one_refused refusal (Err (ends.MessageRefused code)) next plain holds says = absurd says
    one_refused refusal (Err ends.NoRecipient) next plain holds says = absurd says
    one_refused refusal (Err ends.Done) next plain holds says = absurd says
    one_refused refusal (Err ends.ReadFault) next plain holds says = absurd says
    one_refused refusal (Err ends.SpoolFault) next plain holds says = absurd says
    one_refused refusal (Err ends.IdsSpent) next plain holds says = absurd says

    pub one_goes : {T : Type 0} (limit : ℕ) (more : List Draw) (result : Result T SubmitEnd) (next : List Draw) → limit ≡ recipient_limit grounds.config.options → is_program recipient ≡ false → Expands (site_under grounds sender) files recipient sender (Ok more)
        → Gathers place (λ drawn. drawn ≡ joined limit place rows more) result next → Gathers place One result next
    one_goes limit more result next is plain rows_are adds = by result adds
      where
        there : (drawn : Result (List Draw) RouteError) → drawn ≡ joined limit place rows more → One drawn
        there drawn same = subst One (sym (same ∙ ap (λ n. joined n place rows more) is)) (goes more plain rows_are)

        by : {T : Type 0} (result : Result T SubmitEnd) → Gathers place (λ drawn. drawn ≡ joined limit place rows more) result next → Gathers place One result next
        by (Ok done) adds = there (Ok next) adds
        by (Err (ends.BadRecipient at error)) adds = (adds.0, there (Err error) adds.1)
        by (Err ends.FilesFault) adds = tt
        by (Err ends.NoMemory) adds = tt
        by (Err (ends.MessageRefused code)) adds = absurd adds
        by (Err ends.NoRecipient) adds = absurd adds
        by (Err ends.Done) adds = absurd adds
        by (Err ends.ReadFault) adds = absurd adds
        by (Err ends.SpoolFault) adds = absurd adds
        by (Err ends.IdsSpent) adds = absurd adds

  -- ---- all of them

  module _ (recipients : List (List ℕ)) where
    -- whatever completes the rest completes the whole
    abbrev pub Completes : ℕ → List Draw → Type 0
    Completes place rows =
        (drawn : Result (List Draw) SubmitEnd) → Draws grounds files sender place rows (drop place recipients) drawn → Draws grounds files sender 0 [] recipients drawn

    first_left : (place : ℕ) (d : List ℕ) → place < length recipients → d ≡ get_or recipients place d → drop place recipients ≡ d ∷ drop (place + 1) recipients
    first_left place d there is = drop_more recipients place d there ∙ ap (λ q. q ∷ drop (place + 1) recipients) (sym is)

    pub went_on : (place : ℕ) (rows next : List Draw) (d : List ℕ) → place < length recipients → d ≡ get_or recipients place d → Completes place rows → DrawsOne grounds files sender place rows d (Ok next) → Completes (place + 1) next
    went_on place rows next d there is so one = λ drawn rest.
        so drawn (subst (λ (q : List (List ℕ)). Draws grounds files sender place rows q drawn) (sym (first_left place d there is))
        (draws place rows next d (drop (place + 1) recipients) drawn one rest))

    pub stopped : (T : Type 0) (place : ℕ) (rows next : List Draw) (d : List ℕ) (end : SubmitEnd) → place < length recipients → d ≡ get_or recipients place d → Completes place rows → Gathers {T = T} place (DrawsOne grounds files sender place rows d) (Err end) next
        → Tells (Draws grounds files sender 0 [] recipients) (Err end)
    stopped T place rows next d (ends.BadRecipient at error) there is so one =
        subst (λ n. Draws grounds files sender 0 [] recipients (Err (ends.BadRecipient n error))) (sym one.0)
        (so (Err (ends.BadRecipient place error)) (subst (λ (q : List (List ℕ)). Draws grounds files sender place rows q (Err (ends.BadRecipient place error))) (sym (first_left place d there is))
        (stops place rows d (drop (place + 1) recipients) error one.1)))
    stopped T place rows next d ends.FilesFault there is so one = tt
    stopped T place rows next d ends.NoMemory there is so one = tt
    stopped T place rows next d (ends.MessageRefused code) there is so one = absurd one
    stopped T place rows next d ends.NoRecipient there is so one = absurd one
    stopped T place rows next d ends.Done there is so one = absurd one
    stopped T place rows next d ends.ReadFault there is so one = absurd one
    stopped T place rows next d ends.SpoolFault there is so one = absurd one
    stopped T place rows next d ends.IdsSpent there is so one = absurd one

    pub all_drawn : (place : ℕ) (rows : List Draw) → drop place recipients ≡ [] → Completes place rows → Draws grounds files sender 0 [] recipients (Ok rows)
    all_drawn place rows none so = so (Ok rows) (subst (λ (q : List (List ℕ)). Draws grounds files sender place rows q (Ok rows)) (sym none) (draws_none place rows))

pub none_left : (recipients : List (List ℕ)) (place : ℕ) → length recipients ≤ place → drop place recipients ≡ []
none_left recipients place all = drop_all place recipients all

-- ---- forms

pub none_gathered : AreGathered 0 []
none_gathered = record { some = omega arith; few = omega arith; each = All-nil IsDrawn }

-- the rows of one recipient more
pub gathered_more : (place : ℕ) (rows more next : List Draw) → length rows + length more ≤ most_rows → next ≡ rows ++ more → AreGathered place rows → AreRows more → AreGathered (place + 1) next
gathered_more place rows more next few same so are =
    let size = length-append rows more in
    subst (AreGathered (place + 1)) (sym same) (record {
      some = omega (arith, so.some, are.some, size);
      few = omega (arith, few, size);
      each = All-append IsDrawn rows more so.each are.each;
    })
