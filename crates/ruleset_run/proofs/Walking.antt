-- The steps of a run over the rules, from what the code knows.
use Rattle.std.proofs.Common.{◌≡◌, ℕ, ◌+◌, ◌<◌, ◌≤◌, List, ◌∷◌, drop, Result, Ok, Err, Bool, true, false, refl, sym, ◌∙◌, ap, subst}
use Rattle.mail_base.specs.declared.token.Token.{Token}
use Rattle.mail_base.specs.declared.classes.Classes.{Classes}
use Rattle.mail_base.specs.declared.rule.Item.{Item}
use Rattle.mail_base.specs.declared.rule.Rule.{Rule}
use Rattle.mail_base.specs.declared.rule.Go.TheVariants.{Again, Return, Next}
use Rattle.rule_match.specs.declared.cuts.Cut.{Cut}
use Rattle.rule_match.specs.Choices.{Fits, Chosen}
use Rattle.rule_match.specs.Kept.{IsChoice}
use Rattle.rule_match.specs.Wants.{wants}
use Rattle.ruleset_run.specs.declared.fault.RunFault.{RunFault}
use Rattle.ruleset_run.specs.declared.fault.RunFault.TheVariants as faults
use Rattle.ruleset_run.specs.declared.parts.Parts.{Parts}
use Rattle.ruleset_run.specs.declared.runner.Ran.{Ran}
use Rattle.ruleset_run.specs.Sites.{Site, Macros}
use Rattle.ruleset_run.specs.Cutting.{Lates, late_tokens, is_cut_left, left_lists}
use Rattle.ruleset_run.specs.Filling.{Matched, filled, is_cut_right, tokens_in, is_resolved}
use Rattle.ruleset_run.specs.Runs.{Done, Outcome, Called, Replaced, late_of, full_of, left_wants, matched, Takes, Runs, GivesFault, Ends}
use Rattle.ruleset_run.specs.inner.Filler.{IsCutAs, parts_of, StandBy, Fills, FillsFault}
use Rattle.ruleset_run.specs.inner.Looks.{IsAhead, LeftFault, LimitFault, MatchFound, times_at}
use Rattle.ruleset_run.specs.inner.Values.{Known, lates}
use Rattle.ruleset_run.proofs.Moves.{limit_reached, takes_unscanned, takes_unfilled, takes_long, takes_replaced, step_unread, step_unmatched, step_refused, step_resolved, step_returned, step_next, step_again}
use Rattle.ruleset_run.proofs.Skipping.{drop_at, skipped}

module _ (site : Site) (v : Known) (ops : v.operators ≡ site.operators) where
  pub lates_are : lates v ≡ late_of site v.macros
  lates_are = ap (λ o. late_tokens o v.macros) ops

-- ---- an application

module _ (site : Site) (called : Called) (rule : Rule) (tokens : List Token) (work : ℕ) (v : Known) (ops : v.operators ≡ site.operators) (is_cut : is_cut_left (lates v) rule.left ≡ true)
    (cuts : List Cut) (choice : IsChoice site.classes (left_lists (lates v) rule.left) rule.left tokens cuts) where
  found : Matched
  found = matched rule tokens choice.0

  pub is_cut_as : IsCutAs rule.left tokens cuts (matched rule tokens choice.0)
  is_cut_as = record { left_is = refl; tokens_are = refl; classes = site.classes; late = left_lists (lates v) rule.left; fits = choice.1.fits; kept = choice.2 }

  cut_now : is_cut_left (late_of site v.macros) rule.left ≡ true
  cut_now = subst (λ (late : Lates). is_cut_left late rule.left ≡ true) (lates_are site v ops) is_cut

  chosen_now : Chosen (left_wants site v.macros rule) tokens choice.0
  chosen_now = subst (λ (late : Lates). Chosen (wants site.classes (left_lists late rule.left) rule.left) tokens choice.0) (lates_are site v ops) choice.1

  pub apply_limit : (times : ℕ) (e : RunFault) → LimitFault times work e → GivesFault e (Takes site called rule times tokens work v.macros)
  apply_limit times e h = limit_reached site called rule tokens work v.macros cut_now choice.0 chosen_now times e h

  module _ (times : ℕ) (lt : times < 100) (few : work < 10000) where
    pub apply_unscanned : is_cut_right (lates v) rule.right.steps ≡ false → Takes site called rule times tokens work v.macros (Err faults.BadScan)
    apply_unscanned bad = takes_unscanned site called rule tokens work v.macros cut_now choice.0 chosen_now times lt few (subst (λ (late : Lates). is_cut_right late rule.right.steps ≡ false) (lates_are site v ops) bad)

    module _ (good : is_cut_right (lates v) rule.right.steps ≡ true) where
      scan : is_cut_right (late_of site v.macros) rule.right.steps ≡ true
      scan = subst (λ (late : Lates). is_cut_right late rule.right.steps ≡ true) (lates_are site v ops) good

      filling_is : filled site.maps v.operators (lates v) (matched rule tokens choice.0) rule.right.steps v.macros ≡ full_of site v.macros (matched rule tokens choice.0) rule.right.steps
      filling_is = ap (λ o. filled site.maps o (late_tokens o v.macros) (matched rule tokens choice.0) rule.right.steps v.macros) ops

      pub apply_unfilled : (e : RunFault) → FillsFault e (filled site.maps v.operators (lates v) (matched rule tokens choice.0) rule.right.steps v.macros) → GivesFault e (Takes site called rule times tokens work v.macros)
      apply_unfilled e h = takes_unfilled site called rule tokens work v.macros cut_now choice.0 chosen_now times lt few scan e (subst (λ f. FillsFault e f) filling_is h)

      module _ (parts : Parts) (macros : Macros) (fills : Fills (Ok parts) macros (filled site.maps v.operators (lates v) (matched rule tokens choice.0) rule.right.steps v.macros)) where
        pub apply_long : parts.is_long ≡ true → Takes site called rule times tokens work v.macros (Err faults.Long)
        apply_long is =
            let long : StandBy true parts.fronts parts.last parts.count fills.0 = subst (λ b. StandBy b parts.fronts parts.last parts.count fills.0) is fills.1 in
            takes_long site called rule tokens work v.macros cut_now choice.0 chosen_now times lt few scan (record { parts = fills.0; macros = macros }) (sym filling_is ∙ fills.2) long

        pub apply_replaced : parts.is_long ≡ false → (now : Macros) (r : Result Ran RunFault) → Ends now r (Replaced called 0 (parts_of parts.fronts parts.last) (work + 1) macros) → Ends now r (Takes site called rule times tokens work v.macros)
        apply_replaced is now r h =
            let kept : StandBy false parts.fronts parts.last parts.count fills.0 = subst (λ b. StandBy b parts.fronts parts.last parts.count fills.0) is fills.1 in
            takes_replaced site called rule tokens work v.macros cut_now choice.0 chosen_now times lt few scan (record { parts = fills.0; macros = macros }) (sym filling_is ∙ fills.2) kept.2 now r
            (subst (λ ps. Ends now r (Replaced called 0 ps (work + 1) macros)) kept.0 h)

        -- the parts that are kept are few
        pub kept_stand : parts.is_long ≡ false → StandBy parts.is_long parts.fronts parts.last parts.count (parts_of parts.fronts parts.last)
        kept_stand is =
            let kept : StandBy false parts.fronts parts.last parts.count fills.0 = subst (λ b. StandBy b parts.fronts parts.last parts.count fills.0) is fills.1 in
            subst (λ b. StandBy b parts.fronts parts.last parts.count (parts_of parts.fronts parts.last)) (sym is) (refl, kept.1, subst (λ ps. tokens_in ps ≤ 2000) (sym kept.0) kept.2)

-- ---- the rules

module _ (site : Site) (called : Called) (rules : List Rule) (from number times now : ℕ) (rule : Rule) (tokens : List Token) (work : ℕ) (v : Known) (ops : v.operators ≡ site.operators) (next : IsAhead rules from tokens number rule) (now_is : now ≡ times_at number from times)
    (whole : Outcome → Type 0) (completes : (o : Outcome) → Runs site called (drop from rules) times tokens work v.macros o → whole o) where
  at : (o : Outcome) → Runs site called (drop number rules) now tokens work v.macros o → whole o
  at o run = completes o (skipped site called rules tokens work v.macros from number times now rule o next now_is run)

  rest_is : drop number rules ≡ rule ∷ drop (number + 1) rules
  rest_is = drop_at rules number rule next.is

  pub walk_unread : (e : RunFault) → LeftFault (is_cut_left (lates v) rule.left) e → GivesFault e whole
  walk_unread e h = step_unread site called (drop number rules) rule (drop (number + 1) rules) rest_is now tokens work v.macros whole at e (subst (λ (late : Lates). LeftFault (is_cut_left late rule.left) e) (lates_are site v ops) h)

  pub walk_unmatched : is_cut_left (lates v) rule.left ≡ true → ((lengths : List ℕ) → Fits (wants site.classes (left_lists (lates v) rule.left) rule.left) tokens lengths → ⊥) → (o : Outcome) → Runs site called (drop (number + 1) rules) 0 tokens work v.macros o → whole o
  walk_unmatched is_cut none o run =
      at o (step_unmatched site called (drop number rules) rule (drop (number + 1) rules) rest_is now tokens work v.macros (subst (λ (late : Lates). is_cut_left late rule.left ≡ true) (lates_are site v ops) is_cut)
      (subst (λ (late : Lates). (lengths : List ℕ) → Fits (wants site.classes (left_lists late rule.left) rule.left) tokens lengths → ⊥) (lates_are site v ops) none) o run)

  pub walk_refused : (e : RunFault) → GivesFault e (Takes site called rule now tokens work v.macros) → GivesFault e whole
  walk_refused e h = step_refused site called (drop number rules) rule (drop (number + 1) rules) rest_is now tokens work v.macros whole at e h

  module _ (done : Done) (t : Takes site called rule now tokens work v.macros (Ok done)) where
    pub walk_resolved : is_resolved done.tokens ≡ true → whole (Ok done)
    walk_resolved r = at (Ok done) (step_resolved site called (drop number rules) rule (drop (number + 1) rules) rest_is now tokens work v.macros done t r)

    pub walk_returned : is_resolved done.tokens ≡ false → rule.right.go ≡ Return → whole (Ok done)
    walk_returned r go = at (Ok done) (step_returned site called (drop number rules) rule (drop (number + 1) rules) rest_is now tokens work v.macros done t r go)

    pub walk_next : is_resolved done.tokens ≡ false → rule.right.go ≡ Next → (o : Outcome) → Runs site called (drop (number + 1) rules) 0 done.tokens done.work done.macros o → whole o
    walk_next r go o run = at o (step_next site called (drop number rules) rule (drop (number + 1) rules) rest_is now tokens work v.macros done t r go o run)

    pub walk_again : is_resolved done.tokens ≡ false → rule.right.go ≡ Again → (o : Outcome) → Runs site called (drop number rules) (now + 1) done.tokens done.work done.macros o → whole o
    walk_again r go o run = at o (step_again site called (drop number rules) rule (drop (number + 1) rules) rest_is now tokens work v.macros done t r go o run)

-- ---- the match of a rule

-- a rule whose late macros are cut is matched as its choice says, or nothing fits
pub match_found : (is_cut : Bool) (classes : Classes) (late lists : List (List Token)) (items : List Item) (tokens : List Token) (cuts : List Cut) (found : Bool) → is_cut ≡ true → lists ≡ late → (found ≡ true → IsChoice classes lists items tokens cuts)
    → (found ≡ false → (lengths : List ℕ) → Fits (wants classes lists items) tokens lengths → ⊥) → MatchFound is_cut classes late items tokens cuts found
match_found is_cut classes late lists items tokens cuts true is are some none = (is, subst (λ (ls : List (List Token)). IsChoice classes ls items tokens cuts) are (some refl))
match_found is_cut classes late lists items tokens cuts false is are some none = (is, subst (λ (ls : List (List Token)). (lengths : List ℕ) → Fits (wants classes ls items) tokens lengths → ⊥) are (none refl))
