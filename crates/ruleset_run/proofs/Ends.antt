-- A run has an outcome.
use Rattle.std.proofs.Common.{cond, ◌≡◌, ℕ, zero, suc, ◌+◌, ◌-◌, ◌<◌, ◌≤◌, ◌⊎◌, inl, inr, List, [], ◌∷◌, length, Option, Some, None, Ok, Err, Bool, true, false, refl, sym, subst, arith}
use Rattle.std.specs.Prelude.{nat_lt}
use Rattle.std.proofs.lemmas.Bool.{cases_lt}
use Rattle.mail_base.specs.declared.token.Token.{Token}
use Rattle.mail_base.specs.declared.rule.Rule.{Rule}
use Rattle.mail_base.specs.declared.rule.Step.{Step}
use Rattle.mail_base.specs.declared.rule.Go.{Go}
use Rattle.mail_base.specs.declared.rule.Go.TheVariants.{Again, Return, Next}
use Rattle.rule_match.specs.Choices.{Fits, Chosen}
use Rattle.rule_match.specs.Wants.{Want}
use Rattle.ruleset_run.specs.declared.fault.RunFault.TheVariants as faults
use Rattle.ruleset_run.specs.Sites.{Site, Macros}
use Rattle.ruleset_run.specs.Cutting.{is_cut_left}
use Rattle.ruleset_run.specs.Filling.{Part, OneToken, OneCall, Matched, Full, Filling, is_cut_right, tokens_in, is_resolved}
use Rattle.ruleset_run.specs.Runs.{Done, Outcome, Called, name_of, rest_of, with_token, bounded, Replaced, no_part, token, call_after, call, late_of, full_of, Applies, loops, works, unscanned, unfilled, long, replaced, left_wants, matched, Takes, Runs, no_rule, unread, unmatched, refused, resolves, returns, goes_next, goes_again, rules_called, written, SetRuns, known, unknown, RunsAt}

-- the applications never become fewer, nor more than 10,000
abbrev pub Grows : ℕ → Outcome → Type 0
Grows work (Ok done) = (work ≤ done.work) × (done.work ≤ 10000)
Grows work (Err fault) = Unit {0}

-- an outcome that grows
abbrev pub EndsSo : ℕ → (Outcome → Type 0) → Type 0
EndsSo work P = (o : Outcome) × P o × Grows work o

grows_more : (work more : ℕ) (o : Outcome) → work ≤ more → Grows more o → Grows work o
grows_more work more (Ok done) le h = (omega (arith, h.0), h.1)
grows_more work more (Err fault) le h = tt

-- each call has an outcome
abbrev pub CallsEnd : Called → Type 0
CallsEnd called = (name : Option (List ℕ)) (tokens : List Token) (work : ℕ) (macros : Macros) → work ≤ 10000 → EndsSo work (called name tokens work macros)

-- a match is taken, or none fits
abbrev pub Decides : Type 0
Decides = (wants : List Want) (tokens : List Token) → ((lengths : List ℕ) × Chosen wants tokens lengths) ⊎ ((lengths : List ℕ) → Fits wants tokens lengths → ⊥)

with_grows : (t : Token) (work : ℕ) (o : Outcome) → Grows work o → Grows work (with_token t o)
with_grows t work (Ok done) h = h
with_grows t work (Err fault) h = tt

bounded_by : (before : ℕ) (done : Done) (work : ℕ) (b : Bool) → nat_lt 2000 (before + length done.tokens) ≡ b → Grows work (Ok done) → Grows work (bounded before (Ok done))
bounded_by before done work true e h = subst (λ v. Grows work (cond v (Err faults.Long) (Ok done))) (sym e) tt
bounded_by before done work false e h = subst (λ v. Grows work (cond v (Err faults.Long) (Ok done))) (sym e) h

bounded_grows : (before work : ℕ) (o : Outcome) → Grows work o → Grows work (bounded before o)
bounded_grows before work (Ok done) h = bounded_by before done work (nat_lt 2000 (before + length done.tokens)) refl h
bounded_grows before work (Err fault) h = tt

module _ (decides : Decides) (site : Site) (called : Called) (end : CallsEnd called) where
  call_ends : (before : ℕ) (parts : List Part) (work : ℕ) (macros : Macros) (r : Outcome) → Replaced called before parts work macros r → Grows work r → EndsSo work (Replaced called before (OneCall ∷ parts) work macros)
  call_ends before parts work macros (Err fault) h g = (Err fault, call_after before parts work macros fault h, tt)
  call_ends before parts work macros (Ok done) h g =
      let w = end (name_of done.tokens) (rest_of done.tokens) done.work done.macros g.1 in
      (bounded before w.0, call before parts work macros done w.0 h w.1, bounded_grows before work w.0 (grows_more work done.work w.0 g.0 w.2))

  replaced_ends : (parts : List Part) (before work : ℕ) (macros : Macros) → work ≤ 10000 → EndsSo work (Replaced called before parts work macros)
  replaced_ends [] before work macros le = (Ok (record { tokens = []; work = work; macros = macros }), no_part before work macros, (omega arith, le))
  replaced_ends (OneToken t ∷ parts) before work macros le = let w = replaced_ends parts (before + 1) work macros le in (with_token t w.0, token t before parts work macros w.0 w.1, with_grows t work w.0 w.2)
  replaced_ends (OneCall ∷ parts) before work macros le = let w = replaced_ends parts before work macros le in call_ends before parts work macros w.0 w.1 w.2

  module _ (steps : List Step) (times : ℕ) (found : Matched) (work : ℕ) (macros : Macros) where
    abbrev AppliesEnds : Type 0
    AppliesEnds = EndsSo (work + 1) (Applies site called steps times found work macros)

    counted_ends : (full : Full) → times < 100 → work < 10000 → is_cut_right (late_of site macros) steps ≡ true → full_of site macros found steps ≡ Ok full → (2000 < tokens_in full.parts) ⊎ (tokens_in full.parts ≤ 2000) → AppliesEnds
    counted_ends full lt few scan is (inl over) = (Err faults.Long, long steps times found work macros full lt few scan is over, tt)
    counted_ends full lt few scan is (inr fits) = let w = replaced_ends full.parts 0 (work + 1) full.macros (omega arith) in (w.0, replaced steps times found work macros full w.0 lt few scan is fits w.1, w.2)

    fill_ends : (f : Filling) → times < 100 → work < 10000 → is_cut_right (late_of site macros) steps ≡ true → full_of site macros found steps ≡ f → AppliesEnds
    fill_ends (Err fault) lt few scan is = (Err fault, unfilled steps times found work macros fault lt few scan is, tt)
    fill_ends (Ok full) lt few scan is = counted_ends full lt few scan is (cases_lt 2000 (tokens_in full.parts))

    scan_ends : (b : Bool) → is_cut_right (late_of site macros) steps ≡ b → times < 100 → work < 10000 → AppliesEnds
    scan_ends false e lt few = (Err faults.BadScan, unscanned steps times found work macros lt few e, tt)
    scan_ends true e lt few = fill_ends (full_of site macros found steps) lt few e refl

    applies_ends : AppliesEnds
    applies_ends = elim (cases_lt times 100) [
      | inr over ↦ (Err faults.Loop, loops steps times found work macros over, tt)
      | inl lt ↦ elim (cases_lt work 10000) [
        | inr over ↦ (Err faults.Work, works steps times found work macros lt over, tt)
        | inl few ↦ scan_ends (is_cut_right (late_of site macros) steps) refl lt few
      ]
    ]

  abbrev RunEnds : List Rule → ℕ → List Token → ℕ → Macros → Type 0
  RunEnds rules times tokens work macros = EndsSo work (Runs site called rules times tokens work macros)

  -- with so many steps to go
  abbrev EndsWithin : ℕ → Type 0
  EndsWithin fuel = (rules : List Rule) (times : ℕ) (tokens : List Token) (work : ℕ) (macros : Macros) → work ≤ 10000 → (10000 - work) + length rules ≤ fuel → RunEnds rules times tokens work macros

  module _ (rule : Rule) (rules : List Rule) (times : ℕ) (tokens : List Token) (work : ℕ) (macros : Macros) (fuel : ℕ) (more : EndsWithin fuel) (room : (10000 - work) + length (rule ∷ rules) ≤ suc fuel) where
    go_ends : (done : Done) (go : Go) → rule.right.go ≡ go → is_resolved done.tokens ≡ false → Takes site called rule times tokens work macros (Ok done) → Grows (work + 1) (Ok done) → RunEnds (rule ∷ rules) times tokens work macros
    go_ends done Return go r t g = (Ok done, returns rule rules times tokens work macros done t r go, grows_more work (work + 1) (Ok done) (omega arith) g)
    go_ends done Next go r t g =
        let low = g.0 in let high = g.1 in
        let w = more rules 0 done.tokens done.work done.macros g.1 (omega arith) in
        (w.0, goes_next rule rules times tokens work macros done w.0 t r go w.1, grows_more work done.work w.0 (omega arith) w.2)
    go_ends done Again go r t g =
        let low = g.0 in let high = g.1 in
        let w = more (rule ∷ rules) (times + 1) done.tokens done.work done.macros g.1 (omega arith) in
        (w.0, goes_again rule rules times tokens work macros done w.0 t r go w.1, grows_more work done.work w.0 (omega arith) w.2)

    done_ends : (done : Done) (b : Bool) → is_resolved done.tokens ≡ b → Takes site called rule times tokens work macros (Ok done) → Grows (work + 1) (Ok done) → RunEnds (rule ∷ rules) times tokens work macros
    done_ends done true r t g = (Ok done, resolves rule rules times tokens work macros done t r, grows_more work (work + 1) (Ok done) (omega arith) g)
    done_ends done false r t g = go_ends done rule.right.go refl r t g

    taken_ends : (a : Outcome) → Takes site called rule times tokens work macros a → Grows (work + 1) a → RunEnds (rule ∷ rules) times tokens work macros
    taken_ends (Err fault) t g = (Err fault, refused rule rules times tokens work macros fault t, tt)
    taken_ends (Ok done) t g = done_ends done (is_resolved done.tokens) refl t g

    match_ends : is_cut_left (late_of site macros) rule.left ≡ true → work ≤ 10000 → ((lengths : List ℕ) × Chosen (left_wants site macros rule) tokens lengths) ⊎ ((lengths : List ℕ) → Fits (left_wants site macros rule) tokens lengths → ⊥) → RunEnds (rule ∷ rules) times tokens work macros
    match_ends is le (inl m) =
        let w = applies_ends rule.right.steps times (matched rule tokens m.0) work macros in
        taken_ends w.0 (record { cut = is; lengths = m.0; chosen = m.1; applied = w.1 }) w.2
    match_ends is le (inr none) = let w = more rules 0 tokens work macros le (omega arith) in (w.0, unmatched rule rules times tokens work macros w.0 is none w.1, w.2)

    first_ends : (b : Bool) → is_cut_left (late_of site macros) rule.left ≡ b → work ≤ 10000 → RunEnds (rule ∷ rules) times tokens work macros
    first_ends false is le = (Err faults.BadScan, unread rule rules times tokens work macros is, tt)
    first_ends true is le = match_ends is le (decides (left_wants site macros rule) tokens)

  runs_end : (fuel : ℕ) → EndsWithin fuel
  runs_end fuel [] times tokens work macros le room = (Ok (record { tokens = tokens; work = work; macros = macros }), no_rule times tokens work macros, (omega arith, le))
  runs_end zero (rule ∷ rules) times tokens work macros le room = absurd (omega arith)
  runs_end (suc fuel) (rule ∷ rules) times tokens work macros le room = first_ends rule rules times tokens work macros fuel (runs_end fuel) room (is_cut_left (late_of site macros) rule.left) refl le

  pub named_ends : (name : Option (List ℕ)) (tokens : List Token) (work : ℕ) (macros : Macros) → work ≤ 10000 → (rules : Option (List Rule)) → rules_called site name ≡ rules → EndsSo work (SetRuns site called name tokens work macros)
  named_ends name tokens work macros le None is = (Err (faults.NoRuleset (written name)), unknown name tokens work macros is, tt)
  named_ends name tokens work macros le (Some rules) is =
      let same : (10000 - work) + length rules ≤ (10000 - work) + length rules = omega arith in
      let w = runs_end ((10000 - work) + length rules) rules 0 tokens work macros le same in (w.0, known name tokens work macros rules w.0 is w.1, w.2)

pub at_ends : Decides → (site : Site) (left : ℕ) → CallsEnd (RunsAt site left)
unfolding RunsAt
at_ends decides site zero name tokens work macros le = (Err faults.Deep, refl, tt)
at_ends decides site (suc left) name tokens work macros le = named_ends decides site (RunsAt site left) (at_ends decides site left) name tokens work macros le (rules_called site name) refl

-- any set's run ends, with whatever number of calls left
pub set_ends : Decides → (site : Site) (left : ℕ) → CallsEnd (SetRuns site (RunsAt site left))
set_ends decides site left name tokens work macros le = named_ends decides site (RunsAt site left) (at_ends decides site left) name tokens work macros le (rules_called site name) refl
