-- A run has one outcome.
use Rattle.std.proofs.Common.{◌≡◌, ℕ, zero, suc, ◌+◌, ◌⊎◌, inl, inr, List, ◌∷◌, Option, Ok, Err, Bool, true, false, refl, sym, ◌∙◌, ap, subst}
use Rattle.std.specs.Prelude.{nat_lt}
use Rattle.std.proofs.lemmas.Bool.{lt-ltb, le-ltb}
use Rattle.mail_base.specs.declared.token.Token.{Token}
use Rattle.mail_base.specs.declared.rule.Rule.{Rule}
use Rattle.mail_base.specs.declared.rule.Step.{Step}
use Rattle.mail_base.specs.declared.rule.Go.{Go}
use Rattle.mail_base.specs.declared.rule.Go.TheVariants.{Again, Return, Next}
use Rattle.rule_match.specs.Choices.{Fits}
use Rattle.rule_match.proofs.Choosing.{choice_once}
use Rattle.ruleset_run.specs.declared.fault.RunFault.TheVariants as faults
use Rattle.ruleset_run.specs.Sites.{Site, Macros}
use Rattle.ruleset_run.specs.Cutting.{is_cut_left}
use Rattle.ruleset_run.specs.Filling.{Part, Matched, Full, Filling, is_cut_right, tokens_in, is_resolved}
use Rattle.ruleset_run.specs.Runs.{Done, Outcome, Called, name_of, rest_of, with_token, bounded, Replaced, no_part, token, call_after, call, late_of, full_of, Applies, loops, works, unscanned, unfilled, long, replaced, left_wants, matched, Takes, Runs, no_rule, unread, unmatched, refused, resolves, returns, goes_next, goes_again, SetRuns, known, unknown, RunsAt}

-- a call has one outcome
abbrev pub Once : Called → Type 0
Once called = (name : Option (List ℕ)) (tokens : List Token) (work : ℕ) (macros : Macros) (a b : Outcome) → called name tokens work macros a → called name tokens work macros b → a ≡ b

-- ---- an application, by its tests: what its outcome is in each case

abbrev CountedTo : Called → ℕ → Bool → Full → Outcome → Type 0
CountedTo called work true full o = o ≡ Err faults.Long
CountedTo called work false full o = Replaced called 0 full.parts (work + 1) full.macros o

abbrev FilledTo : Called → ℕ → Filling → Outcome → Type 0
FilledTo called work (Err fault) o = o ≡ Err fault
FilledTo called work (Ok full) o = CountedTo called work (nat_lt 2000 (tokens_in full.parts)) full o

abbrev AppliesTo : Called → ℕ → Filling → Bool → Bool → Bool → Outcome → Type 0
AppliesTo called work f false few is_cut o = o ≡ Err faults.Loop
AppliesTo called work f true false is_cut o = o ≡ Err faults.Work
AppliesTo called work f true true false o = o ≡ Err faults.BadScan
AppliesTo called work f true true true o = FilledTo called work f o

-- the tests may be put in
put_in : (site : Site) (called : Called) (steps : List Step) (times : ℕ) (found : Matched) (work : ℕ) (macros : Macros) (o : Outcome) (x y z : Bool) → nat_lt times 100 ≡ x → nat_lt work 10000 ≡ y → is_cut_right (late_of site macros) steps ≡ z → AppliesTo called work (full_of site macros found steps) x y z o
    → AppliesTo called work (full_of site macros found steps) (nat_lt times 100) (nat_lt work 10000) (is_cut_right (late_of site macros) steps) o
put_in site called steps times found work macros o x y z p q r h =
    let f = full_of site macros found steps in
    let b = nat_lt work 10000 in
    let c = is_cut_right (late_of site macros) steps in
    subst (λ v. AppliesTo called work f v b c o) (sym p) (subst (λ v. AppliesTo called work f x v c o) (sym q) (subst (λ v. AppliesTo called work f x y v o) (sym r) h))

counted : (called : Called) (work : ℕ) (full : Full) (o : Outcome) (b : Bool) → nat_lt 2000 (tokens_in full.parts) ≡ b → CountedTo called work b full o → CountedTo called work (nat_lt 2000 (tokens_in full.parts)) full o
counted called work full o b e h = subst (λ v. CountedTo called work v full o) (sym e) h

filled_to : (called : Called) (work : ℕ) (f g : Filling) (o : Outcome) → f ≡ g → FilledTo called work g o → FilledTo called work f o
filled_to called work f g o e h = subst (λ v. FilledTo called work v o) (sym e) h

by_tests : {site : Site} {called : Called} {steps : List Step} {times : ℕ} {found : Matched} {work : ℕ} {macros : Macros} {o : Outcome} → Applies site called steps times found work macros o
    → AppliesTo called work (full_of site macros found steps) (nat_lt times 100) (nat_lt work 10000) (is_cut_right (late_of site macros) steps) o
by_tests {site} {called} (loops steps times found work macros e) = put_in site called steps times found work macros _ false (nat_lt work 10000) (is_cut_right (late_of site macros) steps) (le-ltb times 100 e) refl refl refl
by_tests {site} {called} (works steps times found work macros e f) = put_in site called steps times found work macros _ true false (is_cut_right (late_of site macros) steps) (lt-ltb times 100 e) (le-ltb work 10000 f) refl refl
by_tests {site} {called} (unscanned steps times found work macros e f g) = put_in site called steps times found work macros _ true true false (lt-ltb times 100 e) (lt-ltb work 10000 f) g refl
by_tests {site} {called} (unfilled steps times found work macros fault e f g h) =
    put_in site called steps times found work macros _ true true true (lt-ltb times 100 e) (lt-ltb work 10000 f) g (filled_to called work (full_of site macros found steps) (Err fault) (Err fault) h refl)
by_tests {site} {called} (long steps times found work macros full e f g h l) =
    put_in site called steps times found work macros _ true true true (lt-ltb times 100 e) (lt-ltb work 10000 f) g
    (filled_to called work (full_of site macros found steps) (Ok full) (Err faults.Long) h (counted called work full (Err faults.Long) true (lt-ltb 2000 (tokens_in full.parts) l) refl))
by_tests {site} {called} (replaced steps times found work macros full o e f g h l r) =
    put_in site called steps times found work macros o true true true (lt-ltb times 100 e) (lt-ltb work 10000 f) g
    (filled_to called work (full_of site macros found steps) (Ok full) o h (counted called work full o false (le-ltb 2000 (tokens_in full.parts) l) r))

-- ---- a run of at least one rule, by what becomes of the first

abbrev DoneTo : Site → Called → Rule → List Rule → ℕ → Done → Bool → Go → Outcome → Type 0
DoneTo site called rule rules times done true go o = o ≡ Ok done
DoneTo site called rule rules times done false Return o = o ≡ Ok done
DoneTo site called rule rules times done false Next o = Runs site called rules 0 done.tokens done.work done.macros o
DoneTo site called rule rules times done false Again o = Runs site called (rule ∷ rules) (times + 1) done.tokens done.work done.macros o

abbrev AppliedTo : Site → Called → Rule → List Rule → ℕ → Outcome → Outcome → Type 0
AppliedTo site called rule rules times (Err fault) o = o ≡ Err fault
AppliedTo site called rule rules times (Ok done) o = DoneTo site called rule rules times done (is_resolved done.tokens) rule.right.go o

abbrev Missed : Site → Called → Rule → List Rule → List Token → ℕ → Macros → Outcome → Type 0
Missed site called rule rules tokens work macros o = ((lengths : List ℕ) → Fits (left_wants site macros rule) tokens lengths → ⊥) × Runs site called rules 0 tokens work macros o

abbrev Taken : Site → Called → Rule → List Rule → ℕ → List Token → ℕ → Macros → Outcome → Type 0
Taken site called rule rules times tokens work macros o = (a : Outcome) × Takes site called rule times tokens work macros a × AppliedTo site called rule rules times a o

abbrev RunsTo : Site → Called → Rule → List Rule → ℕ → List Token → ℕ → Macros → Bool → Outcome → Type 0
RunsTo site called rule rules times tokens work macros false o = o ≡ Err faults.BadScan
RunsTo site called rule rules times tokens work macros true o = Missed site called rule rules tokens work macros o ⊎ Taken site called rule rules times tokens work macros o

module _ (site : Site) (called : Called) where
  done_in : (rule : Rule) (rules : List Rule) (times : ℕ) (done : Done) (o : Outcome) (b : Bool) (go : Go) → is_resolved done.tokens ≡ b → rule.right.go ≡ go → DoneTo site called rule rules times done b go o → DoneTo site called rule rules times done (is_resolved done.tokens) rule.right.go o
  done_in rule rules times done o b go p q h = subst (λ v. DoneTo site called rule rules times done v rule.right.go o) (sym p) (subst (λ v. DoneTo site called rule rules times done b v o) (sym q) h)

  done_out : (rule : Rule) (rules : List Rule) (times : ℕ) (done : Done) (o : Outcome) (b : Bool) (go : Go) → is_resolved done.tokens ≡ b → rule.right.go ≡ go → DoneTo site called rule rules times done (is_resolved done.tokens) rule.right.go o → DoneTo site called rule rules times done b go o
  done_out rule rules times done o b go p q h = subst (λ v. DoneTo site called rule rules times done b v o) q (subst (λ v. DoneTo site called rule rules times done v rule.right.go o) p h)

  was_cut : (rule : Rule) (rules : List Rule) (times : ℕ) (tokens : List Token) (work : ℕ) (macros : Macros) (o : Outcome) → is_cut_left (late_of site macros) rule.left ≡ true → RunsTo site called rule rules times tokens work macros true o → RunsTo site called rule rules times tokens work macros (is_cut_left (late_of site macros) rule.left) o
  was_cut rule rules times tokens work macros o e h = subst (λ b. RunsTo site called rule rules times tokens work macros b o) (sym e) h

  by_first : {rule : Rule} {rules : List Rule} {times : ℕ} {tokens : List Token} {work : ℕ} {macros : Macros} {o : Outcome} → Runs site called (rule ∷ rules) times tokens work macros o → RunsTo site called rule rules times tokens work macros (is_cut_left (late_of site macros) rule.left) o
  by_first (unread rule rules times tokens work macros is) = subst (λ b. RunsTo site called rule rules times tokens work macros b (Err faults.BadScan)) (sym is) refl
  by_first (unmatched rule rules times tokens work macros o is none run) = was_cut rule rules times tokens work macros o is (inl (none, run))
  by_first (refused rule rules times tokens work macros fault t) = was_cut rule rules times tokens work macros (Err fault) t.cut (inr (Err fault, t, refl))
  by_first (resolves rule rules times tokens work macros done t r) = was_cut rule rules times tokens work macros (Ok done) t.cut (inr (Ok done, t, done_in rule rules times done (Ok done) true rule.right.go r refl refl))
  by_first (returns rule rules times tokens work macros done t r go) = was_cut rule rules times tokens work macros (Ok done) t.cut (inr (Ok done, t, done_in rule rules times done (Ok done) false Return r go refl))
  by_first (goes_next rule rules times tokens work macros done o t r go run) = was_cut rule rules times tokens work macros o t.cut (inr (Ok done, t, done_in rule rules times done o false Next r go run))
  by_first (goes_again rule rules times tokens work macros done o t r go run) = was_cut rule rules times tokens work macros o t.cut (inr (Ok done, t, done_in rule rules times done o false Again r go run))

-- ---- uniqueness

module _ (site : Site) (called : Called) (once : Once called) where
  one_replaced : {before : ℕ} {parts : List Part} {work : ℕ} {macros : Macros} {a b : Outcome} → Replaced called before parts work macros a → Replaced called before parts work macros b → a ≡ b
  one_replaced (no_part before work macros) (no_part _ _ _) = refl
  one_replaced (token t before parts work macros o r) (token _ _ _ _ _ o' s) = ap (with_token t) (one_replaced r s)
  one_replaced (call_after before parts work macros fault r) (call_after _ _ _ _ fault' s) = one_replaced r s
  one_replaced (call_after before parts work macros fault r) (call _ _ _ _ done' o' s c') = let e = one_replaced r s in absurd (cc e)
  one_replaced (call before parts work macros done o r c) (call_after _ _ _ _ fault' s) = let e = one_replaced r s in absurd (cc e)
  one_replaced (call before parts work macros done o r c) (call _ _ _ _ done' o' s c') =
      let e = one_replaced r s in
      let same : done' ≡ done = cc in
      ap (bounded before) (once (name_of done.tokens) (rest_of done.tokens) done.work done.macros o o' c (subst (λ d. called (name_of d.tokens) (rest_of d.tokens) d.work d.macros o') same c'))

  one_counted : (work : ℕ) (b : Bool) (full : Full) (o p : Outcome) → CountedTo called work b full o → CountedTo called work b full p → o ≡ p
  one_counted work true full o p h k = h ∙ sym k
  one_counted work false full o p h k = one_replaced h k

  one_filled_to : (work : ℕ) (f : Filling) (o p : Outcome) → FilledTo called work f o → FilledTo called work f p → o ≡ p
  one_filled_to work (Err fault) o p h k = h ∙ sym k
  one_filled_to work (Ok full) o p h k = one_counted work (nat_lt 2000 (tokens_in full.parts)) full o p h k

  one_by_tests : (work : ℕ) (f : Filling) (x y z : Bool) (o p : Outcome) → AppliesTo called work f x y z o → AppliesTo called work f x y z p → o ≡ p
  one_by_tests work f false few is_cut o p h k = h ∙ sym k
  one_by_tests work f true false is_cut o p h k = h ∙ sym k
  one_by_tests work f true true false o p h k = h ∙ sym k
  one_by_tests work f true true true o p h k = one_filled_to work f o p h k

  one_application : {steps : List Step} {times : ℕ} {found : Matched} {work : ℕ} {macros : Macros} {o p : Outcome} → Applies site called steps times found work macros o → Applies site called steps times found work macros p → o ≡ p
  one_application {steps} {times} {found} {work} {macros} {o} {p} h k = one_by_tests work (full_of site macros found steps) (nat_lt times 100) (nat_lt work 10000) (is_cut_right (late_of site macros) steps) o p (by_tests h) (by_tests k)

  one_takes : (rule : Rule) (times : ℕ) (tokens : List Token) (work : ℕ) (macros : Macros) (a b : Outcome) → Takes site called rule times tokens work macros a → Takes site called rule times tokens work macros b → a ≡ b
  one_takes rule times tokens work macros a b s t =
      let e = choice_once (left_wants site macros rule) tokens t.lengths s.lengths t.chosen s.chosen in
      one_application s.applied (subst (λ n. Applies site called rule.right.steps times (matched rule tokens n) work macros b) e t.applied)

  -- another run of the same has the same application
  after : {rule : Rule} {rules : List Rule} {times : ℕ} {tokens : List Token} {work : ℕ} {macros : Macros} {a o : Outcome} → Takes site called rule times tokens work macros a → Runs site called (rule ∷ rules) times tokens work macros o → AppliedTo site called rule rules times a o
  after {rule} {rules} {times} {tokens} {work} {macros} {a} {o} t run = by (subst (λ b. RunsTo site called rule rules times tokens work macros b o) t.cut (by_first site called run))
    where
      by : Missed site called rule rules tokens work macros o ⊎ Taken site called rule rules times tokens work macros o → AppliedTo site called rule rules times a o
      by (inl w) = absurd (w.0 t.lengths t.chosen.fits)
      by (inr w) = subst (λ x. AppliedTo site called rule rules times x o) (one_takes rule times tokens work macros w.0 a w.1 t) w.2

  pub one_run : {rules : List Rule} {times : ℕ} {tokens : List Token} {work : ℕ} {macros : Macros} {a b : Outcome} → Runs site called rules times tokens work macros a → Runs site called rules times tokens work macros b → a ≡ b
  one_run (no_rule times tokens work macros) (no_rule _ _ _ _) = refl
  one_run {b = b} (unread rule rules times tokens work macros is) d = sym (subst (λ v. RunsTo site called rule rules times tokens work macros v b) is (by_first site called d))
  one_run {b = b} (unmatched rule rules times tokens work macros o is none run) d = elim (subst (λ v. RunsTo site called rule rules times tokens work macros v b) is (by_first site called d)) [
    | inl w ↦ one_run run w.1
    | inr w ↦ absurd (none w.1.lengths w.1.chosen.fits)
  ]
  one_run (refused rule rules times tokens work macros fault t) d = sym (after t d)
  one_run {b = b} (resolves rule rules times tokens work macros done t r) d = sym (done_out site called rule rules times done b true rule.right.go r refl (after t d))
  one_run {b = b} (returns rule rules times tokens work macros done t r go) d = sym (done_out site called rule rules times done b false Return r go (after t d))
  one_run {b = b} (goes_next rule rules times tokens work macros done o t r go run) d = one_run run (done_out site called rule rules times done b false Next r go (after t d))
  one_run {b = b} (goes_again rule rules times tokens work macros done o t r go run) d = one_run run (done_out site called rule rules times done b false Again r go (after t d))

  pub one_set_run : {name : Option (List ℕ)} {tokens : List Token} {work : ℕ} {macros : Macros} {a b : Outcome} → SetRuns site called name tokens work macros a → SetRuns site called name tokens work macros b → a ≡ b
  one_set_run {b = b} (known name tokens work macros rules o is run) (known _ _ _ _ rules' o' is' run') = let e : rules' ≡ rules = cc (is, is') in one_run run (subst (λ rs. Runs site called rs 0 tokens work macros b) e run')
  one_set_run (known name tokens work macros rules o is run) (unknown _ _ _ _ none) = absurd (cc (is, none))
  one_set_run (unknown name tokens work macros none) (known _ _ _ _ rules o is run) = absurd (cc (is, none))
  one_set_run (unknown name tokens work macros none) (unknown _ _ _ _ none') = refl

pub one_at : (site : Site) (left : ℕ) → Once (RunsAt site left)
unfolding RunsAt
one_at site zero name tokens work macros a b h k = h ∙ sym k
one_at site (suc left) name tokens work macros a b h k = one_set_run site (RunsAt site left) (one_at site left) h k

-- a set's run has one outcome
pub one_top : (site : Site) (name : Option (List ℕ)) (tokens : List Token) (work : ℕ) (macros : Macros) (left : ℕ) (a b : Outcome) → SetRuns site (RunsAt site left) name tokens work macros a → SetRuns site (RunsAt site left) name tokens work macros b → a ≡ b
one_top site name tokens work macros left a b h k = one_set_run site (RunsAt site left) (one_at site left) h k
