-- The cases of a run, as the code comes to them.
use Rattle.std.proofs.Common.{◌≡◌, ◌≢◌, ℕ, zero, suc, ◌+◌, ◌-◌, ◌<◌, ◌≤◌, List, [], ◌∷◌, ◌++◌, length, map, Option, Result, Ok, Err, true, false, cond, refl, sym, ◌∙◌, ap, subst, arith}
use Rattle.std.proofs.lemmas.Bool.{lt-ltb, le-ltb}
use Rattle.std.proofs.lemmas.List.{append_assoc}
use Rattle.mail_base.specs.declared.token.Token.{Token}
use Rattle.mail_base.specs.declared.rule.Rule.{Rule}
use Rattle.mail_base.specs.declared.rule.Go.TheVariants.{Again, Return, Next}
use Rattle.rule_match.specs.Choices.{Fits, Chosen}
use Rattle.ruleset_run.specs.declared.fault.RunFault.{RunFault}
use Rattle.ruleset_run.specs.declared.fault.RunFault.TheVariants as faults
use Rattle.ruleset_run.specs.declared.runner.Ran.{Ran}
use Rattle.ruleset_run.specs.Sites.{Site, Macros}
use Rattle.ruleset_run.specs.Cutting.{is_cut_left}
use Rattle.ruleset_run.specs.Filling.{Part, OneToken, OneCall, Full, is_cut_right, tokens_in, is_resolved}
use Rattle.ruleset_run.specs.Runs.{Done, Outcome, Called, name_of, rest_of, bounded, Replaced, no_part, token, call_after, call, late_of, full_of, Applies, loops, works, unscanned, unfilled, long, replaced, left_wants, matched, Takes, Runs, unread, unmatched, refused, resolves, returns, goes_next, goes_again, SetRuns, RunsAt, GivesFault, Ends, Gives}
use Rattle.ruleset_run.specs.inner.Filler.{FillsFault}
use Rattle.ruleset_run.specs.inner.Looks.{LeftFault, LimitFault}

-- ---- what holds of each outcome holds of what was returned

pub fault_weaker : (e : RunFault) (P Q : Outcome → Type 0) → ((f : RunFault) → P (Err f) → Q (Err f)) → GivesFault e P → GivesFault e Q
fault_weaker faults.NoMemory P Q f h = tt
fault_weaker e P Q f h = f e h

-- what a run ends with may be said more weakly
pub ends_weaker : (macros : Macros) (r : Result Ran RunFault) (P Q : Outcome → Type 0) → ((o : Outcome) → P o → Q o) → Ends macros r P → Ends macros r Q
ends_weaker macros (Ok ran) P Q f h = f _ h
ends_weaker macros (Err e) P Q f h = fault_weaker e P Q (λ g. f (Err g)) h

-- what a run ends with is what it gives, with some macros
pub gives_some : (macros : Macros) (r : Result Ran RunFault) (P Q : Outcome → Type 0) → ((o : Outcome) → P o → Q o) → Ends macros r P → Gives r Q
gives_some macros (Ok ran) P Q f h = (macros, f _ h)
gives_some macros (Err e) P Q f h = fault_weaker e P Q (λ g. f (Err g)) h

-- ---- the calls that are left

-- where no call is left, a set's run is refused as too deep
pub deep_at : (site : Site) (left : ℕ) (name : Option (List ℕ)) (tokens : List Token) (work : ℕ) (macros : Macros) → left ≡ 0 → RunsAt site left name tokens work macros (Err faults.Deep)
unfolding RunsAt
deep_at site zero name tokens work macros e = refl
deep_at site (suc left) name tokens work macros e = absurd (omega arith)

-- where a call is left, a set's run is one whose calls have one less
pub set_at : (site : Site) (left : ℕ) (name : Option (List ℕ)) (tokens : List Token) (work : ℕ) (macros : Macros) (o : Outcome) → left ≢ 0 → SetRuns site (RunsAt site (left - 1)) name tokens work macros o → RunsAt site left name tokens work macros o
unfolding RunsAt
set_at site zero name tokens work macros o ne h = absurd (ne refl)
set_at site (suc left) name tokens work macros o ne h = let e : suc left - 1 ≡ left = omega arith in subst (λ n. SetRuns site (RunsAt site n) name tokens work macros o) e h

-- ---- an application

module _ (site : Site) (called : Called) (rule : Rule) (tokens : List Token) (work : ℕ) (macros : Macros) (is_cut : is_cut_left (late_of site macros) rule.left ≡ true) (lengths : List ℕ) (chosen : Chosen (left_wants site macros rule) tokens lengths) where
  takes : (times : ℕ) (o : Outcome) → Applies site called rule.right.steps times (matched rule tokens lengths) work macros o → Takes site called rule times tokens work macros o
  takes times o a = record { cut = is_cut; lengths = lengths; chosen = chosen; applied = a }

  pub limit_reached : (times : ℕ) (e : RunFault) → LimitFault times work e → GivesFault e (Takes site called rule times tokens work macros)
  limit_reached times faults.Loop h = takes times _ (loops _ _ _ _ _ h)
  limit_reached times faults.Work h = takes times _ (works _ _ _ _ _ h.0 h.1)
  limit_reached times faults.NoMemory h = tt
  limit_reached times _ h = absurd h

  module _ (times : ℕ) (lt : times < 100) (few : work < 10000) where
    pub takes_unscanned : is_cut_right (late_of site macros) rule.right.steps ≡ false → Takes site called rule times tokens work macros (Err faults.BadScan)
    takes_unscanned scan = takes times _ (unscanned _ _ _ _ _ lt few scan)

    module _ (scan : is_cut_right (late_of site macros) rule.right.steps ≡ true) where
      pub takes_unfilled : (e : RunFault) → FillsFault e (full_of site macros (matched rule tokens lengths) rule.right.steps) → GivesFault e (Takes site called rule times tokens work macros)
      takes_unfilled faults.NoMemory h = tt
      takes_unfilled e h = takes times (Err e) (unfilled _ _ _ _ _ e lt few scan h)

      module _ (full : Full) (is : full_of site macros (matched rule tokens lengths) rule.right.steps ≡ Ok full) where
        pub takes_long : 2000 < tokens_in full.parts → Takes site called rule times tokens work macros (Err faults.Long)
        takes_long over = takes times _ (long _ _ _ _ _ full lt few scan is over)

        pub takes_replaced : tokens_in full.parts ≤ 2000 → (now : Macros) (r : Result Ran RunFault) → Ends now r (Replaced called 0 full.parts (work + 1) full.macros) → Ends now r (Takes site called rule times tokens work macros)
        takes_replaced fits now r h = ends_weaker now r (Replaced called 0 full.parts (work + 1) full.macros) (Takes site called rule times tokens work macros) (λ o a. takes times o (replaced _ _ _ _ _ full o lt few scan is fits a)) h

-- ---- the calls of a right side

-- joined parts hold the tokens of both
pub tokens_append : (a b : List Part) → tokens_in (a ++ b) ≡ tokens_in a + tokens_in b
tokens_append [] b = omega arith
tokens_append (OneToken t ∷ a) b = let e = tokens_append a b in omega arith
tokens_append (OneCall ∷ a) b = tokens_append a b

-- tokens without a call stay as they are
pub replaced_plain : (called : Called) (macros : Macros) (work : ℕ) (tokens : List Token) (before : ℕ) → Replaced called before (map OneToken tokens) work macros (Ok (record { tokens = tokens; work = work; macros = macros }))
replaced_plain called macros work [] before = no_part before work macros
replaced_plain called macros work (t ∷ tokens) before = token t before (map OneToken tokens) work macros (Ok (record { tokens = tokens; work = work; macros = macros })) (replaced_plain called macros work tokens (before + 1))

module _ (called : Called) (work : ℕ) (macros : Macros) (fault : RunFault) where
  -- a fault of the parts behind is one of all
  pub fault_whole : (front behind : List Part) (before all : ℕ) → all ≡ before + tokens_in front → Replaced called all behind work macros (Err fault) → Replaced called before (front ++ behind) work macros (Err fault)
  fault_whole [] behind before all e h = let same : all ≡ before = omega arith in subst (λ n. Replaced called n behind work macros (Err fault)) same h
  fault_whole (OneToken t ∷ front) behind before all e h = token t before (front ++ behind) work macros (Err fault) (fault_whole front behind (before + 1) all (omega arith) h)
  fault_whole (OneCall ∷ front) behind before all e h = call_after before (front ++ behind) work macros fault (fault_whole front behind before all e h)

-- tokens before parts that are done stand before what these give
pub tokens_done : (called : Called) (parts : List Part) (work : ℕ) (macros : Macros) (now : Done) (tokens : List Token) (before all : ℕ) → all ≡ before + length tokens → Replaced called all parts work macros (Ok now) → Replaced called before (map OneToken tokens ++ parts) work macros (Ok (record now { tokens = tokens ++ now.tokens }))
tokens_done called parts work macros now [] before all e h = let same : all ≡ before = omega arith in subst (λ n. Replaced called n parts work macros (Ok now)) same h
tokens_done called parts work macros now (t ∷ tokens) before all e h = token t before (map OneToken tokens ++ parts) work macros (Ok (record now { tokens = tokens ++ now.tokens })) (tokens_done called parts work macros now tokens (before + 1) all (omega arith) h)

module _ (called : Called) (parts before front done : List Part) (whole : parts ≡ before ++ done) (last : before ≡ front ++ OneCall ∷ []) (work : ℕ) (macros : Macros) (now : Done) (run : Replaced called (tokens_in before) done work macros (Ok now)) where
  pub parts_are : parts ≡ front ++ (OneCall ∷ done)
  parts_are = whole ∙ ap (λ ps. ps ++ done) last ∙ append_assoc front (OneCall ∷ []) done

  pub call_size : tokens_in before ≡ tokens_in front
  call_size = ap tokens_in last ∙ tokens_append front (OneCall ∷ []) ∙ zero_more (tokens_in front)
    where
      zero_more : (n : ℕ) → n + 0 ≡ n
      zero_more n = omega arith

  call_done : (o : Outcome) → called (name_of now.tokens) (rest_of now.tokens) now.work now.macros o → Replaced called (tokens_in front) (OneCall ∷ done) work macros (bounded (tokens_in front) o)
  call_done o h = call (tokens_in front) done work macros now o (subst (λ n. Replaced called n done work macros (Ok now)) call_size run) h

  fault_at : (fault : RunFault) → Replaced called (tokens_in front) (OneCall ∷ done) work macros (Err fault) → Replaced called 0 parts work macros (Err fault)
  fault_at fault h = subst (λ ps. Replaced called 0 ps work macros (Err fault)) (sym parts_are) (fault_whole called work macros fault front (OneCall ∷ done) 0 (tokens_in front) (omega arith) h)

  pub call_fails : (e : RunFault) → GivesFault e (called (name_of now.tokens) (rest_of now.tokens) now.work now.macros) → GivesFault e (Replaced called 0 parts work macros)
  call_fails e h = fault_weaker e (called (name_of now.tokens) (rest_of now.tokens) now.work now.macros) (Replaced called 0 parts work macros) (λ f c. fault_at f (call_done (Err f) c)) h

  module _ (got : Done) (c : called (name_of now.tokens) (rest_of now.tokens) now.work now.macros (Ok got)) where
    pub call_long : 2000 < tokens_in front + length got.tokens → Replaced called 0 parts work macros (Err faults.Long)
    call_long over = fault_at faults.Long (subst (λ b. Replaced called (tokens_in front) (OneCall ∷ done) work macros (cond b (Err faults.Long) (Ok got))) (lt-ltb 2000 (tokens_in front + length got.tokens) over) (call_done (Ok got) c))

    pub call_gave : tokens_in front + length got.tokens ≤ 2000 → Replaced called (tokens_in front) (OneCall ∷ done) work macros (Ok got)
    call_gave fits = subst (λ b. Replaced called (tokens_in front) (OneCall ∷ done) work macros (cond b (Err faults.Long) (Ok got))) (le-ltb 2000 (tokens_in front + length got.tokens) fits) (call_done (Ok got) c)

-- ---- a loop over the rules: whatever completes the rest completes the whole

module _ (site : Site) (called : Called) (rules : List Rule) (rule : Rule) (after : List Rule) (is : rules ≡ rule ∷ after) (times : ℕ) (tokens : List Token) (work : ℕ) (macros : Macros) where
  back : (o : Outcome) → Runs site called (rule ∷ after) times tokens work macros o → Runs site called rules times tokens work macros o
  back o run = subst (λ rs. Runs site called rs times tokens work macros o) (sym is) run

  pub step_unread : (whole : Outcome → Type 0) → ((o : Outcome) → Runs site called rules times tokens work macros o → whole o) → (e : RunFault) → LeftFault (is_cut_left (late_of site macros) rule.left) e → GivesFault e whole
  step_unread whole completes faults.NoMemory h = tt
  step_unread whole completes faults.BadScan h = completes _ (back _ (unread rule after times tokens work macros h))
  step_unread whole completes _ h = absurd h

  pub step_unmatched : is_cut_left (late_of site macros) rule.left ≡ true → ((lengths : List ℕ) → Fits (left_wants site macros rule) tokens lengths → ⊥) → (o : Outcome) → Runs site called after 0 tokens work macros o → Runs site called rules times tokens work macros o
  step_unmatched is_cut none o run = back o (unmatched rule after times tokens work macros o is_cut none run)

  pub step_refused : (whole : Outcome → Type 0) → ((o : Outcome) → Runs site called rules times tokens work macros o → whole o) → (e : RunFault) → GivesFault e (Takes site called rule times tokens work macros) → GivesFault e whole
  step_refused whole completes e h = fault_weaker e (Takes site called rule times tokens work macros) whole (λ g t. completes (Err g) (back (Err g) (refused rule after times tokens work macros g t))) h

  module _ (done : Done) (t : Takes site called rule times tokens work macros (Ok done)) where
    pub step_resolved : is_resolved done.tokens ≡ true → Runs site called rules times tokens work macros (Ok done)
    step_resolved r = back (Ok done) (resolves rule after times tokens work macros done t r)

    pub step_returned : is_resolved done.tokens ≡ false → rule.right.go ≡ Return → Runs site called rules times tokens work macros (Ok done)
    step_returned r go = back (Ok done) (returns rule after times tokens work macros done t r go)

    pub step_next : is_resolved done.tokens ≡ false → rule.right.go ≡ Next → (o : Outcome) → Runs site called after 0 done.tokens done.work done.macros o → Runs site called rules times tokens work macros o
    step_next r go o run = back o (goes_next rule after times tokens work macros done o t r go run)

    pub step_again : is_resolved done.tokens ≡ false → rule.right.go ≡ Again → (o : Outcome) → Runs site called rules (times + 1) done.tokens done.work done.macros o → Runs site called rules times tokens work macros o
    step_again r go o run = back o (goes_again rule after times tokens work macros done o t r go (subst (λ rs. Runs site called rs (times + 1) done.tokens done.work done.macros o) is run))
