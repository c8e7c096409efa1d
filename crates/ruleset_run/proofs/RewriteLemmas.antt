-- Tokens that go through rulesets give one answer, and an address is rewritten in one way.
use Rattle.std.proofs.Common.{◌≡◌, ℕ, List, [], ◌∷◌, Result, Ok, Err, refl, sym, ◌∙◌, ap, subst}
use Rattle.std.specs.Prelude.{IfOk}
use Rattle.mail_base.specs.declared.route.Cause.{Cause}
use Rattle.mail_base.specs.declared.token.Token.{Token}
use Rattle.ruleset_run.specs.declared.rewritten.Rewritten.{Rewritten}
use Rattle.ruleset_run.specs.Runs.{Done, Outcome, RunsSet}
use Rattle.ruleset_run.specs.Sites.{Site, Macros}
use Rattle.ruleset_run.specs.Sets.{Through, no_set, set_fails, goes_on, Passes, no_tokens, passes, Rewrites, rewrites, rewritten, cut, run_cause}

-- a run has one outcome
abbrev pub OneOutcome : Type 0
OneOutcome = (site : Site) (macros : Macros) (name : List ℕ) (tokens : List Token) (one another : Outcome) → RunsSet site macros name tokens one → RunsSet site macros name tokens another → one ≡ another

module _ (law : OneOutcome) where
  -- ---- rulesets in order

  module _ (site : Site) (macros : Macros) where
    pub one_through : {sets : List (List ℕ)} {tokens : List Token} {a b : Result (List Token) Cause} → Through site macros sets tokens a → Through site macros sets tokens b → a ≡ b
    one_through (no_set tokens) (no_set _) = refl
    one_through (set_fails set sets tokens fault r) (set_fails _ _ _ fault' r') =
        let e = law site macros set tokens (Err fault) (Err fault') r r' in
        let same : fault ≡ fault' = cc in
        ap (λ f. Err (run_cause f)) same
    one_through (set_fails set sets tokens fault r) (goes_on _ _ _ done b r' t') = let e = law site macros set tokens (Err fault) (Ok done) r r' in absurd (cc e)
    one_through (goes_on set sets tokens done a r t) (set_fails _ _ _ fault r') = let e = law site macros set tokens (Ok done) (Err fault) r r' in absurd (cc e)
    one_through (goes_on set sets tokens done a r t) (goes_on _ _ _ done' b r' t') =
        let e = law site macros set tokens (Ok done) (Ok done') r r' in
        let same : done' ≡ done = cc in
        one_through t (subst (λ (d : Done). Through site macros sets d.tokens b) same t')

    pub one_passes : {sets : List (List ℕ)} {address : List ℕ} {a b : Result (List Token) Cause} → Passes site macros sets address a → Passes site macros sets address b → a ≡ b
    one_passes (no_tokens why e) (no_tokens why' f) = sym e ∙ f
    one_passes (no_tokens why e) (passes tokens b f t) = absurd (cc (e, f))
    one_passes (passes tokens a e t) (no_tokens why f) = absurd (cc (e, f))
    one_passes {sets} (passes tokens a e t) (passes tokens' b f t') =
        let same : tokens' ≡ tokens = cc (e, f) in
        one_through t (subst (λ ts. Through site macros sets ts b) same t')

    pub one_rewrites : {sets : List (List ℕ)} {address : List ℕ} {a b : Rewritten} → Rewrites site macros sets address a → Rewrites site macros sets address b → a ≡ b
    one_rewrites (rewrites answer p) (rewrites answer' p') = ap rewritten (one_passes p p')

-- a run has an outcome
abbrev pub SomeOutcome : Type 0
SomeOutcome = (site : Site) (macros : Macros) (name : List ℕ) (tokens : List Token) → (outcome : Outcome) × RunsSet site macros name tokens outcome

module _ (law : SomeOutcome) where
  module _ (site : Site) (macros : Macros) where
    abbrev Comes : List (List ℕ) → List Token → Type 0
    Comes sets tokens = (answer : Result (List Token) Cause) × Through site macros sets tokens answer

    some_first : (set : List ℕ) (sets : List (List ℕ)) (tokens : List Token) → ((more : List Token) → Comes sets more) → (outcome : Outcome) → RunsSet site macros set tokens outcome → Comes (set ∷ sets) tokens
    some_first set sets tokens go (Err fault) run = (Err (run_cause fault), set_fails set sets tokens fault run)
    some_first set sets tokens go (Ok done) run = let w = go done.tokens in (w.0, goes_on set sets tokens done w.0 run w.1)

    pub some_through : (sets : List (List ℕ)) (tokens : List Token) → Comes sets tokens
    some_through [] tokens = (Ok tokens, no_set tokens)
    some_through (set ∷ sets) tokens = let w = law site macros set tokens in some_first set sets tokens (λ more. some_through sets more) w.0 w.1

    some_cut : (sets : List (List ℕ)) (address : List ℕ) (r : Result (List Token) Cause) → cut site.operators address ≡ r → (answer : Result (List Token) Cause) × Passes site macros sets address answer
    some_cut sets address (Err why) e = (Err why, no_tokens why e)
    some_cut sets address (Ok tokens) e = let w = some_through sets tokens in (w.0, passes tokens w.0 e w.1)

    pub some_passes : (sets : List (List ℕ)) (address : List ℕ) → (answer : Result (List Token) Cause) × Passes site macros sets address answer
    some_passes sets address = some_cut sets address (cut site.operators address) refl

    pub some_rewrites : (sets : List (List ℕ)) (address : List ℕ) → (r : Rewritten) × Rewrites site macros sets address r
    some_rewrites sets address = let w = some_passes sets address in (rewritten w.0, rewrites w.0 w.1)

-- what is said of a result's value may be said more weakly
pub if_ok : {A E : Type 0} (P Q : A → Type 0) → ((x : A) → P x → Q x) → (r : Result A E) → IfOk r P → IfOk r Q
if_ok P Q go (Ok x) h = go x h
if_ok P Q go (Err e) h = tt
