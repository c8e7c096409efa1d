-- What lists of sets print: step by step, one text alone, and some text.
use Rattle.std.proofs.Common.{◌≡◌, ℕ, ◌+◌, ◌<◌, List, [], ◌∷◌, ◌++◌, length, drop, get_or, None, Some, refl, sym, ap, ◌∙◌, subst, append-nil}
use Rattle.std.specs.Prelude.{Result, Ok, Err}
use Rattle.std.proofs.lemmas.List.{append_assoc, drop_more}
use Rattle.mail_base.specs.declared.config.Config.{Config}
use Rattle.mail_base.specs.declared.token.Token.{Token}
use Rattle.addr_tokens.specs.declared.fault.ScanFault.{ScanFault}
use Rattle.map_tables.specs.Answers.{Loaded}
use Rattle.ruleset_run.specs.declared.fault.RunFault.{RunFault}
use Rattle.ruleset_run.specs.Runs.{Done, Outcome, RunsSet}
use Rattle.ruleset_run.specs.Sites.{Macros, Site, site_of}
use Rattle.addr_test.specs.Answers.{RunsSets, no_set, returned, refused, RunsTyped, RunsUnder}
use Rattle.addr_test.specs.Texts.{bad_address_text, refused_text, returned_text}
use Rattle.addr_test.specs.inner.Telling.{Tells}

-- a run has one outcome
abbrev pub IsOneOutcome : Type 0
IsOneOutcome = (site : Site) (macros : Macros) (name : List ℕ) (tokens : List Token) (one another : Outcome)
    → RunsSet site macros name tokens one → RunsSet site macros name tokens another → one ≡ another

-- a run has an outcome
abbrev pub HasOutcome : Type 0
HasOutcome = (site : Site) (macros : Macros) (name : List ℕ) (tokens : List Token) → (outcome : Outcome) × RunsSet site macros name tokens outcome

module _ (maps : Loaded) (config : Config) where
  abbrev pub Completes : List (List ℕ) → List Token → List ℕ → List (List ℕ) → List Token → Type 0
  Completes names start text left tokens = (rest : List ℕ) → RunsSets maps config left tokens rest → RunsSets maps config names start (text ++ rest)

  -- a set more returned its tokens
  pub one_more : (names left : List (List ℕ)) (name : List ℕ) (start tokens given : List Token) (text new : List ℕ) → Completes names start text (name ∷ left) tokens → Tells maps config name tokens (Some given) text new → Completes names start new left given
  one_more names left name start tokens given text new all told rest runs =
      let more = returned name left tokens told.0 rest told.1 (subst (λ (ts : List Token). RunsSets maps config left ts rest) told.2 runs) in
      subst (RunsSets maps config names start) (sym (append_assoc text (returned_text name told.0.tokens) rest) ∙ ap (λ (t : List ℕ). t ++ rest) (sym told.3)) (all (returned_text name told.0.tokens ++ rest) more)

  -- a set was refused, which ends the line
  pub one_refused : (names left : List (List ℕ)) (name : List ℕ) (start tokens : List Token) (text new : List ℕ) → Completes names start text (name ∷ left) tokens → Tells maps config name tokens None text new → RunsSets maps config names start new
  one_refused names left name start tokens text new all told =
      subst (RunsSets maps config names start) (sym told.2) (all (refused_text name told.0) (refused name left tokens told.0 told.1))

  -- no set is left
  pub all_run : (names left : List (List ℕ)) (start tokens : List Token) (text : List ℕ) → Completes names start text left tokens → left ≡ [] → RunsSets maps config names start text
  all_run names left start tokens text all none =
      subst (RunsSets maps config names start) (append-nil text) (all [] (subst (λ (more : List (List ℕ)). RunsSets maps config more tokens []) (sym none) (no_set tokens)))

-- the names that are left, of which there is one at least
pub ahead_at : (names : List (List ℕ)) (i : ℕ) (name : List ℕ) → i < length names → name ≡ get_or names i name → drop i names ≡ name ∷ drop (i + 1) names
ahead_at names i name below is = drop_more names i name below ∙ ap (λ (x : List ℕ). x ∷ drop (i + 1) names) (sym is)

-- ---- one text alone

module _ (unique : IsOneOutcome) (maps : Loaded) (config : Config) where
  apart : (done : Done) (fault : RunFault) → Ok done ≡ Err fault → ⊥
  apart done fault e = cc e

  same_done : (done other : Done) (one another : Outcome) → one ≡ Ok done → another ≡ Ok other → one ≡ another → done ≡ other
  same_done done other one another a b e = cc

  same_fault : (fault other : RunFault) (one another : Outcome) → one ≡ Err fault → another ≡ Err other → one ≡ another → fault ≡ other
  same_fault fault other one another a b e = cc

  once : (name : List ℕ) (tokens : List Token) (one another : Outcome) → RunsUnder maps config name tokens one → RunsUnder maps config name tokens another → one ≡ another
  once name tokens one another a b = unique (site_of config maps) config.macros name tokens one another a b

  pub one_of_sets : (names : List (List ℕ)) (tokens : List Token) (one another : List ℕ) → RunsSets maps config names tokens one → RunsSets maps config names tokens another → one ≡ another
  one_of_sets _ _ _ _ (no_set tokens) (no_set _) = refl
  one_of_sets _ _ _ _ (returned name names tokens done rest run more) (returned _ _ _ other left turn others) =
      let same : done ≡ other = same_done done other (Ok done) (Ok other) refl refl (once name tokens (Ok done) (Ok other) run turn) in
      let tail : rest ≡ left = one_of_sets names done.tokens rest left more (subst (λ (d : Done). RunsSets maps config names d.tokens left) (sym same) others) in
      λ i. returned_text name (same i).tokens ++ tail i
  one_of_sets _ _ _ _ (returned name names tokens done rest run more) (refused _ _ _ fault turn) = absurd (apart done fault (once name tokens (Ok done) (Err fault) run turn))
  one_of_sets _ _ _ _ (refused name names tokens fault run) (returned _ _ _ done rest turn more) = absurd (apart done fault (once name tokens (Ok done) (Err fault) turn run))
  one_of_sets _ _ _ _ (refused name names tokens fault run) (refused _ _ _ other turn) = ap (refused_text name) (same_fault fault other (Err fault) (Err other) refl refl (once name tokens (Err fault) (Err other) run turn))

  pub one_of_typed : (names : List (List ℕ)) (scanned : Result (List Token) ScanFault) (one another : List ℕ) → RunsTyped maps config names scanned one → RunsTyped maps config names scanned another → one ≡ another
  one_of_typed names (Ok tokens) one another a b = one_of_sets names tokens one another a b
  one_of_typed names (Err fault) one another a b = a ∙ sym b

-- ---- some text

module _ (ends : HasOutcome) (maps : Loaded) (config : Config) where
  some_on : (name : List ℕ) (names : List (List ℕ)) (tokens : List Token) → ((given : List Token) → (text : List ℕ) × RunsSets maps config names given text) → (outcome : Outcome) → RunsUnder maps config name tokens outcome
      → (text : List ℕ) × RunsSets maps config (name ∷ names) tokens text
  some_on name names tokens rec (Ok done) run = let rest = rec done.tokens in (returned_text name done.tokens ++ rest.0, returned name names tokens done rest.0 run rest.1)
  some_on name names tokens rec (Err fault) run = (refused_text name fault, refused name names tokens fault run)

  some_of_sets : (names : List (List ℕ)) (tokens : List Token) → (text : List ℕ) × RunsSets maps config names tokens text
  some_of_sets [] tokens = ([], no_set tokens)
  some_of_sets (name ∷ names) tokens = let run = ends (site_of config maps) config.macros name tokens in some_on name names tokens (some_of_sets names) run.0 run.1

  pub some_of_typed : (names : List (List ℕ)) (scanned : Result (List Token) ScanFault) → (text : List ℕ) × RunsTyped maps config names scanned text
  some_of_typed names (Ok tokens) = some_of_sets names tokens
  some_of_typed names (Err fault) = (bad_address_text fault, refl)
