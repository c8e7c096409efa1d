-- Runs in order, as the code makes them.
use Rattle.std.proofs.Common.{◌≡◌, ℕ, ◌+◌, ◌<◌, ◌≤◌, List, [], ◌∷◌, true, Result, Ok, Err, drop, length, get_or, sym, ◌∙◌, ap, subst}
use Rattle.std.proofs.lemmas.List.{drop_all, drop_more}
use Rattle.mail_base.specs.declared.route.Cause.{Cause}
use Rattle.mail_base.specs.declared.token.Token.{Token}
use Rattle.addr_tokens.specs.declared.fault.ScanFault.{ScanFault}
use Rattle.addr_tokens.specs.declared.fault.ScanFault.TheVariants as scans
use Rattle.addr_tokens.specs.Pieces.{plain}
use Rattle.addr_tokens.specs.Scans.{HasFault, ExplainsFault}
use Rattle.addr_tokens.specs.Reader.{outcome_of, tokens_among, tokens_or_fault}
use Rattle.ruleset_run.specs.declared.fault.RunFault.{RunFault}
use Rattle.ruleset_run.specs.declared.fault.RunFault.TheVariants as faults
use Rattle.ruleset_run.specs.declared.runner.Ran.{Ran}
use Rattle.ruleset_run.specs.Runs.{RunsSet, Gives, GivesFault}
use Rattle.ruleset_run.specs.Sites.{Site, Macros}
use Rattle.ruleset_run.specs.declared.refusal.Refusal.{Refusal}
use Rattle.ruleset_run.specs.declared.refusal.Refusal.TheVariants as refusals
use Rattle.ruleset_run.specs.Sets.{Through, no_set, set_fails, goes_on, Passes, no_tokens, cut, scanned, scan_cause}
use Rattle.ruleset_run.specs.Refusals.{Meets, MeetsFault, of_run, of_scan}

-- ---- one run

module _ (site : Site) (macros : Macros) (set : List ℕ) (tokens : List Token) where
  pub run_gives : (ran : Ran) → Gives (Ok ran) (RunsSet site macros set tokens) → Through site macros (set ∷ []) tokens (Ok ran.tokens)
  run_gives ran g = goes_on set [] tokens _ (Ok ran.tokens) g.1 (no_set ran.tokens)

  pub run_fails : (fault : RunFault) → GivesFault fault (RunsSet site macros set tokens) → MeetsFault (of_run fault) (Through site macros (set ∷ []) tokens)
  run_fails faults.NoMemory g = tt
  run_fails faults.Loop g = set_fails set [] tokens faults.Loop g
  run_fails faults.Work g = set_fails set [] tokens faults.Work g
  run_fails faults.Deep g = set_fails set [] tokens faults.Deep g
  run_fails faults.Long g = set_fails set [] tokens faults.Long g
  run_fails faults.BadScan g = set_fails set [] tokens faults.BadScan g
  run_fails (faults.NoRuleset name) g = set_fails set [] tokens (faults.NoRuleset name) g
  run_fails (faults.MapClass name) g = set_fails set [] tokens (faults.MapClass name) g
  run_fails (faults.NoSuchMap name) g = set_fails set [] tokens (faults.NoSuchMap name) g

-- ---- rulesets in order

-- whatever the rulesets behind one give of what it gives
pub through_more : (site : Site) (macros : Macros) (set : List ℕ) (sets : List (List ℕ)) (tokens now : List Token) (answer : Result (List Token) Cause) → Through site macros (set ∷ []) tokens (Ok now) → Through site macros sets now answer → Through site macros (set ∷ sets) tokens answer
through_more site macros set sets tokens now answer (goes_on _ _ _ done _ run (no_set _)) more = goes_on set sets tokens done answer run more

pub through_fails : (site : Site) (macros : Macros) (set : List ℕ) (sets : List (List ℕ)) (tokens : List Token) (why : Cause) → Through site macros (set ∷ []) tokens (Err why) → Through site macros (set ∷ sets) tokens (Err why)
through_fails site macros set sets tokens why (set_fails _ _ _ fault run) = set_fails set sets tokens fault run
through_fails site macros set sets tokens why (goes_on _ _ _ done _ _ none) = elim none [ ]

-- the rulesets from a place on are the set there and those after it
pub ahead_at : (sets : List (List ℕ)) (i : ℕ) (set : List ℕ) → i < length sets → set ≡ get_or sets i set → drop i sets ≡ set ∷ drop (i + 1) sets
ahead_at sets i set below is = drop_more sets i set below ∙ ap (λ x. x ∷ drop (i + 1) sets) (sym is)

-- the rulesets from one on give of these tokens what all give
abbrev pub GivesWhole : Site → Macros → List (List ℕ) → List Token → ℕ → List Token → Type 0
GivesWhole site macros sets tokens i now = (answer : Result (List Token) Cause) → Through site macros (drop i sets) now answer → Through site macros sets tokens answer

module _ (site : Site) (macros : Macros) (sets : List (List ℕ)) (i : ℕ) (tokens now : List Token) (whole : GivesWhole site macros sets tokens i now) where
  module _ (set : List ℕ) (ahead : drop i sets ≡ set ∷ drop (i + 1) sets) where
    pub step_goes : (next : List Token) → Through site macros (set ∷ []) now (Ok next) → GivesWhole site macros sets tokens (i + 1) next
    step_goes next one answer more = whole answer (subst (λ s. Through site macros s now answer) (sym ahead) (through_more site macros set (drop (i + 1) sets) now next answer one more))

    pub step_stops : (refusal : Refusal) → MeetsFault refusal (Through site macros (set ∷ []) now) → MeetsFault refusal (Through site macros sets tokens)
    step_stops (refusals.Because why) h = whole (Err why) (subst (λ s. Through site macros s now (Err why)) (sym ahead) (through_fails site macros set (drop (i + 1) sets) now why h))
    step_stops refusals.NoMemory h = tt

  pub all_gone : length sets ≤ i → Through site macros sets tokens (Ok now)
  all_gone over = whole (Ok now) (subst (λ s. Through site macros s now (Ok now)) (sym (drop_all i sets over)) (no_set now))

-- ---- addresses that are cut

-- an address that is scanned to tokens is cut to them
pub cut_some : (operators text : List ℕ) (tokens : List Token) → tokens_or_fault (plain operators) true text ≡ Ok tokens → Ok tokens ≡ cut operators text
unfolding cut
cut_some operators text tokens e = sym (ap scanned e)

cut_none : (operators text : List ℕ) (fault : ScanFault) → outcome_of (plain operators) true text ≡ Err fault → Err (scan_cause fault) ≡ cut operators text
unfolding cut
cut_none operators text fault e = sym (ap (λ a. scanned (tokens_among a)) e)

-- an address that the scanner refuses is cut to that refusal, unless memory was lacking
pub cut_refused : (operators text : List ℕ) → ((fault : ScanFault) → HasFault (plain operators) true text fault → outcome_of (plain operators) true text ≡ Err fault)
    → (fault : ScanFault) → ExplainsFault (plain operators) true text fault → MeetsFault (of_scan fault) (λ answer. answer ≡ cut operators text)
cut_refused operators text law (scans.Unbalanced place) h = cut_none operators text _ (law _ h)
cut_refused operators text law (scans.BadQuote place) h = cut_none operators text _ (law _ h)
cut_refused operators text law (scans.BadDollar place) h = cut_none operators text _ (law _ h)
cut_refused operators text law scans.Long h = cut_none operators text _ (law _ h)
cut_refused operators text law scans.NoMemory h = tt

-- ---- addresses that go through rulesets

-- what an answer meets may be said more weakly
pub meets_so : (P Q : Result (List Token) Cause → Type 0) → ((answer : Result (List Token) Cause) → P answer → Q answer) → (result : Result (List Token) Refusal) → Meets result P → Meets result Q
meets_so P Q go (Ok tokens) h = go (Ok tokens) h
meets_so P Q go (Err (refusals.Because why)) h = go (Err why) h
meets_so P Q go (Err refusals.NoMemory) h = tt

-- an address that can't be cut passes through no ruleset: its refusal is the answer
pub cut_stops : (site : Site) (macros : Macros) (sets : List (List ℕ)) (address : List ℕ) (refusal : Refusal) → MeetsFault refusal (λ answer. answer ≡ cut site.operators address) → MeetsFault refusal (Passes site macros sets address)
cut_stops site macros sets address (refusals.Because why) e = no_tokens why (sym e)
cut_stops site macros sets address refusals.NoMemory e = tt
