-- A run of a ruleset, as derivations (Sendmail Operation Guide, R and S: rewriting rules; the
-- limits and the rule on `$#` are own).
use Rattle.std.specs.Prelude.{◌≡◌, ℕ, zero, suc, ◌+◌, ◌<◌, ◌≤◌, List, [], ◌∷◌, length, Option, Some, None, Result, Ok, Err, true, false, nat_lt, if◌then◌else◌}
use Rattle.mail_base.specs.declared.token.Token.{Token}
use Rattle.mail_base.specs.declared.rule.Rule.{Rule}
use Rattle.mail_base.specs.declared.rule.Step.{Step}
use Rattle.mail_base.specs.declared.rule.Go.TheVariants.{Again, Return, Next}
use Rattle.rule_match.specs.Choices.{Fits, Chosen}
use Rattle.rule_match.specs.Wants.{Want, wants}
use Rattle.ruleset_run.specs.declared.fault.RunFault.{RunFault}
use Rattle.ruleset_run.specs.declared.fault.RunFault.TheVariants as faults
use Rattle.ruleset_run.specs.declared.runner.Ran.{Ran}
use Rattle.ruleset_run.specs.Books.{rules_named}
use Rattle.ruleset_run.specs.Sites.{Site, Macros}
use Rattle.ruleset_run.specs.Cutting.{Lates, late_tokens, is_cut_left, left_lists}
use Rattle.ruleset_run.specs.Filling.{Part, OneToken, OneCall, Matched, Full, is_cut_right, filled, tokens_in, call_name, is_resolved}

-- what a run ends with: the tokens, the number of applications so far, and the macros
pub record Done : Type 0 where
  pub tokens : List Token
  pub work : ℕ
  pub macros : Macros

abbrev pub Outcome : Type 0
Outcome = Result Done RunFault

-- what the call of a ruleset ends with: its name, if a token gives one, its tokens, the
-- applications before it, and the macros
abbrev pub Called : Type 1
Called = Option (List ℕ) → List Token → ℕ → Macros → Outcome → Type 0

-- ---- the calls of a right side

abbrev pub name_of : List Token → Option (List ℕ)
name_of [] = None
name_of (token ∷ tokens) = Some (call_name token)

abbrev pub rest_of : List Token → List Token
rest_of [] = []
rest_of (token ∷ tokens) = tokens

abbrev pub with_token : Token → Outcome → Outcome
with_token token (Ok done) = Ok (record done { tokens = token ∷ done.tokens })
with_token token (Err fault) = Err fault

-- what a call gives, with so many tokens before it
abbrev pub bounded : ℕ → Outcome → Outcome
bounded before (Ok done) =
    if nat_lt 2000 (before + length done.tokens) then Err faults.Long else Ok done
bounded before (Err fault) = Err fault

-- calls are made from the rightmost to the leftmost, each of the ruleset that the next token names,
-- on all tokens behind that; so many tokens stand before the parts
pub data Replaced (called : Called) : ℕ → List Part → ℕ → Macros → Outcome → Type 0 where
  no_part : (before work : ℕ) (macros : Macros)
      → Replaced called before [] work macros
      (Ok (record { tokens = []; work = work; macros = macros }))
  token : (t : Token) (before : ℕ) (parts : List Part) (work : ℕ) (macros : Macros) (o : Outcome)
      → Replaced called (before + 1) parts work macros o
      → Replaced called before (OneToken t ∷ parts) work macros (with_token t o)
  -- a call further to the right is refused
  call_after : (before : ℕ) (parts : List Part) (work : ℕ) (macros : Macros) (fault : RunFault)
      → Replaced called before parts work macros (Err fault)
      → Replaced called before (OneCall ∷ parts) work macros (Err fault)
  call : (before : ℕ) (parts : List Part) (work : ℕ) (macros : Macros) (done : Done) (o : Outcome)
      → Replaced called before parts work macros (Ok done)
      → called (name_of done.tokens) (rest_of done.tokens) done.work done.macros o
      → Replaced called before (OneCall ∷ parts) work macros (bounded before o)

-- ---- one application of a rule

abbrev pub late_of : Site → Macros → Lates
late_of site macros = late_tokens site.operators macros

abbrev pub full_of : Site → Macros → Matched → List Step → Result Full RunFault
full_of site macros found steps =
    filled site.maps site.operators (late_of site macros) found steps macros

-- one application of a right side to a match, where the rule was applied so many times in
-- succession before: the list that it gives, or the first error
pub data Applies (site : Site) (called : Called) : List Step → ℕ → Matched → ℕ → Macros
    → Outcome → Type 0 where
  loops : (steps : List Step) (times : ℕ) (found : Matched) (work : ℕ) (macros : Macros)
      → 100 ≤ times → Applies site called steps times found work macros (Err faults.Loop)
  works : (steps : List Step) (times : ℕ) (found : Matched) (work : ℕ) (macros : Macros)
      → times < 100 → 10000 ≤ work
      → Applies site called steps times found work macros (Err faults.Work)
  -- a `$&x` can't be cut
  unscanned : (steps : List Step) (times : ℕ) (found : Matched) (work : ℕ) (macros : Macros)
      → times < 100 → work < 10000 → is_cut_right (late_of site macros) steps ≡ false
      → Applies site called steps times found work macros (Err faults.BadScan)
  -- a look-up is refused
  unfilled : (steps : List Step) (times : ℕ) (found : Matched) (work : ℕ) (macros : Macros)
      (fault : RunFault) → times < 100 → work < 10000
      → is_cut_right (late_of site macros) steps ≡ true
      → full_of site macros found steps ≡ Err fault
      → Applies site called steps times found work macros (Err fault)
  long : (steps : List Step) (times : ℕ) (found : Matched) (work : ℕ) (macros : Macros)
      (full : Full) → times < 100 → work < 10000 → is_cut_right (late_of site macros) steps ≡ true
      → full_of site macros found steps ≡ Ok full → 2000 < tokens_in full.parts
      → Applies site called steps times found work macros (Err faults.Long)
  -- the calls are made
  replaced : (steps : List Step) (times : ℕ) (found : Matched) (work : ℕ) (macros : Macros)
      (full : Full) (o : Outcome) → times < 100 → work < 10000
      → is_cut_right (late_of site macros) steps ≡ true
      → full_of site macros found steps ≡ Ok full → tokens_in full.parts ≤ 2000
      → Replaced called 0 full.parts (work + 1) full.macros o
      → Applies site called steps times found work macros o

-- ---- the rules of a set

-- what the left side of a rule stands for
abbrev pub left_wants : Site → Macros → Rule → List Want
left_wants site macros rule =
    wants site.classes (left_lists (late_of site macros) rule.left) rule.left

abbrev pub matched : Rule → List Token → List ℕ → Matched
matched rule tokens lengths = record { left = rule.left; tokens = tokens; lengths = lengths }

-- the rule is applied to the tokens, by the match that it takes, with this outcome
pub record Takes (site : Site) (called : Called) (rule : Rule) (times : ℕ) (tokens : List Token)
    (work : ℕ) (macros : Macros) (o : Outcome) : Type 0 where
  pub cut : is_cut_left (late_of site macros) rule.left ≡ true
  pub lengths : List ℕ
  pub chosen : Chosen (left_wants site macros rule) tokens lengths
  pub applied : Applies site called rule.right.steps times
      (matched rule tokens lengths) work macros o

-- a run of the rules that are left, the first of which was applied so many times in succession,
-- over the tokens, after so many applications, and with the macros
pub data Runs (site : Site) (called : Called) : List Rule → ℕ → List Token → ℕ → Macros
    → Outcome → Type 0 where
  -- no rule is left
  no_rule : (times : ℕ) (tokens : List Token) (work : ℕ) (macros : Macros)
      → Runs site called [] times tokens work macros
      (Ok (record { tokens = tokens; work = work; macros = macros }))
  -- a `$&x` of the first rule's left side can't be cut, whether the rule matches or not
  unread : (rule : Rule) (rules : List Rule) (times : ℕ) (tokens : List Token) (work : ℕ)
      (macros : Macros) → is_cut_left (late_of site macros) rule.left ≡ false
      → Runs site called (rule ∷ rules) times tokens work macros (Err faults.BadScan)
  -- it doesn't match: what the next ones give
  unmatched : (rule : Rule) (rules : List Rule) (times : ℕ) (tokens : List Token) (work : ℕ)
      (macros : Macros) (o : Outcome) → is_cut_left (late_of site macros) rule.left ≡ true
      → ((lengths : List ℕ) → Fits (left_wants site macros rule) tokens lengths → ⊥)
      → Runs site called rules 0 tokens work macros o
      → Runs site called (rule ∷ rules) times tokens work macros o
  -- its application is refused
  refused : (rule : Rule) (rules : List Rule) (times : ℕ) (tokens : List Token) (work : ℕ)
      (macros : Macros) (fault : RunFault)
      → Takes site called rule times tokens work macros (Err fault)
      → Runs site called (rule ∷ rules) times tokens work macros (Err fault)
  -- it gives a list that begins with `$#`: that list, whatever the prefix
  resolves : (rule : Rule) (rules : List Rule) (times : ℕ) (tokens : List Token) (work : ℕ)
      (macros : Macros) (done : Done) → Takes site called rule times tokens work macros (Ok done)
      → is_resolved done.tokens ≡ true
      → Runs site called (rule ∷ rules) times tokens work macros (Ok done)
  -- the prefix `$@`: the list that it gives
  returns : (rule : Rule) (rules : List Rule) (times : ℕ) (tokens : List Token) (work : ℕ)
      (macros : Macros) (done : Done) → Takes site called rule times tokens work macros (Ok done)
      → is_resolved done.tokens ≡ false → rule.right.go ≡ Return
      → Runs site called (rule ∷ rules) times tokens work macros (Ok done)
  -- the prefix `$:`: what the next rules give on that list
  goes_next : (rule : Rule) (rules : List Rule) (times : ℕ) (tokens : List Token) (work : ℕ)
      (macros : Macros) (done : Done) (o : Outcome)
      → Takes site called rule times tokens work macros (Ok done)
      → is_resolved done.tokens ≡ false → rule.right.go ≡ Next
      → Runs site called rules 0 done.tokens done.work done.macros o
      → Runs site called (rule ∷ rules) times tokens work macros o
  -- no prefix: what the same rule gives again on that list
  goes_again : (rule : Rule) (rules : List Rule) (times : ℕ) (tokens : List Token) (work : ℕ)
      (macros : Macros) (done : Done) (o : Outcome)
      → Takes site called rule times tokens work macros (Ok done)
      → is_resolved done.tokens ≡ false → rule.right.go ≡ Again
      → Runs site called (rule ∷ rules) (times + 1) done.tokens done.work done.macros o
      → Runs site called (rule ∷ rules) times tokens work macros o

-- ---- rulesets

-- the rules of the ruleset of a name; no name is none's
abbrev pub rules_called : Site → Option (List ℕ) → Option (List Rule)
rules_called site None = None
rules_called site (Some name) = rules_named site.book name

abbrev pub written : Option (List ℕ) → List ℕ
written None = []
written (Some name) = name

-- a run of the ruleset of a name
pub data SetRuns (site : Site) (called : Called) : Option (List ℕ) → List Token → ℕ → Macros
    → Outcome → Type 0 where
  known : (name : Option (List ℕ)) (tokens : List Token) (work : ℕ) (macros : Macros)
      (rules : List Rule) (o : Outcome) → rules_called site name ≡ Some rules
      → Runs site called rules 0 tokens work macros o
      → SetRuns site called name tokens work macros o
  unknown : (name : Option (List ℕ)) (tokens : List Token) (work : ℕ) (macros : Macros)
      → rules_called site name ≡ None
      → SetRuns site called name tokens work macros (Err (faults.NoRuleset (written name)))

-- a call, where so many calls may be nested in each other; where none may, it is too deep
unfoldable pub RunsAt : Site → ℕ → Called
RunsAt site zero name tokens work macros o = o ≡ Err faults.Deep
RunsAt site (suc left) name tokens work macros o =
    SetRuns site (RunsAt site left) name tokens work macros o

-- a run of the ruleset of a name, with these macros: 50 calls may be nested in it
abbrev pub RunsSet : Site → Macros → List ℕ → List Token → Outcome → Type 0
RunsSet site macros name tokens o = SetRuns site (RunsAt site 50) (Some name) tokens 0 macros o

-- ---- what is returned

-- it is an outcome with P, unless there was no memory
abbrev pub GivesFault : RunFault → (Outcome → Type 0) → Type 0
GivesFault faults.NoMemory P = Unit {0}
GivesFault fault P = P (Err fault)

-- the same with these macros at the end
abbrev pub Ends : Macros → Result Ran RunFault → (Outcome → Type 0) → Type 0
Ends macros (Ok ran) P = P (Ok (record { tokens = ran.tokens; work = ran.work; macros = macros }))
Ends macros (Err fault) P = GivesFault fault P

-- the same with some macros at the end
abbrev pub Gives : Result Ran RunFault → (Outcome → Type 0) → Type 0
Gives (Ok ran) P =
    (macros : Macros) × P (Ok (record { tokens = ran.tokens; work = ran.work; macros = macros }))
Gives (Err fault) P = GivesFault fault P
