-- The call that the first token names.
use Rattle.std.proofs.Common.{◌≡◌, ◌≢◌, ℕ, ◌-◌, List, [], ◌∷◌, Some, None, Result, Err, refl, sym, subst}
use Rattle.mail_base.specs.declared.token.Token.{Token}
use Rattle.ruleset_run.specs.Filling.{call_name}
use Rattle.ruleset_run.specs.declared.fault.RunFault.{RunFault}
use Rattle.ruleset_run.specs.declared.fault.RunFault.TheVariants.{NoRuleset}
use Rattle.ruleset_run.specs.declared.runner.Ran.{Ran}
use Rattle.ruleset_run.specs.Sites.{Site, Macros}
use Rattle.ruleset_run.specs.Runs.{name_of, rest_of, SetRuns, unknown, RunsAt, Ends}
use Rattle.ruleset_run.proofs.Moves.{set_at, ends_weaker}

-- no token names a ruleset
pub call_unnamed : (site : Site) (left : ℕ) (all : List Token) (work : ℕ) (macros : Macros) (name : List ℕ) → left ≢ 0 → all ≡ [] → name ≡ [] → RunsAt site left (name_of all) (rest_of all) work macros (Err (NoRuleset name))
call_unnamed site left all work macros name some none empty =
    subst (λ (ts : List Token). RunsAt site left (name_of ts) (rest_of ts) work macros (Err (NoRuleset name))) (sym none)
    (subst (λ n. RunsAt site left None [] work macros (Err (NoRuleset n))) (sym empty) (set_at site left None [] work macros _ some (unknown None [] work macros refl)))

-- the first token names one, which runs over the others
pub call_named : (site : Site) (left : ℕ) (all rest : List Token) (t : Token) → all ≡ t ∷ rest → (name : List ℕ) → name ≡ call_name t → left ≢ 0 → (work : ℕ) (macros now : Macros) (r : Result Ran RunFault)
    → Ends now r (SetRuns site (RunsAt site (left - 1)) (Some name) rest work macros) → Ends now r (RunsAt site left (name_of all) (rest_of all) work macros)
call_named site left all rest t is name name_is some work macros now r h =
    subst (λ (ts : List Token). Ends now r (RunsAt site left (name_of ts) (rest_of ts) work macros)) (sym is)
    (subst (λ n. Ends now r (RunsAt site left (Some n) rest work macros)) name_is
    (ends_weaker now r (SetRuns site (RunsAt site (left - 1)) (Some name) rest work macros) (RunsAt site left (Some name) rest work macros) (λ o. set_at site left (Some name) rest work macros o some) h))
