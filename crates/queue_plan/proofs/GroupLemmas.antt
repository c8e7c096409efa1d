-- The group of a row: one, by what the set says.
use Rattle.std.proofs.Common.{◌≡◌, ℕ, List, [], ◌∷◌, ◌++◌, Bool, true, false, Option, None, Some, inl, inr, option_to_list, refl, sym, ◌∙◌, ap, subst, ◌==◌, true≢false, get_or}
use Rattle.std.specs.Prelude.{Result, Ok, Err, IfOk, cond, not, unwrap_or}
use Rattle.std.specs.List.{find}
use Rattle.std.proofs.lemmas.Bool.{and_parts, eq-eqb}
use Rattle.std.proofs.lemmas.List.Folds.{list_any_at}
use Rattle.mail_base.specs.Texts.{IsLine}
use Rattle.mail_base.specs.Catalogs.{value_like}
use Rattle.mail_base.specs.Rulesets.{is_named}
use Rattle.mail_base.specs.declared.config.Config.{Config}
use Rattle.mail_base.specs.declared.rule.RuleSet.{RuleSet}
use Rattle.mail_base.specs.declared.token.Token.{Token}
use Rattle.addr_tokens.specs.Reader.{cut}
use Rattle.map_tables.specs.Answers.{Loaded}
use Rattle.ruleset_run.specs.declared.fault.RunFault.{RunFault}
use Rattle.ruleset_run.specs.declared.fault.RunFault.TheVariants as faults
use Rattle.ruleset_run.specs.declared.runner.Ran.{Ran}
use Rattle.ruleset_run.specs.Runs.{Done, Gives, GivesFault, Outcome, RunsSet}
use Rattle.ruleset_run.specs.Sites.{Macros, Site, site_of}
use Rattle.queue_plan.specs.Groups.{Answers, no_tokens, run_fails, answers, Says, unasked, asked, Groups, grouped, IsGroupName, group_by, is_group, is_one_line, main_group_name, name_said, own_group, set_name}
use Rattle.queue_plan.specs.inner.Answering.{Runs, fails, ends}

-- what is said of a result's value may be said more weakly
pub ok_so : {A E : Type 0} (P Q : A → Type 0) → ((x : A) → P x → Q x) → (r : Result A E) → IfOk r P → IfOk r Q
ok_so P Q go (Ok x) h = go x h
ok_so P Q go (Err e) h = tt

-- ---- the name of a group

-- the first of some names is mqueue or that of a group
first_name : (config : Config) (names : List (List ℕ)) → IsGroupName config (unwrap_or (find (is_group config) names) main_group_name)
first_name config [] = inl refl
first_name config (name ∷ names) = by (is_group config name) refl (first_name config names)
  where
    by : (c : Bool) → is_group config name ≡ c → IsGroupName config (unwrap_or (find (is_group config) names) main_group_name) → IsGroupName config (unwrap_or (cond c (Some name) (find (is_group config) names)) main_group_name)
    by true e rest = inr e
    by false e rest = rest

pub group_named : (config : Config) (said own : Option (List ℕ)) → IsGroupName config (group_by config said own)
group_named config said own = first_name config (option_to_list said ++ option_to_list own)

-- a name without LF (10) is on one line
on_line : (name : List ℕ) → is_one_line name ≡ true → IsLine name
on_line name one = λ k d lt same. absurd (true≢false (sym (list_any_at (λ (byte : ℕ). byte == 10) name k d lt (eq-eqb (get_or name k d) 10 same)) ∙ is_false _ one))
  where
    is_false : (b : Bool) → not b ≡ true → b ≡ false
    is_false true e = absurd (true≢false (sym e))
    is_false false e = refl

main_line : IsLine main_group_name
main_line = on_line main_group_name refl

-- the name of a group is on one line
pub named_line : (config : Config) (name : List ℕ) → IsGroupName config name → IsLine name
named_line config name (inl is) = subst IsLine (sym is) main_line
named_line config name (inr is) = on_line name (and_parts (is_one_line name) _ is).0

-- ---- what the set answers

-- a run that fails says nothing
pub no_run : (site : Site) (macros : Macros) (set : List ℕ) (tokens : List Token) (fault : RunFault) → (fault ≡ faults.NoMemory → ⊥) → GivesFault fault (RunsSet site macros set tokens) → Runs site macros set tokens None
no_run site macros set tokens faults.NoMemory some g = absurd (some refl)
no_run site macros set tokens faults.Loop some g = fails faults.Loop g
no_run site macros set tokens faults.Work some g = fails faults.Work g
no_run site macros set tokens faults.Deep some g = fails faults.Deep g
no_run site macros set tokens faults.Long some g = fails faults.Long g
no_run site macros set tokens faults.BadScan some g = fails faults.BadScan g
no_run site macros set tokens (faults.NoRuleset name) some g = fails (faults.NoRuleset name) g
no_run site macros set tokens (faults.MapClass name) some g = fails (faults.MapClass name) g
no_run site macros set tokens (faults.NoSuchMap name) some g = fails (faults.NoSuchMap name) g

-- a run that ends says what its list says
pub run_says : (site : Site) (macros : Macros) (set : List ℕ) (tokens : List Token) (ran : Ran) → Gives (Ok ran) (RunsSet site macros set tokens) → (said : Option (List ℕ)) → said ≡ name_said ran.tokens → Runs site macros set tokens said
run_says site macros set tokens ran g said is = subst (Runs site macros set tokens) (sym is) (ends _ g.1)

-- a run over an address's tokens answers to it
pub answers_by : (site : Site) (macros : Macros) (address set : List ℕ) (tokens : List Token) (said : Option (List ℕ)) → set ≡ set_name → cut site.operators true address ≡ Some tokens → Runs site macros set tokens said → Answers site macros address said
answers_by site macros address set tokens said is e r = by (subst (λ s. Runs site macros s tokens said) is r)
  where
    by : {o : Option (List ℕ)} → Runs site macros set_name tokens o → Answers site macros address o
    by (fails fault run) = run_fails tokens fault e run
    by (ends done run) = answers tokens done e run

-- ---- one group, and some

-- a run has one outcome
abbrev pub OneOutcome : Type 0
OneOutcome = (site : Site) (macros : Macros) (name : List ℕ) (tokens : List Token) (one another : Outcome) → RunsSet site macros name tokens one → RunsSet site macros name tokens another → one ≡ another

-- a run has an outcome
abbrev pub SomeOutcome : Type 0
SomeOutcome = (site : Site) (macros : Macros) (name : List ℕ) (tokens : List Token) → (outcome : Outcome) × RunsSet site macros name tokens outcome

module _ (law : OneOutcome) (site : Site) (macros : Macros) (address : List ℕ) where
  one_answers : {a b : Option (List ℕ)} → Answers site macros address a → Answers site macros address b → a ≡ b
  one_answers (no_tokens e) (no_tokens d) = refl
  one_answers (no_tokens e) (run_fails ts f d r) = refl
  one_answers (no_tokens e) (answers ts done d r) = absurd (cc (e, d))
  one_answers (run_fails ts f e r) (no_tokens d) = refl
  one_answers (run_fails ts f e r) (run_fails us g d q) = refl
  one_answers (run_fails ts f e r) (answers us done d q) =
      let same : us ≡ ts = cc (e, d) in
      let both = law site macros set_name ts (Err f) (Ok done) r (subst (λ (l : List Token). RunsSet site macros set_name l (Ok done)) same q) in
      absurd (cc both)
  one_answers (answers ts done e r) (no_tokens d) = absurd (cc (e, d))
  one_answers (answers ts done e r) (run_fails us f d q) =
      let same : us ≡ ts = cc (e, d) in
      let both = law site macros set_name ts (Ok done) (Err f) r (subst (λ (l : List Token). RunsSet site macros set_name l (Err f)) same q) in
      absurd (cc both)
  one_answers (answers ts done e r) (answers us other d q) =
      let same : us ≡ ts = cc (e, d) in
      let both = law site macros set_name ts (Ok done) (Ok other) r (subst (λ (l : List Token). RunsSet site macros set_name l (Ok other)) same q) in
      let one : done ≡ other = cc both in
      ap (λ (x : Done). name_said x.tokens) one

  pub one_says : {a b : Option (List ℕ)} → Says site macros address a → Says site macros address b → a ≡ b
  one_says (unasked n) (unasked m) = refl
  one_says (unasked n) (asked rules b m r) = absurd (cc (n, m))
  one_says (asked rules a m r) (unasked n) = absurd (cc (n, m))
  one_says (asked rules a m r) (asked other b n q) = one_answers r q

pub one_grouped : OneOutcome → (config : Config) (maps : Loaded) (macros : Macros) (address mailer : List ℕ) {a b : List ℕ} → Groups config maps macros address mailer a → Groups config maps macros address mailer b → a ≡ b
one_grouped law config maps macros address mailer (grouped one r) (grouped other q) =
    ap (λ said. group_by config said (own_group (value_like mailer config.mailers))) (one_says law (site_of config maps) macros address r q)

module _ (law : SomeOutcome) (site : Site) (macros : Macros) (address : List ℕ) where
  abbrev Answered : Type 0
  Answered = (said : Option (List ℕ)) × Answers site macros address said

  some_run : (tokens : List Token) → cut site.operators true address ≡ Some tokens → (outcome : Outcome) → RunsSet site macros set_name tokens outcome → Answered
  some_run tokens e (Ok done) r = (name_said done.tokens, answers tokens done e r)
  some_run tokens e (Err fault) r = (None, run_fails tokens fault e r)

  some_cut : (o : Option (List Token)) → cut site.operators true address ≡ o → Answered
  some_cut None e = (None, no_tokens e)
  some_cut (Some tokens) e = let w = law site macros set_name tokens in some_run tokens e w.0 w.1

  some_set : (o : Option RuleSet) → find (is_named set_name) site.book ≡ o → (said : Option (List ℕ)) × Says site macros address said
  some_set None e = (None, unasked e)
  some_set (Some rules) e = let w = some_cut (cut site.operators true address) refl in (w.0, asked rules w.0 e w.1)

  pub some_says : (said : Option (List ℕ)) × Says site macros address said
  some_says = some_set (find (is_named set_name) site.book) refl

pub some_grouped : SomeOutcome → (config : Config) (maps : Loaded) (macros : Macros) (address mailer : List ℕ) → (name : List ℕ) × Groups config maps macros address mailer name
some_grouped law config maps macros address mailer =
    let w = some_says law (site_of config maps) macros address in
    (group_by config w.0 (own_group (value_like mailer config.mailers)), grouped w.0 w.1)
