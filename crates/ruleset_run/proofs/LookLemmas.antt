-- What a look-up of a right side gives.
use Rattle.std.proofs.Common.{◌≡◌, ℕ, List, [], ◌∷◌, false, Option, Some, None, Result, Ok, Err, map, sym, ◌∙◌, ap, subst}
use Rattle.mail_base.specs.declared.token.Token.{Token}
use Rattle.mail_base.specs.declared.rule.Piece.{Piece}
use Rattle.mail_base.specs.declared.rule.Step.{Step}
use Rattle.mail_base.specs.declared.rule.Query.{Query}
use Rattle.mail_base.specs.declared.rule.Step.TheVariants.{Plain, Lookup, Call}
use Rattle.addr_tokens.specs.Reader.{cut}
use Rattle.map_tables.specs.declared.found.Found.{Found}
use Rattle.map_tables.specs.declared.found.Found.TheVariants.{Value, Absent}
use Rattle.map_tables.specs.declared.found.MapFault.{MapFault}
use Rattle.map_tables.specs.declared.found.MapFault.TheVariants as maps
use Rattle.map_tables.specs.Answers.{Loaded, map_answer, macros_after, told}
use Rattle.ruleset_run.specs.declared.fault.RunFault.{RunFault}
use Rattle.ruleset_run.specs.declared.fault.RunFault.TheVariants as faults
use Rattle.ruleset_run.specs.Sites.{Macros}
use Rattle.ruleset_run.specs.Cutting.{Lates}
use Rattle.ruleset_run.specs.Filling.{OneToken, OneCall, Matched, Told, scanned, told_by, asked, looked_up, piece_tokens, pieces_tokens, fallback_tokens, put, put_told, filled}
use Rattle.ruleset_run.specs.inner.Filler.{LooksFault, StepFault}
use Rattle.ruleset_run.specs.inner.Values.{Known, lates}

module _ (loaded : Loaded) (start second third : Known) (name : List ℕ) (found : Matched) (pieces : List Piece) (args : List (List Piece)) (fallback : Option (List Piece)) (same : second ≡ start) (later : third ≡ second)
    (key : List Token) (key_is : key ≡ pieces_tokens (lates start) found pieces) (texts : List (List ℕ)) (texts_are : texts ≡ map asked (map (pieces_tokens (lates second) found) args)) (text : List ℕ) (text_is : text ≡ asked key) where
  abbrev All : Result Told RunFault
  All = looked_up loaded start.operators name (pieces_tokens (lates start) found pieces) (map (pieces_tokens (lates start) found) args) (fallback_tokens (lates start) found fallback) start.after

  abbrev By : List ℕ → List (List ℕ) → List Token → Macros → Result Found MapFault → Result Told RunFault
  By t ts k m r = told_by start.operators name k (fallback_tokens (lates start) found fallback) (macros_after (map_answer loaded name t ts) t ts m) r

  by_texts : All ≡ By text texts (pieces_tokens (lates start) found pieces) start.after (told (map_answer loaded name text texts))
  by_texts =
      let key_now = pieces_tokens (lates start) found pieces in
      let args_now = map asked (map (pieces_tokens (lates start) found) args) in
      let t : text ≡ asked key_now = text_is ∙ ap asked key_is in
      let ts : texts ≡ args_now = subst (λ (v : Known). texts ≡ map asked (map (pieces_tokens (lates v) found) args)) same texts_are in
      ap (λ x. By x args_now key_now start.after (told (map_answer loaded name x args_now))) (sym t) ∙ ap (λ xs. By text xs key_now start.after (told (map_answer loaded name text xs))) (sym ts)

  by_told : (r : Result Found MapFault) → r ≡ told (map_answer loaded name text texts) → All ≡ By text texts key start.after r
  by_told r e = by_texts ∙ ap (λ x. By text texts (pieces_tokens (lates start) found pieces) start.after x) (sym e) ∙ ap (λ k. By text texts k start.after r) (sym key_is)

  pub look_class : Err maps.MapClass ≡ told (map_answer loaded name text texts) → (copied : List ℕ) → copied ≡ name → All ≡ Err (faults.MapClass copied)
  look_class e copied is = by_told (Err maps.MapClass) e ∙ ap (λ n. Err (faults.MapClass n)) (sym is)

  pub look_none : Err maps.NoSuchMap ≡ told (map_answer loaded name text texts) → (copied : List ℕ) → copied ≡ name → All ≡ Err (faults.NoSuchMap copied)
  look_none e copied is = by_told (Err maps.NoSuchMap) e ∙ ap (λ n. Err (faults.NoSuchMap n)) (sym is)

  module _ (last : Known) (after_is : last ≡ record third { after = macros_after (map_answer loaded name text texts) text texts third.after }) where
    operators_are : last.operators ≡ start.operators
    operators_are = ap (λ (v : Known). v.operators) after_is ∙ ap (λ (v : Known). v.operators) (later ∙ same)

    macros_are : last.macros ≡ start.macros
    macros_are = ap (λ (v : Known). v.macros) after_is ∙ ap (λ (v : Known). v.macros) (later ∙ same)

    by_last : (r : Result Found MapFault) → r ≡ told (map_answer loaded name text texts) → All ≡ told_by start.operators name key (fallback_tokens (lates start) found fallback) last.after r
    by_last r e =
        let m : macros_after (map_answer loaded name text texts) text texts start.after ≡ last.after = ap (macros_after (map_answer loaded name text texts) text texts) (ap (λ (v : Known). v.after) (sym (later ∙ same))) ∙ sym (ap (λ (v : Known). v.after) after_is) in
        by_told r e ∙ ap (λ x. told_by start.operators name key (fallback_tokens (lates start) found fallback) x r) m

    pub look_value : (answer : List ℕ) → Ok (Value answer) ≡ told (map_answer loaded name text texts) → (tokens : List Token) → Some tokens ≡ cut last.operators false answer → All ≡ Ok (record { tokens = tokens; macros = last.after })
    look_value answer e tokens is = by_last (Ok (Value answer)) e ∙ ap (scanned last.after) (ap (λ o. cut o false answer) (sym operators_are) ∙ sym is)

    pub look_unscanned : (answer : List ℕ) → Ok (Value answer) ≡ told (map_answer loaded name text texts) → None ≡ cut last.operators false answer → All ≡ Err faults.BadScan
    look_unscanned answer e is = by_last (Ok (Value answer)) e ∙ ap (scanned last.after) (ap (λ o. cut o false answer) (sym operators_are) ∙ sym is)

    pub look_key : Ok Absent ≡ told (map_answer loaded name text texts) → fallback ≡ None → All ≡ Ok (record { tokens = key; macros = last.after })
    look_key e none = by_last (Ok Absent) e ∙ ap (λ f. told_by start.operators name key (fallback_tokens (lates start) found f) last.after (Ok Absent)) none

    lates_are : (more : List Piece) → pieces_tokens (lates last) found more ≡ pieces_tokens (lates start) found more
    lates_are more = by operators_are macros_are
      where
        by : last.operators ≡ start.operators → last.macros ≡ start.macros → pieces_tokens (lates last) found more ≡ pieces_tokens (lates start) found more
        by p q = ap (λ (v : Known). pieces_tokens (lates v) found more) {x = record { operators = last.operators; macros = last.macros; after = [] }} {y = record { operators = start.operators; macros = start.macros; after = [] }} (ap (λ o. record { operators = o; macros = last.macros; after = [] }) p ∙ ap (λ m. record { operators = start.operators; macros = m; after = [] }) q)

    pub look_default : Ok Absent ≡ told (map_answer loaded name text texts) → (more : List Piece) → fallback ≡ Some more → (tokens : List Token) (end : Known) → end ≡ last → tokens ≡ pieces_tokens (lates last) found more → All ≡ Ok (record { tokens = tokens; macros = end.after })
    look_default e more some tokens end is tokens_are =
        by_last (Ok Absent) e ∙ ap (λ f. told_by start.operators name key (fallback_tokens (lates start) found f) last.after (Ok Absent)) some
        ∙ ap (λ ts. Ok (record { tokens = ts; macros = last.after })) (sym (tokens_are ∙ lates_are more)) ∙ ap (λ (v : Known). Ok (record { tokens = tokens; macros = v.after })) (sym is)

-- ---- steps

module _ (loaded : Loaded) (operators : List ℕ) (late : Lates) (found : Matched) (step : Step) (before after : Macros) where
  pub step_plain : (piece : Piece) → step ≡ Plain piece → after ≡ before → (more : List Step) → filled loaded operators late found (step ∷ more) before ≡ put (map OneToken (piece_tokens late found piece)) (filled loaded operators late found more after)
  step_plain piece is same more = ap (λ s. filled loaded operators late found (s ∷ more) before) is ∙ ap (λ m. put (map OneToken (piece_tokens late found piece)) (filled loaded operators late found more m)) (sym same)

  pub step_call : step ≡ Call → after ≡ before → (more : List Step) → filled loaded operators late found (step ∷ more) before ≡ put (OneCall ∷ []) (filled loaded operators late found more after)
  step_call is same more = ap (λ s. filled loaded operators late found (s ∷ more) before) is ∙ ap (λ m. put (OneCall ∷ []) (filled loaded operators late found more m)) (sym same)

  module _ (query : Query) (is : step ≡ Lookup query) where
    abbrev Asks : Result Told RunFault
    Asks = looked_up loaded operators query.name (pieces_tokens late found query.key) (map (pieces_tokens late found) query.args) (fallback_tokens late found query.fallback) before

    asks_as : (t : Result Told RunFault) → Asks ≡ t → (more : List Step) → filled loaded operators late found (step ∷ more) before ≡ put_told t (λ now. filled loaded operators late found more now)
    asks_as t e more = ap (λ s. filled loaded operators late found (s ∷ more) before) is ∙ ap (λ x. put_told x (λ now. filled loaded operators late found more now)) e

    pub step_looked : (tokens : List Token) → Asks ≡ Ok (record { tokens = tokens; macros = after }) → (more : List Step) → filled loaded operators late found (step ∷ more) before ≡ put (map OneToken tokens) (filled loaded operators late found more after)
    step_looked tokens e more = asks_as _ e more

    pub step_look_fails : (e : RunFault) → LooksFault e Asks → StepFault e (λ f. (more : List Step) → filled loaded operators late found (step ∷ more) before ≡ f)
    step_look_fails faults.NoMemory h = tt
    step_look_fails e h = asks_as (Err e) h
