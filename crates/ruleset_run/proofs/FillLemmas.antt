-- What is filled, step by step.
use Rattle.std.proofs.Common.{◌≡◌, ℕ, ◌+◌, ◌-◌, ◌<◌, ◌≤◌, List, [], ◌∷◌, ◌++◌, drop, get_or, length, map, Result, Ok, Err, true, false, refl, sym, ◌∙◌, ap, subst, arith}
use Rattle.std.specs.Prelude.{OnOk}
use Rattle.std.proofs.lemmas.List.{append_assoc, append-nil, drop_all, drop_more}
use Rattle.mail_base.specs.declared.fault.NoMemory.{NoMemory}
use Rattle.mail_base.specs.declared.token.Token.{Token}
use Rattle.mail_base.specs.declared.rule.Step.{Step}
use Rattle.map_tables.specs.Answers.{Loaded}
use Rattle.ruleset_run.specs.declared.fault.RunFault.{RunFault}
use Rattle.ruleset_run.specs.declared.fault.RunFault.TheVariants as faults
use Rattle.ruleset_run.specs.declared.parts.Parts.{Parts}
use Rattle.ruleset_run.specs.Sites.{Macros}
use Rattle.ruleset_run.specs.Cutting.{Lates, late_tokens}
use Rattle.ruleset_run.specs.Filling.{Part, OneToken, OneCall, Matched, Filling, put, filled, tokens_in}
use Rattle.ruleset_run.specs.inner.Filler.{fronts_parts, parts_of, StandBy, Stand, Gain, FillsFault, StepFault, StepFills}
use Rattle.ruleset_run.proofs.Moves.{tokens_append}

pub put_put : (a b : List Part) (f : Filling) → put a (put b f) ≡ put (a ++ b) f
put_put a b (Ok full) = ap (λ ps. Ok (record full { parts = ps })) (sym (append_assoc a b full.parts))
put_put a b (Err fault) = refl

-- the operators and the macros are as they were
pub step_as_before : (maps : Loaded) (o o' : List ℕ) (m m' : Macros) → o ≡ o' → m ≡ m' → (found : Matched) (step : Step) (old : Parts) (before : Macros) (new : Parts) (after : Macros) (r : Result (Unit {0}) RunFault)
    → StepFills (filled maps o (late_tokens o m) found) step old before new after r → StepFills (filled maps o' (late_tokens o' m') found) step old before new after r
step_as_before maps o o' m m' e f found step old before new after r h =
    subst (λ x. StepFills (filled maps o' (late_tokens o' x) found) step old before new after r) f (subst (λ x. StepFills (filled maps x (late_tokens x m) found) step old before new after r) e h)

module _ (fill : List Step → Macros → Filling) (steps : List Step) (i : ℕ) (step : Step) (ahead : drop i steps ≡ step ∷ drop (i + 1) steps) (start now : Macros) (given : List Part)
    (whole : fill steps start ≡ put given (fill (drop i steps) now)) where
  pub fill_more : (after : Macros) (added : List Part) → ((more : List Step) → fill (step ∷ more) now ≡ put added (fill more after)) → fill steps start ≡ put (given ++ added) (fill (drop (i + 1) steps) after)
  fill_more after added adds = whole ∙ ap (λ s. put given (fill s now)) ahead ∙ ap (put given) (adds (drop (i + 1) steps)) ∙ put_put given added (fill (drop (i + 1) steps) after)

  fails_as : (fault : RunFault) → ((more : List Step) → fill (step ∷ more) now ≡ Err fault) → fill steps start ≡ Err fault
  fails_as fault h = whole ∙ ap (λ s. put given (fill s now)) ahead ∙ ap (put given) (h (drop (i + 1) steps))

  pub fill_fails : (e : RunFault) → StepFault e (λ f. (more : List Step) → fill (step ∷ more) now ≡ f) → FillsFault e (fill steps start)
  fill_fails faults.NoMemory h = tt
  fill_fails e h = fails_as e h

-- ---- tokens before calls, and behind the last

map_append : (a b : List Token) → map OneToken (a ++ b) ≡ map OneToken a ++ map OneToken b
map_append [] b = refl
map_append (t ∷ a) b = ap (λ (ps : List Part). OneToken t ∷ ps) (map_append a b)

-- tokens that are parts hold as many tokens as they are
pub tokens_mapped : (tokens : List Token) → tokens_in (map OneToken tokens) ≡ length tokens
tokens_mapped [] = refl
tokens_mapped (t ∷ tokens) = let e = tokens_mapped tokens in omega arith

parts_size : (fronts : List (List Token)) (last : List Token) → tokens_in (parts_of fronts last) ≡ tokens_in (fronts_parts fronts) + length last
parts_size fronts last = tokens_append (fronts_parts fronts) (map OneToken last) ∙ ap (λ n. tokens_in (fronts_parts fronts) + n) (tokens_mapped last)

parts_more : (fronts : List (List Token)) (last more : List Token) → parts_of fronts (last ++ more) ≡ parts_of fronts last ++ map OneToken more
parts_more fronts last more = ap (λ ps. fronts_parts fronts ++ ps) (map_append last more) ∙ sym (append_assoc (fronts_parts fronts) (map OneToken last) (map OneToken more))

fronts_append : (a b : List (List Token)) → fronts_parts (a ++ b) ≡ fronts_parts a ++ fronts_parts b
fronts_append [] b = refl
fronts_append (front ∷ a) b = ap (λ ps. map OneToken front ++ OneCall ∷ ps) (fronts_append a b) ∙ sym (append_assoc (map OneToken front) (OneCall ∷ fronts_parts a) (fronts_parts b))

parts_call : (fronts : List (List Token)) (last : List Token) → parts_of (fronts ++ last ∷ []) [] ≡ parts_of fronts last ++ OneCall ∷ []
parts_call fronts last = append-nil (fronts_parts (fronts ++ last ∷ [])) ∙ fronts_append fronts (last ∷ []) ∙ sym (append_assoc (fronts_parts fronts) (map OneToken last) (OneCall ∷ []))

-- the last call with the tokens before it
pub fronts_popped : (old new : List (List Token)) (front : List Token) → old ≡ new ++ front ∷ [] → fronts_parts old ≡ (fronts_parts new ++ map OneToken front) ++ OneCall ∷ []
fronts_popped old new front is = ap fronts_parts is ∙ fronts_append new (front ∷ []) ∙ sym (append_assoc (fronts_parts new) (map OneToken front) (OneCall ∷ []))

pub front_size : (new : List (List Token)) (front : List Token) → tokens_in (fronts_parts new ++ map OneToken front) ≡ tokens_in (fronts_parts new) + length front
front_size new front = parts_size new front

pub popped_size : (old new : List (List Token)) (front : List Token) → old ≡ new ++ front ∷ [] → tokens_in (fronts_parts old) ≡ tokens_in (fronts_parts new) + length front
popped_size old new front is = let e = ap tokens_in (fronts_popped old new front is) ∙ tokens_append (fronts_parts new ++ map OneToken front) (OneCall ∷ []) in omega (arith, e, front_size new front)

-- few tokens in all are few before the last call
pub fronts_few : (fronts : List (List Token)) (last : List Token) (count : ℕ) → count ≡ tokens_in (fronts_parts fronts) → tokens_in (parts_of fronts last) ≤ 2000 → count ≤ 2000
fronts_few fronts last count is few = omega (arith, is, few, parts_size fronts last)

-- ---- parts that are kept, or are too many

stand_longer : (given added : List Part) → 2000 < tokens_in given → 2000 < tokens_in (given ++ added)
stand_longer given added h = let e = tokens_append given added in omega arith

-- a list that was too long before is so with more
pub gain_long : (old new : Parts) (added : List Part) → old.is_long ≡ true → new ≡ old → Gain old new added
gain_long old new added is same given h =
    let long : StandBy true old.fronts old.last old.count given = subst (λ b. StandBy b old.fronts old.last old.count given) is h in
    subst (λ (p : Parts). Stand p (given ++ added)) (sym same) (subst (λ b. StandBy b old.fronts old.last old.count (given ++ added)) (sym is) (stand_longer given added long))

module _ (old new : Parts) (is : old.is_long ≡ false) where
  kept_so : (given : List Part) → Stand old given → StandBy false old.fronts old.last old.count given
  kept_so given h = subst (λ b. StandBy b old.fronts old.last old.count given) is h

  -- so many tokens are kept
  kept_size : (given : List Part) → Stand old given → tokens_in given ≡ old.count + length old.last
  kept_size given h =
      let k = kept_so given h in
      ap tokens_in (sym k.0) ∙ parts_size old.fronts old.last ∙ ap (λ n. n + length old.last) (sym k.1)

  -- a list that becomes too long is no longer kept
  pub gain_over : (more : List Token) → new.is_long ≡ true → 2000 - old.count - length old.last < length more → Gain old new (map OneToken more)
  gain_over more now over given h =
      let k = kept_so given h in
      let few = k.2 in
      let size = kept_size given h in
      let e = tokens_append given (map OneToken more) in
      let n = tokens_mapped more in
      subst (λ b. StandBy b new.fronts new.last new.count (given ++ map OneToken more)) (sym now) (omega arith)

  -- tokens are added at the end
  pub gain_tokens : (more : List Token) → new.is_long ≡ false → new.fronts ≡ old.fronts → new.last ≡ old.last ++ more → new.count ≡ old.count → length more ≤ 2000 - old.count - length old.last → Gain old new (map OneToken more)
  gain_tokens more now fronts_are last_is count_is fits given h =
      let k = kept_so given h in
      let few = k.2 in
      let size = kept_size given h in
      let e = tokens_append given (map OneToken more) in
      let n = tokens_mapped more in
      subst (λ b. StandBy b new.fronts new.last new.count (given ++ map OneToken more)) (sym now) (
        ap (λ fs. parts_of fs new.last) fronts_are ∙ ap (parts_of old.fronts) last_is ∙ parts_more old.fronts old.last more ∙ ap (λ ps. ps ++ map OneToken more) k.0,
        count_is ∙ k.1 ∙ ap (λ fs. tokens_in (fronts_parts fs)) (sym fronts_are),
        omega arith,
      )

  -- a call is added at the end
  pub gain_call : new.is_long ≡ false → new.fronts ≡ old.fronts ++ old.last ∷ [] → new.last ≡ [] → (old.count + length old.last ≤ 2000 → new.count ≡ old.count + length old.last) → Gain old new (OneCall ∷ [])
  gain_call now fronts_are last_is count_is given h =
      let k = kept_so given h in
      let few = k.2 in
      let size = kept_size given h in
      let e = tokens_append given (OneCall ∷ []) in
      let counted = count_is (omega arith) in
      let before = ap (λ fs. tokens_in (fronts_parts fs)) fronts_are ∙ ap tokens_in (sym (append-nil (fronts_parts (old.fronts ++ old.last ∷ [])))) ∙ ap tokens_in (parts_call old.fronts old.last) ∙ ap (λ ps. tokens_in (ps ++ OneCall ∷ [])) k.0 in
      subst (λ b. StandBy b new.fronts new.last new.count (given ++ OneCall ∷ [])) (sym now) (
        ap (λ fs. parts_of fs new.last) fronts_are ∙ ap (parts_of (old.fronts ++ old.last ∷ [])) last_is ∙ parts_call old.fronts old.last ∙ ap (λ ps. ps ++ OneCall ∷ []) k.0,
        omega arith,
        omega arith,
      )

pub gain_tokens_on : (old : Parts) → old.is_long ≡ false → (r : Result (Unit {0}) NoMemory) (more last : List Token) → length more ≤ 2000 - old.count - length old.last → OnOk r (last ≡ old.last ++ more) → OnOk r (Gain old (record old { last = last }) (map OneToken more))
gain_tokens_on old is (Ok done) more last fits ok = gain_tokens old (record old { last = last }) is more is refl ok refl fits
gain_tokens_on old is (Err e) more last fits ok = tt

pub gain_call_on : (old : Parts) → old.is_long ≡ false → (r : Result (Unit {0}) NoMemory) (fronts : List (List Token)) (front last : List Token) (count : ℕ) → front ≡ old.last → last ≡ [] → (old.count + length old.last ≤ 2000 → count ≡ old.count + length old.last) → OnOk r (fronts ≡ old.fronts ++ front ∷ [])
    → OnOk r (Gain old (record { fronts = fronts; last = last; count = count; is_long = old.is_long }) (OneCall ∷ []))
gain_call_on old is (Ok done) fronts front last count front_is empty count_is ok = gain_call old (record { fronts = fronts; last = last; count = count; is_long = old.is_long }) is is (ok ∙ ap (λ one. old.fronts ++ one ∷ []) front_is) empty count_is
gain_call_on old is (Err e) fronts front last count front_is empty count_is ok = tt

-- no step is left
pub fill_last : (loaded : Loaded) (o : List ℕ) (late : Lates) (found : Matched) (steps : List Step) (i : ℕ) (start now end : Macros) (given : List Part) → length steps ≤ i → filled loaded o late found steps start ≡ put given (filled loaded o late found (drop i steps) now) → end ≡ now
    → filled loaded o late found steps start ≡ Ok (record { parts = given; macros = end })
fill_last loaded o late found steps i start now end given over whole is =
    whole ∙ ap (λ s. put given (filled loaded o late found s now)) (drop_all i steps over) ∙ ap (λ ps. Ok (record { parts = ps; macros = now })) (append-nil given) ∙ ap (λ x. Ok (record { parts = given; macros = x })) (sym is)

-- the steps from a place on are the step there and those after it
pub ahead_at : (steps : List Step) (i : ℕ) (step : Step) → i < length steps → step ≡ get_or steps i step → drop i steps ≡ step ∷ drop (i + 1) steps
ahead_at steps i step below is = drop_more steps i step below ∙ ap (λ x. x ∷ drop (i + 1) steps) (sym is)
