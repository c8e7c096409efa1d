-- How a run goes on where a level ends, and where a reference is followed.
use Rattle.std.proofs.Common.{◌≡◌, ℕ, zero, suc, ◌+◌, ◌-◌, ◌<◌, ◌≤◌, List, [], ◌∷◌, ◌++◌, length, refl, ap, sym, ◌∙◌, arith, append-nil, length-append, Option, None, Some, Ok, Err, false, Bor}
use Rattle.std.specs.Prelude.{is_some, option_copied, unwrap_or, IfNone}
use Rattle.mail_base.specs.Catalogs.{value_at}
use Rattle.cf_macros.specs.declared.fault.ExpandFault.TheVariants.{Deep, Large}
use Rattle.cf_macros.specs.declared.level.Level.{Level}
use Rattle.cf_macros.specs.declared.level.Given.{Given}
use Rattle.cf_macros.specs.declared.run.Run.{Run}
use Rattle.cf_macros.specs.declared.scope.Scope.{Scope}
use Rattle.cf_macros.specs.Readings.{Nothing, Last, reading}
use Rattle.cf_macros.specs.Expansion.{Act, Follows, Fails, whole, followed, outcome, value_in}
use Rattle.cf_macros.specs.inner.Insides.{rest_at, inside}
use Rattle.cf_macros.specs.inner.Levels.{above, stacked, top, told, room, ending, state, is_silent, level_rest, Goes, IsAtEnd, IsNew, Resumes}
use Rattle.cf_macros.specs.inner.Runs.{left, comes_to, Finishes}
use Rattle.cf_macros.proofs.ReadingLemmas.{rest-end}
use Rattle.cf_macros.proofs.StackLemmas.{stacked-append, stacked-follows, ending-refuses, told-none}

-- nothing is left of a level at its end
top-end : (f : List ℕ → List Act) (level : Level) → IsAtEnd level → top f level None ≡ above level.gave []
top-end f level end =
    let none : inside f level.depth (level_rest level) ≡ [] = ap (inside f level.depth) (rest-end level.scope level.text.now level.place end.end) ∙ nothing level.depth in
    rw (end.reads, none) refl
  where
    nothing : (depth : ℕ) → inside f depth (Last Nothing) ≡ []
    nothing zero = refl
    nothing (suc depth) = refl

-- a level that goes on to no reference goes on to none by any name
pub none-goes : (old : Level) (was : Given) (new : Level) (now : Given) (name : Option (Bor (List ℕ))) → is_some name ≡ false → Goes old was new now (option_copied name) → Goes old was new now None
none-goes old was new now None e goes = goes
none-goes old was new now (Some name) e goes = absurd (cc)

-- a run whose last level is at its end has given its whole text
pub run-ends : (start : Run) (below : List Level) (count : ℕ) (old level : Level) (was now : Given) →
    ((macros : List (List ℕ × List ℕ)) → state below macros (left count) was.text old None ≡ comes_to macros start None) →
    Goes old was level now None → is_silent below ≡ was.silent → below ≡ [] → IsAtEnd level → Finishes start now.text
run-ends start below count old level was now same goes silent empty end = record {
  same = λ macros.
      sym (same macros) ∙ sym (goes.same below macros (left count) silent)
      ∙ ap (λ below. state below macros (left count) now.text level None) empty
      ∙ ap (λ over. told now.text (outcome (left count) (room now.text) over.acts)) (top-end (followed level.scope 10 macros) level end)
      ∙ ap Ok (append-nil now.text);
}

-- a run whose top level is at its end comes to the same with the level below, resumed
pub run-resumes : (start : Run) (below front : List Level) (outer : Level) (count : ℕ) (old level next : Level) (was now : Given) →
    ((macros : List (List ℕ × List ℕ)) → state below macros (left count) was.text old None ≡ comes_to macros start None) →
    Goes old was level now None → is_silent below ≡ was.silent → below ≡ front ++ outer ∷ [] → IsAtEnd level → Resumes outer level.gave next →
    (macros : List (List ℕ × List ℕ)) → state front macros (left count) now.text next None ≡ comes_to macros start None
run-resumes start below front outer count old level next was now same goes silent joined end resumes macros =
    ap (λ scope. ending front macros (left count) now.text (top (followed scope (10 - length front) macros) next None)) resumes.scoped
    ∙ ap (λ over. ending front macros (left count) now.text over) (resumes.same (followed outer.scope (10 - length front) macros))
    ∙ ap (λ over. told now.text (outcome (left count) (room now.text) over.acts)) (sym (stacked-append 10 macros front outer (above level.gave [])))
    ∙ ap (λ over. ending (front ++ outer ∷ []) macros (left count) now.text over) (sym (top-end (followed level.scope (10 - length (front ++ outer ∷ [])) macros) level end))
    ∙ ap (λ below. state below macros (left count) now.text level None) (sym joined)
    ∙ goes.same below macros (left count) silent
    ∙ same macros

-- a level that came to no reference is at its end
pub none-end : (name : Option (Bor (List ℕ))) (level : Level) → is_some name ≡ false → IfNone name (IsAtEnd level) → IsAtEnd level
none-end None level e end = end
none-end (Some name) level e end = absurd (cc)

-- ---- a reference above the levels

followed-zero : (scope : Scope) (levels : ℕ) (macros : List (List ℕ × List ℕ)) (name : List ℕ) → levels ≡ 0 → followed scope levels macros name ≡ Fails Deep ∷ []
unfolding followed
followed-zero scope levels macros name e = rw e refl

followed-suc : (scope : Scope) (levels less : ℕ) (macros : List (List ℕ × List ℕ)) (name : List ℕ) → levels ≡ suc less → followed scope levels macros name ≡ Follows ∷ whole (followed scope less macros) (reading scope 0 0 (unwrap_or (value_at name macros) []))
unfolding followed
followed-suc scope levels less macros name e = rw e refl

-- the level on top waits like those below it
on-top : (below : List Level) (macros : List (List ℕ × List ℕ)) (references : ℕ) (given : List ℕ) (level : Level) (name : List ℕ) →
    state below macros references given level (Some name) ≡ ending (below ++ level ∷ []) macros references given (above false (followed level.scope (10 - length below) macros name))
on-top below macros references given level name =
    ap (λ over. told given (outcome references (room given) over.acts)) (sym (stacked-append 10 macros below level (above false (followed level.scope (10 - length below) macros name))))

-- a reference over ten levels that wait is refused as too deep
pub too-deep : (below : List Level) (macros : List (List ℕ × List ℕ)) (references : ℕ) (given : List ℕ) (level : Level) (name : List ℕ) → 10 ≤ length below → state below macros references given level (Some name) ≡ Err Deep
too-deep below macros references given level name h =
    on-top below macros references given level name
    ∙ ending-refuses (below ++ level ∷ []) macros references given Deep (above false (followed level.scope (10 - length below) macros name)) (record { more = []; acts = followed-zero level.scope (10 - length below) macros name (omega arith) })

-- a reference that is followed
followed-first : (below : List Level) (macros : List (List ℕ × List ℕ)) (references : ℕ) (given : List ℕ) (level : Level) (name : List ℕ) (less : ℕ) → 10 - length below ≡ suc less →
    state below macros references given level (Some name) ≡ told given (outcome references (room given) (Follows ∷ (stacked 10 macros (below ++ level ∷ []) (above false (whole (followed level.scope less macros) (reading level.scope 0 0 (unwrap_or (value_at name macros) []))))).acts))
followed-first below macros references given level name less e =
    let reads : List Act = whole (followed level.scope less macros) (reading level.scope 0 0 (unwrap_or (value_at name macros) [])) in
    on-top below macros references given level name
    ∙ ap (λ acts. ending (below ++ level ∷ []) macros references given (above false acts)) (followed-suc level.scope (10 - length below) less macros name e)
    ∙ ap (λ over. told given (outcome references (room given) over.acts)) (stacked-follows 10 macros (below ++ level ∷ []) (above false reads))

-- a reference after 10,000 others is refused as too large
pub too-many : (below : List Level) (macros : List (List ℕ × List ℕ)) (count : ℕ) (given : List ℕ) (level : Level) (name : List ℕ) → length below < 10 → 10000 ≤ count → state below macros (left count) given level (Some name) ≡ Err Large
unfolding left
too-many below macros count given level name h many =
    let e : 10 - length below ≡ suc (9 - length below) = omega arith in
    let none : 10000 - count ≡ 0 = omega arith in
    followed-first below macros (10000 - count) given level name (9 - length below) e
    ∙ rw none refl

new-top : (f : List ℕ → List Act) (scope : Scope) (level : Level) (text : List ℕ) → IsNew scope text level → top f level None ≡ above false (whole f (reading scope 0 0 text))
new-top f scope level text new =
    let at : level_rest level ≡ reading scope 0 0 text = ap (λ s. rest_at s level.text.now level.place) new.scoped ∙ ap (λ t. rest_at scope t level.place) new.same ∙ ap (rest_at scope text) new.place in
    rw (new.reads, new.gave, new.depth, at) refl

-- a reference that is followed comes to the same as its macro's text on a level of its own
pub follows : (below now : List Level) (macros : List (List ℕ × List ℕ)) (count next : ℕ) (given : List ℕ) (level later : Level) (name : List ℕ) → length below < 10 → count < 10000 → next ≡ count + 1 → now ≡ below ++ level ∷ [] → IsNew level.scope (unwrap_or (value_at name macros) []) later →
    state now macros (left next) given later None ≡ state below macros (left count) given level (Some name)
unfolding left
follows below now macros count next given level later name h few counts joined new =
    let e : 10 - length below ≡ suc (9 - length below) = omega arith in
    let one : 10000 - count ≡ suc (10000 - next) = omega arith in
    let levels : 10 - length now ≡ 9 - length below = omega (arith, ap length joined, length-append below (level ∷ [])) in
    let reads : List Act = whole (followed level.scope (9 - length below) macros) (reading level.scope 0 0 (unwrap_or (value_at name macros) [])) in
    ap (λ scope. ending now macros (10000 - next) given (top (followed scope (10 - length now) macros) later None)) new.scoped
    ∙ ap (λ n. ending now macros (10000 - next) given (top (followed level.scope n macros) later None)) levels
    ∙ ap (λ over. ending now macros (10000 - next) given over) (new-top (followed level.scope (9 - length below) macros) level.scope later (unwrap_or (value_at name macros) []) new)
    ∙ ap (λ now. ending now macros (10000 - next) given (above false reads)) joined
    ∙ sym (followed-first below macros (10000 - count) given level name (9 - length below) e ∙ ap (λ n. told given (outcome n (room given) (Follows ∷ (stacked 10 macros (below ++ level ∷ []) (above false reads)).acts))) one)

-- a level that begins a text begins one that is equal to it
pub is-new : (scope : Scope) (bytes text : List ℕ) (level : Level) → bytes ≡ text → IsNew scope bytes level → IsNew scope text level
is-new scope bytes text level e new = record { same = new.same ∙ e; scoped = new.scoped; place = new.place; depth = new.depth; gave = new.gave; reads = new.reads }

-- the whole at its beginning
pub begins : (scope : Scope) (text : List ℕ) (macros : List (List ℕ × List ℕ)) (below : List Level) (given : List ℕ) (level : Level) → below ≡ [] → given ≡ [] → IsNew scope text level → state below macros (left 0) given level None ≡ value_in scope text macros
unfolding left value_in room
begins scope text macros below given level e f new =
    ap (λ below. state below macros 10000 given level None) e
    ∙ ap (λ given. state [] macros 10000 given level None) f
    ∙ ap (λ s. ending [] macros 10000 [] (top (followed s 10 macros) level None)) new.scoped
    ∙ ap (λ over. told [] (outcome 10000 1048576 over.acts)) (new-top (followed scope 10 macros) scope level text new)
    ∙ told-none (outcome 10000 1048576 (whole (followed scope 10 macros) (reading scope 0 0 text)))
