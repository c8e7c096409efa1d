-- What a stack of levels comes to, step by step.
use Rattle.std.proofs.Common.{◌≡◌, ℕ, zero, suc, ◌-◌, ◌<◌, ◌≤◌, List, [], ◌∷◌, ◌++◌, length, map, refl, ap, sym, ◌∙◌, arith, append_assoc, append-nil, length-append, Option, None, Result, Ok, Err, Bool, true, false, if◌then◌else◌}
use Rattle.std.specs.List.{list_any}
use Rattle.std.specs.Prelude.{◌||◌}
use Rattle.cf_macros.specs.declared.fault.ExpandFault.{ExpandFault}
use Rattle.cf_macros.specs.declared.fault.ExpandFault.TheVariants.{Unclosed, Deep, Large, NoMemory}
use Rattle.cf_macros.specs.declared.level.Level.{Level}
use Rattle.cf_macros.specs.declared.level.Given.{Given}
use Rattle.cf_macros.specs.Expansion.{Act, Gives, Follows, Fails, silent, gives_any, followed, with_byte, outcome}
use Rattle.cf_macros.specs.inner.Levels.{Above, above, either, waiting, under, stacked, told, room, ending, is_silent, level_rest, top, Goes, StopsBy, Stops, IsGiven, KeepsOut, Overflows, gave_after}
use Rattle.cf_macros.specs.inner.Insides.{inside, inside_other}

-- ---- acts

-- nothing given in front changes nothing
pub told-none : (result : Result (List ℕ) ExpandFault) → told [] result ≡ result
told-none (Ok text) = refl
told-none (Err fault) = refl

told-byte : (byte : ℕ) (bytes : List ℕ) (result : Result (List ℕ) ExpandFault) → with_byte byte (told bytes result) ≡ told (byte ∷ bytes) result
told-byte byte bytes (Ok text) = refl
told-byte byte bytes (Err fault) = refl

told-again : (one other : List ℕ) (result : Result (List ℕ) ExpandFault) → told one (told other result) ≡ told (one ++ other) result
told-again one other (Ok text) = ap Ok (sym (append_assoc one other text))
told-again one other (Err fault) = refl

-- bytes that fit and are given first stand in front of what the other acts come to
pub outcome-gives : (references bytes : ℕ) (given : List ℕ) (acts : List Act) → length given ≤ bytes → outcome references bytes (map Gives given ++ acts) ≡ told given (outcome references (bytes - length given) acts)
outcome-gives references bytes [] acts h = let e : bytes - 0 ≡ bytes = omega arith in rw e (sym (told-none (outcome references bytes acts)))
outcome-gives references zero (byte ∷ given) acts h = absurd (omega arith)
outcome-gives references (suc bytes) (byte ∷ given) acts h =
    let e : suc bytes - suc (length given) ≡ bytes - length given = omega arith in
    ap (with_byte byte) (outcome-gives references bytes given acts (omega arith))
    ∙ told-byte byte given (outcome references (bytes - length given) acts)
    ∙ ap (λ n. told (byte ∷ given) (outcome references n acts)) (sym e)

outcome-large : (references bytes : ℕ) (given : List ℕ) (acts : List Act) → bytes < length given → outcome references bytes (map Gives given ++ acts) ≡ Err Large
outcome-large references bytes [] acts h = absurd (omega arith)
outcome-large references zero (byte ∷ given) acts h = refl
outcome-large references (suc bytes) (byte ∷ given) acts h = ap (with_byte byte) (outcome-large references bytes given acts (omega arith))

-- ---- stacks

-- the level on top is the last of a stack, with the levels that are left there
pub stacked-append : (levels : ℕ) (macros : List (List ℕ × List ℕ)) (below : List Level) (level : Level) (over : Above) →
    stacked levels macros (below ++ level ∷ []) over ≡ stacked levels macros below (under (followed level.scope (levels - length below) macros) level over)
stacked-append levels macros [] level over = let e : levels - 0 ≡ levels = omega arith in rw e refl
stacked-append levels macros (first ∷ below) level over =
    let e : levels - 1 - length below ≡ levels - suc (length below) = omega arith in
    ap (under (followed first.scope levels macros) first) (stacked-append (levels - 1) macros below level over ∙ ap (λ n. stacked (levels - 1) macros below (under (followed level.scope n macros) level over)) e)

-- ---- a byte that is given while a test is open is noted, and nothing else

silent-gives : (byte : ℕ) (bytes : List ℕ) (acts : List Act) → silent (map Gives (byte ∷ bytes) ++ acts) ≡ silent acts
silent-gives byte [] acts = refl
silent-gives byte (next ∷ bytes) acts = silent-gives next bytes acts

either-true : (b : Bool) → either b true ≡ true
either-true true = refl
either-true false = refl

-- where no level waits for its test, what has been given is given first
pub record GivesFirst (bytes : List ℕ) (one other : Above) : Type 0 where
  pub acts : one.acts ≡ map Gives bytes ++ other.acts
  pub given : other.given ≡ true

waits-gives : (tests : Bool) (gave : Bool) (here there : List Act) (byte : ℕ) (bytes : List ℕ) (one other : Above) → GivesFirst (byte ∷ bytes) one other → tests ≡ false → GivesFirst (byte ∷ bytes) (waiting tests gave here there one) (waiting tests gave here there other)
waits-gives true gave here there byte bytes one other h e = absurd (cc)
waits-gives false gave here there byte bytes one other h e = record {
  acts = ap (λ acts. acts ++ here) h.acts ∙ append_assoc (map Gives (byte ∷ bytes)) other.acts here;
  given = rw h.given refl;
}

tests-gives : (tests : Bool) (gave : Bool) (here there : List Act) (byte : ℕ) (bytes : List ℕ) (one other : Above) → GivesFirst (byte ∷ bytes) one other → tests ≡ true → waiting tests gave here there one ≡ waiting tests gave here there other
tests-gives false gave here there byte bytes one other h e = absurd (cc)
tests-gives true gave here there byte bytes one other h e =
    rw (h.acts, h.given, silent-gives byte bytes other.acts, either-true one.given) refl

either-cases : (one other : Bool) → either one other ≡ false → (one ≡ false) × (other ≡ false)
either-cases true other e = absurd (cc)
either-cases false other e = (refl, e)

stacked-shown : (levels : ℕ) (macros : List (List ℕ × List ℕ)) (below : List Level) (byte : ℕ) (bytes : List ℕ) (one other : Above) → GivesFirst (byte ∷ bytes) one other → is_silent below ≡ false →
    GivesFirst (byte ∷ bytes) (stacked levels macros below one) (stacked levels macros below other)
stacked-shown levels macros [] byte bytes one other h e = h
stacked-shown levels macros (level ∷ below) byte bytes one other h e =
    let both = either-cases level.tests (is_silent below) e in
    waits-gives level.tests level.gave (inside (followed level.scope levels macros) level.depth (level_rest level)) (inside_other (followed level.scope levels macros) level.depth (level_rest level)) byte bytes (stacked (levels - 1) macros below one) (stacked (levels - 1) macros below other) (stacked-shown (levels - 1) macros below byte bytes one other h both.1) both.0

stacked-kept : (levels : ℕ) (macros : List (List ℕ × List ℕ)) (below : List Level) (byte : ℕ) (bytes : List ℕ) (one other : Above) → GivesFirst (byte ∷ bytes) one other → is_silent below ≡ true →
    stacked levels macros below one ≡ stacked levels macros below other
stacked-kept levels macros [] byte bytes one other h e = absurd (cc)
stacked-kept levels macros (level ∷ below) byte bytes one other h e = by_inner (is_silent below) refl (stacked-kept (levels - 1) macros below byte bytes one other h)
  where
    waits : (one other : Bool) → either one other ≡ true → other ≡ false → one ≡ true
    waits true other e i = refl
    waits false other e i = absurd (cc)

    by_inner : (inner : Bool) → is_silent below ≡ inner → (is_silent below ≡ true → stacked (levels - 1) macros below one ≡ stacked (levels - 1) macros below other) → under (followed level.scope levels macros) level (stacked (levels - 1) macros below one) ≡ under (followed level.scope levels macros) level (stacked (levels - 1) macros below other)
    by_inner true i inner = ap (under (followed level.scope levels macros) level) (inner i)
    by_inner false i inner = tests-gives level.tests level.gave (inside (followed level.scope levels macros) level.depth (level_rest level)) (inside_other (followed level.scope levels macros) level.depth (level_rest level)) byte bytes (stacked (levels - 1) macros below one) (stacked (levels - 1) macros below other) (stacked-shown (levels - 1) macros below byte bytes one other h i) (waits level.tests (is_silent below) e i)

-- ---- a reference that is followed comes first, and so does a refusal

-- a reference that is followed, before all other acts
abbrev pub following : Above → Above
following over = above over.given (Follows ∷ over.acts)

waits-follows : (tests gave : Bool) (here there : List Act) (over : Above) → waiting tests gave here there (following over) ≡ following (waiting tests gave here there over)
waits-follows true gave here there over = refl
waits-follows false gave here there over = refl

-- a reference that is followed on top is so before all that waits for it
pub stacked-follows : (levels : ℕ) (macros : List (List ℕ × List ℕ)) (below : List Level) (over : Above) → stacked levels macros below (following over) ≡ following (stacked levels macros below over)
stacked-follows levels macros [] over = refl
stacked-follows levels macros (level ∷ below) over =
    ap (under (followed level.scope levels macros) level) (stacked-follows (levels - 1) macros below over)
    ∙ waits-follows level.tests level.gave (inside (followed level.scope levels macros) level.depth (level_rest level)) (inside_other (followed level.scope levels macros) level.depth (level_rest level)) (stacked (levels - 1) macros below over)

-- the first act is a refusal
pub record Refuses (fault : ExpandFault) (over : Above) : Type 0 where
  pub more : List Act
  pub acts : over.acts ≡ Fails fault ∷ more

waits-refuses : (tests gave : Bool) (here there : List Act) (fault : ExpandFault) (over : Above) → Refuses fault over → Refuses fault (waiting tests gave here there over)
waits-refuses true gave here there fault over h = record { more = _; acts = ap (λ acts. silent acts ++ (if either over.given (gives_any over.acts) then here else there)) h.acts }
waits-refuses false gave here there fault over h = record { more = _; acts = ap (λ acts. acts ++ here) h.acts }

stacked-refuses : (levels : ℕ) (macros : List (List ℕ × List ℕ)) (below : List Level) (fault : ExpandFault) (over : Above) → Refuses fault over → Refuses fault (stacked levels macros below over)
stacked-refuses levels macros [] fault over h = h
stacked-refuses levels macros (level ∷ below) fault over h =
    waits-refuses level.tests level.gave (inside (followed level.scope levels macros) level.depth (level_rest level)) (inside_other (followed level.scope levels macros) level.depth (level_rest level)) fault (stacked (levels - 1) macros below over) (stacked-refuses (levels - 1) macros below fault over h)

-- a refusal on top is what the whole comes to
pub ending-refuses : (below : List Level) (macros : List (List ℕ × List ℕ)) (references : ℕ) (given : List ℕ) (fault : ExpandFault) (over : Above) → Refuses fault over → ending below macros references given over ≡ Err fault
ending-refuses below macros references given fault over h =
    ap (λ acts. told given (outcome references (room given) acts)) (stacked-refuses 10 macros below fault over h).acts

-- ---- what is given in a level that waits for no test

-- the one gives these bytes first and is then the other
abbrev pub GivesTop : List ℕ → Above → Above → Type 0
GivesTop [] one other = one ≡ other
GivesTop (byte ∷ bytes) one other = GivesFirst (byte ∷ bytes) one other

room-append : (given bytes : List ℕ) → room (given ++ bytes) ≡ room given - length bytes
unfolding room
room-append given bytes = omega (arith, length-append given bytes)

ending-shown : (below : List Level) (macros : List (List ℕ × List ℕ)) (references : ℕ) (given : List ℕ) (byte : ℕ) (bytes : List ℕ) (one other : Above) → GivesFirst (byte ∷ bytes) one other → is_silent below ≡ false → length (byte ∷ bytes) ≤ room given →
    ending below macros references (given ++ byte ∷ bytes) other ≡ ending below macros references given one
ending-shown below macros references given byte bytes one other h e fits =
    let acts = (stacked-shown 10 macros below byte bytes one other h e).acts in
    let later : List Act = (stacked 10 macros below other).acts in
    ap (λ n. told (given ++ byte ∷ bytes) (outcome references n later)) (room-append given (byte ∷ bytes))
    ∙ sym (told-again given (byte ∷ bytes) (outcome references (room given - length (byte ∷ bytes)) later))
    ∙ ap (told given) (sym (outcome-gives references (room given) (byte ∷ bytes) later fits))
    ∙ ap (λ acts. told given (outcome references (room given) acts)) (sym acts)

ending-large : (below : List Level) (macros : List (List ℕ × List ℕ)) (references : ℕ) (given bytes : List ℕ) (one other : Above) → GivesTop bytes one other → is_silent below ≡ false → room given < length bytes →
    ending below macros references given one ≡ Err Large
ending-large below macros references given [] one other h e large = absurd (omega arith)
ending-large below macros references given (byte ∷ bytes) one other h e large =
    ap (λ acts. told given (outcome references (room given) acts)) (stacked-shown 10 macros below byte bytes one other h e).acts
    ∙ ap (told given) (outcome-large references (room given) (byte ∷ bytes) (stacked 10 macros below other).acts large)

ending-gives : (below : List Level) (macros : List (List ℕ × List ℕ)) (references : ℕ) (was now bytes : List ℕ) (one other : Above) (silent : Bool) → GivesTop bytes one other → is_silent below ≡ silent →
    (silent ≡ true → now ≡ was) → (silent ≡ false → now ≡ was ++ bytes) → (silent ≡ false → length bytes ≤ room was) →
    ending below macros references now other ≡ ending below macros references was one
ending-gives below macros references was now [] one other true h e kept given fits =
    ap (λ over. ending below macros references now over) (sym h) ∙ ap (λ text. ending below macros references text one) (kept refl)
ending-gives below macros references was now [] one other false h e kept given fits =
    ap (λ over. ending below macros references now over) (sym h) ∙ ap (λ text. ending below macros references text one) (given refl ∙ append-nil was)
ending-gives below macros references was now (byte ∷ bytes) one other true h e kept given fits =
    ap (λ text. ending below macros references text other) (kept refl)
    ∙ ap (λ over. told was (outcome references (room was) over.acts)) (sym (stacked-kept 10 macros below byte bytes one other h e))
ending-gives below macros references was now (byte ∷ bytes) one other false h e kept given fits =
    ap (λ text. ending below macros references text other) (given refl)
    ∙ ending-shown below macros references was byte bytes one other h e (fits refl)

-- two levels that wait for no test, of which one gives bytes and then is the other
gives-top : (f : List ℕ → List Act) (old new : Level) (bytes : List ℕ) → old.tests ≡ false → new.tests ≡ false → new.gave ≡ gave_after old.gave bytes →
    inside f old.depth (level_rest old) ≡ map Gives bytes ++ inside f new.depth (level_rest new) → GivesTop bytes (top f old None) (top f new None)
gives-top f old new [] o n g e = rw (o, n, g, e) refl
gives-top f old new (byte ∷ bytes) o n g e = rw (o, n) (record { acts = e; given = g })

-- a level whose next acts are the bytes that were given goes on behind them
pub goes-give : (old new : Level) (was now : Given) (bytes : List ℕ) → IsGiven was bytes now → old.tests ≡ false → new.tests ≡ false → new.gave ≡ gave_after old.gave bytes → new.scope ≡ old.scope →
    ((f : List ℕ → List Act) → inside f old.depth (level_rest old) ≡ map Gives bytes ++ inside f new.depth (level_rest new)) → Goes old was new now None
goes-give old new was now bytes given o n g s e = record {
  same = λ below macros references silent.
      ap (λ scope. ending below macros references now.text (top (followed scope (10 - length below) macros) new None)) s
      ∙ ending-gives below macros references was.text now.text bytes (top (followed old.scope (10 - length below) macros) old None) (top (followed old.scope (10 - length below) macros) new None) was.silent (gives-top (followed old.scope (10 - length below) macros) old new bytes o n g (e (followed old.scope (10 - length below) macros))) silent given.kept given.given given.fits;
  silent = given.silent;
}

gives-first : (f : List ℕ → List Act) (old : Level) (bytes : List ℕ) (later : List Act) → old.tests ≡ false →
    inside f old.depth (level_rest old) ≡ map Gives bytes ++ later → GivesTop bytes (top f old None) (above (gave_after old.gave bytes) later)
gives-first f old [] later o e = rw (o, e) refl
gives-first f old (byte ∷ bytes) later o e = rw o (record { acts = e; given = refl })

stops-large : (old : Level) (was : Given) (bytes : List ℕ) (later : (List ℕ → List Act) → List Act) → Overflows was bytes → old.tests ≡ false →
    ((f : List ℕ → List Act) → inside f old.depth (level_rest old) ≡ map Gives bytes ++ later f) → StopsBy Large old was
stops-large old was bytes later over o e = record {
  stops = λ below macros references silent. ending-large below macros references was.text bytes (top (followed old.scope (10 - length below) macros) old None) (above (gave_after old.gave bytes) (later (followed old.scope (10 - length below) macros))) (gives-first (followed old.scope (10 - length below) macros) old bytes (later (followed old.scope (10 - length below) macros)) o (e (followed old.scope (10 - length below) macros))) (silent ∙ over.shown) over.large;
}

-- a level whose next bytes were kept out stops with that refusal
pub stops-refusal : (old : Level) (was : Given) (bytes : List ℕ) (later : (List ℕ → List Act) → List Act) (fault : ExpandFault) → KeepsOut fault was bytes → old.tests ≡ false →
    ((f : List ℕ → List Act) → inside f old.depth (level_rest old) ≡ map Gives bytes ++ later f) → Stops fault old was
stops-refusal old was bytes later (Unclosed place) refused o e = absurd refused
stops-refusal old was bytes later Deep refused o e = absurd refused
stops-refusal old was bytes later Large refused o e = stops-large old was bytes later refused o e
stops-refusal old was bytes later NoMemory refused o e = tt

-- a refused level
pub stops-refused : (old : Level) (was : Given) (fault : ExpandFault) → old.tests ≡ false → ((f : List ℕ → List Act) → Refuses fault (above false (inside f old.depth (level_rest old)))) → StopsBy fault old was
stops-refused old was fault o h = record {
  stops = λ below macros references silent. ending-refuses below macros references was.text fault (top (followed old.scope (10 - length below) macros) old None) (refuses (followed old.scope (10 - length below) macros));
}
  where
    refuses : (f : List ℕ → List Act) → Refuses fault (top f old None)
    refuses f = rw o (record { more = (h f).more; acts = (h f).acts })

-- levels that come to the same
pub goes-same : (old new : Level) (was : Given) (name : Option (List ℕ)) → new.scope ≡ old.scope → ((f : List ℕ → List Act) → top f new name ≡ top f old None) → Goes old was new was name
goes-same old new was name s e = record {
  same = λ below macros references silent.
      ap (λ scope. ending below macros references was.text (top (followed scope (10 - length below) macros) new name)) s
      ∙ ap (ending below macros references was.text) (e (followed old.scope (10 - length below) macros));
  silent = refl;
}

-- the test over all levels
pub any-silent : (below : List Level) → list_any (λ (level : Level). level.tests) below ≡ is_silent below
any-silent [] = refl
any-silent (level ∷ below) = by_test level.tests (any-silent below)
  where
    by_test : (tests : Bool) → list_any (λ (level : Level). level.tests) below ≡ is_silent below → (tests || list_any (λ (level : Level). level.tests) below) ≡ either tests (is_silent below)
    by_test true e = refl
    by_test false e = e
