-- How a level goes on at each kind of construct.
use Rattle.std.proofs.Common.{◌≡◌, ℕ, zero, suc, ◌-◌, ◌<◌, ◌≤◌, List, [], ◌++◌, length, map, refl, ap, sym, ◌∙◌, arith, Option, None, Some, Bool, true, false, if◌then◌else◌}
use Rattle.cf_macros.specs.declared.fault.ExpandFault.TheVariants.{Unclosed}
use Rattle.cf_macros.specs.declared.level.Level.{Level}
use Rattle.cf_macros.specs.declared.level.Given.{Given}
use Rattle.cf_macros.specs.Readings.{Nothing, Bytes, Refer, Broken, Reading, Last, BeforeElse, put, second_part, behind_end, closing}
use Rattle.cf_macros.specs.Expansion.{Act, Gives, silent, gives_any}
use Rattle.cf_macros.specs.inner.Insides.{rest_at, is_closed, if_there, inside, inside_other}
use Rattle.cf_macros.specs.inner.Levels.{above, Goes, StopsBy, level_rest, Resumes, GivesNext, IsAt}
use Rattle.cf_macros.proofs.InsideLemmas.{inside-put, closed-put, inside-choose}
use Rattle.cf_macros.proofs.StackLemmas.{goes-same, stops-refused, Refuses}

-- inside a conditional, a `$|` is gone on from behind the conditional's end
pub inside-else : (f : List ℕ → List Act) (depth : ℕ) (rest inner after : Reading) → 1 ≤ depth → rest ≡ BeforeElse Nothing inner → behind_end inner ≡ Some after → inside f depth rest ≡ inside f (depth - 1) after
inside-else f zero rest inner after h e b = absurd (omega arith)
inside-else f (suc depth) rest inner after h e b = let d : suc depth - 1 ≡ depth = omega arith in rw (e, d, b) refl

-- levels that wait for no test and come to the same acts
goes-alike : (old new : Level) (was : Given) → old.tests ≡ false → new.tests ≡ false → new.gave ≡ old.gave → new.scope ≡ old.scope → ((f : List ℕ → List Act) → inside f old.depth (level_rest old) ≡ inside f new.depth (level_rest new)) → Goes old was new was None
goes-alike old new was o n g s e = goes-same old new was None s (λ f. rw (o, n, g, e f) refl)

-- a level that reads a reference goes on to it
pub goes-refer : (old new : Level) (was : Given) (name : List ℕ) → old.tests ≡ false → new.tests ≡ false → new.gave ≡ old.gave → new.scope ≡ old.scope → new.depth ≡ old.depth → level_rest old ≡ put (Refer name) (level_rest new) → Goes old was new was (Some name)
goes-refer old new was name o n g s d e = goes-same old new was (Some name) s (λ f.
    let first : inside f old.depth (level_rest old) ≡ f name ++ inside f old.depth (level_rest new) = ap (inside f old.depth) e ∙ inside-put f (Refer name) (f name) (λ parts. refl) old.depth (level_rest new) in
    rw (o, n, g, d, first) refl)

-- a level that reads a `$?x` with an end goes on to the macro as its test
pub goes-test : (old new : Level) (was : Given) (name : List ℕ) (after : Reading) → old.tests ≡ false → new.tests ≡ true → new.gave ≡ old.gave → new.scope ≡ old.scope → new.depth ≡ suc old.depth → behind_end (level_rest new) ≡ Some after →
    level_rest old ≡ closing old.place name (level_rest new) (behind_end (level_rest new)) → Goes old was new was (Some name)
goes-test old new was name after o n g s d b e = goes-same old new was (Some name) s (λ f.
    let first : inside f old.depth (level_rest old) ≡ silent (f name) ++ (if gives_any (f name) then inside f (suc old.depth) (level_rest new) else inside_other f (suc old.depth) (level_rest new)) =
    ap (inside f old.depth) (e ∙ ap (closing old.place name (level_rest new)) b) ∙ inside-choose f old.place name (level_rest new) after old.depth b in
    rw (o, n, g, d, first) refl)

refuses-broken : (f : List ℕ → List Act) (depth place : ℕ) → Refuses (Unclosed place) (above false (inside f depth (Last (Broken place))))
refuses-broken f zero place = record { more = []; acts = refl }
refuses-broken f (suc depth) place = record { more = []; acts = refl }

-- a level whose rest is unclosed at a place stops with that place
pub stops-broken : (old : Level) (was : Given) (place : ℕ) → old.tests ≡ false → level_rest old ≡ Last (Broken place) → StopsBy (Unclosed place) old was
stops-broken old was place o e = stops-refused old was (Unclosed place) o (λ f. rw e (refuses-broken f old.depth place))

-- a level that reads a `$?x` without an end stops with the place of the test
pub stops-unclosed : (old : Level) (was : Given) (name : List ℕ) (inner : Reading) → old.tests ≡ false → level_rest old ≡ closing old.place name inner (behind_end inner) → behind_end inner ≡ None → StopsBy (Unclosed old.place) old was
stops-unclosed old was name inner o e b = stops-broken old was old.place o (e ∙ ap (closing old.place name inner) b)

-- what is closed behind a test is there
pub there : (test : Reading → Bool) (after : Option Reading) → if_there test after ≡ true → (rest : Reading) × (after ≡ Some rest)
there test None e = absurd (cc)
there test (Some rest) e = (rest, refl)

-- a level that reads bytes gives them as its next construct
pub gives-next : (self : Level) (bytes : List ℕ) (next : ℕ) → level_rest self ≡ put (Bytes bytes) (rest_at self.scope self.text.now next) → self.place < next → next ≤ length self.text.now → GivesNext self bytes next
gives-next self bytes next e place in_text = record {
  acts = λ f. ap (inside f self.depth) e ∙ inside-put f (Bytes bytes) (map Gives bytes) (λ parts. refl) self.depth (rest_at self.scope self.text.now next);
  closed = sym (closed-put (Bytes bytes) self.depth (rest_at self.scope self.text.now next)) ∙ sym (ap (is_closed self.depth) e) ∙ self.closed;
  place = place;
  in_text = in_text;
}

-- a level that is moved on to where the acts are the same
pub goes-at : (old new : Level) (was : Given) (place depth : ℕ) → old.tests ≡ false → IsAt old place depth new → ((f : List ℕ → List Act) → inside f old.depth (level_rest old) ≡ inside f depth (rest_at old.scope old.text.now place)) → Goes old was new was None
goes-at old new was place depth o at e = goes-alike old new was o at.reads at.gave at.scoped (λ f. e f ∙ sym (moved f))
  where
    moved : (f : List ℕ → List Act) → inside f new.depth (level_rest new) ≡ inside f depth (rest_at old.scope old.text.now place)
    moved f = ap (λ d. inside f d (level_rest new)) at.inside ∙ ap (inside f depth) (ap (λ s. rest_at s new.text.now new.place) at.scoped ∙ ap (λ t. rest_at old.scope t new.place) at.same ∙ ap (rest_at old.scope old.text.now) at.there)

-- a test that gave nothing, where there is no other part
other-behind : (f : List ℕ → List Act) (depth : ℕ) (rest after : Reading) → 1 ≤ depth → second_part rest ≡ Nothing → behind_end rest ≡ Some after → inside_other f depth rest ≡ inside f (depth - 1) after
other-behind f zero rest after h s b = absurd (omega arith)
other-behind f (suc depth) rest after h s b = let d : suc depth - 1 ≡ depth = omega arith in rw (s, b, d) refl

-- a test whose macro gave nothing, without another part, resumes behind its conditional
pub resumes-behind : (outer new : Level) (gave : Bool) (place : ℕ) → outer.tests ≡ true → gave ≡ false → IsAt outer place (outer.depth - 1) new →
    second_part (level_rest outer) ≡ Nothing → behind_end (level_rest outer) ≡ Some (rest_at outer.scope outer.text.now place) → Resumes outer gave new
resumes-behind outer new gave place t g at s b = record {
  same = λ f.
      let moved : inside f new.depth (level_rest new) ≡ inside_other f outer.depth (level_rest outer) =
      ap (λ d. inside f d (level_rest new)) at.inside ∙ ap (inside f (outer.depth - 1)) (ap (λ s. rest_at s new.text.now new.place) at.scoped ∙ ap (λ t. rest_at outer.scope t new.place) at.same ∙ ap (rest_at outer.scope outer.text.now) at.there)
      ∙ sym (other-behind f outer.depth (level_rest outer) (rest_at outer.scope outer.text.now place) (outer.waits t) s b) in
      rw (t, g, at.reads, at.gave, moved) refl;
  scoped = at.scoped;
  reads = at.reads;
}
