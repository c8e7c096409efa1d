-- A session to which no send has failed is open.
use Rattle.std.proofs.Common.{◌≡◌, ℕ, Bool, true, false, cond, not, ◌&&◌, ◌||◌, List, [], ◌∷◌, ◌++◌, refl, sym, ◌∙◌, ap}
use Rattle.std.specs.Prelude.{nat_eq}
use mathlib.Core.Bool.{true≢false}
use Rattle.std.proofs.lemmas.Bool.{eqb-true, eq-eqb, or_right, or_left, and_parts, and_from}
use Rattle.std.proofs.lemmas.List.Folds.{list_any-append, fold_along}
use Rattle.link_edge.specs.declared.event.Event.TheVariants.{Opens, Brings, Closes, Rests, Stops}
use Rattle.link_edge.specs.declared.event.FloorEvent.{FloorEvent}
use Rattle.link_edge.specs.declared.event.FloorEvent.TheVariants.{Took, Sent, Unsent, HungUp}
use Rattle.link_edge.specs.Sessions.{is_among, is_open, is_sound, open_after, sound_after, without}
use Rattle.link_edge.proofs.Sessioning.{sound_push}

-- a list with one session more
pub among_push : (session added : ℕ) (xs : List ℕ) → is_among session (xs ++ added ∷ []) ≡ (is_among session xs || (nat_eq added session || false))
among_push session added xs = list_any-append (λ other. nat_eq other session) xs (added ∷ [])

-- the head of a list is taken out, or not
without_head : (same left taken among : Bool) (session x : ℕ) (rest : List ℕ) → (same ≡ true → left ≡ taken) → is_among session rest ≡ (among && not taken) → nat_eq x session ≡ same → is_among session (cond (not left) (x ∷ rest) rest) ≡ ((same || among) && not taken)
without_head true true true among session x rest h k e = k ∙ none among
  where
    none : (b : Bool) → (b && false) ≡ false
    none true = refl
    none false = refl
without_head true true false among session x rest h k e = absurd (true≢false (h refl))
without_head true false true among session x rest h k e = absurd (true≢false (sym (h refl)))
without_head true false false among session x rest h k e = ap (λ b. b || is_among session rest) e
without_head false true taken among session x rest h k e = k
without_head false false taken among session x rest h k e = ap (λ b. b || is_among session rest) e ∙ k

-- those that are left where one is taken out
pub among_without : (session gone : ℕ) (xs : List ℕ) → is_among session (without gone xs) ≡ (is_among session xs && not (nat_eq session gone))
among_without session gone [] = refl
among_without session gone (x ∷ xs) = without_head (nat_eq x session) (nat_eq x gone) (nat_eq session gone) (is_among session xs) session x (without gone xs) (λ t. ap (λ n. nat_eq n gone) (eqb-true x session t)) (among_without session gone xs) refl

-- the sessions of the one list are among those of the other
unfoldable pub Within : List ℕ → List ℕ → Type 0
Within some all = (session : ℕ) → is_among session some ≡ true → is_among session all ≡ true

-- a session more in both
pub within_push : (added : ℕ) (some all : List ℕ) → Within some all → Within (some ++ added ∷ []) (all ++ added ∷ [])
unfolding Within
within_push added some all h = λ s t. among_push s added all ∙ more (is_among s some) (is_among s all) (nat_eq added s || false) (h s) (sym (among_push s added some) ∙ t)
  where
    more : (a b c : Bool) → (a ≡ true → b ≡ true) → (a || c) ≡ true → (b || c) ≡ true
    more true b c h t = or_left b c (h refl)
    more false b c h t = or_right b c t

-- a session less in the one
pub within_less : (gone : ℕ) (some all : List ℕ) → Within some all → Within (without gone some) all
unfolding Within
within_less gone some all h = λ s t. h s (and_parts (is_among s some) (not (nat_eq s gone)) (sym (among_without s gone some) ∙ t)).0

-- a session less in both
pub within_both : (gone : ℕ) (some all : List ℕ) → Within some all → Within (without gone some) (without gone all)
unfolding Within
within_both gone some all h = λ s t.
    let parts = and_parts (is_among s some) (not (nat_eq s gone)) (sym (among_without s gone some) ∙ t) in
    among_without s gone all ∙ and_from (is_among s all) (not (nat_eq s gone)) (h s parts.0) parts.1

-- after one event more the sound sessions are still among the open ones
within_event : (some all : List ℕ) (event : FloorEvent) → Within some all → Within (sound_after some event) (open_after all event)
within_event some all (Took (Opens s peer)) h = within_push s some all h
within_event some all (Took (Brings s bytes)) h = h
within_event some all (Took (Closes s)) h = within_both s some all h
within_event some all (Took Rests) h = h
within_event some all (Took Stops) h = h
within_event some all (Sent s bytes) h = h
within_event some all (Unsent s) h = within_less s some all h
within_event some all (HungUp s) h = within_both s some all h

-- a sound session is open
pub sound_is_open : (history : List FloorEvent) (session : ℕ) → is_sound session history ≡ true → is_open session history ≡ true
unfolding Within
sound_is_open history session sound = fold_along sound_after open_after Within within_event [] [] history (λ s t. t) session sound

-- a session that was just opened is sound
pub opened_is_sound : (history : List FloorEvent) (session : ℕ) (peer : List ℕ) → is_sound session (history ++ Took (Opens session peer) ∷ []) ≡ true
opened_is_sound history session peer =
    ap (is_among session) (sound_push history (Took (Opens session peer))) ∙ among_push session session _ ∙ or_right _ _ (or_left (nat_eq session session) false (eq-eqb session session refl))
