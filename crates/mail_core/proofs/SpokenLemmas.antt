-- What is said to a session in a run are the replies of its dialogue.
use Rattle.std.proofs.Common.{◌≡◌, ℕ, List, [], ◌∷◌, ◌++◌, Bool, true, false, not, Option, Some, None, refl, sym, ◌∙◌, ap, subst, append_assoc, ⊎_elim}
use Rattle.std.specs.Prelude.{length, nat_le, nat_eq, if◌then◌else◌}
use Rattle.std.proofs.lemmas.Bool.{cases_Bool, cond-true, cond-false, eq-eqb, eqb-true, not-true}
use Rattle.std.proofs.lemmas.List.{append-nil}
use Rattle.link_edge.specs.declared.event.Event.{Event}
use Rattle.link_edge.specs.declared.event.Event.TheVariants.{Opens, Brings, Closes, Rests, Stops}
use Rattle.smtp_receive.specs.Replies.{greeting_text, shown_host, too_many_sessions_text}
use Rattle.mail_core.specs.Sites.{Site}
use Rattle.mail_core.specs.Effects.{Effect}
use Rattle.mail_core.specs.Guests.{Guest, guest_of, has_number, is_here, newcomer, with_bytes, with_guest, without}
use Rattle.mail_core.specs.Machine.{all_answered, at_moment, brought, came, Choice, Choices, Did, Dropped, GoesOn, handled, Leaves, most_guests, opened, Opening, Over, pieced, Replied, run, Turn, turned, turned_away, Way, welcomed}
use Rattle.mail_core.specs.States.{State, Step, still}
use Rattle.mail_core.specs.Told.{NeverOpens, opens_none, replies_of, said_to}
use Rattle.mail_core.specs.Plans.{OfFloor, OfRun, Origin, reading_of}
use Rattle.mail_core.proofs.QuietLemmas.{rest_quiet, stop_quiet}
use Rattle.mail_core.proofs.TurnedLemmas.{turned_has}
use Rattle.mail_core.proofs.ToldLemmas.{IsTold, closing_other, piece_all, said_more, speech_other}

-- ---- the sessions of a list

-- the number of the session that is found
pub found_number : (n : ℕ) (guests : List Guest) (g : Guest) → guest_of n guests ≡ Some g → g.number ≡ n
found_number n [] g found = absurd (cc found)
found_number n (first ∷ guests) g found =
    ⊎_elim
    (λ is. let same : first ≡ g = cc (sym (cond-true (has_number n first) (Some first) (guest_of n guests) is) ∙ found) in ap (λ (x : Guest). x.number) (sym same) ∙ eqb-true first.number n is)
    (λ other. found_number n guests g (sym (cond-false (has_number n first) (Some first) (guest_of n guests) other) ∙ found))
    (cases_Bool (has_number n first))

module _ (s : ℕ) where
  pub pushed_other : (guests : List Guest) (x : Guest) → has_number s x ≡ false → guest_of s (guests ++ x ∷ []) ≡ guest_of s guests
  pushed_other [] x other = cond-false (has_number s x) (Some x) None other
  pushed_other (g ∷ guests) x other = ap (λ o. if has_number s g then Some g else o) (pushed_other guests x other)

  -- a session that isn't found first
  pub skipped : (g : Guest) (guests : List Guest) → has_number s g ≡ false → guest_of s (g ∷ guests) ≡ guest_of s guests
  skipped g guests other = cond-false (has_number s g) (Some g) (guest_of s guests) other

  -- the guest of another number isn't the one of `s`
  apart_from : (n : ℕ) (g : Guest) → nat_eq n s ≡ false → has_number n g ≡ true → has_number s g ≡ false
  apart_from n g apart is = ap (λ k. nat_eq k s) (eqb-true g.number n is) ∙ apart

  pub changed_other : (x : Guest) (guests : List Guest) → has_number s x ≡ false → guest_of s (with_guest x guests) ≡ guest_of s guests
  changed_other x [] other = refl
  changed_other x (g ∷ guests) other =
      ⊎_elim
      (λ is.
      ap (λ y. guest_of s (y ∷ with_guest x guests)) (cond-true (has_number x.number g) x g is)
      ∙ skipped x (with_guest x guests) other ∙ changed_other x guests other ∙ sym (skipped g guests (apart_from x.number g other is)))
      (λ none.
      ap (λ y. guest_of s (y ∷ with_guest x guests)) (cond-false (has_number x.number g) x g none)
      ∙ ap (λ o. if has_number s g then Some g else o) (changed_other x guests other))
      (cases_Bool (has_number x.number g))

  pub changed_own : (x g : Guest) (guests : List Guest) → x.number ≡ s → guest_of s guests ≡ Some g → guest_of s (with_guest x guests) ≡ Some x
  changed_own x g [] own found = absurd (cc found)
  changed_own x g (first ∷ guests) own found =
      let mine : has_number s x ≡ true = eq-eqb x.number s own in
      ⊎_elim
      (λ is.
      ap (λ y. guest_of s (y ∷ with_guest x guests)) (cond-true (has_number x.number first) x first (ap (λ n. has_number n first) own ∙ is))
      ∙ cond-true (has_number s x) (Some x) (guest_of s (with_guest x guests)) mine)
      (λ other.
      ap (λ y. guest_of s (y ∷ with_guest x guests)) (cond-false (has_number x.number first) x first (ap (λ n. has_number n first) own ∙ other))
      ∙ skipped first (with_guest x guests) other
      ∙ changed_own x g guests own (sym (skipped first guests other) ∙ found))
      (cases_Bool (has_number s first))

  pub left_other : (n : ℕ) (guests : List Guest) → nat_eq n s ≡ false → guest_of s (without n guests) ≡ guest_of s guests
  left_other n [] apart = refl
  left_other n (g ∷ guests) apart =
      ⊎_elim
      (λ is.
      ap (guest_of s) (cond-false (not (has_number n g)) (g ∷ without n guests) (without n guests) (ap not is))
      ∙ left_other n guests apart ∙ sym (skipped g guests (apart_from n g apart is)))
      (λ none.
      ap (guest_of s) (cond-true (not (has_number n g)) (g ∷ without n guests) (without n guests) (ap not none))
      ∙ ap (λ o. if has_number s g then Some g else o) (left_other n guests apart))
      (cases_Bool (has_number n g))

  pub left_own : (guests : List Guest) → guest_of s (without s guests) ≡ None
  left_own [] = refl
  left_own (g ∷ guests) =
      ⊎_elim
      (λ is. ap (guest_of s) (cond-false (not (has_number s g)) (g ∷ without s guests) (without s guests) (ap not is)) ∙ left_own guests)
      (λ none.
      ap (guest_of s) (cond-true (not (has_number s g)) (g ∷ without s guests) (without s guests) (ap not none))
      ∙ skipped g (without s guests) none ∙ left_own guests)
      (cases_Bool (has_number s g))

-- ---- what becomes of a session that isn't opened

-- a session that has left isn't found
pub gone : (s : ℕ) (m : State) (d : Did) → d.guest.number ≡ s → guest_of s (without d.guest.number m.guests) ≡ None
gone s m d own = ap (λ n. guest_of s (without n m.guests)) own ∙ left_own s m.guests

module _ (site : Site) (s : ℕ) where
  abbrev Passes : Option Guest → Option Guest → List Effect → Type 0
  Passes None None effects = Unit {0}
  Passes None (Some now) effects = ⊥
  Passes (Some g) None effects = Unit {0}
  Passes (Some g) (Some now) effects = replies_of site now ≡ replies_of site g ++ said_to s effects

  passes_quiet : (o : Option Guest) (effects : List Effect) → said_to s effects ≡ [] → Passes o o effects
  passes_quiet None effects quiet = tt
  passes_quiet (Some g) effects quiet = sym (append-nil (replies_of site g)) ∙ ap (λ t. replies_of site g ++ t) (sym quiet)

  passes_as : (o now : Option Guest) (effects : List Effect) → now ≡ o → said_to s effects ≡ [] → Passes o now effects
  passes_as o now effects same quiet = subst (λ x. Passes o x effects) (sym same) (passes_quiet o effects quiet)

  passes_left : (o now : Option Guest) (effects : List Effect) → now ≡ None → Passes o now effects
  passes_left None now effects none = subst (λ x. Passes None x effects) (sym none) tt
  passes_left (Some g) now effects none = subst (λ x. Passes (Some g) x effects) (sym none) tt

  passes_join : (a b c : Option Guest) (one other : List Effect) → Passes a b one → Passes b c other → Passes a c (one ++ other)
  passes_join None None None one other p q = tt
  passes_join None None (Some z) one other p q = q
  passes_join None (Some y) c one other p q = absurd p
  passes_join (Some x) b None one other p q = tt
  passes_join (Some x) None (Some z) one other p q = absurd q
  passes_join (Some x) (Some y) (Some z) one other p q =
      q ∙ ap (λ r. r ++ said_to s other) p ∙ append_assoc (replies_of site x) (said_to s one) (said_to s other) ∙ ap (λ t. replies_of site x ++ t) (sym (said_more s one other))

  abbrev StepPasses : State → Step → Type 0
  StepPasses m step = Passes (guest_of s m.guests) (guest_of s step.state.guests) step.effects

  either_passes : (m : State) (b : Bool) (one other : Step) → StepPasses m one → StepPasses m other → StepPasses m (if b then one else other)
  either_passes m true one other p q = p
  either_passes m false one other p q = q

  still_passes : (m : State) → StepPasses m (still m)
  still_passes m = passes_quiet (guest_of s m.guests) [] refl

  -- ---- an opening of another session

  away_passes : (m : State) (n : ℕ) (choice : Opening) → nat_eq n s ≡ false → StepPasses m (turned_away m n choice)
  away_passes m n (Replied whole) apart = passes_quiet (guest_of s m.guests) _ (closing_other s n apart too_many_sessions_text whole)
  away_passes m n Dropped apart = passes_quiet (guest_of s m.guests) [] refl

  welcome_passes : (m : State) (n : ℕ) (peer : List ℕ) (choice : Opening) → nat_eq n s ≡ false → StepPasses m (welcomed site m n peer choice)
  welcome_passes m n peer (Replied true) apart =
      passes_as (guest_of s m.guests) _ _ (pushed_other s m.guests (newcomer site.config n peer) apart) (speech_other s n apart (greeting_text (shown_host site.host)) true)
  welcome_passes m n peer (Replied false) apart = passes_quiet (guest_of s m.guests) _ (speech_other s n apart (greeting_text (shown_host site.host)) false)
  welcome_passes m n peer Dropped apart = passes_quiet (guest_of s m.guests) _ refl

  opened_passes : (m : State) (n : ℕ) (peer : List ℕ) (choice : Opening) → nat_eq n s ≡ false → StepPasses m (opened site m n peer choice)
  opened_passes m n peer choice apart =
      let crowd = if nat_le most_guests (length m.guests) then turned_away m n choice else welcomed site m n peer choice in
      either_passes m (is_here n m.guests) (still m) crowd (still_passes m)
      (either_passes m (nat_le most_guests (length m.guests)) (turned_away m n choice) (welcomed site m n peer choice) (away_passes m n choice apart) (welcome_passes m n peer choice apart))

  -- ---- a piece

  other_passes : (m : State) (way : Way) (d : Did) → nat_eq d.guest.number s ≡ false → said_to s d.effects ≡ [] → StepPasses m (brought m way d)
  other_passes m GoesOn d apart quiet = passes_as (guest_of s m.guests) _ d.effects (changed_other s d.guest m.guests apart) quiet
  other_passes m Leaves d apart quiet = passes_as (guest_of s m.guests) _ d.effects (left_other s d.guest.number m.guests apart) quiet
  other_passes m (Over finish) d apart quiet = passes_as (guest_of s m.guests) _ d.effects (left_other s d.guest.number m.guests apart) quiet

  own_passes : (m : State) (g : Guest) (way : Way) (d : Did) → guest_of s m.guests ≡ Some g → d.guest.number ≡ s → replies_of site d.guest ≡ replies_of site g ++ said_to s d.effects → StepPasses m (brought m way d)
  own_passes m g GoesOn d found own told =
      subst (λ o. Passes o (guest_of s (with_guest d.guest m.guests)) d.effects) (sym found)
      (subst (λ o. Passes (Some g) o d.effects) (sym (changed_own s d.guest g m.guests own found)) told)
  own_passes m g Leaves d found own told = passes_left (guest_of s m.guests) _ d.effects (gone s m d own)
  own_passes m g (Over finish) d found own told = passes_left (guest_of s m.guests) _ d.effects (gone s m d own)

  pieced_passes : (m : State) (n : ℕ) (bytes : List ℕ) (choices : List Choice) (o : Option Guest) → guest_of n m.guests ≡ o → StepPasses m (pieced site m bytes choices o)
  pieced_passes m n bytes choices None found = still_passes m
  pieced_passes m n bytes choices (Some g) found =
      let d = all_answered site m.latest m.table (with_bytes g bytes) choices in
      let t : IsTold site m.latest (with_bytes g bytes) d = piece_all site m.latest m.table (with_bytes g bytes) choices in
      let number : g.number ≡ n = found_number n m.guests g found in
      ⊎_elim
      (λ is.
      let same : n ≡ s = eqb-true n s is in
      own_passes m g d.way d (ap (λ k. guest_of k m.guests) (sym same) ∙ found) (t.number ∙ number ∙ same)
      (t.told ∙ ap (λ k. replies_of site g ++ said_to k d.effects) (number ∙ same)))
      (λ other.
      let apart : nat_eq g.number s ≡ false = ap (λ k. nat_eq k s) number ∙ other in
      other_passes m d.way d (ap (λ k. nat_eq k s) t.number ∙ apart) (t.apart s apart))
      (cases_Bool (nat_eq n s))

  closes_passes : (m : State) (n : ℕ) → StepPasses m (still (record m { guests = without n m.guests }))
  closes_passes m n =
      ⊎_elim
      (λ is. passes_left (guest_of s m.guests) _ [] (ap (λ k. guest_of s (without k m.guests)) (eqb-true n s is) ∙ left_own s m.guests))
      (λ other. passes_as (guest_of s m.guests) _ [] (left_other s n m.guests other) refl)
      (cases_Bool (nat_eq n s))

  -- ---- a turn, and a run

  handled_passes : (m : State) (event : Event) (choices : Choices event) → opens_none s event ≡ true → StepPasses m (handled site m event choices)
  handled_passes m (Opens n peer) choice none = opened_passes m n peer choice (not-true (nat_eq n s) none)
  handled_passes m (Brings n bytes) choices none = pieced_passes m n bytes choices (guest_of n m.guests) refl
  handled_passes m (Closes n) choices none = closes_passes m n
  handled_passes m Rests choice none = let q = rest_quiet site m choice s in passes_as (guest_of s m.guests) _ _ (ap (guest_of s) q.guests) q.said
  handled_passes m Stops luck none = let q = stop_quiet site m luck s in passes_as (guest_of s m.guests) _ _ (ap (guest_of s) q.guests) q.said

  -- what is seen of a turn says nothing
  passes_came : (a b : Option Guest) (origin : Origin) (event : Event) (effects : List Effect) → Passes a b effects → Passes a b (came origin event ++ effects)
  passes_came None None origin event effects p = tt
  passes_came None (Some now) origin event effects p = p
  passes_came (Some g) None origin event effects p = tt
  passes_came (Some g) (Some now) (OfFloor reading) event effects p = p
  passes_came (Some g) (Some now) (OfRun reading) event effects p = p

  turned_passes : (m : State) (turn : Turn) → opens_none s turn.event ≡ true → StepPasses m (turned site m turn)
  turned_passes m turn none =
      let now = at_moment m (reading_of turn.origin) in
      let step = handled site now turn.event turn.choices in
      turned_has (StepPasses m) site m turn (still_passes m) (passes_quiet (guest_of s m.guests) [] refl)
      (passes_came (guest_of s m.guests) (guest_of s step.state.guests) turn.origin turn.event step.effects (handled_passes now turn.event turn.choices none))

  run_passes : (m : State) (turns : List Turn) → NeverOpens s turns → StepPasses m (run site m turns)
  run_passes m [] never = still_passes m
  run_passes m (turn ∷ turns) never =
      let now = turned site m turn in
      let later = run site now.state turns in
      passes_join (guest_of s m.guests) (guest_of s now.state.guests) (guest_of s later.state.guests) now.effects later.effects (turned_passes m turn never.0) (run_passes now.state turns never.1)

  -- what a run says to a session that stays open are the replies to its lines
  pub run_told : (m : State) (turns : List Turn) (g now : Guest) → NeverOpens s turns → guest_of s m.guests ≡ Some g → guest_of s (run site m turns).state.guests ≡ Some now
      → replies_of site now ≡ replies_of site g ++ said_to s (run site m turns).effects
  run_told m turns g now never before after =
      let effects = (run site m turns).effects in
      subst (λ o. Passes (Some g) o effects) after (subst (λ o. Passes o (guest_of s (run site m turns).state.guests) effects) before (run_passes m turns never))
