-- What a session is sent from its opening on, wherever it ends.
use Rattle.std.proofs.Common.{◌≡◌, ℕ, List, [], ◌∷◌, ◌++◌, Bool, true, false, Option, Some, None, refl, sym, ◌∙◌, ap, subst, append_assoc, ⊎_elim}
use Rattle.std.specs.Prelude.{length, is_some, nat_le, nat_eq, if◌then◌else◌}
use Rattle.std.proofs.lemmas.Bool.{cases_Bool, cond-true, cond-false, eq-eqb, eqb-true, or_from, not-true}
use Rattle.std.proofs.lemmas.List.{append-nil}
use Rattle.mail_base.specs.declared.config.Config.{Config}
use Rattle.link_edge.specs.declared.event.Event.{Event}
use Rattle.link_edge.specs.declared.event.Event.TheVariants.{Opens, Brings, Closes, Rests, Stops}
use Rattle.smtp_lines.specs.declared.line.Mode.TheVariants.{Commands}
use Rattle.smtp_lines.specs.Stream.{Reads, nothing}
use Rattle.smtp_receive.specs.Replies.{greeting_text, shown_host, too_many_sessions_text}
use Rattle.mail_core.specs.Sites.{Site}
use Rattle.mail_core.specs.Effects.{HangsUp}
use Rattle.mail_core.specs.Guests.{Guest, grants_of, guest_of, has_number, is_here, newcomer, with_bytes, with_guest, without, lines_heard}
use Rattle.mail_core.specs.Machine.{all_answered, at_moment, brought, came, Choice, Choices, Did, Dropped, fits, GoesOn, handled, Leaves, most_guests, opened, Opening, Over, pieced, Replied, run, Turn, turned, turned_away, Way, welcomed}
use Rattle.mail_core.specs.States.{State, Step, cut, headed, still}
use Rattle.mail_core.specs.Told.{Converses, IsInTurn, NeverOpens, Welcomes, hangs_up, turns_away, greets, brought_in, brought_of, is_of_others, opening_of, opens_none, replies_of, said_to}
use Rattle.mail_core.specs.Plans.{OfFloor, OfRun, Origin, comes_from, is_own, reading_of}
use Rattle.mail_core.proofs.PlanLemmas.{made_own}
use Rattle.mail_core.proofs.QuietLemmas.{rest_quiet, stop_quiet}
use Rattle.mail_core.proofs.TurnedLemmas.{turned_has}
use Rattle.mail_core.proofs.SpokenLemmas.{found_number, pushed_other, skipped, changed_other, changed_own, gone, left_other, left_own}
use Rattle.mail_core.proofs.StreamLemmas.{none_is, reads_more, some_is}
use Rattle.mail_core.proofs.ToldLemmas.{IsTold, closing_other, piece_all, said_more, said_once, speech_other}
use Rattle.mail_core.proofs.TurnLemmas.{AreFirst, IsSettled, brought_more, piece_quiet, piece_settled, turn_of}

-- ---- a session that is opened is found

none_here : (s : ℕ) (guests : List Guest) → guest_of s guests ≡ None → is_here s guests ≡ false
none_here s [] none = refl
none_here s (g ∷ guests) none =
    ⊎_elim
    (λ is. absurd (none_is g (sym none ∙ cond-true (has_number s g) (Some g) (guest_of s guests) is)))
    (λ other. or_from (has_number s g) (is_here s guests) other (none_here s guests (sym (skipped s g guests other) ∙ none)))
    (cases_Bool (has_number s g))

pushed_own : (config : Config) (s : ℕ) (peer : List ℕ) (guests : List Guest) → guest_of s guests ≡ None → guest_of s (guests ++ newcomer config s peer ∷ []) ≡ Some (newcomer config s peer)
pushed_own config s peer [] none = cond-true (has_number s (newcomer config s peer)) (Some (newcomer config s peer)) None (eq-eqb s s refl)
pushed_own config s peer (g ∷ guests) none =
    ⊎_elim
    (λ is. absurd (none_is g (sym none ∙ cond-true (has_number s g) (Some g) (guest_of s guests) is)))
    (λ other. skipped s g (guests ++ newcomer config s peer ∷ []) other ∙ pushed_own config s peer guests (sym (skipped s g guests other) ∙ none))
    (cases_Bool (has_number s g))

module _ (site : Site) (s : ℕ) where
  -- ---- what becomes of a session, and of one that isn't there

  abbrev Lives : Option Guest → Option Guest → List ℕ → List (List ℕ) → Type 0
  Lives None found bytes texts = (found ≡ None) × (texts ≡ [])
  Lives (Some g) found bytes texts = IsInTurn g → Converses site g bytes texts found

  -- a session to which nothing was done, whether it is still there or not
  nothing_done : (g : Guest) (found : Option Guest) → IsInTurn g → ((other : Guest) → found ≡ Some other → other ≡ g) → Converses site g [] [] found
  nothing_done g found turn same = record {
    now = g;
    peer = refl;
    config = refl;
    last = turn.last;
    rest = turn.rest;
    reads = subst (λ q. Reads Commands q (grants_of g) (lines_heard g) turn.last turn.rest) (sym (append-nil g.received)) turn.reads;
    replies = sym (append-nil (replies_of site g));
    still = λ other is. (same other is, sym (append-nil g.received), turn);
  }

  lives_same : (o : Option Guest) → Lives o o [] []
  lives_same None = (refl, refl)
  lives_same (Some g) = λ turn. nothing_done g (Some g) turn (λ other is. some_is other g (sym is))

  lives_over : (o found : Option Guest) → found ≡ None → Lives o found [] []
  lives_over None found none = (none, refl)
  lives_over (Some g) found none = λ turn. nothing_done g found turn (λ other is. absurd (none_is other (sym none ∙ is)))

  lives_as : (o found : Option Guest) (bytes : List ℕ) (texts : List (List ℕ)) → found ≡ o → bytes ≡ [] → texts ≡ [] → Lives o found bytes texts
  lives_as o found bytes texts same none quiet = subst (λ q. Lives o q bytes texts) (sym same) (subst (λ q. Lives o o q texts) (sym none) (subst (λ q. Lives o o [] q) (sym quiet) (lives_same o)))

  join_over : (g : Guest) (c : Option Guest) (x y : List ℕ) (t u : List (List ℕ)) → c ≡ None → u ≡ [] → Converses site g x t None → Converses site g (x ++ y) (t ++ u) c
  join_over g c x y t u none quiet k = record {
    now = k.now;
    peer = k.peer;
    config = k.config;
    last = k.last;
    rest = k.rest ++ y;
    reads = subst (λ q. Reads Commands q (grants_of k.now) (lines_heard k.now) k.last (k.rest ++ y)) (append_assoc g.received x y)
        (reads_more Commands (g.received ++ x) (grants_of k.now) (lines_heard k.now) k.last k.rest y k.reads);
    replies = k.replies ∙ ap (λ w. replies_of site g ++ w) (sym (ap (λ w. t ++ w) quiet ∙ append-nil t));
    still = λ other is. absurd (none_is other (sym none ∙ is));
  }

  join_on : (g h : Guest) (c : Option Guest) (x y : List ℕ) (t u : List (List ℕ)) → Converses site g x t (Some h) → (IsInTurn h → Converses site h y u c) → Converses site g (x ++ y) (t ++ u) c
  join_on g h c x y t u k next =
      let now = k.still h refl in
      let l = next (subst IsInTurn (sym now.0) now.2) in
      let all : h.received ++ y ≡ g.received ++ (x ++ y) = ap (λ (q : Guest). q.received ++ y) now.0 ∙ ap (λ q. q ++ y) now.1 ∙ append_assoc g.received x y in
      record {
        now = l.now;
        peer = l.peer ∙ ap (λ (q : Guest). q.peer) now.0 ∙ k.peer;
        config = l.config ∙ ap (λ (q : Guest). q.config) now.0 ∙ k.config;
        last = l.last;
        rest = l.rest;
        reads = subst (λ q. Reads Commands q (grants_of l.now) (lines_heard l.now) l.last l.rest) all l.reads;
        replies = l.replies ∙ ap (λ r. r ++ u) (ap (replies_of site) now.0 ∙ k.replies) ∙ append_assoc (replies_of site g) t u;
        still = λ other is. let z = l.still other is in (z.0, z.1 ∙ all, z.2);
      }

  lives_join : (a b c : Option Guest) (x y : List ℕ) (t u : List (List ℕ)) → Lives a b x t → Lives b c y u → Lives a c (x ++ y) (t ++ u)
  lives_join None b c x y t u p q = let r = subst (λ o. Lives o c y u) p.0 q in (r.0, ap (λ w. w ++ u) p.1 ∙ r.1)
  lives_join (Some g) None c x y t u p q = λ turn. join_over g c x y t u q.0 q.1 (p turn)
  lives_join (Some g) (Some h) c x y t u p q = λ turn. join_on g h c x y t u (p turn) q

  -- ---- a step

  abbrev StepLives : State → Step → Type 0
  StepLives m step = Lives (guest_of s m.guests) (guest_of s step.state.guests) (brought_of s step.effects) (said_to s step.effects)

  either_lives : (m : State) (b : Bool) (one other : Step) → StepLives m one → StepLives m other → StepLives m (if b then one else other)
  either_lives m true one other p q = p
  either_lives m false one other p q = q

  -- what is done at an event, of which the bytes come with the turn
  record Handles (m : State) (event : Event) (step : Step) : Type 0 where
    quiet : brought_of s step.effects ≡ []
    lives : Lives (guest_of s m.guests) (guest_of s step.state.guests) (brought_in s event) (said_to s step.effects)

  -- nothing is done for the session
  pub record IsApart (m : State) (step : Step) : Type 0 where
    pub said : said_to s step.effects ≡ []
    pub quiet : brought_of s step.effects ≡ []
    pub guest : guest_of s step.state.guests ≡ guest_of s m.guests

  apart_handles : (m : State) (event : Event) (step : Step) → brought_in s event ≡ [] → IsApart m step → Handles m event step
  apart_handles m event step none a = record { quiet = a.quiet; lives = lives_as (guest_of s m.guests) (guest_of s step.state.guests) (brought_in s event) (said_to s step.effects) a.guest none a.said }

  either_apart : (m : State) (b : Bool) (one other : Step) → IsApart m one → IsApart m other → IsApart m (if b then one else other)
  either_apart m true one other p q = p
  either_apart m false one other p q = q

  same_apart : (m n : State) → n.guests ≡ m.guests → IsApart m (still n)
  same_apart m n same = record { said = refl; quiet = refl; guest = ap (guest_of s) same }

  away_apart : (m : State) (n : ℕ) (choice : Opening) → nat_eq n s ≡ false → IsApart m (turned_away m n choice)
  away_apart m n (Replied whole) apart = record { said = closing_other s n apart too_many_sessions_text whole; quiet = refl; guest = refl }
  away_apart m n Dropped apart = record { said = refl; quiet = refl; guest = refl }

  welcome_apart : (m : State) (n : ℕ) (peer : List ℕ) (choice : Opening) → nat_eq n s ≡ false → IsApart m (welcomed site m n peer choice)
  welcome_apart m n peer (Replied true) apart = record { said = speech_other s n apart (greeting_text (shown_host site.host)) true; quiet = refl; guest = pushed_other s m.guests (newcomer site.config n peer) apart }
  welcome_apart m n peer (Replied false) apart = record { said = speech_other s n apart (greeting_text (shown_host site.host)) false; quiet = refl; guest = refl }
  welcome_apart m n peer Dropped apart = record { said = refl; quiet = refl; guest = refl }

  opened_apart : (m : State) (n : ℕ) (peer : List ℕ) (choice : Opening) → nat_eq n s ≡ false → IsApart m (opened site m n peer choice)
  opened_apart m n peer choice apart =
      let crowd = if nat_le most_guests (length m.guests) then turned_away m n choice else welcomed site m n peer choice in
      either_apart m (is_here n m.guests) (still m) crowd (same_apart m m refl)
      (either_apart m (nat_le most_guests (length m.guests)) (turned_away m n choice) (welcomed site m n peer choice) (away_apart m n choice apart) (welcome_apart m n peer choice apart))

  -- ---- a piece

  brought_quiet : (m : State) (way : Way) (d : Did) → brought_of s d.effects ≡ [] → brought_of s (brought m way d).effects ≡ []
  brought_quiet m GoesOn d h = h
  brought_quiet m Leaves d h = h
  brought_quiet m (Over finish) d h = h

  brought_apart : (m : State) (way : Way) (d : Did) → nat_eq d.guest.number s ≡ false → said_to s d.effects ≡ [] → brought_of s d.effects ≡ [] → IsApart m (brought m way d)
  brought_apart m GoesOn d apart said quiet = record { said = said; quiet = quiet; guest = changed_other s d.guest m.guests apart }
  brought_apart m Leaves d apart said quiet = record { said = said; quiet = quiet; guest = left_other s d.guest.number m.guests apart }
  brought_apart m (Over finish) d apart said quiet = record { said = said; quiet = quiet; guest = left_other s d.guest.number m.guests apart }

  -- the session was answered
  converses : (g : Guest) (bytes : List ℕ) (d : Did) (found : Option Guest) → IsSettled (with_bytes g bytes) d → replies_of site d.guest ≡ replies_of site g ++ said_to s d.effects
      → ((other : Guest) → found ≡ Some other → (other ≡ d.guest) × (d.way ≡ GoesOn)) → Converses site g bytes (said_to s d.effects) found
  converses g bytes d found k told is = record {
    now = d.guest;
    peer = k.kept.peer;
    config = k.kept.config;
    last = k.kept.first.last;
    rest = k.kept.first.rest;
    reads = subst (λ q. Reads Commands q (grants_of d.guest) (lines_heard d.guest) k.kept.first.last k.kept.first.rest) k.kept.received k.kept.first.reads;
    replies = told;
    still = λ other h. let z = is other h in (z.0, k.kept.received, turn_of d.guest k.kept.first (k.none z.1));
  }

  own_lives : (m : State) (g : Guest) (bytes : List ℕ) (way : Way) (d : Did) → d.way ≡ way → guest_of s m.guests ≡ Some g → d.guest.number ≡ s → replies_of site d.guest ≡ replies_of site g ++ said_to s d.effects → IsSettled (with_bytes g bytes) d
      → Converses site g bytes (said_to s (brought m way d).effects) (guest_of s (brought m way d).state.guests)
  own_lives m g bytes GoesOn d on found own told k =
      converses g bytes d (guest_of s (with_guest d.guest m.guests)) k told (λ other h. (some_is other d.guest (sym h ∙ changed_own s d.guest g m.guests own found), on))
  own_lives m g bytes Leaves d on found own told k = converses g bytes d (guest_of s (without d.guest.number m.guests)) k told (λ other h. absurd (none_is other (sym (gone s m d own) ∙ h)))
  own_lives m g bytes (Over finish) d on found own told k = converses g bytes d (guest_of s (without d.guest.number m.guests)) k told (λ other h. absurd (none_is other (sym (gone s m d own) ∙ h)))

  -- more bytes stand behind the lines
  first_fed : (g : Guest) (bytes : List ℕ) → IsInTurn g → AreFirst (with_bytes g bytes)
  first_fed g bytes turn = record { last = turn.last; rest = turn.rest ++ bytes; reads = reads_more Commands g.received (grants_of g) (lines_heard g) turn.last turn.rest bytes turn.reads }

  -- the bytes are of the session, or of another
  own_bytes : (n : ℕ) (bytes : List ℕ) → nat_eq n s ≡ true → brought_in s (Brings n bytes) ≡ bytes
  own_bytes n bytes is = cond-true (nat_eq n s) bytes [] is

  other_bytes : (n : ℕ) (bytes : List ℕ) → nat_eq n s ≡ false → brought_in s (Brings n bytes) ≡ []
  other_bytes n bytes other = cond-false (nat_eq n s) bytes [] other

  piece_apart : (m : State) (n : ℕ) (bytes : List ℕ) (choices : List Choice) (g : Guest) → guest_of n m.guests ≡ Some g → nat_eq n s ≡ false → IsApart m (pieced site m bytes choices (Some g))
  piece_apart m n bytes choices g found other =
      let d = all_answered site m.latest m.table (with_bytes g bytes) choices in
      let t : IsTold site m.latest (with_bytes g bytes) d = piece_all site m.latest m.table (with_bytes g bytes) choices in
      let apart : nat_eq g.number s ≡ false = ap (λ k. nat_eq k s) (found_number n m.guests g found) ∙ other in
      brought_apart m d.way d (ap (λ k. nat_eq k s) t.number ∙ apart) (t.apart s apart) (piece_quiet site m.latest s m.table (with_bytes g bytes) choices)

  piece_lives : (m : State) (n : ℕ) (bytes : List ℕ) (choices : List Choice) (g : Guest) → guest_of n m.guests ≡ Some g → Handles m (Brings n bytes) (pieced site m bytes choices (Some g))
  piece_lives m n bytes choices g found =
      let d = all_answered site m.latest m.table (with_bytes g bytes) choices in
      let t : IsTold site m.latest (with_bytes g bytes) d = piece_all site m.latest m.table (with_bytes g bytes) choices in
      let number : g.number ≡ n = found_number n m.guests g found in
      let quiet = piece_quiet site m.latest s m.table (with_bytes g bytes) choices in
      ⊎_elim
      (λ is.
      let same : n ≡ s = eqb-true n s is in
      let here : guest_of s m.guests ≡ Some g = ap (λ k. guest_of k m.guests) (sym same) ∙ found in
      let told : replies_of site d.guest ≡ replies_of site g ++ said_to s d.effects = t.told ∙ ap (λ k. replies_of site g ++ said_to k d.effects) (number ∙ same) in
      let step = brought m d.way d in
      record {
        quiet = brought_quiet m d.way d quiet;
        lives = subst (λ o. Lives o (guest_of s step.state.guests) (brought_in s (Brings n bytes)) (said_to s step.effects)) (sym here)
            (λ turn. subst (λ q. Converses site g q (said_to s step.effects) (guest_of s step.state.guests)) (sym (own_bytes n bytes is))
            (own_lives m g bytes d.way d refl here (t.number ∙ number ∙ same) told (piece_settled site m.latest m.table (with_bytes g bytes) choices (first_fed g bytes turn))));
      })
      (λ other. apart_handles m (Brings n bytes) (brought m d.way d) (other_bytes n bytes other) (piece_apart m n bytes choices g found other))
      (cases_Bool (nat_eq n s))

  -- a piece of a session that isn't there
  none_lives : (m : State) (n : ℕ) (bytes : List ℕ) → guest_of n m.guests ≡ None → Handles m (Brings n bytes) (still m)
  none_lives m n bytes none =
      ⊎_elim
      (λ is.
      let here : guest_of s m.guests ≡ None = ap (λ k. guest_of k m.guests) (sym (eqb-true n s is)) ∙ none in
      record { quiet = refl; lives = subst (λ o. Lives o o (brought_in s (Brings n bytes)) []) (sym here) (refl, refl) })
      (λ other. apart_handles m (Brings n bytes) (still m) (other_bytes n bytes other) (same_apart m m refl))
      (cases_Bool (nat_eq n s))

  pieced_lives : (m : State) (n : ℕ) (bytes : List ℕ) (choices : List Choice) (o : Option Guest) → guest_of n m.guests ≡ o → Handles m (Brings n bytes) (pieced site m bytes choices o)
  pieced_lives m n bytes choices None found = none_lives m n bytes found
  pieced_lives m n bytes choices (Some g) found = piece_lives m n bytes choices g found

  close_apart : (m : State) (n : ℕ) → nat_eq n s ≡ false → IsApart m (still (record m { guests = without n m.guests }))
  close_apart m n other = record { said = refl; quiet = refl; guest = left_other s n m.guests other }

  closes_lives : (m : State) (n : ℕ) → Handles m (Closes n) (still (record m { guests = without n m.guests }))
  closes_lives m n =
      ⊎_elim
      (λ is. record { quiet = refl; lives = lives_over (guest_of s m.guests) (guest_of s (without n m.guests)) (ap (λ k. guest_of s (without k m.guests)) (eqb-true n s is) ∙ left_own s m.guests) })
      (λ other. apart_handles m (Closes n) (still (record m { guests = without n m.guests })) refl (close_apart m n other))
      (cases_Bool (nat_eq n s))

  -- ---- what other sessions do

  pieced_apart : (m : State) (n : ℕ) (bytes : List ℕ) (choices : List Choice) (o : Option Guest) → guest_of n m.guests ≡ o → nat_eq n s ≡ false → IsApart m (pieced site m bytes choices o)
  pieced_apart m n bytes choices None found other = same_apart m m refl
  pieced_apart m n bytes choices (Some g) found other = piece_apart m n bytes choices g found other

  -- an event of another session does nothing for this one
  pub handled_apart : (m : State) (event : Event) (choices : Choices event) → is_of_others s event ≡ true → IsApart m (handled site m event choices)
  handled_apart m (Opens n peer) choice other = opened_apart m n peer choice (not-true (nat_eq n s) other)
  handled_apart m (Brings n bytes) choices other = pieced_apart m n bytes choices (guest_of n m.guests) refl (not-true (nat_eq n s) other)
  handled_apart m (Closes n) choices other = close_apart m n (not-true (nat_eq n s) other)
  handled_apart m Rests choice other = let q = rest_quiet site m choice s in record { said = q.said; quiet = q.brought; guest = ap (guest_of s) q.guests }
  handled_apart m Stops luck other = let q = stop_quiet site m luck s in record { said = q.said; quiet = q.brought; guest = ap (guest_of s) q.guests }

  -- ---- a turn, and a run

  handled_lives : (m : State) (event : Event) (choices : Choices event) → opens_none s event ≡ true → Handles m event (handled site m event choices)
  handled_lives m (Opens n peer) choice none = apart_handles m (Opens n peer) (opened site m n peer choice) refl (opened_apart m n peer choice (not-true (nat_eq n s) none))
  handled_lives m (Brings n bytes) choices none = pieced_lives m n bytes choices (guest_of n m.guests) refl
  handled_lives m (Closes n) choices none = closes_lives m n
  handled_lives m Rests choice none =
      let q = rest_quiet site m choice s in
      apart_handles m Rests (handled site m Rests choice) refl (record { said = q.said; quiet = q.brought; guest = ap (guest_of s) q.guests })
  handled_lives m Stops luck none =
      let q = stop_quiet site m luck s in
      apart_handles m Stops (handled site m Stops luck) refl (record { said = q.said; quiet = q.brought; guest = ap (guest_of s) q.guests })

  -- a turn that the run makes itself brings nothing
  own_brings : (event : Event) → is_own event ≡ true → brought_in s event ≡ []
  own_brings (Opens n peer) own = refl
  own_brings (Brings n bytes) own = cc own
  own_brings (Closes n) own = refl
  own_brings Rests own = refl
  own_brings Stops own = refl

  came_lives : (m : State) (origin : Origin) (event : Event) (step : Step) → comes_from site.plan m.stopping origin event ≡ true → Handles m event step → StepLives m (headed (came origin event) step)
  came_lives m (OfFloor reading) event step comes h =
      subst (λ q. Lives (guest_of s m.guests) (guest_of s step.state.guests) q (said_to s step.effects)) (sym (ap (λ q. brought_in s event ++ q) h.quiet ∙ append-nil (brought_in s event))) h.lives
  came_lives m (OfRun reading) event step comes h =
      subst (λ q. Lives (guest_of s m.guests) (guest_of s step.state.guests) q (said_to s step.effects)) (own_brings event (made_own site.plan m.stopping reading event comes) ∙ sym h.quiet) h.lives

  fitting_lives : (m : State) (turn : Turn) (b : Bool) → fits site m turn ≡ b → opens_none s turn.event ≡ true
      → StepLives m (if b then headed (came turn.origin turn.event) (handled site (at_moment m (reading_of turn.origin)) turn.event turn.choices) else cut m)
  fitting_lives m turn true fit none =
      let now = at_moment m (reading_of turn.origin) in
      came_lives now turn.origin turn.event (handled site now turn.event turn.choices) fit (handled_lives now turn.event turn.choices none)
  fitting_lives m turn false fit none = lives_same (guest_of s m.guests)

  turned_lives : (m : State) (turn : Turn) → opens_none s turn.event ≡ true → StepLives m (turned site m turn)
  turned_lives m turn none =
      let now = headed (came turn.origin turn.event) (handled site (at_moment m (reading_of turn.origin)) turn.event turn.choices) in
      either_lives m (is_some m.over) (still m) (if fits site m turn then now else cut m) (lives_same (guest_of s m.guests)) (fitting_lives m turn (fits site m turn) refl none)

  run_lives : (m : State) (turns : List Turn) → NeverOpens s turns → StepLives m (run site m turns)
  run_lives m [] never = lives_same (guest_of s m.guests)
  run_lives m (turn ∷ turns) never =
      let now = turned site m turn in
      let later = run site now.state turns in
      let joined = lives_join (guest_of s m.guests) (guest_of s now.state.guests) (guest_of s later.state.guests) (brought_of s now.effects) (brought_of s later.effects) (said_to s now.effects) (said_to s later.effects)
      (turned_lives m turn never.0) (run_lives now.state turns never.1) in
      subst (λ q. Lives (guest_of s m.guests) (guest_of s later.state.guests) q (said_to s (now.effects ++ later.effects))) (sym (brought_more s now.effects later.effects))
      (subst (λ q. Lives (guest_of s m.guests) (guest_of s later.state.guests) (brought_of s now.effects ++ brought_of s later.effects) q) (sym (said_more s now.effects later.effects)) joined)

  -- ---- the laws

  -- of a session that is open
  pub run_converses : (m : State) (turns : List Turn) (g : Guest) → NeverOpens s turns → guest_of s m.guests ≡ Some g → IsInTurn g
      → Converses site g (brought_of s (run site m turns).effects) (said_to s (run site m turns).effects) (guest_of s (run site m turns).state.guests)
  run_converses m turns g never here turn =
      let step = run site m turns in
      let lives = subst (λ o. Lives o (guest_of s step.state.guests) (brought_of s step.effects) (said_to s step.effects)) here (run_lives m turns never) in
      lives turn

  -- of one that isn't
  pub run_unopened : (m : State) (turns : List Turn) → NeverOpens s turns → guest_of s m.guests ≡ None → (guest_of s (run site m turns).state.guests ≡ None) × (said_to s (run site m turns).effects ≡ [])
  run_unopened m turns never here =
      let step = run site m turns in
      subst (λ o. Lives o (guest_of s step.state.guests) (brought_of s step.effects) (said_to s step.effects)) here (run_lives m turns never)

  -- ---- an opening

  -- what an opening comes to: the session isn't there, or its greeting was sent whole
  data OpensAs (peer : List ℕ) (found : Option Guest) (texts : List (List ℕ)) : Type 0 where
    left_out : found ≡ None → texts ≡ [] → OpensAs peer found texts
    sent_away : found ≡ None → texts ≡ too_many_sessions_text ∷ [] → OpensAs peer found texts
    let_in : found ≡ Some (newcomer site.config s peer) → texts ≡ greeting_text (shown_host site.host) ∷ [] → OpensAs peer found texts
    lost : found ≡ None → texts ≡ greeting_text (shown_host site.host) ∷ [] → OpensAs peer found texts

  abbrev StepOpens : List ℕ → Step → Type 0
  StepOpens peer step = OpensAs peer (guest_of s step.state.guests) (said_to s step.effects)

  record Begins (peer : List ℕ) (step : Step) : Type 0 where
    quiet : brought_of s step.effects ≡ []
    opens : StepOpens peer step

  either_begins : (peer : List ℕ) (b : Bool) (one other : Step) → Begins peer one → Begins peer other → Begins peer (if b then one else other)
  either_begins peer true one other p q = p
  either_begins peer false one other p q = q

  away_begins : (m : State) (peer : List ℕ) (choice : Opening) → guest_of s m.guests ≡ None → Begins peer (turned_away m s choice)
  away_begins m peer (Replied whole) none = record { quiet = refl; opens = sent_away none (said_once s too_many_sessions_text whole (HangsUp s ∷ [])) }
  away_begins m peer Dropped none = record { quiet = refl; opens = left_out none refl }

  welcome_begins : (m : State) (peer : List ℕ) (choice : Opening) → guest_of s m.guests ≡ None → Begins peer (welcomed site m s peer choice)
  welcome_begins m peer (Replied true) none = record { quiet = refl; opens = let_in (pushed_own site.config s peer m.guests none) (said_once s (greeting_text (shown_host site.host)) true []) }
  welcome_begins m peer (Replied false) none = record { quiet = refl; opens = lost none (said_once s (greeting_text (shown_host site.host)) false (HangsUp s ∷ [])) }
  welcome_begins m peer Dropped none = record { quiet = refl; opens = left_out none refl }

  opened_begins : (m : State) (peer : List ℕ) (choice : Opening) → guest_of s m.guests ≡ None → Begins peer (opened site m s peer choice)
  opened_begins m peer choice none =
      let crowd = if nat_le most_guests (length m.guests) then turned_away m s choice else welcomed site m s peer choice in
      subst (Begins peer) (sym (cond-false (is_here s m.guests) (still m) crowd (none_here s m.guests none)))
      (either_begins peer (nat_le most_guests (length m.guests)) (turned_away m s choice) (welcomed site m s peer choice) (away_begins m peer choice none) (welcome_begins m peer choice none))

  turned_begins : (m : State) (peer : List ℕ) (reading : ℕ) (choice : Opening) → guest_of s m.guests ≡ None → Begins peer (turned site m (opening_of s peer reading choice))
  turned_begins m peer reading choice none =
      let now = at_moment m reading in
      let b = opened_begins now peer choice none in
      turned_has (Begins peer) site m (opening_of s peer reading choice)
      (record { quiet = refl; opens = left_out none refl })
      (record { quiet = refl; opens = left_out none refl })
      (record { quiet = b.quiet; opens = b.opens })

  -- what comes behind it
  welcomes_by : (peer : List ℕ) (found later : Option Guest) (bytes : List ℕ) (texts more : List (List ℕ)) → OpensAs peer found texts → Lives found later bytes more → Welcomes site s peer bytes (texts ++ more) later
  welcomes_by peer found later bytes texts more (left_out none quiet) lives =
      let r = subst (λ o. Lives o later bytes more) none lives in
      hangs_up (ap (λ q. q ++ more) quiet ∙ r.1) r.0
  welcomes_by peer found later bytes texts more (sent_away none said) lives =
      let r = subst (λ o. Lives o later bytes more) none lives in
      turns_away (ap (λ q. q ++ more) said ∙ ap (λ q. too_many_sessions_text ∷ q) r.1) r.0
  welcomes_by peer found later bytes texts more (let_in is said) lives =
      let r = subst (λ o. Lives o later bytes more) is lives in
      greets more (ap (λ q. q ++ more) said) (r (record { last = Commands; rest = []; reads = nothing Commands []; none = refl }))
  welcomes_by peer found later bytes texts more (lost none said) lives =
      let r = subst (λ o. Lives o later bytes more) none lives in
      greets more (ap (λ q. q ++ more) said) (record {
        now = newcomer site.config s peer;
        peer = refl;
        config = refl;
        last = Commands;
        rest = bytes;
        reads = nothing Commands bytes;
        replies = sym r.1;
        still = λ other is. absurd (none_is other (sym r.0 ∙ is));
      })

  pub run_welcomes : (m : State) (peer : List ℕ) (reading : ℕ) (choice : Opening) (turns : List Turn) → guest_of s m.guests ≡ None → NeverOpens s turns
      → Welcomes site s peer (brought_of s (run site m (opening_of s peer reading choice ∷ turns)).effects) (said_to s (run site m (opening_of s peer reading choice ∷ turns)).effects) (guest_of s (run site m (opening_of s peer reading choice ∷ turns)).state.guests)
  run_welcomes m peer reading choice turns none never =
      let now = turned site m (opening_of s peer reading choice) in
      let later = run site now.state turns in
      let b = turned_begins m peer reading choice none in
      let w = welcomes_by peer (guest_of s now.state.guests) (guest_of s later.state.guests) (brought_of s later.effects) (said_to s now.effects) (said_to s later.effects) b.opens (run_lives now.state turns never) in
      subst (λ q. Welcomes site s peer q (said_to s (now.effects ++ later.effects)) (guest_of s later.state.guests)) (sym (brought_more s now.effects later.effects ∙ ap (λ q. q ++ brought_of s later.effects) b.quiet))
      (subst (λ q. Welcomes site s peer (brought_of s later.effects) q (guest_of s later.state.guests)) (sym (said_more s now.effects later.effects)) w)
