-- Many sessions in one run: what other sessions do, the order of turns, and how many are open.
use Rattle.std.proofs.Common.{◌≡◌, ◌⊎◌, inl, inr, ◌≤◌, ℕ, List, [], ◌∷◌, ◌++◌, length, Bool, true, false, Option, Some, None, if◌then◌else◌, refl, sym, ◌∙◌, ap, subst, ⊎_elim}
use Rattle.std.specs.Prelude.{is_some, nat_le}
use Rattle.std.proofs.lemmas.Bool.{cases_Bool, cond-true, cond-false, le-leb}
use Rattle.std.proofs.lemmas.List.{append_cancel_left}
use Rattle.link_edge.specs.declared.event.Event.{Event}
use Rattle.link_edge.specs.declared.event.Event.TheVariants.{Opens, Brings, Closes, Rests, Stops}
use Rattle.smtp_receive.specs.Dialogue.{replies_to}
use Rattle.smtp_receive.specs.Replies.{shown_host, too_many_sessions_text}
use Rattle.mail_core.specs.Effects.{Effect, HangsUp, Sends, Takes, Ticks, events_of}
use Rattle.mail_core.specs.Guests.{Guest, guest_of, is_here, newcomer, with_bytes}
use Rattle.mail_core.specs.Machine.{all_answered, AreOpen, at_moment, brought, came, Choice, Choices, Did, Dropped, fits, GoesOn, handled, Leaves, most_guests, opened, Opening, Over, pieced, Replied, run, Turn, turned, turned_away, Way, welcomed}
use Rattle.mail_core.specs.States.{State, Step, cut, headed, still}
use Rattle.mail_core.specs.Sites.{Site}
use Rattle.mail_core.specs.Told.{AreOfOthers, Converses, IsInTurn, NeverOpens, is_of_others, opening_of, replies_of, said_to}
use Rattle.mail_core.specs.Answering.{IsAnswer}
use Rattle.mail_core.specs.Plans.{OfFloor, OfRun, Origin, comes_from, reading_of}
use Rattle.mail_core.proofs.OpenLemmas.{open_more, open_with, open_without}
use Rattle.mail_core.proofs.QuietLemmas.{rest_quiet, stop_quiet}
use Rattle.mail_core.proofs.TurnedLemmas.{turned_has}
use Rattle.mail_core.proofs.LifeLemmas.{handled_apart, run_converses}
use Rattle.mail_core.proofs.ToldLemmas.{said_more}
use Rattle.mail_core.proofs.TurnLemmas.{piece_takes_none}

module _ (site : Site) where
  -- ---- what other sessions do

  -- nothing is said to a session, and it is as it was
  abbrev IsLeftOut : ℕ → State → Step → Type 0
  IsLeftOut s m step = (guest_of s step.state.guests ≡ guest_of s m.guests) × (said_to s step.effects ≡ [])

  came_said : (s : ℕ) (origin : Origin) (event : Event) (effects : List Effect) → said_to s effects ≡ [] → said_to s (came origin event ++ effects) ≡ []
  came_said s (OfFloor reading) event effects h = h
  came_said s (OfRun reading) event effects h = h

  turned_apart : (s : ℕ) (m : State) (turn : Turn) → is_of_others s turn.event ≡ true → IsLeftOut s m (turned site m turn)
  turned_apart s m turn other =
      let now = at_moment m (reading_of turn.origin) in
      let a = handled_apart site s now turn.event turn.choices other in
      turned_has (IsLeftOut s m) site m turn (refl, refl) (refl, refl) (a.guest, came_said s turn.origin turn.event (handled site now turn.event turn.choices).effects a.said)

  pub run_apart : (s : ℕ) (m : State) (turns : List Turn) → AreOfOthers s turns → (guest_of s (run site m turns).state.guests ≡ guest_of s m.guests) × (said_to s (run site m turns).effects ≡ [])
  run_apart s m [] others = (refl, refl)
  run_apart s m (turn ∷ turns) others =
      let now = turned site m turn in
      let first = turned_apart s m turn others.0 in
      let later = run_apart s now.state turns others.1 in
      (later.0 ∙ first.0, said_more s now.effects (run site now.state turns).effects ∙ ap (λ q. q ++ said_to s (run site now.state turns).effects) first.1 ∙ later.1)

  -- ---- one session in two runs

  -- what a session that is still open was sent are the replies to its lines
  sent_so : (s : ℕ) (g now : Guest) (bytes : List ℕ) (texts : List (List ℕ)) (found : Option Guest) → Converses site g bytes texts found → found ≡ Some now → replies_to g.config (shown_host site.host) g.peer now.heard ≡ replies_of site g ++ texts
  sent_so s g now bytes texts found c is =
      let same = c.still now is in
      ap (λ q. replies_to q (shown_host site.host) g.peer now.heard) (sym c.config)
      ∙ ap (λ q. replies_to c.now.config (shown_host site.host) q now.heard) (sym c.peer)
      ∙ ap (λ (q : Guest). replies_to c.now.config (shown_host site.host) c.now.peer q.heard) same.0
      ∙ c.replies

  pub sent_alike : (s : ℕ) (m alone : State) (turns own : List Turn) (g now other : Guest) → NeverOpens s turns → NeverOpens s own → IsInTurn g → guest_of s m.guests ≡ Some g → guest_of s alone.guests ≡ Some g
      → guest_of s (run site m turns).state.guests ≡ Some now → guest_of s (run site alone own).state.guests ≡ Some other → now.heard ≡ other.heard → said_to s (run site m turns).effects ≡ said_to s (run site alone own).effects
  sent_alike s m alone turns own g now other never nor turn here there is are same =
      let one = sent_so s g now _ _ _ (run_converses site s m turns g never here turn) is in
      let two = sent_so s g other _ _ _ (run_converses site s alone own g nor there turn) are in
      append_cancel_left (replies_of site g) (said_to s (run site m turns).effects) (said_to s (run site alone own).effects)
      (sym one ∙ ap (λ q. replies_to g.config (shown_host site.host) g.peer q) same ∙ two)

  -- ---- the order of turns

  takes_if : (b : Bool) (x y : Step) → events_of x.effects ≡ [] → events_of y.effects ≡ [] → events_of (if b then x else y).effects ≡ []
  takes_if true x y h k = h
  takes_if false x y h k = k

  away_takes : (m : State) (s : ℕ) (choice : Opening) → events_of (turned_away m s choice).effects ≡ []
  away_takes m s (Replied whole) = refl
  away_takes m s Dropped = refl

  welcome_takes : (m : State) (s : ℕ) (peer : List ℕ) (choice : Opening) → events_of (welcomed site m s peer choice).effects ≡ []
  welcome_takes m s peer (Replied true) = refl
  welcome_takes m s peer (Replied false) = refl
  welcome_takes m s peer Dropped = refl

  brought_takes : (m : State) (way : Way) (d : Did) → events_of d.effects ≡ [] → events_of (brought m way d).effects ≡ []
  brought_takes m GoesOn d h = h
  brought_takes m Leaves d h = h
  brought_takes m (Over finish) d h = h

  pieced_takes : (m : State) (bytes : List ℕ) (choices : List Choice) (o : Option Guest) → events_of (pieced site m bytes choices o).effects ≡ []
  pieced_takes m bytes choices None = refl
  pieced_takes m bytes choices (Some g) =
      let d = all_answered site m.latest m.table (with_bytes g bytes) choices in
      brought_takes m d.way d (piece_takes_none site m.latest m.table (with_bytes g bytes) choices)

  -- no turn is taken in the answer to one
  handled_takes : (m : State) (event : Event) (choices : Choices event) → events_of (handled site m event choices).effects ≡ []
  handled_takes m (Opens s peer) choice =
      takes_if (is_here s m.guests) (still m) _ refl
      (takes_if (nat_le most_guests (length m.guests)) (turned_away m s choice) (welcomed site m s peer choice) (away_takes m s choice) (welcome_takes m s peer choice))
  handled_takes m (Brings s bytes) choices = pieced_takes m bytes choices (guest_of s m.guests)
  handled_takes m (Closes s) choices = refl
  handled_takes m Rests choice = let q = rest_quiet site m choice 0 in q.takes
  handled_takes m Stops luck = let q = stop_quiet site m luck 0 in q.takes

  pub turn_alone : (m : State) (turn : Turn) → ((turned site m turn).effects ≡ []) ⊎ IsAnswer turn (turned site m turn).effects
  turn_alone m turn =
      let now = at_moment m (reading_of turn.origin) in
      let step = handled site now turn.event turn.choices in
      turned_has (λ (q : Step). (q.effects ≡ []) ⊎ IsAnswer turn q.effects) site m turn (inl refl) (inl refl) (inr (record { rest = step.effects; whole = refl; none = handled_takes now turn.event turn.choices }))

  -- ---- one more than may be open

  pub turned_so : (m : State) (s : ℕ) (peer : List ℕ) (reading : ℕ) (whole : Bool) → m.over ≡ None → comes_from site.plan m.stopping (OfFloor reading) (Opens s peer) ≡ true → is_here s m.guests ≡ false → most_guests ≤ length m.guests
      → turned site m (opening_of s peer reading (Replied whole)) ≡ record { state = at_moment m reading; effects = Takes (Opens s peer) ∷ Ticks reading ∷ Sends s too_many_sessions_text whole ∷ HangsUp s ∷ [] }
  turned_so m s peer reading whole on comes new full =
      let turn = opening_of s peer reading (Replied whole) in
      let now = at_moment m reading in
      let seen = came (OfFloor reading) (Opens s peer) in
      cond-false (is_some m.over) (still m) (if fits site m turn then headed seen (opened site now s peer (Replied whole)) else cut m) (ap is_some on)
      ∙ cond-true (fits site m turn) (headed seen (opened site now s peer (Replied whole))) (cut m) comes
      ∙ ap (headed seen)
      (cond-false (is_here s m.guests) (still now) _ new
      ∙ cond-true (nat_le most_guests (length m.guests)) (turned_away now s (Replied whole)) (welcomed site now s peer (Replied whole)) (le-leb most_guests (length m.guests) full))

  -- ---- how many are open

  abbrev StaysOpen : Step → Type 0
  StaysOpen step = AreOpen step.state.guests

  away_open : (m : State) (s : ℕ) (choice : Opening) → AreOpen m.guests → StaysOpen (turned_away m s choice)
  away_open m s (Replied whole) h = h
  away_open m s Dropped h = h

  welcome_open : (m : State) (s : ℕ) (peer : List ℕ) (choice : Opening) → nat_le most_guests (length m.guests) ≡ false → is_here s m.guests ≡ false → AreOpen m.guests → StaysOpen (welcomed site m s peer choice)
  welcome_open m s peer (Replied true) room new h = open_more m.guests (newcomer site.config s peer) room new h
  welcome_open m s peer (Replied false) room new h = h
  welcome_open m s peer Dropped room new h = h

  opened_open : (m : State) (s : ℕ) (peer : List ℕ) (choice : Opening) → AreOpen m.guests → StaysOpen (opened site m s peer choice)
  opened_open m s peer choice h =
      let crowd = if nat_le most_guests (length m.guests) then turned_away m s choice else welcomed site m s peer choice in
      ⊎_elim
      (λ here. subst StaysOpen (sym (cond-true (is_here s m.guests) (still m) crowd here)) h)
      (λ new. subst StaysOpen (sym (cond-false (is_here s m.guests) (still m) crowd new))
      (⊎_elim
      (λ full. subst StaysOpen (sym (cond-true (nat_le most_guests (length m.guests)) (turned_away m s choice) (welcomed site m s peer choice) full)) (away_open m s choice h))
      (λ room. subst StaysOpen (sym (cond-false (nat_le most_guests (length m.guests)) (turned_away m s choice) (welcomed site m s peer choice) room)) (welcome_open m s peer choice room new h))
      (cases_Bool (nat_le most_guests (length m.guests)))))
      (cases_Bool (is_here s m.guests))

  brought_open : (m : State) (way : Way) (d : Did) → AreOpen m.guests → StaysOpen (brought m way d)
  brought_open m GoesOn d h = open_with d.guest m.guests h
  brought_open m Leaves d h = open_without d.guest.number m.guests h
  brought_open m (Over finish) d h = open_without d.guest.number m.guests h

  pieced_open : (m : State) (bytes : List ℕ) (choices : List Choice) (o : Option Guest) → AreOpen m.guests → StaysOpen (pieced site m bytes choices o)
  pieced_open m bytes choices None h = h
  pieced_open m bytes choices (Some g) h = let d = all_answered site m.latest m.table (with_bytes g bytes) choices in brought_open m d.way d h

  handled_open : (m : State) (event : Event) (choices : Choices event) → AreOpen m.guests → StaysOpen (handled site m event choices)
  handled_open m (Opens s peer) choice h = opened_open m s peer choice h
  handled_open m (Brings s bytes) choices h = pieced_open m bytes choices (guest_of s m.guests) h
  handled_open m (Closes s) choices h = open_without s m.guests h
  handled_open m Rests choice h = let q = rest_quiet site m choice 0 in subst AreOpen (sym q.guests) h
  handled_open m Stops luck h = let q = stop_quiet site m luck 0 in subst AreOpen (sym q.guests) h

  turned_open : (m : State) (turn : Turn) → AreOpen m.guests → StaysOpen (turned site m turn)
  turned_open m turn h = turned_has StaysOpen site m turn h h (handled_open (at_moment m (reading_of turn.origin)) turn.event turn.choices h)

  pub run_open : (m : State) (turns : List Turn) → AreOpen m.guests → AreOpen (run site m turns).state.guests
  run_open m [] h = h
  run_open m (turn ∷ turns) h = run_open (turned site m turn).state turns (turned_open m turn h)
