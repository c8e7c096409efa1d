-- What turns do to those who hold entries.
use Rattle.std.proofs.Common.{◌≡◌, ℕ, List, [], ◌∷◌, Bool, true, false, Option, Some, None, if◌then◌else◌, refl, sym, subst, arith}
use Rattle.std.specs.Prelude.{is_some, nat_le, length}
use Rattle.link_edge.specs.declared.event.Event.{Event}
use Rattle.link_edge.specs.declared.event.Event.TheVariants.{Opens, Brings, Closes, Rests, Stops}
use Rattle.mail_core.specs.Apart.{AreApart}
use Rattle.mail_core.specs.Guests.{Guest, guest_of, is_here, with_bytes}
use Rattle.mail_core.specs.Idling.{ends_list, idle, stopped}
use Rattle.mail_core.specs.Judges.{untold}
use Rattle.mail_core.specs.Machine.{Choice, Choices, Did, Dropped, GoesOn, Leaves, Opening, Over, Replied, Turn, Way, all_answered, at_moment, brought, came, fits, handled, most_guests, opened, pieced, run, turned, turned_away, welcomed}
use Rattle.mail_core.specs.Meant.{IsEventMeant}
use Rattle.mail_core.specs.Plans.{reading_of}
use Rattle.mail_core.specs.Sites.{Site}
use Rattle.mail_core.specs.States.{Seat, State, Step, cut, headed, still}
use Rattle.mail_core.proofs.ApartLemmas.{idles_few}
use Rattle.mail_core.proofs.IdleLemmas.{rest_idles, stop_idles}

-- ---- sessions leave them

either_same : (seats : List Seat) (b : Bool) (x y : Step) → x.state.seats ≡ seats → y.state.seats ≡ seats → (if b then x else y).state.seats ≡ seats
either_same seats true x y p q = p
either_same seats false x y p q = q

away_same : (m : State) (session : ℕ) (choice : Opening) → (turned_away m session choice).state.seats ≡ m.seats
away_same m session (Replied whole) = refl
away_same m session Dropped = refl

welcomed_same : (site : Site) (m : State) (session : ℕ) (peer : List ℕ) (choice : Opening) → (welcomed site m session peer choice).state.seats ≡ m.seats
welcomed_same site m session peer (Replied true) = refl
welcomed_same site m session peer (Replied false) = refl
welcomed_same site m session peer Dropped = refl

pub opened_same : (site : Site) (m : State) (session : ℕ) (peer : List ℕ) (choice : Opening) → (opened site m session peer choice).state.seats ≡ m.seats
opened_same site m session peer choice =
    let crowd = if nat_le most_guests (length m.guests) then turned_away m session choice else welcomed site m session peer choice in
    either_same m.seats (is_here session m.guests) (still m) crowd refl
    (either_same m.seats (nat_le most_guests (length m.guests)) (turned_away m session choice) (welcomed site m session peer choice) (away_same m session choice) (welcomed_same site m session peer choice))

brought_same : (m : State) (way : Way) (d : Did) → (brought m way d).state.seats ≡ m.seats
brought_same m GoesOn d = refl
brought_same m Leaves d = refl
brought_same m (Over finish) d = refl

pub pieced_same : (site : Site) (m : State) (bytes : List ℕ) (choices : List Choice) (guest : Option Guest) → (pieced site m bytes choices guest).state.seats ≡ m.seats
pieced_same site m bytes choices None = refl
pieced_same site m bytes choices (Some guest) = let d = all_answered site m.latest m.table (with_bytes guest bytes) choices in brought_same m d.way d

-- ---- turns

pub either_step : (P : Step → Type 0) (b : Bool) (x y : Step) → P x → P y → P (if b then x else y)
either_step P true x y p q = p
either_step P false x y p q = q

-- what holds where nothing is done, and behind what is done at an event, holds of each turn
pub turned_has : (P : Step → Type 0) (site : Site) (m : State) (turn : Turn) → P (still m) → P (cut m) → P (headed (came turn.origin turn.event) (handled site (at_moment m (reading_of turn.origin)) turn.event turn.choices)) → P (turned site m turn)
turned_has P site m turn rests cuts done =
    let now = headed (came turn.origin turn.event) (handled site (at_moment m (reading_of turn.origin)) turn.event turn.choices) in
    either_step P (is_some m.over) (still m) (if fits site m turn then now else cut m) rests (either_step P (fits site m turn) now (cut m) done cuts)

handled_few : (site : Site) (m : State) (event : Event) (choices : Choices event) → AreApart site m.seats → AreApart site (handled site m event choices).state.seats
handled_few site m (Opens session peer) choice few = subst (AreApart site) (sym (opened_same site m session peer choice)) few
handled_few site m (Brings session bytes) choices few = subst (AreApart site) (sym (pieced_same site m bytes choices (guest_of session m.guests))) few
handled_few site m (Closes session) none few = few
handled_few site m Rests choice few = idles_few (IsEventMeant untold site m Rests choice) untold site m (ends_list site (idle site m choice)) (rest_idles untold site m choice) few
handled_few site m Stops luck few = idles_few (IsEventMeant untold site m Stops luck) untold site m (stopped site (record m { stopping = true }) luck) (stop_idles untold site m luck) few

pub turned_few : (site : Site) (m : State) (turn : Turn) → AreApart site m.seats → AreApart site (turned site m turn).state.seats
turned_few site m turn few =
    turned_has (λ (q : Step). AreApart site q.state.seats) site m turn few few (handled_few site (at_moment m (reading_of turn.origin)) turn.event turn.choices few)

pub run_few : (site : Site) (m : State) (turns : List Turn) → AreApart site m.seats → AreApart site (run site m turns).state.seats
run_few site m [] few = few
run_few site m (turn ∷ turns) few = run_few site (turned site m turn).state turns (turned_few site m turn few)

pub none_apart : (site : Site) → AreApart site []
none_apart site = record { ids = λ id. omega arith; lanes = λ group. omega arith }
