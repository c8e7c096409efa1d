-- Turns of runners say nothing to sessions, bring nothing of them, and leave them open.
use Rattle.std.proofs.Common.{◌≡◌, ℕ, List, [], ◌∷◌, ◌++◌, Bool, true, false, Option, Some, None, if◌then◌else◌, map, refl, ◌∙◌, ap}
use Rattle.spool_store.specs.Entries.{Stored}
use Rattle.queue_run.specs.declared.batch.Routed.{Routed}
use Rattle.queue_run.specs.Deeds.{Deed}
use Rattle.queue_run.specs.Steps.{Luck}
use Rattle.mail_core.specs.Effects.{Does, events_of}
use Rattle.mail_core.specs.Holding.{can_claim, stored_at}
use Rattle.mail_core.specs.Idling.{Carrying, Claiming, Idling, Quiet, Starving, Taken, carries, claimed as claim_now, claims, ends_list, first_running, idle, quiet, stopped, stopped_by}
use Rattle.mail_core.specs.Judges.{JudgeSeen, untold}
use Rattle.mail_core.specs.Resting.{IsRestMeant, IsStopMeant}
use Rattle.mail_core.specs.Sites.{Site}
use Rattle.mail_core.specs.States.{Seat, State, Step, cut}
use Rattle.mail_core.specs.Told.{brought_of, said_to}
use Rattle.mail_core.proofs.IdleLemmas.{Idles, goes, rest_idles, rests, stop_idles}

pub record IsQuietStep (m : State) (step : Step) (s : ℕ) : Type 0 where
  pub said : said_to s step.effects ≡ []
  pub brought : brought_of s step.effects ≡ []
  pub takes : events_of step.effects ≡ []
  pub guests : step.state.guests ≡ m.guests

deeds_said : (s : ℕ) (deeds : List Deed) → said_to s (map Does deeds) ≡ []
deeds_said s [] = refl
deeds_said s (deed ∷ deeds) = deeds_said s deeds

deeds_brought : (s : ℕ) (deeds : List Deed) → brought_of s (map Does deeds) ≡ []
deeds_brought s [] = refl
deeds_brought s (deed ∷ deeds) = deeds_brought s deeds

idles_said : (F : Type 0) (j : JudgeSeen) (site : Site) (m : State) (step : Step) (s : ℕ) → Idles F j site m step → said_to s step.effects ≡ []
idles_said F j site m step s (rests table seats effects) = ap (said_to s) effects
idles_said F j site m step s (goes front seat others luck x up is meant table seats effects) = ap (said_to s) effects ∙ deeds_said s (front ++ x.deeds)

idles_brought : (F : Type 0) (j : JudgeSeen) (site : Site) (m : State) (step : Step) (s : ℕ) → Idles F j site m step → brought_of s step.effects ≡ []
idles_brought F j site m step s (rests table seats effects) = ap (brought_of s) effects
idles_brought F j site m step s (goes front seat others luck x up is meant table seats effects) = ap (brought_of s) effects ∙ deeds_brought s (front ++ x.deeds)

deeds_take : (deeds : List Deed) → events_of (map Does deeds) ≡ []
deeds_take [] = refl
deeds_take (deed ∷ deeds) = deeds_take deeds

idles_take : (F : Type 0) (j : JudgeSeen) (site : Site) (m : State) (step : Step) → Idles F j site m step → events_of step.effects ≡ []
idles_take F j site m step (rests table seats effects) = ap events_of effects
idles_take F j site m step (goes front seat others luck x up is meant table seats effects) = ap events_of effects ∙ deeds_take (front ++ x.deeds)

module _ (site : Site) (m : State) where
  claims_guests : (rows : List Routed) (luck : Luck) (o : Option Stored) → (claims site m rows luck o).state.guests ≡ m.guests
  claims_guests rows luck None = refl
  claims_guests rows luck (Some s) = by (can_claim site m s)
    where
      by : (b : Bool) → (if b then claim_now site m s rows luck else cut m).state.guests ≡ m.guests
      by true = refl
      by false = refl

  carries_guests : (luck : Luck) (seats : List Seat) → (carries site m luck seats).state.guests ≡ m.guests
  carries_guests luck [] = refl
  carries_guests luck (seat ∷ seats) = refl

  quiet_guests : (seats : List Seat) → (quiet m seats).state.guests ≡ m.guests
  quiet_guests [] = refl
  quiet_guests (seat ∷ seats) = refl

  idle_guests : (choice : Idling) → (idle site m choice).state.guests ≡ m.guests
  idle_guests (Claiming id rows luck) = claims_guests rows luck (stored_at id m.table)
  idle_guests Starving = refl
  idle_guests (Carrying luck) = carries_guests luck m.seats
  idle_guests Quiet = quiet_guests m.seats

  stop_guests : (luck : Option Luck) (o : Option Taken) → (stopped_by site (record m { stopping = true }) luck o).state.guests ≡ m.guests
  stop_guests None None = refl
  stop_guests (Some luck) (Some t) = refl
  stop_guests None (Some t) = refl
  stop_guests (Some luck) None = refl

  pub rest_quiet : (choice : Idling) (s : ℕ) → IsQuietStep m (ends_list site (idle site m choice)) s
  rest_quiet choice s =
      let step = ends_list site (idle site m choice) in
      let idles = rest_idles untold site m choice in
      record { said = idles_said (IsRestMeant untold site m choice) untold site m step s idles; brought = idles_brought (IsRestMeant untold site m choice) untold site m step s idles; takes = idles_take (IsRestMeant untold site m choice) untold site m step idles; guests = idle_guests choice }

  pub stop_quiet : (luck : Option Luck) (s : ℕ) → IsQuietStep m (stopped site (record m { stopping = true }) luck) s
  stop_quiet luck s =
      let step = stopped site (record m { stopping = true }) luck in
      let idles = stop_idles untold site m luck in
      let F : Type 0 = IsStopMeant untold site (record m { stopping = true }) luck in
      record { said = idles_said F untold site m step s idles; brought = idles_brought F untold site m step s idles; takes = idles_take F untold site m step idles; guests = stop_guests luck (first_running m.seats) }
