-- What the next turn brings of the steps that are left.
use Rattle.std.proofs.Common.{◌≡◌, ℕ, ◌+◌, suc, List, [], ◌∷◌, ◌++◌, drop, Option, Some, None, slice_get, refl, sym, ◌∙◌, ap, subst, add-one, drop-cons, inl, inr}
use Rattle.std.proofs.lemmas.Option.{slice_get_within, get_or_from_slice_get, slice_get_cases}
use Rattle.std.proofs.Math.ListN.{drop_of_length-le}
use Rattle.link_edge.specs.declared.event.Event.TheVariants.{Stops}
use Rattle.link_edge.specs.declared.event.FloorEvent.{FloorEvent}
use Rattle.link_edge.specs.declared.event.FloorEvent.TheVariants.{Took}
use Rattle.link_edge.specs.declared.step.Step.{Step}
use Rattle.link_edge.specs.declared.step.Step.TheVariants.{Open, Say, Close, Rest}
use Rattle.link_edge.specs.declared.turn.Turn.{Turn}
use Rattle.link_edge.specs.declared.turn.Turn.TheVariants.{Stop}
use Rattle.link_edge.specs.Steps.{IsHeard, later_steps, next_event, step_event, step_rest, unsaid, without_said}
use Rattle.link_edge.specs.inner.Rests.{rest_at}

-- the steps from a place on begin with the step there
split_here : (steps : List Step) (at : ℕ) (step : Step) → slice_get steps at ≡ Some step → drop at steps ≡ step ∷ drop (at + 1) steps
split_here steps at step h = rw add-one (drop-cons steps at step (slice_get_within steps at step h) ∙ ap (λ q. q ∷ drop (suc at) steps) (get_or_from_slice_get steps at step step h))

-- past the last step none are left
pub none_here : (steps : List Step) (at : ℕ) → slice_get steps at ≡ None → drop at steps ≡ []
none_here steps at h = elim (slice_get_cases steps at).1 [ inl found ↦ cc (found.2, h) | inr past ↦ drop_of_length-le steps past.0 ]

-- past the last step nothing comes any more
pub stop_here : (told now : List FloorEvent) (room said at : ℕ) (steps : List Step) (buf : List ℕ) → slice_get steps at ≡ None → now ≡ told ++ Took Stops ∷ [] → IsHeard told now (next_event told room (unsaid said (drop at steps))) Stop buf
stop_here told now room said at steps buf h is =
    let P : List Step → Type 0 = λ q. IsHeard told now (next_event told room (unsaid said q)) Stop buf in
    let stopped : P [] = record { event_is = refl; told = is; fits = tt; follows = tt } in
    subst P (sym (none_here steps at h)) stopped

-- and none are left
pub none_later : (told : List FloorEvent) (room said at : ℕ) (steps : List Step) → slice_get steps at ≡ None → unsaid said (drop at steps) ≡ later_steps told room (unsaid said (drop at steps))
none_later told room said at steps h =
    let P : List Step → Type 0 = λ q. unsaid said q ≡ later_steps told room (unsaid said q) in
    let none : P [] = refl in
    subst P (sym (none_here steps at h)) none

-- the turn of the step is the next turn
pub heard_here : (told now : List FloorEvent) (room said at : ℕ) (steps : List Step) (step : Step) (turn : Turn) (buf : List ℕ) → slice_get steps at ≡ Some step → IsHeard told now (step_event told room (without_said said step)) turn buf → IsHeard told now (next_event told room (unsaid said (drop at steps))) turn buf
heard_here told now room said at steps step turn buf h heard =
    let P : List Step → Type 0 = λ q. IsHeard told now (next_event told room (unsaid said q)) turn buf in
    subst P (sym (split_here steps at step h)) heard

-- what is left of the step stands before the others
later_here : (told : List FloorEvent) (room said at : ℕ) (steps : List Step) (step : Step) (count : Option ℕ) → slice_get steps at ≡ Some step → rest_at step count ≡ step_rest told room (without_said said step) → rest_at step count ++ drop (at + 1) steps ≡ later_steps told room (unsaid said (drop at steps))
later_here told room said at steps step count h left = ap (λ q. q ++ drop (at + 1) steps) left ∙ sym (ap (λ q. later_steps told room (unsaid said q)) (split_here steps at step h))

-- more is left of the step
pub later_same : (told : List FloorEvent) (room said at : ℕ) (steps : List Step) (step : Step) (count : ℕ) → slice_get steps at ≡ Some step → rest_at step (Some count) ≡ step_rest told room (without_said said step) → unsaid count (drop at steps) ≡ later_steps told room (unsaid said (drop at steps))
later_same told room said at steps step count h left = ap (unsaid count) (split_here steps at step h) ∙ later_here told room said at steps step (Some count) h left

none_said : (steps : List Step) → unsaid 0 steps ≡ steps
none_said [] = refl
none_said (Open peer ∷ steps) = refl
none_said (Say session bytes ∷ steps) = refl
none_said (Close session ∷ steps) = refl
none_said (Rest ∷ steps) = refl

-- the step is done
pub later_next : (told : List FloorEvent) (room said at : ℕ) (steps : List Step) (step : Step) → slice_get steps at ≡ Some step → rest_at step None ≡ step_rest told room (without_said said step) → unsaid 0 (drop (at + 1) steps) ≡ later_steps told room (unsaid said (drop at steps))
later_next told room said at steps step h left = none_said (drop (at + 1) steps) ∙ later_here told room said at steps step None h left
