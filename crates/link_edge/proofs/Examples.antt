-- Worked examples of the definitions.
use Rattle.std.specs.Prelude.{◌≡◌, List, [], ◌∷◌, codes, false, refl}
use Rattle.link_edge.specs.declared.event.Event.TheVariants.{Opens, Brings, Closes, Rests}
use Rattle.link_edge.specs.declared.event.FloorEvent.{FloorEvent}
use Rattle.link_edge.specs.declared.event.FloorEvent.TheVariants.{Took, Sent, Unsent, HungUp}
use Rattle.link_edge.specs.declared.step.Step.TheVariants.{Open, Say}
use Rattle.link_edge.specs.Sessions.{AllFollow, Follows, is_open, is_sound, open_in, sound_in}
use Rattle.link_edge.specs.Steps.{later_steps, next_event}

-- two sessions, of which the first was ended by its peer, and the second was sent to in vain
history : List FloorEvent
history = Took (Opens 1 (codes "::1")) ∷ Took (Opens 2 (codes "::2")) ∷ Sent 1 (codes "220") ∷ Took (Brings 1 (codes "QUIT")) ∷ Took (Closes 1) ∷ Unsent 2 ∷ []

second_is_open : open_in history ≡ 2 ∷ []
unfolding history
second_is_open = refl

none_is_sound : sound_in history ≡ []
unfolding history
none_is_sound = refl

each_event_follows : AllFollow [] history
unfolding history
each_event_follows = (refl, (refl, (refl, (refl, (refl, (refl, tt))))))

an_ended_session_is_not_open : is_open 1 history ≡ false
unfolding history
an_ended_session_is_not_open = refl

a_hang_up_follows_a_failed_send : Follows history (HungUp 2)
unfolding history
a_hang_up_follows_a_failed_send = refl

no_send_follows_a_failed_one : is_sound 2 history ≡ false
unfolding history
no_send_follows_a_failed_one = refl

bytes_of_an_ended_session_are_idle : next_event history 64 (Say 1 (codes "late") ∷ []) ≡ Took Rests
unfolding history
bytes_of_an_ended_session_are_idle = refl

third_session_is_number_three : next_event history 64 (Open (codes "::3") ∷ []) ≡ Took (Opens 3 (codes "::3"))
unfolding history
third_session_is_number_three = refl

the_rest_comes_next : later_steps (Took (Opens 1 []) ∷ []) 2 (Say 1 (codes "NOOP") ∷ []) ≡ Say 1 (codes "OP") ∷ []
the_rest_comes_next = refl
