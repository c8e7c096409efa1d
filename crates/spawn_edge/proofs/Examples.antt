-- Worked examples of the definitions.
use Rattle.std.specs.Prelude.{◌≡◌, pos, List, [], ◌∷◌, codes, false, Some, None, Err, refl}
use Rattle.mail_base.specs.declared.fault.Failed.{Failed}
use Rattle.spawn_edge.specs.declared.event.Poll.TheVariants.{Runs, Over, Lost}
use Rattle.spawn_edge.specs.declared.event.SpawnEvent.{SpawnEvent}
use Rattle.spawn_edge.specs.declared.event.SpawnEvent.TheVariants.{Began, Unbegun, Polled}
use Rattle.spawn_edge.specs.declared.event.Start.{Start}
use Rattle.spawn_edge.specs.declared.life.Life.{Life}
use Rattle.spawn_edge.specs.Children.{AllFollow, is_running, running_in, start_events, start_of}
use Rattle.spawn_edge.specs.Lives.{next_child, status_at}

-- a message for ann
start : Start
start = start_of (codes "/bin/mail") (codes "-d" ∷ codes "ann" ∷ []) (codes "hello")

-- two children, one start that failed, and two that weren't told before the second child; the
-- first child was found running once, then it ended, and the second was lost
history : List SpawnEvent
history = Began start 1 0 ∷ Unbegun start 0 ∷ Polled 1 Runs ∷ Began start 2 2 ∷ Polled 1 (Over (pos 75)) ∷ []

the_second_runs : running_in history ≡ 2 ∷ []
unfolding history start
the_second_runs = refl

each_event_follows : AllFollow [] history
unfolding history start
each_event_follows = (refl, (tt, (refl, (refl, (refl, tt)))))

a_child_that_ended_is_over : is_running 1 history ≡ false
unfolding history start
a_child_that_ended_is_over = refl

a_lost_child_is_over : running_in (Began start 1 0 ∷ Polled 1 Lost ∷ []) ≡ []
unfolding start
a_lost_child_is_over = refl

the_third_child_is_number_three : next_child history ≡ 3
unfolding history start
the_third_child_is_number_three = refl

-- the lives of two children: the first is found running twice
lives : List Life
lives = record { polls = 2; status = pos 0 } ∷ record { polls = 0; status = pos 75 } ∷ []

the_first_runs_still : status_at lives (Began start 1 0 ∷ Polled 1 Runs ∷ []) 1 ≡ None
unfolding lives start
the_first_runs_still = refl

the_first_ends_behind_two_polls : status_at lives (Polled 1 Runs ∷ Polled 1 Runs ∷ []) 1 ≡ Some (pos 0)
unfolding lives
the_first_ends_behind_two_polls = refl

the_second_ends_at_once : status_at lives [] 2 ≡ Some (pos 75)
unfolding lives
the_second_ends_at_once = refl

a_failed_start_is_told_with_its_texts : (fault : Failed) → start_events (codes "/bin/mail") (codes "-d" ∷ codes "ann" ∷ []) (codes "hello") 2 0 (Err fault) ≡ Unbegun start 2 ∷ []
unfolding start
a_failed_start_is_told_with_its_texts fault = refl

a_missed_start_is_not_told : (fault : Failed) → start_events (codes "/bin/mail") [] [] 2 3 (Err fault) ≡ []
a_missed_start_is_not_told fault = refl
