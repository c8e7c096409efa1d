-- Where turns come from.
use Rattle.std.proofs.Common.{◌≡◌, ℕ, List, Option, Bool, true, false, refl}
use Rattle.std.proofs.lemmas.Bool.{false≢true}
use Rattle.link_edge.specs.declared.event.Event.{Event}
use Rattle.link_edge.specs.declared.event.Event.TheVariants.{Opens, Brings, Closes, Rests, Stops}
use Rattle.mail_core.specs.Plans.{OfFloor, OfRun, Once, Origin, Plan, Serve, comes_from, is_own, is_rest, is_stop}

stop_own : (event : Event) → is_stop event ≡ true → is_own event ≡ true
stop_own (Opens session peer) is = is
stop_own (Brings session bytes) is = is
stop_own (Closes session) is = is
stop_own Rests is = refl
stop_own Stops is = refl

rest_own : (event : Event) → is_rest event ≡ true → is_own event ≡ true
rest_own (Opens session peer) is = is
rest_own (Brings session bytes) is = is
rest_own (Closes session) is = is
rest_own Rests is = refl
rest_own Stops is = refl

-- a run makes no turn of a session itself
pub made_own : (plan : Plan) (stopping : Bool) (reading : ℕ) (event : Event) → comes_from plan stopping (OfRun reading) event ≡ true → is_own event ≡ true
made_own (Serve wait) false reading event comes = absurd (false≢true comes)
made_own (Serve wait) true reading event comes = stop_own event comes
made_own (Once group) stopping reading event comes = rest_own event comes

-- a run over the queue takes no turn but its own Rests
pub rests_alone : (group : Option (List ℕ)) (stopping : Bool) (origin : Origin) (event : Event) → is_rest event ≡ false → comes_from (Once group) stopping origin event ≡ false
rests_alone group stopping (OfFloor reading) event other = refl
rests_alone group stopping (OfRun reading) event other = other
