-- What a run is made for, and where its turns come from (Sendmail Installation and Operation Guide,
-- the switches -bd, -bs and -q).
use Rattle.std.specs.Prelude.{ℕ, List, Option, Bool, true, false}
use Rattle.link_edge.specs.declared.event.Event.{Event}
use Rattle.link_edge.specs.declared.event.Event.TheVariants.{Opens, Brings, Closes, Rests, Stops}

-- sessions are served, and between their turns the queue, where a time with `-q` is the least one
-- between two tries of an entry of a group that says none itself; or the queue is run once, or one
-- group of it
pub data Plan : Type 0 where
  Serve : (wait : Option ℕ) → Plan
  Once : (group : Option (List ℕ)) → Plan

-- where a turn came from, with the clock's reading at it: a floor told it, or the run itself made
-- it
pub data Origin : Type 0 where
  OfFloor : (reading : ℕ) → Origin
  OfRun : (reading : ℕ) → Origin

abbrev pub reading_of : Origin → ℕ
reading_of (OfFloor reading) = reading
reading_of (OfRun reading) = reading

-- an event that is of no session
abbrev pub is_own : Event → Bool
is_own (Opens session peer) = false
is_own (Brings session bytes) = false
is_own (Closes session) = false
is_own Rests = true
is_own Stops = true

abbrev pub is_rest : Event → Bool
is_rest (Opens session peer) = false
is_rest (Brings session bytes) = false
is_rest (Closes session) = false
is_rest Rests = true
is_rest Stops = false

abbrev pub is_stop : Event → Bool
is_stop (Opens session peer) = false
is_stop (Brings session bytes) = false
is_stop (Closes session) = false
is_stop Rests = false
is_stop Stops = true

-- where a turn may come from: while sessions are served the floor tells each, whatever it is;
-- behind a Stop the run makes Stops itself, and asks no floor; a run over the queue makes Rests
abbrev pub comes_from : Plan → (stopping : Bool) → Origin → Event → Bool
comes_from (Serve wait) false (OfFloor reading) event = true
comes_from (Serve wait) false (OfRun reading) event = false
comes_from (Serve wait) true (OfFloor reading) event = false
comes_from (Serve wait) true (OfRun reading) event = is_stop event
comes_from (Once group) stopping (OfFloor reading) event = false
comes_from (Once group) stopping (OfRun reading) event = is_rest event
