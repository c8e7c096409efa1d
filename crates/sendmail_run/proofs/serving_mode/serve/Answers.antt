use Rattle.std.proofs.Common.{◌≡◌, ℕ, Option, Ok, Err, Bool, true, refl, subst, false, arith, inr, ◌∙◌, sym}
use Rattle.std.specs.Prelude.{is_some}
use Rattle.std.proofs.lemmas.Bool.{false≢true}
use Rattle.mail_base.specs.Histories.{Rose}
use Rattle.mail_edge.specs.Seen.{FilesSeen}
use Rattle.link_edge.specs.declared.place.Place.{Place}
use Rattle.mail_core.specs.Causes.{is_judge_fault}
use Rattle.mail_core.specs.Events.{event_of}
use Rattle.mail_core.specs.Plans.{comes_from}
use Rattle.mail_core.specs.Seen.{beside, hands, seen}
use Rattle.mail_core.specs.declared.act.Act.{Act}
use Rattle.mail_core.specs.declared.act.Act.TheVariants.{Ended}
use Rattle.mail_edge.proofs.Causing.{rose_since}
use Rattle.sendmail_run.specs.Serving.{grounds_of, judge_by, site_of}
use Rattle.sendmail_run.specs.Tasks.{IsBegunAt, plan_of}
use Rattle.sendmail_run.specs.inner.Opened.{origin_of}
use Rattle.sendmail_run.proofs.ServingLemmas.{able_so, asks_first, files_kept, files_same, files_since, floor_later, going_begin, going_floor, going_more, served_out, serves_lost, serves_spent, spool_ended, standing}
use Rattle.sendmail_run.proofs.TurningLemmas.{begun_still, has_door, taken}
use Rattle.sendmail_run.proofs.serving_mode.serve.Goals as goal

-- the queue could not be opened
pub returns-in-Err-clause-serves : goal.returns-in-Err-clause-serves
returns-in-Err-clause-serves g c =
    c.in-Err.ensures.serves c.args.maps.now (grounds_of c.args.config.now c.args.maps.now c.args.names.now) (g.F.Files.seen c.args.files.now) (g.F.Files.seen c.args.files.now).faults (g.L.Floor.seen c.args.floor.now) (hands (g.S.Spawner.seen c.args.spawner.now) (g.N.Dialer.seen c.args.dialer.now))

-- the floor could not begin
pub returns-in_default-clause-serves : goal.returns-in_default-clause-serves
returns-in_default-clause-serves g c =
    serves_lost (judge_by (grounds_of c.args.config.now c.args.maps.now c.args.names.now) (g.F.Files.seen c.args.files.now)) (g.F.Files.seen c.args.files.now).faults (site_of c.args.config.now c.args.maps.now (plan_of c.args.task.now)) c.args.task.now c.in-Ok.core 0
    (seen (g.L.Floor.seen c.args.floor.now) (g.D.Spool.seen c.args.spool.now) (beside (g.C.Clock.seen c.args.clock.now) (hands (g.S.Spawner.seen c.args.spawner.now) (g.N.Dialer.seen c.args.dialer.now))))
    (seen (g.L.Floor.seen c.begin_at.new.floor) (g.D.Spool.seen c.opened.new.spool) (beside (g.C.Clock.seen c.opened.new.clock) (hands (g.S.Spawner.seen c.args.spawner.now) (g.N.Dialer.seen c.args.dialer.now))))
    (subst (λ (door : Option (Place × ℕ)). is_some door ≡ true) c.requires.door c.in_default.ensures.door)
    (subst (λ (door : Option (Place × ℕ)). IsBegunAt door (g.L.Floor.seen c.args.floor.now) (g.L.Floor.seen c.begin_at.new.floor)) c.requires.door c.begin_at.ensures.begun) (g.met.D.Spool.only_now c.args.spool.now) (omega arith)
    (asks_first (site_of c.args.config.now c.args.maps.now (plan_of c.args.task.now)) (g.D.Spool.seen c.args.spool.now).told c.in-Ok.core (g.C.Clock.seen c.args.clock.now) (g.C.Clock.seen c.opened.new.clock) (c.in-Ok.ensures.core c.args.maps.now))
    (going_begin (judge_by (grounds_of c.args.config.now c.args.maps.now c.args.names.now) (g.F.Files.seen c.args.files.now)) (site_of c.args.config.now c.args.maps.now (plan_of c.args.task.now)) c.in-Ok.core (g.L.Floor.seen c.args.floor.now) (g.L.Floor.seen c.begin_at.new.floor) (g.D.Spool.seen c.args.spool.now) (g.D.Spool.seen c.opened.new.spool) (beside (g.C.Clock.seen c.args.clock.now) (hands (g.S.Spawner.seen c.args.spawner.now) (g.N.Dialer.seen c.args.dialer.now))) (beside (g.C.Clock.seen c.opened.new.clock) (hands (g.S.Spawner.seen c.args.spawner.now) (g.N.Dialer.seen c.args.dialer.now)))
    c.in-Ok.ensures.taken c.in-Ok.ensures.sparing c.begin_at.ensures.told c.begin_at.ensures.cause.later c.in-Ok.ensures.later refl (c.in-Ok.ensures.core c.args.maps.now) (c.in-Ok.ensures.able (g.S.Spawner.seen c.args.spawner.now)))
    c.in_default.ensures.cause.failed

pub loop-init : goal.loop-init
loop-init g c = record {
  files = refl;
  begun = (subst (λ (door : Option (Place × ℕ)). IsBegunAt door (g.L.Floor.seen c.args.floor.now) (g.L.Floor.seen c.begin_at.new.floor)) c.requires.door c.begin_at.ensures.begun);
  going = going_begin (judge_by (grounds_of c.args.config.now c.args.maps.now c.args.names.now) (g.F.Files.seen c.args.files.now)) (site_of c.args.config.now c.args.maps.now (plan_of c.args.task.now)) c.in-Ok.core (g.L.Floor.seen c.args.floor.now) (g.L.Floor.seen c.begin_at.new.floor) (g.D.Spool.seen c.args.spool.now) (g.D.Spool.seen c.opened.new.spool) (beside (g.C.Clock.seen c.args.clock.now) (hands (g.S.Spawner.seen c.args.spawner.now) (g.N.Dialer.seen c.args.dialer.now))) (beside (g.C.Clock.seen c.opened.new.clock) (hands (g.S.Spawner.seen c.args.spawner.now) (g.N.Dialer.seen c.args.dialer.now)))
      c.in-Ok.ensures.taken c.in-Ok.ensures.sparing c.begin_at.ensures.told c.begin_at.ensures.cause.later c.in-Ok.ensures.later refl (c.in-Ok.ensures.core c.args.maps.now) (c.in-Ok.ensures.able (g.S.Spawner.seen c.args.spawner.now));
  floor = c.in-Ok-begin_at.ensures.calm;
  spool = c.in-Ok.ensures.kept;
  readings = omega (arith, c.in-Ok.ensures.readings);
}

-- a turn of it failed
pub returns-in_default-next_turn-clause-serves : goal.returns-in_default-next_turn-clause-serves
returns-in_default-next_turn-clause-serves g c =
    let going = c.loop.invariant.going in
    let fails = c.in_default-next_turn.ensures.fails in
    serves_lost (judge_by (grounds_of c.args.config.now c.args.maps.now c.args.names.now) (g.F.Files.seen c.args.files.now)) (g.F.Files.seen c.loop.files).faults (site_of c.args.config.now c.args.maps.now (plan_of c.args.task.now)) c.args.task.now c.loop.core c.loop.counter
    (seen (g.L.Floor.seen c.args.floor.now) (g.D.Spool.seen c.args.spool.now) (beside (g.C.Clock.seen c.args.clock.now) (hands (g.S.Spawner.seen c.args.spawner.now) (g.N.Dialer.seen c.args.dialer.now))))
    (seen (g.L.Floor.seen c.next_turn.new.floor) (g.D.Spool.seen c.loop.spool) (beside (g.C.Clock.seen c.loop.clock) (hands (g.S.Spawner.seen c.loop.spawner) (g.N.Dialer.seen c.loop.dialer))))
    (has_door c.args.config.now c.args.task.now fails.asked)
    (begun_still c.args.config.now c.args.task.now (g.L.Floor.seen c.args.floor.now) (g.L.Floor.seen c.loop.floor) (g.L.Floor.seen c.next_turn.new.floor) c.loop.invariant.begun fails.begun (λ run. absurd (false≢true (sym fails.asked ∙ run))))
    (g.met.D.Spool.only_now c.args.spool.now) (omega (arith, c.loop-test.true)) (sym c.is_stopping.ensures ∙ fails.on)
    (going_floor (judge_by (grounds_of c.args.config.now c.args.maps.now c.args.names.now) (g.F.Files.seen c.args.files.now)) (site_of c.args.config.now c.args.maps.now (plan_of c.args.task.now)) c.loop.core c.loop.counter (seen (g.L.Floor.seen c.args.floor.now) (g.D.Spool.seen c.args.spool.now) (beside (g.C.Clock.seen c.args.clock.now) (hands (g.S.Spawner.seen c.args.spawner.now) (g.N.Dialer.seen c.args.dialer.now))))
    (g.L.Floor.seen c.loop.floor) (g.L.Floor.seen c.next_turn.new.floor) (g.D.Spool.seen c.loop.spool) (beside (g.C.Clock.seen c.loop.clock) (hands (g.S.Spawner.seen c.loop.spawner) (g.N.Dialer.seen c.loop.dialer))) going fails.told fails.later)
    (rose_since (g.L.Floor.seen c.args.floor.now).faults (g.L.Floor.seen c.loop.floor).faults (g.L.Floor.seen c.next_turn.new.floor).faults
    (floor_later (judge_by (grounds_of c.args.config.now c.args.maps.now c.args.names.now) (g.F.Files.seen c.args.files.now)) (site_of c.args.config.now c.args.maps.now (plan_of c.args.task.now)) c.loop.core c.loop.counter (seen (g.L.Floor.seen c.args.floor.now) (g.D.Spool.seen c.args.spool.now) (beside (g.C.Clock.seen c.args.clock.now) (hands (g.S.Spawner.seen c.args.spawner.now) (g.N.Dialer.seen c.args.dialer.now)))) (seen (g.L.Floor.seen c.loop.floor) (g.D.Spool.seen c.loop.spool) (beside (g.C.Clock.seen c.loop.clock) (hands (g.S.Spawner.seen c.loop.spawner) (g.N.Dialer.seen c.loop.dialer)))) going) fails.rose)

pub now-reading-requires : goal.now-reading-requires
now-reading-requires g c = omega (arith, c.loop.invariant.readings, c.requires.readings, c.loop-test.true)

pub take_turn-requires : goal.take_turn-requires
take_turn-requires g c = record {
  fits = c.in-Ok-next_turn.ensures.comes.fits;
  sound = c.in-Ok-next_turn.ensures.comes.heard;
  standing = standing (judge_by (grounds_of c.args.config.now c.args.maps.now c.args.names.now) (g.F.Files.seen c.args.files.now)) (site_of c.args.config.now c.args.maps.now (plan_of c.args.task.now)) c.loop.core c.loop.counter (seen (g.L.Floor.seen c.args.floor.now) (g.D.Spool.seen c.args.spool.now) (beside (g.C.Clock.seen c.args.clock.now) (hands (g.S.Spawner.seen c.args.spawner.now) (g.N.Dialer.seen c.args.dialer.now)))) (seen (g.L.Floor.seen c.loop.floor) (g.D.Spool.seen c.loop.spool) (beside (g.C.Clock.seen c.loop.clock) (hands (g.S.Spawner.seen c.loop.spawner) (g.N.Dialer.seen c.loop.dialer)))) c.loop.invariant.going c.args.config.now c.args.maps.now (record { config_is = refl; maps_are = refl });
  able = able_so (judge_by (grounds_of c.args.config.now c.args.maps.now c.args.names.now) (g.F.Files.seen c.args.files.now)) (site_of c.args.config.now c.args.maps.now (plan_of c.args.task.now)) c.loop.core c.loop.counter (seen (g.L.Floor.seen c.args.floor.now) (g.D.Spool.seen c.args.spool.now) (beside (g.C.Clock.seen c.args.clock.now) (hands (g.S.Spawner.seen c.args.spawner.now) (g.N.Dialer.seen c.args.dialer.now)))) (seen (g.L.Floor.seen c.loop.floor) (g.D.Spool.seen c.loop.spool) (beside (g.C.Clock.seen c.loop.clock) (hands (g.S.Spawner.seen c.loop.spawner) (g.N.Dialer.seen c.loop.dialer)))) c.loop.invariant.going;
}

-- all was done
pub returns-in-Ok-Ended-clause-serves : goal.returns-in-Ok-Ended-clause-serves
returns-in-Ok-Ended-clause-serves g c =
    let comes = c.in-Ok-next_turn.ensures.comes in
    served_out (grounds_of c.args.config.now c.args.maps.now c.args.names.now) (g.F.Files.seen c.args.files.now) (g.F.Files.seen c.loop.files) (site_of c.args.config.now c.args.maps.now (plan_of c.args.task.now)) c.args.task.now c.loop.core c.take_turn.new.core c.loop.counter
    (seen (g.L.Floor.seen c.args.floor.now) (g.D.Spool.seen c.args.spool.now) (beside (g.C.Clock.seen c.args.clock.now) (hands (g.S.Spawner.seen c.args.spawner.now) (g.N.Dialer.seen c.args.dialer.now))))
    (seen (g.L.Floor.seen c.loop.floor) (g.D.Spool.seen c.loop.spool) (beside (g.C.Clock.seen c.loop.clock) (hands (g.S.Spawner.seen c.loop.spawner) (g.N.Dialer.seen c.loop.dialer))))
    (seen (g.L.Floor.seen c.take_turn.new.floor) (g.D.Spool.seen c.take_turn.new.spool) (beside (g.C.Clock.seen c.now-reading.new.self) (hands (g.S.Spawner.seen c.take_turn.new.spawner) (g.N.Dialer.seen c.take_turn.new.dialer))))
    (event_of c.in-Ok-next_turn.coming.turn c.next_turn.new.buffer) (origin_of c.in-Ok-next_turn.coming.told c.now-reading.result) (Ok Ended)
    (begun_still c.args.config.now c.args.task.now (g.L.Floor.seen c.args.floor.now) (g.L.Floor.seen c.loop.floor) (g.L.Floor.seen c.take_turn.new.floor) c.loop.invariant.begun (c.take_turn.ensures.begun ∙ comes.begun) (λ run. c.take_turn.ensures.alone (comes.own run) ∙ comes.alone run))
    (g.met.D.Spool.only_now c.args.spool.now) (omega (arith, c.loop-test.true)) c.loop.invariant.files c.loop.invariant.going
    (λ m stands. rw c.in-Ok-Ended.field-0-is at c.in-Ok-Ended.ensures.turns (site_of c.args.config.now c.args.maps.now (plan_of c.args.task.now)) m c.in-Ok-next_turn.coming.told (g.L.Floor.seen c.loop.floor) (g.C.Clock.seen c.loop.clock) (g.C.Clock.seen c.now-reading.new.self) (record { config_is = refl; maps_are = refl }) stands
    (subst (λ (s : Bool). comes_from (plan_of c.args.task.now) s (origin_of c.in-Ok-next_turn.coming.told c.now-reading.result) (event_of c.in-Ok-next_turn.coming.turn c.next_turn.new.buffer) ≡ true) (c.is_stopping.ensures ∙ stands.stopping) (comes.may c.now-reading.result))
    (taken c.args.task.now c.is_stopping.result (g.L.Floor.seen c.loop.floor) (g.L.Floor.seen c.next_turn.new.floor) c.in-Ok-next_turn.coming.turn c.in-Ok-next_turn.coming.told c.next_turn.new.buffer (g.C.Clock.seen c.loop.clock) (g.C.Clock.seen c.now-reading.new.self) c.now-reading.result comes c.now-reading.ensures.told c.now-reading.ensures.counted))

-- the run can't go on
pub returns-in-Err-take_turn-clause-serves : goal.returns-in-Err-take_turn-clause-serves
returns-in-Err-take_turn-clause-serves g c =
    let comes = c.in-Ok-next_turn.ensures.comes in (
      λ lost. subst (λ (f : FilesSeen). Rose f.faults (g.F.Files.seen c.take_turn.new.files).faults) c.loop.invariant.files (c.in-Err-take_turn.ensures.asks.rose lost),
      served_out (grounds_of c.args.config.now c.args.maps.now c.args.names.now) (g.F.Files.seen c.args.files.now) (g.F.Files.seen c.loop.files) (site_of c.args.config.now c.args.maps.now (plan_of c.args.task.now)) c.args.task.now c.loop.core c.take_turn.new.core c.loop.counter
          (seen (g.L.Floor.seen c.args.floor.now) (g.D.Spool.seen c.args.spool.now) (beside (g.C.Clock.seen c.args.clock.now) (hands (g.S.Spawner.seen c.args.spawner.now) (g.N.Dialer.seen c.args.dialer.now))))
          (seen (g.L.Floor.seen c.loop.floor) (g.D.Spool.seen c.loop.spool) (beside (g.C.Clock.seen c.loop.clock) (hands (g.S.Spawner.seen c.loop.spawner) (g.N.Dialer.seen c.loop.dialer))))
          (seen (g.L.Floor.seen c.take_turn.new.floor) (g.D.Spool.seen c.take_turn.new.spool) (beside (g.C.Clock.seen c.now-reading.new.self) (hands (g.S.Spawner.seen c.take_turn.new.spawner) (g.N.Dialer.seen c.take_turn.new.dialer))))
          (event_of c.in-Ok-next_turn.coming.turn c.next_turn.new.buffer) (origin_of c.in-Ok-next_turn.coming.told c.now-reading.result) (Err c.in-Err-take_turn.stop)
          (begun_still c.args.config.now c.args.task.now (g.L.Floor.seen c.args.floor.now) (g.L.Floor.seen c.loop.floor) (g.L.Floor.seen c.take_turn.new.floor) c.loop.invariant.begun (c.take_turn.ensures.begun ∙ comes.begun) (λ run. c.take_turn.ensures.alone (comes.own run) ∙ comes.alone run))
          (g.met.D.Spool.only_now c.args.spool.now) (omega (arith, c.loop-test.true)) c.loop.invariant.files c.loop.invariant.going
          (λ m stands. c.in-Err-take_turn.ensures.turns (site_of c.args.config.now c.args.maps.now (plan_of c.args.task.now)) m c.in-Ok-next_turn.coming.told (g.L.Floor.seen c.loop.floor) (g.C.Clock.seen c.loop.clock) (g.C.Clock.seen c.now-reading.new.self) (record { config_is = refl; maps_are = refl }) stands
          (subst (λ (s : Bool). comes_from (plan_of c.args.task.now) s (origin_of c.in-Ok-next_turn.coming.told c.now-reading.result) (event_of c.in-Ok-next_turn.coming.turn c.next_turn.new.buffer) ≡ true) (c.is_stopping.ensures ∙ stands.stopping) (comes.may c.now-reading.result))
          (taken c.args.task.now c.is_stopping.result (g.L.Floor.seen c.loop.floor) (g.L.Floor.seen c.next_turn.new.floor) c.in-Ok-next_turn.coming.turn c.in-Ok-next_turn.coming.told c.next_turn.new.buffer (g.C.Clock.seen c.loop.clock) (g.C.Clock.seen c.now-reading.new.self) c.now-reading.result comes c.now-reading.ensures.told c.now-reading.ensures.counted)),
    )

pub loop-preserved : goal.loop-preserved
loop-preserved g c =
    let comes = c.in-Ok-next_turn.ensures.comes in record {
      files = files_same (g.F.Files.seen c.args.files.now) (g.F.Files.seen c.loop.files) (g.F.Files.seen c.take_turn.new.files) c.loop.invariant.files c.in-Ok-Went.ensures.asks;
      begun = (begun_still c.args.config.now c.args.task.now (g.L.Floor.seen c.args.floor.now) (g.L.Floor.seen c.loop.floor) (g.L.Floor.seen c.take_turn.new.floor) c.loop.invariant.begun (c.take_turn.ensures.begun ∙ comes.begun) (λ run. c.take_turn.ensures.alone (comes.own run) ∙ comes.alone run));
      going = going_more (grounds_of c.args.config.now c.args.maps.now c.args.names.now) (g.F.Files.seen c.args.files.now) (g.F.Files.seen c.loop.files) (site_of c.args.config.now c.args.maps.now (plan_of c.args.task.now)) c.loop.core c.take_turn.new.core c.loop.counter
          (event_of c.in-Ok-next_turn.coming.turn c.next_turn.new.buffer) (origin_of c.in-Ok-next_turn.coming.told c.now-reading.result)
          (seen (g.L.Floor.seen c.args.floor.now) (g.D.Spool.seen c.args.spool.now) (beside (g.C.Clock.seen c.args.clock.now) (hands (g.S.Spawner.seen c.args.spawner.now) (g.N.Dialer.seen c.args.dialer.now))))
          (seen (g.L.Floor.seen c.loop.floor) (g.D.Spool.seen c.loop.spool) (beside (g.C.Clock.seen c.loop.clock) (hands (g.S.Spawner.seen c.loop.spawner) (g.N.Dialer.seen c.loop.dialer))))
          (seen (g.L.Floor.seen c.take_turn.new.floor) (g.D.Spool.seen c.take_turn.new.spool) (beside (g.C.Clock.seen c.now-reading.new.self) (hands (g.S.Spawner.seen c.take_turn.new.spawner) (g.N.Dialer.seen c.take_turn.new.dialer))))
          c.loop.invariant.files c.loop.invariant.going
          (λ m stands. rw c.in-Ok-Went.field-0-is at c.in-Ok-Went.ensures.turns (site_of c.args.config.now c.args.maps.now (plan_of c.args.task.now)) m c.in-Ok-next_turn.coming.told (g.L.Floor.seen c.loop.floor) (g.C.Clock.seen c.loop.clock) (g.C.Clock.seen c.now-reading.new.self) (record { config_is = refl; maps_are = refl }) stands
          (subst (λ (s : Bool). comes_from (plan_of c.args.task.now) s (origin_of c.in-Ok-next_turn.coming.told c.now-reading.result) (event_of c.in-Ok-next_turn.coming.turn c.next_turn.new.buffer) ≡ true) (c.is_stopping.ensures ∙ stands.stopping) (comes.may c.now-reading.result))
          (taken c.args.task.now c.is_stopping.result (g.L.Floor.seen c.loop.floor) (g.L.Floor.seen c.next_turn.new.floor) c.in-Ok-next_turn.coming.turn c.in-Ok-next_turn.coming.told c.next_turn.new.buffer (g.C.Clock.seen c.loop.clock) (g.C.Clock.seen c.now-reading.new.self) c.now-reading.result comes c.now-reading.ensures.told c.now-reading.ensures.counted))
          c.now-reading.ensures.counted (c.in-Ok-Went.ensures.able refl);
      floor = c.take_turn.ensures.own ∙ comes.faults ∙ c.loop.invariant.floor;
      spool = c.in-Ok-Went.ensures.calm refl ∙ c.loop.invariant.spool;
      readings = omega (arith, c.now-reading.ensures.counted, c.loop.invariant.readings);
    }

pub returns-clause-serves : goal.returns-clause-serves
returns-clause-serves g c =
    serves_spent (judge_by (grounds_of c.args.config.now c.args.maps.now c.args.names.now) (g.F.Files.seen c.args.files.now)) (g.F.Files.seen c.loop.files).faults (site_of c.args.config.now c.args.maps.now (plan_of c.args.task.now)) c.args.task.now c.loop.core c.loop.counter 1152921504606846976
    (seen (g.L.Floor.seen c.args.floor.now) (g.D.Spool.seen c.args.spool.now) (beside (g.C.Clock.seen c.args.clock.now) (hands (g.S.Spawner.seen c.args.spawner.now) (g.N.Dialer.seen c.args.dialer.now))))
    (seen (g.L.Floor.seen c.loop.floor) (g.D.Spool.seen c.loop.spool) (beside (g.C.Clock.seen c.loop.clock) (hands (g.S.Spawner.seen c.loop.spawner) (g.N.Dialer.seen c.loop.dialer))))
    c.loop.invariant.begun (g.met.D.Spool.only_now c.args.spool.now) (omega arith) refl c.loop.invariant.going

pub returns-in_default-clause-rises_spool : goal.returns-in_default-clause-rises_spool
returns-in_default-clause-rises_spool g c = inr c.in-Ok.ensures.kept

pub returns-in_default-next_turn-clause-rises_spool : goal.returns-in_default-next_turn-clause-rises_spool
returns-in_default-next_turn-clause-rises_spool g c = inr c.loop.invariant.spool

pub returns-in-Ok-Ended-clause-rises_floor : goal.returns-in-Ok-Ended-clause-rises_floor
returns-in-Ok-Ended-clause-rises_floor g c = inr (c.take_turn.ensures.own ∙ c.in-Ok-next_turn.ensures.comes.faults ∙ c.loop.invariant.floor)

pub returns-in-Ok-Ended-clause-rises_spool : goal.returns-in-Ok-Ended-clause-rises_spool
returns-in-Ok-Ended-clause-rises_spool g c = inr (c.in-Ok-Ended.ensures.calm refl ∙ c.loop.invariant.spool)

pub returns-in-Err-take_turn-clause-rises_floor : goal.returns-in-Err-take_turn-clause-rises_floor
returns-in-Err-take_turn-clause-rises_floor g c = inr (c.take_turn.ensures.own ∙ c.in-Ok-next_turn.ensures.comes.faults ∙ c.loop.invariant.floor)

pub returns-in-Err-take_turn-clause-rises_spool : goal.returns-in-Err-take_turn-clause-rises_spool
returns-in-Err-take_turn-clause-rises_spool g c =
    spool_ended c.in-Err-take_turn.stop (g.D.Spool.seen c.args.spool.now).faults (g.D.Spool.seen c.loop.spool).faults (g.D.Spool.seen c.take_turn.new.spool).faults c.loop.invariant.spool c.in-Err-take_turn.ensures.calm

pub returns-clause-rises_floor : goal.returns-clause-rises_floor
returns-clause-rises_floor g c = inr c.loop.invariant.floor

pub returns-clause-rises_spool : goal.returns-clause-rises_spool
returns-clause-rises_spool g c = inr c.loop.invariant.spool

-- the files are as they were, but where a turn failed by them
pub returns-in-Err-clause-asks : goal.returns-in-Err-clause-asks
returns-in-Err-clause-asks g c = files_kept (g.F.Files.seen c.args.files.now) (g.F.Files.seen c.args.files.now) _ c.in-Err.ensures.quiet refl

pub returns-in_default-clause-asks : goal.returns-in_default-clause-asks
returns-in_default-clause-asks g c = files_kept (g.F.Files.seen c.args.files.now) (g.F.Files.seen c.args.files.now) false refl refl

pub returns-in_default-next_turn-clause-asks : goal.returns-in_default-next_turn-clause-asks
returns-in_default-next_turn-clause-asks g c = files_kept (g.F.Files.seen c.args.files.now) (g.F.Files.seen c.loop.files) false refl c.loop.invariant.files

pub returns-in-Ok-Ended-clause-asks : goal.returns-in-Ok-Ended-clause-asks
returns-in-Ok-Ended-clause-asks g c = files_since (g.F.Files.seen c.args.files.now) (g.F.Files.seen c.loop.files) (g.F.Files.seen c.take_turn.new.files) false c.loop.invariant.files c.in-Ok-Ended.ensures.asks

pub returns-in-Err-take_turn-clause-asks : goal.returns-in-Err-take_turn-clause-asks
returns-in-Err-take_turn-clause-asks g c = files_since (g.F.Files.seen c.args.files.now) (g.F.Files.seen c.loop.files) (g.F.Files.seen c.take_turn.new.files) (is_judge_fault {T = Act} (Err c.in-Err-take_turn.stop)) c.loop.invariant.files c.in-Err-take_turn.ensures.asks

pub returns-clause-asks : goal.returns-clause-asks
returns-clause-asks g c = files_kept (g.F.Files.seen c.args.files.now) (g.F.Files.seen c.loop.files) false refl c.loop.invariant.files
