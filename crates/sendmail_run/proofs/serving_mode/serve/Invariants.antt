use Rattle.std.proofs.Common.{◌≡◌, ◌≤◌, ◌+◌}
use Rattle.mail_core.specs.Seen.{beside, hands, seen}
use Rattle.sendmail_run.specs.Serving.{grounds_of, judge_by, site_of}
use Rattle.sendmail_run.specs.Tasks.{IsBegunAt, door_of, plan_of}
use Rattle.sendmail_run.specs.inner.Opened.{IsGoing}
use Rattle.sendmail_run.proofs.serving_mode.serve.Given as goal

-- the turns so far are a run that goes on, over each table that the store held when it was opened
abbrev pub invariant-loop : goal.invariant-loop
invariant-loop g l = record {
  begun : IsBegunAt (door_of l.fn.config l.fn.task) (g.L.Floor.seen l.fn.floor) (g.L.Floor.seen l.floor);
  files : g.F.Files.seen l.files ≡ g.F.Files.seen l.fn.files;
  going : IsGoing (judge_by (grounds_of l.fn.config l.fn.maps l.fn.names) (g.F.Files.seen l.fn.files)) (site_of l.fn.config l.fn.maps (plan_of l.fn.task)) l.core l.counter
      (seen (g.L.Floor.seen l.fn.floor) (g.D.Spool.seen l.fn.spool) (beside (g.C.Clock.seen l.fn.clock) (hands (g.S.Spawner.seen l.fn.spawner) (g.N.Dialer.seen l.fn.dialer))))
      (seen (g.L.Floor.seen l.floor) (g.D.Spool.seen l.spool) (beside (g.C.Clock.seen l.clock) (hands (g.S.Spawner.seen l.spawner) (g.N.Dialer.seen l.dialer))));
  floor : (g.L.Floor.seen l.floor).faults ≡ (g.L.Floor.seen l.fn.floor).faults;
  spool : (g.D.Spool.seen l.spool).faults ≡ (g.D.Spool.seen l.fn.spool).faults;
  readings : (g.C.Clock.seen l.clock).readings ≤ (g.C.Clock.seen l.fn.clock).readings + 1 + l.counter;
}
