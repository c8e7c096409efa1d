use Rattle.std.proofs.Common.{Err, ap, ◌∙◌}
use Rattle.mail_base.specs.declared.fault.StoreFault.{StoreFault}
use Rattle.spool_store.specs.Keepers.{seen as queue_seen}
use Rattle.sendmail_run.specs.Serving.{judge_by, site_of}
use Rattle.sendmail_run.specs.Tasks.{plan_of}
use Rattle.sendmail_run.proofs.OpeningLemmas.{able_over, few_read, found_of, no_maps, quiet_by, rises_by, serves_unopened, sparing_of, taken_none, taken_of, unserved, untouched}
use Rattle.sendmail_run.proofs.opening.opened.Goals as goal

-- there is no memory for the directories
pub returns-in_default-clause-taken : goal.returns-in_default-clause-taken
returns-in_default-clause-taken g c = taken_none (site_of c.args.config.now no_maps (plan_of c.args.task.now)).dirs (g.D.Spool.seen c.args.spool.now)

pub returns-in_default-clause-serves : goal.returns-in_default-clause-serves
returns-in_default-clause-serves g c = λ maps grounds files faults floor hands. untouched (site_of c.args.config.now maps (plan_of c.args.task.now)) (g.D.Spool.seen c.args.spool.now) floor (g.C.Clock.seen c.args.clock.now) hands

-- the queue isn't opened
pub not_opened-requires : goal.not_opened-requires
not_opened-requires g c = record { never = λ e. c.in-Err.ensures.never (ap (λ (f : StoreFault). Err f) e) }

pub returns-in-Err-clause-taken : goal.returns-in-Err-clause-taken
returns-in-Err-clause-taken g c = taken_of (site_of c.args.config.now no_maps (plan_of c.args.task.now)) (g.D.Spool.seen c.args.spool.now) (g.D.Spool.seen c.open.new.spool) c.in-Ok.dirs c.in-Ok.ensures.is c.in-Err.ensures.stands c.in-Err.ensures.tidied

pub returns-in-Err-clause-serves : goal.returns-in-Err-clause-serves
returns-in-Err-clause-serves g c = λ maps grounds files faults floor hands.
    serves_unopened (judge_by grounds files) faults (site_of c.args.config.now maps (plan_of c.args.task.now)) c.args.task.now (g.D.Spool.seen c.args.spool.now) (g.D.Spool.seen c.open.new.spool) floor (g.C.Clock.seen c.args.clock.now) hands c.in-Err.fault c.not_opened.result c.not_opened.ensures.broke c.not_opened.ensures.memory
    (taken_of (site_of c.args.config.now maps (plan_of c.args.task.now)) (g.D.Spool.seen c.args.spool.now) (g.D.Spool.seen c.open.new.spool) c.in-Ok.dirs c.in-Ok.ensures.is c.in-Err.ensures.stands c.in-Err.ensures.tidied) c.in-Err.ensures.later c.in-Err.ensures.cause

pub returns-in-Err-clause-quiet : goal.returns-in-Err-clause-quiet
returns-in-Err-clause-quiet g c = quiet_by c.in-Err.fault c.not_opened.result c.not_opened.ensures.broke c.not_opened.ensures.memory

pub returns-in-Err-clause-rises : goal.returns-in-Err-clause-rises
returns-in-Err-clause-rises g c = rises_by (g.D.Spool.seen c.args.spool.now).faults (g.D.Spool.seen c.open.new.spool).faults c.in-Err.fault c.not_opened.result c.not_opened.ensures.broke c.in-Err.ensures.calm

-- it is, and a core is made over it
pub core_over-requires : goal.core_over-requires
core_over-requires g c = record { readings = c.requires; whole = c.in-Ok-open.ensures.store.1; dirs = c.in-Ok-open.ensures.store.0 ∙ c.in-Ok.ensures.is }

pub returns-in-Ok-core_over-clause-taken : goal.returns-in-Ok-core_over-clause-taken
returns-in-Ok-core_over-clause-taken g c = taken_of (site_of c.args.config.now no_maps (plan_of c.args.task.now)) (g.D.Spool.seen c.args.spool.now) (g.D.Spool.seen c.open.new.spool) c.in-Ok.dirs c.in-Ok.ensures.is c.in-Ok-open.ensures.stands c.in-Ok-open.ensures.tidied

pub returns-in-Ok-core_over-clause-core : goal.returns-in-Ok-core_over-clause-core
returns-in-Ok-core_over-clause-core g c = λ maps. record {
  store = queue_seen c.in-Ok-open.queue;
  found = found_of (site_of c.args.config.now maps (plan_of c.args.task.now)) c.in-Ok.dirs (g.D.Spool.seen c.args.spool.now).told (queue_seen c.in-Ok-open.queue) c.in-Ok.ensures.is c.in-Ok-open.ensures.read c.in-Ok-open.ensures.table c.in-Ok-open.ensures.holds;
  begins = c.in-Ok-core_over.ensures.begins maps;
}

pub returns-in-Ok-core_over-clause-able : goal.returns-in-Ok-core_over-clause-able
returns-in-Ok-core_over-clause-able g c = able_over c.in-Ok-open.queue c.in-Ok-core_over.core (g.D.Spool.seen c.open.new.spool) c.in-Ok-core_over.ensures.queue c.in-Ok-open.ensures.agrees c.in-Ok-core_over.ensures.manned

pub returns-in-Ok-core_over-clause-readings : goal.returns-in-Ok-core_over-clause-readings
returns-in-Ok-core_over-clause-readings g c = few_read (plan_of c.args.task.now) (g.C.Clock.seen c.args.clock.now) (g.C.Clock.seen c.core_over.new.clock) c.core_over.ensures.read

pub returns-in-Ok-core_over-clause-sparing : goal.returns-in-Ok-core_over-clause-sparing
returns-in-Ok-core_over-clause-sparing g c =
    let opens = c.in-Ok-open.ensures in
    sparing_of (site_of c.args.config.now no_maps (plan_of c.args.task.now)) (g.D.Spool.seen c.args.spool.now) (g.D.Spool.seen c.open.new.spool) c.in-Ok.dirs (queue_seen c.in-Ok-open.queue) opens.store.0 c.in-Ok.ensures.is c.opening_settles.ensures.strange opens.stands opens.tidied opens.read opens.agrees

-- there is no memory for it
pub returns-clause-taken : goal.returns-clause-taken
returns-clause-taken g c = taken_of (site_of c.args.config.now no_maps (plan_of c.args.task.now)) (g.D.Spool.seen c.args.spool.now) (g.D.Spool.seen c.open.new.spool) c.in-Ok.dirs c.in-Ok.ensures.is c.in-Ok-open.ensures.stands c.in-Ok-open.ensures.tidied

pub returns-clause-serves : goal.returns-clause-serves
returns-clause-serves g c = λ maps grounds files faults floor hands.
    unserved (site_of c.args.config.now maps (plan_of c.args.task.now)) (g.D.Spool.seen c.args.spool.now) (g.D.Spool.seen c.open.new.spool) floor (g.C.Clock.seen c.args.clock.now) (g.C.Clock.seen c.core_over.new.clock) hands c.core_over.ensures.read
    (taken_of (site_of c.args.config.now maps (plan_of c.args.task.now)) (g.D.Spool.seen c.args.spool.now) (g.D.Spool.seen c.open.new.spool) c.in-Ok.dirs c.in-Ok.ensures.is c.in-Ok-open.ensures.stands c.in-Ok-open.ensures.tidied) c.in-Ok-open.ensures.later

pub returns-clause-readings : goal.returns-clause-readings
returns-clause-readings g c = few_read (plan_of c.args.task.now) (g.C.Clock.seen c.args.clock.now) (g.C.Clock.seen c.core_over.new.clock) c.core_over.ensures.read
