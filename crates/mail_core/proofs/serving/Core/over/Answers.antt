-- A core in which nobody holds an entry stands for the beginning of a run.
use Rattle.std.proofs.Common.{refl, sym}
use Rattle.mail_core.specs.Beginning.{beginning}
use Rattle.mail_core.proofs.CoreLemmas.{begun_stands}
use Rattle.mail_core.proofs.serving.Core.over.Goals as goal

pub returns-clause-stands : goal.returns-clause-stands
returns-clause-stands c = λ site start host serves waiting list latest.
    begun_stands site start _ serves (sym host) c.in_ok-too_many_sessions.ensures latest c.new.ensures.items (c.new-2.ensures.crew site (beginning start) waiting refl list) refl

pub returns-clause-manned : goal.returns-clause-manned
returns-clause-manned c = λ site spawner waiting. c.new-2.ensures.manned site c.args.intake.table spawner waiting
