-- New entries change no runner.
use Rattle.std.proofs.Common.{refl}
use Rattle.mail_core.proofs.OutLemmas.{crew_woken, manned_woken}
use Rattle.mail_core.proofs.crew.Crew.wake.Goals as goal

pub returns-clause-crew : goal.returns-clause-crew
returns-clause-crew c = λ site m now seats list is. crew_woken site c.args.self.now (record c.args.self.now { waiting = c.wake.new.self }) m now refl refl c.wake.ensures.is seats list is

pub returns-clause-manned : goal.returns-clause-manned
returns-clause-manned c = λ old new spawner keeps manned. manned_woken old new spawner c.args.self.now (record c.args.self.now { waiting = c.wake.new.self }) refl c.wake.ensures.is keeps manned
