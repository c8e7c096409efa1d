-- Nobody holds an entry.
use Rattle.mail_core.proofs.OutLemmas.{crew_new, manned_new}
use Rattle.mail_core.proofs.crew.Crew.new.Goals as goal

pub returns-clause-crew : goal.returns-clause-crew
returns-clause-crew c = λ site m waiting seats list. crew_new site (record { runners = c.new.result; waiting = c.args.waiting; list = c.args.list }) m c.new.ensures.items waiting seats list

pub returns-clause-manned : goal.returns-clause-manned
returns-clause-manned c = λ site kept spawner waiting. manned_new site kept spawner (record { runners = c.new.result; waiting = c.args.waiting; list = c.args.list }) c.new.ensures.items waiting
