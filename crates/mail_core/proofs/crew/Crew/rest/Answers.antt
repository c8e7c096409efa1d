-- Whether an entry is claimed, or the first one goes on.
use Rattle.std.proofs.Common.{None, Some}
use Rattle.queue_table.specs.Calls.{store}
use Rattle.mail_core.proofs.OutLemmas.{manned_alike, next_alike}
use Rattle.mail_core.proofs.RestLemmas.{crew_alike}
use Rattle.mail_core.proofs.crew.Crew.rest.Goals as goal

pub begin-requires-clause-manned : goal.begin-requires-clause-manned
begin-requires-clause-manned g c = manned_alike c.args.table.now (g.S.Spawner.seen c.args.spawner.now) c.args.self.now c.next.new.self c.next.ensures.same c.next.ensures.quiet c.requires.manned

pub begin-requires-clause-next : goal.begin-requires-clause-next
begin-requires-clause-next g c = next_alike c.args.self.now c.next.new.self c.args.moment (store c.args.table.now).entries (Some c.in-Some.id) c.next.ensures.same c.in-Some.ensures.next

pub begin-requires-clause-ascending : goal.begin-requires-clause-ascending
begin-requires-clause-ascending g c = c.next.ensures.ascending

pub go_on-requires-clause-manned : goal.go_on-requires-clause-manned
go_on-requires-clause-manned g c = manned_alike c.args.table.now (g.S.Spawner.seen c.args.spawner.now) c.args.self.now c.next.new.self c.next.ensures.same c.next.ensures.quiet c.requires.manned

pub go_on-requires-clause-next : goal.go_on-requires-clause-next
go_on-requires-clause-next g c = next_alike c.args.self.now c.next.new.self c.args.moment (store c.args.table.now).entries None c.next.ensures.same c.in-None.ensures.next

pub returns-in-Some-clause-rests : goal.returns-in-Some-clause-rests
returns-in-Some-clause-rests g c = λ site m under is holds latest on. c.begin.ensures.rests site m under (crew_alike site c.args.self.now c.next.new.self m c.next.ensures.same is) holds latest on

pub returns-in-None-clause-rests : goal.returns-in-None-clause-rests
returns-in-None-clause-rests g c = λ site m under is holds latest on. c.go_on.ensures.rests site m under (crew_alike site c.args.self.now c.next.new.self m c.next.ensures.same is) holds latest on
