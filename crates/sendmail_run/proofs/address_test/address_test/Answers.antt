use Rattle.sendmail_run.specs.Printing.{basis}
use Rattle.sendmail_run.proofs.TestLemmas.{none_taken}
use Rattle.sendmail_run.proofs.address_test.address_test.Goals as goal

pub returns-in_default-clause-tests : goal.returns-in_default-clause-tests
returns-in_default-clause-tests g c = none_taken (basis c.args.config.now c.args.maps.now) (g.I.Source.seen c.args.input.now) (g.O.Sink.seen c.args.output.now)
