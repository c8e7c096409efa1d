-- A control file is read, another file isn't.
use Rattle.spool_store.proofs.Finding.{on_ok}
use Rattle.spool_store.proofs.Readings.{read_one_more, read_skip, among_more, among_skip, spot_there}
use Rattle.spool_store.proofs.looking.read_named.Goals as goal

pub returns-then-is_control-clause-found : goal.returns-then-is_control-clause-found
returns-then-is_control-clause-found g c = λ f names e there h. on_ok c.read_one.result (λ adds. read_one_more c.args.dirs.now f names c.args.named.now c.args.found.now c.read_one.new.found there adds h) (c.read_one.ensures.found f e (spot_there c.args.dirs.now f c.args.named.now there (c.is_control.ensures.yes c.if-is_control.true)))

pub returns-then-is_control-clause-among : goal.returns-then-is_control-clause-among
returns-then-is_control-clause-among g c = λ names h. on_ok c.read_one.result (λ adds. among_more names c.args.named.now c.args.found.now c.read_one.new.found adds h) c.read_one.ensures.among

pub returns-clause-found : goal.returns-clause-found
returns-clause-found g c = λ f names e there h. read_skip c.args.dirs.now f names c.args.named.now c.args.found.now (c.is_control.ensures.no c.if-is_control.false) h

pub returns-clause-among : goal.returns-clause-among
returns-clause-among g c = λ names h. among_skip names c.args.named.now c.args.found.now h
