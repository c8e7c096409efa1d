use Rattle.std.proofs.Common.{refl}
use Rattle.mail_submit.proofs.BehindLemmas.{behind_join, behind_line, behind_same}
use Rattle.mail_submit.proofs.ReadLemmas.{takes_all, takes_front}
use Rattle.mail_submit.proofs.held.Held.take_line.Goals as goal

pub returns-in_err-extend-in-Some-clause-behind : goal.returns-in_err-extend-in-Some-clause-behind
returns-in_err-extend-in-Some-clause-behind c = behind_same c.args.self.now c.extend.new.self c.in_err-extend-in-Some.ensures.err

pub returns-in_err-end_line-in-Some-clause-behind : goal.returns-in_err-end_line-in-Some-clause-behind
returns-in_err-end_line-in-Some-clause-behind c =
    behind_join c.args.self.now _ c.end_line.new.self (behind_line c.args.self.now c.extend.new.self _ c.in_ok-extend-in-Some.ensures.ok) c.end_line.ensures.behind

pub returns-in_err-extend-in-None-clause-behind : goal.returns-in_err-extend-in-None-clause-behind
returns-in_err-extend-in-None-clause-behind c = behind_same c.args.self.now c.extend-in-None.new.self c.in_err-extend-in-None.ensures.err

pub returns-in_ok-end_line-in-Some-clause-ok : goal.returns-in_ok-end_line-in-Some-clause-ok
returns-in_ok-end_line-in-Some-clause-ok c =
    takes_front c.args.self.now c.end_line.new.self c.extend.new.self c.args.bytes.now _ c.in-Some.end c.requires.goes_on refl c.in_ok-extend-in-Some.ensures.ok c.in-Some.ensures c.in_ok-end_line-in-Some.ensures.ok

pub returns-in_ok-end_line-in-Some-clause-behind : goal.returns-in_ok-end_line-in-Some-clause-behind
returns-in_ok-end_line-in-Some-clause-behind c =
    behind_join c.args.self.now _ c.end_line.new.self (behind_line c.args.self.now c.extend.new.self _ c.in_ok-extend-in-Some.ensures.ok) c.end_line.ensures.behind

pub returns-in_ok-extend-in-None-clause-ok : goal.returns-in_ok-extend-in-None-clause-ok
returns-in_ok-extend-in-None-clause-ok c =
    takes_all c.args.self.now c.extend-in-None.new.self c.args.bytes.now _ c.requires.goes_on c.in_ok-extend-in-None.ensures.ok c.in-None.ensures refl

pub returns-in_ok-extend-in-None-clause-behind : goal.returns-in_ok-extend-in-None-clause-behind
returns-in_ok-extend-in-None-clause-behind c = behind_line c.args.self.now c.extend-in-None.new.self c.args.bytes.now c.in_ok-extend-in-None.ensures.ok
