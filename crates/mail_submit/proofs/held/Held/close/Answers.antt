use Rattle.mail_submit.proofs.BehindLemmas.{behind_end}
use Rattle.mail_submit.proofs.ReadLemmas.{closes}
use Rattle.mail_submit.proofs.held.Held.close.Goals as goal

pub returns-clause-ok : goal.returns-clause-ok
returns-clause-ok c =
    closes c.close.result c.args.self.now c.close.new.self c.line.result.now c.line_end-end.result.now c.line.ensures c.line_end-end.ensures c.close.ensures.ok

pub returns-clause-behind : goal.returns-clause-behind
returns-clause-behind c = behind_end c.close.result c.args.self.now c.close.new.self c.line_end-end.result.now c.close.ensures.ok c.close.ensures.err
