use Rattle.std.proofs.Common.{sym, ◌∙◌}
use Rattle.std.proofs.lemmas.Result.{on_ok_weaker}
use Rattle.mail_submit.proofs.BehindLemmas.{behind_itself}
use Rattle.mail_submit.proofs.ReadLemmas.{last_ends, none_last}
use Rattle.mail_submit.proofs.held.Held.close_last.Goals as goal

pub returns-then-is_last_line-clause-text : goal.returns-then-is_last_line-clause-text
returns-then-is_last_line-clause-text c = λ dot r s.
    on_ok_weaker c.close.result (λ is. last_ends c.args.self.now c.close.new.self (sym c.is_last_line.ensures ∙ c.if-is_last_line.true) is dot r s) c.close.ensures.ok

pub returns-clause-text : goal.returns-clause-text
returns-clause-text c = none_last c.args.self.now (sym c.is_last_line.ensures ∙ c.if-is_last_line.false)

pub returns-clause-behind : goal.returns-clause-behind
returns-clause-behind c = behind_itself c.args.self.now _
