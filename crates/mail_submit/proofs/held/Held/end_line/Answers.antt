use Rattle.std.proofs.Common.{sym, ◌∙◌}
use Rattle.std.proofs.lemmas.Result.{on_ok_weaker}
use Rattle.mail_submit.proofs.BehindLemmas.{behind_itself}
use Rattle.mail_submit.proofs.ReadLemmas.{dot_ends, line_ends}
use Rattle.mail_submit.proofs.held.Held.end_line.Goals as goal

pub returns-then-is_dot_line-clause-ok : goal.returns-then-is_dot_line-clause-ok
returns-then-is_dot_line-clause-ok c = dot_ends c.args.self.now (sym c.is_dot_line.ensures ∙ c.if-is_dot_line.true)

pub returns-then-is_dot_line-clause-behind : goal.returns-then-is_dot_line-clause-behind
returns-then-is_dot_line-clause-behind c = behind_itself c.args.self.now _

pub returns-clause-ok : goal.returns-clause-ok
returns-clause-ok c = on_ok_weaker c.close.result (λ is. line_ends c.args.self.now c.close.new.self (sym c.is_dot_line.ensures ∙ c.if-is_dot_line.false) is) c.close.ensures.ok
