use Rattle.mail_core.proofs.CoreLemmas.{closed_at, closed_none}
use Rattle.mail_core.proofs.serving.Core.close.Goals as goal

pub returns-in-Some-clause-closes : goal.returns-in-Some-clause-closes
returns-in-Some-clause-closes c = λ site m st.
    closed_at site m c.args.session c.in-Some.place c.args.self.now c.leave.new.self st c.in-Some.ensures c.leave.ensures.same c.leave.ensures.callers

pub returns-in_default-clause-closes : goal.returns-in_default-clause-closes
returns-in_default-clause-closes c = λ site m st. closed_none site m c.args.session c.args.self.now st c.in_default.ensures
