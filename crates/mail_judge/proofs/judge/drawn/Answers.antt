use Rattle.mail_judge.proofs.JudgeLemmas.{address_form, by_refusal, by_rows, refused_asks, refused_form}
use Rattle.mail_judge.proofs.judge.drawn.Goals as goal

pub returns-in-Ok-clause-judged : goal.returns-in-Ok-clause-judged
returns-in-Ok-clause-judged g c = λ accepts.
    let a = c.args in
    by_rows a.grounds.now (g.F.Files.seen a.files.now).map a.macros.now a.path.now a.sender.now c.in-Ok.rows c.in-Ok.ensures.rows accepts

pub returns-in-Ok-clause-form : goal.returns-in-Ok-clause-form
returns-in-Ok-clause-form g c = c.in-Ok.ensures.forms (address_form c.args.path.now c.requires.path) c.requires.sender

pub returns-in-Err-clause-judged : goal.returns-in-Err-clause-judged
returns-in-Err-clause-judged g c = λ accepts.
    let a = c.args in
    by_refusal a.grounds.now (g.F.Files.seen a.files.now).map a.macros.now a.path.now a.sender.now c.in-Err.refusal c.refused.result c.in-Err.ensures.rows c.refused.ensures.says accepts

pub returns-in-Err-clause-form : goal.returns-in-Err-clause-form
returns-in-Err-clause-form g c = refused_form c.in-Err.refusal c.refused.result c.in-Err.ensures.refusal c.refused.ensures.says

pub returns-in-Err-clause-asks : goal.returns-in-Err-clause-asks
returns-in-Err-clause-asks g c = refused_asks (g.F.Files.seen c.args.files.now) (g.F.Files.seen c.expand.new.files) c.in-Err.refusal c.refused.result c.refused.ensures.fault c.in-Err.ensures.asks
