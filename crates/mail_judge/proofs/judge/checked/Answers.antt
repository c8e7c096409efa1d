use Rattle.mail_judge.proofs.JudgeLemmas.{by_check}
use Rattle.mail_judge.proofs.judge.checked.Goals as goal

pub returns-in-Some-clause-judged : goal.returns-in-Some-clause-judged
returns-in-Some-clause-judged g c =
    let a = c.args in
    by_check a.grounds.now (g.F.Files.seen a.files.now).map a.macros.now a.path.now a.sender.now _ c.grounds.view_is c.in_ok-set.set c.in_ok-error.field-0 c.in-Some.error c.in_ok-set.ensures c.in-Some.is c.in_ok-error.ensures.check
