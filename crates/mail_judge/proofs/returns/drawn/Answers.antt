use Rattle.mail_judge.specs.Judged.{site_in}
use Rattle.mail_judge.proofs.ReturnLemmas.{by_refusal, by_rows, refusal_form}
use Rattle.mail_judge.proofs.returns.drawn.Goals as goal

pub returns-in-Ok-clause-returns : goal.returns-in-Ok-clause-returns
returns-in-Ok-clause-returns g c =
    let a = c.args in
    by_rows a.grounds.now (g.F.Files.seen a.files.now).map a.macros.now a.address.now a.sender.now c.requires.macros c.requires.sender c.in-Ok.rows c.in-Ok.ensures.rows

pub returns-in-Err-clause-returns : goal.returns-in-Err-clause-returns
returns-in-Err-clause-returns g c =
    let a = c.args in
    by_refusal a.grounds.now (g.F.Files.seen a.files.now).map a.macros.now a.address.now a.sender.now c.requires.macros c.requires.sender c.in-Err.refusal c.instead.result c.in-Err.ensures.rows c.instead.ensures.meant c.instead.ensures.itself

pub returns-in-Err-clause-form : goal.returns-in-Err-clause-form
returns-in-Err-clause-form g c = refusal_form (site_in c.args.grounds.now c.args.macros.now) c.args.address.now c.instead.result c.requires.address c.instead.ensures.itself
