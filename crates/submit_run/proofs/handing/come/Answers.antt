-- A submission is refused as a whole.
use Rattle.std.proofs.Common.{◌∙◌, ap}
use Rattle.mail_base.specs.declared.config.Config.{Config}
use Rattle.submit_run.specs.Messages.{code_of}
use Rattle.submit_run.proofs.HandingLemmas.{refused_whole}
use Rattle.submit_run.proofs.handing.come.Goals as goal

pub returns-in-Some-clause-comes : goal.returns-in-Some-clause-comes
returns-in-Some-clause-comes g c =
    let a = c.args in
    refused_whole a.grounds.now (g.F.Files.seen a.files.now).map a.words.now a.submission c.in-Some.code (c.in-Some.ensures ∙ ap (λ (q : Config). code_of q a.submission) c.config.ensures)
