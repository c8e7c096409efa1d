use Rattle.smtp_receive.specs.Judging.{AsksSender}
use Rattle.mail_judge.proofs.JudgeLemmas.{tells_one}
use Rattle.mail_judge.proofs.judge.RulesJudge.sender.Goals as goal

pub returns-in_err-refusal_of-clause-one : goal.returns-in_err-refusal_of-clause-one
returns-in_err-refusal_of-clause-one g c =
    let a = c.args in
    tells_one c.one_judgement.ensures a.self.now.grounds.now (g.F.Files.seen a.self.now.files.now) (AsksSender a.path.now a.kept.now)

pub returns-clause-one : goal.returns-clause-one
returns-clause-one g c =
    let a = c.args in
    tells_one c.one_judgement.ensures a.self.now.grounds.now (g.F.Files.seen a.self.now.files.now) (AsksSender a.path.now a.kept.now)
