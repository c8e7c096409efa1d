use Rattle.smtp_receive.specs.Judging.{AsksRecipient}
use Rattle.mail_judge.proofs.JudgeLemmas.{answered, calmed, caused, tells_one}
use Rattle.mail_judge.proofs.judge.RulesJudge.recipient.Goals as goal

pub returns-clause-told : goal.returns-clause-told
returns-clause-told g c =
    let a = c.args in
    answered (g.F.Files.seen a.self.now.files.now) (g.F.Files.seen c.verdict_of.new.files) c.verdict_of.result c.verdict_of.ensures.asks a.self.now.grounds.now (AsksRecipient a.path.now a.sender.now a.kept.now) c.verdict_of.ensures.judged

pub returns-clause-one : goal.returns-clause-one
returns-clause-one g c =
    let a = c.args in
    tells_one c.one_judgement.ensures a.self.now.grounds.now (g.F.Files.seen a.self.now.files.now) (AsksRecipient a.path.now a.sender.now a.kept.now)

pub returns-clause-cause : goal.returns-clause-cause
returns-clause-cause g c = caused (g.F.Files.seen c.args.self.now.files.now) (g.F.Files.seen c.verdict_of.new.files) c.verdict_of.result c.verdict_of.ensures.asks

pub returns-clause-calm : goal.returns-clause-calm
returns-clause-calm g c = calmed (g.F.Files.seen c.args.self.now.files.now) (g.F.Files.seen c.verdict_of.new.files) c.verdict_of.result c.verdict_of.ensures.asks
