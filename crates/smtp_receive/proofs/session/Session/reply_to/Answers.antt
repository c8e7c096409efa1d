use Rattle.std.proofs.Common.{◌∙◌, ◌≡◌, ap, sym}
use Rattle.smtp_lines.specs.declared.line.Line.TheVariants.{Command}
use Rattle.smtp_receive.specs.Sessions.{cleared}
use Rattle.smtp_receive.specs.inner.Steps.{Ends}
use Rattle.smtp_receive.proofs.EndLemmas.{end_goes}
use Rattle.smtp_receive.proofs.KeepLemmas.{command_goes}
use Rattle.smtp_receive.proofs.StepLemmas.{ok_of}
use Rattle.smtp_receive.proofs.session.Session.reply_to.Goals as goal

pub returns-in-Command-clause-goes : goal.returns-in-Command-clause-goes
returns-in-Command-clause-goes g c =
    λ host peer before k.
    command_goes c.command.result _ _ c.args.self.now c.command.new.self c.args.config.now host peer before c.args.line.now c.bytes.result.now (c.in-Command.is ∙ ap Command (sym c.bytes.ensures)) k
    c.command.ensures.does

pub returns-in-DataEnd-clause-goes : goal.returns-in-DataEnd-clause-goes
returns-in-DataEnd-clause-goes g c =
    λ host peer before k.
    end_goes c.judged-in-DataEnd.result _ _ c.args.self.now c.data_end.new.self c.args.config.now host peer before c.args.line.now c.in-DataEnd.is k
    (λ small. ok_of (Ends c.args.config.now c.args.self.now) c.judged-in-DataEnd.result c.data_end.result c.judged-in-DataEnd.ensures.is (c.data_end.ensures.did small))
    (ok_of (λ _. c.data_end.new.self ≡ cleared c.args.self.now) c.judged-in-DataEnd.result c.data_end.result c.judged-in-DataEnd.ensures.is c.data_end.ensures.ok)
