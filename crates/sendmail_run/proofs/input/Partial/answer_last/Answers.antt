use Rattle.sendmail_run.proofs.KeepLemmas.{last_of_cut, last_of_whole}
use Rattle.sendmail_run.proofs.input.Partial.answer_last.Goals as goal

pub returns-in-Some : goal.returns-in-Some
returns-in-Some c = last_of_whole c.args.maps.now c.args.config.now c.answer.new.config c.args.self.now c.in-Some.line.now c.answer.result c.answer.ensures.ok (λ rest k. c.in-Some.ensures rest k)

pub returns-in-None : goal.returns-in-None
returns-in-None c = last_of_cut c.args.maps.now c.args.config.now c.args.self.now c.bytes.result.now c.answer_cut.result c.answer_cut.ensures c.bytes.ensures (λ rest k. c.in-None.ensures rest k)
