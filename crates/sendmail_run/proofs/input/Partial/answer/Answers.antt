use Rattle.sendmail_run.proofs.KeepLemmas.{answer_of_cut, answer_of_whole}
use Rattle.sendmail_run.proofs.input.Partial.answer.Goals as goal

pub returns-in-Some : goal.returns-in-Some
returns-in-Some c =
    answer_of_whole c.args.maps.now c.args.config.now c.answer.new.config c.args.self.now c.in-Some.line.now c.without_return.result.now c.answer.result c.answer.ensures.ok c.without_return.ensures (λ rest k. c.in-Some.ensures rest k)

pub returns-in-None : goal.returns-in-None
returns-in-None c = answer_of_cut c.args.maps.now c.args.config.now c.args.self.now c.bytes.result.now c.answer_cut.result c.answer_cut.ensures c.bytes.ensures (λ rest k. c.in-None.ensures rest k)
