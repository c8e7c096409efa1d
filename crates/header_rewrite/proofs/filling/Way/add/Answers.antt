use Rattle.header_rewrite.proofs.FillLemmas.{adds_it}
use Rattle.header_rewrite.proofs.filling.Way.add.Goals as goal

pub returns : goal.returns
returns c =
    adds_it c.args.self.now _ _ _ c.args.front.now c.args.address.now c.in_ok-address.address c.args.text.now c.extend.new.self c.extend-2.new.self c.put.result.now c.in_ok-answer.answer
    c.self.view_is c.in_ok-address.ensures c.put.ensures c.in_ok-answer.ensures.rewrite c.in_ok-extend.ensures.ok c.in_ok-extend-2.ensures.ok
