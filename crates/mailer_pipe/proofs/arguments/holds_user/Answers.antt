use Rattle.std.proofs.Common.{drop, sym, ◌∙◌, arith}
use Rattle.std.proofs.lemmas.List.{length-drop}
use Rattle.mailer_pipe.proofs.HoldLemmas.{holds_none}
use Rattle.mailer_pipe.proofs.arguments.holds_user.Goals as goal

pub returns : goal.returns
returns c =
    let word = c.args.word.now in
    let place = c.bytes.place in
    sym (holds_none (drop place word) (omega (arith, length-drop place word, c.bytes-test.false, c.bytes.invariant.0))) ∙ c.bytes.invariant.1
