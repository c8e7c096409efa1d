use Rattle.std.proofs.Common.{sym, ◌∙◌}
use Rattle.std.proofs.lemmas.List.{take_rest}
use Rattle.addr_tokens.proofs.TakeLemmas.{white_taken, operator_taken, word_taken}
use Rattle.addr_tokens.proofs.piece.first_front.Goals as goal

pub returns-then-is_lone-clause-read : goal.returns-then-is_lone-clause-read
returns-then-is_lone-clause-read c = λ alphabet table.
    word_taken alphabet c.args.place c.args.text.now c.requires.some c.word_length-size.result _ (take_rest c.args.text.now 1) c.word_length-size.ensures.within (c.word_length-size.ensures.rest alphabet table) (c.is_lone.ensures.lone alphabet table c.if-is_lone.true)

pub returns-then-is_white-clause-read : goal.returns-then-is_white-clause-read
returns-then-is_white-clause-read c = λ alphabet table. white_taken alphabet c.args.place c.args.text.now c.requires.some (sym c.is_white.ensures ∙ c.if-is_white.true)

pub returns-then-not-is_marked-clause-read : goal.returns-then-not-is_marked-clause-read
returns-then-not-is_marked-clause-read c = λ alphabet table.
    operator_taken alphabet c.args.place c.args.text.now c.requires.some (c.is_lone.ensures.asked alphabet table c.if-is_lone.false) (sym c.is_white.ensures ∙ c.if-is_white.false) (sym c.is_marked.ensures ∙ c.if-not-is_marked.true)
