use Rattle.std.proofs.Common.{sym, ◌∙◌}
use Rattle.std.proofs.lemmas.List.{take_rest}
use Rattle.addr_tokens.proofs.TakeLemmas.{white_taken, operator_taken, word_taken}
use Rattle.addr_tokens.proofs.taking.take_first.Goals as goal

pub returns-then-is_lone-clause-goes : goal.returns-then-is_lone-clause-goes
returns-then-is_lone-clause-goes g c = λ alphabet angles text table serves is more so.
    c.take.ensures.goes alphabet angles text serves is more
    (word_taken alphabet c.args.place c.args.rest.now c.requires.some c.word_length-size.result _ (take_rest c.args.rest.now 1) c.word_length-size.ensures.within (c.word_length-size.ensures.rest alphabet table) (c.is_lone.ensures.lone alphabet table c.if-is_lone.true)) so

pub returns-then-is_white-clause-goes : goal.returns-then-is_white-clause-goes
returns-then-is_white-clause-goes g c = λ alphabet angles text table serves is more so.
    c.take-then-is_white.ensures.goes alphabet angles text serves is more (white_taken alphabet c.args.place c.args.rest.now c.requires.some (sym c.is_white.ensures ∙ c.if-is_white.true)) so

pub returns-then-not-is_marked-clause-goes : goal.returns-then-not-is_marked-clause-goes
returns-then-not-is_marked-clause-goes g c = λ alphabet angles text table serves is more so.
    c.take-then-not-is_marked.ensures.goes alphabet angles text serves is more
    (operator_taken alphabet c.args.place c.args.rest.now c.requires.some (c.is_lone.ensures.asked alphabet table c.if-is_lone.false) (sym c.is_white.ensures ∙ c.if-is_white.false) (sym c.is_marked.ensures ∙ c.if-not-is_marked.true)) so
