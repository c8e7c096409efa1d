use Rattle.std.proofs.Common.{◌++◌, refl, inl, inr}
use Rattle.sendmail_run.specs.Printing.{basis}
use Rattle.sendmail_run.proofs.TestLemmas.{at_broken, at_write_fault, at_quit, at_on}
use Rattle.sendmail_run.proofs.address_test.answer_piece.Goals as goal

pub returns-in_default-clause-went : goal.returns-in_default-clause-went
returns-in_default-clause-went g c = λ start before input taken at. at_broken (basis start c.args.maps.now) c.args.config.now before input (g.O.Sink.seen c.args.output.now) taken c.args.bytes.now c.args.partial.now at

pub returns-then-answers-clause-went : goal.returns-then-answers-clause-went
returns-then-answers-clause-went g c = λ start before input taken at.
    at_quit (basis start c.args.maps.now) c.args.config.now c.answer_lines.new.config before input (g.O.Sink.seen c.args.output.now) (g.O.Sink.seen c.give.new.output) (taken ++ c.args.bytes.now) taken c.args.partial.now c.answer_lines.new.partial c.in-Ok.answers.text c.in-Ok.answers.is_quit at
    (λ text s. c.in-Ok.ensures start taken text s) c.if-answers.true c.in-Ok-give.ensures.written

pub returns-in-Ok-give-clause-went : goal.returns-in-Ok-give-clause-went
returns-in-Ok-give-clause-went g c = λ start before input taken at.
    at_on (basis start c.args.maps.now) c.args.config.now c.answer_lines.new.config before input (g.O.Sink.seen c.args.output.now) (g.O.Sink.seen c.give.new.output) (taken ++ c.args.bytes.now) taken c.args.partial.now c.answer_lines.new.partial c.in-Ok.answers.text c.in-Ok.answers.is_quit at
    (λ text s. c.in-Ok.ensures start taken text s) c.if-answers.false c.in-Ok-give.ensures.written c.in-Ok-give.ensures.cause.later

pub returns-clause-went : goal.returns-clause-went
returns-clause-went g c = λ start before input taken at.
    at_write_fault (basis start c.args.maps.now) c.args.config.now c.answer_lines.new.config before input (g.O.Sink.seen c.args.output.now) (g.O.Sink.seen c.give.new.output) (taken ++ c.args.bytes.now) taken c.args.partial.now c.answer_lines.new.partial c.in-Ok.answers.text c.in-Ok.answers.is_quit at
    (λ text s. c.in-Ok.ensures start taken text s) c.in-Err.ensures.part c.in-Err.ensures.cause.failed

pub returns-in_default-clause-rises : goal.returns-in_default-clause-rises
returns-in_default-clause-rises g c = inr refl

pub returns-then-answers-clause-rises : goal.returns-then-answers-clause-rises
returns-then-answers-clause-rises g c = inr c.in-Ok-give.ensures.calm

pub returns-in-Ok-give-clause-rises : goal.returns-in-Ok-give-clause-rises
returns-in-Ok-give-clause-rises g c = c.in-Ok-give.ensures.calm

pub returns-clause-rises : goal.returns-clause-rises
returns-clause-rises g c = inl refl
