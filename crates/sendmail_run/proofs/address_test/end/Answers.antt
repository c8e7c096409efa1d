use Rattle.std.proofs.Common.{refl, inl, inr}
use Rattle.sendmail_run.specs.Printing.{basis}
use Rattle.sendmail_run.proofs.TestLemmas.{at_broken_last, at_end, at_end_fault, at_end_quit}
use Rattle.sendmail_run.proofs.address_test.end.Goals as goal

pub returns-in_default-clause-tests : goal.returns-in_default-clause-tests
returns-in_default-clause-tests g c = λ start before input taken over few at. at_broken_last (basis start c.args.maps.now) c.args.config.now before input (g.O.Sink.seen c.args.output.now) taken c.args.partial.now at

pub returns-in-Quit-clause-tests : goal.returns-in-Quit-clause-tests
returns-in-Quit-clause-tests g c = λ start before input taken over few at.
    at_end_quit (basis start c.args.maps.now) c.args.config.now c.answer_last.new.config before input (g.O.Sink.seen c.args.output.now) taken c.args.partial.now c.in-Ok.reply over few at (λ rest k. c.in-Ok.ensures rest k) c.in-Quit.is

pub returns-in-Ok-give-clause-tests : goal.returns-in-Ok-give-clause-tests
returns-in-Ok-give-clause-tests g c = λ start before input taken over few at.
    at_end (basis start c.args.maps.now) c.args.config.now c.answer_last.new.config before input (g.O.Sink.seen c.args.output.now) (g.O.Sink.seen c.give.new.output) taken c.args.partial.now c.in-Ok.reply c.in-Lines.text over few at
    (λ rest k. c.in-Ok.ensures rest k) c.in-Lines.is c.in-Ok-give.ensures.written

pub returns-clause-tests : goal.returns-clause-tests
returns-clause-tests g c = λ start before input taken over few at.
    at_end_fault (basis start c.args.maps.now) c.args.config.now c.answer_last.new.config before input (g.O.Sink.seen c.args.output.now) (g.O.Sink.seen c.give.new.output) taken c.args.partial.now c.in-Ok.reply c.in-Lines.text over at
    (λ rest k. c.in-Ok.ensures rest k) c.in-Lines.is c.in-Err.ensures.part c.in-Err.ensures.cause.failed

pub returns-in_default-clause-rises : goal.returns-in_default-clause-rises
returns-in_default-clause-rises g c = inr refl

pub returns-in-Quit-clause-rises : goal.returns-in-Quit-clause-rises
returns-in-Quit-clause-rises g c = inr refl

pub returns-in-Ok-give-clause-rises : goal.returns-in-Ok-give-clause-rises
returns-in-Ok-give-clause-rises g c = inr c.in-Ok-give.ensures.calm

pub returns-clause-rises : goal.returns-clause-rises
returns-clause-rises g c = inl refl
