use Rattle.std.proofs.Common.{◌++◌, ◌∙◌, List, ℕ, ap}
use Rattle.sendmail_run.specs.Printing.{basis}
use Rattle.sendmail_run.proofs.EndedLemmas.{line_step, quit_step, tail_step, shorter}
use Rattle.sendmail_run.proofs.address_test.answer_lines.Goals as goal

pub loop-parts-preserved : goal.loop-parts-preserved
loop-parts-preserved c = λ start taken text s.
    let so = c.loop-parts.invariant start taken text s in
    line_step (basis start c.args.maps.now) c.loop-parts.config c.answer.new.config c.args.bytes.now taken text so.0 c.loop-parts.rest.now c.in-Some.parts.0.now c.in-Some.parts.1.now c.loop-parts.text c.extend.new.self c.in-Lines.said c.in_ok-reply.reply
    c.loop-parts.partial c.take.new.self c.clear.new.self so.1 so.2 c.in-Some.ensures.0 c.in-Some.ensures.1 (λ r k. c.in_ok-take.ensures.ok r k) (λ r k. c.in_ok-reply.ensures r k) c.in-Lines.is
    (c.in_ok-extend.ensures.ok ∙ ap (λ (q : List ℕ). c.loop-parts.text ++ q) c.bytes.ensures) c.clear.ensures

pub loop-parts-smaller : goal.loop-parts-smaller
loop-parts-smaller c = shorter c.loop-parts.rest.now c.in-Some.parts.0.now c.in-Some.parts.1.now c.in-Some.ensures.1

pub returns-in-Quit : goal.returns-in-Quit
returns-in-Quit c = λ start taken text s.
    let so = c.loop-parts.invariant start taken text s in
    quit_step (basis start c.args.maps.now) c.loop-parts.config c.answer.new.config c.args.bytes.now taken text so.0 c.loop-parts.rest.now c.in-Some.parts.0.now c.in-Some.parts.1.now c.loop-parts.text c.in_ok-reply.reply c.loop-parts.partial c.take.new.self
    so.1 so.2 c.in-Some.ensures.0 c.in-Some.ensures.1 (λ r k. c.in_ok-take.ensures.ok r k) (λ r k. c.in_ok-reply.ensures r k) c.in-Quit.is

pub returns : goal.returns
returns c = λ start taken text s.
    let so = c.loop-parts.invariant start taken text s in
    tail_step (basis start c.args.maps.now) c.loop-parts.config c.args.bytes.now taken text so.0 c.loop-parts.rest.now c.loop-parts.text c.loop-parts.partial _ so.1 so.2 c.in_default.ensures (λ r k. c.in_ok-take-2.ensures.ok r k)
