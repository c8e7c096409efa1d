use Rattle.std.proofs.Common.{◌<◌, refl, sym, subst, arith}
use Rattle.mail_submit.specs.Inputs.{Reading, read, size_of}
use Rattle.mail_submit.proofs.BehindLemmas.{taken_back}
use Rattle.mail_submit.proofs.ReadLemmas.{counted_short, ended_more, holds_more, read_more, within_more}
use Rattle.mail_submit.proofs.input.Input.feed.Goals as goal

pub returns-in-Ok-clause-ok : goal.returns-in-Ok-clause-ok
returns-in-Ok-clause-ok c = rw (sym c.self.view_is) (λ dot bytes holds. holds_more c.self.inside.held c.take_within.new.self c.args.piece.now c.in-Ok.ensures.ok dot bytes holds)

pub returns-in-Ok-clause-ended : goal.returns-in-Ok-clause-ended
returns-in-Ok-clause-ended c = rw (sym c.self.view_is) (λ dot bytes holds. ended_more c.self.inside.held c.take_within.new.self c.args.piece.now c.in-Ok.ensures.ok dot bytes holds)

pub returns-in-Ok-clause-within : goal.returns-in-Ok-clause-within
returns-in-Ok-clause-within c = rw (sym c.self.view_is) (λ dot bytes holds.
    within_more c.self.inside.held c.take_within.new.self c.args.piece.now c.args.most c.in-Ok.ensures.ok c.in-Ok.ensures.within dot bytes holds)

pub returns-in-Ok-clause-small : goal.returns-in-Ok-clause-small
returns-in-Ok-clause-small c = omega (arith, c.in-Ok.ensures.within, (counted_short c.take_within.new.self.buffer.line).1)

pub returns-in-Err-clause-large : goal.returns-in-Err-clause-large
returns-in-Err-clause-large c = rw (sym c.self.view_is) (λ dot bytes holds is.
    subst (λ (r : Reading). c.args.most < size_of r) (sym (read_more dot bytes c.args.piece.now)) (c.in-Err.ensures.large dot (read dot bytes) holds is))

pub returns-in-Err-clause-err : goal.returns-in-Err-clause-err
returns-in-Err-clause-err c =
    let behind = c.take_within.ensures.behind in
    let old = c.self.inside.held in
    rw (sym c.self.view_is) (taken_back old c.take_within.new.self old.ended c.back_to.new.self behind refl (c.back_to.ensures old.buffer behind.front c.mark-mark.ensures.text c.mark-mark.ensures.whole))
