use Rattle.std.proofs.Common.{refl, ap}
use Rattle.mail_submit.specs.Parts.{Parts}
use Rattle.mail_submit.proofs.held.Held.new.Goals as goal

pub returns : goal.returns
returns c = record { counts = refl; text = ap (λ (p : Parts). p.text) c.new.ensures; line = ap (λ (p : Parts). p.line) c.new.ensures; ended = refl }
