use Rattle.std.proofs.Common.{◌∙◌}
use Rattle.sendmail_run.proofs.KeepLemmas.{kept_whole, kept_cut}
use Rattle.sendmail_run.specs.inner.Taking.{most_kept}
use Rattle.sendmail_run.proofs.input.Partial.whole.Goals as goal

pub returns-then-self : goal.returns-then-self
returns-then-self c = λ rest k. kept_cut most_kept rest c.args.self.now.is_cut k.cut c.if-self.true

pub returns-else-self : goal.returns-else-self
returns-else-self c = λ rest k. c.bytes.ensures ∙ kept_whole most_kept rest c.args.self.now.front c.args.self.now.is_cut k.front k.cut c.if-self.false
