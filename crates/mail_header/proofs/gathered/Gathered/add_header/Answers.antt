use Rattle.std.proofs.Common.{refl, ap, ◌∙◌}
use Rattle.mail_header.specs.Gatherings.{unless}
use Rattle.mail_header.specs.inner.Added.{header_added}
use Rattle.mail_header.proofs.gathered.Gathered.add_header.Goals as goal

pub returns-clause-ok : goal.returns-clause-ok
returns-clause-ok c = record {
  size = refl;
  block = c.block_with-block.ensures;
  headers = c.in_ok-keep_header.ensures.ok ∙ ap (λ large. unless large (header_added c.args.line.now c.args.self.now.headers)) c.is_large.ensures;
  has_header = refl;
  body = refl;
  has_body = refl;
}
