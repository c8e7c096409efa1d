use Rattle.std.proofs.Common.{ap, ◌∙◌, codes}
use Rattle.mail_base.specs.Catalogs.{with_value}
use Rattle.mail_header.proofs.moment.dated.Goals as goal

pub returns : goal.returns
returns c = record {
  dates = record { mail = c.in_ok-mail.mail; unix = c.in_ok-unix.unix; short = c.in_ok-short.short };
  are = record { mail = c.in_ok-mail.ensures; unix = c.in_ok-unix.ensures; short = c.in_ok-short.ensures };
  is = c.in_ok-define-3.ensures.ok ∙ ap (λ m. with_value (codes "t") c.in_ok-short.short m) (c.in_ok-define-2.ensures.ok ∙ ap (λ m. with_value (codes "d") c.in_ok-unix.unix m) c.in_ok-define.ensures.ok);
}
