use Rattle.std.proofs.Common.{◌∙◌, ap}
use Rattle.std.specs.Prelude.{codes}
use Rattle.mail_base.specs.Catalogs.{with_value}
use Rattle.mail_base.specs.Names.{id_text as shown_id}
use Rattle.mail_base.specs.Literals.{literal}
use Rattle.mail_made.proofs.message.message_macros.Goals as goal

-- one macro after another is set
pub returns : goal.returns
returns c = record {
  dates = record { told = c.in_ok-told.told; mail = c.in_ok-mail.mail; unix = c.in_ok-unix.unix; short = c.in_ok-short.short };
  are = record { told = c.in_ok-told.ensures; mail = c.in_ok-mail.ensures; unix = c.in_ok-unix.ensures; short = c.in_ok-short.ensures };
  is =
      c.in_ok-define-5.ensures.ok
      ∙ ap (λ v. with_value (codes "i") v c.define-4.new.self) c.in_ok-id.ensures
      ∙ ap (λ m. with_value (codes "i") (shown_id c.args.id) m) (c.in_ok-define-4.ensures.ok
      ∙ ap (λ m. with_value (codes "t") c.in_ok-short.short m) (c.in_ok-define-3.ensures.ok
      ∙ ap (λ m. with_value (codes "d") c.in_ok-unix.unix m) (c.in_ok-define-2.ensures.ok
      ∙ ap (λ m. with_value (codes "b") c.in_ok-mail.mail m) (c.in_ok-define.ensures.ok
      ∙ ap (λ v. with_value (codes "a") v c.in_ok-macros.macros) c.in_ok-value.ensures
      ∙ ap (λ b. with_value (codes "a") (literal b) c.in_ok-macros.macros) c.bytes.ensures
      ∙ ap (λ m. with_value (codes "a") (literal c.in_ok-told.told) m) c.in_ok-macros.ensures))));
}
