use Rattle.std.proofs.Common.{◌∙◌, ap, [], subst}
use Rattle.smtp_receive.specs.Replies.{greeting_text, shown_host}
use Rattle.smtp_receive.specs.Sessions.{Stands as Speaks}
use Rattle.mail_core.proofs.CoreLemmas.{keeps_new}
use Rattle.mail_core.proofs.serving.Core.caller_of.Goals as goal

pub returns-clause-keeps : goal.returns-clause-keeps
returns-clause-keeps c = λ site e. keeps_new site c.args.session c.args.peer.now c.in_ok-new.field-0 c.new-2.result c.requires.line
    (subst (λ q. Speaks c.in_ok-new.field-0 site.config q c.args.peer.now []) e (subst (λ q. Speaks c.in_ok-new.field-0 site.config c.args.self.now.host q []) c.in_ok-peer.ensures (c.in_ok-new.ensures site.config)))
    c.new-2.ensures.fresh c.new-2.ensures.stands

pub returns-clause-greeting : goal.returns-clause-greeting
returns-clause-greeting c = λ site e.
    c.in_ok-greeting.ensures site.config c.args.self.now.host c.in_ok-peer.peer [] (c.in_ok-new.ensures site.config) ∙ ap (λ h. greeting_text (shown_host h)) e
