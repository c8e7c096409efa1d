use Rattle.std.proofs.Common.{◌≡◌, List, ℕ, ap, ◌∙◌, subst, sym, All}
use Rattle.mail_base.specs.Texts.{IsHeader}
use Rattle.cf_macros.specs.Expansion.{host_name}
use Rattle.dsn_bounce.specs.Returned.{receiver_of}
use Rattle.dsn_bounce.proofs.NoticeLemmas.{headers_are}
use Rattle.dsn_bounce.proofs.notice.notice.Goals as goal

pub returns-clause-headers : goal.returns-clause-headers
returns-clause-headers c = subst (All IsHeader)
    (sym (ap (λ m. m.headers) c.in_ok-message.ensures ∙ c.in_ok-headers.ensures))
    (headers_are c.args.topic (host_name c.args.config.now.macros) (receiver_of c.args.config.now c.args.control.now) c.in_ok-now.now)
