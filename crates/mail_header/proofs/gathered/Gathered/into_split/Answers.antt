use Rattle.std.proofs.Common.{sym, subst}
use Rattle.mail_header.specs.Headers.{IsSplit, text_of}
use Rattle.mail_header.proofs.GatherLemmas.{split_is}
use Rattle.mail_header.proofs.SizeLemmas.{gathers_small}
use Rattle.mail_header.proofs.gathered.Gathered.into_split.Goals as goal

pub returns-clause-split : goal.returns-clause-split
returns-clause-split c = λ limit lines gathers are small block.
    subst (λ body. IsSplit (text_of lines) (record { headers = c.args.self.headers; body = body; block = c.args.self.block })) (sym c.into_text.ensures)
    (split_is c.args.self limit lines gathers are small block)

pub returns-clause-small : goal.returns-clause-small
returns-clause-small c = λ limit lines gathers. gathers_small c.args.self limit lines gathers
