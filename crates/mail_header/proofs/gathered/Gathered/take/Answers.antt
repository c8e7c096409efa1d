use Rattle.std.proofs.Common.{refl, sym, ◌∙◌, true}
use Rattle.mail_header.proofs.SplitLemmas.{split_body, split_header, split_empty, split_first}
use Rattle.mail_header.proofs.gathered.Gathered.take.Goals as goal

pub returns-then-self-clause-ok : goal.returns-then-self-clause-ok
returns-then-self-clause-ok c =
    split_body c.add_body.result c.args.self.now c.add_body.new.self c.args.line.now c.if-self.true c.add_body.ensures.ok

pub returns-then-belongs-clause-ok : goal.returns-then-belongs-clause-ok
returns-then-belongs-clause-ok c =
    split_header c.add_header.result c.args.self.now c.add_header.new.self c.args.line.now c.if-self.false (sym c.belongs.ensures ∙ c.if-belongs.true) c.add_header.ensures.ok

pub returns-then-is_empty-clause-ok : goal.returns-then-is_empty-clause-ok
returns-then-is_empty-clause-ok c =
    split_empty c.args.self.now (record c.args.self.now { has_body = true }) c.args.line.now c.if-self.false (sym c.belongs.ensures ∙ c.if-belongs.false) (sym c.is_empty.ensures ∙ c.if-is_empty.true) refl

pub returns-clause-ok : goal.returns-clause-ok
returns-clause-ok c =
    split_first c.add_body-2.result c.args.self.now c.add_body-2.new.self c.args.line.now c.if-self.false (sym c.belongs.ensures ∙ c.if-belongs.false) (sym c.is_empty.ensures ∙ c.if-is_empty.false) c.add_body-2.ensures.ok
