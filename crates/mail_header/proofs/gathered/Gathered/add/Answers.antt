use Rattle.std.proofs.lemmas.Bool.{lt-ltb, le-ltb}
use Rattle.mail_header.proofs.SplitLemmas.{gathers_large, gathers_split}
use Rattle.mail_header.proofs.gathered.Gathered.add.Goals as goal

pub returns-then-size-limit-clause-ok : goal.returns-then-size-limit-clause-ok
returns-then-size-limit-clause-ok c =
    λ lines is.
    gathers_large c.args.self.now c.give_up.new.self c.args.limit c.size_with-size.result c.args.line.now lines c.give_up.ensures c.size_with-size.ensures (lt-ltb c.args.limit c.size_with-size.result c.if-size-limit.true) is

pub returns-clause-ok : goal.returns-clause-ok
returns-clause-ok c =
    λ lines is.
    gathers_split c.args.self.now c.take.new.self c.args.limit c.size_with-size.result c.args.line.now lines c.size_with-size.ensures (le-ltb c.args.limit c.size_with-size.result c.if-size-limit.false) (c.in_ok-take.ensures.ok lines) is
