use Rattle.std.proofs.Common.{rules, tests, not, ◌==◌, length}
use Rattle.std.proofs.lemmas.Iterator.Consumers.{nth_from_yields_List, YieldsList-from_filter, YieldsList-at}
use Rattle.std.proofs.lemmas.Iterator.Splits.{YieldsList-from_slice_split}
use Rattle.mail_base.specs.Whites.{is_white}
use Rattle.map_tables.proofs.lines.word.Goals as goal

pub returns : goal.returns
returns c =
    nth_from_yields_List c.nth.result c.nth.new.self c.args.number c.nth.ensures.ran
    (YieldsList-from_filter _ (λ word. not (length word == 0))
    (YieldsList-at c.filter.ensures.source (YieldsList-from_slice_split _ is_white c.args.line.now c.split.ensures.rest c.split.ensures.done c.split.ensures.closure (λ x b q k. search (rules, tests))))
    c.filter.ensures.closure (λ x b q k. search (rules, tests)))
