use Rattle.std.proofs.Common.{rules, tests}
use Rattle.std.proofs.lemmas.Iterator.Search.{any_from_yields_List}
use Rattle.std.proofs.lemmas.Iterator.Splits.{YieldsList-from_slice_split}
use Rattle.addr_test.specs.Forms.{is_comma, is_nothing}
use Rattle.addr_test.proofs.form.lacks_name.Goals as goal

pub returns : goal.returns
returns c =
    any_from_yields_List is_nothing c.any.new.self _ c.any.result c.any.ensures.ran
    (YieldsList-from_slice_split _ is_comma c.args.sets.now c.split.ensures.rest c.split.ensures.done c.split.ensures.closure (λ x b q k. search (rules, tests)))
    (λ x b q k. search (rules, tests))
