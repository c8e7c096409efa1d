use Rattle.std.proofs.Common.{◌++◌}
use Rattle.cf_macros.specs.Dates.{two, four}
use Rattle.cf_macros.proofs.DateLemmas.{more}
use Rattle.cf_macros.proofs.dates.push_short.Goals as goal

pub returns : goal.returns
returns c =
    let date = c.args.civil in
    let text = c.args.text.now in
    let month = more text (four date.year) c.push_four.new.text (two date.month) c.push_two.new.text c.in_ok-push_four.ensures c.in_ok-push_two.ensures in
    let day = more text (four date.year ++ two date.month) c.push_two.new.text (two date.day) c.push_two-2.new.text month c.in_ok-push_two-2.ensures in
    let hour = more text (four date.year ++ two date.month ++ two date.day) c.push_two-2.new.text (two date.hour) c.push_two-3.new.text day c.in_ok-push_two-3.ensures in
    more text (four date.year ++ two date.month ++ two date.day ++ two date.hour) c.push_two-3.new.text (two date.minute) c.push_two-4.new.text hour c.in_ok-push_two-4.ensures
