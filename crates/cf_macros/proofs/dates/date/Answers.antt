use Rattle.std.proofs.Common.{◌++◌, ap, ◌∙◌}
use Rattle.cf_macros.specs.Dates.{shown}
use Rattle.cf_macros.proofs.dates.date.Goals as goal

pub returns : goal.returns
returns c =
    let civil = c.civil_of-civil.result in (
      civil,
      rw c.min.ensures at c.civil_of-civil.ensures,
      c.in_ok-push_date.ensures ∙ ap (λ t. t ++ shown c.args.form civil) c.new-text.ensures,
    )
