-- What the definition has, the result has.
use Rattle.std.proofs.Common.{◌≡◌, List, sym, subst}
use Rattle.mail_base.specs.Drawing.{AreRows}
use Rattle.mail_base.specs.declared.draw.Draw.{Draw}
use Rattle.queue_plan.specs.Rows as spec
use Rattle.queue_plan.proofs.CountLemmas.{rows_kept}
use Rattle.queue_plan.proofs.FitLemmas.{if_ok}
use Rattle.queue_plan.proofs.rows.distinct.Goals as goal

pub returns-clause-form : goal.returns-clause-form
returns-clause-form c = λ form.
    if_ok (λ (kept : List Draw). kept ≡ spec.distinct c.args.rows) (λ (kept : List Draw). AreRows kept)
    (λ kept is. subst AreRows (sym is) (rows_kept c.args.rows form)) c.firsts_of.result c.firsts_of.ensures
