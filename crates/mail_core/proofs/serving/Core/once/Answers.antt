-- A run over the queue begins with the list that was fixed by its first reading.
use Rattle.std.proofs.Common.{◌≡◌, refl, sym, ◌∙◌, ap, subst, None, Some}
use Rattle.std.specs.Option.{option_copied}
use Rattle.mail_core.specs.Beginning.{IsStartMeant, Start}
use Rattle.mail_core.specs.Crews.{IsListOf}
use Rattle.mail_core.specs.Listed.{IsFixed}
use Rattle.mail_core.specs.Machine.{moment_by}
use Rattle.mail_core.specs.declared.intake.Intake.{Intake}
use Rattle.mail_core.specs.inner.Lanes.{IsUsual}
use Rattle.mail_core.proofs.CoreLemmas.{intake_at, intake_serves, ok_more}
use Rattle.mail_core.proofs.serving.Core.once.Goals as goal

pub returns-clause-begins : goal.returns-clause-begins
returns-clause-begins c = ok_more c.over.result _ _ (λ core stands site entries host config plan stores.
    let start : Start = record { table = entries; list = c.in_ok-list.list; first = Some c.args.reading } in
    let serves = intake_serves site _ entries _ (c.in_ok-intake.ensures.parts.0) c.in_ok-intake.ensures.short (c.in_ok-intake.ensures.parts.1) stores in
    let at = intake_at site c.in_ok-intake.intake c.at.new.self entries c.args.reading c.at.ensures.moment c.at.ensures.range serves in
    let moment : c.at.new.self.moment ≡ moment_by 0 c.args.reading = ap (λ (i : Intake). i.moment) c.at.ensures.moment ∙ ap (λ n. moment_by n c.args.reading) c.in_ok-intake.ensures.parts.1 in
    record {
      start = start;
      table_is = refl;
      first_is = refl;
      meant = subst (λ p. IsStartMeant site p start) (sym plan) (record {
        reading = c.args.reading;
        first = refl;
        fixed = subst (λ n. IsFixed site (option_copied c.args.group) n entries c.in_ok-list.list) moment (c.in_ok-list.ensures site entries config plan at.stores.holds);
      });
      stands = stands site start host at
          (c.in_ok-waiting.ensures site config (subst (λ p. IsUsual p None) (sym plan) refl))
          (subst (λ p. IsListOf p (Some c.in_ok-list.list) c.in_ok-list.list) (sym plan) refl)
          moment;
    }) c.over.ensures.stands

pub returns-clause-manned : goal.returns-clause-manned
returns-clause-manned c = ok_more c.over.result _ _ (λ core manned site spawner config plan.
    manned site spawner (c.in_ok-waiting.ensures site config (subst (λ p. IsUsual p None) (sym plan) refl))) c.over.ensures.manned
