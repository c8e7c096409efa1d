-- A run that serves sessions begins with no list.
use Rattle.std.proofs.Common.{refl, sym, ◌∙◌, ap, subst, [], None, Some}
use Rattle.mail_core.specs.Beginning.{IsStartMeant, served}
use Rattle.mail_core.specs.Crews.{IsListOf}
use Rattle.mail_core.specs.inner.Lanes.{IsUsual}
use Rattle.mail_core.proofs.CoreLemmas.{begun_at, intake_serves, ok_more}
use Rattle.mail_core.proofs.serving.Core.serving.Goals as goal

pub returns-clause-begins : goal.returns-clause-begins
returns-clause-begins c = ok_more c.over.result _ _ (λ core stands site entries host config plan stores.
    record {
      start = served entries;
      table_is = refl;
      first_is = refl;
      meant = subst (λ p. IsStartMeant site p (served entries)) (sym plan) refl;
      stands = stands site (served entries) host
          (intake_serves site _ entries _ (c.in_ok-intake.ensures.parts.0) c.in_ok-intake.ensures.short (c.in_ok-intake.ensures.parts.1) stores)
          (c.in_ok-waiting.ensures site config (subst (λ p. IsUsual p (Some c.unwrap_or.result)) (sym plan) (ap (λ n. Some n) c.unwrap_or.ensures)))
          (subst (λ p. IsListOf p None []) (sym plan) refl)
          (c.in_ok-intake.ensures.parts.1 ∙ begun_at);
    }) c.over.ensures.stands

pub returns-clause-manned : goal.returns-clause-manned
returns-clause-manned c = ok_more c.over.result _ _ (λ core manned site spawner config plan.
    manned site spawner (c.in_ok-waiting.ensures site config (subst (λ p. IsUsual p (Some c.unwrap_or.result)) (sym plan) (ap (λ n. Some n) c.unwrap_or.ensures)))) c.over.ensures.manned
