use Rattle.std.proofs.Common.{[], refl, ◌∙◌, ap}
use Rattle.mailer_smtp.specs.declared.verdict.Verdict.TheVariants.{Later, No, Broken}
use Rattle.mailer_smtp.specs.Plans.{opened}
use Rattle.mailer_smtp.proofs.TalkLemmas.{went_as, went_join}
use Rattle.mailer_smtp.proofs.ConverseLemmas.{over_at, passed_at}
use Rattle.mailer_smtp.proofs.converse.converse.Goals as goal

pub returns-in-Yes-clause-went : goal.returns-in-Yes-clause-went
returns-in-Yes-clause-went g c = went_join _ _ _ _ _ _ _ _ _ _ (went_as _ _ _ _ _ _ _ _ _ refl (ap (opened c.args.speech c.args.kit.now) c.in-Yes.is) (c.hear-greeting.ensures.went (opened c.args.speech c.args.kit.now))) c.greet.ensures.went

pub returns-in-No-clause-went : goal.returns-in-No-clause-went
returns-in-No-clause-went g c =
    let kit = c.args.kit.now in
    went_as _ _ _ _ _ _ _ _ _ refl (ap (opened c.args.speech kit) c.in-No.is ∙ over_at (No c.in-No.field-0) c.hear-greeting.result c.args.rows.now.items [] c.over.new.rows.items c.items.result.now kit.rcpts c.over.result c.in-No.is c.requires.none c.items.ensures c.over.ensures.whole c.over.ensures.items) (c.hear-greeting.ensures.went (opened c.args.speech kit))

pub returns-in-Later-clause-went : goal.returns-in-Later-clause-went
returns-in-Later-clause-went g c =
    let kit = c.args.kit.now in
    went_as _ _ _ _ _ _ _ _ _ refl (ap (opened c.args.speech kit) c.in-Later.is ∙ passed_at kit (Later c.in-Later.field-0) c.hear-greeting.result c.pass.new.rows.items c.items-in-Later.result.now c.pass.result c.in-Later.is c.items-in-Later.ensures c.pass.ensures.whole c.pass.ensures.items) (c.hear-greeting.ensures.went (opened c.args.speech kit))

pub returns-in-Broken-clause-went : goal.returns-in-Broken-clause-went
returns-in-Broken-clause-went g c =
    let kit = c.args.kit.now in
    went_as _ _ _ _ _ _ _ _ _ refl (ap (opened c.args.speech kit) c.in-Broken.is ∙ passed_at kit (Broken c.in-Broken.field-0) c.hear-greeting.result c.pass-in-Broken.new.rows.items c.items-in-Broken.result.now c.pass-in-Broken.result c.in-Broken.is c.items-in-Broken.ensures c.pass-in-Broken.ensures.whole c.pass-in-Broken.ensures.items) (c.hear-greeting.ensures.went (opened c.args.speech kit))
