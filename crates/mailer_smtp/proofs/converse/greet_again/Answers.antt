use Rattle.std.proofs.Common.{[], refl, ◌∙◌, ap}
use Rattle.mailer_smtp.specs.declared.verdict.Verdict.TheVariants.{Later, No, Broken}
use Rattle.mailer_smtp.specs.Plans.{heloed}
use Rattle.mailer_smtp.proofs.TalkLemmas.{went_as, went_join}
use Rattle.mailer_smtp.proofs.ConverseLemmas.{over_at}
use Rattle.mailer_smtp.proofs.converse.greet_again.Goals as goal

pub returns-in-Yes-clause-went : goal.returns-in-Yes-clause-went
returns-in-Yes-clause-went g c = went_join _ _ _ _ _ _ _ _ _ _ (went_as _ _ _ _ _ _ _ _ _ refl (ap (heloed c.args.kit.now) c.in-Yes.is) (c.ask-reply.ensures.went (heloed c.args.kit.now))) c.send_mail.ensures.went

pub returns-in-Later-clause-went : goal.returns-in-Later-clause-went
returns-in-Later-clause-went g c =
    let kit = c.args.kit.now in
    went_as _ _ _ _ _ _ _ _ _ refl (ap (heloed kit) c.in-Later.is ∙ over_at (Later c.in-Later.field-0) c.ask-reply.result c.args.rows.now.items [] c.over.new.rows.items c.items.result.now kit.rcpts c.over.result c.in-Later.is c.requires.none c.items.ensures c.over.ensures.whole c.over.ensures.items) (c.ask-reply.ensures.went (heloed kit))

pub returns-in-No-clause-went : goal.returns-in-No-clause-went
returns-in-No-clause-went g c =
    let kit = c.args.kit.now in
    went_as _ _ _ _ _ _ _ _ _ refl (ap (heloed kit) c.in-No.is ∙ over_at (No c.in-No.field-0) c.ask-reply.result c.args.rows.now.items [] c.over-in-No.new.rows.items c.items-in-No.result.now kit.rcpts c.over-in-No.result c.in-No.is c.requires.none c.items-in-No.ensures c.over-in-No.ensures.whole c.over-in-No.ensures.items) (c.ask-reply.ensures.went (heloed kit))

pub returns-in-Broken-clause-went : goal.returns-in-Broken-clause-went
returns-in-Broken-clause-went g c =
    let kit = c.args.kit.now in
    went_as _ _ _ _ _ _ _ _ _ refl (ap (heloed kit) c.in-Broken.is ∙ over_at (Broken c.in-Broken.field-0) c.ask-reply.result c.args.rows.now.items [] c.over-in-Broken.new.rows.items c.items-in-Broken.result.now kit.rcpts c.over-in-Broken.result c.in-Broken.is c.requires.none c.items-in-Broken.ensures c.over-in-Broken.ensures.whole c.over-in-Broken.ensures.items) (c.ask-reply.ensures.went (heloed kit))
