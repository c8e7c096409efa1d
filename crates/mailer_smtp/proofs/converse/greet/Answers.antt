use Rattle.std.proofs.Common.{[], refl, ◌∙◌, ap}
use Rattle.mailer_smtp.specs.declared.verdict.Verdict.TheVariants.{Later, No, Broken}
use Rattle.mailer_smtp.specs.Plans.{greeted}
use Rattle.mailer_smtp.proofs.TalkLemmas.{went_as, went_join}
use Rattle.mailer_smtp.proofs.ConverseLemmas.{over_at}
use Rattle.mailer_smtp.proofs.converse.greet.Goals as goal

pub returns-in-Yes-clause-went : goal.returns-in-Yes-clause-went
returns-in-Yes-clause-went g c = went_join _ _ _ _ _ _ _ _ _ _ (went_as _ _ _ _ _ _ _ _ _ refl (ap (greeted c.args.speech c.args.kit.now) c.in-Yes.is) (c.ask-reply.ensures.went (greeted c.args.speech c.args.kit.now))) c.send_mail.ensures.went

pub returns-in-Smtp-clause-went : goal.returns-in-Smtp-clause-went
returns-in-Smtp-clause-went g c =
    let kit = c.args.kit.now in
    went_join _ _ _ _ _ _ _ _ _ _ (went_as _ _ _ _ _ _ _ _ _ refl (ap (greeted c.args.speech kit) c.in-No.is ∙ ap (λ s. greeted s kit (No c.in-No.field-0)) c.in-Smtp.is) (c.ask-reply.ensures.went (greeted c.args.speech kit))) c.greet_again.ensures.went

pub returns-in-Lmtp-clause-went : goal.returns-in-Lmtp-clause-went
returns-in-Lmtp-clause-went g c =
    let kit = c.args.kit.now in
    went_as _ _ _ _ _ _ _ _ _ refl (ap (greeted c.args.speech kit) c.in-No.is ∙ ap (λ s. greeted s kit (No c.in-No.field-0)) c.in-Lmtp.is ∙ over_at (No c.in-No.field-0) c.ask-reply.result c.args.rows.now.items [] c.over.new.rows.items c.items.result.now kit.rcpts c.over.result c.in-No.is c.requires.none c.items.ensures c.over.ensures.whole c.over.ensures.items) (c.ask-reply.ensures.went (greeted c.args.speech kit))

pub returns-in-Later-clause-went : goal.returns-in-Later-clause-went
returns-in-Later-clause-went g c =
    let kit = c.args.kit.now in
    went_as _ _ _ _ _ _ _ _ _ refl (ap (greeted c.args.speech kit) c.in-Later.is ∙ over_at (Later c.in-Later.field-0) c.ask-reply.result c.args.rows.now.items [] c.over-in-Later.new.rows.items c.items-in-Later.result.now kit.rcpts c.over-in-Later.result c.in-Later.is c.requires.none c.items-in-Later.ensures c.over-in-Later.ensures.whole c.over-in-Later.ensures.items) (c.ask-reply.ensures.went (greeted c.args.speech kit))

pub returns-in-Broken-clause-went : goal.returns-in-Broken-clause-went
returns-in-Broken-clause-went g c =
    let kit = c.args.kit.now in
    went_as _ _ _ _ _ _ _ _ _ refl (ap (greeted c.args.speech kit) c.in-Broken.is ∙ over_at (Broken c.in-Broken.field-0) c.ask-reply.result c.args.rows.now.items [] c.over-in-Broken.new.rows.items c.items-in-Broken.result.now kit.rcpts c.over-in-Broken.result c.in-Broken.is c.requires.none c.items-in-Broken.ensures c.over-in-Broken.ensures.whole c.over-in-Broken.ensures.items) (c.ask-reply.ensures.went (greeted c.args.speech kit))
