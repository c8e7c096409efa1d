use Rattle.std.proofs.Common.{◌≡◌, rules, false, [], length, drop, take_at, refl, sym, ap}
use Rattle.mailer_smtp.specs.declared.verdict.Verdict.TheVariants.{Broken}
use Rattle.mailer_smtp.specs.declared.verdict.Wants.TheVariants.{Done}
use Rattle.mailer_smtp.specs.Plans.{Over, asks, each, over, texted, device_fault}
use Rattle.mailer_smtp.proofs.TalkLemmas.{went_as, went_join}
use Rattle.mailer_smtp.proofs.ConverseLemmas.{over_at}
use Rattle.mailer_smtp.proofs.converse.send_text.Goals as goal

pub returns-in-Smtp-clause-went : goal.returns-in-Smtp-clause-went
returns-in-Smtp-clause-went g c =
    let kit = c.args.kit.now in
    let rows = c.args.rows.now.items in
    let reply = c.ask-reply.result in
    went_as _ _ _ (asks kit.text Done (λ reply. over reply rows [])) _ _ _ _ _ (ap (λ s. texted s kit rows) (sym c.in-Smtp.is)) (over_at reply reply rows rows c.over.new.rows.items [] [] c.over.result refl refl refl c.over.ensures.whole c.over.ensures.items) (c.ask-reply.ensures.went (λ reply. over reply rows []))

pub returns-else-not-say-clause-went : goal.returns-else-not-say-clause-went
returns-else-not-say-clause-went g c =
    let kit = c.args.kit.now in
    let rows = c.args.rows.now.items in
    let size : length c.hear_each.new.rows ≡ c.args.rows.now.len = search rules in
    went_join _ _ _ _ _ _ _ _ _ _ (went_as _ _ _ _ _ _ _ _ _ (ap (λ s. texted s kit rows) (sym c.in-Lmtp.is)) (ap (each []) (sym c.deref_mut.ensures.value)) (c.if-not-say.ensures.went (over (Broken device_fault) rows []) (each [] rows) c.args.inbox.now)) (went_as _ _ _ _ _ _ _ _ _ refl (ap (Over c.hear_each.result false) (sym (take_at c.hear_each.new.rows (drop (length c.hear_each.new.rows) rows) c.args.rows.now.len size))) c.hear_each.ensures.went)
