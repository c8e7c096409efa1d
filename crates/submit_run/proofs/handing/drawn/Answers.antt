-- Nobody gets it, one recipient is refused, or all have rows.
use Rattle.std.proofs.Common.{◌∙◌, List, ℕ, [], Ok, Err, ap, subst, sym, refl, length}
use Rattle.std.specs.Prelude.{All}
use Rattle.std.proofs.lemmas.Bool.{false≢true}
use Rattle.std.proofs.lemmas.Result.{err_from_is_err_and}
use Rattle.mail_base.specs.Texts.{IsAddress, IsBracketed}
use Rattle.mail_base.specs.declared.config.Config.{Config}
use Rattle.submit_run.specs.Messages.{message_with}
use Rattle.submit_run.specs.Parties.{recipients_of as who}
use Rattle.submit_run.specs.Rows.{Draws}
use Rattle.submit_run.specs.inner.Steps.{AreGathered, Tells}
use Rattle.submit_run.proofs.FormLemmas.{recipients_form, sender_form}
use Rattle.submit_run.proofs.HandingLemmas.{all_good, message_fit, nobody, one_bad, rows_form, same_list}
use Rattle.submit_run.proofs.handing.drawn.Goals as goal

pub returns-then-is_empty-clause-comes : goal.returns-then-is_empty-clause-comes
returns-then-is_empty-clause-comes g c =
    let a = c.args in
    nobody a.grounds.now (g.F.Files.seen a.files.now).map a.words.now a.submission c.in_ok-recipients.recipients c.requires.passed
    (c.in_ok-recipients.ensures ∙ ap (who a.words.now) c.items.ensures) (c.if-is_empty.ensures.0 refl)

pub rows_of-requires-clause-recipients : goal.rows_of-requires-clause-recipients
rows_of-requires-clause-recipients g c =
    let a = c.args in
    subst (All IsAddress) (sym (c.items-2.ensures ∙ c.in_ok-recipients.ensures ∙ ap (who a.words.now) c.items.ensures)) (recipients_form a.words.now a.submission.recipients c.requires.words c.requires.sound.found)

pub rows_of-requires-clause-sender : goal.rows_of-requires-clause-sender
rows_of-requires-clause-sender g c =
    let a = c.args in
    subst IsBracketed (sym c.in_ok-sender.ensures) (sender_form a.words.now a.submission.first_from c.requires.words c.requires.sound.first_from)

pub returns-in_err-rows-clause-comes : goal.returns-in_err-rows-clause-comes
returns-in_err-rows-clause-comes g c =
    let a = c.args in
    let p = err_from_is_err_and c.from_residual-in_err-rows.result c.from_residual-in_err-rows.ensures.1 in
    rw (p.1, p.2) (one_bad a.grounds.now (g.F.Files.seen a.files.now).map a.words.now a.submission c.in_ok-recipients.recipients c.in_ok-sender.sender c.requires.passed
    (c.in_ok-recipients.ensures ∙ ap (who a.words.now) c.items.ensures) (λ e. false≢true (c.if-is_empty.ensures.1 e)) c.in_ok-sender.ensures c.in_err-rows.field-0.0
    (same_list (λ (q : List (List ℕ)). Tells (Draws a.grounds.now (g.F.Files.seen a.files.now).map c.in_ok-sender.sender 0 [] q) (Err c.in_err-rows.field-0.0)) c.items-2.ensures c.in_err-rows.ensures.draws))

pub returns-clause-comes : goal.returns-clause-comes
returns-clause-comes g c =
    let a = c.args in
    all_good a.grounds.now (g.F.Files.seen a.files.now).map a.words.now a.submission c.in_ok-recipients.recipients c.in_ok-sender.sender c.requires.passed
    (c.in_ok-recipients.ensures ∙ ap (who a.words.now) c.items.ensures) (λ e. false≢true (c.if-is_empty.ensures.1 e)) c.in_ok-sender.ensures c.in_ok-rows.rows _
    (subst (λ (q : List (List ℕ)). Draws a.grounds.now (g.F.Files.seen a.files.now).map c.in_ok-sender.sender 0 [] q (Ok c.in_ok-rows.rows)) c.items-2.ensures c.in_ok-rows.ensures.draws) (c.in_ok-message.ensures ∙ ap (λ (q : Config). message_with q c.in_ok-sender.sender a.submission c.in_ok-rows.rows) c.config.ensures)

pub returns-clause-form : goal.returns-clause-form
returns-clause-form g c =
    let a = c.args in
    message_fit a.grounds.now.config c.in_ok-sender.sender a.submission c.in_ok-rows.rows _ c.requires.sound
    (rows_form c.in_ok-recipients.recipients c.in_ok-rows.rows (λ e. false≢true (c.if-is_empty.ensures.1 e)) (subst (λ (q : List (List ℕ)). AreGathered (length q) c.in_ok-rows.rows) c.items-2.ensures c.in_ok-rows.ensures.form)) (c.in_ok-message.ensures ∙ ap (λ (q : Config). message_with q c.in_ok-sender.sender a.submission c.in_ok-rows.rows) c.config.ensures)
