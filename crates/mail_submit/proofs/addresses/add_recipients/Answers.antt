use Rattle.std.proofs.Common.{sym, ap, ◌∙◌}
use Rattle.std.proofs.lemmas.Result.{on_ok_weaker}
use Rattle.mail_submit.specs.Submissions.{is_addressed}
use Rattle.mail_submit.proofs.SubmitLemmas.{names_none, names_some}
use Rattle.mail_submit.proofs.addresses.add_recipients.Goals as goal

pub returns-then-is_addressed : goal.returns-then-is_addressed
returns-then-is_addressed c =
    let is = sym (c.is_addressed.ensures ∙ ap is_addressed c.bytes.ensures) ∙ c.if-is_addressed.true in
    on_ok_weaker c.add_header.result (names_some c.args.header.now c.args.recipients.now c.add_header.new.list is) c.add_header.ensures

pub returns : goal.returns
returns c = names_none c.args.header.now c.args.recipients.now (sym (c.is_addressed.ensures ∙ ap is_addressed c.bytes.ensures) ∙ c.if-is_addressed.false)
