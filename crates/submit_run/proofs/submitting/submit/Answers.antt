-- The input is read, it is a message, and this is taken in.
use Rattle.std.proofs.Common.{◌∙◌, ◌<◌, ◌^◌, ℕ, ap, subst, sym}
use Rattle.mail_base.specs.Limits.{message_limit}
use Rattle.mail_base.specs.declared.config.Config.{Config}
use Rattle.queue_table.specs.Calls.{store}
use Rattle.submit_run.specs.Ends.{seen}
use Rattle.submit_run.specs.Inputs.{IsRead}
use Rattle.submit_run.specs.Taken.{MayTake}
use Rattle.submit_run.proofs.SubmitLemmas.{ends_stored, limit_fits}
use Rattle.submit_run.proofs.submitting.submit.Goals as goal

pub text_of_input-requires : goal.text_of_input-requires
text_of_input-requires g c =
    let limit = c.message_limit-most.ensures ∙ ap (λ (q : Config). message_limit q.options) c.config-config.ensures in
    record { most = subst (λ (n : ℕ). n < 2 ^ 62) (sym limit) (limit_fits c.args.grounds.now.config.options) }

pub stored-requires-clause-table : goal.stored-requires-clause-table
stored-requires-clause-table g c = subst (λ (q : Config). MayTake q c.args.table.now (g.D.Spool.seen c.args.spool.now)) (sym c.config-config.ensures) c.requires.table

pub returns-in-Ok-handed_over-clause-ends : goal.returns-in-Ok-handed_over-clause-ends
returns-in-Ok-handed_over-clause-ends g c = λ entries holds.
    let a = c.args in
    let limit = c.message_limit-most.ensures ∙ ap (λ (q : Config). message_limit q.options) c.config-config.ensures in
    ends_stored a.grounds.now a.words.now (store a.table.now).dirs entries
    (seen (g.F.Files.seen a.files.now) (g.I.Source.seen a.input.now) (g.D.Spool.seen a.spool.now) (g.C.Clock.seen a.clock.now))
    (seen (g.F.Files.seen c.handed_over.new.files) (g.I.Source.seen c.text_of_input.new.input) (g.D.Spool.seen c.stored.new.spool) (g.C.Clock.seen c.stored.new.clock))
    c.stored.new.table c.in-Ok.text c.in-Ok-handed_over.message c.stored.result _ _ c.config-config.ensures c.maps.ensures
    (subst (λ (n : ℕ). IsRead a.words.now.dot n (g.I.Source.seen a.input.now) (g.I.Source.seen c.text_of_input.new.input) c.in-Ok.text) limit c.in-Ok.ensures.reads)
    c.in-Ok-handed_over.ensures.comes (c.stored.ensures.stores entries holds)
