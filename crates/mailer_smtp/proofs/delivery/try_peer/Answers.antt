use Rattle.std.proofs.Common.{map, ◌∙◌, ap}
use Rattle.mailer_smtp.specs.declared.verdict.Verdict.TheVariants.{Broken}
use Rattle.mailer_smtp.specs.Plans.{result_of, row_of, device_fault}
use Rattle.mailer_smtp.proofs.DeliverLemmas.{tried_lost, tried_line}
use Rattle.mailer_smtp.proofs.delivery.try_peer.Goals as goal

pub returns-in-Ok-clause-tried : goal.returns-in-Ok-clause-tried
returns-in-Ok-clause-tried g c = tried_line _ _ _ _ _ _ _ _ _ _ _ _ _ c.in-Ok.ensures.told c.in-Ok.ensures.missed c.in-Ok.ensures.calm c.clear-2.ensures c.converse-end.ensures.went c.part-said.ensures

pub returns-in-Err-clause-tried : goal.returns-in-Err-clause-tried
returns-in-Err-clause-tried g c = tried_lost _ _ _ _ _ c.in-Err._fault _ c.in-Err.ensures.told c.in-Err.ensures.missed c.in-Err.ensures.cause.later c.in-Err.ensures.cause.failed (c.pass-whole.ensures.items ∙ ap (λ v. map (row_of (result_of v)) c.items.result.now) c.broken.ensures ∙ ap (map (row_of (result_of (Broken device_fault)))) c.items.ensures)
