-- The message is planned over the table as it is, and taken in over the same table.
use Rattle.std.proofs.Common.{◌∙◌, ap, arith, Err}
use Rattle.mail_made.proofs.FormLemmas.{valid_parts}
use Rattle.mail_made.specs.Messages.{headed}
use Rattle.submit_run.proofs.StoringLemmas.{asked_at, broken_of, frame_same, holds_same, spent_of, stored_of, tallies_same, well_formed}
use Rattle.submit_run.proofs.storing.stored.Goals as goal

pub planned-requires-clause-valid : goal.planned-requires-clause-valid
planned-requires-clause-valid g c = λ first cuts header parts.
    valid_parts c.args.table.now.terms c.moment_of-moment.result first c.args.message cuts (omega arith) header
    (well_formed c.args.message c.has_class.ensures c.requires.form) parts

pub accept_planned-requires-clause-agrees : goal.accept_planned-requires-clause-agrees
accept_planned-requires-clause-agrees g c = tallies_same c.args.table.now c.planned.new.table _ c.planned.ensures.table c.requires.table.tallied

pub returns-in-Ok-accept_planned-clause-stores : goal.returns-in-Ok-accept_planned-clause-stores
returns-in-Ok-accept_planned-clause-stores g c = λ entries holds.
    let is = c.in-Ok.ensures.is in
    let k = c.in-Ok-accept_planned.ensures in
    let mid = holds_same c.args.table.now c.planned.new.table entries c.planned.ensures.table holds in
    stored_of c.args.config.now c.args.maps.now entries c.args.message (g.C.Clock.seen c.args.clock.now) (g.C.Clock.seen c.now.new.self) c.moment_of-moment.result c.args.table.now c.planned.new.table c.requires.table.terms c.planned.ensures.table holds
    (asked_at c.args.config.now c.args.maps.now entries c.args.message (g.C.Clock.seen c.args.clock.now) (g.C.Clock.seen c.now.new.self) c.moment_of-moment.result c.now.result c.now.ensures.told c.now.ensures.counted c.moment_of-moment.ensures)
    (g.D.Spool.seen c.args.spool.now) (g.D.Spool.seen c.accept_planned.new.spool) is.made is.taken c.accept_planned.new.self
    (k.holds entries (headed is.made.first c.args.message) is.made.cuts c.moment_of-moment.result mid is.accepts)
    (k.moves entries (headed is.made.first c.args.message) is.made.cuts c.moment_of-moment.result mid is.accepts)

pub returns-in-Ok-accept_planned-clause-frame : goal.returns-in-Ok-accept_planned-clause-frame
returns-in-Ok-accept_planned-clause-frame g c = frame_same c.args.table.now c.planned.new.table _ _ c.planned.ensures.table c.accept_planned.ensures.frame

pub returns-in-Err-clause-stores : goal.returns-in-Err-clause-stores
returns-in-Err-clause-stores g c = λ entries holds.
    let is = c.in-Ok.ensures.is in
    let k = c.in-Err.ensures in
    let mid = holds_same c.args.table.now c.planned.new.table entries c.planned.ensures.table holds in
    broken_of c.args.config.now c.args.maps.now entries c.args.message (g.C.Clock.seen c.args.clock.now) (g.C.Clock.seen c.now.new.self) c.moment_of-moment.result c.args.table.now c.planned.new.table c.requires.table.terms c.planned.ensures.table holds
    (asked_at c.args.config.now c.args.maps.now entries c.args.message (g.C.Clock.seen c.args.clock.now) (g.C.Clock.seen c.now.new.self) c.moment_of-moment.result c.now.result c.now.ensures.told c.now.ensures.counted c.moment_of-moment.ensures)
    (g.D.Spool.seen c.args.spool.now) (g.D.Spool.seen c.accept_planned.new.spool) is.made is.taken c.requires.table.whole k.cause
    (k.moves entries (headed is.made.first c.args.message) is.made.cuts c.moment_of-moment.result mid is.accepts)

pub returns-in-Err-clause-frame : goal.returns-in-Err-clause-frame
returns-in-Err-clause-frame g c = frame_same c.args.table.now c.planned.new.table _ _ c.planned.ensures.table c.accept_planned.ensures.frame

pub returns-in-Err-IdsSpent-clause-stores : goal.returns-in-Err-IdsSpent-clause-stores
returns-in-Err-IdsSpent-clause-stores g c = λ entries holds.
    spent_of c.args.config.now c.args.maps.now entries c.args.message (g.C.Clock.seen c.args.clock.now) (g.C.Clock.seen c.now.new.self) c.moment_of-moment.result c.args.table.now c.planned.new.table c.requires.table.terms c.planned.ensures.table holds
    (asked_at c.args.config.now c.args.maps.now entries c.args.message (g.C.Clock.seen c.args.clock.now) (g.C.Clock.seen c.now.new.self) c.moment_of-moment.result c.now.result c.now.ensures.told c.now.ensures.counted c.moment_of-moment.ensures)
    (c.planned.ensures.spent (c.in-Err-IdsSpent.is ∙ ap (λ e. Err e) c.in-Err-IdsSpent.field-0-is))

pub returns-in-Err-IdsSpent-clause-tallied : goal.returns-in-Err-IdsSpent-clause-tallied
returns-in-Err-IdsSpent-clause-tallied g c = tallies_same c.args.table.now c.planned.new.table _ c.planned.ensures.table c.requires.table.tallied

pub returns-in-Err-NoMemory-clause-tallied : goal.returns-in-Err-NoMemory-clause-tallied
returns-in-Err-NoMemory-clause-tallied g c = tallies_same c.args.table.now c.planned.new.table _ c.planned.ensures.table c.requires.table.tallied
