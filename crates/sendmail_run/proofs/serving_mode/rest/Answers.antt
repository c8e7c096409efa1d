use Rattle.std.proofs.Common.{rules, ◌≡◌, ℕ, Option, refl, ap}
use Rattle.mail_edge.specs.Asking.{Asks}
use Rattle.mail_edge.specs.Seen.{FileMap}
use Rattle.link_edge.specs.declared.event.Event.TheVariants.{Rests}
use Rattle.mail_core.specs.Causes.{is_judge_fault}
use Rattle.mail_core.specs.Seen.{beside, hands, seen}
use Rattle.sendmail_run.specs.Serving.{grounds_of}
use Rattle.sendmail_run.proofs.ServingLemmas.{files_asked}
use Rattle.sendmail_run.proofs.TurningLemmas.{turns_own}
use Rattle.sendmail_run.proofs.serving_mode.rest.Goals as goal

pub returns-clause-turns : goal.returns-clause-turns
returns-clause-turns g c = λ site m origin before now clock read under stands comes reading taken.
    let a = seen before (g.D.Spool.seen c.args.spool.now) (beside clock (hands (g.S.Spawner.seen c.args.spawner.now) (g.N.Dialer.seen c.args.dialer.now))) in
    let b = seen now (g.D.Spool.seen c.rest.new.spool) (beside read (hands (g.S.Spawner.seen c.rest.new.spawner) (g.N.Dialer.seen c.rest.new.dialer))) in
    turns_own (grounds_of c.args.config.now c.args.maps.now c.args.names.now) c.new-grounds.result (g.F.Files.seen c.args.files.now) site m Rests origin a b c.rest.new.self c.rest.result c.new-grounds.ensures refl
    (c.rest.ensures.turns site m origin before now clock read under stands comes reading taken)

pub returns-clause-asks : goal.returns-clause-asks
returns-clause-asks g c =
    let drawn = c.rest.ensures.drawn in
    let kept : c.rest.new.draws.files.ghost_name ≡ _ = ap (λ (f : ℕ × Option FileMap). f.0) c.rest.ensures.fixed in
    let asks : Asks (g.F.Files.seen c.args.files.now) (g.F.Files.seen c.rest.new.draws.files.now) (is_judge_fault c.rest.result) =
    files_asked (g.F.Files.seen c.args.files.now) (g.F.Files.seen c.rest.new.draws.files.now) (is_judge_fault c.rest.result) (ap (λ (f : ℕ × Option FileMap). f.1) c.rest.ensures.fixed) drawn.steady.later drawn.rose drawn.calm in
    search (rules, asks, kept)
