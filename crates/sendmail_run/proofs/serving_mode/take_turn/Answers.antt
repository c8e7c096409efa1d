use Rattle.std.proofs.Common.{sym, ◌∙◌}
use Rattle.std.proofs.lemmas.Bool.{false≢true}
use Rattle.link_edge.specs.declared.turn.Turn.TheVariants.{Idle, Stop}
use Rattle.mail_core.specs.Events.{event_of}
use Rattle.mail_core.specs.Seen.{beside, hands, seen}
use Rattle.sendmail_run.specs.Serving.{grounds_of, judge_by}
use Rattle.sendmail_run.proofs.TurningLemmas.{of_session, turned_as, turned_told}
use Rattle.sendmail_run.proofs.serving_mode.take_turn.Goals as goal

-- nothing came
pub returns-in-Idle-clause-turns : goal.returns-in-Idle-clause-turns
returns-in-Idle-clause-turns g c = λ site m told before clock read under stands may taken.
    turned_as c.args.turn Idle c.args.buffer.now (judge_by (grounds_of c.args.config.now c.args.maps.now c.args.names.now) (g.F.Files.seen c.args.files.now)) site m told c.args.reading before (g.L.Floor.seen c.args.floor.now) clock read
    (seen before (g.D.Spool.seen c.args.spool.now) (beside clock (hands (g.S.Spawner.seen c.args.spawner.now) (g.N.Dialer.seen c.args.dialer.now))))
    (seen (g.L.Floor.seen c.args.floor.now) (g.D.Spool.seen c.rest.new.spool) (beside read (hands (g.S.Spawner.seen c.rest.new.spawner) (g.N.Dialer.seen c.rest.new.dialer)))) c.rest.new.core c.rest.result c.in-Idle.is
    (λ comes reading came. c.rest.ensures.turns site m _ before (g.L.Floor.seen c.args.floor.now) clock read under stands comes reading came) may taken

-- a Stop
pub returns-in-Stop-clause-turns : goal.returns-in-Stop-clause-turns
returns-in-Stop-clause-turns g c = λ site m told before clock read under stands may taken.
    turned_as c.args.turn Stop c.args.buffer.now (judge_by (grounds_of c.args.config.now c.args.maps.now c.args.names.now) (g.F.Files.seen c.args.files.now)) site m told c.args.reading before (g.L.Floor.seen c.args.floor.now) clock read
    (seen before (g.D.Spool.seen c.args.spool.now) (beside clock (hands (g.S.Spawner.seen c.args.spawner.now) (g.N.Dialer.seen c.args.dialer.now))))
    (seen (g.L.Floor.seen c.args.floor.now) (g.D.Spool.seen c.stop.new.spool) (beside read (hands (g.S.Spawner.seen c.stop.new.spawner) (g.N.Dialer.seen c.stop.new.dialer)))) c.stop.new.core c.stop.result c.in-Stop.is
    (λ comes reading came. c.stop.ensures.turns site m _ before (g.L.Floor.seen c.args.floor.now) clock read under stands comes reading came) may taken

-- a turn of a session
pub speak-requires : goal.speak-requires
speak-requires g c = record {
  fits = c.requires.fits;
  sound = c.requires.sound;
  session = of_session c.args.turn c.args.buffer.now c.in_default.not-Idle c.in_default.not-Stop;
  standing = c.requires.standing;
  tallied = c.requires.able.tallied;
}

pub returns-in_default-clause-turns : goal.returns-in_default-clause-turns
returns-in_default-clause-turns g c = λ site m told before clock read under stands may taken.
    let side = hands (g.S.Spawner.seen c.args.spawner.now) (g.N.Dialer.seen c.args.dialer.now) in
    turned_told (event_of c.args.turn c.args.buffer.now) (judge_by (grounds_of c.args.config.now c.args.maps.now c.args.names.now) (g.F.Files.seen c.args.files.now)) site m told c.args.reading before (g.L.Floor.seen c.args.floor.now) clock read
    (seen before (g.D.Spool.seen c.args.spool.now) (beside clock side))
    (seen (g.L.Floor.seen c.speak.new.floor) (g.D.Spool.seen c.speak.new.spool) (beside read side)) c.speak.new.core c.speak.result
    (of_session c.args.turn c.args.buffer.now c.in_default.not-Idle c.in_default.not-Stop) may
    (λ comes came. c.speak.ensures.turns site m before clock read side under stands comes came) taken

pub returns-in_default-clause-alone : goal.returns-in_default-clause-alone
returns-in_default-clause-alone g c = λ own. absurd (false≢true (sym (of_session c.args.turn c.args.buffer.now c.in_default.not-Idle c.in_default.not-Stop) ∙ own))

pub returns-in_default-clause-able : goal.returns-in_default-clause-able
returns-in_default-clause-able g c = λ went. c.speak.ensures.able (g.S.Spawner.seen c.args.spawner.now) went c.requires.able
