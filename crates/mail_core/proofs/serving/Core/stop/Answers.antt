-- A turn of the crew is the core's.
use Rattle.std.proofs.Common.{refl, subst, sym, true, ◌≡◌}
use Rattle.std.specs.Prelude.{is_ok}
use Rattle.queue_table.specs.Calls.{Tallies}
use Rattle.link_edge.specs.declared.event.Event.TheVariants.{Stops}
use Rattle.queue_run.specs.Backs.{drawer}
use Rattle.queue_run.specs.Working.{bench}
use Rattle.mail_core.specs.Causes.{IsDrawn, is_judge_fault, is_well}
use Rattle.mail_core.specs.Events.{Turns}
use Rattle.mail_core.specs.Idling.{stopped}
use Rattle.mail_core.specs.Seen.{beside, hands, seen}
use Rattle.mail_core.specs.Standing.{Stands}
use Rattle.mail_core.specs.States.{State}
use Rattle.mail_core.specs.declared.serving.Core.{Core}
use Rattle.mail_core.specs.Crews.{IsManned}
use Rattle.mail_core.specs.Judges.{drawing}
use Rattle.mail_core.specs.Machine.{at_moment}
use Rattle.mail_core.specs.Plans.{reading_of}
use Rattle.mail_core.specs.declared.intake.Intake.{Intake}
use Rattle.mail_core.proofs.CoreLemmas.{at_stands, stop_stands, whole_of}
use Rattle.mail_core.proofs.HappenLemmas.{stop_turns, caused_calm, drawn_as, go_on}
use Rattle.mail_core.proofs.serving.Core.stop.Goals as goal

pub stop-requires-clause-agrees : goal.stop-requires-clause-agrees
stop-requires-clause-agrees g c = subst (λ (i : Intake). Tallies i.table (g.D.Spool.seen c.args.spool.now)) (sym c.at.ensures.moment) c.requires.able.tallied

pub stop-requires-clause-whole : goal.stop-requires-clause-whole
stop-requires-clause-whole g c = let r = c.requires.standing in whole_of r.site (record (at_moment r.state c.args.reading) { stopping = true }) (record c.args.self.now { intake = c.at.new.self; stopping = true }) c.args.config.now c.args.maps.now r.under (stop_stands r.site (at_moment r.state c.args.reading) (record c.args.self.now { intake = c.at.new.self }) (at_stands r.site r.state c.args.self.now c.at.new.self c.args.reading r.stands c.at.ensures.moment c.at.ensures.range))

pub stop-requires-clause-manned : goal.stop-requires-clause-manned
stop-requires-clause-manned g c = subst (λ (i : Intake). IsManned i.table (g.S.Spawner.seen c.args.spawner.now) c.args.self.now.crew) (sym c.at.ensures.moment) c.requires.able.manned

pub returns : goal.returns
returns g c =
    let old : Core = record c.args.self.now { intake = c.at.new.self; stopping = true } in
    let now : Core = record old { intake = record old.intake { table = c.stop.new.table }; crew = c.stop.new.self } in
    let a = bench (g.D.Spool.seen c.args.spool.now) (g.S.Spawner.seen c.args.spawner.now) (g.N.Dialer.seen c.args.dialer.now) in
    let b = bench (g.D.Spool.seen c.stop.new.spool) (g.S.Spawner.seen c.stop.new.spawner) (g.N.Dialer.seen c.stop.new.dialer) in
    let j = drawing (g.W.Draws.seen c.args.draws.now) (g.W.Draws.answers c.args.draws.now) in
    let tallies : Tallies old.intake.table (g.D.Spool.seen c.args.spool.now) = subst (λ (i : Intake). Tallies i.table (g.D.Spool.seen c.args.spool.now)) (sym c.at.ensures.moment) c.requires.able.tallied in
    let r = c.requires.standing in
    let rm : State = record (at_moment r.state c.args.reading) { stopping = true } in
    let rs : Stands r.site old rm = stop_stands r.site (at_moment r.state c.args.reading) (record c.args.self.now { intake = c.at.new.self }) (at_stands r.site r.state c.args.self.now c.at.new.self c.args.reading r.stands c.at.ensures.moment c.at.ensures.range) in
    let h = c.stop.ensures.stops r.site rm r.under rs.crew rs.intake.stores.holds (sym rs.latest) rs.on in
    record {
      turns = λ site m origin before floor clock read under st comes is taken.
          let mm : State = record (at_moment m (reading_of origin)) { stopping = true } in
          let ms : Stands site old mm = subst (λ n. Stands site (record c.args.self.now { intake = c.at.new.self; stopping = true }) (record (at_moment m n) { stopping = true })) (sym is) (stop_stands site (at_moment m c.args.reading) (record c.args.self.now { intake = c.at.new.self }) (at_stands site m c.args.self.now c.at.new.self c.args.reading st c.at.ensures.moment c.at.ensures.range)) in
          subst (Turns j site m Stops origin (seen before a.spool (beside clock (hands a.spawner a.dialer))) (seen floor b.spool (beside read (hands b.spawner b.dialer))) now) (sym c.turn_of.ensures)
          (stop_turns j site m origin old now a b c.stop.result before floor clock read ms st.on comes taken tallies refl refl
          (c.stop.ensures.stops site mm under ms.crew ms.intake.stores.holds (sym ms.latest) ms.on));
      drawn = subst (λ q. IsDrawn (drawer (g.W.Draws.seen c.args.draws.now) (g.W.Draws.answers c.args.draws.now)) (drawer (g.W.Draws.seen c.stop.new.draws) (g.W.Draws.answers c.stop.new.draws)) (is_judge_fault q)) (sym c.turn_of.ensures)
          (drawn_as _ _ c.stop.result c.stop.ensures.drawn);
      fixed = c.stop.ensures.fixed;
      calm = λ well. caused_calm a b h.choice c.stop.result h.causes (subst (λ q. is_well q ≡ true) c.turn_of.ensures well);
      able = λ on. go_on r.site rm (stopped r.site rm h.choice) old now a b c.stop.result h.happened (subst (λ q. is_ok q ≡ true) c.turn_of.ensures on);
    }
