-- A turn of the crew is the core's.
use Rattle.std.proofs.Common.{refl, subst, sym, true, ◌≡◌}
use Rattle.std.specs.Prelude.{is_ok}
use Rattle.queue_table.specs.Calls.{Tallies}
use Rattle.link_edge.specs.declared.event.Event.TheVariants.{Rests}
use Rattle.queue_run.specs.Backs.{drawer}
use Rattle.queue_run.specs.Working.{bench}
use Rattle.mail_core.specs.Causes.{IsDrawn, is_judge_fault, is_well}
use Rattle.mail_core.specs.Events.{Turns}
use Rattle.mail_core.specs.Idling.{ends_list, idle}
use Rattle.mail_core.specs.Seen.{beside, hands, seen}
use Rattle.mail_core.specs.Standing.{Stands}
use Rattle.mail_core.specs.States.{State}
use Rattle.mail_core.specs.declared.serving.Core.{Core}
use Rattle.mail_core.specs.inner.Turns.{luck_in}
use Rattle.mail_core.specs.Crews.{IsManned}
use Rattle.mail_core.specs.Judges.{drawing}
use Rattle.mail_core.specs.Machine.{at_moment}
use Rattle.mail_core.specs.Plans.{reading_of}
use Rattle.mail_core.specs.declared.intake.Intake.{Intake}
use Rattle.mail_core.proofs.CoreLemmas.{at_stands, whole_of}
use Rattle.mail_core.proofs.HappenLemmas.{rest_turns, caused_calm, drawn_as, go_on}
use Rattle.mail_core.proofs.serving.Core.rest.Goals as goal

pub rest-requires-clause-agrees : goal.rest-requires-clause-agrees
rest-requires-clause-agrees g c = subst (λ (i : Intake). Tallies i.table (g.D.Spool.seen c.args.spool.now)) (sym c.at.ensures.moment) c.requires.able.tallied

pub rest-requires-clause-whole : goal.rest-requires-clause-whole
rest-requires-clause-whole g c = let r = c.requires.standing in whole_of r.site (at_moment r.state c.args.reading) (record c.args.self.now { intake = c.at.new.self }) c.args.config.now c.args.maps.now r.under (at_stands r.site r.state c.args.self.now c.at.new.self c.args.reading r.stands c.at.ensures.moment c.at.ensures.range)

pub rest-requires-clause-manned : goal.rest-requires-clause-manned
rest-requires-clause-manned g c = subst (λ (i : Intake). IsManned i.table (g.S.Spawner.seen c.args.spawner.now) c.args.self.now.crew) (sym c.at.ensures.moment) c.requires.able.manned

pub returns : goal.returns
returns g c =
    let old : Core = record c.args.self.now { intake = c.at.new.self } in
    let now : Core = record old { intake = record old.intake { table = c.rest.new.table }; crew = c.rest.new.self } in
    let a = bench (g.D.Spool.seen c.args.spool.now) (g.S.Spawner.seen c.args.spawner.now) (g.N.Dialer.seen c.args.dialer.now) in
    let b = bench (g.D.Spool.seen c.rest.new.spool) (g.S.Spawner.seen c.rest.new.spawner) (g.N.Dialer.seen c.rest.new.dialer) in
    let j = drawing (g.W.Draws.seen c.args.draws.now) (g.W.Draws.answers c.args.draws.now) in
    let tallies : Tallies old.intake.table (g.D.Spool.seen c.args.spool.now) = subst (λ (i : Intake). Tallies i.table (g.D.Spool.seen c.args.spool.now)) (sym c.at.ensures.moment) c.requires.able.tallied in
    let r = c.requires.standing in
    let rm : State = at_moment r.state c.args.reading in
    let rs : Stands r.site old rm = at_stands r.site r.state c.args.self.now c.at.new.self c.args.reading r.stands c.at.ensures.moment c.at.ensures.range in
    let h = c.rest.ensures.rests r.site rm r.under rs.crew rs.intake.stores.holds (sym rs.latest) rs.on in
    record {
      turns = λ site m origin before floor clock read under st comes is taken.
          let mm : State = at_moment m (reading_of origin) in
          let ms : Stands site old mm = subst (λ n. Stands site (record c.args.self.now { intake = c.at.new.self }) (at_moment m n)) (sym is) (at_stands site m c.args.self.now c.at.new.self c.args.reading st c.at.ensures.moment c.at.ensures.range) in
          subst (Turns j site m Rests origin (seen before a.spool (beside clock (hands a.spawner a.dialer))) (seen floor b.spool (beside read (hands b.spawner b.dialer))) now) (sym c.turn_of.ensures)
          (rest_turns j site m origin old now a b c.rest.result before floor clock read ms st.on comes taken tallies refl refl
          (c.rest.ensures.rests site mm under ms.crew ms.intake.stores.holds (sym ms.latest) ms.on));
      drawn = subst (λ q. IsDrawn (drawer (g.W.Draws.seen c.args.draws.now) (g.W.Draws.answers c.args.draws.now)) (drawer (g.W.Draws.seen c.rest.new.draws) (g.W.Draws.answers c.rest.new.draws)) (is_judge_fault q)) (sym c.turn_of.ensures)
          (drawn_as _ _ c.rest.result c.rest.ensures.drawn);
      fixed = c.rest.ensures.fixed;
      calm = λ well. caused_calm a b (luck_in h.choice) c.rest.result h.causes (subst (λ q. is_well q ≡ true) c.turn_of.ensures well);
      able = λ on. go_on r.site rm (ends_list r.site (idle r.site rm h.choice)) old now a b c.rest.result h.happened (subst (λ q. is_ok q ≡ true) c.turn_of.ensures on);
    }
