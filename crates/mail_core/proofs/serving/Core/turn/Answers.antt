use Rattle.std.proofs.Common.{subst, sym}
use Rattle.queue_table.specs.Calls.{Tallies}
use Rattle.mail_core.specs.Crews.{IsManned}
use Rattle.mail_core.specs.declared.intake.Intake.{Intake}
use Rattle.mail_core.specs.Machine.{at_moment}
use Rattle.mail_core.proofs.CoreLemmas.{at_stands}
use Rattle.mail_core.proofs.EventLemmas.{turns_of, went_well}
use Rattle.mail_core.proofs.serving.Core.turn.Goals as goal

pub handle-requires-clause-standing : goal.handle-requires-clause-standing
handle-requires-clause-standing g c =
    let r = c.requires.standing in
    record { site = r.site; under = r.under; state = at_moment r.state c.args.reading; stands = at_stands r.site r.state c.args.self.now c.at.new.self c.args.reading r.stands c.at.ensures.moment c.at.ensures.range }

pub handle-requires-clause-tallied : goal.handle-requires-clause-tallied
handle-requires-clause-tallied g c = subst (λ (i : Intake). Tallies i.table (g.D.Spool.seen c.args.spool.now)) (sym c.at.ensures.moment) c.requires.tallied

pub returns : goal.returns
returns g c = record {
  turns = λ site m before clock read hands under st comes taken.
      turns_of _ site m _ c.args.reading before _ _ clock read hands _ _ _ st.on c.requires.session comes taken
      (c.handle.ensures.steps site (at_moment m c.args.reading) (record { clock = read; hands = hands }) under (at_stands site m c.args.self.now c.at.new.self c.args.reading st c.at.ensures.moment c.at.ensures.range));
  asked = c.handle.ensures.behaves.asked;
  fixed = c.handle.ensures.fixed;
  own = c.handle.ensures.behaves.own;
  begun = c.handle.ensures.behaves.begun;
  calm = c.handle.ensures.behaves.calm;
  able = λ spawner on able. record {
    tallied = c.handle.ensures.behaves.tallied (went_well c.handle.result on);
    manned = c.handle.ensures.manned spawner on (subst (λ (i : Intake). IsManned i.table spawner c.args.self.now.crew) (sym c.at.ensures.moment) able.manned);
  };
}
