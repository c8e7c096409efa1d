use Rattle.std.proofs.Common.{refl, sym, ◌∙◌, ap, None, Ok, Err, subst}
use Rattle.std.proofs.lemmas.Result.{err_from_is_err_and}
use Rattle.mail_core.specs.declared.serving.Core.{Core}
use Rattle.mail_core.specs.Crews.{IsCrew, IsManned}
use Rattle.mail_core.specs.Standing.{table_of}
use Rattle.mail_core.proofs.WakeLemmas.{ready_fed}
use Rattle.mail_core.proofs.GoingLemmas.{quiet_side}
use Rattle.mail_core.specs.Judges.{judging}
use Rattle.mail_core.specs.inner.Going.{Feeds}
use Rattle.mail_core.specs.Seen.{seen}
use Rattle.mail_core.proofs.CallerLemmas.{none_found}
use Rattle.mail_core.proofs.CoreLemmas.{found_there, is_there, kept_there, over_none, piece_dropped, piece_ends, piece_goes, piece_leaves, ready_there}
use Rattle.mail_core.proofs.serving.Core.piece.Goals as goal

pub returns-in_default-clause-steps : goal.returns-in_default-clause-steps
returns-in_default-clause-steps g c = λ site m clock under st.
    piece_dropped _ site m c.args.session c.args.piece.now c.args.self.now _ _ clock (none_found c.args.session m.guests (is_there site m c.args.self.now st c.args.session None c.in_default.ensures)) st

pub feed-requires-clause-ready : goal.feed-requires-clause-ready
feed-requires-clause-ready g c = ready_there c.args.self.now c.args.config.now c.args.maps.now c.requires.standing c.args.session c.in-Some.place _ c.in-Some.ensures c.index_mut-caller.ensures.value

-- the run ended
pub returns-in_err-next-clause-steps : goal.returns-in_err-next-clause-steps
returns-in_err-next-clause-steps g c = λ site m clock under st.
    let t = found_there site m c.args.self.now st c.args.session c.in-Some.place c.in-Some.ensures in
    let k = kept_there site m c.args.self.now st c.args.session c.in-Some.place c.in-Some.ensures c.index_mut-caller.result.now c.index_mut-caller.ensures.value in
    let h = subst (λ n. Feeds (judging (g.J.Judge.seen c.args.judge.now) (g.J.Judge.answers c.args.judge.now)) site n m.table t.guest c.args.piece.now (seen (g.F.Floor.seen c.args.floor.now) (g.D.Spool.seen c.args.spool.now) clock) (seen (g.F.Floor.seen c.feed.new.floor) (g.D.Spool.seen c.feed.new.spool) clock) c.feed.new.self c.feed.new.caller (Err c.in_err-next.field-0.0)) st.latest
    (c.in_err-next.ensures.feeds site m.table t.guest clock under st.intake k) in
    let p = err_from_is_err_and c.from_residual.result c.from_residual.ensures.1 in
    rw (p.1, p.2) (piece_ends _ site m c.args.session c.args.piece.now _ _ _ t.guest c.feed.new.self c.feed.new.caller (Err c.in_err-next.field-0.0) t.is t.number h (over_none c.in_err-next.field-0.0))

-- the session is over
pub returns-then-not-stays_open-clause-steps : goal.returns-then-not-stays_open-clause-steps
returns-then-not-stays_open-clause-steps g c = λ site m clock under st.
    let t = found_there site m c.args.self.now st c.args.session c.in-Some.place c.in-Some.ensures in
    let k = kept_there site m c.args.self.now st c.args.session c.in-Some.place c.in-Some.ensures c.index_mut-caller.result.now c.index_mut-caller.ensures.value in
    let h = subst (λ n. Feeds (judging (g.J.Judge.seen c.args.judge.now) (g.J.Judge.answers c.args.judge.now)) site n m.table t.guest c.args.piece.now (seen (g.F.Floor.seen c.args.floor.now) (g.D.Spool.seen c.args.spool.now) clock) (seen (g.F.Floor.seen c.feed.new.floor) (g.D.Spool.seen c.feed.new.spool) clock) c.feed.new.self c.feed.new.caller (Ok c.in_ok-next.next)) st.latest
    (c.in_ok-next.ensures.feeds site m.table t.guest clock under st.intake k) in
    piece_leaves _ site m c.args.session c.args.piece.now _ _ c.leave.new.self t.guest c.feed.new.self c.feed.new.caller (Ok c.in_ok-next.next) t.is t.number h c.args.self.now c.in-Some.place (sym c.stays_open.ensures ∙ c.if-not-stays_open.true) st t
    (record {
      intake_is = ap (λ (q : Core). q.intake) c.leave.ensures.same;
      host_is = ap (λ (q : Core). q.host) c.leave.ensures.same;
      full_is = ap (λ (q : Core). q.full) c.leave.ensures.same;
      callers_are = c.leave.ensures.callers;
      crew_is = λ now seats list is. subst (λ (q : Core). IsCrew site q.crew now) (sym c.leave.ensures.same) (c.wake.ensures.crew site m now seats list is);
      stopping_is = ap (λ (q : Core). q.stopping) c.leave.ensures.same;
    })
    (c.feed.ensures.moment ∙ st.latest)

-- it goes on
pub returns-clause-steps : goal.returns-clause-steps
returns-clause-steps g c = λ site m clock under st.
    let t = found_there site m c.args.self.now st c.args.session c.in-Some.place c.in-Some.ensures in
    let k = kept_there site m c.args.self.now st c.args.session c.in-Some.place c.in-Some.ensures c.index_mut-caller.result.now c.index_mut-caller.ensures.value in
    let h = subst (λ n. Feeds (judging (g.J.Judge.seen c.args.judge.now) (g.J.Judge.answers c.args.judge.now)) site n m.table t.guest c.args.piece.now (seen (g.F.Floor.seen c.args.floor.now) (g.D.Spool.seen c.args.spool.now) clock) (seen (g.F.Floor.seen c.feed.new.floor) (g.D.Spool.seen c.feed.new.spool) clock) c.feed.new.self c.feed.new.caller (Ok c.in_ok-next.next)) st.latest
    (c.in_ok-next.ensures.feeds site m.table t.guest clock under st.intake k) in
    piece_goes _ site m c.args.session c.args.piece.now _ _ _ t.guest c.feed.new.self c.feed.new.caller (Ok c.in_ok-next.next) t.is t.number h c.args.self.now c.in-Some.place (sym c.stays_open.ensures ∙ c.if-not-stays_open.false) st t
    (record { intake_is = refl; host_is = refl; full_is = refl; callers_are = refl; crew_is = λ now seats list is. c.wake.ensures.crew site m now seats list is; stopping_is = refl })
    (c.feed.ensures.moment ∙ st.latest)

-- those who hold entries may go on
pub returns-in_default-clause-manned : goal.returns-in_default-clause-manned
returns-in_default-clause-manned g c = λ spawner on manned. manned

pub returns-then-not-stays_open-clause-manned : goal.returns-then-not-stays_open-clause-manned
returns-then-not-stays_open-clause-manned g c = λ spawner on manned.
    let st = c.requires.standing in
    let t = found_there st.site st.state c.args.self.now st.stands c.args.session c.in-Some.place c.in-Some.ensures in
    let k = kept_there st.site st.state c.args.self.now st.stands c.args.session c.in-Some.place c.in-Some.ensures c.index_mut-caller.result.now c.index_mut-caller.ensures.value in
    subst (λ (q : Core). IsManned (table_of q) spawner q.crew) (sym c.leave.ensures.same)
    (c.wake.ensures.manned c.args.self.now.intake.table c.feed.new.self.table spawner
    (ready_fed _ st.site _ st.state.table t.guest c.args.piece.now _ _ c.args.self.now.intake c.feed.new.self c.feed.new.caller (Ok c.in_ok-next.next) st.stands.intake (c.in_ok-next.ensures.feeds st.site st.state.table t.guest quiet_side st.under st.stands.intake k) refl) manned)

pub returns-clause-manned : goal.returns-clause-manned
returns-clause-manned g c = λ spawner on manned.
    let st = c.requires.standing in
    let t = found_there st.site st.state c.args.self.now st.stands c.args.session c.in-Some.place c.in-Some.ensures in
    let k = kept_there st.site st.state c.args.self.now st.stands c.args.session c.in-Some.place c.in-Some.ensures c.index_mut-caller.result.now c.index_mut-caller.ensures.value in
    c.wake.ensures.manned c.args.self.now.intake.table c.feed.new.self.table spawner
    (ready_fed _ st.site _ st.state.table t.guest c.args.piece.now _ _ c.args.self.now.intake c.feed.new.self c.feed.new.caller (Ok c.in_ok-next.next) st.stands.intake (c.in_ok-next.ensures.feeds st.site st.state.table t.guest quiet_side st.under st.stands.intake k) refl) manned
