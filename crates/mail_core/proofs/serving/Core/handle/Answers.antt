use Rattle.std.proofs.Common.{refl, subst, sym}
use Rattle.mail_core.specs.Crews.{IsManned}
use Rattle.mail_core.specs.Standing.{table_of}
use Rattle.mail_core.specs.declared.crew.Crew.{Crew}
use Rattle.mail_core.specs.declared.intake.Intake.{Intake}
use Rattle.link_edge.specs.declared.event.Event.TheVariants.{Closes}
use Rattle.mail_core.specs.Judges.{judging}
use Rattle.mail_core.proofs.CoreLemmas.{behaves_floor, opened_steps, quiet_steps}
use Rattle.mail_core.proofs.serving.Core.handle.Goals as goal

pub returns-in-Opened-clause-steps : goal.returns-in-Opened-clause-steps
returns-in-Opened-clause-steps g c = λ site m clock under st.
    rw c.in-Opened.is (opened_steps _ site m c.in-Opened.session _ _ _ _ clock _ (c.open.ensures.opens site m st) c.open.ensures.own)

pub returns-in-Piece-clause-steps : goal.returns-in-Piece-clause-steps
returns-in-Piece-clause-steps g c = λ site m clock under st. rw c.in-Piece.is (c.piece.ensures.steps site m clock under st)

pub returns-in-Closed-clause-steps : goal.returns-in-Closed-clause-steps
returns-in-Closed-clause-steps g c = λ site m clock under st.
    rw c.in-Closed.is (quiet_steps _ site m (Closes c.in-Closed.session) tt _ _ clock _ tt refl (c.close.ensures.closes site m st))

-- judge and spool are as they were, but at a piece
pub returns-in-Opened-clause-behaves : goal.returns-in-Opened-clause-behaves
returns-in-Opened-clause-behaves g c = behaves_floor (judging (g.J.Judge.seen c.args.judge.now) (g.J.Judge.answers c.args.judge.now)) _ _ _ c.args.self.now.intake _ _ c.open.ensures.own c.open.ensures.begun c.open.ensures.intake c.requires.tallied

pub returns-in-Closed-clause-behaves : goal.returns-in-Closed-clause-behaves
returns-in-Closed-clause-behaves g c = behaves_floor (judging (g.J.Judge.seen c.args.judge.now) (g.J.Judge.answers c.args.judge.now)) _ _ _ c.args.self.now.intake _ _ refl refl c.close.ensures.intake c.requires.tallied

-- those who hold entries are as they were, but at a piece
pub returns-in-Opened-clause-manned : goal.returns-in-Opened-clause-manned
returns-in-Opened-clause-manned g c = λ spawner on manned. subst (λ (k : Crew). IsManned (table_of c.open.new.self) spawner k) (sym c.open.ensures.crew) (subst (λ (i : Intake). IsManned i.table spawner c.args.self.now.crew) (sym c.open.ensures.intake) manned)

pub returns-in-Closed-clause-manned : goal.returns-in-Closed-clause-manned
returns-in-Closed-clause-manned g c = λ spawner on manned. subst (λ (k : Crew). IsManned (table_of c.close.new.self) spawner k) (sym c.close.ensures.crew) (subst (λ (i : Intake). IsManned i.table spawner c.args.self.now.crew) (sym c.close.ensures.intake) manned)
