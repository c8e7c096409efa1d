use Rattle.std.proofs.Common.{Ok, ◌≡◌, ◌++◌, true, false, take}
use Rattle.mail_core.specs.Seen.{Beside}
use Rattle.link_edge.specs.Heard.{IsSoundAt}
use Rattle.smtp_lines.specs.Reader.{OnlyLastAsks, StandsFirst}
use Rattle.queue_table.specs.Calls.{Tallies}
use Rattle.mail_core.specs.Sites.{IsUnder, Site}
use Rattle.mail_core.specs.Judges.{IsAsked, judging}
use Rattle.mail_core.specs.inner.Going.{AnswersLines, stays_open}
use Rattle.mail_core.specs.Guests.{lines_of, lines_heard}
use Rattle.mail_core.specs.Machine.{Did, GoesOn}
use Rattle.mail_core.specs.Seen.{seen}
use Rattle.mail_core.specs.Standing.{Serves, Talks}
use Rattle.mail_core.specs.inner.Handling.{IsReady}
use Rattle.mail_core.proofs.intake.Intake.answer_all.Given as goal

-- the lines so far were answered, and the session goes on
abbrev pub invariant-loop-line : goal.invariant-loop-line
invariant-loop-line g l = record {
  answers : (site : Site) (d : Did) (clock : Beside) → IsUnder site l.config l.maps → d.way ≡ GoesOn → Serves site l.fn.self d.table → Talks site l.fn.caller d.guest → OnlyLastAsks l.lines → StandsFirst (lines_heard d.guest ++ l.lines) (lines_of d.guest)
      → AnswersLines (judging (g.J.Judge.seen l.fn.judge) (g.J.Judge.answers l.fn.judge)) site l.fn.self.moment d (take l.line-index l.lines)
      (seen (g.F.Floor.seen l.fn.floor) (g.D.Spool.seen l.fn.spool) clock) (seen (g.F.Floor.seen l.floor) (g.D.Spool.seen l.spool) clock) l.self l.caller (Ok l.last);
  onward : stays_open l.last ≡ true;
  ready : IsReady l.self l.caller l.config l.maps;
  moment : l.self.moment ≡ l.fn.self.moment;
  number : l.caller.number ≡ l.fn.caller.number;
  reader : l.caller.lines ≡ l.fn.caller.lines;
  asked : IsAsked (judging (g.J.Judge.seen l.fn.judge) (g.J.Judge.answers l.fn.judge)) (judging (g.J.Judge.seen l.judge) (g.J.Judge.answers l.judge)) false;
  fixed : g.J.Judge.fixed l.judge ≡ g.J.Judge.fixed l.fn.judge;
  own : (g.F.Floor.seen l.floor).faults ≡ (g.F.Floor.seen l.fn.floor).faults;
  begun : (g.F.Floor.seen l.floor).begun ≡ (g.F.Floor.seen l.fn.floor).begun;
  calm : (g.D.Spool.seen l.spool).faults ≡ (g.D.Spool.seen l.fn.spool).faults;
  tallied : Tallies l.self.table (g.D.Spool.seen l.spool);
  sound : IsSoundAt (g.F.Floor.seen l.floor) l.fn.caller.number;
}
