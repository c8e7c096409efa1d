use Rattle.std.proofs.Common.{◌≡◌, ◌+◌, true, false, cond, [], length}
use Rattle.mail_core.specs.Seen.{Beside}
use Rattle.link_edge.specs.Heard.{IsSoundAt}
use Rattle.smtp_lines.specs.Reader.{asked_after}
use Rattle.spool_store.specs.Entries.{Table}
use Rattle.queue_table.specs.Calls.{Tallies}
use Rattle.mail_core.specs.Sites.{IsUnder, Site}
use Rattle.mail_core.specs.Guests.{Guest}
use Rattle.mail_core.specs.Judges.{IsAsked, judging}
use Rattle.mail_core.specs.Seen.{seen}
use Rattle.mail_core.specs.Standing.{Keeps, Serves}
use Rattle.mail_core.specs.inner.Handling.{IsReady}
use Rattle.mail_core.proofs.FeedLemmas.{Pends}
use Rattle.mail_core.proofs.intake.Intake.feed.Given as goal

-- the piece has come to these lines, which are to be answered
abbrev pub invariant-answers : goal.invariant-answers
invariant-answers g l = record {
  pends : (site : Site) (table : Table) (guest : Guest) (clock : Beside) → IsUnder site l.config l.maps → Serves site l.fn.self table → Keeps site l.fn.caller guest
      → Pends (judging (g.J.Judge.seen l.fn.judge) (g.J.Judge.answers l.fn.judge)) site l.fn.self.moment table guest l.fn.piece
      (seen (g.F.Floor.seen l.fn.floor) (g.D.Spool.seen l.fn.spool) clock) (seen (g.F.Floor.seen l.floor) (g.D.Spool.seen l.spool) clock) l.self l.caller l.lines;
  turns : asked_after false l.lines ≡ true → l.caller.lines.under.may_turn ≡ true;
  all : asked_after false l.lines ≡ false → l.caller.lines.left ≡ [];
  ready : IsReady l.self l.caller l.config l.maps;
  moment : l.self.moment ≡ l.fn.self.moment;
  asked : IsAsked (judging (g.J.Judge.seen l.fn.judge) (g.J.Judge.answers l.fn.judge)) (judging (g.J.Judge.seen l.judge) (g.J.Judge.answers l.judge)) false;
  fixed : g.J.Judge.fixed l.judge ≡ g.J.Judge.fixed l.fn.judge;
  own : (g.F.Floor.seen l.floor).faults ≡ (g.F.Floor.seen l.fn.floor).faults;
  begun : (g.F.Floor.seen l.floor).begun ≡ (g.F.Floor.seen l.fn.floor).begun;
  calm : (g.D.Spool.seen l.spool).faults ≡ (g.D.Spool.seen l.fn.spool).faults;
  tallied : Tallies l.self.table (g.D.Spool.seen l.spool);
  sound : IsSoundAt (g.F.Floor.seen l.floor) l.caller.number;
}

abbrev pub decreases-answers : goal.decreases-answers
decreases-answers g l = length l.caller.lines.left + cond (asked_after false l.lines) 1 0
