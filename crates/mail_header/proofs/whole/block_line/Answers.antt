use Rattle.std.proofs.Common.{sym, ◌∙◌, arith}
use Rattle.mail_header.proofs.WholeLemmas.{none_lf, none_cr, line_begins, line_other, positive}
use Rattle.mail_header.proofs.whole.block_line.Goals as goal
use Rattle.mail_header.proofs.whole.block_line.Goals.{then-feed-eq0-via-then-feed-eq0, then-feed-eq0-via-else-feed-eq0+then-text-feed-ne13}

pub returns-in_default-clause-none : goal.returns-in_default-clause-none
returns-in_default-clause-none c = none_lf c.args.begun c.args.text.now c.in_default.ensures

pub returns-then-feed-eq0-clause-none : goal.returns-then-feed-eq0-clause-none
returns-then-feed-eq0-clause-none c =
    none_cr c.args.begun c.args.text.now c.in-Some.feed c.in-Some.ensures (λ some cr.
    elim c.then-feed-eq0.branch [
      | then-feed-eq0-via-then-feed-eq0 w ↦ absurd (omega (arith, w.if-feed-eq0.true, some))
      | then-feed-eq0-via-else-feed-eq0+then-text-feed-ne13 w ↦ w.if-text-feed-ne13.true cr
    ])

pub returns-then-belongs-clause-some : goal.returns-then-belongs-clause-some
returns-then-belongs-clause-some c =
    line_begins c.args.begun c.args.text.now c.in-Some.feed c.in-Some.ensures (positive c.in-Some.feed c.if-feed-eq0.false) c.if-text-feed-ne13.false (sym c.belongs.ensures ∙ c.if-belongs.true)

pub returns-clause-none : goal.returns-clause-none
returns-clause-none c =
    line_other c.args.begun c.args.text.now c.in-Some.feed c.in-Some.ensures (positive c.in-Some.feed c.if-feed-eq0.false) c.if-text-feed-ne13.false (sym c.belongs.ensures ∙ c.if-belongs.false)
