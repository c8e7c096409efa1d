use Rattle.std.proofs.Common.{sym, subst}
use Rattle.smtp_lines.specs.Reader.{Reader, Stands, given, received}
use Rattle.smtp_lines.proofs.StandLemmas.{stands_received}
use Rattle.smtp_lines.proofs.lines.Lines.feed.Goals as goal

pub returns-in-Ok-clause-stands : goal.returns-in-Ok-clause-stands
returns-in-Ok-clause-stands c =
    λ s st.
    let put = c.in_ok-put.ensures.ok in
    let piece = c.args.piece.now in
    subst (λ (r : Reader). Stands c.more.new.self (given r.under.may_turn (received s piece) c.in-Ok.lines)) put
    (c.in-Ok.ensures.stands (received s piece) (subst (λ r. Stands r (received s piece)) (sym put) (stands_received c.args.self.now s piece st)))
