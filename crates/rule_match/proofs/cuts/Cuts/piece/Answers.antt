use Rattle.std.proofs.Common.{arith, ◌∙◌}
use Rattle.rule_match.proofs.Keeping.{kept_within, piece_is}
use Rattle.rule_match.proofs.cuts.Cuts.piece.Goals as goal

pub piece_behind-requires : goal.piece_behind-requires
piece_behind-requires c =
    let w = c.requires in
    rw (c.cuts.ensures, c.items.ensures, w.5) (kept_within w.0 w.1 w.2 c.args.tokens.now 0 w.3 (omega arith) w.4)

pub returns : goal.returns
returns c = λ classes late items lengths fits is. c.piece_behind.ensures ∙ (rw (c.cuts.ensures, c.items.ensures, is) (piece_is items c.args.tokens.now lengths c.args.number (omega arith)))
