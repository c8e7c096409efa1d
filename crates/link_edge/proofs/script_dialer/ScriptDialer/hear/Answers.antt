-- The piece at the place is the next one.
use Rattle.std.proofs.Common.{◌≡◌, ◌∙◌, Some, None, sym, ap, arith, slice_get, length}
use Rattle.std.specs.Prelude.{option_copied}
use Rattle.std.proofs.lemmas.Option.{slice_get_within}
use Rattle.link_edge.specs.inner.Parts.{piece_at}
use Rattle.link_edge.proofs.Reading.{next_none, later_none, next_here, later_same, later_next}
use Rattle.link_edge.proofs.script_dialer.ScriptDialer.hear.Goals as goal

pub returns-in_default-clause-heard : goal.returns-in_default-clause-heard
returns-in_default-clause-heard c =
    let past : slice_get c.args.self.now.pieces c.args.self.now.at ≡ None = sym c.get.ensures ∙ ap option_copied c.in_default.is in
    next_none (length c.args.buf.now) c.args.self.now.said c.args.self.now.at c.args.self.now.pieces past

pub returns-in_default-clause-later : goal.returns-in_default-clause-later
returns-in_default-clause-later c =
    let past : slice_get c.args.self.now.pieces c.args.self.now.at ≡ None = sym c.get.ensures ∙ ap option_copied c.in_default.is in
    later_none (length c.args.buf.now) c.args.self.now.said c.args.self.now.at c.args.self.now.pieces past

pub overflow_add-self : goal.overflow_add-self
overflow_add-self c =
    let here : slice_get c.args.self.now.pieces c.args.self.now.at ≡ Some c.in-Some.piece.now = sym c.get.ensures ∙ ap option_copied c.in-Some.is in
    let within = slice_get_within c.args.self.now.pieces c.args.self.now.at c.in-Some.piece.now here in
    omega arith

pub returns-in-Some-said-clause-heard : goal.returns-in-Some-said-clause-heard
returns-in-Some-said-clause-heard c =
    let here : slice_get c.args.self.now.pieces c.args.self.now.at ≡ Some c.in-Some.piece.now = sym c.get.ensures ∙ ap option_copied c.in-Some.is in
    next_here (length c.args.buf.now) c.args.self.now.said c.args.self.now.at _ c.args.self.now.pieces c.in-Some.piece.now _ here c.in_ok-count.ensures.heard

pub returns-in-Some-said-clause-later : goal.returns-in-Some-said-clause-later
returns-in-Some-said-clause-later c =
    let here : slice_get c.args.self.now.pieces c.args.self.now.at ≡ Some c.in-Some.piece.now = sym c.get.ensures ∙ ap option_copied c.in-Some.is in
    later_same (length c.args.buf.now) c.args.self.now.said c.args.self.now.at _ c.args.self.now.pieces c.in-Some.piece.now here (sym (ap (piece_at c.in-Some.piece.now) c.in-Some-said.is) ∙ c.in_ok-count.ensures.left)

pub returns-in-None-clause-heard : goal.returns-in-None-clause-heard
returns-in-None-clause-heard c =
    let here : slice_get c.args.self.now.pieces c.args.self.now.at ≡ Some c.in-Some.piece.now = sym c.get.ensures ∙ ap option_copied c.in-Some.is in
    next_here (length c.args.buf.now) c.args.self.now.said c.args.self.now.at _ c.args.self.now.pieces c.in-Some.piece.now _ here c.in_ok-count.ensures.heard

pub returns-in-None-clause-later : goal.returns-in-None-clause-later
returns-in-None-clause-later c =
    let here : slice_get c.args.self.now.pieces c.args.self.now.at ≡ Some c.in-Some.piece.now = sym c.get.ensures ∙ ap option_copied c.in-Some.is in
    later_next (length c.args.buf.now) c.args.self.now.said c.args.self.now.at c.args.self.now.pieces c.in-Some.piece.now here (sym (ap (piece_at c.in-Some.piece.now) c.in-None.is) ∙ c.in_ok-count.ensures.left)
