use Rattle.std.proofs.Common.{◌+◌, ℕ, Bool, reverse, subst, sym}
use Rattle.std.proofs.lemmas.Result.{err_from_is_err_and}
use Rattle.addr_tokens.specs.inner.Spanning.{SpansAt}
use Rattle.addr_tokens.proofs.SpanLemmas.{angle_fails, at_next, span_is}
use Rattle.addr_tokens.proofs.piece.add_first.Goals as goal

pub returns-in_err-note-clause-goes : goal.returns-in_err-note-clause-goes
returns-in_err-note-clause-goes c = λ alphabet angles text table is more so.
    let p = err_from_is_err_and c.from_residual-in_err-note.result c.from_residual-in_err-note.ensures.1 in
    rw (p.1, p.2) (λ other. angle_fails alphabet angles text _ c.args.place _ _ so c.args.rest.now is more c.in_ok-front.front c.in_ok-front.ensures.within (c.in_ok-front.ensures.read alphabet table) _ (c.in_err-note.ensures.fault other _))

pub returns-clause-goes : goal.returns-clause-goes
returns-clause-goes c = λ alphabet angles text table is more so.
    let next = at_next alphabet angles text _ c.args.place _ _ so c.args.rest.now is more c.in_ok-front.front c.in_ok-front.ensures.within (c.in_ok-front.ensures.read alphabet table) (reverse c.note.new.self.places.items) _ (c.in_ok-note.ensures.places _)
    (span_is c.args.place c.in_ok-front.front c.args.rest.now c.kind_of-kind.result c.size-length.result (c.kind_of-kind.ensures c.args.rest.now) c.size-length.ensures c.in_ok-front.ensures.within) in
    let P : Bool → ℕ → Type 0 = λ k n. SpansAt alphabet angles text k (c.args.place + n) (reverse c.note.new.self.places.items) c.push.new.self in
    subst (λ k. P k c.size-length.result) (sym c.in_ok-note.ensures.checked) (subst (P c.args.unclosed.now.checked) (sym c.size-length.ensures) (rw (c.in_ok-push.ensures.ok) next))
