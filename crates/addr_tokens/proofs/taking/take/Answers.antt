use Rattle.std.proofs.Common.{◌+◌, ℕ, Bool, map, reverse, subst, sym}
use Rattle.std.proofs.lemmas.Result.{err_from_is_err_and}
use Rattle.addr_tokens.specs.inner.Scanning.{At}
use Rattle.addr_tokens.proofs.ScanLemmas.{angle_fails, at_next, suits}
use Rattle.addr_tokens.proofs.taking.take.Goals as goal

pub returns-in_err-note-clause-goes : goal.returns-in_err-note-clause-goes
returns-in_err-note-clause-goes g c = λ alphabet angles text serves is more first so.
    let p = err_from_is_err_and c.from_residual.result c.from_residual.ensures.1 in
    rw (p.1, p.2) (angle_fails alphabet angles text _ c.args.place _ _ _ so c.args.rest.now is more c.args.front c.requires.within first _ (λ other. c.in_err-note.ensures.fault other _))

pub returns-clause-goes : goal.returns-clause-goes
returns-clause-goes g c = λ alphabet angles text serves is more first so.
    let fits = suits alphabet angles text _ c.args.place _ _ _ so c.args.rest.now is more c.args.front c.requires.within first in
    let next = at_next alphabet angles text _ c.args.place _ _ _ so c.args.rest.now is more c.args.front c.requires.within first (reverse c.note.new.self.places.items) c.add.new.self.is_long (map g.T.Given.seen c.add.new.self.given) (c.in_ok-note.ensures.places _) (c.in_ok-add.ensures alphabet.dollars serves fits) in
    let P : Bool → ℕ → Type 0 = λ k n. At alphabet angles text k (c.args.place + n) (reverse c.note.new.self.places.items) c.add.new.self.is_long (map g.T.Given.seen c.add.new.self.given) in
    subst (λ k. P k c.size.result) (sym c.in_ok-note.ensures.checked) (subst (P c.args.unclosed.now.checked) (sym c.size.ensures) next)
