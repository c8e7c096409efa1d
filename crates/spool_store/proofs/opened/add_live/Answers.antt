-- The entry of a control file fits where its text is there.
use Rattle.std.proofs.Common.{sym, subst}
use Rattle.spool_store.specs.Openings.{IsFitting}
use Rattle.spool_store.proofs.Finding.{on_ok}
use Rattle.spool_store.proofs.Fitting.{fits_pushed}
use Rattle.spool_store.proofs.opened.add_live.Goals as goal

pub returns-in_ok-entry_of-in-Some-clause-fit : goal.returns-in_ok-entry_of-in-Some-clause-fit
returns-in_ok-entry_of-in-Some-clause-fit c = λ dirs among text fit. on_ok c.push.result (λ e. fits_pushed dirs c.args.out.now c.push.new.self _ e (subst (IsFitting dirs) (sym c.in_ok-entry_of-in-Some.ensures) (record { dir = among; valid = text _ c.in-Some.is })) fit) c.push.ensures.ok
