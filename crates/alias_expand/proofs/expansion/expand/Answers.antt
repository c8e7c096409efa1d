use Rattle.std.proofs.Common.{Ok, Err, refl}
use Rattle.std.proofs.lemmas.Result.{err_from_is_err_and}
use Rattle.alias_expand.specs.declared.refusal.ExpandRefusal.TheVariants as refusals
use Rattle.alias_expand.specs.Rows.{site_of}
use Rattle.alias_expand.proofs.FormLemmas.{outcome_form}
use Rattle.alias_expand.proofs.WholeLemmas.{false≢true, only_outcome, rows_none, rows_refused, rows_some}
use Rattle.alias_expand.proofs.expansion.expand.Goals as goal

pub returns-in_err-reading-clause-rows : goal.returns-in_err-reading-clause-rows
returns-in_err-reading-clause-rows g c =
    let a = c.args in
    let p = err_from_is_err_and c.from_residual.result c.from_residual.ensures.1 in
    rw (p.1, p.2) (rows_refused (site_of a.aliases.now a.homes.now a.config.now a.maps.now a.macros.now) (g.F.Files.seen a.files.now).map a.address.now a.sender.now _ c.in_err-reading.ensures.reads)

pub returns-in_err-reading-clause-only : goal.returns-in_err-reading-clause-only
returns-in_err-reading-clause-only g c =
    let a = c.args in
    let p = err_from_is_err_and c.from_residual.result c.from_residual.ensures.1 in
    rw (p.1, p.2) (only_outcome (site_of a.aliases.now a.homes.now a.config.now a.maps.now a.macros.now) (g.F.Files.seen a.files.now).map a.address.now a.sender.now (λ map one another x y. c.one_expansion.ensures (site_of a.aliases.now a.homes.now a.config.now a.maps.now a.macros.now) map a.address.now a.sender.now one another x y) (Err _) (rows_refused (site_of a.aliases.now a.homes.now a.config.now a.maps.now a.macros.now) (g.F.Files.seen a.files.now).map a.address.now a.sender.now _ c.in_err-reading.ensures.reads))

pub returns-then-is_empty-clause-rows : goal.returns-then-is_empty-clause-rows
returns-then-is_empty-clause-rows g c =
    let a = c.args in
    rows_none (site_of a.aliases.now a.homes.now a.config.now a.maps.now a.macros.now) (g.F.Files.seen a.files.now).map a.address.now a.sender.now c.in_ok-reading.reading (c.if-is_empty.ensures.0 refl) c.in_ok-reading.ensures.reads

pub returns-then-is_empty-clause-only : goal.returns-then-is_empty-clause-only
returns-then-is_empty-clause-only g c =
    let a = c.args in
    only_outcome (site_of a.aliases.now a.homes.now a.config.now a.maps.now a.macros.now) (g.F.Files.seen a.files.now).map a.address.now a.sender.now (λ map one another x y. c.one_expansion.ensures (site_of a.aliases.now a.homes.now a.config.now a.maps.now a.macros.now) map a.address.now a.sender.now one another x y) (Err refusals.NoOne) (rows_none (site_of a.aliases.now a.homes.now a.config.now a.maps.now a.macros.now) (g.F.Files.seen a.files.now).map a.address.now a.sender.now c.in_ok-reading.reading (c.if-is_empty.ensures.0 refl) c.in_ok-reading.ensures.reads)

pub returns-clause-rows : goal.returns-clause-rows
returns-clause-rows g c =
    let a = c.args in
    rows_some (site_of a.aliases.now a.homes.now a.config.now a.maps.now a.macros.now) (g.F.Files.seen a.files.now).map a.address.now a.sender.now c.in_ok-reading.reading (λ e. false≢true (c.if-is_empty.ensures.1 e)) c.in_ok-reading.ensures.reads

pub returns-clause-only : goal.returns-clause-only
returns-clause-only g c =
    let a = c.args in
    only_outcome (site_of a.aliases.now a.homes.now a.config.now a.maps.now a.macros.now) (g.F.Files.seen a.files.now).map a.address.now a.sender.now (λ map one another x y. c.one_expansion.ensures (site_of a.aliases.now a.homes.now a.config.now a.maps.now a.macros.now) map a.address.now a.sender.now one another x y) (Ok c.in_ok-reading.reading.rows) (rows_some (site_of a.aliases.now a.homes.now a.config.now a.maps.now a.macros.now) (g.F.Files.seen a.files.now).map a.address.now a.sender.now c.in_ok-reading.reading (λ e. false≢true (c.if-is_empty.ensures.1 e)) c.in_ok-reading.ensures.reads)

pub returns-clause-forms : goal.returns-clause-forms
returns-clause-forms g c =
    let a = c.args in
    λ address sender. outcome_form (site_of a.aliases.now a.homes.now a.config.now a.maps.now a.macros.now) (g.F.Files.seen a.files.now).map c.have_members.ensures a.address.now a.sender.now (Ok c.in_ok-reading.reading.rows) address sender (rows_some (site_of a.aliases.now a.homes.now a.config.now a.maps.now a.macros.now) (g.F.Files.seen a.files.now).map a.address.now a.sender.now c.in_ok-reading.reading (λ e. false≢true (c.if-is_empty.ensures.1 e)) c.in_ok-reading.ensures.reads)
