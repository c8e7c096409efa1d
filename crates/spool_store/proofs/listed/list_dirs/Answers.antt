-- One directory after another.
use Rattle.mail_base.specs.declared.fault.StoreFault.{StoreFault}
use Rattle.std.proofs.Common.{Err, ap, ◌∙◌, arith, ℕ, subst, []}
use Rattle.std.proofs.lemmas.Result.{err_from_is_err_and}
use Rattle.std.proofs.lemmas.List.{get_or_read}
use Rattle.spool_store.proofs.OpenLemmas.{reads_told}
use Rattle.spool_store.proofs.LooksLemmas.{looks_none, looks_then, looks_err}
use Rattle.spool_store.proofs.Finding.{named_nothing, foreign_nothing, within_more, within_nothing, files_more}
use Rattle.spool_store.specs.inner.Finds.{AreNamed, AreForeign}
use Rattle.spool_store.proofs.listed.list_dirs.Goals as goal

pub loop-number-init : goal.loop-number-init
loop-number-init g c = record {
  within = within_nothing c.args.listed.now.named c.requires.named 0;
  files = λ f e. (named_nothing c.args.dirs.now f c.args.listed.now.named c.requires.named, foreign_nothing c.args.dirs.now f c.args.listed.now.strays c.requires.strays);
  looks = looks_none (g.D.Spool.seen c.args.spool.now) tt;
}

pub loop-number-preserved : goal.loop-number-preserved
loop-number-preserved g c =
    let old = g.D.Spool.seen c.args.spool.now in
    let mid = g.D.Spool.seen c.loop-number.spool in
    let new = g.D.Spool.seen c.list_dir.new.spool in
    let inv = c.loop-number.invariant in
    let call = c.in_ok-list_dir.ensures in
    record {
      within = within_more c.loop-number.number call.files.0 c.loop-number.listed.named c.list_dir.new.listed.named call.files.2 inv.within;
      files = λ f e. files_more mid.told c.args.dirs.now f c.loop-number.number c.index-dirs-number.result call.files.0 c.loop-number.listed.named c.list_dir.new.listed.named c.loop-number.listed.strays c.list_dir.new.listed.strays (reads_told old mid inv.looks.reads ∙ e) (get_or_read c.args.dirs.now _ _ (omega arith) c.index-dirs-number.is []) call.files.1 call.files.2 call.files.3 (inv.files f e);
      looks = looks_then old mid new tt _ inv.looks call.looks;
    }

pub returns-in_err-list_dir-clause-looks : goal.returns-in_err-list_dir-clause-looks
returns-in_err-list_dir-clause-looks g c =
    let p = err_from_is_err_and c.from_residual.result c.from_residual.ensures.1 in
    looks_then _ _ _ tt _ c.loop-number.invariant.looks (looks_err _ _ c.in_err-list_dir.field-0.0 _ (p.1 ∙ ap (λ (e : StoreFault). Err e) p.2) c.in_err-list_dir.ensures.looks)

pub returns-clause-within : goal.returns-clause-within
returns-clause-within g c = λ x among. omega (arith, c.loop-number.invariant.within x among, c.loop-number-test.false)

pub returns-clause-named : goal.returns-clause-named
returns-clause-named g c = λ f e. subst (λ (n : ℕ). AreNamed c.args.dirs.now f n c.loop-number.listed.named × AreForeign c.args.dirs.now f n c.loop-number.listed.strays) (omega arith) (c.loop-number.invariant.files f e)
