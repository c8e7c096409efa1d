-- A strange control file is told, another isn't.
use Rattle.std.proofs.Common.{◌≡◌, ◌∙◌, ◌++◌, ◌∷◌, [], List, ℕ, ap, subst}
use Rattle.std.proofs.lemmas.List.{get_or_read}
use Rattle.mail_base.specs.declared.control.Stray.{Stray}
use Rattle.mail_base.specs.Names.{name_of}
use Rattle.spool_store.specs.inner.Judging.{IsVerdict}
use Rattle.spool_store.specs.inner.Finds.{dir_at, spot_named}
use Rattle.spool_store.proofs.Carrying.{live_plain}
use Rattle.spool_store.proofs.Finding.{on_ok}
use Rattle.spool_store.proofs.ShowingLemmas.{shown_skip, shown_more}
use Rattle.spool_store.proofs.opened.add_strange.Goals as goal

pub returns-in_ok-stray_of-in-Strange : goal.returns-in_ok-stray_of-in-Strange
returns-in_ok-stray_of-in-Strange c = λ f before found verdict shown.
    let named = c.args.x.now.named in
    let dir : c.index-dirs-x.result ≡ dir_at c.args.dirs.now named.dir = get_or_read c.args.dirs.now _ _ c.requires.own c.index-dirs-x.is [] in
    on_ok c.push.result (λ e. shown_more c.args.dirs.now f before found c.args.x.now c.args.out.now c.push.new.self (subst (IsVerdict c.args.dirs.now f (spot_named c.args.dirs.now named)) c.in-Strange.is verdict)
    (e ∙ ap (λ (w : Stray). c.args.out.now ++ w ∷ []) (c.in_ok-stray_of-in-Strange.ensures ∙ ap (λ (d : List ℕ). record { dir = d; name = name_of named.kind named.id }) dir)) shown) c.push.ensures.ok

pub returns-in-Dead : goal.returns-in-Dead
returns-in-Dead c = λ f before found verdict shown. shown_skip c.args.dirs.now f before found c.args.x.now c.args.out.now (subst (IsVerdict c.args.dirs.now f (spot_named c.args.dirs.now c.args.x.now.named)) c.in-Dead.is verdict).plain shown

pub returns-in-Live : goal.returns-in-Live
returns-in-Live c = λ f before found verdict shown. shown_skip c.args.dirs.now f before found c.args.x.now c.args.out.now (live_plain (subst (IsVerdict c.args.dirs.now f (spot_named c.args.dirs.now c.args.x.now.named)) c.in-Live.is verdict).live) shown
