-- A live control file tells its entry, another nothing.
use Rattle.std.proofs.Common.{◌≡◌, [], sym, subst, inl, refl, Contains, List, ℕ}
use Rattle.std.proofs.lemmas.List.{get_or_read}
use Rattle.spool_store.specs.inner.Judging.{IsVerdict}
use Rattle.spool_store.specs.inner.Finds.{dir_at, spot_named}
use Rattle.spool_store.proofs.Carrying.{live_read, live_plain}
use Rattle.spool_store.proofs.Finding.{on_ok}
use Rattle.spool_store.proofs.Readings.{dir_among}
use Rattle.spool_store.proofs.OrderLemmas.{rising_to, told_once}
use Rattle.spool_store.proofs.PlanLemmas.{found_says}
use Rattle.spool_store.proofs.TellingLemmas.{told_skip}
use Rattle.spool_store.proofs.opened.add_entry.Goals as goal

pub returns-in-Strange-clause-told : goal.returns-in-Strange-clause-told
returns-in-Strange-clause-told c = λ f found is verdict told. told_skip c.args.dirs.now f found c.args.x.now c.args.out.now (λ d live. live_plain live (subst (IsVerdict c.args.dirs.now f (spot_named c.args.dirs.now c.args.x.now.named)) c.in-Strange.is verdict)) told

pub returns-in-Dead-clause-told : goal.returns-in-Dead-clause-told
returns-in-Dead-clause-told c = λ f found is verdict told. told_skip c.args.dirs.now f found c.args.x.now c.args.out.now (λ d live. (subst (IsVerdict c.args.dirs.now f (spot_named c.args.dirs.now c.args.x.now.named)) c.in-Dead.is verdict).lost d live) told

pub returns-in-Live-clause-told : goal.returns-in-Live-clause-told
returns-in-Live-clause-told c = λ f found is verdict told.
    let live = subst (IsVerdict c.args.dirs.now f (spot_named c.args.dirs.now c.args.x.now.named)) c.in-Live.is verdict in
    let dir : c.index-dirs-x.result ≡ dir_at c.args.dirs.now c.args.x.now.named.dir = get_or_read c.args.dirs.now _ _ c.requires.own c.index-dirs-x.is [] in
    on_ok c.add_once.result (λ e. told_once c.args.dirs.now f found c.args.x.now live.control c.args.out.now c.add_once.new.out c.index-dirs-x.result live.live dir e told)
    (c.add_once.ensures.told live.control (found_says c.args.dirs.now f c.args.x.now live.control is (live_read live.live)))

pub returns-in-Strange-clause-rises : goal.returns-in-Strange-clause-rises
returns-in-Strange-clause-rises c = λ n rises le. rising_to c.args.out.now n c.args.x.now.named.id rises le

pub returns-in-Dead-clause-rises : goal.returns-in-Dead-clause-rises
returns-in-Dead-clause-rises c = λ n rises le. rising_to c.args.out.now n c.args.x.now.named.id rises le

pub returns-in-Strange-clause-adds : goal.returns-in-Strange-clause-adds
returns-in-Strange-clause-adds c = inl refl

pub returns-in-Dead-clause-adds : goal.returns-in-Dead-clause-adds
returns-in-Dead-clause-adds c = inl refl

pub returns-in-Live-clause-fit : goal.returns-in-Live-clause-fit
returns-in-Live-clause-fit c = λ text fit.
    let dir : c.index-dirs-x.result ≡ dir_at c.args.dirs.now c.args.x.now.named.dir = get_or_read c.args.dirs.now _ _ c.requires.own c.index-dirs-x.is [] in
    c.add_once.ensures.fit c.args.dirs.now (subst (λ (d : List ℕ). Contains c.args.dirs.now d) (sym dir) (dir_among c.args.dirs.now c.args.x.now.named.dir c.requires.own)) text fit
