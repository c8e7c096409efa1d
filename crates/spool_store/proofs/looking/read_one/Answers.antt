-- What the bytes say.
use Rattle.std.proofs.Common.{◌≡◌, ◌∙◌, sym, ap, List, ℕ, []}
use Rattle.std.proofs.lemmas.List.{get_or_read}
use Rattle.spool_disk.specs.Disk.{bytes_at}
use Rattle.spool_store.specs.Queue.{at}
use Rattle.spool_store.specs.inner.Finds.{dir_at}
use Rattle.spool_store.proofs.Readings.{found_more, pushed_text}
use Rattle.spool_store.proofs.looking.read_one.Goals as goal

pub returns-in_ok-push-in-Some-clause-found : goal.returns-in_ok-push-in-Some-clause-found
returns-in_ok-push-in-Some-clause-found g c = λ f e spot.
    let named = c.args.named.now in
    let dir : c.index-dirs-named.result ≡ dir_at c.args.dirs.now named.dir = get_or_read c.args.dirs.now _ _ (c.requires.within) c.index-dirs-named.is [] in
    let held = c.in_ok-read_bytes.ensures.bytes f e in
    found_more c.args.dirs.now f named c.in_ok-found_of-in-Some.field-0 c.in-Some.bytes c.args.found.now c.push.new.self spot (ap (λ (d : List ℕ). bytes_at f (at d named.kind named.id)) (sym dir) ∙ sym held ∙ c.in-Some.is) c.in_ok-found_of-in-Some.ensures.is.0 c.in_ok-found_of-in-Some.ensures.is.1 c.in_ok-push-in-Some.ensures.ok

pub returns-in_ok-push-in-Some-clause-among : goal.returns-in_ok-push-in-Some-clause-among
returns-in_ok-push-in-Some-clause-among g c = pushed_text c.args.named.now c.in_ok-found_of-in-Some.field-0 c.args.found.now c.push.new.self c.in_ok-found_of-in-Some.ensures.is.0 c.in_ok-found_of-in-Some.ensures.text c.in_ok-push-in-Some.ensures.ok
