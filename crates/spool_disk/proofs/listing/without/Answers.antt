-- What the closure keeps is what the definition keeps.
use Rattle.std.proofs.Common.{rules, ◌∙◌, ap}
use Rattle.std.specs.Prelude.{not}
use Rattle.std.proofs.lemmas.Fn.{filter_same}
use Rattle.spool_disk.specs.declared.file.File.{File}
use Rattle.spool_disk.specs.Disk.{lies_at}
use Rattle.spool_disk.specs.Changes.{without_file}
use Rattle.spool_disk.proofs.listing.without.Goals as goal

pub returns : goal.returns
returns c =
    let kept = filter_same _ (λ (file : File). not (lies_at (c.args.dir.now, c.args.name.now) file)) _ (λ x b f h. (search rules, search rules)) _ _ c.retain.ensures.filtered in
    c.from_vec.ensures ∙ kept ∙ ap (without_file (c.args.dir.now, c.args.name.now)) c.into_vec-kept.ensures
