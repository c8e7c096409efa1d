use Rattle.std.proofs.Common.{◌∙◌}
use Rattle.std.specs.Option.{option_copied}
use Rattle.map_tables.proofs.FileLemmas.{bytes_found}
use Rattle.map_tables.proofs.texts.bytes_of.Goals as goal

pub returns : goal.returns
returns c =
    c.bytes_at.ensures
    ∙ bytes_found c.args.file.now c.args.texts.now c.items.result.now c.args.places.now (option_copied c.get.result) (option_copied c.text_at.result) c.requires c.get.ensures c.items.ensures c.text_at.ensures
