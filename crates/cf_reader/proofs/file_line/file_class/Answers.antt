use Rattle.cf_reader.proofs.FileLemmas.{if_told, line_finds}
use Rattle.cf_reader.proofs.file_line.file_class.Goals as goal

pub returns-clause-told : goal.returns-clause-told
returns-clause-told g c =
    if_told (g.F.Files.seen c.args.files.now).map
    (λ map has. line_finds map c.args.text.now c.split_name.result.0.now c.split_name.result.1.now c.in_ok-wanted.wanted c.in_ok-found.found c.file_words.result c.split_name.ensures c.in_ok-wanted.ensures c.file_words.ensures has)
    c.in_ok-found.ensures.text
