use Rattle.map_tables.specs.Tables.{file_pairs}
use Rattle.map_tables.proofs.TableLemmas.{first_counts}
use Rattle.map_tables.proofs.table.first_line_counts.Goals as goal

pub returns : goal.returns
returns c = λ map text key. first_counts key (file_pairs map text)
