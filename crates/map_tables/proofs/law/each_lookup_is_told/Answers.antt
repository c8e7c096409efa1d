use Rattle.map_tables.specs.Answers.{map_answer}
use Rattle.map_tables.proofs.LawLemmas.{never_memory}
use Rattle.map_tables.proofs.law.each_lookup_is_told.Goals as goal

pub returns : goal.returns
returns c = λ loaded name key args. never_memory (map_answer loaded name key args)
