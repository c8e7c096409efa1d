use Rattle.cf_macros.proofs.WordLemmas.{word_found}
use Rattle.cf_macros.proofs.construct.word_length.Goals as goal

pub returns : goal.returns
returns c = word_found c.args.text.now c.find_byte.result c.find_byte.ensures
