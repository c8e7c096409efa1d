use Rattle.smtp_lines.proofs.GivenLemmas.{only_last}
use Rattle.smtp_lines.proofs.stream.only_last_asks.Goals as goal

pub returns : goal.returns
returns c = λ old new s lines before after turns. only_last old new s lines before after turns
