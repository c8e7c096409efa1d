use Rattle.std.proofs.Common.{[]}
use Rattle.smtp_lines.proofs.ReadingLemmas.{reading_of-is, follows_itself}
use Rattle.smtp_lines.proofs.stream.one_reading.Goals as goal

pub returns : goal.returns
returns c = λ bytes granted lines last rest reads none. reading_of-is bytes granted lines last rest granted [] reads none (follows_itself granted)
