use Rattle.std.proofs.Common.{sym}
use Rattle.map_tables.proofs.AnswerLemmas.{stands_within}
use Rattle.map_tables.proofs.LawLemmas.{hands_on}
use Rattle.map_tables.proofs.law.sequence_hands_on.Goals as goal

pub returns : goal.returns
returns c = λ hosts key args maps place table members at is all. hands_on hosts key args maps place (stands_within maps place table (sym at)) table members (sym at) is all
