use Rattle.std.proofs.Common.{Ok}
use Rattle.alias_expand.proofs.NullLemmas.{null_outcome}
use Rattle.alias_expand.proofs.law.null_sender_stays.Goals as goal

pub returns : goal.returns
returns c = λ site files address rows expands. null_outcome site files address (Ok rows) expands
