use Rattle.mail_core.proofs.HistoryLemmas.{soundly_law}
use Rattle.mail_core.proofs.history_law.a_history_ends_soundly.Goals as goal

pub returns : goal.returns
returns c = λ runs last chain. soundly_law runs last chain
