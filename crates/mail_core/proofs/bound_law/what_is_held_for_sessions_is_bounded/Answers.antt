use Rattle.mail_core.proofs.BoundLemmas.{stands_small}
use Rattle.mail_core.proofs.bound_law.what_is_held_for_sessions_is_bounded.Goals as goal

pub returns : goal.returns
returns c = λ site core m stands. stands_small site core m stands
