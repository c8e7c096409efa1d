use Rattle.link_edge.proofs.Following.{follow_join, once_all, send_follows}
use Rattle.link_edge.proofs.law.numbers_are_used_once.Goals as goal

pub returns-clause-once : goal.returns-clause-once
returns-clause-once c = λ history events once follow. once_all history events once follow

pub returns-clause-send : goal.returns-clause-send
returns-clause-send c = λ history session bytes whole sound. send_follows history session bytes whole sound

pub returns-clause-hang_up : goal.returns-clause-hang_up
returns-clause-hang_up c = λ history session live. live

pub returns-clause-join : goal.returns-clause-join
returns-clause-join c = λ history some more h k. follow_join history some more h k
