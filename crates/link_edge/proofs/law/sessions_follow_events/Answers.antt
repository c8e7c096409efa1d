use Rattle.link_edge.proofs.Sessioning.{open_push, sound_push}
use Rattle.link_edge.proofs.Sounding.{opened_is_sound, sound_is_open}
use Rattle.link_edge.proofs.law.sessions_follow_events.Goals as goal

pub returns-clause-live : goal.returns-clause-live
returns-clause-live c = λ history event. open_push history event

pub returns-clause-sound : goal.returns-clause-sound
returns-clause-sound c = λ history event. sound_push history event

pub returns-clause-opened : goal.returns-clause-opened
returns-clause-opened c = λ history session peer. opened_is_sound history session peer

pub returns-clause-within : goal.returns-clause-within
returns-clause-within c = λ history session sound. sound_is_open history session sound
