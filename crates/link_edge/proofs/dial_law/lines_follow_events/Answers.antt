use Rattle.link_edge.proofs.LineFollowing.{once_all}
use Rattle.link_edge.proofs.LineSounding.{dialled_is_sound, open_push, sound_is_open, sound_push, still_sound}
use Rattle.link_edge.proofs.dial_law.lines_follow_events.Goals as goal

pub returns-clause-once : goal.returns-clause-once
returns-clause-once c = λ history events once follow. once_all history events once follow

pub returns-clause-live : goal.returns-clause-live
returns-clause-live c = λ history event. open_push history event

pub returns-clause-sound : goal.returns-clause-sound
returns-clause-sound c = λ history event. sound_push history event

pub returns-clause-dialled : goal.returns-clause-dialled
returns-clause-dialled c = λ history peer line missed. dialled_is_sound history peer line missed

pub returns-clause-kept : goal.returns-clause-kept
returns-clause-kept c = λ history event line goes sound. still_sound history event line goes sound

pub returns-clause-within : goal.returns-clause-within
returns-clause-within c = λ history line sound. sound_is_open history line sound
