use Rattle.spawn_edge.proofs.Following.{once_all}
use Rattle.spawn_edge.proofs.Running.{begun_runs, running_push, runs_no_more, still_runs}
use Rattle.spawn_edge.proofs.law.children_follow_events.Goals as goal

pub returns-clause-once : goal.returns-clause-once
returns-clause-once c = λ history events once follow. once_all history events once follow

pub returns-clause-running : goal.returns-clause-running
returns-clause-running c = λ history event. running_push history event

pub returns-clause-begun : goal.returns-clause-begun
returns-clause-begun c = λ history start child missed. begun_runs history start child missed

pub returns-clause-kept : goal.returns-clause-kept
returns-clause-kept c = λ history event child goes runs. still_runs history event child goes runs

pub returns-clause-over : goal.returns-clause-over
returns-clause-over c = λ history event child gone. runs_no_more history event child gone
