-- What is seen of a spawner (own).
use Rattle.std.specs.Prelude.{◌≡◌, ◌<◌, ℕ, List, Option, IfSome, Result, Ok, Err, true}
use Rattle.mail_base.specs.Scripts.{one_more}
use Rattle.mail_base.specs.declared.fault.Failed.{Failed}
use Rattle.spawn_edge.specs.declared.event.SpawnEvent.{SpawnEvent}
use Rattle.spawn_edge.specs.Children.{is_running}

-- what happened so far, in order, where that is told; how many starts failed untold since the last
-- start that was told; and how often a call failed
pub record Spawned : Type 0 where
  pub told : Option (List SpawnEvent)
  pub missed : ℕ
  pub faults : ℕ

-- how many starts are missed after one more: none behind one that is told, else one more
abbrev pub KeepsMissed : ℕ → ℕ → Result ℕ Failed → Type 0
KeepsMissed before now (Ok child) = now ≡ 0
KeepsMissed before now (Err fault) = 0 < now → now ≡ one_more before

-- where the spawner tells, that child was given and isn't over
abbrev pub IsRunningAt : Spawned → ℕ → Type 0
IsRunningAt spawner child = IfSome spawner.told (λ history. is_running child history ≡ true)
