-- What runs that open the queue are made for (Sendmail Installation and Operation Guide, "Command
-- Line Flags": -bs, -bd and -q; options DaemonPortOptions and MaxDaemonSessions).
use Rattle.std.specs.Prelude.{◌≡◌, ℕ, [], Option, Some, None, unwrap_or, Bool, true, false}
use Rattle.mail_base.specs.declared.config.Config.{Config}
use Rattle.link_edge.specs.Begins.{begun_after}
use Rattle.link_edge.specs.Heard.{Heard}
use Rattle.link_edge.specs.declared.place.Place.{Place}
use Rattle.link_edge.specs.declared.place.Place.TheVariants.{Port, Standard}
use Rattle.mail_core.specs.Plans.{Plan, Serve, Once}
use Rattle.sendmail_run.specs.declared.task.Task.{Task}
use Rattle.sendmail_run.specs.declared.task.Task.TheVariants.{Daemon, Run, Session}

-- sessions and the queue between their turns, or the queue once
abbrev pub plan_of : Task → Plan
plan_of Session = Serve None
plan_of (Daemon wait) = Serve wait
plan_of (Run group) = Once group

-- a run over the queue alone
abbrev pub is_run : Task → Bool
is_run Session = false
is_run (Daemon wait) = false
is_run (Run group) = true

-- where the floor is begun, and for how many sessions
abbrev pub door_of : Config → Task → Option (Place × ℕ)
door_of config Session = Some (Standard, 1)
door_of config (Daemon wait) =
    Some (
      Port (unwrap_or config.options.daemon_port.address []) config.options.daemon_port.port,
      config.options.max_daemon_sessions,
    )
door_of config (Run group) = None

-- the floor was begun there in the run, once, or it was left alone
abbrev pub IsBegunAt : Option (Place × ℕ) → Heard → Heard → Type 0
IsBegunAt None before now = now ≡ before
IsBegunAt (Some door) before now = now.begun ≡ begun_after before.begun door.0 door.1
