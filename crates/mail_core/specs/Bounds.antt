-- What a core holds for its sessions is within limits (own; RFC 5321 section 4.5.3.1 names the
-- least that each may be).
use Rattle.std.specs.Prelude.{◌≡◌, ◌+◌, ◌≤◌, [], length, All}
use Rattle.mail_base.specs.Limits.{most_message}
use Rattle.mail_base.specs.declared.config.Config.{Config}
use Rattle.smtp_receive.specs.Sessions.{IsBounded}
use Rattle.mail_core.specs.declared.caller.Caller.{Caller}
use Rattle.mail_core.specs.declared.serving.Core.{Core}
use Rattle.mail_core.specs.Machine.{most_guests}

-- what is held for a session between its pieces: rows and a message under way within their limits,
-- and a line under way, which may be one of a message
pub record IsSmall (config : Config) (caller : Caller) : Type 0 where
  pub session : IsBounded caller.session config
  pub line : length caller.lines.under.kept ≤ most_message + 3
  pub left : caller.lines.left ≡ []

-- the same of each session, of which there are only so many
pub record AreSmall (config : Config) (core : Core) : Type 0 where
  pub few : length core.callers.items ≤ most_guests
  pub each : All (IsSmall config) core.callers.items
