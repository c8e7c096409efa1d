-- What parts of a delivery add to a dialer's history. It need not be believed: no public contract
-- cites it.
use Rattle.std.specs.Prelude.{◌≡◌, ℕ, Bool, List}
use Rattle.std.specs.List.{list_any}
use Rattle.mail_base.specs.declared.outcome.Result1.{Result1}
use Rattle.mail_base.specs.Histories.{Gains}
use Rattle.link_edge.specs.declared.dial_event.DialEvent.{DialEvent}
use Rattle.link_edge.specs.declared.peer.Peer.{Peer}
use Rattle.link_edge.specs.Dials.{DialSeen, IsOpenAt}
use Rattle.mailer_smtp.specs.declared.kit.Kit.{Kit}
use Rattle.mailer_smtp.specs.declared.kit.Speech.{Speech}
use Rattle.mailer_smtp.specs.Deliveries.{Counts}
use Rattle.mailer_smtp.specs.Plans.{Plan}
use Rattle.mailer_smtp.specs.Talks.{Leads, IsParting, IsTried, IsAttempt, is_fault}

-- a part of a dialogue on an open line
pub record Went (line : ℕ) (old new : DialSeen) (plan : Plan) (bytes : List ℕ) (to : Plan)
    (rest : List ℕ) : Type 0 where
  pub events : List DialEvent
  pub leads : Leads line plan bytes events to rest
  pub told : Gains old.told new.told events
  pub missed : new.missed ≡ old.missed
  pub counts : Counts old.faults new.faults (list_any is_fault events)
  pub live : IsOpenAt new line

-- a line was closed, with or without QUIT
pub record Parted (line : ℕ) (quit : List ℕ) (quits : Bool) (old new : DialSeen) : Type 0 where
  pub events : List DialEvent
  pub is : IsParting line quit quits events
  pub told : Gains old.told new.told events
  pub missed : new.missed ≡ old.missed
  pub counts : Counts old.faults new.faults (list_any is_fault events)

-- one host was tried
pub record Tried (speech : Speech) (kit : Kit) (peer : Peer) (old new : DialSeen) (leaves : Bool)
    (rows : List Result1) : Type 0 where
  pub events : List DialEvent
  pub fault : Bool
  pub is : IsTried speech kit peer old.missed events new.missed fault leaves rows
  pub told : Gains old.told new.told events
  pub counts : Counts old.faults new.faults fault

-- the hosts were tried
pub record Attempted (speech : Speech) (kit : Kit) (peers : List Peer) (old new : DialSeen)
    (rows : List Result1) : Type 0 where
  pub events : List DialEvent
  pub fault : Bool
  pub is : IsAttempt speech kit peers old.missed events new.missed fault rows
  pub told : Gains old.told new.told events
  pub counts : Counts old.faults new.faults fault
