-- Which step is the next one of a holder (Sendmail Installation and Operation Guide,
-- Timeout.queuewarn, for when a warning is due; that a warning is sent for no message of a class
-- below 0 is the guide's, Precedence; the rest is own).
use Rattle.std.specs.Prelude.{ℕ, ◌+◌, pos, List, [], ◌∷◌, Option, Some, None, Bool, true, false, not, ◌&&◌, nat_le, bytes_eq, int_le, codes, if◌then◌else◌}
use Rattle.std.specs.List.{list_all}
use Rattle.mail_base.specs.Catalogs.{value_like, with_value}
use Rattle.mail_base.specs.Drawing.{null_sender}
use Rattle.mail_base.specs.States.{has_failed, has_queued, is_finished, wants_bounce}
use Rattle.mail_base.specs.declared.config.Config.{Config}
use Rattle.mail_base.specs.declared.control.Control.{Control}
use Rattle.mail_base.specs.declared.mailer.Mailer.{Mailer}
use Rattle.mail_base.specs.declared.outcome.Result1.{Result1}
use Rattle.mail_base.specs.declared.route.Resolved.{Resolved}
use Rattle.mail_base.specs.declared.route.Resolved.TheVariants.{Goes, Refuses}
use Rattle.link_edge.specs.declared.peer.Peer.{Peer}
use Rattle.map_tables.specs.Answers.{Loaded}
use Rattle.ruleset_run.specs.Sites.{Macros}
use Rattle.mail_header.specs.Outgoing.{is_network}
use Rattle.mail_base.specs.Literals.{literal}
use Rattle.mailer_pipe.specs.Arguments.{is_argument, takes_users}
use Rattle.mailer_pipe.specs.Ends.{no_argument}
use Rattle.queue_run.specs.declared.batch.Batch.{Batch}
use Rattle.queue_run.specs.Claims.{claim_macros}
use Rattle.queue_run.specs.Holders.{Attempt, Holder}
use Rattle.queue_run.specs.Peers.{peers_of}
use Rattle.queue_run.specs.Results.{no_host, no_mailer, no_user, refused_by}

-- which step it is: a child is polled; a batch is recorded with no attempt; a program is started
-- for one; one is delivered to peers; failed rows become dead; or are given back by a bounce; a
-- warning is sent; the entry is finished; it is let go
pub data Kind : Type 0 where
  Waits : (running : Attempt) → Kind
  Settles : (batch : Batch) (result : Result1) → Kind
  Starts : (batch : Batch) (mailer : Mailer) → Kind
  Talks : (batch : Batch) (mailer : Mailer) (peers : List Peer) → Kind
  Buries : Kind
  Returns : Kind
  Warns : Kind
  Finishes : Kind
  Leaves : Kind

-- ---- a batch

-- what templates see of an entry and a host: the macros of its claim, and h
abbrev pub host_macros : Config → ℕ → Control → List ℕ → Macros
host_macros config id control host =
    with_value (codes "h") (literal host) (claim_macros config id control)

abbrev pub kind_by_peers : Batch → Mailer → List Peer → Kind
kind_by_peers batch mailer [] = Settles batch no_host
kind_by_peers batch mailer (peer ∷ peers) = Talks batch mailer (peer ∷ peers)

-- a user that can't be an argument stands alone in its batch
abbrev pub kind_by_users : Batch → Mailer → Bool → Kind
kind_by_users batch mailer true = Starts batch mailer
kind_by_users batch mailer false = Settles batch no_argument

abbrev pub kind_by_mailer : Loaded → Macros → Batch → Option Mailer → Kind
kind_by_mailer maps macros batch None = Settles batch no_mailer
kind_by_mailer maps macros batch (Some mailer) =
    if is_network mailer then kind_by_peers batch mailer (peers_of maps mailer macros)
    else if takes_users mailer then kind_by_users batch mailer (list_all is_argument batch.users)
    else Settles batch no_user

abbrev pub kind_by_route : Config → Loaded → ℕ → Control → Batch → Resolved → Kind
kind_by_route config maps id control batch (Refuses error) = Settles batch (refused_by error)
kind_by_route config maps id control batch (Goes triple) =
    kind_by_mailer maps (host_macros config id control triple.host) batch
    (value_like triple.mailer config.mailers)

-- ---- all rows were tried

abbrev pub is_late : Option ℕ → ℕ → ℕ → Bool
is_late None created moment = false
is_late (Some wait) created moment = nat_le (created + wait) moment

-- a row is still tried long after the message came, and its sender wasn't warned yet
abbrev pub is_warning_due : Config → ℕ → Control → Bool
is_warning_due config moment control =
    is_late config.options.queue_warn control.created moment && has_queued control
    && not (bytes_eq control.sender null_sender) && int_le (pos 0) control.class
    && not control.marks.warned

abbrev pub kind_at_end : Config → ℕ → Control → Kind
kind_at_end config moment control =
    if has_failed control then (if wants_bounce control then Returns else Buries)
    else if is_warning_due config moment control then Warns
    else if is_finished control then Finishes
    else Leaves

-- ---- the step

abbrev pub kind_by_rest : Config → Loaded → ℕ → ℕ → Control → List Batch → Kind
kind_by_rest config maps moment id control [] = kind_at_end config moment control
kind_by_rest config maps moment id control (batch ∷ batches) =
    kind_by_route config maps id control batch batch.resolved

-- an entry that isn't there is let go
abbrev pub kind_by_entry : Config → Loaded → ℕ → ℕ → Option Control → List Batch → Kind
kind_by_entry config maps moment id None batches = Leaves
kind_by_entry config maps moment id (Some control) batches =
    kind_by_rest config maps moment id control batches

abbrev pub kind_by : Config → Loaded → ℕ → ℕ → Option Control → List Batch → Option Attempt → Kind
kind_by config maps moment id found batches (Some running) = Waits running
kind_by config maps moment id found batches None =
    kind_by_entry config maps moment id found batches

-- the step of a holder, whose entry has that control
abbrev pub kind_of : Config → Loaded → ℕ → Option Control → Holder → Kind
kind_of config maps moment found h = kind_by config maps moment h.id found h.rest h.running
