-- Which step is the next one of a runner whose entry is in the store.
use Rattle.std.proofs.Common.{◌≡◌, ◌∙◌, ℕ, ◌<◌, ◌-◌, length, arith, List, [], ◌∷◌, Bool, true, false, Option, Some, None, refl, sym, ap, reverse, option_map, if◌then◌else◌}
use Rattle.std.specs.Prelude.{◌&&◌, bytes_eq, get_or, int_le, not, pos, slice_get}
use Rattle.std.proofs.lemmas.List.{get_or-reverse}
use Rattle.std.proofs.lemmas.Option.{get_or_from_slice_get}
use Rattle.std.specs.List.{list_all}
use Rattle.mail_base.specs.Catalogs.{value_like}
use Rattle.mail_base.specs.Drawing.{null_sender}
use Rattle.mail_base.specs.States.{has_failed, has_queued, is_finished, wants_bounce}
use Rattle.mail_base.specs.declared.config.Config.{Config}
use Rattle.mail_base.specs.declared.control.Control.{Control}
use Rattle.mail_base.specs.declared.mailer.Mailer.{Mailer}
use Rattle.mail_base.specs.declared.route.Resolved.{Resolved}
use Rattle.mail_base.specs.declared.route.Resolved.TheVariants.{Goes, Refuses}
use Rattle.mail_base.specs.declared.route.RouteError.{RouteError}
use Rattle.mail_base.specs.declared.route.Triple.{Triple}
use Rattle.mail_header.specs.Outgoing.{is_network}
use Rattle.mailer_pipe.specs.Arguments.{is_argument, takes_users}
use Rattle.link_edge.specs.declared.peer.Peer.{Peer}
use Rattle.map_tables.specs.Answers.{Loaded}
use Rattle.ruleset_run.specs.Sites.{Macros}
use Rattle.spool_store.specs.Entries.{Table}
use Rattle.queue_table.specs.Commands.{control_at}
use Rattle.queue_run.specs.declared.batch.Batch.{Batch}
use Rattle.queue_run.specs.declared.runner.Runner.{Runner}
use Rattle.queue_run.specs.declared.runner.RunStop.TheVariants as stop
use Rattle.queue_run.specs.Holders.{Holder, attempt_of, holder_of}
use Rattle.queue_run.specs.Kinds.{Buries, Finishes, is_late, Leaves, Returns, Settles, Talks, Warns, host_macros, is_warning_due, kind_at_end, kind_by, kind_by_entry, kind_by_mailer, kind_by_peers, kind_by_rest, kind_by_route, kind_by_users}
use Rattle.queue_run.specs.Meant.{Ground, host_of}
use Rattle.queue_run.specs.Peers.{peers_of}
use Rattle.queue_run.specs.Results.{no_mailer, no_user, refused_by}
use Rattle.queue_run.specs.Steps.{By, Lacks, acted, halts}
use Rattle.queue_run.specs.Working.{kind_in}
use Rattle.queue_run.specs.inner.Attempts.{IsBy}

module _ (G : Ground) (T : Table) (r : Runner) (control : Control) where
  -- of a runner that isn't running, by its batches
  kind_rest : r.running ≡ None → control_at r.id T.entries ≡ Some control → kind_in G T (holder_of r) ≡ kind_by_rest G.config G.maps G.moment r.id control (reverse r.rest.items)
  kind_rest running at =
      ap (λ o. kind_by G.config G.maps G.moment r.id (control_at r.id T.entries) (reverse r.rest.items) (option_map attempt_of o)) running
      ∙ ap (λ q. kind_by_entry G.config G.maps G.moment r.id q (reverse r.rest.items)) at

  -- all rows were tried
  pub kind_end : r.running ≡ None → r.rest.items ≡ [] → control_at r.id T.entries ≡ Some control → kind_in G T (holder_of r) ≡ kind_at_end G.config G.moment control
  kind_end running rest at = kind_rest running at ∙ ap (λ q. kind_by_rest G.config G.maps G.moment r.id control (reverse q)) rest

  first_kind : (bs : List Batch) (batch : Batch) → slice_get bs 0 ≡ Some batch → kind_by_rest G.config G.maps G.moment r.id control bs ≡ kind_by_route G.config G.maps r.id control batch batch.resolved
  first_kind [] batch e = cc e
  first_kind (b ∷ bs) batch e = ap (λ (q : Batch). kind_by_route G.config G.maps r.id control q q.resolved) (same_some e)
    where
      same_some : Some b ≡ Some batch → b ≡ batch
      same_some q = cc q

  -- the next batch is tried
  pub kind_first : (batch : Batch) → r.running ≡ None → slice_get (holder_of r).rest 0 ≡ Some batch → control_at r.id T.entries ≡ Some control → kind_in G T (holder_of r) ≡ kind_by_route G.config G.maps r.id control batch batch.resolved
  kind_first batch running first at = kind_rest running at ∙ first_kind (reverse r.rest.items) batch first

  by_resolved : (batch : Batch) (way other : Resolved) → way ≡ other → kind_by_route G.config G.maps r.id control batch way ≡ kind_by_route G.config G.maps r.id control batch other
  by_resolved batch way other e = ap (kind_by_route G.config G.maps r.id control batch) e

  -- a route that is refused
  pub kind_refused : (batch : Batch) (error : RouteError) → batch.resolved ≡ Refuses error → kind_by_route G.config G.maps r.id control batch batch.resolved ≡ Settles batch (refused_by error)
  kind_refused batch error e = by_resolved batch batch.resolved (Refuses error) e

  -- a mailer that isn't there
  pub kind_nobody : (batch : Batch) (triple : Triple) → batch.resolved ≡ Goes triple → value_like triple.mailer G.config.mailers ≡ None → kind_by_route G.config G.maps r.id control batch batch.resolved ≡ Settles batch no_mailer
  kind_nobody batch triple e none = by_resolved batch batch.resolved (Goes triple) e ∙ ap (kind_by_mailer G.maps (host_macros G.config r.id control triple.host) batch) none

  by_mailer : (batch : Batch) (way : Resolved) (mailer : Mailer) → IsBy G.config mailer way → kind_by_route G.config G.maps r.id control batch way ≡ kind_by_mailer G.maps (host_macros G.config r.id control (host_of way)) batch (Some mailer)
  by_mailer batch (Goes triple) mailer by = ap (kind_by_mailer G.maps (host_macros G.config r.id control triple.host) batch) by
  by_mailer batch (Refuses error) mailer by = absurd by

  abbrev PeersOf : Batch → Mailer → List Peer
  PeersOf batch mailer = peers_of G.maps mailer (host_macros G.config r.id control (host_of batch.resolved))

  -- a network mailer
  pub kind_network : (batch : Batch) (mailer : Mailer) (peers : List Peer) → IsBy G.config mailer batch.resolved → is_network mailer ≡ true → peers ≡ PeersOf batch mailer → kind_by_route G.config G.maps r.id control batch batch.resolved ≡ kind_by_peers batch mailer peers
  kind_network batch mailer peers by network is =
      by_mailer batch batch.resolved mailer by
      ∙ ap (λ q. if q then kind_by_peers batch mailer (PeersOf batch mailer) else if takes_users mailer then kind_by_users batch mailer (list_all is_argument batch.users) else Settles batch no_user) network
      ∙ ap (kind_by_peers batch mailer) (sym is)

  -- a program
  pub kind_program : (batch : Batch) (mailer : Mailer) → IsBy G.config mailer batch.resolved → is_network mailer ≡ false → kind_by_route G.config G.maps r.id control batch batch.resolved
      ≡ (if takes_users mailer then kind_by_users batch mailer (list_all is_argument batch.users) else Settles batch no_user)
  kind_program batch mailer by network =
      by_mailer batch batch.resolved mailer by
      ∙ ap (λ q. if q then kind_by_peers batch mailer (PeersOf batch mailer) else if takes_users mailer then kind_by_users batch mailer (list_all is_argument batch.users) else Settles batch no_user) network

-- there are peers
pub some_peers : (batch : Batch) (mailer : Mailer) (peers : List Peer) → (peers ≡ [] → ⊥) → kind_by_peers batch mailer peers ≡ Talks batch mailer peers
some_peers batch mailer [] some = absurd (some refl)
some_peers batch mailer (p ∷ ps) some = refl

-- ---- want of memory before a batch is tried

starved_peers : (config : Config) (moment : ℕ) (T : Table) (h : Holder) (batch : Batch) (mailer : Mailer) (peers : List Peer) → acted config moment T h (kind_by_peers batch mailer peers) (Lacks stop.NoMemory) ≡ halts T h (By stop.NoMemory)
starved_peers config moment T h batch mailer [] = refl
starved_peers config moment T h batch mailer (p ∷ ps) = refl

starved_users : (config : Config) (moment : ℕ) (T : Table) (h : Holder) (batch : Batch) (mailer : Mailer) (b : Bool) → acted config moment T h (kind_by_users batch mailer b) (Lacks stop.NoMemory) ≡ halts T h (By stop.NoMemory)
starved_users config moment T h batch mailer true = refl
starved_users config moment T h batch mailer false = refl

starved_program : (config : Config) (moment : ℕ) (T : Table) (h : Holder) (batch : Batch) (mailer : Mailer) (b : Bool) → acted config moment T h (if b then kind_by_users batch mailer (list_all is_argument batch.users) else Settles batch no_user) (Lacks stop.NoMemory) ≡ halts T h (By stop.NoMemory)
starved_program config moment T h batch mailer true = starved_users config moment T h batch mailer (list_all is_argument batch.users)
starved_program config moment T h batch mailer false = refl

starved_mailer : (config : Config) (moment : ℕ) (T : Table) (h : Holder) (maps : Loaded) (macros : Macros) (batch : Batch) (found : Option Mailer) → acted config moment T h (kind_by_mailer maps macros batch found) (Lacks stop.NoMemory) ≡ halts T h (By stop.NoMemory)
starved_mailer config moment T h maps macros batch None = refl
starved_mailer config moment T h maps macros batch (Some mailer) = by (is_network mailer)
  where
    by : (b : Bool) → acted config moment T h (if b then kind_by_peers batch mailer (peers_of maps mailer macros) else if takes_users mailer then kind_by_users batch mailer (list_all is_argument batch.users) else Settles batch no_user) (Lacks stop.NoMemory) ≡ halts T h (By stop.NoMemory)
    by true = starved_peers config moment T h batch mailer (peers_of maps mailer macros)
    by false = starved_program config moment T h batch mailer (takes_users mailer)

pub starved_route : (config : Config) (moment : ℕ) (T : Table) (h : Holder) (maps : Loaded) (id : ℕ) (control : Control) (batch : Batch) (way : Resolved) → acted config moment T h (kind_by_route config maps id control batch way) (Lacks stop.NoMemory) ≡ halts T h (By stop.NoMemory)
starved_route config moment T h maps id control batch (Refuses error) = refl
starved_route config moment T h maps id control batch (Goes triple) = starved_mailer config moment T h maps (host_macros config id control triple.host) batch (value_like triple.mailer config.mailers)

-- ---- all rows were tried

pub end_returns : (config : Config) (moment : ℕ) (c : Control) → has_failed c ≡ true → wants_bounce c ≡ true → kind_at_end config moment c ≡ Returns
end_returns config moment c failed wants =
    ap (λ b. if b then (if wants_bounce c then Returns else Buries) else if is_warning_due config moment c then Warns else if is_finished c then Finishes else Leaves) failed
    ∙ ap (λ b. if b then Returns else Buries) wants

pub end_buries : (config : Config) (moment : ℕ) (c : Control) → has_failed c ≡ true → wants_bounce c ≡ false → kind_at_end config moment c ≡ Buries
end_buries config moment c failed wants =
    ap (λ b. if b then (if wants_bounce c then Returns else Buries) else if is_warning_due config moment c then Warns else if is_finished c then Finishes else Leaves) failed
    ∙ ap (λ b. if b then Returns else Buries) wants

end_others : (config : Config) (moment : ℕ) (c : Control) → has_failed c ≡ false → kind_at_end config moment c ≡ (if is_warning_due config moment c then Warns else if is_finished c then Finishes else Leaves)
end_others config moment c failed =
    ap (λ b. if b then (if wants_bounce c then Returns else Buries) else if is_warning_due config moment c then Warns else if is_finished c then Finishes else Leaves) failed

pub end_warns : (config : Config) (moment : ℕ) (c : Control) → has_failed c ≡ false → is_warning_due config moment c ≡ true → kind_at_end config moment c ≡ Warns
end_warns config moment c failed due = end_others config moment c failed ∙ ap (λ b. if b then Warns else if is_finished c then Finishes else Leaves) due

pub end_by : (config : Config) (moment : ℕ) (c : Control) (done : Bool) → has_failed c ≡ false → is_warning_due config moment c ≡ false → is_finished c ≡ done → kind_at_end config moment c ≡ (if done then Finishes else Leaves)
end_by config moment c done failed due finished =
    end_others config moment c failed ∙ ap (λ b. if b then Warns else if is_finished c then Finishes else Leaves) due ∙ ap (λ b. if b then Finishes else Leaves) finished

due_by : (late queued a b c : Bool) → (late && queued && a && b && c) ≡ true → queued ≡ true
due_by true true a b c e = refl
due_by true false a b c e = e
due_by false queued a b c e = cc e

-- a warning is due where a row is still tried
pub due_queued : (config : Config) (moment : ℕ) (c : Control) → is_warning_due config moment c ≡ true → has_queued c ≡ true
due_queued config moment c e = due_by (is_late config.options.queue_warn c.created moment) (has_queued c) (not (bytes_eq c.sender null_sender)) (int_le (pos 0) c.class) (not c.marks.warned) e

-- ---- the next batch is the last one that is kept

pub last_is : (xs : List Batch) (x batch : Batch) → 0 < length xs → x ≡ get_or xs (length xs - 1) x → slice_get (reverse xs) 0 ≡ Some batch → x ≡ batch
last_is xs x batch some is first =
    is ∙ ap (λ k. get_or xs k x) (sym (omega arith)) ∙ sym (get_or-reverse xs 0 x some) ∙ get_or_from_slice_get (reverse xs) 0 batch x first
