-- Steps that draw no rows: whatever would draw them, and what doesn't do so stays as it is.
use Rattle.std.proofs.Common.{◌≡◌, ℕ, zero, suc, ◌<◌, List, [], ◌∷◌, Bool, true, false, not, option_map, reverse, Option, Some, None, Result, Ok, Err, if◌then◌else◌, refl, sym, ◌∙◌, ap, subst, arith}
use Rattle.std.specs.Prelude.{◌==◌, IsSome, is_some}
use Rattle.std.specs.List.{list_all}
use Rattle.mail_base.specs.Catalogs.{value_like}
use Rattle.mail_base.specs.declared.route.Resolved.{Resolved}
use Rattle.mail_base.specs.declared.route.Resolved.TheVariants.{Goes, Refuses}
use Rattle.ruleset_run.specs.Sites.{Macros}
use Rattle.mail_header.specs.Outgoing.{is_network}
use Rattle.mailer_pipe.specs.Arguments.{is_argument, takes_users}
use Rattle.mail_base.specs.declared.config.Config.{Config}
use Rattle.mail_base.specs.declared.control.Control.{Control}
use Rattle.mail_base.specs.declared.mailer.Mailer.{Mailer}
use Rattle.mail_base.specs.declared.message.Back.{Back}
use Rattle.mail_base.specs.declared.outcome.Result1.{Result1}
use Rattle.link_edge.specs.Dials.{DialSeen}
use Rattle.spawn_edge.specs.Spawned.{Spawned}
use Rattle.link_edge.specs.declared.peer.Peer.{Peer}
use Rattle.map_tables.specs.Answers.{Loaded}
use Rattle.spool_store.specs.Entries.{Table}
use Rattle.queue_table.specs.Commands.{Command, control_at}
use Rattle.queue_table.specs.declared.table.Table.{Table as Kept}
use Rattle.queue_run.specs.declared.batch.Batch.{Batch}
use Rattle.queue_run.specs.declared.letter.Letter.{Letter}
use Rattle.queue_run.specs.declared.runner.Did.{Did}
use Rattle.queue_run.specs.declared.runner.RunStop.{RunStop}
use Rattle.queue_run.specs.declared.runner.RunStop.TheVariants as stop
use Rattle.queue_run.specs.declared.runner.Runner.{Runner}
use Rattle.queue_run.specs.Backs.{Drawer, HasFilesCause, IsDrawnIn}
use Rattle.queue_run.specs.Holders.{Attempt, Holder, attempt_of, holder_of}
use Rattle.queue_run.specs.Kinds.{Buries, Finishes, Kind, Leaves, Returns, Settles, Starts, Talks, Waits, Warns, host_macros, kind_by, kind_by_mailer, kind_by_peers, kind_by_route, kind_by_users}
use Rattle.queue_run.specs.Meant.{Ground, IsLetter, IsLetterOf, IsMeant, ground_by, ground_of, host_of}
use Rattle.queue_run.specs.Steps.{Begins, By, Closes, Dies, Ends, Exits, Gives, Halt, Lacks, LetsGo, Loses, Luck, Misses, Outgrows, Records, StillRuns, Stepped, Tells, acted, asks, buries, fails, fault_if, finishes, halts, is_large, lacks, lacks_ids, leaves, records, sends, settles, starts, stepped, talks, waits, where_large}
use Rattle.queue_run.specs.Working.{Bench, Comes, Steps, kind_in, stepped_on}
use Rattle.queue_run.specs.declared.runner.Running.{Running}
use Rattle.queue_run.specs.Peers.{peers_of}
use Rattle.queue_run.specs.Results.{no_user}
use Rattle.queue_run.proofs.AttemptLemmas.{Trying}

-- a kind of step that draws no rows
abbrev pub DrawsNone : Kind → Type 0
DrawsNone Returns = ⊥
DrawsNone Warns = ⊥
DrawsNone kind = Unit {0}

-- ---- no file fails in such a step

module _ (config : Config) (moment : ℕ) (T : Table) (h : Holder) where
  abbrev Calm : Stepped → Type 0
  Calm x = x.over ≡ Some (By stop.FilesFault) → ⊥

  if_calm : (b : Bool) → fault_if b ≡ Some (By stop.FilesFault) → ⊥
  if_calm true e = cc e
  if_calm false e = cc e

  large_calm : (b : Bool) (x : Stepped) → Calm x → Calm (where_large b T h x)
  large_calm true x p e = p e
  large_calm false x p e = cc e

  lacks_calm : (reads : Bool) (cause : RunStop) → Calm (lacks reads T h cause)
  lacks_calm reads stop.NoMemory e = cc e
  lacks_calm true stop.SpoolFault e = cc e
  lacks_calm reads cause e = cc e

  waits_calm : (r : Attempt) (luck : Luck) → Calm (waits config moment T h r luck)
  waits_calm r (Exits status failed) e = if_calm failed e
  waits_calm r (Loses failed) e = if_calm failed e
  waits_calm r luck e = cc e

  settles_calm : (batch : Batch) (one : Result1) (luck : Luck) → Calm (settles config moment T h batch one luck)
  settles_calm batch one (Records failed) e = if_calm failed e
  settles_calm batch one (Lacks cause) e = lacks_calm false cause e
  settles_calm batch one luck e = cc e

  fails_calm : (batch : Batch) (start : Rattle.spawn_edge.specs.declared.event.Start.Start) (launch : Rattle.queue_run.specs.Deeds.Launch) (failed : Bool) → Calm (fails config moment T h batch start launch failed)
  fails_calm batch start (Rattle.queue_run.specs.Deeds.Given child missed) failed e = cc e
  fails_calm batch start launch failed e = if_calm failed e

  starts_calm : (batch : Batch) (mailer : Mailer) (luck : Luck) → Calm (starts config moment T h batch mailer luck)
  starts_calm batch mailer (Outgrows letter failed) e = large_calm (is_large mailer letter) (records config moment T h batch [] (Rattle.queue_run.specs.Results.alike Rattle.queue_run.specs.Results.too_large batch.places) failed) (if_calm failed) e
  starts_calm batch mailer (Begins letter start child missed) e =
      large_calm (not (is_large mailer letter)) (Rattle.queue_run.specs.Steps.does T (Rattle.queue_run.specs.Steps.running_for h child batch.places) (Rattle.queue_run.specs.Deeds.Starts h.id batch.places start (Rattle.queue_run.specs.Deeds.Given child missed) ∷ []) Rattle.queue_run.specs.declared.runner.Did.TheVariants.Began) (λ q. cc q) e
  starts_calm batch mailer (Misses letter start launch failed) e = large_calm (not (is_large mailer letter)) (fails config moment T h batch start launch failed) (fails_calm batch start launch failed) e
  starts_calm batch mailer (Lacks cause) e = lacks_calm true cause e
  starts_calm batch mailer luck e = cc e

  talks_calm : (batch : Batch) (mailer : Mailer) (luck : Luck) → Calm (talks config moment T h batch mailer luck)
  talks_calm batch mailer (Outgrows letter failed) e = large_calm (is_large mailer letter) (records config moment T h batch [] (Rattle.queue_run.specs.Results.alike Rattle.queue_run.specs.Results.too_large batch.places) failed) (if_calm failed) e
  talks_calm batch mailer (Ends letter talk failed) e = large_calm (not (is_large mailer letter)) (records config moment T h batch (Rattle.queue_run.specs.Deeds.Talks h.id batch.places talk ∷ []) talk.results failed) (if_calm failed) e
  talks_calm batch mailer (Lacks cause) e = lacks_calm true cause e
  talks_calm batch mailer luck e = cc e

  sends_calm : (b : Bool) (c : Command) (failed : Bool) → Calm (if b then halts T h (By stop.IdsSpent) else asks T h [] c Rattle.queue_run.specs.declared.runner.Did.TheVariants.Gave failed)
  sends_calm true c failed e = cc e
  sends_calm false c failed e = if_calm failed e

  buries_calm : (luck : Luck) → Calm (buries config moment T h luck)
  buries_calm (Dies failed) e = sends_calm (lacks_ids T []) (Rattle.queue_table.specs.Commands.Command.Return (Rattle.queue_table.specs.Directories.terms_of config) h.id [] moment) failed e
  buries_calm (Lacks cause) e = lacks_calm false cause e
  buries_calm luck e = cc e

  finishes_calm : (luck : Luck) → Calm (finishes T h luck)
  finishes_calm (Closes failed) e = if_calm failed e
  finishes_calm luck e = cc e

  leaves_calm : (luck : Luck) → Calm (leaves T h luck)
  leaves_calm LetsGo e = cc e
  leaves_calm luck e = cc e

  acted_calm : (k : Kind) (luck : Luck) → DrawsNone k → Calm (acted config moment T h k luck)
  acted_calm (Waits r) luck none e = waits_calm r luck e
  acted_calm (Settles batch result) luck none e = settles_calm batch result luck e
  acted_calm (Starts batch mailer) luck none e = starts_calm batch mailer luck e
  acted_calm (Talks batch mailer peers) luck none e = talks_calm batch mailer luck e
  acted_calm Returns luck none e = none
  acted_calm Buries luck none e = buries_calm luck e
  acted_calm Warns luck none e = none
  acted_calm Finishes luck none e = finishes_calm luck e
  acted_calm Leaves luck none e = leaves_calm luck e

-- ---- what is meant in such a step, whatever would draw rows

module _ (config : Config) (maps : Loaded) (moment : ℕ) (d : Drawer) where
  letter_any : (id : ℕ) (found : Option Control) (k : Kind) (letter : Letter) → IsLetterOf (ground_of config maps moment) id found k letter → IsLetterOf (ground_by config maps moment d) id found k letter
  letter_any id (Some control) (Starts batch mailer) letter x = record { sender = x.sender; date = x.date; macros = x.macros; headers = x.headers; text = x.text }
  letter_any id (Some control) (Talks batch mailer peers) letter x = record { sender = x.sender; date = x.date; macros = x.macros; headers = x.headers; text = x.text }
  letter_any id found k letter x = tt

  talk_any : (found : Option Control) (k : Kind) (letter : Letter) (talk : Rattle.queue_run.specs.Deeds.Talk) → Rattle.queue_run.specs.Meant.IsTalkOf (ground_of config maps moment) found k letter talk → Rattle.queue_run.specs.Meant.IsTalkOf (ground_by config maps moment d) found k letter talk
  talk_any (Some control) (Talks batch mailer peers) letter talk x = x
  talk_any found k letter talk x = tt

  bounce_any : (k : Kind) (found : Option Control) (body : List ℕ) (rows : List Rattle.mail_base.specs.declared.draw.Draw.Draw) (back : Back) → DrawsNone k → Rattle.queue_run.specs.Meant.IsBounceOf (ground_by config maps moment d) k found body rows back
  bounce_any Returns found body rows back none = absurd none
  bounce_any k found body rows back none = tt

  warning_any : (k : Kind) (found : Option Control) (rows : List Rattle.mail_base.specs.declared.draw.Draw.Draw) (back : Back) → DrawsNone k → Rattle.queue_run.specs.Meant.IsWarningOf (ground_by config maps moment d) k found rows back
  warning_any Warns found rows back none = absurd none
  warning_any k found rows back none = tt

  meant_any : (id : ℕ) (found : Option Control) (k : Kind) (luck : Luck) → DrawsNone k → IsMeant (ground_of config maps moment) id found k luck → IsMeant (ground_by config maps moment d) id found k luck
  meant_any id found k (Outgrows letter failed) none x = letter_any id found k letter x
  meant_any id found k (Begins letter start child missed) none x = (letter_any id found k letter x.0, x.1)
  meant_any id found k (Misses letter start launch failed) none x = (letter_any id found k letter x.0, x.1)
  meant_any id found k (Ends letter talk failed) none x = (letter_any id found k letter x.0, talk_any found k letter talk x.1)
  meant_any id found k (Gives body rows bounce failed) none x = bounce_any k found body rows bounce none
  meant_any id found k (Tells rows warning failed) none x = warning_any k found rows warning none
  meant_any id found k StillRuns none x = tt
  meant_any id found k (Exits status failed) none x = tt
  meant_any id found k (Loses failed) none x = tt
  meant_any id found k (Records failed) none x = tt
  meant_any id found k (Dies failed) none x = tt
  meant_any id found k (Closes failed) none x = tt
  meant_any id found k LetsGo none x = tt
  meant_any id found k (Lacks cause) none x = tt

  pub steps_any : (T : Table) (old new : Kept) (before after : Runner) (a b : Bench) (r : Result Did RunStop) → DrawsNone (kind_in (ground_of config maps moment) T (holder_of before)) → Steps (ground_of config maps moment) T old new before after a b r → Steps (ground_by config maps moment d) T old new before after a b r
  steps_any T old new before after a b r none s = record {
    luck = s.luck;
    meant = meant_any before.id (control_at before.id T.entries) (kind_in (ground_of config maps moment) T (holder_of before)) s.luck none s.meant;
    read = s.read;
    worked = s.worked;
    comes = s.comes;
    spool_cause = s.spool_cause;
    spawner_cause = s.spawner_cause;
    dialer_cause = s.dialer_cause;
  }

-- ---- and so what draws rows stays as it is

not_files : (config : Config) (moment : ℕ) (T : Table) (old new : Kept) (before after : Runner) (a b : Bench) (x : Stepped) (r : Result Did RunStop) → (x.over ≡ Some (By stop.FilesFault) → ⊥) → Comes config old new before a b x after r → r ≡ Err stop.FilesFault → ⊥
not_files config moment T old new before after a b x (Ok did) calm comes e = cc e
not_files config moment T old new before after a b x (Err cause) calm comes e = let f : cause ≡ stop.FilesFault = cc e in calm (comes ∙ ap (λ q. Some (By q)) f)

undrawn_by : (d : Drawer) (r : Result Did RunStop) → (r ≡ Err stop.FilesFault → ⊥) → HasFilesCause d.answerer.faults d.answerer.faults r
undrawn_by d (Ok did) calm = refl
undrawn_by d (Err stop.FilesFault) calm = absurd (calm refl)
undrawn_by d (Err cause) calm = refl

pub undrawn : (G : Ground) (T : Table) (old new : Kept) (before after : Runner) (a b : Bench) (r : Result Did RunStop) (d : Drawer) → DrawsNone (kind_in G T (holder_of before)) → Steps G T old new before after a b r → IsDrawnIn d d r
undrawn G T old new before after a b r d none s = record {
  steady = record { tells = refl; stays = λ told receiver rows. (λ x. x, λ x. x); later = omega arith };
  cause = undrawn_by d r (not_files G.config G.moment T old new before after a b (stepped_on G T (holder_of before) s.luck) r
      (acted_calm G.config G.moment T (holder_of before) (kind_in G T (holder_of before)) s.luck none) s.comes);
}

-- ---- which kinds of step draw none

module _ (config : Config) (maps : Loaded) (moment id : ℕ) where
  running_none : (found : Option Control) (rest : List Batch) (o : Option Running) → IsSome o → DrawsNone (kind_by config maps moment id found rest (option_map attempt_of o))
  running_none found rest None some = cc some
  running_none found rest (Some r) some = tt

  users_none : (batch : Batch) (mailer : Mailer) (b : Bool) → DrawsNone (kind_by_users batch mailer b)
  users_none batch mailer true = tt
  users_none batch mailer false = tt

  peers_none : (batch : Batch) (mailer : Mailer) (peers : List Peer) → DrawsNone (kind_by_peers batch mailer peers)
  peers_none batch mailer [] = tt
  peers_none batch mailer (p ∷ ps) = tt

  if_none : (b : Bool) (k l : Kind) → DrawsNone k → DrawsNone l → DrawsNone (if b then k else l)
  if_none true k l p q = p
  if_none false k l p q = q

  mailer_none : (macros : Macros) (batch : Batch) (found : Option Mailer) → DrawsNone (kind_by_mailer maps macros batch found)
  mailer_none macros batch None = tt
  mailer_none macros batch (Some mailer) =
      if_none (is_network mailer) (kind_by_peers batch mailer (peers_of maps mailer macros)) (if takes_users mailer then kind_by_users batch mailer (list_all is_argument batch.users) else Settles batch no_user)
      (peers_none batch mailer (peers_of maps mailer macros))
      (if_none (takes_users mailer) (kind_by_users batch mailer (list_all is_argument batch.users)) (Settles batch no_user) (users_none batch mailer (list_all is_argument batch.users)) tt)

  pub route_none : (control : Control) (batch : Batch) (way : Resolved) → DrawsNone (kind_by_route config maps id control batch way)
  route_none control batch (Refuses error) = tt
  route_none control batch (Goes triple) = mailer_none (host_macros config id control triple.host) batch (value_like triple.mailer config.mailers)

pub waits_none : (G : Ground) (T : Table) (r : Runner) → IsSome r.running → DrawsNone (kind_in G T (holder_of r))
waits_none G T r some = running_none G.config G.maps G.moment r.id (control_at r.id T.entries) (reverse r.rest.items) r.running some

pub tries_none : (G : Ground) (T : Table) (old : Kept) (r : Runner) → Trying G T old r → DrawsNone (kind_in G T (holder_of r))
tries_none G T old r t = subst DrawsNone (sym t.kind) (route_none G.config G.maps G.moment r.id t.held.entry.control t.batch t.batch.resolved)

-- ---- what the ways to a step say

pub at_rest : (o : Option Running) → false ≡ is_some o → o ≡ None
at_rest None e = refl
at_rest (Some r) e = cc e

pub some_left : (n : ℕ) → false ≡ (n == 0) → 0 < n
some_left zero e = cc e
some_left (suc n) e = omega arith

-- where nothing is seen of spawner and dialer
pub no_spawner : Spawned
no_spawner = record { told = None; missed = 0; faults = 0 }

pub no_dialer : DialSeen
no_dialer = record { told = None; missed = 0; faults = 0 }
