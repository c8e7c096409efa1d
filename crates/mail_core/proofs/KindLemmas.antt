-- What is known where a step is of a kind, and the ways that steps go.
use Rattle.std.proofs.Common.{◌≡◌, ℕ, ℤ, List, [], ◌∷◌, Bool, true, false, not, Option, Some, None, if◌then◌else◌, refl, sym, ap}
use Rattle.std.specs.Prelude.{◌&&◌, bytes_eq, int_le, pos}
use Rattle.std.specs.List.{list_all}
use Rattle.mail_base.specs.Catalogs.{value_like}
use Rattle.mail_base.specs.Drawing.{null_sender}
use Rattle.mail_base.specs.States.{has_failed, has_queued, is_finished, wants_bounce}
use Rattle.mail_base.specs.declared.config.Config.{Config}
use Rattle.mail_base.specs.declared.control.Control.{Control}
use Rattle.mail_base.specs.declared.mailer.Mailer.{Mailer}
use Rattle.mail_base.specs.declared.message.Back.{Back}
use Rattle.mail_base.specs.declared.outcome.Result1.{Result1}
use Rattle.mail_base.specs.declared.route.Resolved.{Resolved}
use Rattle.mail_base.specs.declared.route.Resolved.TheVariants.{Goes, Refuses}
use Rattle.mail_base.specs.declared.route.Triple.{Triple}
use Rattle.link_edge.specs.declared.peer.Peer.{Peer}
use Rattle.map_tables.specs.Answers.{Loaded}
use Rattle.mail_header.specs.Outgoing.{is_network}
use Rattle.mailer_pipe.specs.Arguments.{is_argument, takes_users}
use Rattle.mailer_pipe.specs.Ends.{ended_with}
use Rattle.spawn_edge.specs.declared.event.Poll.TheVariants as polls
use Rattle.spawn_edge.specs.declared.event.Start.{Start}
use Rattle.spool_store.specs.Entries.{Table}
use Rattle.queue_table.specs.Commands.Command.{Return, Warn}
use Rattle.queue_table.specs.Directories.{terms_of}
use Rattle.queue_run.specs.declared.batch.Batch.{Batch}
use Rattle.queue_run.specs.declared.letter.Letter.{Letter}
use Rattle.queue_run.specs.declared.runner.Did.TheVariants as did
use Rattle.queue_run.specs.declared.runner.RunStop.{RunStop}
use Rattle.queue_run.specs.declared.runner.RunStop.TheVariants as stop
use Rattle.queue_run.specs.Deeds.{Failed, Files, Frees, Given, Launch, Missed, Polls, Starts as Launches, Talk, Talks as Delivers}
use Rattle.queue_run.specs.Holders.{Attempt, Holder}
use Rattle.queue_run.specs.Kinds.{Buries, Finishes, Kind, Leaves, Returns, Settles, Starts, Talks, Waits, Warns, host_macros, is_late, is_warning_due, kind_by, kind_by_entry, kind_by_mailer, kind_by_peers, kind_by_rest, kind_by_route, kind_by_users, kind_of}
use Rattle.queue_run.specs.Meant.{host_of}
use Rattle.queue_run.specs.Peers.{peers_of}
use Rattle.queue_run.specs.Results.{alike, device_fault, no_user, too_large}
use Rattle.queue_run.specs.Steps.{Begins, By, Closes, Dies, Ends, Exits, Gives, Halt, Lacks, LetsGo, Loses, Luck, Misses, Outgrows, Records, Stepped, StillRuns, Tells, Unfit, acted, asks, at_rest, buries, does, fails, finishes, frees, halts, is_large, lacks, lacks_ids, leaves, misses, record_of, records, returns, running_for, settles, starts, talks, waits, warns, where_large}
use Rattle.mail_core.specs.Attempts.{IsMailerOf}

-- ---- kinds

-- the batch is the next one that is tried
pub record IsNext (found : Option Control) (h : Holder) (batch : Batch) : Type 0 where
  pub control : Control
  pub found_is : found ≡ Some control
  pub rest : List Batch
  pub rest_is : h.rest ≡ batch ∷ rest
  pub idle : h.running ≡ None

-- all were tried, and the entry is so
pub record IsAtEnd (found : Option Control) (h : Holder) (P : Control → Type 0) : Type 0 where
  pub control : Control
  pub found_is : found ≡ Some control
  pub rest_is : h.rest ≡ []
  pub idle : h.running ≡ None
  pub holds : P control

-- the peers are those of the mailer
abbrev pub ArePeers : Config → Loaded → Holder → Control → Batch → Mailer → List Peer → Type 0
ArePeers config maps h control batch mailer peers = peers ≡ peers_of maps mailer (host_macros config h.id control (host_of batch.resolved))

pub record IsNextBy (config : Config) (found : Option Control) (h : Holder) (batch : Batch) (mailer : Mailer) (P : Control → Type 0) : Type 0 where
  pub next : IsNext found h batch
  pub goes : IsMailerOf config batch mailer
  pub holds : P next.control

abbrev pub Facts : Config → Loaded → Option Control → Holder → Kind → Type 0
Facts config maps found h (Waits r) = h.running ≡ Some r
Facts config maps found h (Settles batch result) = IsNext found h batch
Facts config maps found h (Starts batch mailer) = IsNextBy config found h batch mailer (λ control. Unit {0})
Facts config maps found h (Talks batch mailer peers) = IsNextBy config found h batch mailer (λ control. ArePeers config maps h control batch mailer peers)
Facts config maps found h Buries = IsAtEnd found h (λ c. (has_failed c ≡ true) × (wants_bounce c ≡ false))
Facts config maps found h Returns = IsAtEnd found h (λ c. (has_failed c ≡ true) × (wants_bounce c ≡ true))
Facts config maps found h Warns = IsAtEnd found h (λ c. has_queued c ≡ true)
Facts config maps found h Finishes = Unit {0}
Facts config maps found h Leaves = Unit {0}

second_of : (a b c d e : Bool) → (a && b && c && d && e) ≡ true → b ≡ true
second_of true true c d e h = refl
second_of true false c d e h = cc h
second_of false true c d e h = refl
second_of false false c d e h = cc h

module _ (config : Config) (maps : Loaded) (moment : ℕ) (found : Option Control) (h : Holder) where
  abbrev F : Kind → Type 0
  F kind = Facts config maps found h kind

  either_fact : (b : Bool) (x y : Kind) → F x → F y → F (if b then x else y)
  either_fact true x y p q = p
  either_fact false x y p q = q

  users_fact : (batch : Batch) (mailer : Mailer) (b : Bool) → IsNext found h batch → IsMailerOf config batch mailer → F (kind_by_users batch mailer b)
  users_fact batch mailer true n goes = record { next = n; goes = goes; holds = tt }
  users_fact batch mailer false n goes = n

  peers_fact : (batch : Batch) (mailer : Mailer) (peers : List Peer) (n : IsNext found h batch) → IsMailerOf config batch mailer → ArePeers config maps h n.control batch mailer peers → F (kind_by_peers batch mailer peers)
  peers_fact batch mailer [] n goes are = n
  peers_fact batch mailer (peer ∷ peers) n goes are = record { next = n; goes = goes; holds = are }

  mailer_fact : (batch : Batch) (triple : Triple) (o : Option Mailer) (n : IsNext found h batch) → batch.resolved ≡ Goes triple → value_like triple.mailer config.mailers ≡ o → F (kind_by_mailer maps (host_macros config h.id n.control triple.host) batch o)
  mailer_fact batch triple None n goes is = n
  mailer_fact batch triple (Some mailer) n goes is =
      let macros = host_macros config h.id n.control triple.host in
      let by : IsMailerOf config batch mailer = record { triple = triple; goes = goes; mailer_is = is } in
      let given = if takes_users mailer then kind_by_users batch mailer (list_all is_argument batch.users) else Settles batch no_user in
      either_fact (is_network mailer) (kind_by_peers batch mailer (peers_of maps mailer macros)) given
      (peers_fact batch mailer (peers_of maps mailer macros) n by (ap (λ (q : Resolved). peers_of maps mailer (host_macros config h.id n.control (host_of q))) (sym goes)))
      (either_fact (takes_users mailer) (kind_by_users batch mailer (list_all is_argument batch.users)) (Settles batch no_user) (users_fact batch mailer (list_all is_argument batch.users) n by) n)

  route_fact : (batch : Batch) (resolved : Resolved) (n : IsNext found h batch) → batch.resolved ≡ resolved → F (kind_by_route config maps h.id n.control batch resolved)
  route_fact batch (Refuses error) n goes = n
  route_fact batch (Goes triple) n goes = mailer_fact batch triple (value_like triple.mailer config.mailers) n goes refl

  due_fact : (control : Control) (b : Bool) → is_warning_due config moment control ≡ b → found ≡ Some control → h.rest ≡ [] → h.running ≡ None
      → F (if b then Warns else if is_finished control then Finishes else Leaves)
  due_fact control true due is none idle = record {
    control = control;
    found_is = is;
    rest_is = none;
    idle = idle;
    holds = second_of (is_late config.options.queue_warn control.created moment) (has_queued control) (not (bytes_eq control.sender null_sender)) (int_le (pos 0) control.class) (not control.marks.warned) due;
  }
  due_fact control false due is none idle = either_fact (is_finished control) Finishes Leaves tt tt

  back_fact : (control : Control) (b : Bool) → wants_bounce control ≡ b → has_failed control ≡ true → found ≡ Some control → h.rest ≡ [] → h.running ≡ None → F (if b then Returns else Buries)
  back_fact control true wants failed is none idle = record { control = control; found_is = is; rest_is = none; idle = idle; holds = (failed, wants) }
  back_fact control false wants failed is none idle = record { control = control; found_is = is; rest_is = none; idle = idle; holds = (failed, wants) }

  end_fact : (control : Control) (b : Bool) → has_failed control ≡ b → found ≡ Some control → h.rest ≡ [] → h.running ≡ None
      → F (if b then (if wants_bounce control then Returns else Buries) else if is_warning_due config moment control then Warns else if is_finished control then Finishes else Leaves)
  end_fact control true failed is none idle = back_fact control (wants_bounce control) refl failed is none idle
  end_fact control false failed is none idle = due_fact control (is_warning_due config moment control) refl is none idle

  rest_fact : (control : Control) (batches : List Batch) → found ≡ Some control → h.rest ≡ batches → h.running ≡ None → F (kind_by_rest config maps moment h.id control batches)
  rest_fact control [] is none idle = end_fact control (has_failed control) refl is none idle
  rest_fact control (batch ∷ batches) is rest idle = route_fact batch batch.resolved (record { control = control; found_is = is; rest = batches; rest_is = rest; idle = idle }) refl

  entry_fact : (o : Option Control) (batches : List Batch) → found ≡ o → h.rest ≡ batches → h.running ≡ None → F (kind_by_entry config maps moment h.id o batches)
  entry_fact None batches is rest idle = tt
  entry_fact (Some control) batches is rest idle = rest_fact control batches is rest idle

  by_fact : (batches : List Batch) (o : Option Attempt) → h.rest ≡ batches → h.running ≡ o → F (kind_by config maps moment h.id found batches o)
  by_fact batches (Some r) rest running = running
  by_fact batches None rest idle = entry_fact found batches refl rest idle

  pub kind_facts : Facts config maps found h (kind_of config maps moment found h)
  kind_facts = by_fact h.rest h.running refl refl

-- ---- ways

-- a batch is tried by a program or by peers
abbrev pub IsTryOf : Batch → Kind → Type 0
IsTryOf batch (Starts other mailer) = batch ≡ other
IsTryOf batch (Talks other mailer peers) = batch ≡ other
IsTryOf batch kind = ⊥

-- a start that gave no child
abbrev pub IsNoChild : Launch → Type 0
IsNoChild (Given child count) = ⊥
IsNoChild launch = Unit {0}

-- the bounce that a step sends, or the warning
abbrev pub SendsBounce : Luck → Back → Type 0
SendsBounce (Gives body rows bounce failed) back = bounce ≡ back
SendsBounce luck back = ⊥

abbrev pub SendsWarning : Luck → Back → Type 0
SendsWarning (Tells rows warning failed) back = warning ≡ back
SendsWarning luck back = ⊥

pub data Ways (config : Config) (moment : ℕ) (table : Table) (h : Holder) : Kind → Luck → Stepped → Type 0 where
  halted : (kind : Kind) (luck : Luck) (halt : Halt) → Ways config moment table h kind luck (halts table h halt)
  waited : (r : Attempt) → Ways config moment table h (Waits r) StillRuns (does table h (Polls h.id r.child polls.Runs ∷ []) did.Waits)
  exited : (r : Attempt) (status : ℤ) (failed : Bool) → Ways config moment table h (Waits r) (Exits status failed)
      (asks table (at_rest h) (Polls h.id r.child (polls.Over status) ∷ []) (record_of config moment h.id r.places (alike (ended_with status) r.places)) did.Recorded failed)
  lost : (r : Attempt) (failed : Bool) → Ways config moment table h (Waits r) (Loses failed)
      (asks table (at_rest h) (Polls h.id r.child polls.Lost ∷ []) (record_of config moment h.id r.places (alike device_fault r.places)) did.Recorded failed)
  settled : (batch : Batch) (result : Result1) (failed : Bool) → Ways config moment table h (Settles batch result) (Records failed) (records config moment table h batch [] (alike result batch.places) failed)
  outgrown : (kind : Kind) (batch : Batch) (letter : Letter) (failed : Bool) → IsTryOf batch kind → Ways config moment table h kind (Outgrows letter failed) (records config moment table h batch [] (alike too_large batch.places) failed)
  begun : (batch : Batch) (mailer : Mailer) (letter : Letter) (start : Start) (child count : ℕ) → Ways config moment table h (Starts batch mailer) (Begins letter start child count)
      (does table (running_for h child batch.places) (Launches h.id batch.places start (Given child count) ∷ []) did.Began)
  missed : (batch : Batch) (mailer : Mailer) (letter : Letter) (start : Start) (launch : Launch) (failed : Bool) → IsNoChild launch → Ways config moment table h (Starts batch mailer) (Misses letter start launch failed)
      (records config moment table h batch (Launches h.id batch.places start launch ∷ []) (alike device_fault batch.places) failed)
  delivered : (batch : Batch) (mailer : Mailer) (peers : List Peer) (letter : Letter) (talk : Talk) (failed : Bool) → Ways config moment table h (Talks batch mailer peers) (Ends letter talk failed)
      (records config moment table h batch (Delivers h.id batch.places talk ∷ []) talk.results failed)
  given_back : (luck : Luck) (bounce : Back) (failed : Bool) → SendsBounce luck bounce → Ways config moment table h Returns luck (asks table h [] (Return (terms_of config) h.id (bounce ∷ []) moment) did.Gave failed)
  buried : (luck : Luck) (failed : Bool) → Ways config moment table h Buries luck (asks table h [] (Return (terms_of config) h.id [] moment) did.Gave failed)
  warned : (luck : Luck) (warning : Back) (failed : Bool) → SendsWarning luck warning → Ways config moment table h Warns luck (asks table h [] (Warn (terms_of config) h.id (warning ∷ []) moment) did.Gave failed)
  finished : (luck : Luck) (failed : Bool) → Ways config moment table h Finishes luck (frees table (Files h.id ∷ Frees h.id ∷ []) failed)
  let_go : (luck : Luck) → Ways config moment table h Leaves luck (frees table (Frees h.id ∷ []) false)

module _ (config : Config) (moment : ℕ) (table : Table) (h : Holder) where
  abbrev W : Kind → Luck → Stepped → Type 0
  W kind luck x = Ways config moment table h kind luck x

  unfit_way : (kind : Kind) (luck : Luck) → W kind luck (halts table h Unfit)
  unfit_way kind luck = halted kind luck Unfit

  large_way : (kind : Kind) (luck : Luck) (b : Bool) (x : Stepped) → W kind luck x → W kind luck (where_large b table h x)
  large_way kind luck true x w = w
  large_way kind luck false x w = halted kind luck Unfit

  lacks_way : (kind : Kind) (luck : Luck) (reads : Bool) (cause : RunStop) → W kind luck (lacks reads table h cause)
  lacks_way kind luck reads stop.NoMemory = halted kind luck (By stop.NoMemory)
  lacks_way kind luck true stop.SpoolFault = halted kind luck (By stop.SpoolFault)
  lacks_way kind luck reads cause = halted kind luck Unfit

  misses_way : (kind : Kind) (luck : Luck) (reads : Bool) (cause : RunStop) → W kind luck (misses reads table h cause)
  misses_way kind luck reads stop.NoMemory = halted kind luck (By stop.NoMemory)
  misses_way kind luck reads stop.FilesFault = halted kind luck (By stop.FilesFault)
  misses_way kind luck true stop.SpoolFault = halted kind luck (By stop.SpoolFault)
  misses_way kind luck reads cause = halted kind luck Unfit

  waits_way : (r : Attempt) (luck : Luck) → W (Waits r) luck (waits config moment table h r luck)
  waits_way r StillRuns = waited r
  waits_way r (Exits status failed) = exited r status failed
  waits_way r (Loses failed) = lost r failed
  waits_way r luck = halted (Waits r) luck Unfit

  settles_way : (batch : Batch) (result : Result1) (luck : Luck) → W (Settles batch result) luck (settles config moment table h batch result luck)
  settles_way batch result (Records failed) = settled batch result failed
  settles_way batch result (Lacks cause) = lacks_way (Settles batch result) (Lacks cause) false cause
  settles_way batch result luck = halted (Settles batch result) luck Unfit

  fails_way : (batch : Batch) (mailer : Mailer) (letter : Letter) (start : Start) (launch : Launch) (failed : Bool) → W (Starts batch mailer) (Misses letter start launch failed) (fails config moment table h batch start launch failed)
  fails_way batch mailer letter start (Given child count) failed = halted (Starts batch mailer) (Misses letter start (Given child count) failed) Unfit
  fails_way batch mailer letter start (Failed count) failed = missed batch mailer letter start (Failed count) failed tt
  fails_way batch mailer letter start Missed failed = missed batch mailer letter start Missed failed tt

  starts_way : (batch : Batch) (mailer : Mailer) (luck : Luck) → W (Starts batch mailer) luck (starts config moment table h batch mailer luck)
  starts_way batch mailer (Outgrows letter failed) =
      large_way (Starts batch mailer) (Outgrows letter failed) (is_large mailer letter) (records config moment table h batch [] (alike too_large batch.places) failed) (outgrown (Starts batch mailer) batch letter failed refl)
  starts_way batch mailer (Begins letter start child count) =
      large_way (Starts batch mailer) (Begins letter start child count) (not (is_large mailer letter)) (does table (running_for h child batch.places) (Launches h.id batch.places start (Given child count) ∷ []) did.Began) (begun batch mailer letter start child count)
  starts_way batch mailer (Misses letter start launch failed) =
      large_way (Starts batch mailer) (Misses letter start launch failed) (not (is_large mailer letter)) (fails config moment table h batch start launch failed) (fails_way batch mailer letter start launch failed)
  starts_way batch mailer (Lacks cause) = lacks_way (Starts batch mailer) (Lacks cause) true cause
  starts_way batch mailer luck = halted (Starts batch mailer) luck Unfit

  talks_way : (batch : Batch) (mailer : Mailer) (peers : List Peer) (luck : Luck) → W (Talks batch mailer peers) luck (talks config moment table h batch mailer luck)
  talks_way batch mailer peers (Outgrows letter failed) =
      large_way (Talks batch mailer peers) (Outgrows letter failed) (is_large mailer letter) (records config moment table h batch [] (alike too_large batch.places) failed) (outgrown (Talks batch mailer peers) batch letter failed refl)
  talks_way batch mailer peers (Ends letter talk failed) =
      large_way (Talks batch mailer peers) (Ends letter talk failed) (not (is_large mailer letter)) (records config moment table h batch (Delivers h.id batch.places talk ∷ []) talk.results failed) (delivered batch mailer peers letter talk failed)
  talks_way batch mailer peers (Lacks cause) = lacks_way (Talks batch mailer peers) (Lacks cause) true cause
  talks_way batch mailer peers luck = halted (Talks batch mailer peers) luck Unfit

  sends_way : (kind : Kind) (luck : Luck) (b : Bool) (x : Stepped) → W kind luck x → W kind luck (if b then halts table h (By stop.IdsSpent) else x)
  sends_way kind luck true x w = halted kind luck (By stop.IdsSpent)
  sends_way kind luck false x w = w

  returns_way : (luck : Luck) → W Returns luck (returns config moment table h luck)
  returns_way (Gives body rows bounce failed) = sends_way Returns (Gives body rows bounce failed) (lacks_ids table (bounce ∷ [])) (asks table h [] (Return (terms_of config) h.id (bounce ∷ []) moment) did.Gave failed) (given_back (Gives body rows bounce failed) bounce failed refl)
  returns_way (Lacks cause) = misses_way Returns (Lacks cause) true cause
  returns_way luck = halted Returns luck Unfit

  buries_way : (luck : Luck) → W Buries luck (buries config moment table h luck)
  buries_way (Dies failed) = sends_way Buries (Dies failed) (lacks_ids table []) (asks table h [] (Return (terms_of config) h.id [] moment) did.Gave failed) (buried (Dies failed) failed)
  buries_way (Lacks cause) = lacks_way Buries (Lacks cause) false cause
  buries_way luck = halted Buries luck Unfit

  warns_way : (luck : Luck) → W Warns luck (warns config moment table h luck)
  warns_way (Tells rows warning failed) = sends_way Warns (Tells rows warning failed) (lacks_ids table (warning ∷ [])) (asks table h [] (Warn (terms_of config) h.id (warning ∷ []) moment) did.Gave failed) (warned (Tells rows warning failed) warning failed refl)
  warns_way (Lacks cause) = misses_way Warns (Lacks cause) false cause
  warns_way luck = halted Warns luck Unfit

  finishes_way : (luck : Luck) → W Finishes luck (finishes table h luck)
  finishes_way (Closes failed) = finished (Closes failed) failed
  finishes_way luck = halted Finishes luck Unfit

  leaves_way : (luck : Luck) → W Leaves luck (leaves table h luck)
  leaves_way LetsGo = let_go LetsGo
  leaves_way luck = halted Leaves luck Unfit

  -- a step of each kind goes in one of the ways
  pub ways : (kind : Kind) (luck : Luck) → Ways config moment table h kind luck (acted config moment table h kind luck)
  ways (Waits r) luck = waits_way r luck
  ways (Settles batch result) luck = settles_way batch result luck
  ways (Starts batch mailer) luck = starts_way batch mailer luck
  ways (Talks batch mailer peers) luck = talks_way batch mailer peers luck
  ways Returns luck = returns_way luck
  ways Buries luck = buries_way luck
  ways Warns luck = warns_way luck
  ways Finishes luck = finishes_way luck
  ways Leaves luck = leaves_way luck
