-- What each step does: at most one command, each deed of its holder.
use Rattle.std.proofs.Common.{◌≡◌, ℕ, ℤ, ◌≤◌, List, [], ◌∷◌, length, Bool, true, false, not, Some, if◌then◌else◌, refl, sym, ◌∙◌, ap, arith}
use Rattle.std.specs.Prelude.{All}
use Rattle.std.specs.List.{flat_map}
use Rattle.std.proofs.lemmas.List.Elements.{All-cons, All-nil}
use Rattle.mail_base.specs.declared.config.Config.{Config}
use Rattle.mail_base.specs.declared.mailer.Mailer.{Mailer}
use Rattle.mail_base.specs.declared.message.Back.{Back}
use Rattle.mail_base.specs.declared.outcome.Result1.{Result1}
use Rattle.mailer_pipe.specs.Ends.{ended_with}
use Rattle.spawn_edge.specs.declared.event.Poll.TheVariants as polls
use Rattle.spawn_edge.specs.declared.event.Start.{Start}
use Rattle.spool_store.specs.Entries.{Table}
use Rattle.queue_table.specs.Commands.{Command, changed_by}
use Rattle.queue_run.specs.declared.batch.Batch.{Batch}
use Rattle.queue_run.specs.declared.runner.RunStop.{RunStop}
use Rattle.queue_run.specs.declared.runner.RunStop.TheVariants as stop
use Rattle.queue_run.specs.Deeds.{Asks, Deed, Files, Frees, Given, IsOf, Launch, Polls, Starts as Launches, Talk, Talks as Delivers, asked_in}
use Rattle.queue_run.specs.Holders.{Attempt, Holder}
use Rattle.queue_run.specs.Kinds.{Buries, Finishes, Kind, Leaves, Returns, Settles, Starts, Talks, Waits, Warns}
use Rattle.queue_run.specs.Results.{alike}
use Rattle.queue_run.specs.Steps.{Begins, By, Closes, Dies, Ends, Exits, Gives, Lacks, LetsGo, Loses, Luck, Misses, Outgrows, Records, Stepped, StillRuns, Tells, acted, asks, buries, fails, finishes, halts, is_large, lacks, lacks_ids, leaves, misses, record_of, records, returns, sends, settles, starts, talks, waits, warns, where_large}

-- deeds that a step may have
pub record AreMine (id : ℕ) (ds : List Deed) : Type 0 where
  pub few : length (flat_map asked_in ds) ≤ 1
  pub own : All (IsOf id) ds

mine_none : (id : ℕ) → AreMine id []
mine_none id = record { few = omega arith; own = All-nil (IsOf id) }

mine_one : (id : ℕ) (d : Deed) → IsOf id d → length (flat_map asked_in (d ∷ [])) ≤ 1 → AreMine id (d ∷ [])
mine_one id d own few = record { few = few; own = All-cons (IsOf id) d [] own (All-nil (IsOf id)) }

mine_two : (id : ℕ) (d e : Deed) → IsOf id d → IsOf id e → length (flat_map asked_in (d ∷ e ∷ [])) ≤ 1 → AreMine id (d ∷ e ∷ [])
mine_two id d e own also few = record { few = few; own = All-cons (IsOf id) d (e ∷ []) own (All-cons (IsOf id) e [] also (All-nil (IsOf id))) }

module _ (config : Config) (moment : ℕ) (T : Table) (h : Holder) where
  abbrev Mine : Stepped → Type 0
  Mine x = AreMine h.id x.deeds

  if_mine : (b : Bool) (x y : Stepped) → Mine x → Mine y → Mine (if b then x else y)
  if_mine true x y p q = p
  if_mine false x y p q = q

  large_mine : (b : Bool) (x : Stepped) → Mine x → Mine (where_large b T h x)
  large_mine true x p = p
  large_mine false x p = mine_none h.id

  lacks_mine : (reads : Bool) (cause : RunStop) → Mine (lacks reads T h cause)
  lacks_mine reads stop.NoMemory = mine_none h.id
  lacks_mine true stop.SpoolFault = mine_none h.id
  lacks_mine reads cause = mine_none h.id

  misses_mine : (reads : Bool) (cause : RunStop) → Mine (misses reads T h cause)
  misses_mine reads stop.NoMemory = mine_none h.id
  misses_mine reads stop.FilesFault = mine_none h.id
  misses_mine true stop.SpoolFault = mine_none h.id
  misses_mine reads cause = mine_none h.id

  record_mine : (batch : Batch) (results : List Result1) (failed : Bool) → Mine (records config moment T h batch [] results failed)
  record_mine batch results failed = mine_one h.id (Asks (record_of config moment h.id batch.places results)) refl (omega arith)

  waits_mine : (r : Attempt) (luck : Luck) → Mine (waits config moment T h r luck)
  waits_mine r StillRuns = mine_one h.id (Polls h.id r.child polls.Runs) refl (omega arith)
  waits_mine r (Exits status failed) = mine_two h.id (Polls h.id r.child (polls.Over status)) (Asks (record_of config moment h.id r.places (alike (ended_with status) r.places))) refl refl (omega arith)
  waits_mine r (Loses failed) = mine_two h.id (Polls h.id r.child polls.Lost) (Asks (record_of config moment h.id r.places (alike Rattle.queue_run.specs.Results.device_fault r.places))) refl refl (omega arith)
  waits_mine r luck = mine_none h.id

  settles_mine : (batch : Batch) (one : Result1) (luck : Luck) → Mine (settles config moment T h batch one luck)
  settles_mine batch one (Records failed) = record_mine batch (alike one batch.places) failed
  settles_mine batch one (Lacks cause) = lacks_mine false cause
  settles_mine batch one luck = mine_none h.id

  fails_mine : (batch : Batch) (start : Start) (launch : Launch) (failed : Bool) → Mine (fails config moment T h batch start launch failed)
  fails_mine batch start (Given child missed) failed = mine_none h.id
  fails_mine batch start launch failed = mine_two h.id (Launches h.id batch.places start launch) (Asks (record_of config moment h.id batch.places (alike Rattle.queue_run.specs.Results.device_fault batch.places))) refl refl (omega arith)

  starts_mine : (batch : Batch) (mailer : Mailer) (luck : Luck) → Mine (starts config moment T h batch mailer luck)
  starts_mine batch mailer (Outgrows letter failed) = large_mine (is_large mailer letter) (records config moment T h batch [] (alike Rattle.queue_run.specs.Results.too_large batch.places) failed) (record_mine batch (alike Rattle.queue_run.specs.Results.too_large batch.places) failed)
  starts_mine batch mailer (Begins letter start child missed) = large_mine (not (is_large mailer letter)) (Rattle.queue_run.specs.Steps.does T (Rattle.queue_run.specs.Steps.running_for h child batch.places) (Launches h.id batch.places start (Given child missed) ∷ []) Rattle.queue_run.specs.declared.runner.Did.TheVariants.Began)
      (mine_one h.id (Launches h.id batch.places start (Given child missed)) refl (omega arith))
  starts_mine batch mailer (Misses letter start launch failed) = large_mine (not (is_large mailer letter)) (fails config moment T h batch start launch failed) (fails_mine batch start launch failed)
  starts_mine batch mailer (Lacks cause) = lacks_mine true cause
  starts_mine batch mailer luck = mine_none h.id

  talks_mine : (batch : Batch) (mailer : Mailer) (luck : Luck) → Mine (talks config moment T h batch mailer luck)
  talks_mine batch mailer (Outgrows letter failed) = large_mine (is_large mailer letter) (records config moment T h batch [] (alike Rattle.queue_run.specs.Results.too_large batch.places) failed) (record_mine batch (alike Rattle.queue_run.specs.Results.too_large batch.places) failed)
  talks_mine batch mailer (Ends letter talk failed) = large_mine (not (is_large mailer letter)) (records config moment T h batch (Delivers h.id batch.places talk ∷ []) talk.results failed)
      (mine_two h.id (Delivers h.id batch.places talk) (Asks (record_of config moment h.id batch.places talk.results)) refl refl (omega arith))
  talks_mine batch mailer (Lacks cause) = lacks_mine true cause
  talks_mine batch mailer luck = mine_none h.id

  sends_mine : (backs : List Back) (c : Command) (failed : Bool) → changed_by c ≡ Some h.id → Mine (sends T h backs c failed)
  sends_mine backs c failed own = if_mine (lacks_ids T backs) (halts T h (By stop.IdsSpent)) (asks T h [] c Rattle.queue_run.specs.declared.runner.Did.TheVariants.Gave failed) (mine_none h.id) (mine_one h.id (Asks c) own (omega arith))

  returns_mine : (luck : Luck) → Mine (returns config moment T h luck)
  returns_mine (Gives body rows bounce failed) = sends_mine (bounce ∷ []) (Rattle.queue_table.specs.Commands.Command.Return (Rattle.queue_table.specs.Directories.terms_of config) h.id (bounce ∷ []) moment) failed refl
  returns_mine (Lacks cause) = misses_mine true cause
  returns_mine luck = mine_none h.id

  buries_mine : (luck : Luck) → Mine (buries config moment T h luck)
  buries_mine (Dies failed) = sends_mine [] (Rattle.queue_table.specs.Commands.Command.Return (Rattle.queue_table.specs.Directories.terms_of config) h.id [] moment) failed refl
  buries_mine (Lacks cause) = lacks_mine false cause
  buries_mine luck = mine_none h.id

  warns_mine : (luck : Luck) → Mine (warns config moment T h luck)
  warns_mine (Tells rows warning failed) = sends_mine (warning ∷ []) (Rattle.queue_table.specs.Commands.Command.Warn (Rattle.queue_table.specs.Directories.terms_of config) h.id (warning ∷ []) moment) failed refl
  warns_mine (Lacks cause) = misses_mine false cause
  warns_mine luck = mine_none h.id

  finishes_mine : (luck : Luck) → Mine (finishes T h luck)
  finishes_mine (Closes failed) = mine_two h.id (Files h.id) (Frees h.id) refl refl (omega arith)
  finishes_mine luck = mine_none h.id

  leaves_mine : (luck : Luck) → Mine (leaves T h luck)
  leaves_mine LetsGo = mine_one h.id (Frees h.id) refl (omega arith)
  leaves_mine luck = mine_none h.id

  pub acted_mine : (kind : Kind) (luck : Luck) → AreMine h.id (acted config moment T h kind luck).deeds
  acted_mine (Waits r) luck = waits_mine r luck
  acted_mine (Settles batch result) luck = settles_mine batch result luck
  acted_mine (Starts batch mailer) luck = starts_mine batch mailer luck
  acted_mine (Talks batch mailer peers) luck = talks_mine batch mailer luck
  acted_mine Returns luck = returns_mine luck
  acted_mine Buries luck = buries_mine luck
  acted_mine Warns luck = warns_mine luck
  acted_mine Finishes luck = finishes_mine luck
  acted_mine Leaves luck = leaves_mine luck

  -- an end that is read is recorded
  pub polled_at_once : (r : Attempt) (luck : Luck) (id child : ℕ) (status : ℤ) (more : List Deed) → (waits config moment T h r luck).deeds ≡ Polls id child (polls.Over status) ∷ more
      → more ≡ Asks (record_of config moment h.id r.places (alike (ended_with status) r.places)) ∷ []
  polled_at_once r (Exits other failed) id child status more e =
      let same' : other ≡ status = cc e in
      let rest : Asks (record_of config moment h.id r.places (alike (ended_with other) r.places)) ∷ [] ≡ more = cc e in
      sym rest ∙ ap (λ q. Asks (record_of config moment h.id r.places (alike (ended_with q) r.places)) ∷ []) same'
  polled_at_once r luck id child status more e = cc e

  -- so is a delivery
  not_lacking : {A : Type 0} (cause : RunStop) (d : Deed) (more : List Deed) → (lacks true T h cause).deeds ≡ d ∷ more → A
  not_lacking stop.NoMemory d more e = cc e
  not_lacking stop.SpoolFault d more e = cc e
  not_lacking cause d more e = cc e

  where_done : {A : Type 0} (b : Bool) (x : Stepped) (d : Deed) (more : List Deed) → (x.deeds ≡ d ∷ more → A) → (where_large b T h x).deeds ≡ d ∷ more → A
  where_done true x d more go e = go e
  where_done false x d more go e = cc e

  pub talked_at_once : (batch : Batch) (mailer : Mailer) (luck : Luck) (id : ℕ) (places : List ℕ) (talk : Talk) (more : List Deed) → (talks config moment T h batch mailer luck).deeds ≡ Delivers id places talk ∷ more
      → more ≡ Asks (record_of config moment h.id batch.places talk.results) ∷ []
  talked_at_once batch mailer (Outgrows letter failed) id places talk more e =
      where_done (is_large mailer letter) (records config moment T h batch [] (alike Rattle.queue_run.specs.Results.too_large batch.places) failed) (Delivers id places talk) more (λ e. cc e) e
  talked_at_once batch mailer (Ends letter other failed) id places talk more e =
      where_done (not (is_large mailer letter)) (records config moment T h batch (Delivers h.id batch.places other ∷ []) other.results failed) (Delivers id places talk) more recorded e
    where
      recorded : Delivers h.id batch.places other ∷ Asks (record_of config moment h.id batch.places other.results) ∷ [] ≡ Delivers id places talk ∷ more → more ≡ Asks (record_of config moment h.id batch.places talk.results) ∷ []
      recorded e =
          let same : other ≡ talk = cc e in
          let rest : Asks (record_of config moment h.id batch.places other.results) ∷ [] ≡ more = cc e in
          sym rest ∙ ap (λ (q : Talk). Asks (record_of config moment h.id batch.places q.results) ∷ []) same
  talked_at_once batch mailer (Lacks cause) id places talk more e = not_lacking cause (Delivers id places talk) more e
  talked_at_once batch mailer luck id places talk more e = cc e
