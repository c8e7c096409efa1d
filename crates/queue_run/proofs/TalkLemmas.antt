-- The exits of a delivery to peers.
use Rattle.std.proofs.Common.{◌≡◌, ℕ, List, [], ◌∷◌, length, false, not, Result, arith, refl, sym, ◌∙◌, ap, subst, reverse, append-nil, Contains}
use Rattle.std.specs.Prelude.{All}
use Rattle.std.proofs.lemmas.List.Elements.{All-head}
use Rattle.mail_base.specs.Histories.{Gains}
use Rattle.mail_base.specs.declared.mailer.Mailer.{Mailer}
use Rattle.mail_base.specs.declared.outcome.Result1.{Result1}
use Rattle.link_edge.specs.Dials.{DialSeen}
use Rattle.link_edge.specs.declared.peer.Peer.{Peer}
use Rattle.mailer_smtp.specs.Deliveries.{Delivered}
use Rattle.mailer_smtp.specs.Talks.{IsDelivery}
use Rattle.mailer_smtp.specs.declared.letter.Letter.{Letter as Mail}
use Rattle.spawn_edge.specs.Spawned.{Spawned}
use Rattle.spool_disk.specs.Spooled.{Spooled}
use Rattle.spool_store.specs.Entries.{Table}
use Rattle.spool_store.specs.declared.held.Held.{Held}
use Rattle.queue_table.specs.Calls.{HoldsTable, store}
use Rattle.queue_table.specs.Commands.{control_at}
use Rattle.queue_table.specs.declared.table.Table.{Table as Kept}
use Rattle.queue_run.specs.declared.batch.Batch.{Batch}
use Rattle.queue_run.specs.declared.letter.Letter.{Letter}
use Rattle.queue_run.specs.declared.runner.Did.{Did}
use Rattle.queue_run.specs.declared.runner.RunStop.{RunStop}
use Rattle.queue_run.specs.declared.runner.Runner.{Runner}
use Rattle.queue_run.specs.Deeds.{Talk, Talks as Delivers}
use Rattle.queue_run.specs.Handovers.{mail_of, speech_of}
use Rattle.queue_run.specs.Holders.{holder_of}
use Rattle.queue_run.specs.Kinds.{Kind, Talks}
use Rattle.queue_run.specs.Meant.{Ground, IsTalkOf}
use Rattle.queue_run.specs.Ready.{IsReady, IsUntried}
use Rattle.queue_run.specs.Steps.{Ends, is_large, records, where_large}
use Rattle.queue_run.specs.Working.{IsWhole, Steps, bench, kind_in}
use Rattle.queue_run.specs.inner.Puts.{IsPutAs}
use Rattle.queue_run.proofs.LetterLemmas.{IsHandedFor, found, meant_as}
use Rattle.queue_run.proofs.PutLemmas.{turned}
use Rattle.queue_run.proofs.SettleLemmas.{IsWithout, exit_recorded}
use Rattle.queue_run.proofs.StepLemmas.{stepped_kind}
use Rattle.queue_run.proofs.WaitLemmas.{gains_none}

-- each row of the first batch has its user
pub first_users : (kept : Kept) (r : Runner) (ready : IsReady kept r) (batch : Batch) (rest : List Batch) → reverse r.rest.items ≡ batch ∷ rest → length batch.users ≡ length batch.places
first_users kept r ready batch rest is =
    let u = All-head (IsUntried ready.held.entry.control.rows) batch rest (subst (All (IsUntried ready.held.entry.control.rows)) is ready.untried) in u.users

-- what is handed over has the users of the batch
abbrev pub IsMailFor : Ground → Kept → ℕ → Batch → Letter → Mail → Type 0
IsMailFor G old id batch letter mail =
    (h : Held) → Contains (store old).entries h → h.entry.id ≡ id → mail ≡ mail_of G.config h.entry.control batch.users letter

module _ (G : Ground) (T : Table) (old new : Kept) (before now : Runner) (batch : Batch) (mailer : Mailer) (peers : List Peer) (s m s' : Spooled) (sp : Spawned) (d d' : DialSeen) where
  abbrev K : Kind
  K = Talks batch mailer peers

  abbrev talk_of : (mail : Mail) (results : List Result1) → Delivered (speech_of mailer) mail peers d d' results → Talk
  talk_of mail results h = record { missed = d.missed; events = h.events; missed_after = d'.missed; fault = h.fault; results = results }

  talk_as : (letter : Letter) (mail : Mail) (results : List Result1) (h : Delivered (speech_of mailer) mail peers d d' results) → kind_in G T (holder_of before) ≡ K → HoldsTable old T → IsReady old before
      → IsMailFor G old before.id batch letter mail → length results ≡ length mail.users → length batch.users ≡ length batch.places
      → IsTalkOf G (control_at before.id T.entries) (kind_in G T (holder_of before)) letter (talk_of mail results h)
  talk_as letter mail results h kind holds ready is each users =
      let talk = talk_of mail results h in
      let f = found old T before holds ready in
      let same = is f.held f.among f.is in
      subst (λ q. IsTalkOf G (control_at before.id T.entries) q letter talk) (sym kind)
      (subst (λ q. IsTalkOf G q K letter talk) (sym f.at) (record {
        is = subst (λ q. IsDelivery (speech_of mailer) q peers d.missed h.events d'.missed h.fault results) same h.is;
        each = each ∙ ap (λ (q : Mail). length q.users) same ∙ users;
      }))

  -- it was delivered, or that was tried
  pub exit_talked : (letter : Letter) (mail : Mail) (results : List Result1) (moment : ℕ) (r : Result Did RunStop) (ready : IsReady old before) → kind_in G T (holder_of before) ≡ K → is_large mailer letter ≡ false
      → IsHandedFor G T old before K s m letter → G.moment ≡ moment → IsWithout before now batch → HoldsTable old T → IsWhole G.config old
      → IsMailFor G old before.id batch letter mail → Delivered (speech_of mailer) mail peers d d' results → length results ≡ length mail.users
      → IsPutAs old new before.id batch.places results moment ready.held.entry.control r m s'
      → Steps G T old new before now (bench s sp d) (bench s' sp d') r
  exit_talked letter mail results moment r ready kind small handed at w holds whole is h each put =
      let talk = talk_of mail results h in
      let users = first_users old before ready batch (reverse now.rest.items) (turned before.rest.items now.rest.items batch w.split) in
      exit_recorded G T old new before now (bench s sp d) (bench s' sp d') (λ failed. Ends letter talk failed) (Delivers before.id batch.places talk ∷ []) batch results moment r m ready
      (λ failed. stepped_kind G T old new before now (bench s sp d) (bench s' sp d') K (Ends letter talk failed) kind
      ∙ ap (λ q. where_large (not q) T (holder_of before) (records G.config G.moment T (holder_of before) batch (Delivers before.id batch.places talk ∷ []) results failed)) small)
      (λ failed. (meant_as G T before K letter kind handed.meant, talk_as letter mail results h kind holds ready is each users))
      (λ failed files e stands. handed.read files e stands) (λ failed. refl) (λ failed. record { missed = refl; after = refl; faults = h.counts })
      refl at w holds whole handed.reads handed.same put
      (record {
        spawner = gains_none sp.told;
        dialer = subst (Gains d.told d'.told) (sym (append-nil h.events)) h.told;
        spawner_faults = omega arith;
        dialer_faults = h.counts.later;
      })
      (λ other ne runs. runs)
