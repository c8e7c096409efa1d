-- Runs one after another: what each keeps, the next one finds.
use Rattle.std.proofs.Common.{◌≡◌, ◌⊎◌, inl, inr, ⊎_elim, ℕ, ℤ, zero, suc, ◌<◌, List, [], ◌∷◌, ◌++◌, Bool, true, false, Option, Some, None, refl, sym, ◌∙◌, ap, subst, append_assoc}
use Rattle.std.specs.Prelude.{All, Contains, slice_get}
use Rattle.std.specs.List.{AllZip}
use Rattle.std.specs.List.Sorted.{IsStrictlySortedBy}
use Rattle.std.specs.Ordering.{nat_cmp}
use Rattle.std.proofs.lemmas.List.{append-nil}
use Rattle.std.proofs.lemmas.List.Elements.{All-nil, All-weaker}
use Rattle.std.proofs.lemmas.Option.{none-some, same_Some}
use Rattle.mail_base.specs.Limits.{IsId}
use Rattle.mail_base.specs.declared.control.Row.{Row}
use Rattle.mail_base.specs.declared.control.State.{State as RowState}
use Rattle.mail_base.specs.declared.outcome.Result1.{Result1}
use Rattle.mail_base.specs.declared.outcome.Result1.TheVariants.{Sent as WasSent}
use Rattle.mailer_pipe.specs.Ends.{ended_with}
use Rattle.smtp_receive.specs.Replies.{stored_text}
use Rattle.spawn_edge.specs.declared.event.Poll.TheVariants.{Over}
use Rattle.spawn_edge.specs.declared.event.Start.{Start as Child}
use Rattle.spool_disk.specs.Disk.{FileMap}
use Rattle.spool_store.specs.Entries.{Stored, Table, ids}
use Rattle.spool_store.specs.Openings.{IsNext}
use Rattle.spool_store.specs.Settled.{HasFiles, StandsFor, in_name, spot_of}
use Rattle.spool_store.specs.Queue.{IsRead}
use Rattle.spool_store.proofs.Carrying.{live_read}
use Rattle.queue_table.specs.Asked.{LacksLast, Leaves}
use Rattle.queue_table.specs.Commands.{Command, after}
use Rattle.queue_table.specs.Soundness.{CanDo, IsSound, IsSoundEntry}
use Rattle.queue_table.proofs.AskedLemmas.{table_last}
use Rattle.queue_table.proofs.GoingLemmas.{command_goes}
use Rattle.queue_table.proofs.SoundLemmas.{command_sound}
use Rattle.queue_run.specs.Deeds.{Asks, Claims, Files, Frees, Launch, Polls, Starts, Talk, Talks}
use Rattle.queue_run.specs.Results.{alike}
use Rattle.queue_run.specs.Steps.{record_of}
use Rattle.mail_made.proofs.PartLemmas.{cuts_taken}
use Rattle.mail_core.specs.Acks.{AreAcked, put_by}
use Rattle.mail_core.specs.Attempts.{IsDelivery, IsEndRecorded, IsStart, IsTryOfRow, WereSent}
use Rattle.mail_core.specs.Beginning.{Start, beginning, run_over, ticks}
use Rattle.mail_core.specs.Effects.{Does, Effect, HangsUp, Sends, Takes, Ticks, commanded, table_after}
use Rattle.mail_core.specs.Histories.{Chain, HandsOver, HasKept, HasRow, IsFree, IsPast, IsRowAt, IsUnrecorded, LeavesPast, Past, all_of, hands_nothing, hands_one, last_of, left_by}
use Rattle.mail_core.specs.Judges.{untold}
use Rattle.mail_core.specs.Lasting.{Comes, IsSentAt, Lasts, RowCame, is_there, went_on}
use Rattle.mail_core.specs.Machine.{Turn, run}
use Rattle.mail_core.specs.Meant.{IsRunMeant}
use Rattle.mail_core.specs.Runs.{IsLeft}
use Rattle.mail_core.specs.Sites.{Site}
use Rattle.mail_core.specs.States.{Seat}
use Rattle.mail_core.proofs.EntryLemmas.{sound_after}
use Rattle.mail_core.proofs.FollowLemmas.{table_more}
use Rattle.mail_core.proofs.HeadLemmas.{acked_over}
use Rattle.mail_core.proofs.HeldLemmas.{AreGood, IsGood, IsHeldBy, good_at, good_join}
use Rattle.mail_core.proofs.KeptLemmas.{put_lasts}
use Rattle.mail_core.proofs.LastLemmas.{lasts_along, row_sent, sent_along}
use Rattle.mail_core.proofs.LawLemmas.{fit_parts, record_sent, result_sent, tried_at}
use Rattle.mail_core.proofs.LeadLemmas.{AreFit, acked_front, fit_join}
use Rattle.mail_core.proofs.RunsLemmas.{Works, run_works}
use Rattle.mail_core.proofs.SentLemmas.{IsPutIn, message_of_sent}
use Rattle.mail_core.proofs.TurnedLemmas.{none_apart}

-- ---- what became of entries, in two parts

comes_join : (old mid new : RowState) → Comes old mid → Comes mid new → Comes old new
comes_join old mid new (is_there _) k = k
comes_join old mid new (went_on _ between _ goes comes) k = went_on old between new goes (comes_join between mid new comes k)

rows_join : (old mid new : List Row) → AllZip RowCame old mid → AllZip RowCame mid new → AllZip RowCame old new
rows_join [] [] [] h k = tt
rows_join [] [] (n ∷ new) h k = absurd k
rows_join [] (m ∷ mid) new h k = absurd h
rows_join (o ∷ old) [] new h k = absurd h
rows_join (o ∷ old) (m ∷ mid) [] h k = absurd k
rows_join (o ∷ old) (m ∷ mid) (n ∷ new) h k = (
  record { address = k.0.address ∙ h.0.address; primary = k.0.primary ∙ h.0.primary; state = comes_join o.state m.state n.state h.0.state k.0.state },
  rows_join old mid new h.1 k.1,
)

rows_same : (rows : List Row) → AllZip RowCame rows rows
rows_same [] = tt
rows_same (row ∷ rows) = (record { address = refl; primary = refl; state = is_there row.state }, rows_same rows)

lasts_join : (table last : Table) (s : Stored) (l : Lasts table s) → Lasts last l.now → Lasts last s
lasts_join table last s l k = record {
  now = k.now;
  among = k.among;
  came = record {
    id = k.came.id ∙ l.came.id;
    dir = k.came.dir ∙ l.came.dir;
    body = k.came.body ∙ l.came.body;
    parent = k.came.parent ∙ l.came.parent;
    rows = rows_join s.control.rows l.now.control.rows k.now.control.rows l.came.rows k.came.rows;
  };
}

lasts_here : (last : Table) (s : Stored) → Contains last.entries s → Lasts last s
lasts_here last s among = record { now = s; among = among; came = record { id = refl; dir = refl; body = refl; parent = refl; rows = rows_same s.control.rows } }

-- the row at a place
record IsCameTo (rows : List Row) (place : ℕ) (row : Row) : Type 0 where
  now : Row
  there : slice_get rows place ≡ Some now
  came : RowCame row now

row_came : (old new : List Row) (place : ℕ) (row : Row) → AllZip RowCame old new → slice_get old place ≡ Some row → IsCameTo new place row
row_came [] [] place row each there = absurd (none-some row there)
row_came [] (n ∷ new) place row each there = absurd each
row_came (o ∷ old) [] place row each there = absurd each
row_came (o ∷ old) (n ∷ new) zero row each there = record { now = n; there = refl; came = subst (λ (q : Row). RowCame q n) (same_Some o row there) each.0 }
row_came (o ∷ old) (n ∷ new) (suc place) row each there = let r = row_came old new place row each.1 there in record { now = r.now; there = r.there; came = r.came }

row_lasts : (table last : Table) (id place : ℕ) (row : Row) (r : IsRowAt table id place row) → Lasts last r.entry → HasRow last id place row
row_lasts table last id place row r l =
    let c = row_came r.entry.control.rows l.now.control.rows place row l.came.rows r.there in
    record { now = c.now; at = record { entry = l.now; among = l.among; is = l.came.id ∙ r.is; there = c.there }; came = c.came }

sent_lasts : (table last : Table) (id place : ℕ) (s : IsSentAt table id place) → Lasts last s.entry → IsSentAt last id place
sent_lasts table last id place s l =
    let r = row_sent s.entry.control.rows l.now.control.rows place s.row l.came.rows s.there s.sent in
    record { entry = l.now; among = l.among; is = l.came.id ∙ s.is; row = r.row; there = r.there; sent = r.sent }

-- ---- sound entries

-- all of a sound table but its first free id
pub record AreSound (entries : List Stored) : Type 0 where
  pub ascending : IsStrictlySortedBy nat_cmp (ids entries)
  pub each : All (IsSoundEntry entries) entries

none_sound : AreSound []
unfolding IsStrictlySortedBy
none_sound = record { ascending = tt; each = All-nil (IsSoundEntry []) }

sound_entries : (table : Table) → IsSound table → AreSound table.entries
sound_entries table sound = record { ascending = sound.ascending; each = sound.each }

sound_table : (table : Table) (entries : List Stored) → table.entries ≡ entries → IsFree table → AreSound entries → IsSound table
sound_table table entries same free sound =
    let mine = subst AreSound (sym same) sound in
    record { ascending = mine.ascending; below = free; each = mine.each }

-- ---- a past run

-- what the machine does at the turns of a run, behind the reading by which its list was fixed
record IsDone (site : Site) (first : Table) (effects : List Effect) : Type 0 where
  fit : AreFit first effects
  good : AreGood site first [] effects
  acked : AreAcked [] first effects

ticks_fit : (first : Option ℕ) (table : Table) → AreFit table (ticks first)
ticks_fit None table = tt
ticks_fit (Some reading) table = (tt, tt)

ticks_good : (first : Option ℕ) (site : Site) (table : Table) → AreGood site table [] (ticks first)
ticks_good None site table = tt
ticks_good (Some reading) site table = (tt, tt)

ticks_table : (first : Option ℕ) (table : Table) → table ≡ table_after table (ticks first)
ticks_table None table = refl
ticks_table (Some reading) table = refl

over_done : (site : Site) (start : Start) (turns : List Turn) → IsRunMeant untold site (beginning start) turns → IsSound start.table → IsDone site start.table (run_over site start turns).effects
over_done site start turns meant sound =
    let first = ticks start.first in
    let effects = (run site (beginning start) turns).effects in
    let w : Works site start.table first (run site (beginning start) turns) = run_works site start.table untold first (beginning start) turns meant (record {
      table_is = ticks_table start.first start.table;
      sound = sound;
      held = All-nil (λ (s : Seat). IsHeldBy site start.table first s.holder);
      apart = none_apart site;
    }) in
    record {
      fit = fit_join start.table first effects (ticks_fit start.first start.table) w.fit;
      good = good_join site start.table [] first effects (ticks_good start.first site start.table) w.good;
      acked = acked_over untold site start turns meant;
    }

-- what a run does that hands a message over
handed_done : (site : Site) (table : Table) (effects : List Effect) → HandsOver site table effects → IsDone site table effects
handed_done site table [] hands_nothing = record { fit = tt; good = tt; acked = tt }
handed_done site table _ (hands_one moment message made taken) = record {
  fit = (cuts_taken site.config site.maps moment message table.next made taken, tt);
  good = (tt, tt);
  acked = (tt, tt);
}

past_done : (p : Past) → IsPast p → IsSound p.start.table → IsDone p.site p.start.table (all_of p)
past_done p (inl is) sound = subst (IsDone p.site p.start.table) is.whole (over_done p.site p.start p.turns is.meant sound)
past_done p (inr is) sound = handed_done p.site p.start.table (all_of p) is.hands

past_free : (p : Past) → IsPast p → IsFree p.start.table
past_free p (inl is) = is.free
past_free p (inr is) = is.free

-- ---- chains

-- one of the runs of a chain
record IsRunOf (p : Past) (later : List Past) (last : Table) : Type 0 where
  is : IsPast p
  sound : IsSound p.start.table
  fit : AreFit p.start.table p.done
  good : AreGood p.site p.start.table [] (all_of p)
  acked : AreAcked [] p.start.table p.done
  leaves : IsSound (left_by p)
  rest : Chain (left_by p).entries later last

first_run : (entries : List Stored) (p : Past) (later : List Past) (last : Table) → AreSound entries → Chain entries (p ∷ later) last → IsRunOf p later last
first_run entries p later last sound chain =
    let is = chain.1.0 in
    let begins = sound_table p.start.table entries chain.0 (past_free p is) sound in
    let done = past_done p is begins in
    let fit = fit_parts p.start.table p.done (last_of p.last) done.fit in
    record {
      is = is;
      sound = begins;
      fit = fit.0;
      good = done.good;
      acked = acked_front [] p.start.table p.done (last_of p.last) done.acked;
      leaves = sound_after p.start.table p.done begins fit.0;
      rest = chain.1.1;
    }

run_at : (entries : List Stored) (before : List Past) (p : Past) (later : List Past) (last : Table) → AreSound entries → Chain entries (before ++ p ∷ later) last → IsRunOf p later last
run_at entries [] p later last sound chain = first_run entries p later last sound chain
run_at entries (q ∷ before) p later last sound chain =
    let r = first_run entries q (before ++ p ∷ later) last sound chain in
    run_at (left_by q).entries before p later last (sound_entries (left_by q) r.leaves) r.rest

-- up to a run a chain is one to the table of its beginning
up_to : (entries : List Stored) (before : List Past) (p : Past) (later : List Past) (last : Table) → Chain entries (before ++ p ∷ later) last → Chain entries before p.start.table
up_to entries [] p later last chain = (chain.0, past_free p chain.1.0)
up_to entries (q ∷ before) p later last chain = (chain.0, (chain.1.0, up_to (left_by q).entries before p later last chain.1.1))

pub chain_sound : (entries : List Stored) (runs : List Past) (last : Table) → AreSound entries → Chain entries runs last → IsSound last
chain_sound entries [] last sound chain = sound_table last entries chain.0 chain.1 sound
chain_sound entries (p ∷ later) last sound chain =
    let r = first_run entries p later last sound chain in
    chain_sound (left_by p).entries later last (sound_entries (left_by p) r.leaves) r.rest

chain_lasts : (entries : List Stored) (runs : List Past) (last : Table) (s : Stored) → AreSound entries → Chain entries runs last → Contains entries s → Lasts last s
chain_lasts entries [] last s sound chain among = lasts_here last s (subst (λ q. Contains q s) (sym chain.0) among)
chain_lasts entries (p ∷ later) last s sound chain among =
    let r = first_run entries p later last sound chain in
    let l : Lasts (left_by p) s = lasts_along command_goes p.start.table p.done s r.sound r.fit (subst (λ q. Contains q s) (sym chain.0) among) in
    lasts_join (left_by p) last s l (chain_lasts (left_by p).entries later last l.now (sound_entries (left_by p) r.leaves) r.rest l.among)

-- what is in the table at some moment of a run lasts
module _ (p : Past) (later : List Past) (last : Table) (r : IsRunOf p later last) where
  left_lasts : (s : Stored) → Lasts (left_by p) s → Lasts last s
  left_lasts s l = lasts_join (left_by p) last s l (chain_lasts (left_by p).entries later last l.now (sound_entries (left_by p) r.leaves) r.rest l.among)

  since_lasts : (done rest : List Effect) (s : Stored) → p.done ≡ done ++ rest → Contains (table_after p.start.table done).entries s → Lasts last s
  since_lasts done rest s whole among =
      let fit = fit_parts p.start.table done rest (subst (AreFit p.start.table) whole r.fit) in
      let T = table_after p.start.table done in
      let l = lasts_along command_goes T rest s (sound_after p.start.table done r.sound fit.0) fit.1 among in
      left_lasts s (subst (λ t. Lasts t s) (sym (ap (table_after p.start.table) whole ∙ table_more p.start.table done rest)) l)

  -- what a command put in that was all that a run did
  put_all : (command : Command) (s : Stored) → p.done ≡ Does (Asks command) ∷ [] → Contains (put_by p.start.table command) s → Lasts last s
  put_all command s whole among = left_lasts s (subst (λ t. Lasts t s) (sym (ap (table_after p.start.table) whole)) (put_lasts p.start.table [] command [] s r.sound (subst (AreFit p.start.table) whole r.fit) among))

  -- a message that was acknowledged
  kept : (session id : ℕ) → IsId id → Contains p.done (Sends session (stored_text id) true) → HasKept p.start.table p.done last id
  kept session id within said =
      let put : IsPutIn p.start.table p.done id = message_of_sent id session p.start.table p.done within r.acked said in
      record {
        done = put.done;
        command = put.command;
        rest = put.rest;
        whole = put.whole;
        head = put.first;
        each = λ s among. left_lasts s (subst (λ t. Lasts t s) (sym (ap (table_after p.start.table) put.whole)) (put_lasts p.start.table put.done put.command put.rest s r.sound (subst (AreFit p.start.table) put.whole r.fit) among));
      }

  good_here : (done : List Effect) (effect : Effect) (rest : List Effect) → all_of p ≡ done ++ effect ∷ rest → IsGood p.site p.start.table done effect rest
  good_here done effect rest whole = good_at p.site p.start.table [] done effect rest (subst (AreGood p.site p.start.table []) whole r.good)

-- ---- the laws

module _ (before : List Past) (p : Past) (later : List Past) (last : Table) (chain : Chain [] (before ++ p ∷ later) last) where
  here : IsRunOf p later last
  here = run_at [] before p later last none_sound chain

  pub kept_law : (session id : ℕ) → IsId id → Contains p.done (Sends session (stored_text id) true) → HasKept p.start.table p.done last id
  kept_law session id within said = kept p later last here session id within said

  pub handed_over_law : (command : Command) (s : Stored) → p.done ≡ Does (Asks command) ∷ [] → Contains (put_by p.start.table command) s → Lasts last s
  handed_over_law command s whole among = put_all p later last here command s whole among

  pub entries_law : (done rest : List Effect) (s : Stored) → p.done ≡ done ++ rest → Contains (table_after p.start.table done).entries s → Lasts last s
  entries_law done rest s whole among = since_lasts p later last here done rest s whole among

  pub rows_law : (done rest : List Effect) (id place : ℕ) (row : Row) → p.done ≡ done ++ rest → IsRowAt (table_after p.start.table done) id place row → HasRow last id place row
  rows_law done rest id place row whole at = row_lasts (table_after p.start.table done) last id place row at (entries_law done rest at.entry whole at.among)

  pub sent_law : (done rest : List Effect) (id place : ℕ) → p.done ≡ done ++ rest → IsSentAt (table_after p.start.table done) id place → IsSentAt last id place
  sent_law done rest id place whole sent = sent_lasts (table_after p.start.table done) last id place sent (entries_law done rest sent.entry whole sent.among)

  pub starts_law : (done : List Effect) (id : ℕ) (places : List ℕ) (start : Child) (launch : Launch) (rest : List Effect) → all_of p ≡ done ++ Does (Starts id places start launch) ∷ rest → IsStart p.site p.start.table done id places start
  starts_law done id places start launch rest whole = good_here p later last here done (Does (Starts id places start launch)) rest whole

  pub talks_law : (done : List Effect) (id : ℕ) (places : List ℕ) (talk : Talk) (rest : List Effect) → all_of p ≡ done ++ Does (Talks id places talk) ∷ rest → IsDelivery p.site p.start.table done id places talk rest
  talks_law done id places talk rest whole = good_here p later last here done (Does (Talks id places talk)) rest whole

pub soundly_law : (runs : List Past) (last : Table) → Chain [] runs last → IsSound last
soundly_law runs last chain = chain_sound [] runs last none_sound chain

-- ---- no row that was sent is tried again

pub once_law : (before : List Past) (p : Past) (between : List Past) (q : Past) (later : List Past) (last : Table) (sooner rest : List Effect) (id place : ℕ) (done : List Effect) (effect : Effect) (more : List Effect) → Chain [] (before ++ p ∷ (between ++ q ∷ later)) last
    → p.done ≡ sooner ++ rest → IsSentAt (table_after p.start.table sooner) id place → all_of q ≡ done ++ effect ∷ more → IsTryOfRow effect id place → ⊥
once_law before p between q later last sooner rest id place done effect more chain whole sent all try =
    let r = run_at [] before p (between ++ q ∷ later) last none_sound chain in
    let to_q : IsRunOf p between q.start.table = record { is = r.is; sound = r.sound; fit = r.fit; good = r.good; acked = r.acked; leaves = r.leaves; rest = up_to (left_by p).entries between q later last r.rest } in
    let there : IsSentAt q.start.table id place = sent_lasts (table_after p.start.table sooner) q.start.table id place sent (since_lasts p between q.start.table to_q sooner rest sent.entry whole sent.among) in
    let own = run_at (left_by p).entries between q later last (sound_entries (left_by p) r.leaves) r.rest in
    let fit_all = past_done q own.is own.sound in
    let fit = fit_parts q.start.table done (effect ∷ more) (subst (AreFit q.start.table) all fit_all.fit) in
    tried_at q.site (beginning q.start) q.turns q.start.table done effect more id place (sound_after q.start.table done own.sound fit.0) (good_here q later last own done effect more all) try
    (sent_along command_goes q.start.table done id place own.sound fit.0 there)

-- ---- what was read is recorded, or was the last

-- an item stands before the last one
record StandsIn (done front : List Effect) (x : Effect) : Type 0 where
  more : List Effect
  is : done ≡ front ++ x ∷ more

not_alone : (front : List Effect) (x : Effect) (rest : List Effect) → [] ≡ front ++ x ∷ rest → ⊥
not_alone [] x rest e = cc e
not_alone (f ∷ front) x rest e = cc e

last_or : (done : List Effect) (last : Effect) (front : List Effect) (x : Effect) (rest : List Effect) → done ++ last ∷ [] ≡ front ++ x ∷ rest → ((rest ≡ []) × (x ≡ last)) ⊎ StandsIn done front x
last_or [] last [] x rest e = let first : last ≡ x = cc e in let none : [] ≡ rest = cc e in inl (sym none, sym first)
last_or [] last (f ∷ front) x rest e = let none : [] ≡ front ++ x ∷ rest = cc e in absurd (not_alone front x rest none)
last_or (d ∷ done) last [] x rest e = let first : d ≡ x = cc e in inr (record { more = done; is = ap (λ q. q ∷ done) first })
last_or (d ∷ done) last (f ∷ front) x rest e =
    let first : d ≡ f = cc e in
    let tails : done ++ last ∷ [] ≡ front ++ x ∷ rest = cc e in
    ⊎_elim
    (λ (k : (rest ≡ []) × (x ≡ last)). inl k)
    (λ (k : StandsIn done front x). inr (record { more = k.more; is = (λ i. first i ∷ k.is i) }))
    (last_or done last front x rest tails)

-- a command is among what was done, or it is the last, which came to nothing
asked_or : (p : Past) (o : Option Command) (front : List Effect) (command : Command) (rest : List Effect) → p.last ≡ o → p.done ++ last_of o ≡ front ++ Does (Asks command) ∷ rest
    → StandsIn p.done front (Does (Asks command)) ⊎ IsUnrecorded p (Does (Asks command) ∷ rest)
asked_or p None front command rest is whole = inl (record { more = rest; is = sym (append-nil p.done) ∙ whole })
asked_or p (Some last) front command rest is whole =
    ⊎_elim
    (λ (k : (rest ≡ []) × (Does (Asks command) ≡ Does (Asks last))).
    let same : command ≡ last = cc k.1 in
    inr (record { command = command; last = is ∙ ap (λ (q : Command). Some q) (sym same); only = ap (λ q. Does (Asks command) ∷ q) k.0 }))
    (λ (k : StandsIn p.done front (Does (Asks command))). inl k)
    (last_or p.done (Does (Asks last)) front (Does (Asks command)) rest whole)

-- what a command among what was done makes sent is sent in the table that is left
asked_sent : (first : Table) (done front : List Effect) (command : Command) (id place : ℕ) → IsSound first → AreFit first done → StandsIn done front (Does (Asks command))
    → ((T : Table) → IsSound T → CanDo T command → IsSentAt (after T command) id place) → IsSentAt (table_after first done) id place
asked_sent first done front command id place sound fit k makes =
    let parts = fit_parts first front (Does (Asks command) ∷ k.more) (subst (AreFit first) k.is fit) in
    let T = table_after first front in
    let sound_T = sound_after first front sound parts.0 in
    let sound_now : IsSound (after T command) = command_sound T command sound_T parts.1.0 in
    subst (λ t. IsSentAt t id place) (sym (ap (table_after first) k.is ∙ table_more first front (Does (Asks command) ∷ k.more)))
    (sent_along command_goes (after T command) k.more id place sound_now parts.1.1 (makes T sound_T parts.1.0))

module _ (before : List Past) (p : Past) (later : List Past) (last : Table) (chain : Chain [] (before ++ p ∷ later) last) where
  found : IsRunOf p later last
  found = run_at [] before p later last none_sound chain

  -- behind a deed that asks nothing a command follows
  behind : (done : List Effect) (effect : Effect) (command : Command) (rest more : List Effect) → all_of p ≡ done ++ effect ∷ rest → rest ≡ Does (Asks command) ∷ more → p.done ++ last_of p.last ≡ (done ++ effect ∷ []) ++ Does (Asks command) ∷ more
  behind done effect command rest more whole is = whole ∙ ap (λ q. done ++ effect ∷ q) is ∙ sym (append_assoc done (effect ∷ []) (Does (Asks command) ∷ more))

  unrecorded : (command : Command) (rest more : List Effect) → rest ≡ Does (Asks command) ∷ more → IsUnrecorded p (Does (Asks command) ∷ more) → IsUnrecorded p rest
  unrecorded command rest more is u = subst (IsUnrecorded p) (sym is) u

  pub programs_law : (done : List Effect) (id child : ℕ) (status : ℤ) (rest : List Effect) → all_of p ≡ done ++ Does (Polls id child (Over status)) ∷ rest → ended_with status ≡ WasSent → WereSent (left_by p) done id child ⊎ IsUnrecorded p rest
  programs_law done id child status rest whole success =
      let deed = Does (Polls id child (Over status)) in
      let e : IsEndRecorded p.site done id child status rest = good_here p later last found done deed rest whole in
      let command = record_of p.site.config e.moment id e.places (alike (ended_with status) e.places) in
      ⊎_elim
      (λ (k : StandsIn p.done (done ++ deed ∷ []) (Does (Asks command))).
      inl (record {
        places = e.places;
        started = e.started;
        sent = λ place among. asked_sent p.start.table p.done (done ++ deed ∷ []) command id place found.sound found.fit k
            (λ T sound can.
            let all = ap (λ (q : Result1). record_of p.site.config e.moment id e.places (alike q e.places)) success in
            subst (λ c. IsSentAt (after T c) id place) (sym all) (record_sent p.site.config e.moment T id e.places place sound (subst (CanDo T) all can) among));
      }))
      (λ (u : IsUnrecorded p (Does (Asks command) ∷ e.rest)). inr (unrecorded command rest e.rest e.recorded u))
      (asked_or p p.last (done ++ deed ∷ []) command e.rest refl (behind done deed command rest e.rest whole e.recorded))

  pub peers_law : (done : List Effect) (id : ℕ) (places : List ℕ) (talk : Talk) (rest : List Effect) (at place : ℕ) → all_of p ≡ done ++ Does (Talks id places talk) ∷ rest → slice_get places at ≡ Some place → slice_get talk.results at ≡ Some WasSent
      → IsSentAt (left_by p) id place ⊎ IsUnrecorded p rest
  peers_law done id places talk rest at place whole there success =
      let deed = Does (Talks id places talk) in
      let e : IsDelivery p.site p.start.table done id places talk rest = good_here p later last found done deed rest whole in
      let command = record_of p.site.config e.moment id places talk.results in
      ⊎_elim
      (λ (k : StandsIn p.done (done ++ deed ∷ []) (Does (Asks command))).
      inl (asked_sent p.start.table p.done (done ++ deed ∷ []) command id place found.sound found.fit k
      (λ T sound can. result_sent p.site.config e.moment T id places talk.results at place sound can e.tries.ascending there success)))
      (λ (u : IsUnrecorded p (Does (Asks command) ∷ e.rest)). inr (unrecorded command rest e.rest e.recorded u))
      (asked_or p p.last (done ++ deed ∷ []) command e.rest refl (behind done deed command rest e.rest whole e.recorded))

-- ---- what a run leaves is a past

asks_so : (effect : Effect) (command : Command) → commanded effect ≡ command ∷ [] → effect ≡ Does (Asks command)
asks_so (Takes event) command is = cc is
asks_so (Ticks reading) command is = cc is
asks_so (Sends session text whole) command is = cc is
asks_so (HangsUp session) command is = cc is
asks_so (Does (Claims id rows)) command is = cc is
asks_so (Does (Frees id)) command is = cc is
asks_so (Does (Asks other)) command is = let same : other ≡ command = cc is in ap (λ (q : Command). Does (Asks q)) same
asks_so (Does (Files id)) command is = cc is
asks_so (Does (Starts id places start launch)) command is = cc is
asks_so (Does (Polls id child poll)) command is = cc is
asks_so (Does (Talks id places talk)) command is = cc is

-- these effects are a past, wherever the last of them came to nothing
abbrev ArePast : Site → Start → List Turn → List Effect → Type 0
ArePast site start turns effects = (done : List Effect) (last : Option Command) → done ++ last_of last ≡ effects
    → IsPast (record { site = site; start = start; turns = turns; done = done; last = last })

module _ (site : Site) (start : Start) (turns : List Turn) (effects : List Effect) (past : ArePast site start turns effects) (told : Option FileMap) (files : FileMap) (is : told ≡ Some files) where
  whole_past : StandsFor site.dirs (table_after start.table effects) files → LeavesPast site start turns told
  whole_past stands = record {
    past = record { site = site; start = start; turns = turns; done = effects; last = None };
    site_is = refl;
    start_is = refl;
    turns_are = refl;
    is = past effects None (append-nil effects);
    files = files;
    told_is = is;
    stands = stands;
  }

  broken_past : LacksLast commanded site.dirs start.table effects files → LeavesPast site start turns told
  broken_past l =
      let now = table_after start.table l.done in
      let asks : l.last ≡ Does (Asks l.command) = asks_so l.last l.command l.asks in
      ⊎_elim
      (λ (stands : StandsFor site.dirs now files). record {
        past = record { site = site; start = start; turns = turns; done = l.done; last = Some l.command };
        site_is = refl;
        start_is = refl;
        turns_are = refl;
        is = past l.done (Some l.command) (sym (l.whole ∙ ap (λ q. l.done ++ q ∷ []) asks));
        files = files;
        told_is = is;
        stands = stands;
      })
      (λ (stands : StandsFor site.dirs (after now l.command) files).
      whole_past (subst (λ t. StandsFor site.dirs t files) (sym (ap (table_after start.table) l.whole ∙ table_last commanded start.table l.done l.last l.command l.asks)) stands))
      l.stands

  leaves_past : (well : Bool) → Leaves commanded site.dirs start.table effects well files → LeavesPast site start turns told
  leaves_past true stands = whole_past stands
  leaves_past false left = ⊎_elim (λ (stands : StandsFor site.dirs (table_after start.table effects) files). whole_past stands) (λ (l : LacksLast commanded site.dirs start.table effects files). broken_past l) left

pub past_law : (site : Site) (start : Start) (turns : List Turn) (well : Bool) (told : Option FileMap) → IsRunMeant untold site (beginning start) turns → IsFree start.table → IsLeft site start.table (run_over site start turns).effects well told → LeavesPast site start turns told
past_law site start turns well told meant free left =
    leaves_past site start turns (run_over site start turns).effects (λ done last whole. inl (record { whole = sym whole; meant = meant; free = free })) told left.files left.told_is well left.leaves

-- so is what a run leaves that handed a message over
pub handed_law : (site : Site) (start : Start) (effects : List Effect) (well : Bool) (told : Option FileMap) (files : FileMap) → HandsOver site start.table effects → IsFree start.table → told ≡ Some files → Leaves commanded site.dirs start.table effects well files → LeavesPast site start [] told
handed_law site start effects well told files hands free is left =
    leaves_past site start [] effects (λ done last whole. inr (record { unturned = refl; hands = subst (HandsOver site start.table) (sym whole) hands; free = free })) told files is well left

-- the first free id that an opening finds is above those of each table for which the files stand
pub free_law : (dirs : List (List ℕ)) (files : FileMap) (table : Table) (next : ℕ) → StandsFor dirs table files → IsNext dirs files next → All (λ (s : Stored). s.id < next) table.entries
free_law dirs files table next stands first = All-weaker (HasFiles dirs files) (λ (s : Stored). s.id < next) below table.entries stands.each
  where
    below : (s : Stored) → HasFiles dirs files s → s.id < next
    below s h =
        let r : IsRead dirs files (spot_of h.kind s) s.control = live_read h.live in
        first.above s.id (in_name s.dir h.kind r.bytes r.there.spot.among r.there.spot.within r.there.there)
