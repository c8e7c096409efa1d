-- What was sent was done, and the message of a final 250 was put in by a command before it.
use Rattle.std.proofs.Common.{◌≡◌, ⊎_elim, inl, inr, append_assoc, ℕ, List, [], ◌∷◌, ◌++◌, true, false, refl, sym, ◌∙◌, ap, subst}
use Rattle.std.specs.Prelude.{◌⊎◌, Contains}
use Rattle.std.proofs.lemmas.List.Elements.{Contains-push, Contains-append_left, Contains-append_right, Contains-append_cases}
use Rattle.mail_base.specs.Limits.{IsId}
use Rattle.link_edge.specs.declared.event.FloorEvent.TheVariants.{Took, Sent, Unsent, HungUp}
use Rattle.smtp_receive.specs.Replies.{stored_text}
use Rattle.spool_disk.proofs.Naming.{nothing_there, one_only}
use Rattle.spool_store.specs.Entries.{Stored, Table}
use Rattle.queue_table.specs.Commands.{Command}
use Rattle.queue_run.specs.Deeds.{Asks, Claims, Files, Frees, Polls, Starts, Talks}
use Rattle.mail_core.specs.Acks.{AreAcked, BeginsWith, HasMessage, IsAcked, latest_by, put_by}
use Rattle.mail_core.specs.Effects.{Effect, Takes, Ticks, Sends, HangsUp, Does, heard, heard_of, table_after}
use Rattle.mail_core.proofs.FollowLemmas.{table_more}

-- ---- what was sent was done

one_sent : (effect : Effect) (session : ℕ) (text : List ℕ) → Contains (heard effect) (Sent session text) → effect ≡ Sends session text true
one_sent (Takes event) session text h = let e : Took event ≡ Sent session text = one_only (Took event) (Sent session text) h in absurd (cc e)
one_sent (Ticks reading) session text h = absurd (nothing_there (Sent session text) h)
one_sent (Sends other bytes true) session text h = let e : Sent other bytes ≡ Sent session text = one_only (Sent other bytes) (Sent session text) h in cc e
one_sent (Sends other bytes false) session text h = let e : Unsent other ≡ Sent session text = one_only (Unsent other) (Sent session text) h in absurd (cc e)
one_sent (HangsUp other) session text h = let e : HungUp other ≡ Sent session text = one_only (HungUp other) (Sent session text) h in absurd (cc e)
one_sent (Does deed) session text h = absurd (nothing_there (Sent session text) h)

pub sent_done : (effects : List Effect) (session : ℕ) (text : List ℕ) → Contains (heard_of effects) (Sent session text) → Contains effects (Sends session text true)
sent_done [] session text h = absurd (nothing_there (Sent session text) h)
sent_done (effect ∷ effects) session text h = ⊎_elim
    (λ first. Contains-append_left (effect ∷ []) effects (Sends session text true) (subst (Contains (effect ∷ [])) (one_sent effect session text first) (Contains-push [] effect)))
    (λ rest. Contains-append_right (effect ∷ []) effects (Sends session text true) (sent_done effects session text rest))
    (Contains-append_cases (heard effect) (heard_of effects) (Sent session text) h)

-- ---- what was put in last

-- these entries are what a command among the effects put in
record IsPut (table : Table) (effects : List Effect) (entries : List Stored) : Type 0 where
  done : List Effect
  command : Command
  rest : List Effect
  whole : effects ≡ done ++ Does (Asks command) ∷ rest
  is : entries ≡ put_by (table_after table done) command

-- there was no command, or they are what the last one put in
abbrev IsLatest : Table → List Effect → List Stored → Type 0
IsLatest table effects entries = (entries ≡ []) ⊎ IsPut table effects entries

put_more : (table : Table) (effects more : List Effect) (entries : List Stored) → IsPut table effects entries → IsPut table (effects ++ more) entries
put_more table effects more entries h = record {
  done = h.done;
  command = h.command;
  rest = h.rest ++ more;
  whole = ap (λ q. q ++ more) h.whole ∙ append_assoc h.done (Does (Asks h.command) ∷ h.rest) more;
  is = h.is;
}

latest_same : (table : Table) (effects more : List Effect) (entries : List Stored) → IsLatest table effects entries → IsLatest table (effects ++ more) entries
latest_same table effects more entries (inl none) = inl none
latest_same table effects more entries (inr h) = inr (put_more table effects more entries h)

latest_more : (table : Table) (effects : List Effect) (entries : List Stored) (effect : Effect) → IsLatest table effects entries → IsLatest table (effects ++ effect ∷ []) (latest_by entries (table_after table effects) effect)
latest_more table effects entries (Takes event) h = latest_same table effects (Takes event ∷ []) entries h
latest_more table effects entries (Ticks reading) h = latest_same table effects (Ticks reading ∷ []) entries h
latest_more table effects entries (Sends session text whole) h = latest_same table effects (Sends session text whole ∷ []) entries h
latest_more table effects entries (HangsUp session) h = latest_same table effects (HangsUp session ∷ []) entries h
latest_more table effects entries (Does (Asks command)) h = inr (record { done = effects; command = command; rest = []; whole = refl; is = refl })
latest_more table effects entries (Does (Claims id rows)) h = latest_same table effects (Does (Claims id rows) ∷ []) entries h
latest_more table effects entries (Does (Frees id)) h = latest_same table effects (Does (Frees id) ∷ []) entries h
latest_more table effects entries (Does (Files id)) h = latest_same table effects (Does (Files id) ∷ []) entries h
latest_more table effects entries (Does (Starts id places start launch)) h = latest_same table effects (Does (Starts id places start launch) ∷ []) entries h
latest_more table effects entries (Does (Polls id child poll)) h = latest_same table effects (Does (Polls id child poll) ∷ []) entries h
latest_more table effects entries (Does (Talks id places talk)) h = latest_same table effects (Does (Talks id places talk) ∷ []) entries h

-- ---- what was acknowledged

-- a command among the effects put in a message whose first entry has that id
pub record IsPutIn (table : Table) (effects : List Effect) (id : ℕ) : Type 0 where
  pub done : List Effect
  pub command : Command
  pub rest : List Effect
  pub whole : effects ≡ done ++ Does (Asks command) ∷ rest
  pub first : BeginsWith id (put_by (table_after table done) command)

message_put : (id : ℕ) (table : Table) (before effects : List Effect) (entries : List Stored) → IsLatest table before entries → HasMessage (table_after table before) entries id → IsPutIn table (before ++ effects) id
message_put id table before effects entries (inl none) there = absurd (subst (BeginsWith id) none there.first)
message_put id table before effects entries (inr h) there = record {
  done = h.done;
  command = h.command;
  rest = h.rest ++ effects;
  whole = ap (λ q. q ++ effects) h.whole ∙ append_assoc h.done (Does (Asks h.command) ∷ h.rest) effects;
  first = subst (BeginsWith id) h.is there.first;
}

-- the message of a final 250 was put in
acked_message : (id session : ℕ) (table : Table) (before effects : List Effect) (entries : List Stored) → IsId id → IsLatest table before entries → AreAcked entries (table_after table before) effects → Contains effects (Sends session (stored_text id) true)
    → IsPutIn table (before ++ effects) id
acked_message id session table before [] entries within latest acked h = absurd (nothing_there (Sends session (stored_text id) true) h)
acked_message id session table before (effect ∷ effects) entries within latest acked h = ⊎_elim
    (λ first.
    let is : effect ≡ Sends session (stored_text id) true = one_only effect (Sends session (stored_text id) true) first in
    let there : (i : ℕ) → IsId i → stored_text id ≡ stored_text i → HasMessage (table_after table before) entries i = subst (IsAcked entries (table_after table before)) is acked.0 in
    message_put id table before (effect ∷ effects) entries latest (there id within refl))
    (λ rest.
    let more : List Effect = before ++ effect ∷ [] in
    let later : List Stored = latest_by entries (table_after table before) effect in
    let acks : AreAcked later (table_after table more) effects = subst (λ t. AreAcked later t effects) (sym (table_more table before (effect ∷ []))) acked.1 in
    subst (λ q. IsPutIn table q id) (append_assoc before (effect ∷ []) effects)
    (acked_message id session table more effects later within (latest_more table before entries effect latest) acks rest))
    (Contains-append_cases (effect ∷ []) effects (Sends session (stored_text id) true) h)

pub message_of_sent : (id session : ℕ) (table : Table) (effects : List Effect) → IsId id → AreAcked [] table effects → Contains effects (Sends session (stored_text id) true) → IsPutIn table effects id
message_of_sent id session table effects within acked said = acked_message id session table [] effects [] within (inl refl) acked said
