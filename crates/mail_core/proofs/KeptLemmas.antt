-- The entries of each message whose final 250 was sent are in the files that are left.
use Rattle.std.proofs.Common.{◌≡◌, ⊎_elim, append_assoc, ℕ, List, [], ◌∷◌, ◌++◌, Bool, true, false, Some, sym, ◌∙◌, ap, subst}
use Rattle.std.specs.Prelude.{Contains, drop, length, take}
use Rattle.std.proofs.lemmas.List.{append-nil, take-append-drop}
use Rattle.std.proofs.lemmas.List.Elements.{All-contains, Contains-append_right, Contains-push_cases}
use Rattle.mail_base.specs.Limits.{IsId}
use Rattle.smtp_receive.specs.Replies.{stored_text}
use Rattle.spool_disk.specs.Disk.{FileMap}
use Rattle.spool_store.specs.Entries.{Stored, Table}
use Rattle.spool_store.specs.Settled.{HasFiles, StandsFor}
use Rattle.queue_table.specs.Asked.{LacksLast, Leaves}
use Rattle.queue_table.specs.Commands.{Command, after}
use Rattle.queue_table.specs.Soundness.{IsSound}
use Rattle.queue_table.proofs.AskedLemmas.{table_last}
use Rattle.queue_table.proofs.GoingLemmas.{command_goes}
use Rattle.queue_table.proofs.SoundLemmas.{command_sound}
use Rattle.queue_run.specs.Deeds.{Asks}
use Rattle.mail_core.specs.Acks.{AreAcked, put_by}
use Rattle.mail_core.specs.Effects.{Effect, Sends, Does, commanded, table_after}
use Rattle.mail_core.specs.Lasting.{Lasts}
use Rattle.mail_core.specs.Runs.{AreKept, IsKept}
use Rattle.mail_core.proofs.EntryLemmas.{sound_after}
use Rattle.mail_core.proofs.FollowLemmas.{table_more}
use Rattle.mail_core.proofs.LastLemmas.{lasts_along}
use Rattle.mail_core.proofs.LawLemmas.{fit_parts}
use Rattle.mail_core.proofs.LeadLemmas.{AreFit, acked_front}
use Rattle.mail_core.proofs.SentLemmas.{IsPutIn, message_of_sent}

-- ---- what became of an entry

-- what is behind the first items of a list is in the list
among_all : {X : Type 0} (n : ℕ) (xs : List X) (x : X) → Contains (drop n xs) x → Contains xs x
among_all n xs x h = subst (λ q. Contains q x) (take-append-drop n xs) (Contains-append_right (take n xs) (drop n xs) x h)

-- an entry that a command put in lasts along what is done behind it
pub put_lasts : (table : Table) (done : List Effect) (command : Command) (rest : List Effect) (s : Stored) → IsSound table → AreFit table (done ++ Does (Asks command) ∷ rest) → Contains (put_by (table_after table done) command) s → Lasts (table_after table (done ++ Does (Asks command) ∷ rest)) s
put_lasts table done command rest s sound fit among =
    let parts = fit_parts table done (Does (Asks command) ∷ rest) fit in
    let T : Table = table_after table done in
    let sound_then : IsSound (after T command) = command_sound T command (sound_after table done sound parts.0) parts.1.0 in
    subst (λ t. Lasts t s) (sym (table_more table done (Does (Asks command) ∷ rest)))
    (lasts_along command_goes (after T command) rest s sound_then parts.1.1 (among_all (length T.entries) (after T command).entries s among))

-- it is kept in files that stand for the table
kept_by : (dirs : List (List ℕ)) (table : Table) (files : FileMap) (s : Stored) → StandsFor dirs table files → Lasts table s → IsKept dirs table files s
kept_by dirs table files s stands l =
    let has : HasFiles dirs files l.now = All-contains (HasFiles dirs files) table.entries l.now stands.each l.among in
    record {
      now = l.now;
      among = l.among;
      came = l.came;
      kind = has.kind;
      control = has.live;
      body = λ wanted. has.body wanted ∙ ap (λ (q : List ℕ). Some q) l.came.body;
    }

-- ---- what is left

-- where files stand for the table after a front of the effects, they have the message of each final
-- 250 that was sent in it
kept_front : (dirs : List (List ℕ)) (table : Table) (effects front lost : List Effect) (files : FileMap) (session id : ℕ) → effects ≡ front ++ lost → IsSound table → AreFit table effects → AreAcked [] table effects
    → StandsFor dirs (table_after table front) files → IsId id → Contains front (Sends session (stored_text id) true) → AreKept dirs table effects files id
kept_front dirs table effects front lost files session id whole sound fit acked stands within said =
    let parts = fit_parts table front lost (subst (AreFit table) whole fit) in
    let put : IsPutIn table front id = message_of_sent id session table front within (acked_front [] table front lost (subst (AreAcked [] table) whole acked)) said in
    record {
      done = put.done;
      command = put.command;
      rest = put.rest ++ lost;
      whole = whole ∙ ap (λ q. q ++ lost) put.whole ∙ append_assoc put.done (Does (Asks put.command) ∷ put.rest) lost;
      first = put.first;
      stood = record { done = front; rest = lost; whole = whole; stands = stands };
      each = λ s among.
          kept_by dirs (table_after table front) files s stands
          (subst (λ t. Lasts t s) (sym (ap (table_after table) put.whole)) (put_lasts table put.done put.command put.rest s sound (subst (AreFit table) put.whole parts.0) among));
    }

-- where they stand for the table after all effects
kept_whole : (dirs : List (List ℕ)) (table : Table) (effects : List Effect) (files : FileMap) (session id : ℕ) → IsSound table → AreFit table effects → AreAcked [] table effects
    → StandsFor dirs (table_after table effects) files → IsId id → Contains effects (Sends session (stored_text id) true) → AreKept dirs table effects files id
kept_whole dirs table effects files session id sound fit acked stands within said = kept_front dirs table effects effects [] files session id (sym (append-nil effects)) sound fit acked stands within said

-- what asks a command is no send
no_send : (last : Effect) (command : Command) (session : ℕ) (text : List ℕ) → commanded last ≡ command ∷ [] → last ≡ Sends session text true → ⊥
no_send last command session text asks is = let none : [] ≡ command ∷ [] = sym (ap commanded is) ∙ asks in cc none

-- where the spool failed at the last effect, before which the final 250 was sent
kept_failed : (dirs : List (List ℕ)) (table : Table) (effects : List Effect) (files : FileMap) (session id : ℕ) → IsSound table → AreFit table effects → AreAcked [] table effects
    → LacksLast commanded dirs table effects files → IsId id → Contains effects (Sends session (stored_text id) true) → AreKept dirs table effects files id
kept_failed dirs table effects files session id sound fit acked lacks within said =
    let send : Effect = Sends session (stored_text id) true in
    let now : Table = table_after table lacks.done in
    let all : table_after table effects ≡ after now lacks.command = ap (table_after table) lacks.whole ∙ table_last commanded table lacks.done lacks.last lacks.command lacks.asks in
    let before : Contains lacks.done send = ⊎_elim
    (λ k. k)
    (λ e. absurd (no_send lacks.last lacks.command session (stored_text id) lacks.asks e))
    (Contains-push_cases lacks.done lacks.last send (subst (λ q. Contains q send) lacks.whole said)) in
    ⊎_elim
    (λ (stands : StandsFor dirs now files). kept_front dirs table effects lacks.done (lacks.last ∷ []) files session id lacks.whole sound fit acked stands within before)
    (λ (stands : StandsFor dirs (after now lacks.command) files). kept_whole dirs table effects files session id sound fit acked (subst (λ t. StandsFor dirs t files) (sym all) stands) within said)
    lacks.stands

-- the files that are left have the message of each final 250 that was sent
pub kept_left : (dirs : List (List ℕ)) (table : Table) (effects : List Effect) (well : Bool) (files : FileMap) (session id : ℕ) → IsSound table → AreFit table effects → AreAcked [] table effects
    → Leaves commanded dirs table effects well files → IsId id → Contains effects (Sends session (stored_text id) true) → AreKept dirs table effects files id
kept_left dirs table effects true files session id sound fit acked stands within said = kept_whole dirs table effects files session id sound fit acked stands within said
kept_left dirs table effects false files session id sound fit acked left within said = ⊎_elim
    (λ (stands : StandsFor dirs (table_after table effects) files). kept_whole dirs table effects files session id sound fit acked stands within said)
    (λ (lacks : LacksLast commanded dirs table effects files). kept_failed dirs table effects files session id sound fit acked lacks within said)
    left
