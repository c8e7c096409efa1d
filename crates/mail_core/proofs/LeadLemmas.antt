-- What is done for sessions leads from a table to the next, asks for messages alone, and says the
-- final 250 of messages that it put in.
use Rattle.std.proofs.Common.{◌≡◌, ℕ, List, [], ◌∷◌, ◌++◌, Bool, true, false, Option, Some, None, ◌+◌, ◌<◌, ◌≤◌, map, arith, refl, sym, ◌∙◌, ap, subst, append_assoc}
use Rattle.std.specs.Prelude.{All, ◌||◌, if◌then◌else◌, nat_le, length, max, fold, is_some}
use Rattle.std.specs.List.{list_any}
use Rattle.std.proofs.lemmas.List.{append-nil}
use Rattle.std.proofs.Math.Seq.{drop-append_seam}
use Rattle.std.proofs.lemmas.List.Elements.{All-cons, All-contains, All-head, All-nil, All-tail, Contains-append_right}
use Rattle.std.proofs.lemmas.Bool.{ltb-false}
use Rattle.mail_base.specs.Limits.{IsId}
use Rattle.smtp_lines.specs.declared.line.Line.{Line}
use Rattle.mail_base.specs.declared.message.Cut.{Cut as Part}
use Rattle.mail_base.specs.declared.message.Message.{Message}
use Rattle.smtp_receive.specs.Mails.{message_of as of_mail}
use Rattle.smtp_receive.specs.Dialogue.{Answer, Says, Refuses, Greets, Extends, Grants, TakesLeave, Gives, StaysSilent, did_of}
use Rattle.smtp_receive.specs.Finals.{IsFinal, text_told}
use Rattle.smtp_receive.specs.Judging.{Said, Unasked}
use Rattle.smtp_receive.specs.Replies.{text_of, refusal_text, grant_text, hello_text, extended_text, closing_text, greeting_text, stored_text, shown_host, out_of_memory_text, too_many_sessions_text}
use Rattle.smtp_receive.proofs.JudgeLemmas.{said_formed}
use Rattle.smtp_receive.proofs.FinalLemmas.{told_final, greeting_final, memory_final, sessions_final, same_id}
use Rattle.spool_store.specs.Entries.{Stored, Table}
use Rattle.spool_store.specs.Writes.{children_of, head_of, heir, numbered, stored}
use Rattle.mail_base.specs.States.{NeedsBody, is_dead, is_open}
use Rattle.mail_base.specs.declared.control.Draft.{Draft}
use Rattle.mail_base.specs.declared.control.Parent.{Parent}
use Rattle.mail_base.specs.declared.draw.Draw.{Draw}
use Rattle.queue_table.specs.Commands.{Command, after, draft_of, drafts_of, new_row}
use Rattle.queue_table.specs.Commands.Command.{Accept, Record, Return, Warn}
use Rattle.queue_table.specs.Soundness.{AreCuts, CanDo}
use Rattle.mail_core.specs.Sites.{Site, terms_at}
use Rattle.queue_run.specs.Deeds.{Asks, Deed}
use Rattle.mail_core.specs.Effects.{Effect, Takes, Ticks, Sends, HangsUp, Does, speech, table_after}
use Rattle.mail_core.specs.Guests.{Guest, is_passed, is_here, next_line, with_bytes}
use Rattle.mail_core.specs.Machine.{Opening, Replied, Dropped, Choice, Normal, OutOfMemory, Disconnects, SpoolFails, JudgeFails, Way, GoesOn, Leaves, Over, Did, answer_by, limit_of, question_here, way_of, does, says, closes, is_over, commits, accepts, replies, fails, heard_line, id_by, is_answered, heard_where, by_choice, answered, settled_by, settled, fresh_start, all_answered, most_guests, turned_away, welcomed, opened, brought, pieced}
use Rattle.mail_core.specs.States.{SpoolFault, IdsSpent, FilesFault, Finish, By, Cut, State, Step, still}
use Rattle.mail_core.proofs.WayLemmas.{goes_keeps}
use Rattle.mail_core.specs.Judges.{JudgeSeen}
use Rattle.mail_core.specs.Meant.{AreMeant, ArePieceMeant, IsMadeAt, IsMeant}
use Rattle.mail_made.specs.Messages.{Made, headed, is_spent, last_id}
use Rattle.mail_core.specs.Messages.{accept_of}
use Rattle.mail_core.specs.Acks.{AreAcked, HasMessage, IsAcked, latest_by, put_by}
use Rattle.mail_made.proofs.PartLemmas.{cuts_taken}
use Rattle.mail_core.proofs.FollowLemmas.{table_more}

-- ---- what effects are

-- a command that takes a message in
abbrev pub IsAccept : Command → Type 0
IsAccept (Accept terms message cuts moment) = Unit {0}
IsAccept (Record terms id places results moment) = ⊥
IsAccept (Return terms id bounces moment) = ⊥
IsAccept (Warn terms id warnings moment) = ⊥

-- a deed is such a command
abbrev pub IsTakingDeed : Deed → Type 0
IsTakingDeed (Asks command) = IsAccept command
IsTakingDeed deed = ⊥

-- an effect asks for no other command, and is of no runner
abbrev pub IsTaking : Effect → Type 0
IsTaking (Takes event) = Unit {0}
IsTaking (Ticks reading) = Unit {0}
IsTaking (Sends session text whole) = Unit {0}
IsTaking (HangsUp session) = Unit {0}
IsTaking (Does deed) = IsTakingDeed deed

-- nor do these
abbrev pub AreTaking : List Effect → Type 0
AreTaking [] = Unit {0}
AreTaking (effect ∷ effects) = IsTaking effect × AreTaking effects

-- the command of a deed may be asked of the table
abbrev pub CanBeDone : Table → Deed → Type 0
CanBeDone table (Asks command) = CanDo table command
CanBeDone table deed = Unit {0}

abbrev pub CanBe : Table → Effect → Type 0
CanBe table (Takes event) = Unit {0}
CanBe table (Ticks reading) = Unit {0}
CanBe table (Sends session text whole) = Unit {0}
CanBe table (HangsUp session) = Unit {0}
CanBe table (Does deed) = CanBeDone table deed

-- each command may be asked of the table as it is then
abbrev pub AreFit : Table → List Effect → Type 0
AreFit table [] = Unit {0}
AreFit table (effect ∷ effects) = CanBe table effect × AreFit (table_after table (effect ∷ [])) effects

-- effects that lead from a table to another; each final 250 is of the message that was put
-- in last where F is so, and each command may then be asked
pub record Leads (F : Type 0) (old new : Table) (effects : List Effect) : Type 0 where
  pub table : new ≡ table_after old effects
  pub acked : F → (latest : List Stored) → AreAcked latest old effects
  pub taking : AreTaking effects
  pub fits : F → AreFit old effects

-- what was done has grown
pub record Grows (F : Type 0) (d e : Did) : Type 0 where
  pub more : List Effect
  pub effects : e.effects ≡ d.effects ++ more
  pub leads : Leads F d.table e.table more
  pub number : e.guest.number ≡ d.guest.number

-- ---- effects join

pub acked_join : (latest : List Stored) (table : Table) (xs ys : List Effect) → AreAcked latest table xs → ((other : List Stored) → AreAcked other (table_after table xs) ys) → AreAcked latest table (xs ++ ys)
acked_join latest table [] ys h k = k latest
acked_join latest table (x ∷ xs) ys h k = (
  h.0,
  acked_join (latest_by latest table x) (table_after table (x ∷ [])) xs ys h.1 (λ other. subst (λ t. AreAcked other t ys) (table_more table (x ∷ []) xs) (k other)),
)

-- where each final 250 is of a message, so it is at the front of the effects
pub acked_front : (latest : List Stored) (table : Table) (xs ys : List Effect) → AreAcked latest table (xs ++ ys) → AreAcked latest table xs
acked_front latest table [] ys h = tt
acked_front latest table (x ∷ xs) ys h = (h.0, acked_front (latest_by latest table x) (table_after table (x ∷ [])) xs ys h.1)

pub fit_join : (table : Table) (xs ys : List Effect) → AreFit table xs → AreFit (table_after table xs) ys → AreFit table (xs ++ ys)
fit_join table [] ys h k = k
fit_join table (x ∷ xs) ys h k = (h.0, fit_join (table_after table (x ∷ [])) xs ys h.1 (subst (λ t. AreFit t ys) (table_more table (x ∷ []) xs) k))

pub taking_join : (xs ys : List Effect) → AreTaking xs → AreTaking ys → AreTaking (xs ++ ys)
taking_join [] ys h k = k
taking_join (x ∷ xs) ys h k = (h.0, taking_join xs ys h.1 k)

pub leads_none : (F : Type 0) (table : Table) → Leads F table table []
leads_none F table = record { table = refl; acked = λ f latest. tt; taking = tt; fits = λ f. tt }

pub leads_join : (F G H : Type 0) → (H → F) → (H → G) → (one two three : Table) (xs ys : List Effect) → Leads F one two xs → Leads G two three ys → Leads H one three (xs ++ ys)
leads_join F G H to_f to_g one two three xs ys h k = record {
  table = k.table ∙ ap (λ t. table_after t ys) h.table ∙ sym (table_more one xs ys);
  acked = λ f latest. acked_join latest one xs ys (h.acked (to_f f) latest) (λ other. subst (λ t. AreAcked other t ys) h.table (k.acked (to_g f) other));
  taking = taking_join xs ys h.taking k.taking;
  fits = λ f. fit_join one xs ys (h.fits (to_f f)) (subst (λ t. AreFit t ys) h.table (k.fits (to_g f)));
}

-- ---- texts

-- a text that isn't final asks for no message
unlike_final : (latest : List Stored) (table : Table) (session : ℕ) (text : List ℕ) (whole : Bool) → (IsFinal text → ⊥) → IsAcked latest table (Sends session text whole)
unlike_final latest table session text whole not_final = λ id within is. absurd (not_final (id, is))

-- where no id is wanting, there is one for the first part
unspent : (table : Table) (made : Made) → is_spent table made ≡ false → table.next ≤ last_id
unspent table made e = let few = ltb-false (last_id + 1) (table.next + max 1 (length made.cuts)) e in omega (arith, few)

next_is_id : (table : Table) (made : Made) → is_spent table made ≡ false → IsId table.next
unfolding last_id
next_is_id table made e = unspent table made e

-- a new row is open
rows_open : (rows : List Draw) → 0 < length rows → list_any (λ row. is_open row.state || is_dead row.state) (map new_row rows) ≡ true
rows_open [] h = absurd (omega (arith, h))
rows_open (row ∷ rows) h = refl

-- the body of each part is wanted
parts_need : (site : Site) (message : Message) (moment id : ℕ) (head : Parent) (cuts : List Part) → All (λ (c : Part). 0 < length c.rows) cuts → All (λ (s : Stored). NeedsBody s.control) (numbered id message.body (map (heir head) (drafts_of (terms_at site) message moment cuts)))
parts_need site message moment id head [] h = All-nil (λ (s : Stored). NeedsBody s.control)
parts_need site message moment id head (cut ∷ cuts) h =
    All-cons (λ (s : Stored). NeedsBody s.control) (stored id message.body (heir head (draft_of (terms_at site) message moment cut))) (numbered (id + 1) message.body (map (heir head) (drafts_of (terms_at site) message moment cuts)))
    (rows_open cut.rows (All-head (λ (c : Part). 0 < length c.rows) cut cuts h)) (parts_need site message moment (id + 1) head cuts (All-tail (λ (c : Part). 0 < length c.rows) cut cuts h))

-- the final 250 of the next id, where it is taken, is of the message that is put in
message_of : (site : Site) (moment : ℕ) (table : Table) (message : Message) (made : Made) (cuts : List Part) (session : ℕ) (whole : Bool) → is_spent table made ≡ false → made.cuts ≡ cuts → AreCuts cuts
    → IsAcked (put_by table (accept_of site moment message made)) (after table (accept_of site moment message made)) (Sends session (stored_text table.next) whole)
message_of site moment table message made [] session whole left are some = absurd (let none = some.some in omega (arith, none))
message_of site moment table message made (cut ∷ cuts) session whole left are some = λ id within is.
    let now : Message = headed made.first message in
    let head : Draft = draft_of (terms_at site) now moment cut in
    let s : Stored = stored table.next message.body head in
    let later : List Stored = children_of table.next (drafts_of (terms_at site) now moment cuts) head message.body None in
    let needs : All (λ (e : Stored). NeedsBody e.control) (s ∷ later) =
    All-cons (λ (e : Stored). NeedsBody e.control) s later (rows_open cut.rows (All-head (λ (c : Part). 0 < length c.rows) cut cuts some.each))
    (parts_need site now moment (table.next + 1) (head_of table.next head None) cuts (All-tail (λ (c : Part). 0 < length c.rows) cut cuts some.each)) in
    subst (λ (q : List Part). HasMessage (after table (Accept (terms_at site) now q moment)) (put_by table (Accept (terms_at site) now q moment)) id) (sym are)
    (subst (λ (q : List Stored). HasMessage (after table (Accept (terms_at site) now (cut ∷ cuts) moment)) q id) (sym (drop-append_seam table.entries (s ∷ later))) (record {
      first = same_id table.next id (next_is_id table made left) within is;
      each = λ e among. record {
        stored = e;
        among = Contains-append_right table.entries (s ∷ later) e among;
        id_is = refl;
        wanted = All-contains (λ (q : Stored). NeedsBody q.control) (s ∷ later) e needs among;
      };
    }))

-- ---- single effects

speech_leads : (F : Type 0) (table : Table) (session : ℕ) (text : List ℕ) (whole : Bool) → (F → (latest : List Stored) (w : Bool) → IsAcked latest table (Sends session text w)) → Leads F table table (speech session text whole)
speech_leads F table session text true acked = record { table = refl; acked = λ f latest. (acked f latest true, tt); taking = (tt, tt); fits = λ f. (tt, tt) }
speech_leads F table session text false acked = record { table = refl; acked = λ f latest. (acked f latest false, (tt, tt)); taking = (tt, (tt, tt)); fits = λ f. (tt, (tt, tt)) }

last_leads : (F : Type 0) (table : Table) (session : ℕ) (text : List ℕ) (whole : Bool) → (F → (latest : List Stored) → IsAcked latest table (Sends session text whole)) → Leads F table table (Sends session text whole ∷ HangsUp session ∷ [])
last_leads F table session text whole acked = record { table = refl; acked = λ f latest. (acked f latest, (tt, tt)); taking = (tt, (tt, tt)); fits = λ f. (tt, (tt, tt)) }

hang_leads : (F : Type 0) (table : Table) (session : ℕ) → Leads F table table (HangsUp session ∷ [])
hang_leads F table session = record { table = refl; acked = λ f latest. (tt, tt); taking = (tt, tt); fits = λ f. (tt, tt) }

-- a message is put in, and then its 250 said
accept_leads : (F : Type 0) (table : Table) (command : Command) (session : ℕ) (text : List ℕ) (whole : Bool) → IsAccept command → (F → CanDo table command) → (F → (w : Bool) → IsAcked (put_by table command) (after table command) (Sends session text w))
    → Leads F table (after table command) (Does (Asks command) ∷ speech session text whole)
accept_leads F table command session text true is can acked = record { table = refl; acked = λ f latest. (tt, (acked f true, tt)); taking = (is, (tt, tt)); fits = λ f. (can f, (tt, tt)) }
accept_leads F table command session text false is can acked = record { table = refl; acked = λ f latest. (tt, (acked f false, (tt, tt))); taking = (is, (tt, (tt, tt))); fits = λ f. (can f, (tt, (tt, tt))) }

-- ---- what is done for a session

grows_none : (F : Type 0) (d : Did) → Grows F d d
grows_none F d = record { more = []; effects = sym (append-nil d.effects); leads = leads_none F d.table; number = refl }

grows_join : (F G H : Type 0) → (H → F) → (H → G) → (d e x : Did) → Grows F d e → Grows G e x → Grows H d x
grows_join F G H to_f to_g d e x h k = record {
  more = h.more ++ k.more;
  effects = k.effects ∙ ap (λ q. q ++ k.more) h.effects ∙ append_assoc d.effects h.more k.more;
  leads = leads_join F G H to_f to_g d.table e.table x.table h.more k.more h.leads k.leads;
  number = k.number ∙ h.number;
}

does_grows : (F : Type 0) (d : Did) (effects : List Effect) (way : Way) → Leads F d.table d.table effects → Grows F d (does d effects way)
does_grows F d effects way leads = record { more = effects; effects = refl; leads = leads; number = refl }

says_grows : (F : Type 0) (d : Did) (text : List ℕ) (whole : Bool) → (F → (latest : List Stored) (w : Bool) → IsAcked latest d.table (Sends d.guest.number text w)) → Grows F d (says d text whole)
says_grows F d text whole acked = does_grows F d (speech d.guest.number text whole) (way_of whole) (speech_leads F d.table d.guest.number text whole acked)

-- the same of a text that isn't final
tells_grows : (F : Type 0) (d : Did) (text : List ℕ) (whole : Bool) → (F → IsFinal text → ⊥) → Grows F d (says d text whole)
tells_grows F d text whole not_final = says_grows F d text whole (λ f latest w. unlike_final latest d.table d.guest.number text w (not_final f))

closes_grows : (F : Type 0) (d : Did) (text : List ℕ) (whole : Bool) → (F → IsFinal text → ⊥) → Grows F d (closes d text whole)
closes_grows F d text whole not_final = does_grows F d (Sends d.guest.number text whole ∷ HangsUp d.guest.number ∷ []) Leaves
    (last_leads F d.table d.guest.number text whole (λ f latest. unlike_final latest d.table d.guest.number text whole (not_final f)))

over_grows : (F : Type 0) (d : Did) (finish : Finish) → Grows F d (is_over d finish)
over_grows F d finish = does_grows F d [] (Over finish) (leads_none F d.table)

drops_grows : (F : Type 0) (d : Did) → Grows F d (does d (HangsUp d.guest.number ∷ []) Leaves)
drops_grows F d = does_grows F d (HangsUp d.guest.number ∷ []) Leaves (hang_leads F d.table d.guest.number)

commits_grows : (F : Type 0) (site : Site) (moment : ℕ) (d : Did) (message : Message) (made : Made) → (F → AreCuts made.cuts) → Grows F d (commits site moment d message made)
commits_grows F site moment d message made some = record {
  more = Does (Asks (accept_of site moment message made)) ∷ [];
  effects = refl;
  leads = record { table = refl; acked = λ f latest. (tt, tt); taking = (tt, tt); fits = λ f. (some f, tt) };
  number = refl;
}

accepts_by : (F : Type 0) (site : Site) (moment : ℕ) (d : Did) (message : Message) (made : Made) (whole spent : Bool) → is_spent d.table made ≡ spent → (F → is_spent d.table made ≡ false → AreCuts made.cuts)
    → Grows F d (if spent then is_over d (By IdsSpent) else says (commits site moment d message made) (stored_text d.table.next) whole)
accepts_by F site moment d message made whole true e some = over_grows F d (By IdsSpent)
accepts_by F site moment d message made whole false e some =
    let command : Command = accept_of site moment message made in record {
      more = Does (Asks command) ∷ speech d.guest.number (stored_text d.table.next) whole;
      effects = append_assoc d.effects (Does (Asks command) ∷ []) (speech d.guest.number (stored_text d.table.next) whole);
      leads = accept_leads F d.table command d.guest.number (stored_text d.table.next) whole tt (λ f. some f e) (λ f w. message_of site moment d.table message made made.cuts d.guest.number w e refl (some f e));
      number = refl;
    }

-- a message is accepted, and its id told
stores_grows : (F : Type 0) (site : Site) (moment : ℕ) (d : Did) (message : Message) (made : Made) (whole : Bool) → (F → is_spent d.table made ≡ false → AreCuts made.cuts) → Grows F d (accepts site moment d message made whole)
stores_grows F site moment d message made whole some = accepts_by F site moment d message made whole (is_spent d.table made) refl some

-- no text that an answer says is final
abbrev IsUnfinal : List ℕ → ℕ → Answer → Type 0
IsUnfinal host limit answer = (text : List ℕ) → text_told (did_of host limit answer) ≡ Some text → IsFinal text → ⊥

replies_grows : (F : Type 0) (site : Site) (moment : ℕ) (d : Did) (answer : Answer) (made : Made) (whole : Bool) → (F → IsUnfinal (shown_host site.host) (limit_of d) answer) → (F → IsMadeAt site moment d.table answer made) → Grows F d (replies site moment d answer made whole)
replies_grows F site moment d (Says reply) made whole final taken = tells_grows F d (text_of reply) whole (λ f. final f (text_of reply) refl)
replies_grows F site moment d (Refuses error) made whole final taken = tells_grows F d (refusal_text error) whole (λ f. final f (refusal_text error) refl)
replies_grows F site moment d Greets made whole final taken = tells_grows F d (hello_text (shown_host site.host)) whole (λ f. final f (hello_text (shown_host site.host)) refl)
replies_grows F site moment d Extends made whole final taken = tells_grows F d (extended_text (shown_host site.host) (limit_of d)) whole (λ f. final f (extended_text (shown_host site.host) (limit_of d)) refl)
replies_grows F site moment d Grants made whole final taken = tells_grows F d grant_text whole (λ f. final f grant_text refl)
replies_grows F site moment d TakesLeave made whole final taken = closes_grows F d (closing_text (shown_host site.host)) whole (λ f. final f (closing_text (shown_host site.host)) refl)
replies_grows F site moment d (Gives mail) made whole final taken = stores_grows F site moment d (of_mail mail) made whole (λ f left. cuts_taken site.config site.maps moment (of_mail mail) d.table.next made (taken f (unspent d.table made left)))
replies_grows F site moment d StaysSilent made whole final taken = grows_none F d

lack_grows : (F : Type 0) (d : Did) (whole : Bool) → Grows F d (says d out_of_memory_text whole)
lack_grows F d whole = tells_grows F d out_of_memory_text whole (λ f. memory_final)

failing_grows : (F : Type 0) (site : Site) (moment : ℕ) (d : Did) (message : Message) (made : Made) (spent : Bool) → is_spent d.table made ≡ spent → (F → is_spent d.table made ≡ false → AreCuts made.cuts) → Grows F d (if spent then is_over d (By IdsSpent) else is_over (commits site moment d message made) (By SpoolFault))
failing_grows F site moment d message made true e some = over_grows F d (By IdsSpent)
failing_grows F site moment d message made false e some =
    let c = commits site moment d message made in
    grows_join F F F (λ f. f) (λ f. f) d c (is_over c (By SpoolFault)) (commits_grows F site moment d message made (λ f. some f e)) (over_grows F c (By SpoolFault))

fails_grows : (F : Type 0) (site : Site) (moment : ℕ) (d : Did) (answer : Answer) (made : Made) → (F → IsMadeAt site moment d.table answer made) → Grows F d (fails site moment d answer made)
fails_grows F site moment d (Gives mail) made taken = failing_grows F site moment d (of_mail mail) made (is_spent d.table made) refl (λ f left. cuts_taken site.config site.maps moment (of_mail mail) d.table.next made (taken f (unspent d.table made left)))
fails_grows F site moment d (Says reply) made taken = over_grows F d Cut
fails_grows F site moment d (Refuses error) made taken = over_grows F d Cut
fails_grows F site moment d Greets made taken = over_grows F d Cut
fails_grows F site moment d Extends made taken = over_grows F d Cut
fails_grows F site moment d Grants made taken = over_grows F d Cut
fails_grows F site moment d TakesLeave made taken = over_grows F d Cut
fails_grows F site moment d StaysSilent made taken = over_grows F d Cut

line_grows : (F : Type 0) (d e : Did) (line : Line) (said : Said) (short : Bool) (id : Option ℕ) → Grows F d e → Grows F d (heard_line e line said short id)
line_grows F d e line said short id h = record { more = h.more; effects = h.effects; leads = h.leads; number = h.number }

where_grows : (F : Type 0) (d e : Did) (line : Line) (said : Said) (id : Option ℕ) (answered : Bool) → Grows F d e → Grows F d (heard_where answered e line said false id)
where_grows F d e line said id true h = line_grows F d e line said false id h
where_grows F d e line said id false h = h

drop_grows : (F : Type 0) (d : Did) (may : Bool) → Grows F d (if may then does d (HangsUp d.guest.number ∷ []) Leaves else is_over d Cut)
drop_grows F d true = drops_grows F d
drop_grows F d false = over_grows F d Cut

judged_grows : (F : Type 0) (d : Did) (asked : Bool) → Grows F d (if asked then is_over d (By FilesFault) else is_over d Cut)
judged_grows F d true = over_grows F d (By FilesFault)
judged_grows F d false = over_grows F d Cut

-- 452 4.3.1 to a line, but where it is dropped
short_grows : (F : Type 0) (d e : Did) (passed : Bool) → Grows F d e → Grows F d (if passed then is_over d Cut else e)
short_grows F d e true h = over_grows F d Cut
short_grows F d e false h = h

choice_grows : (j : JudgeSeen) (site : Site) (moment : ℕ) (d : Did) (choice : Choice) (line : Option Line) → Grows (IsMeant j site moment d choice line) d (by_choice site moment d choice line)
choice_grows j site moment d (Normal said made whole) (Some line) =
    let F : Type 0 = IsMeant j site moment d (Normal said made whole) (Some line) in
    let answer = answer_by d said line in
    where_grows F d (replies site moment d answer made whole) line said (id_by d.table answer) (is_answered d.table made answer)
    (replies_grows F site moment d answer made whole
    (λ f text told. told_final d.guest.config (shown_host site.host) d.guest.peer (limit_of d) d.guest.heard said line text (said_formed j.answerer j.test (question_here d line) said f.0) told)
    (λ f. f.1))
choice_grows j site moment d (OutOfMemory whole) (Some line) =
    short_grows (Unit {0}) d (heard_line (says d out_of_memory_text whole) line Unasked true None) (is_passed d.guest line)
    (line_grows (Unit {0}) d (says d out_of_memory_text whole) line Unasked true None (lack_grows (Unit {0}) d whole))
choice_grows j site moment d (SpoolFails made) (Some line) = fails_grows (IsMeant j site moment d (SpoolFails made) (Some line)) site moment d (answer_by d Unasked line) made (λ f. f)
choice_grows j site moment d JudgeFails (Some line) = judged_grows (Unit {0}) d (is_some (question_here d line))
choice_grows j site moment d Disconnects (Some line) = drop_grows (Unit {0}) d d.may_disconnect
choice_grows j site moment d Disconnects None = drop_grows (Unit {0}) d d.may_disconnect
choice_grows j site moment d (Normal said made whole) None = over_grows (said ≡ Unasked) d Cut
choice_grows j site moment d (OutOfMemory whole) None = over_grows (Unit {0}) d Cut
choice_grows j site moment d (SpoolFails made) None = over_grows (Unit {0}) d Cut
choice_grows j site moment d JudgeFails None = over_grows (Unit {0}) d Cut

answered_grows : (j : JudgeSeen) (site : Site) (moment : ℕ) (d : Did) (choice : Choice) → Grows (IsMeant j site moment d choice (next_line d.guest)) d (answered site moment d choice)
answered_grows j site moment d choice =
    let F = IsMeant j site moment d choice (next_line d.guest) in
    goes_keeps (Grows F d) d.way d (by_choice site moment d choice (next_line d.guest)) (grows_none F d) (choice_grows j site moment d choice (next_line d.guest))

fold_grows : (j : JudgeSeen) (site : Site) (moment : ℕ) (d : Did) (choices : List Choice) → Grows (AreMeant j site moment d choices) d (fold (answered site moment) d choices)
fold_grows j site moment d [] = grows_none (Unit {0}) d
fold_grows j site moment d (choice ∷ choices) =
    let e = answered site moment d choice in
    grows_join (IsMeant j site moment d choice (next_line d.guest)) (AreMeant j site moment e choices) (AreMeant j site moment d (choice ∷ choices)) (λ f. f.0) (λ f. f.1) d e (fold (answered site moment) e choices) (answered_grows j site moment d choice) (fold_grows j site moment e choices)

settled_grows : (F : Type 0) (way : Way) (line : Option Line) (d : Did) → Grows F d (settled_by way line d)
settled_grows F GoesOn (Some line) d = over_grows F d Cut
settled_grows F GoesOn None d = grows_none F d
settled_grows F Leaves line d = grows_none F d
settled_grows F (Over finish) line d = grows_none F d

all_grows : (j : JudgeSeen) (site : Site) (moment : ℕ) (table : Table) (guest : Guest) (choices : List Choice) → Grows (AreMeant j site moment (fresh_start table guest) choices) (fresh_start table guest) (all_answered site moment table guest choices)
all_grows j site moment table guest choices =
    let d = fresh_start table guest in
    let F : Type 0 = AreMeant j site moment d choices in
    let e = fold (answered site moment) d choices in
    grows_join F F F (λ f. f) (λ f. f) d e (settled e) (fold_grows j site moment d choices) (settled_grows F e.way (next_line e.guest) e)

pub all_leads : (j : JudgeSeen) (site : Site) (moment : ℕ) (table : Table) (guest : Guest) (choices : List Choice) → Leads (AreMeant j site moment (fresh_start table guest) choices) table (all_answered site moment table guest choices).table (all_answered site moment table guest choices).effects
all_leads j site moment table guest choices =
    let h = all_grows j site moment table guest choices in
    subst (Leads (AreMeant j site moment (fresh_start table guest) choices) table (all_answered site moment table guest choices).table) (sym h.effects) h.leads

-- ---- events

abbrev pub Steps : Type 0 → Table → Step → Type 0
Steps F table step = Leads F table step.state.table step.effects

either_steps : (F : Type 0) (table : Table) (b : Bool) (one other : Step) → Steps F table one → Steps F table other → Steps F table (if b then one else other)
either_steps F table true one other h k = h
either_steps F table false one other h k = k

pub still_steps : (F : Type 0) (m : State) → Steps F m.table (still m)
still_steps F m = leads_none F m.table

away_steps : (F : Type 0) (m : State) (session : ℕ) (choice : Opening) → Steps F m.table (turned_away m session choice)
away_steps F m session (Replied whole) = last_leads F m.table session too_many_sessions_text whole (λ f latest. unlike_final latest m.table session too_many_sessions_text whole sessions_final)
away_steps F m session Dropped = leads_none F m.table

greeted : (site : Site) (latest : List Stored) (table : Table) (session : ℕ) (whole : Bool) → IsAcked latest table (Sends session (greeting_text (shown_host site.host)) whole)
greeted site latest table session whole = unlike_final latest table session (greeting_text (shown_host site.host)) whole (greeting_final (shown_host site.host))

welcome_steps : (F : Type 0) (site : Site) (m : State) (session : ℕ) (peer : List ℕ) (choice : Opening) → Steps F m.table (welcomed site m session peer choice)
welcome_steps F site m session peer (Replied true) = speech_leads F m.table session (greeting_text (shown_host site.host)) true (λ f latest. greeted site latest m.table session)
welcome_steps F site m session peer (Replied false) = speech_leads F m.table session (greeting_text (shown_host site.host)) false (λ f latest. greeted site latest m.table session)
welcome_steps F site m session peer Dropped = hang_leads F m.table session

pub opened_steps : (F : Type 0) (site : Site) (m : State) (session : ℕ) (peer : List ℕ) (choice : Opening) → Steps F m.table (opened site m session peer choice)
opened_steps F site m session peer choice =
    let crowd = if nat_le most_guests (length m.guests) then turned_away m session choice else welcomed site m session peer choice in
    either_steps F m.table (is_here session m.guests) (still m) crowd (still_steps F m)
    (either_steps F m.table (nat_le most_guests (length m.guests)) (turned_away m session choice) (welcomed site m session peer choice) (away_steps F m session choice) (welcome_steps F site m session peer choice))

brought_steps : (F : Type 0) (m : State) (way : Way) (d : Did) → Leads F m.table d.table d.effects → Steps F m.table (brought m way d)
brought_steps F m GoesOn d h = h
brought_steps F m Leaves d h = h
brought_steps F m (Over finish) d h = h

pub pieced_steps : (j : JudgeSeen) (site : Site) (m : State) (bytes : List ℕ) (choices : List Choice) (guest : Option Guest) → Steps (ArePieceMeant j site m bytes choices guest) m.table (pieced site m bytes choices guest)
pieced_steps j site m bytes choices None = still_steps (Unit {0}) m
pieced_steps j site m bytes choices (Some guest) =
    let d = all_answered site m.latest m.table (with_bytes guest bytes) choices in
    brought_steps (ArePieceMeant j site m bytes choices (Some guest)) m d.way d (all_leads j site m.latest m.table (with_bytes guest bytes) choices)
