-- A message is taken into the queue, or not.
use Rattle.std.proofs.Common.{◌≡◌, ◌⊎◌, inl, inr, ℕ, ◌+◌, ◌<◌, ◌≤◌, ◌^◌, List, Bool, true, false, Option, Some, None, Result, Err, refl, sym, ◌∙◌, ap, subst, arith}
use Rattle.std.specs.Prelude.{IfSome, length, max}
use Rattle.std.proofs.lemmas.List.{length-map}
use Rattle.std.proofs.lemmas.Bool.{cond-true, cond-false, false≢true, lt-ltb, le-ltb}
use Rattle.mail_base.specs.Histories.{Gains, Rose}
use Rattle.mail_base.specs.declared.config.Config.{Config}
use Rattle.mail_core.specs.Seen.{Beside, IsSparing, seen}
use Rattle.mail_core.proofs.RanLemmas.{IsEither}
use Rattle.link_edge.specs.Heard.{Heard as FloorHeard}
use Rattle.mail_base.specs.Limits.{most_rows}
use Rattle.mail_base.specs.declared.message.Cut.{Cut}
use Rattle.mail_base.specs.declared.message.Message.{Message}
use Rattle.map_tables.specs.Answers.{Loaded}
use Rattle.smtp_receive.specs.Dialogue.{Gives}
use Rattle.smtp_receive.specs.Mails.{mail_of}
use Rattle.smtp_receive.specs.Judging.{Unasked}
use Rattle.smtp_receive.specs.Replies.{out_of_memory_text, stored_text}
use Rattle.spool_disk.specs.Disk.{FileMap}
use Rattle.spool_disk.specs.Spooled.{Spooled}
use Rattle.spool_store.specs.Entries.{Table}
use Rattle.spool_store.specs.Moves.{Moves}
use Rattle.spool_store.specs.Parts.{IsEitherTable}
use Rattle.spool_store.specs.Settled.{IsSettled, StandsFor}
use Rattle.spool_store.specs.Stores.{Agrees, Holds, KeepsOthers, StoreSeen}
use Rattle.spool_store.proofs.MovesLemmas.{moves_weaker}
use Rattle.queue_table.specs.Calls.{AreDirs, HoldsTable, IsAccepting, IsSame, Stays, Tallies, store}
use Rattle.queue_table.specs.Commands.{Command, after, draft_of}
use Rattle.queue_table.specs.Commands.Command.{Accept}
use Rattle.queue_table.specs.declared.accepting.Accepting.{Accepting}
use Rattle.queue_table.specs.declared.table.Table.{Table as Kept}
use Rattle.queue_table.specs.declared.terms.Terms.{Terms}
use Rattle.mail_core.specs.declared.caller.Caller.{Caller}
use Rattle.mail_core.specs.declared.next.Next.{Next}
use Rattle.mail_core.specs.declared.serving.CoreStop.{CoreStop}
use Rattle.mail_core.specs.declared.serving.CoreStop.TheVariants as stops
use Rattle.mail_core.specs.declared.intake.Intake.{Intake}
use Rattle.mail_core.specs.Sites.{IsUnder, Site, terms_at}
use Rattle.mail_core.specs.Effects.{heard_of, speech}
use Rattle.mail_core.specs.inner.Going.{LeadsTo, AnswersMessage, IsReset, is_onward, is_granted}
use Rattle.mail_core.specs.States.{IdsSpent, By}
use Rattle.mail_core.specs.Machine.{Normal, OutOfMemory, SpoolFails, GoesOn, Did, says, is_over, commits, accepts}
use Rattle.mail_core.specs.Meant.{IsMadeAt}
use Rattle.mail_made.specs.Messages.{IsTakenIn, Made, headed, ids_for, is_spent, last_id}
use Rattle.mail_core.specs.Messages.{accept_of}
use Rattle.mail_core.specs.Standing.{Serves, Stores}
use Rattle.mail_core.proofs.SparingLemmas.{sparing_call}
use Rattle.mail_core.proofs.GoingLemmas.{IsSpoken, does_says, does_spent, does_failed, does_accepts, accepts_guest, fails_guest}

-- ---- the table

-- a table with another room has what is told
pub tallies_same : (old new : Kept) (told : Option FileMap) → IsSame old new → ((store old).broken ≡ false → IfSome told (Agrees (store old))) → (store new).broken ≡ false → IfSome told (Agrees (store new))
tallies_same old new told same h = λ whole. agrees_same old new told same (h (sym (ap (λ (q : StoreSeen). q.broken) same.1) ∙ whole))
  where
    agrees_same : (old new : Kept) (told : Option FileMap) → IsSame old new → IfSome told (Agrees (store old)) → IfSome told (Agrees (store new))
    agrees_same old new None same h = tt
    agrees_same old new (Some f) same h = subst (λ (q : StoreSeen). Agrees q f) (sym same.1) (record { each = h.each; all = h.all; strange = h.strange; tidy = h.tidy })

stores_same : (site : Site) (old new : Kept) (table : Table) → IsSame old new → Stores site old table → Stores site new table
stores_same site old new table same s = record {
  holds = subst (λ (q : StoreSeen). Holds q table) (sym same.1) (record { entries = s.holds.entries; next = s.holds.next });
  whole = ap (λ (q : StoreSeen). q.broken) same.1 ∙ s.whole;
  dirs = ap (λ (q : StoreSeen). q.dirs) same.1 ∙ s.dirs;
  terms = same.0 ∙ s.terms;
  groups = s.groups;
}

-- an intake whose table has another room serves the same table
pub serves_same : (site : Site) (old new : Intake) (table : Table) → new ≡ record old { table = new.table } → IsSame old.table new.table → Serves site old table → Serves site new table
serves_same site old new table is same s = record {
  stores = stores_same site old.table new.table table same s.stores;
  short = ap (λ (i : Intake). i.short) is ∙ s.short;
  range = subst (λ n. n < 2 ^ 64) (sym (ap (λ (i : Intake). i.moment) is)) s.range;
}

-- each group has its directory among those of the table
pub dirs_are : (site : Site) (kept : Kept) (table : Table) → Stores site kept table → AreDirs kept.terms (store kept).dirs
dirs_are site kept table s = subst (λ (q : Terms). AreDirs q (store kept).dirs) (sym s.terms) (subst (λ (q : List (List ℕ)). AreDirs (terms_at site) q) (sym s.dirs) s.groups)

-- and so it has with another room
pub dirs_same : (old new : Kept) → IsSame old new → AreDirs old.terms (store old).dirs → AreDirs new.terms (store new).dirs
dirs_same old new same h = subst (λ (q : Terms). AreDirs q (store new).dirs) (sym same.0) (subst (λ (q : List (List ℕ)). AreDirs old.terms q) (sym (ap (λ (q : StoreSeen). q.dirs) same.1)) h)

-- a table that took a message in serves
stores_more : (site : Site) (old new : Kept) (table next : Table) → Stores site old table → Stays old new → (store new).broken ≡ (store old).broken → HoldsTable new next → Stores site new next
stores_more site old new table next s stays on holds = record {
  holds = holds;
  whole = on ∙ s.whole;
  dirs = stays.dirs ∙ s.dirs;
  terms = stays.terms ∙ s.terms;
  groups = s.groups;
}

-- a table that is whole can only fail where the count rose
pub rose_of : (site : Site) (kept : Kept) (table : Table) (a b : ℕ) → Stores site kept table → ((store kept).broken ≡ true) ⊎ Rose a b → Rose a b
rose_of site kept table a b s (inl e) = absurd (false≢true (sym s.whole ∙ e))
rose_of site kept table a b s (inr r) = r

-- ---- ids

-- where an id is wanting for one of the parts, the table's ids are spent
pub spent_is : (table : Table) (made : Made) (next : ℕ) → next ≡ table.next → last_id + 1 < next + ids_for made.cuts → is_spent table made ≡ true
spent_is table made next e lt = lt-ltb (last_id + 1) (table.next + max 1 (length made.cuts)) (omega (arith, e, lt))

-- then fewer are left than a message may have rows
pub wanting_is : (table : Table) (made : Made) (next : ℕ) → next ≡ table.next → length made.cuts ≤ most_rows → last_id + 1 < next + ids_for made.cuts → last_id + 1 < table.next + most_rows
unfolding most_rows
wanting_is table made next e few lt = omega (arith, e, few, lt)

-- where the parts can be stored, they aren't
pub left_is : (kept : Kept) (table : Table) (moment : ℕ) (message : Message) (made : Made) (accepting : Accepting) → HoldsTable kept table → IsAccepting kept message made.cuts moment accepting → is_spent table made ≡ false
unfolding last_id
left_is kept table moment message made accepting holds p =
    let drafts = length-map p.rest (draft_of kept.terms message moment) in
    let count = ap (λ (q : List Cut). length q) p.whole in
    let room = p.parcel.able.room in
    let next = holds.next in
    le-ltb (last_id + 1) (table.next + max 1 (length made.cuts)) (omega (arith, next, room, drafts, count))

-- ---- what a commit does, said of the site

-- the command is the site's
command_is : (site : Site) (kept : Kept) (table : Table) (moment : ℕ) (message : Message) (made : Made) → Stores site kept table → Accept kept.terms (headed made.first message) made.cuts moment ≡ accept_of site moment message made
command_is site kept table moment message made s = ap (λ (q : Terms). Accept q (headed made.first message) made.cuts moment) s.terms

module _ (site : Site) (moment : ℕ) (message : Message) (made : Made) (a b : Spooled) (kept : Kept) (table : Table) (s : Stores site kept table) where
  abbrev command : Command
  command = Accept kept.terms (headed made.first message) made.cuts moment

  -- a commit that is done leads to the table with the message
  pub moves_done_at : Moves a b (StandsFor (store kept).dirs table) (IsSettled (store kept).dirs (after table command)) (IsEitherTable (store kept).dirs table (after table command))
      → Moves a b (StandsFor site.dirs table) (StandsFor site.dirs (after table (accept_of site moment message made))) (IsEither site.dirs table (accept_of site moment message made))
  moves_done_at m =
      subst (λ (q : Command). Moves a b (StandsFor site.dirs table) (StandsFor site.dirs (after table q)) (IsEither site.dirs table q)) (command_is site kept table moment message made s)
      (subst (λ (q : List (List ℕ)). Moves a b (StandsFor q table) (StandsFor q (after table command)) (IsEither q table command)) s.dirs
      (moves_weaker a b (StandsFor (store kept).dirs table) (IsSettled (store kept).dirs (after table command)) (IsEither (store kept).dirs table command) (StandsFor (store kept).dirs (after table command)) (IsEither (store kept).dirs table command) (λ f h. h.stands) (λ f h. h) m))

  -- one that fails leaves the table without the message or with it
  pub moves_failed_at : Moves a b (StandsFor (store kept).dirs table) (IsEitherTable (store kept).dirs table (after table command)) (IsEitherTable (store kept).dirs table (after table command))
      → Moves a b (StandsFor site.dirs table) (IsEither site.dirs table (accept_of site moment message made)) (IsEither site.dirs table (accept_of site moment message made))
  moves_failed_at m =
      subst (λ (q : Command). Moves a b (StandsFor site.dirs table) (IsEither site.dirs table q) (IsEither site.dirs table q)) (command_is site kept table moment message made s)
      (subst (λ (q : List (List ℕ)). Moves a b (StandsFor q table) (IsEither q table command) (IsEither q table command)) s.dirs m)

  -- what is kept then holds the table with it
  holds_at : (new : Kept) → HoldsTable new (after table command) → HoldsTable new (after table (accept_of site moment message made))
  holds_at new h = subst (λ (q : Command). HoldsTable new (after table q)) (command_is site kept table moment message made s) h

-- what a commit spares, said of the site: the table has what is told before and after it
pub spared_at : (site : Site) (old new : Kept) (table : Table) (s t : Spooled) → Stores site old table → Stays old new → Tallies old s → IfSome t.told (Agrees (store new))
    → ((f : FileMap) → Moves s t (λ g. g ≡ f) (KeepsOthers (store old).dirs f) (KeepsOthers (store old).dirs f)) → IsSparing site.dirs s t true
spared_at site old new table s t is stays before behind moves =
    subst (λ (q : List (List ℕ)). IsSparing q s t true) is.dirs
    (sparing_call (store old) (store new) s t (before is.whole) behind stays.dirs stays.strange moves)

-- what is made of a message is what the site makes of it, under the id that the table gives
pub taken_at : (site : Site) (config : Config) (maps : Loaded) (moment next : ℕ) (table : Table) (message : Message) (made : Made) → IsUnder site config maps → next ≡ table.next → IsTakenIn config maps moment message next made → IsTakenIn site.config site.maps moment message table.next made
taken_at site config maps moment next table message made under same t =
    subst (λ (q : Config). IsTakenIn q site.maps moment message table.next made) (sym under.config_is)
    (subst (λ (q : Loaded). IsTakenIn config q moment message table.next made) (sym under.maps_are)
    (subst (λ n. IsTakenIn config maps moment message n made) same t))

-- ---- the exits of accept

module _ (site : Site) (moment : ℕ) (d : Did) (message : Message) (old new : Caller) (k : Beside) where
  -- an id is wanting
  pub message_spent : (f : FloorHeard) (s : Spooled) (intake : Intake) (made : Made) → is_spent d.table made ≡ true → last_id + 1 < d.table.next + most_rows → IsMadeAt site moment d.table (Gives (mail_of message)) made → AnswersMessage site moment d message (seen f s k) (seen f s k) intake old new (Err stops.IdsSpent)
  message_spent f s intake made spent wanting meant = record {
    choice = SpoolFails made;
    answers = λ e. cc e;
    meant = meant;
    does = subst (λ e. LeadsTo site d e (seen f s k) (seen f s k) (Err stops.IdsSpent)) (sym (cond-true (is_spent d.table made) _ _ spent)) (does_spent site d f s k wanting);
    guest = fails_guest site moment d message made;
    serves = λ on. absurd (cc on);
    caller = λ on. absurd (cc on);
    granted = refl;
  }

  -- it was not taken in for want of memory
  pub message_lacked : (f g : FloorHeard) (s : Spooled) (intake : Intake) (fed : Result Next CoreStop) → IsSpoken fed → is_granted fed ≡ false → Gains f.told g.told (heard_of (speech d.guest.number out_of_memory_text (is_onward fed))) → g.faults ≡ f.faults
      → Serves site intake d.table → IsReset old new → AnswersMessage site moment d message (seen f s k) (seen g s k) intake old new fed
  message_lacked f g s intake fed spoken granted told own serves reset = record {
    choice = OutOfMemory (is_onward fed);
    answers = λ e. cc e;
    meant = tt;
    does = does_says site d f g s k out_of_memory_text fed spoken told own;
    guest = refl;
    serves = λ on. serves;
    caller = λ on. reset;
    granted = granted;
  }

  module _ (made : Made) (taken : IsTakenIn site.config site.maps moment message d.table.next made) where
    -- the spool failed
    pub message_failed : (f : FloorHeard) (s t : Spooled) (intake : Intake) → is_spent d.table made ≡ false → Moves s t (StandsFor site.dirs d.table) (IsEither site.dirs d.table (accept_of site moment message made)) (IsEither site.dirs d.table (accept_of site moment message made)) → IsSparing site.dirs s t false → s.faults ≤ t.faults → Rose s.faults t.faults
        → AnswersMessage site moment d message (seen f s k) (seen f t k) intake old new (Err stops.SpoolFault)
    message_failed f s t intake left moves sparing later rose = record {
      choice = SpoolFails made;
      answers = λ e. cc e;
      meant = λ l. taken;
      does = does_failed site moment d message made f s t k left moves sparing later rose;
      guest = fails_guest site moment d message made;
      serves = λ on. absurd (cc on);
      caller = λ on. absurd (cc on);
      granted = refl;
    }

    module _ (f g : FloorHeard) (s t : Spooled) (before intake : Intake) (kept : Kept) (fed : Result Next CoreStop) where
      -- an intake whose table has taken it in
      taken_in : (serves : Serves site before d.table) → intake ≡ record before { table = kept } → Stays before.table kept → (store kept).broken ≡ (store before.table).broken
          → HoldsTable kept (after d.table (Accept before.table.terms (headed made.first message) made.cuts moment)) → Serves site intake (after d.table (accept_of site moment message made))
      taken_in serves is stays on holds = subst (λ i. Serves site i (after d.table (accept_of site moment message made))) (sym is) (record {
        stores = stores_more site before.table kept d.table (after d.table (accept_of site moment message made)) serves.stores stays on (holds_at site moment message made s t before.table d.table serves.stores kept holds);
        short = serves.short;
        range = serves.range;
      })

      -- the table of a message that was taken in
      accepted_in : (whole : Bool) → is_spent d.table made ≡ false → Serves site intake (after d.table (accept_of site moment message made)) → Serves site intake (accepts site moment d message made whole).table
      accepted_in whole left serves = subst (λ (e : Did). Serves site intake e.table) (sym (cond-false (is_spent d.table made) (is_over d (By IdsSpent)) (says (commits site moment d message made) (stored_text d.table.next) whole) left)) serves

      -- it was taken in and acknowledged
      pub message_stored : (text : List ℕ) → d.way ≡ GoesOn → is_spent d.table made ≡ false → text ≡ stored_text d.table.next
          → Moves s t (StandsFor site.dirs d.table) (StandsFor site.dirs (after d.table (accept_of site moment message made))) (IsEither site.dirs d.table (accept_of site moment message made)) → IsSparing site.dirs s t true → s.faults ≤ t.faults
          → IsSpoken fed → is_granted fed ≡ false → Gains f.told g.told (heard_of (speech d.guest.number text (is_onward fed))) → g.faults ≡ f.faults
          → Serves site before d.table → intake ≡ record before { table = kept } → Stays before.table kept → (store kept).broken ≡ (store before.table).broken
          → HoldsTable kept (after d.table (Accept before.table.terms (headed made.first message) made.cuts moment)) → new ≡ old
          → AnswersMessage site moment d message (seen f s k) (seen g t k) intake old new fed
      message_stored text way left is moves sparing later spoken granted told own serves is_in stays on holds same = record {
        choice = Normal Unasked made (is_onward fed);
        answers = λ e. cc e;
        meant = (refl, λ l. taken);
        does = does_accepts site moment d message made f g s t k fed way left moves sparing later spoken (subst (λ q. Gains f.told g.told (heard_of (speech d.guest.number q (is_onward fed)))) is told) own;
        guest = accepts_guest site moment d message made (is_onward fed);
        serves = λ goes. accepted_in (is_onward fed) left (taken_in serves is_in stays on holds);
        caller = λ on. same;
        granted = granted;
      }
