-- What is done for a line joins, and single sends are done.
use Rattle.std.proofs.Common.{◌≡◌, ◌⊎◌, inl, inr, ℕ, ◌+◌, ◌<◌, ◌≤◌, List, [], ◌∷◌, ◌++◌, Bool, true, false, Result, Ok, Err, refl, sym, ◌∙◌, ap, subst, arith, append_assoc}
use Rattle.std.specs.Prelude.{Option, Some, None, not, if◌then◌else◌}
use Rattle.std.proofs.lemmas.List.{append-nil}
use Rattle.std.proofs.lemmas.Bool.{cond-false, false≢true}
use Rattle.mail_base.specs.Histories.{Gains, Rose}
use Rattle.mail_base.specs.Limits.{most_rows}
use Rattle.mail_core.specs.Seen.{Beside, IsSparing, Ran, Seen, seen}
use Rattle.link_edge.specs.Heard.{Heard}
use Rattle.smtp_lines.specs.declared.line.Line.{Line}
use Rattle.mail_base.specs.declared.message.Message.{Message}
use Rattle.smtp_receive.specs.Judging.{Said, Unasked}
use Rattle.smtp_receive.specs.Replies.{stored_text}
use Rattle.spool_disk.specs.Spooled.{Spooled}
use Rattle.spool_store.specs.Moves.{Moves}
use Rattle.spool_store.specs.Entries.{Table}
use Rattle.spool_store.specs.Settled.{StandsFor}
use Rattle.queue_table.specs.Commands.{after, applied}
use Rattle.queue_run.specs.Deeds.{Asks}
use Rattle.mail_core.specs.declared.next.Next.{Next}
use Rattle.mail_core.specs.declared.next.Next.TheVariants.{Continue, BeginData, Closed}
use Rattle.mail_core.specs.declared.serving.CoreStop.{CoreStop}
use Rattle.mail_core.specs.declared.serving.CoreStop.TheVariants as stops
use Rattle.mail_core.specs.Sites.{Site}
use Rattle.mail_core.specs.Effects.{Does, Sends, HangsUp, born_of, commands_of, dialled_of, heard_of, readings_of, speech, table_after}
use Rattle.mail_core.specs.Causes.{HasCause, is_well}
use Rattle.mail_core.specs.inner.Going.{LeadsTo, heard_chosen, begins_data, stays_open, way_after, is_onward}
use Rattle.mail_core.specs.States.{Ending, Finished, SpoolFault, IdsSpent, FilesFault, NoMemory, Finish, By}
use Rattle.mail_core.specs.Machine.{GoesOn, Leaves, Over, Did, way_of, does, says, closes, is_over, commits, accepts, heard_line, heard_where, Choice, Normal, OutOfMemory, Disconnects, SpoolFails, JudgeFails}
use Rattle.mail_made.specs.Messages.{Made, is_spent, last_id}
use Rattle.mail_core.specs.Messages.{accept_of}
use Rattle.mail_core.proofs.RanLemmas.{AreOfFloor, IsEither, ran_join, ran_none, ran_floor, ran_done, ran_failed}
use Rattle.mail_core.proofs.FollowLemmas.{table_more}

-- ---- speech asks nothing of table and clock

pub speech_quiet : (s : ℕ) (text : List ℕ) (whole : Bool) → commands_of (speech s text whole) ≡ []
speech_quiet s text true = refl
speech_quiet s text false = refl

speech_unborn : (s : ℕ) (text : List ℕ) (whole : Bool) → born_of (speech s text whole) ≡ []
speech_unborn s text true = refl
speech_unborn s text false = refl

speech_undialled : (s : ℕ) (text : List ℕ) (whole : Bool) → dialled_of (speech s text whole) ≡ []
speech_undialled s text true = refl
speech_undialled s text false = refl

pub speech_of_floor : (s : ℕ) (text : List ℕ) (whole : Bool) → AreOfFloor (speech s text whole)
speech_of_floor s text whole = record { commands = speech_quiet s text whole; born = speech_unborn s text whole; dialled = speech_undialled s text whole }

pub speech_unread : (s : ℕ) (text : List ℕ) (whole : Bool) → readings_of (speech s text whole) ≡ []
speech_unread s text true = refl
speech_unread s text false = refl

-- ---- how it went, after a send

-- it went as a send does
abbrev pub IsSpoken : Result Next CoreStop → Type 0
IsSpoken fed = way_of (is_onward fed) ≡ way_after fed

-- what goes on as a send did, or closes the session, went as a send does
pub spoken_of : (next other : Next) → IsSpoken (Ok other) → (next ≡ other) ⊎ (next ≡ Closed) → IsSpoken (Ok next)
spoken_of next other h (inl e) = subst (λ n. IsSpoken (Ok n)) (sym e) h
spoken_of next other h (inr e) = subst (λ n. IsSpoken (Ok n)) (sym e) refl

-- a session that was spoken to doesn't end the run
said_on : (whole : Bool) (finish : Finish) → way_of whole ≡ Over finish → ⊥
said_on true finish e = cc e
said_on false finish e = cc e

pub spoken_on : (fed : Result Next CoreStop) (finish : Finish) → IsSpoken fed → way_after fed ≡ Over finish → ⊥
spoken_on fed finish h e = said_on (is_onward fed) finish (h ∙ e)

pub spoken_well : (fed : Result Next CoreStop) → IsSpoken fed → is_well fed ≡ true
spoken_well (Ok next) h = refl
spoken_well (Err stop) h = absurd (cc h)

-- it was no grant
pub ungranted : (next : Next) → (next ≡ Continue) ⊎ (next ≡ Closed) → begins_data next ≡ false
ungranted next (inl e) = ap begins_data e
ungranted next (inr e) = ap begins_data e

-- it was one, where the session goes on
pub granted_on : (next : Next) → (next ≡ BeginData) ⊎ (next ≡ Closed) → stays_open next ≡ true → begins_data next ≡ true
granted_on next (inl e) on = ap begins_data e
granted_on next (inr e) on = absurd (false≢true (sym (ap stays_open e) ∙ on))

-- where the session goes on, the run goes on with it
pub way_onward : (fed : Result Next CoreStop) → is_onward fed ≡ true → way_after fed ≡ GoesOn
way_onward (Ok Continue) on = refl
way_onward (Ok BeginData) on = refl
way_onward (Ok Closed) on = absurd (false≢true on)
way_onward (Err stop) on = absurd (false≢true on)

-- ---- causes

-- the cause of an ending is one since an earlier moment
pub cause_since : (ending : Ending) (table : Table) (a b c : Seen) → a.spool.faults ≤ b.spool.faults → HasCause ending table b c → HasCause ending table a c
cause_since Finished table a b c le h = h
cause_since SpoolFault table a b c le h = omega (arith, h, le)
cause_since IdsSpent table a b c le h = h
cause_since FilesFault table a b c le h = tt
cause_since NoMemory table a b c le h = tt

-- the run ended so
ended_as : (one ending : Ending) (table : Table) (a b : Seen) → Over (By one) ≡ Over (By ending) → HasCause one table a b → HasCause ending table a b
ended_as one ending table a b e h = let same : one ≡ ending = cc e in subst (λ q. HasCause q table a b) same h

-- ---- joins

-- what is done for a line and then for the next joins
pub does_join : (site : Site) (d e x : Did) (a b c : Seen) (fed : Result Next CoreStop) → LeadsTo site d e a b (Ok Continue) → LeadsTo site e x b c fed → LeadsTo site d x a c fed
does_join site d e x a b c fed h k = record {
  more = h.more ++ k.more;
  effects = k.effects ∙ ap (λ q. q ++ k.more) h.effects ∙ append_assoc d.effects h.more k.more;
  table = k.table ∙ ap (λ t. table_after t k.more) h.table ∙ sym (table_more d.table h.more k.more);
  number = k.number ∙ h.number;
  ran = ran_join site.dirs d.table a b c h.more k.more (is_well fed) h.ran (subst (λ t. Ran site.dirs t b c k.more (is_well fed)) h.table k.ran);
  way = k.way;
  cause = λ ending over. cause_since ending x.table a b c h.ran.spool_faults (k.cause ending over);
}

-- ---- single steps, where nothing is done by the spool

module _ (site : Site) (d : Did) (f g : Heard) (s : Spooled) (k : Beside) where
  -- a text was said
  pub does_says : (text : List ℕ) (fed : Result Next CoreStop) → IsSpoken fed → Gains f.told g.told (heard_of (speech d.guest.number text (is_onward fed))) → g.faults ≡ f.faults
      → LeadsTo site d (says d text (is_onward fed)) (seen f s k) (seen g s k) fed
  does_says text fed spoken told own =
      let whole = is_onward fed in
      let effects = speech d.guest.number text whole in record {
        more = effects;
        effects = refl;
        table = sym (ap (applied d.table) (speech_quiet d.guest.number text whole));
        number = refl;
        ran = subst (Ran site.dirs d.table (seen f s k) (seen g s k) effects) (sym (spoken_well fed spoken))
            (ran_floor site.dirs d.table f g s k effects (speech_of_floor d.guest.number text whole) (speech_unread d.guest.number text whole) told own);
        way = spoken;
        cause = λ ending over. absurd (spoken_on fed (By ending) spoken over);
      }

  -- the last text was said
  pub does_closes : (text : List ℕ) (whole : Bool) → Gains f.told g.told (heard_of (Sends d.guest.number text whole ∷ HangsUp d.guest.number ∷ [])) → g.faults ≡ f.faults
      → LeadsTo site d (closes d text whole) (seen f s k) (seen g s k) (Ok Closed)
  does_closes text whole told own = record {
    more = Sends d.guest.number text whole ∷ HangsUp d.guest.number ∷ [];
    effects = refl;
    table = refl;
    number = refl;
    ran = ran_floor site.dirs d.table f g s k (Sends d.guest.number text whole ∷ HangsUp d.guest.number ∷ []) (record { commands = refl; born = refl; dialled = refl }) refl told own;
    way = refl;
    cause = λ ending over. absurd (cc over);
  }

  -- the session was hung up
  pub does_drops : Gains f.told g.told (heard_of (HangsUp d.guest.number ∷ [])) → g.faults ≡ f.faults
      → LeadsTo site d (does d (HangsUp d.guest.number ∷ []) Leaves) (seen f s k) (seen g s k) (Ok Closed)
  does_drops told own = record {
    more = HangsUp d.guest.number ∷ [];
    effects = refl;
    table = refl;
    number = refl;
    ran = ran_floor site.dirs d.table f g s k (HangsUp d.guest.number ∷ []) (record { commands = refl; born = refl; dialled = refl }) refl told own;
    way = refl;
    cause = λ ending over. absurd (cc over);
  }

module _ (site : Site) (d : Did) (f : Heard) (s : Spooled) (k : Beside) where
  -- nothing was done
  pub does_none : (e : Did) → e.effects ≡ d.effects → e.table ≡ d.table → e.guest.number ≡ d.guest.number → e.way ≡ GoesOn → LeadsTo site d e (seen f s k) (seen f s k) (Ok Continue)
  does_none e effects table number way = record {
    more = [];
    effects = effects ∙ sym (append-nil d.effects);
    table = table;
    number = number;
    ran = ran_none site.dirs d.table f s k;
    way = way;
    cause = λ ending over. absurd (cc over);
  }

  -- an id is wanting
  pub does_spent : last_id + 1 < d.table.next + most_rows → LeadsTo site d (is_over d (By IdsSpent)) (seen f s k) (seen f s k) (Err stops.IdsSpent)
  does_spent spent = record {
    more = [];
    effects = refl;
    table = refl;
    number = refl;
    ran = ran_none site.dirs d.table f s k;
    way = refl;
    cause = λ ending over. ended_as IdsSpent ending d.table (seen f s k) (seen f s k) over spent;
  }

-- the judge failed
pub does_judged : (site : Site) (d : Did) (f : Heard) (s : Spooled) (k : Beside) → LeadsTo site d (is_over d (By FilesFault)) (seen f s k) (seen f s k) (Err stops.FilesFault)
does_judged site d f s k = record {
  more = [];
  effects = refl;
  table = refl;
  number = refl;
  ran = ran_none site.dirs d.table f s k;
  way = refl;
  cause = λ ending over. ended_as FilesFault ending d.table (seen f s k) (seen f s k) over tt;
}

-- ---- messages

module _ (site : Site) (moment : ℕ) (d : Did) (message : Message) (made : Made) (f : Heard) (s t : Spooled) (k : Beside) where
  -- a message was taken in
  pub does_commits : d.way ≡ GoesOn → Moves s t (StandsFor site.dirs d.table) (StandsFor site.dirs (after d.table (accept_of site moment message made))) (IsEither site.dirs d.table (accept_of site moment message made)) → IsSparing site.dirs s t true → s.faults ≤ t.faults
      → LeadsTo site d (commits site moment d message made) (seen f s k) (seen f t k) (Ok Continue)
  does_commits way moves sparing later = record {
    more = Does (Asks (accept_of site moment message made)) ∷ [];
    effects = refl;
    table = refl;
    number = refl;
    ran = ran_done site.dirs d.table (accept_of site moment message made) f s t k moves sparing later;
    way = way;
    cause = λ ending over. absurd (cc over);
  }

  -- the spool failed at a message
  pub does_failed : is_spent d.table made ≡ false → Moves s t (StandsFor site.dirs d.table) (IsEither site.dirs d.table (accept_of site moment message made)) (IsEither site.dirs d.table (accept_of site moment message made)) → IsSparing site.dirs s t false → s.faults ≤ t.faults → Rose s.faults t.faults
      → LeadsTo site d (if is_spent d.table made then is_over d (By IdsSpent) else is_over (commits site moment d message made) (By SpoolFault)) (seen f s k) (seen f t k) (Err stops.SpoolFault)
  does_failed left moves sparing later rose = subst (λ e. LeadsTo site d e (seen f s k) (seen f t k) (Err stops.SpoolFault)) (sym (cond-false (is_spent d.table made) _ _ left)) (record {
    more = Does (Asks (accept_of site moment message made)) ∷ [];
    effects = append-nil (d.effects ++ Does (Asks (accept_of site moment message made)) ∷ []);
    table = refl;
    number = refl;
    ran = ran_failed site.dirs d.table (accept_of site moment message made) f s t k moves sparing later;
    way = refl;
    cause = λ ending over. ended_as SpoolFault ending (after d.table (accept_of site moment message made)) (seen f s k) (seen f t k) over rose;
  })

-- a message was taken in, and its 250 said
pub does_accepts : (site : Site) (moment : ℕ) (d : Did) (message : Message) (made : Made) (f g : Heard) (s t : Spooled) (k : Beside) (fed : Result Next CoreStop) → d.way ≡ GoesOn → is_spent d.table made ≡ false
    → Moves s t (StandsFor site.dirs d.table) (StandsFor site.dirs (after d.table (accept_of site moment message made))) (IsEither site.dirs d.table (accept_of site moment message made)) → IsSparing site.dirs s t true → s.faults ≤ t.faults
    → IsSpoken fed → Gains f.told g.told (heard_of (speech d.guest.number (stored_text d.table.next) (is_onward fed))) → g.faults ≡ f.faults
    → LeadsTo site d (accepts site moment d message made (is_onward fed)) (seen f s k) (seen g t k) fed
does_accepts site moment d message made f g s t k fed way left moves sparing later spoken told own =
    subst (λ e. LeadsTo site d e (seen f s k) (seen g t k) fed) (sym (cond-false (is_spent d.table made) _ _ left))
    (does_join site d (commits site moment d message made) (says (commits site moment d message made) (stored_text d.table.next) (is_onward fed)) (seen f s k) (seen f t k) (seen g t k) fed
    (does_commits site moment d message made f s t k way moves sparing later)
    (does_says site (commits site moment d message made) f g t k (stored_text d.table.next) fed spoken told own))

-- the line was heard besides
pub does_heard : (site : Site) (d e : Did) (a b : Seen) (fed : Result Next CoreStop) (line : Line) (said : Said) (short : Bool) (id : Option ℕ) → LeadsTo site d e a b fed → LeadsTo site d (heard_line e line said short id) a b fed
does_heard site d e a b fed line said short id h = record { more = h.more; effects = h.effects; table = h.table; number = h.number; ran = h.ran; way = h.way; cause = h.cause }

pub does_where : (site : Site) (d e : Did) (a b : Seen) (fed : Result Next CoreStop) (line : Line) (said : Said) (id : Option ℕ) (answered : Bool) → LeadsTo site d e a b fed → LeadsTo site d (heard_where answered e line said false id) a b fed
does_where site d e a b fed line said id true h = does_heard site d e a b fed line said false id h
does_where site d e a b fed line said id false h = h

-- the line of a message was heard besides, but where the run ended
pub does_chosen : (site : Site) (d e : Did) (a b : Seen) (fed : Result Next CoreStop) (line : Line) (table : Table) (choice : Choice) → LeadsTo site d e a b fed → LeadsTo site d (heard_chosen table choice e line) a b fed
does_chosen site d e a b fed line table (Normal said made whole) h = does_where site d e a b fed line said (Some table.next) (not (is_spent table made)) h
does_chosen site d e a b fed line table (OutOfMemory whole) h = does_heard site d e a b fed line Unasked true None h
does_chosen site d e a b fed line table Disconnects h = h
does_chosen site d e a b fed line table (SpoolFails made) h = h
does_chosen site d e a b fed line table JudgeFails h = h

where_table : (answered : Bool) (d : Did) (line : Line) (said : Said) (id : Option ℕ) → (heard_where answered d line said false id).table ≡ d.table
where_table true d line said id = refl
where_table false d line said id = refl

-- what a session heard of a line, by a choice, doesn't change the table
pub chosen_table : (table : Table) (choice : Choice) (d : Did) (line : Line) → (heard_chosen table choice d line).table ≡ d.table
chosen_table table (Normal said made whole) d line = where_table (not (is_spent table made)) d line said (Some table.next)
chosen_table table (OutOfMemory whole) d line = refl
chosen_table table Disconnects d line = refl
chosen_table table (SpoolFails made) d line = refl
chosen_table table JudgeFails d line = refl

accepts_case : (b : Bool) (d x : Did) → x.guest ≡ d.guest → (if b then is_over d (By IdsSpent) else x).guest ≡ d.guest
accepts_case true d x e = refl
accepts_case false d x e = e

-- a message that is accepted doesn't change the session
pub accepts_guest : (site : Site) (moment : ℕ) (d : Did) (message : Message) (made : Made) (whole : Bool) → (accepts site moment d message made whole).guest ≡ d.guest
accepts_guest site moment d message made whole = accepts_case (is_spent d.table made) d (says (commits site moment d message made) (stored_text d.table.next) whole) refl

-- a message that isn't accepted doesn't change the session
pub fails_guest : (site : Site) (moment : ℕ) (d : Did) (message : Message) (made : Made) → (if is_spent d.table made then is_over d (By IdsSpent) else is_over (commits site moment d message made) (By SpoolFault)).guest ≡ d.guest
fails_guest site moment d message made = accepts_case (is_spent d.table made) d (is_over (commits site moment d message made) (By SpoolFault)) refl

-- what a piece leaves alone may be any
pub quiet_side : Beside
quiet_side = record {
  clock = record { told = None; readings = 0 };
  hands = record { spawner = record { told = None; missed = 0; faults = 0 }; dialer = record { told = None; missed = 0; faults = 0 } };
}
