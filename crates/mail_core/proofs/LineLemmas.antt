-- A line is answered.
use Rattle.std.proofs.Common.{◌≡◌, ℕ, List, [], ◌∷◌, ◌++◌, Bool, true, false, not, Option, Some, None, Ok, Err, refl, sym, ◌∙◌, ap, subst}
use Rattle.std.specs.Prelude.{is_some, Result, is_ok, ◌≢◌, ◌&&◌, if◌then◌else◌}
use Rattle.std.proofs.lemmas.Bool.{cond-false, cond-true}
use Rattle.mail_base.specs.Answering.{is_calm}
use Rattle.mail_base.specs.Histories.{Gains}
use Rattle.mail_base.specs.declared.config.Config.{Config}
use Rattle.map_tables.specs.Answers.{Loaded}
use Rattle.mail_core.specs.Seen.{Beside, Seen, seen}
use Rattle.link_edge.specs.Heard.{Heard as FloorHeard}
use Rattle.smtp_lines.specs.declared.line.Line.{Line}
use Rattle.smtp_lines.specs.declared.line.Line.TheVariants.{DataEnd}
use Rattle.smtp_lines.specs.Stream.{asks}
use Rattle.mail_base.specs.declared.fault.JudgeFault.{JudgeFault}
use Rattle.mail_base.specs.declared.fault.JudgeFault.TheVariants as judged
use Rattle.mail_base.specs.declared.message.Message.{Message}
use Rattle.smtp_receive.specs.Mails.{Mail, deed_of, mail_of}
use Rattle.smtp_receive.specs.Dialogue.{Answer, Gives, Heard, did_of, exchanges, is_grant}
use Rattle.smtp_receive.specs.Forms.{AreFormed, FormedFor}
use Rattle.smtp_receive.specs.Judging.{Question, Said, Unasked}
use Rattle.smtp_receive.proofs.JudgeLemmas.{formed_lacking, formed_more, said_for}
use Rattle.smtp_receive.specs.Replies.{out_of_memory_text, shown_host, stored_text}
use Rattle.smtp_receive.specs.declared.did.Did.{Did as Done}
use Rattle.smtp_receive.specs.declared.session.Session.{Session}
use Rattle.smtp_receive.specs.Sessions.{Answered, Stands as Speaks}
use Rattle.smtp_receive.proofs.KeepLemmas.{lacking}
use Rattle.smtp_receive.proofs.ToldLemmas.{gift_kept}
use Rattle.spool_disk.specs.Spooled.{Spooled}
use Rattle.mail_core.specs.declared.caller.Caller.{Caller}
use Rattle.mail_core.specs.declared.next.Next.{Next}
use Rattle.mail_core.specs.declared.next.Next.TheVariants.{Continue, BeginData, Closed}
use Rattle.mail_core.specs.declared.serving.CoreStop.{CoreStop}
use Rattle.mail_core.specs.declared.serving.CoreStop.TheVariants as stops
use Rattle.mail_core.specs.declared.intake.Intake.{Intake}
use Rattle.mail_core.specs.Sites.{IsUnder, Site}
use Rattle.mail_core.specs.Effects.{Sends, HangsUp, heard_of, speech}
use Rattle.mail_core.specs.Judges.{JudgeSeen, Says}
use Rattle.mail_core.specs.Meant.{IsMadeAt, IsMeant, IsSaidAt}
use Rattle.mail_core.specs.inner.Going.{IsMessageMeant, said_in, heard_chosen, id_chosen, way_after, LeadsTo, Hears, AnswersLine, AnswersMessage, IsAnswered, message_by, is_onward, is_granted, is_short}
use Rattle.mail_core.specs.Guests.{grants_of, has_bytes_left, is_passed, with_line, lines_heard}
use Rattle.mail_core.specs.Machine.{Choice, Normal, OutOfMemory, Disconnects, SpoolFails, JudgeFails, GoesOn, Did, answer_by, limit_of, question_here, is_over, says, closes, fails, replies, by_choice, heard_line, heard_where, id_by, is_answered, accepts, commits, fresh_start}
use Rattle.mail_core.specs.States.{Cut, By, IdsSpent, SpoolFault}
use Rattle.mail_made.specs.Messages.{is_spent}
use Rattle.mail_core.specs.Standing.{Serves, Talks}
use Rattle.mail_core.specs.inner.Handling.{IsReady}
use Rattle.mail_core.proofs.AnswerLemmas.{IsReply, IsBye, IsSilent, answer_kept, lines_more, grants_more, unmade}
use Rattle.mail_core.proofs.GoingLemmas.{quiet_side, does_chosen, chosen_table, IsSpoken, does_says, does_closes, does_none, does_heard, does_judged}

-- where the session goes on, so does the run
pub onward_alive : (fed : Result Next CoreStop) → is_onward fed ≡ true → is_ok fed ≡ true
onward_alive (Ok next) on = refl
onward_alive (Err stop) on = on

-- 452 4.3.1 to a line that isn't dropped
short_is : (site : Site) (moment : ℕ) (d : Did) (line : Line) (whole : Bool) → is_passed d.guest line ≡ false
    → by_choice site moment d (OutOfMemory whole) (Some line) ≡ heard_line (says d out_of_memory_text whole) line Unasked true None
short_is site moment d line whole kept = cond-false (is_passed d.guest line) (is_over d Cut) _ kept

-- a line for which memory was wanting isn't dropped
pub not_passed : {T E : Type 0} (passed : Bool) (told : T) (fault : E) → (passed ≡ true → Err fault ≡ Ok told) → passed ≡ false
not_passed true told fault silent = absurd (cc (silent refl))
not_passed false told fault silent = refl

module _ (j : JudgeSeen) (site : Site) (moment : ℕ) (d : Did) (line : Line) (said : Said) (intake : Intake) (caller : Caller) where
  -- the answer to the line
  abbrev answer : Answer
  answer = answer_by d said line

  -- the id that is given at it
  abbrev given : Option ℕ
  given = id_by d.table answer

  -- what is kept after it
  hears_line : (short : Bool) (id : Option ℕ) (x : Did) (fed : Result Next CoreStop) → x.guest ≡ d.guest → is_grant (answer_kept d.guest line said short) ≡ is_granted fed → Serves site intake x.table → Talks site caller (with_line d.guest line said short id)
      → Hears site d (heard_line x line said short id) (line ∷ []) intake caller fed
  hears_line short id x fed guest grant serves talks =
      let same : with_line x.guest line said short id ≡ with_line d.guest line said short id = ap (λ g. with_line g line said short id) guest in record {
        stays = record { serves = serves; talks = subst (Talks site caller) (sym same) talks; peer = ap (λ g. g.peer) guest; config = ap (λ g. g.config) guest; received = ap (λ g. g.received) guest };
        answered = ap lines_heard same ∙ lines_more d.guest line said short id;
        grants = ap grants_of same ∙ grants_more d.guest line said short id ∙ ap (λ (b : Bool). grants_of d.guest ++ (if asks line then b ∷ [] else [])) grant;
        may_disconnect = λ asking. ap (λ b. b && has_bytes_left (with_line x.guest line said short id)) asking;
      }

  -- what is done at an answer behind which the run goes on
  normal_is : (x : Did) (whole : Bool) → is_answered d.table unmade answer ≡ true → replies site moment d answer unmade whole ≡ x → by_choice site moment d (Normal said unmade whole) (Some line) ≡ heard_line x line said false given
  normal_is x whole on is =
      ap (λ y. heard_where (is_answered d.table unmade answer) y line said false given) is ∙ ap (λ b. heard_where b x line said false given) on

  module _ (f g : FloorHeard) (s : Spooled) (k : Beside) where
    -- a reply was said, and the session goes on
    pub line_said : (text : List ℕ) (grant : Bool) (fed : Result Next CoreStop) → IsSaidAt j d line said → IsReply site moment d answer text grant → IsSpoken fed → (is_onward fed ≡ true → is_granted fed ≡ grant)
        → Gains f.told g.told (heard_of (speech d.guest.number text (is_onward fed))) → g.faults ≡ f.faults → Serves site intake d.table → Talks site caller (with_line d.guest line said false given)
        → AnswersLine j site moment d line (seen f s k) (seen g s k) intake caller fed
    line_said text grant fed is_said r spoken grants told own serves talks =
        let whole = is_onward fed in
        let is = normal_is (says d text whole) whole (r.answered d.table unmade) (r.says_it unmade whole) in record {
          choice = Normal said unmade whole;
          meant = (is_said, r.meant d.table unmade);
          does = subst (λ x. LeadsTo site d x (seen f s k) (seen g s k) fed) (sym is) (does_heard site d (says d text whole) (seen f s k) (seen g s k) fed line said false given (does_says site d f g s k text fed spoken told own));
          alive = λ live. subst (λ x. Serves site intake x.table) (sym is) serves;
          hears = λ on. subst (λ x. Hears site d x (line ∷ []) intake caller fed) (sym is) (hears_line false given (says d text whole) fed refl (r.grant_is ∙ sym (grants on)) serves talks);
        }

    -- the last reply was said
    pub line_closed : (text : List ℕ) (whole : Bool) → IsSaidAt j d line said → IsBye site moment d answer text → Gains f.told g.told (heard_of (Sends d.guest.number text whole ∷ HangsUp d.guest.number ∷ [])) → g.faults ≡ f.faults → Serves site intake d.table
        → AnswersLine j site moment d line (seen f s k) (seen g s k) intake caller (Ok Closed)
    line_closed text whole is_said bye told own serves =
        let is = normal_is (closes d text whole) whole (bye.answered d.table unmade) (bye.closes_it unmade whole) in record {
          choice = Normal said unmade whole;
          meant = (is_said, bye.meant d.table unmade);
          does = subst (λ x. LeadsTo site d x (seen f s k) (seen g s k) (Ok Closed)) (sym is) (does_heard site d (closes d text whole) (seen f s k) (seen g s k) (Ok Closed) line said false given (does_closes site d f g s k text whole told own));
          alive = λ live. subst (λ x. Serves site intake x.table) (sym is) serves;
          hears = λ on. absurd (cc on);
        }

  -- nothing is said to a line of data
  pub line_taken : (f : FloorHeard) (s : Spooled) (k : Beside) → d.way ≡ GoesOn → IsSaidAt j d line said → IsSilent site moment d answer → Serves site intake d.table → Talks site caller (with_line d.guest line said false given)
      → AnswersLine j site moment d line (seen f s k) (seen f s k) intake caller (Ok Continue)
  line_taken f s k way is_said silent serves talks =
      let is = normal_is d true (silent.answered d.table unmade) (silent.says_none unmade true) in record {
        choice = Normal said unmade true;
        meant = (is_said, silent.meant d.table unmade);
        does = subst (λ x. LeadsTo site d x (seen f s k) (seen f s k) (Ok Continue)) (sym is) (does_heard site d d (seen f s k) (seen f s k) (Ok Continue) line said false given (does_none site d f s k d refl refl refl way));
        alive = λ live. subst (λ x. Serves site intake x.table) (sym is) serves;
        hears = λ on. subst (λ x. Hears site d x (line ∷ []) intake caller (Ok Continue)) (sym is) (hears_line false given d (Ok Continue) refl silent.grant_is serves talks);
      }

-- 452 4.3.1 was said
pub line_lacked : (j : JudgeSeen) (site : Site) (moment : ℕ) (d : Did) (line : Line) (intake : Intake) (caller : Caller) (f g : FloorHeard) (s : Spooled) (k : Beside) (fed : Result Next CoreStop) → is_passed d.guest line ≡ false → IsSpoken fed → (is_onward fed ≡ true → is_granted fed ≡ false)
    → Gains f.told g.told (heard_of (speech d.guest.number out_of_memory_text (is_onward fed))) → g.faults ≡ f.faults → Serves site intake d.table → Talks site caller (with_line d.guest line Unasked true None)
    → AnswersLine j site moment d line (seen f s k) (seen g s k) intake caller fed
line_lacked j site moment d line intake caller f g s k fed kept spoken grants told own serves talks =
    let whole = is_onward fed in
    let is = short_is site moment d line whole kept in record {
      choice = OutOfMemory whole;
      meant = tt;
      does = subst (λ x. LeadsTo site d x (seen f s k) (seen g s k) fed) (sym is) (does_heard site d (says d out_of_memory_text whole) (seen f s k) (seen g s k) fed line Unasked true None (does_says site d f g s k out_of_memory_text fed spoken told own));
      alive = λ live. subst (λ x. Serves site intake x.table) (sym is) serves;
      hears = λ on. subst (λ x. Hears site d x (line ∷ []) intake caller fed) (sym is)
          (hears_line j site moment d line Unasked intake caller true None (says d out_of_memory_text whole) fed refl (ap is_grant (lacking d.guest.config d.guest.peer (exchanges d.guest.config d.guest.peer d.guest.heard) line Unasked kept) ∙ sym (grants on)) serves talks);
    }

is_asked : (question : Option Question) → (question ≡ None → false ≡ true) → is_some question ≡ true
is_asked None never = never refl
is_asked (Some question) never = refl

-- a fault of files isn't calm
pub fault_calm : (e : JudgeFault) → e ≡ judged.FilesFault → is_calm {A = Done} (Err e) ≡ true → false ≡ true
fault_calm e is calm = ap (λ (q : JudgeFault). is_calm {A = Done} (Err q)) (sym is) ∙ calm

-- the judge failed at a line that asks it
pub line_judged : (j : JudgeSeen) (site : Site) (moment : ℕ) (d : Did) (line : Line) (intake : Intake) (caller : Caller) (f : FloorHeard) (s : Spooled) (k : Beside)
    → (question_here d line ≡ None → false ≡ true) → AnswersLine j site moment d line (seen f s k) (seen f s k) intake caller (Err stops.FilesFault)
line_judged j site moment d line intake caller f s k never = record {
  choice = JudgeFails;
  meant = tt;
  does = subst (λ e. LeadsTo site d e (seen f s k) (seen f s k) (Err stops.FilesFault)) (sym (cond-true (is_some (question_here d line)) _ _ (is_asked (question_here d line) never))) (does_judged site d f s k);
  alive = λ live. absurd (cc live);
  hears = λ on. absurd (cc on);
}

-- ---- what a session answers

-- what a session answered at a line, and what it stands for then
pub record AnswersAt (j : JudgeSeen) (site : Site) (d : Did) (line : Line) (session : Session) (did : Done) : Type 0 where
  pub said : Said
  pub is_said : IsSaidAt j d line said
  pub did_is : deed_of did ≡ did_of (shown_host site.host) (limit_of d) (answer_by d said line)
  pub stands : (id : Option ℕ) → Speaks session d.guest.config site.host d.guest.peer (d.guest.heard ++ record { line = line; said = said; short = false; id = id } ∷ [])

-- a caller's session answers for its guest
pub answers_at : (j : JudgeSeen) (site : Site) (config : Config) (maps : Loaded) (d : Did) (line : Line) (caller : Caller) (session : Session) (did : Done) → IsUnder site config maps → Talks site caller d.guest
    → ((host peer : List ℕ) (heard : List Heard) → Speaks caller.session config host peer heard → Answered j.answerer j.test session config host peer heard line did) → AnswersAt j site d line session did
answers_at j site config maps d line caller session did under talks answered =
    let same : d.guest.config ≡ config = talks.config ∙ under.config_is in
    let a : Answered j.answerer j.test session d.guest.config site.host d.guest.peer d.guest.heard line did =
    subst (λ q. Answered j.answerer j.test session q site.host d.guest.peer d.guest.heard line did) (sym same)
    (answered site.host d.guest.peer d.guest.heard (subst (λ q. Speaks caller.session q site.host d.guest.peer d.guest.heard) same talks.session)) in
    record { said = a.said; is_said = a.is_said; did_is = a.did_is; stands = a.stands }

-- it talks on with its guest
pub talks_at : (j : JudgeSeen) (site : Site) (d : Did) (line : Line) (old new : Caller) (session : Session) (did : Done) → Talks site old d.guest → (a : AnswersAt j site d line session did) → new.number ≡ old.number → new.session ≡ session → (id : Option ℕ) → Talks site new (with_line d.guest line a.said false id)
talks_at j site d line old new session did talks a number same id = record {
  number = number ∙ talks.number;
  config = talks.config;
  session = subst (λ q. Speaks q d.guest.config site.host d.guest.peer (d.guest.heard ++ record { line = line; said = a.said; short = false; id = id } ∷ [])) (sym same) (a.stands id);
  formed = formed_more d.guest.config d.guest.peer d.guest.heard (record { line = line; said = a.said; short = false; id = id }) talks.formed (said_for j.answerer j.test (question_here d line) a.said a.is_said);
  peer = talks.peer;
}

-- 452 4.3.1 was said to it, and it talks on with its guest
pub lacked_talks : (site : Site) (d : Did) (line : Line) (old new : Caller) → is_passed d.guest line ≡ false → Talks site old d.guest → new.number ≡ old.number → Speaks new.session d.guest.config site.host d.guest.peer (d.guest.heard ++ record { line = line; said = Unasked; short = true; id = None } ∷ []) → Talks site new (with_line d.guest line Unasked true None)
lacked_talks site d line old new kept talks number speaks = record {
  number = number ∙ talks.number;
  config = talks.config;
  session = speaks;
  formed = formed_lacking d.guest.config d.guest.peer d.guest.heard (record { line = line; said = Unasked; short = true; id = None }) talks.formed (lacking d.guest.config d.guest.peer (exchanges d.guest.config d.guest.peer d.guest.heard) line Unasked kept);
  peer = talks.peer;
}

-- nothing is put to the judge at the end of data
pub unasked_at : (d : Did) (line : Line) → line ≡ DataEnd → question_here d line ≡ None
unasked_at d line ends = ap (question_here d) ends

pub unasked_said : (j : JudgeSeen) (d : Did) (line : Line) (said : Said) → question_here d line ≡ None → IsSaidAt j d line said → said ≡ Unasked
unasked_said j d line said none is = subst (λ q. Says j q said) none is

pub asked_line : (j : JudgeSeen) (site : Site) (d : Did) (line : Line) (caller : Caller) (said : Said) (id : Option ℕ) → said ≡ Unasked → Talks site caller (with_line d.guest line said false id) → Talks site caller (with_line d.guest line Unasked false id)
asked_line j site d line caller said id is talks = subst (λ q. Talks site caller (with_line d.guest line q false id)) is talks

-- the answer to the end of data hangs on nothing that is said
pub given_by_all : (d : Did) (line : Line) (said : Said) (message : Mail) → line ≡ DataEnd → answer_by d said line ≡ Gives message → (other : Said) → answer_by d other line ≡ Gives message
given_by_all d line said message ends gives other = ap (answer_by d other) ends ∙ sym (ap (answer_by d said) ends) ∙ gives

-- ---- a line that ends a message

-- where the session goes on, the run didn't end for want of an id
spent_on : (spent : Bool) (d x : Did) (fed : Result Next CoreStop) → (if spent then is_over d (By IdsSpent) else x).way ≡ way_after fed → is_onward fed ≡ true → not spent ≡ true
spent_on false d x fed way on = refl
spent_on true d x (Ok Continue) way on = absurd (cc way)
spent_on true d x (Ok BeginData) way on = absurd (cc way)
spent_on true d x (Ok Closed) way on = absurd (cc on)
spent_on true d x (Err stop) way on = absurd (cc on)

-- nor did the spool fail
failed_on : (spent : Bool) (d x : Did) (fed : Result Next CoreStop) → (if spent then is_over d (By IdsSpent) else is_over x (By SpoolFault)).way ≡ way_after fed → is_onward fed ≡ true → ⊥
failed_on true d x (Ok Continue) way on = cc way
failed_on false d x (Ok Continue) way on = cc way
failed_on true d x (Ok BeginData) way on = cc way
failed_on false d x (Ok BeginData) way on = cc way
failed_on spent d x (Ok Closed) way on = cc on
failed_on spent d x (Err stop) way on = cc on

module _ (site : Site) (moment : ℕ) (d : Did) (line : Line) (message : Message) where
  -- whatever the judge says, the line gives the message
  abbrev GivesIt : Type 0
  GivesIt = (said : Said) → answer_by d said line ≡ Gives (mail_of message)

  chosen : GivesIt → (choice : Choice) → choice ≢ Disconnects → choice ≢ JudgeFails
      → by_choice site moment d choice (Some line) ≡ heard_chosen d.table choice (message_by site moment d message choice) line
  chosen gives (Normal said made whole) apart calm = ap (λ a. heard_where (is_answered d.table made a) (replies site moment d a made whole) line said false (id_by d.table a)) (gives said)
  chosen gives (OutOfMemory whole) apart calm = short_is site moment d line whole (gift_kept d.guest.config d.guest.peer (exchanges d.guest.config d.guest.peer d.guest.heard) Unasked line (mail_of message) (gives Unasked))
  chosen gives Disconnects apart calm = absurd (apart refl)
  chosen gives (SpoolFails made) apart calm = ap (λ a. fails site moment d a made) (gives Unasked)
  chosen gives JudgeFails apart calm = absurd (calm refl)

  -- where the session goes on, the line is among those that were answered
  chosen_on : (choice : Choice) (fed : Result Next CoreStop) → choice ≢ Disconnects → choice ≢ JudgeFails → (message_by site moment d message choice).way ≡ way_after fed → is_onward fed ≡ true
      → heard_chosen d.table choice (message_by site moment d message choice) line ≡ heard_line (message_by site moment d message choice) line (said_in choice) (is_short choice) (id_chosen d.table choice)
  chosen_on (Normal said made whole) fed apart calm way on =
      let x = accepts site moment d message made whole in
      ap (λ b. heard_where b x line said false (Some d.table.next)) (spent_on (is_spent d.table made) d (says (commits site moment d message made) (stored_text d.table.next) whole) fed way on)
  chosen_on (OutOfMemory whole) fed apart calm way on = refl
  chosen_on Disconnects fed apart calm way on = absurd (apart refl)
  chosen_on (SpoolFails made) fed apart calm way on = absurd (failed_on (is_spent d.table made) d (commits site moment d message made) fed way on)
  chosen_on JudgeFails fed apart calm way on = absurd (calm refl)

  -- what was done with the message is no grant
  no_grant : (said : Said) (short : Bool) → GivesIt → is_grant (answer_kept d.guest line said short) ≡ false
  no_grant said true gives =
      let es = exchanges d.guest.config d.guest.peer d.guest.heard in ap is_grant (lacking d.guest.config d.guest.peer es line said (gift_kept d.guest.config d.guest.peer es said line (mail_of message) (gives said)))
  no_grant said false gives = ap (λ a. is_grant (Some a)) (gives said)

  -- the caller goes on with its session as it is, or reset
  talks_on : (short : Bool) (id : Option ℕ) (old new : Caller) → question_here d line ≡ None → AreFormed d.guest.config d.guest.peer d.guest.heard → line ≡ DataEnd → Talks site old (with_line d.guest line Unasked false id) → new.number ≡ old.number → IsAnswered short old new → Talks site new (with_line d.guest line Unasked short id)
  talks_on false id old new none formed ends talks number same = subst (λ c. Talks site c (with_line d.guest line Unasked false id)) (sym same) talks
  talks_on true id old new none formed ends talks number reset = record {
    number = number ∙ talks.number;
    config = talks.config;
    session = subst (λ l. Speaks new.session d.guest.config site.host d.guest.peer (d.guest.heard ++ record { line = l; said = Unasked; short = true; id = id } ∷ [])) (sym ends)
        (reset d.guest.config site.host d.guest.peer d.guest.heard Unasked Unasked false true id id
        (subst (λ l. Speaks old.session d.guest.config site.host d.guest.peer (d.guest.heard ++ record { line = l; said = Unasked; short = false; id = id } ∷ [])) ends talks.session));
    formed = formed_more d.guest.config d.guest.peer d.guest.heard (record { line = line; said = Unasked; short = true; id = id }) formed (subst (λ q. FormedFor q Unasked) (sym none) tt);
    peer = talks.peer;
  }

  -- what is said at a message is nothing
  said_unasked : (choice : Choice) → IsMessageMeant site moment d message choice → said_in choice ≡ Unasked
  said_unasked (Normal said made whole) m = m.0
  said_unasked (OutOfMemory whole) m = refl
  said_unasked Disconnects m = refl
  said_unasked (SpoolFails made) m = refl
  said_unasked JudgeFails m = refl

  not_judged : (choice : Choice) → IsMessageMeant site moment d message choice → choice ≢ JudgeFails
  not_judged (Normal said made whole) m = λ e. cc e
  not_judged (OutOfMemory whole) m = λ e. cc e
  not_judged Disconnects m = λ e. cc e
  not_judged (SpoolFails made) m = λ e. cc e
  not_judged JudgeFails m = absurd m

  -- the choice is one that the line's answer means
  meant_line : (j : JudgeSeen) (choice : Choice) → GivesIt → question_here d line ≡ None → IsMessageMeant site moment d message choice → IsMeant j site moment d choice (Some line)
  meant_line j (Normal said made whole) gives none m = (
    subst (λ q. Says j q said) (sym none) m.0,
    subst (λ a. IsMadeAt site moment d.table a made) (sym (gives said)) m.1,
  )
  meant_line j (OutOfMemory whole) gives none m = tt
  meant_line j Disconnects gives none m = tt
  meant_line j (SpoolFails made) gives none m = subst (λ a. IsMadeAt site moment d.table a made) (sym (gives Unasked)) m
  meant_line j JudgeFails gives none m = tt

  -- a message that was answered is the answer to the line that gave it
  pub line_given : (j : JudgeSeen) (a b : Seen) (intake : Intake) (old new : Caller) (fed : Result Next CoreStop) → GivesIt → question_here d line ≡ None → AreFormed d.guest.config d.guest.peer d.guest.heard → line ≡ DataEnd → ((id : Option ℕ) → Talks site old (with_line d.guest line Unasked false id)) → new.number ≡ old.number
      → AnswersMessage site moment d message a b intake old new fed → AnswersLine j site moment d line a b intake new fed
  line_given j a b intake old new fed gives none formed ends talks number m =
      let x = message_by site moment d message m.choice in
      let id = id_chosen d.table m.choice in
      let calm = not_judged m.choice m.meant in
      let is = chosen gives m.choice m.answers calm in record {
        choice = m.choice;
        meant = meant_line j m.choice gives none m.meant;
        does = subst (λ e. LeadsTo site d e a b fed) (sym is) (does_chosen site d x a b fed line d.table m.choice m.does);
        alive = λ live. subst (Serves site intake) (sym (ap (λ (e : Did). e.table) is ∙ chosen_table d.table m.choice x line)) (m.serves live);
        hears = λ on. subst (λ e. Hears site d e (line ∷ []) intake new fed) (sym (is ∙ chosen_on m.choice fed m.answers calm m.does.way on ∙ ap (λ q. heard_line x line q (is_short m.choice) id) (said_unasked m.choice m.meant)))
            (hears_line j site moment d line Unasked intake new (is_short m.choice) id x fed m.guest (no_grant Unasked (is_short m.choice) gives ∙ sym m.granted) (m.serves (onward_alive fed on)) (talks_on (is_short m.choice) id old new none formed ends (talks id) number (m.caller on)));
      }

-- ---- what an intake is ready for stays so

-- a session that goes on after a line is ready for the next
pub ready_by : (j : JudgeSeen) (config : Config) (maps : Loaded) (old new : Intake) (before after : Caller) (line : Line) (a b : (k : Beside) → Seen) (fed : Result Next CoreStop) → IsReady old before config maps
    → ((site : Site) (d : Did) (k : Beside) → IsUnder site config maps → d.way ≡ GoesOn → Serves site old d.table → Talks site before d.guest → AnswersLine j site old.moment d line (a k) (b k) new after fed) → is_onward fed ≡ true → IsReady new after config maps
ready_by j config maps old new before after line a b fed r answers on =
    let h = answers r.site (fresh_start r.table r.guest) quiet_side r.under refl r.serves r.talks in
    let e = by_choice r.site old.moment (fresh_start r.table r.guest) h.choice (Some line) in
    let stays = (h.hears on).stays in record { site = r.site; under = r.under; table = e.table; guest = e.guest; serves = stays.serves; talks = stays.talks }
