-- Lines are answered in turn, and pieces are fed.
use Rattle.std.proofs.Common.{◌≡◌, ℕ, suc, ◌+◌, ◌<◌, ◌≤◌, List, [], ◌∷◌, ◌++◌, length, take, drop, get_or, map, slice_get, Bool, true, false, Option, Some, None, refl, sym, ◌∙◌, ap, subst, arith, append_assoc, length-append}
use Rattle.std.specs.Prelude.{Result, Ok, Err, is_ok, ◌≢◌, if◌then◌else◌}
use Rattle.std.specs.List.{list_any}
use Rattle.std.proofs.lemmas.Bool.{cond-true, lt-ltb, or_parts, false≢true}
use Rattle.std.proofs.lemmas.List.{append-nil, take_more, take_all, take-append-drop}
use Rattle.std.proofs.lemmas.List.Sums.{fold_push, fold-append}
use Rattle.std.proofs.lemmas.Option.{slice_get_past}
use Rattle.mail_base.specs.Histories.{Gains}
use Rattle.mail_base.specs.declared.config.Config.{Config}
use Rattle.map_tables.specs.Answers.{Loaded}
use Rattle.mail_core.specs.Seen.{Beside, Seen, seen, Ran}
use Rattle.link_edge.specs.Heard.{Heard as FloorHeard}
use Rattle.smtp_lines.specs.declared.line.Line.{Line}
use Rattle.smtp_lines.specs.declared.line.Mode.TheVariants.{Commands}
use Rattle.smtp_lines.specs.Stream.{asks, Reading, reading_by, reading_of}
use Rattle.smtp_lines.specs.Reader.{Reader, Stream, Stands as Reads, StandsFirst, OnlyLastAsks, HasGrants, Gives, asked_after, received, given, granted, refused}
use Rattle.smtp_lines.specs.Runs.{granted_by as turned_by}
use Rattle.smtp_lines.proofs.GivenLemmas.{after_given, after_grant, after_refusal, only_last, told_first_now, told_all_now, waiting_first}
use Rattle.smtp_lines.proofs.ReadLemmas.{asked_after-push}
use Rattle.smtp_lines.proofs.ReadingLemmas.{reading_by-all}
use Rattle.smtp_lines.proofs.StandLemmas.{stands_granted, stands_received, stands_refused}
use Rattle.smtp_receive.specs.Dialogue.{Heard}
use Rattle.smtp_receive.specs.Sessions.{Stands as Speaks}
use Rattle.spool_disk.specs.Spooled.{Spooled}
use Rattle.spool_store.specs.Entries.{Table}
use Rattle.mail_core.specs.declared.caller.Caller.{Caller}
use Rattle.mail_core.specs.declared.next.Next.{Next}
use Rattle.mail_core.specs.declared.next.Next.TheVariants.{Continue, BeginData, Closed}
use Rattle.mail_core.specs.declared.serving.CoreStop.{CoreStop}
use Rattle.mail_core.specs.declared.intake.Intake.{Intake}
use Rattle.mail_core.specs.Sites.{Site}
use Rattle.mail_core.specs.Effects.{HangsUp, heard_of}
use Rattle.mail_core.specs.Causes.{HasCause, is_well}
use Rattle.mail_core.specs.inner.Going.{LeadsTo, Hears, AnswersLine, AnswersLines, Feeds, granted_by, is_granted, is_onward, reached, way_after}
use Rattle.mail_core.specs.Guests.{Guest, bytes_left, has_bytes_left, grants_of, lines_of, next_line, with_bytes, line_in, lines_heard}
use Rattle.mail_core.specs.Machine.{Choice, Disconnects, Way, GoesOn, Leaves, Over, Did, answered, by_choice, does, fresh_start, goes_on, is_over, settled, settled_by}
use Rattle.mail_core.specs.States.{Cut}
use Rattle.mail_core.specs.Judges.{JudgeSeen}
use Rattle.mail_core.specs.Meant.{AreMeant}
use Rattle.mail_core.specs.Standing.{Serves, Talks, Follows, Keeps}
use Rattle.mail_core.specs.inner.Handling.{IsReady}
use Rattle.mail_core.proofs.JudgeLemmas.{IsAlike, are_since, drops_meant, meant_join, meant_next}
use Rattle.mail_core.proofs.GoingLemmas.{does_join, does_drops, does_none, way_onward}

-- ---- a front of lines of which only the last asks

record IsSplit (lines : List Line) : Type 0 where
  front : List Line
  last : Line
  is : lines ≡ front ++ last ∷ []

split_last : (line : Line) (rest : List Line) → IsSplit (line ∷ rest)
split_last line [] = record { front = []; last = line; is = refl }
split_last line (next ∷ rest) = let s = split_last next rest in record { front = line ∷ s.front; last = s.last; is = ap (λ q. line ∷ q) s.is }

none_asks : (asked : Bool) (lines more : List Line) → asked ≡ false → list_any asks (lines ++ more) ≡ false → asked_after asked lines ≡ false
none_asks asked [] more quiet none = quiet
none_asks asked (line ∷ lines) more quiet none =
    let parts = or_parts (asks line) (list_any asks (lines ++ more)) none in
    none_asks (asks line) lines more parts.0 parts.1

front_quiet : (done : List Line) (line : Line) (rest : List Line) → OnlyLastAsks (done ++ line ∷ rest) → asked_after false done ≡ false
front_quiet done line rest only =
    let s = split_last line rest in
    none_asks false done s.front refl (only (done ++ s.front) s.last (ap (λ q. done ++ q) s.is ∙ sym (append_assoc done s.front (s.last ∷ []))))

-- ---- the next line

at_front : (first : List Line) (line : Line) (rest : List Line) → slice_get (first ++ line ∷ rest) (length first) ≡ Some line
at_front [] line rest = refl
at_front (l ∷ first) line rest = at_front first line rest

-- what was heard has as many entries as lines
pub how_many_heard : (heard : List Heard) → length (map line_in heard) ≡ length heard
how_many_heard [] = refl
how_many_heard (h ∷ heard) = ap suc (how_many_heard heard)

-- the lines of a session are read on from the same bytes and grants
same_lines : (old new : Guest) → new.received ≡ old.received → grants_of new ≡ grants_of old → lines_of new ≡ lines_of old
same_lines old new bytes grants = ap (λ q. (reading_of q (grants_of new)).lines) bytes ∙ ap (λ q. (reading_of old.received q).lines) grants

next_is : (g : Guest) (first : List Line) (line : Line) (rest : List Line) → lines_heard g ≡ first → lines_of g ≡ first ++ line ∷ rest → next_line g ≡ Some line
next_is g first line rest heard all =
    ap (λ q. slice_get q (length g.heard)) all
    ∙ ap (λ n. slice_get (first ++ line ∷ rest) n) (sym (how_many_heard g.heard) ∙ ap length heard)
    ∙ at_front first line rest

none_next : (g : Guest) → lines_of g ≡ lines_heard g → next_line g ≡ None
none_next g all =
    let n = how_many_heard g.heard in
    ap (λ q. slice_get q (length g.heard)) all ∙ slice_get_past (lines_heard g) (length g.heard) (omega (arith, n))

-- ---- how it went

does_onward : (site : Site) (d e : Did) (a b : Seen) (fed : Result Next CoreStop) → is_onward fed ≡ true → LeadsTo site d e a b fed → LeadsTo site d e a b (Ok Continue)
does_onward site d e a b (Ok Continue) on h = h
does_onward site d e a b (Ok BeginData) on h = record { more = h.more; effects = h.effects; table = h.table; number = h.number; ran = h.ran; way = h.way; cause = λ ending over. absurd (cc over) }
does_onward site d e a b (Ok Closed) on h = absurd (cc on)
does_onward site d e a b (Err stop) on h = absurd (cc on)

-- ---- lines in turn

module _ (j : JudgeSeen) (site : Site) (moment : ℕ) (d : Did) where
  -- a choice more
  reached_more : (choices : List Choice) (choice : Choice) (line : Line) → (reached site moment d choices).way ≡ GoesOn → next_line (reached site moment d choices).guest ≡ Some line
      → reached site moment d (choices ++ choice ∷ []) ≡ by_choice site moment (reached site moment d choices) choice (Some line)
  reached_more choices choice line way next =
      let e : Did = reached site moment d choices in
      fold_push (answered site moment) d choices choice
      ∙ ap (λ w. goes_on w e (by_choice site moment e choice (next_line e.guest))) way
      ∙ ap (λ o. by_choice site moment e choice o) next

  -- no line was answered
  pub answers_none : (f : FloorHeard) (s : Spooled) (k : Beside) (intake : Intake) (caller : Caller) → d.way ≡ GoesOn → Serves site intake d.table → Talks site caller d.guest
      → AnswersLines j site moment d [] (seen f s k) (seen f s k) intake caller (Ok Continue)
  answers_none f s k intake caller way serves talks = record {
    choices = [];
    meant = tt;
    does = does_none site d f s k d refl refl refl way;
    alive = λ live. serves;
    hears = λ on. record {
      stays = record { serves = serves; talks = talks; peer = refl; config = refl; received = refl };
      answered = sym (append-nil (lines_heard d.guest));
      grants = sym (append-nil (grants_of d.guest));
      may_disconnect = λ asking. absurd (false≢true asking);
    };
  }

  -- where the session ended, the lines after are left
  pub answers_cut : (done lines : List Line) (a b : Seen) (intake : Intake) (caller : Caller) (fed : Result Next CoreStop) → is_onward fed ≡ false → AnswersLines j site moment d done a b intake caller fed → AnswersLines j site moment d lines a b intake caller fed
  answers_cut done lines a b intake caller fed off h = record { choices = h.choices; meant = h.meant; does = h.does; alive = h.alive; hears = λ on. absurd (false≢true (sym off ∙ on)) }

  module _ (before after : Intake) (old new : Caller) (last fed : Result Next CoreStop) (done : List Line) (line : Line) where
    -- what was heard of a line after others of which none asked
    hears_more : (e x : Did) → asked_after false done ≡ false → Hears site d e done before old last → Hears site e x (line ∷ []) after new fed → Hears site d x (done ++ line ∷ []) after new fed
    hears_more e x quiet h k =
        let same : grants_of e.guest ≡ grants_of d.guest = h.grants ∙ ap (λ b. grants_of d.guest ++ granted_by b last) quiet ∙ append-nil (grants_of d.guest) in record {
          stays = record { serves = k.stays.serves; talks = k.stays.talks; peer = k.stays.peer ∙ h.stays.peer; config = k.stays.config ∙ h.stays.config; received = k.stays.received ∙ h.stays.received };
          answered = k.answered ∙ ap (λ q. q ++ line ∷ []) h.answered ∙ append_assoc (lines_heard d.guest) done (line ∷ []);
          grants = k.grants ∙ ap (λ q. q ++ granted_by (asks line) fed) same ∙ ap (λ b. grants_of d.guest ++ granted_by b fed) (sym (asked_after-push false done line));
          may_disconnect = λ asking. k.may_disconnect (sym (asked_after-push false done line) ∙ asking);
        }

    -- the line is the next one
    next_after : (e : Did) (rest : List Line) → asked_after false done ≡ false → StandsFirst (lines_heard d.guest ++ (done ++ line ∷ rest)) (lines_of d.guest) → Hears site d e done before old last → next_line e.guest ≡ Some line
    next_after e rest quiet first h =
        let same : grants_of e.guest ≡ grants_of d.guest = h.grants ∙ ap (λ b. grants_of d.guest ++ granted_by b last) quiet ∙ append-nil (grants_of d.guest) in
        let heard = lines_heard d.guest in
        next_is e.guest (heard ++ done) line (rest ++ first.later) h.answered
        (same_lines d.guest e.guest h.stays.received same ∙ first.is
        ∙ ap (λ q. q ++ first.later) (sym (append_assoc heard done (line ∷ rest)))
        ∙ append_assoc (heard ++ done) (line ∷ rest) first.later)

    -- one line more was answered
    pub answers_more : (i : JudgeSeen) (now : ℕ) (lines rest : List Line) (a b c : Seen) → IsAlike j i → OnlyLastAsks lines → lines ≡ done ++ line ∷ rest → StandsFirst (lines_heard d.guest ++ lines) (lines_of d.guest) → now ≡ moment → is_onward last ≡ true
        → AnswersLines j site moment d done a b before old last
        → ((e : Did) → e.way ≡ GoesOn → Serves site before e.table → Talks site old e.guest → AnswersLine i site now e line b c after new fed)
        → AnswersLines j site moment d (done ++ line ∷ []) a c after new fed
    answers_more i now lines rest a b c alike only is first same on h answers =
        let e : Did = reached site moment d h.choices in
        let hears = h.hears on in
        let quiet = front_quiet done line rest (subst OnlyLastAsks is only) in
        let way : e.way ≡ GoesOn = h.does.way ∙ way_onward last on in
        let next = next_after e rest quiet (subst (λ q. StandsFirst (lines_heard d.guest ++ q) (lines_of d.guest)) is first) hears in
        let k = subst (λ n. AnswersLine i site n e line b c after new fed) same (answers e way hears.stays.serves hears.stays.talks) in
        let x : Did = by_choice site moment e k.choice (Some line) in
        let goes : reached site moment d (h.choices ++ k.choice ∷ []) ≡ x = reached_more h.choices k.choice line way next in record {
          choices = h.choices ++ k.choice ∷ [];
          meant = meant_join site moment j d h.choices (k.choice ∷ []) h.meant (meant_next site moment j i e k.choice line alike next k.meant);
          does = subst (λ q. LeadsTo site d q a c fed) (sym goes) (does_join site d e x a b c fed (does_onward site d e a b last on h.does) k.does);
          alive = λ live. subst (λ q. Serves site after q.table) (sym goes) (k.alive live);
          hears = λ go. subst (λ q. Hears site d q (done ++ line ∷ []) after new fed) (sym goes) (hears_more e x quiet hears (k.hears go));
        }

    -- the line at a place among them
    pub answers_next : (judge : JudgeSeen) (now : ℕ) (lines : List Line) (i : ℕ) (a b c : Seen) → IsAlike j judge → i < length lines → line ≡ get_or lines i line → done ≡ take i lines → OnlyLastAsks lines → StandsFirst (lines_heard d.guest ++ lines) (lines_of d.guest) → now ≡ moment → is_onward last ≡ true
        → AnswersLines j site moment d done a b before old last
        → ((e : Did) → e.way ≡ GoesOn → Serves site before e.table → Talks site old e.guest → AnswersLine judge site now e line b c after new fed)
        → AnswersLines j site moment d (take (i + 1) lines) a c after new fed
    answers_next judge now lines i a b c alike within item front only first same on h answers =
        let more : take (i + 1) lines ≡ done ++ line ∷ [] = take_more lines i line within ∙ ap (λ q. q ++ get_or lines i line ∷ []) (sym front) ∙ ap (λ l. done ++ l ∷ []) (sym item) in
        let is : lines ≡ done ++ line ∷ drop (i + 1) lines =
        sym (take-append-drop (i + 1) lines) ∙ ap (λ q. q ++ drop (i + 1) lines) more ∙ append_assoc done (line ∷ []) (drop (i + 1) lines) in
        subst (λ q. AnswersLines j site moment d q a c after new fed) (sym more) (answers_more judge now lines (drop (i + 1) lines) a b c alike only is first same on h answers)

  -- none is left
  pub answers_all : (lines : List Line) (i : ℕ) (a b : Seen) (intake : Intake) (caller : Caller) (fed : Result Next CoreStop) → length lines ≤ i → AnswersLines j site moment d (take i lines) a b intake caller fed → AnswersLines j site moment d lines a b intake caller fed
  answers_all lines i a b intake caller fed past h = subst (λ q. AnswersLines j site moment d q a b intake caller fed) (take_all i lines past) h

-- ---- what was given and not answered yet

-- lines were given of what a session sent, and none of them was answered
pub record Pending (r : Reader) (g : Guest) (lines : List Line) : Type 0 where
  pub stream : Stream
  pub stands : Reads r stream
  pub received_is : stream.received ≡ g.received
  pub lines_are : stream.lines ≡ lines_heard g ++ lines
  pub quiet : asked_after false lines ≡ false → HasGrants r stream (grants_of g)
  pub asking : asked_after false lines ≡ true → (stream.granted ≡ grants_of g) × (r.under.may_turn ≡ true)

pending_of : (r : Reader) (before after : Stream) (g : Guest) (lines : List Line) → before.received ≡ g.received → before.lines ≡ lines_heard g → Gives before (grants_of g) lines r after → Pending r g lines
pending_of r before after g lines bytes heard k = record {
  stream = after;
  stands = k.stands;
  received_is = k.received_is ∙ bytes;
  lines_are = k.lines_are ∙ ap (λ q. q ++ lines) heard;
  quiet = k.quiet;
  asking = k.asking;
}

-- a piece was fed
pub pending_fed : (old new : Reader) (g : Guest) (piece : List ℕ) (lines : List Line) → Follows old g → ((s : Stream) → Reads old s → Reads new (given old.under.may_turn (received s piece) lines)) → new.under.may_turn ≡ asked_after old.under.may_turn lines
    → Pending new (with_bytes g piece) lines
pending_fed old new g piece lines f stands turns =
    let s = received f.stream piece in
    pending_of new s (given old.under.may_turn s lines) (with_bytes g piece) lines (ap (λ q. q ++ piece) f.received) f.lines
    (after_given old new s (grants_of g) lines f.granted (stands f.stream f.stands) turns)

-- more lines were asked for
pending_more : (old new : Reader) (g : Guest) (lines : List Line) → Follows old g → ((s : Stream) → Reads old s → Reads new (given old.under.may_turn s lines)) → new.under.may_turn ≡ asked_after old.under.may_turn lines
    → Pending new g lines
pending_more old new g lines f stands turns =
    pending_of new f.stream (given old.under.may_turn f.stream lines) g lines f.received f.lines
    (after_given old new f.stream (grants_of g) lines f.granted (stands f.stream f.stands) turns)

pending_first_by : (asked : Bool) (r : Reader) (g : Guest) (lines : List Line) (p : Pending r g lines) → asked_after false lines ≡ asked → StandsFirst p.stream.lines (reading_of p.stream.received (grants_of g)).lines
pending_first_by true r g lines p is = waiting_first r p.stream (grants_of g) p.stands (p.asking is).0
pending_first_by false r g lines p is = told_first_now r p.stream (grants_of g) p.stands (p.quiet is)

-- they stand first among what is to be answered
pending_first : (r : Reader) (g : Guest) (lines : List Line) → Pending r g lines → StandsFirst (lines_heard g ++ lines) (lines_of g)
pending_first r g lines p =
    subst (λ q. StandsFirst q (lines_of g)) p.lines_are
    (subst (λ q. StandsFirst p.stream.lines (reading_of q (grants_of g)).lines) p.received_is (pending_first_by (asked_after false lines) r g lines p refl))

-- ---- what was given and answered

follows_by : (grant : Bool) (r : Reader) (s : Stream) (g : Guest) (told : List Bool) → Reads r s → s.granted ≡ told → r.under.may_turn ≡ true → s.received ≡ g.received → s.lines ≡ lines_heard g → grants_of g ≡ told ++ grant ∷ []
    → Follows (turned_by grant r) g
follows_by true r s g told stands has turns bytes lines grants = record {
  stream = granted s;
  stands = stands_granted r s turns stands;
  received = bytes;
  lines = lines;
  granted = after_grant (turned_by true r) s told has refl ∙ sym grants;
}
follows_by false r s g told stands has turns bytes lines grants = record {
  stream = refused s;
  stands = stands_refused r s turns stands;
  received = bytes;
  lines = lines;
  granted = after_refusal (turned_by false r) s told has refl ∙ sym grants;
}

module _ (site : Site) (d e : Did) (r : Reader) (lines : List Line) (intake : Intake) (caller : Caller) (fed : Result Next CoreStop) where
  -- the last asked, and the reader turned as it was granted
  follows_asked : asked_after false lines ≡ true → Pending r d.guest lines → Hears site d e lines intake caller fed → Follows (turned_by (is_granted fed) r) e.guest
  follows_asked asked p h =
      let asking = p.asking asked in
      follows_by (is_granted fed) r p.stream e.guest (grants_of d.guest) p.stands asking.0 asking.1 (p.received_is ∙ sym h.stays.received) (p.lines_are ∙ sym h.answered)
      (h.grants ∙ ap (λ b. grants_of d.guest ++ granted_by b fed) asked)

  -- none asked
  follows_quiet : asked_after false lines ≡ false → Pending r d.guest lines → Hears site d e lines intake caller fed → Follows r e.guest
  follows_quiet quiet p h = record {
    stream = p.stream;
    stands = p.stands;
    received = p.received_is ∙ sym h.stays.received;
    lines = p.lines_are ∙ sym h.answered;
    granted = p.quiet quiet ∙ sym (h.grants ∙ ap (λ b. grants_of d.guest ++ granted_by b fed) quiet ∙ append-nil (grants_of d.guest));
  }

-- no line is left
all_heard : (r : Reader) (g : Guest) → r.left ≡ [] → Follows r g → next_line g ≡ None
all_heard r g left f =
    none_next g (ap (λ q. (reading_of q (grants_of g)).lines) (sym f.received) ∙ told_all_now r f.stream (grants_of g) f.stands left f.granted ∙ f.lines)

-- of lines that a reader gave only the last asks
only_fed : (old new : Reader) (g : Guest) (piece : List ℕ) (lines : List Line) → Follows old g → ((s : Stream) → Reads old s → Reads new (given old.under.may_turn (received s piece) lines)) → new.under.may_turn ≡ asked_after old.under.may_turn lines → OnlyLastAsks lines
only_fed old new g piece lines f stands turns =
    only_last (record old { left = old.left ++ piece }) new (received f.stream piece) lines (stands_received old f.stream piece f.stands) (stands f.stream f.stands) turns

only_more : (old new : Reader) (g : Guest) (lines : List Line) → Follows old g → ((s : Stream) → Reads old s → Reads new (given old.under.may_turn s lines)) → new.under.may_turn ≡ asked_after old.under.may_turn lines → OnlyLastAsks lines
only_more old new g lines f stands turns = only_last old new f.stream lines f.stands (stands f.stream f.stands) turns

-- ---- bytes that are left

-- a turn leaves the bytes that weren't read
pub turned_left : (grant : Bool) (r : Reader) → (turned_by grant r).left ≡ r.left
turned_left true r = refl
turned_left false r = refl

some_left : (left : List ℕ) → left ≢ [] → 0 < length left
some_left [] h = absurd (h refl)
some_left (b ∷ left) h = omega arith

bytes_left_are : (r : Reader) (g : Guest) (f : Follows r g) → bytes_left g ≡ f.stands.begun ++ r.left
bytes_left_are r g f =
    let s = f.stream in
    let count = ap length f.lines ∙ how_many_heard g.heard in
    ap (λ n. (reading_by n Commands g.received (grants_of g)).rest) (sym count)
    ∙ ap (λ q. (reading_by (length s.lines) Commands q (grants_of g)).rest) (sym f.received)
    ∙ ap (λ q. (reading_by (length s.lines) Commands s.received q).rest) (sym f.granted)
    ∙ ap (λ (x : Reading). x.rest) (reading_by-all Commands s.received _ s.lines _ _ (f.stands.reads false))

-- what a reader has left came after the lines that were answered
bytes_there : (r : Reader) (g : Guest) → Follows r g → r.left ≢ [] → has_bytes_left g ≡ true
bytes_there r g f left =
    let some = some_left r.left left in
    lt-ltb 0 (length (bytes_left g)) (omega (arith, some, ap length (bytes_left_are r g f), length-append f.stands.begun r.left))

-- ---- a caller with another reader

-- a caller with the same session stands for the same lines
talks_same : (site : Site) (old new : Caller) (g : Guest) → new.number ≡ old.number → new.session ≡ old.session → Talks site old g → Talks site new g
talks_same site old new g number session t = record {
  number = number ∙ t.number;
  config = t.config;
  session = subst (λ q. Speaks q g.config site.host g.peer g.heard) (sym session) t.session;
  formed = t.formed;
  peer = t.peer;
}

-- whether a session is ready doesn't hang on its lines
pub ready_lines : (intake : Intake) (config : Config) (maps : Loaded) (old new : Caller) → new.number ≡ old.number → new.session ≡ old.session → IsReady intake old config maps → IsReady intake new config maps
ready_lines intake config maps old new number session r =
    let t = r.talks in
    record {
      site = r.site;
      under = r.under;
      table = r.table;
      guest = r.guest;
      serves = r.serves;
      talks = talks_same r.site old new r.guest number session t;
    }

-- after a line the reader is turned by whether a grant was given
pub turned_lines : (caller turned : Caller) (reader : Reader) (fed : Result Next CoreStop) → turned ≡ record caller { lines = turned_by (is_granted fed) caller.lines } → caller.lines ≡ reader → turned.lines ≡ turned_by (is_granted fed) reader
turned_lines caller turned reader fed is same = ap (λ (q : Caller). q.lines) is ∙ ap (turned_by (is_granted fed)) same

-- ---- the ends of a piece

settled_none : (way : Way) (d : Did) → settled_by way None d ≡ d
settled_none GoesOn d = refl
settled_none Leaves d = refl
settled_none (Over finish) d = refl

settled_off : (fed : Result Next CoreStop) (line : Option Line) (d : Did) → is_onward fed ≡ false → settled_by (way_after fed) line d ≡ d
settled_off (Ok Continue) line d off = absurd (cc off)
settled_off (Ok BeginData) line d off = absurd (cc off)
settled_off (Ok Closed) line d off = refl
settled_off (Err stop) line d off = refl

settled_end : (on : Bool) (fed : Result Next CoreStop) (d : Did) → is_onward fed ≡ on → d.way ≡ way_after fed → (is_onward fed ≡ true → next_line d.guest ≡ None) → settled d ≡ d
settled_end true fed d is way none = ap (λ o. settled_by d.way o d) (none is) ∙ settled_none d.way d
settled_end false fed d is way none = ap (λ w. settled_by w (next_line d.guest) d) way ∙ settled_off fed (next_line d.guest) d is

by_drops : (site : Site) (moment : ℕ) (d : Did) (line : Option Line) → by_choice site moment d Disconnects line ≡ (if d.may_disconnect then does d (HangsUp d.guest.number ∷ []) Leaves else is_over d Cut)
by_drops site moment d None = refl
by_drops site moment d (Some line) = refl

-- the session is dropped
dropped : (site : Site) (moment : ℕ) (d : Did) → d.way ≡ GoesOn → d.may_disconnect ≡ true → answered site moment d Disconnects ≡ does d (HangsUp d.guest.number ∷ []) Leaves
dropped site moment d way may =
    ap (λ w. goes_on w d (by_choice site moment d Disconnects (next_line d.guest))) way
    ∙ by_drops site moment d (next_line d.guest)
    ∙ cond-true d.may_disconnect (does d (HangsUp d.guest.number ∷ []) Leaves) (is_over d Cut) may

module _ (j : JudgeSeen) (site : Site) (moment : ℕ) (table : Table) (g : Guest) (bytes : List ℕ) where
  -- where a piece begins
  abbrev start : Did
  start = fresh_start table (with_bytes g bytes)

  feeds_of : (a b : Seen) (intake : Intake) (caller : Caller) (fed : Result Next CoreStop) (choices : List Choice) → AreMeant j site moment start choices → settled (reached site moment start choices) ≡ reached site moment start choices
      → LeadsTo site start (reached site moment start choices) a b fed
      → (is_ok fed ≡ true → Serves site intake (reached site moment start choices).table) → (is_onward fed ≡ true → Keeps site caller (reached site moment start choices).guest)
      → Feeds j site moment table g bytes a b intake caller fed
  feeds_of a b intake caller fed choices meant same h serves keeps = record {
    choices = choices;
    meant = meant;
    ran = subst (λ (x : Did). Ran site.dirs table a b x.effects (is_well fed)) (sym same) (subst (λ q. Ran site.dirs table a b q (is_well fed)) (sym h.effects) h.ran);
    way = ap (λ (x : Did). x.way) same ∙ h.way;
    number = ap (λ (x : Did). x.guest.number) same ∙ h.number;
    serves = λ on. subst (λ (x : Did). Serves site intake x.table) (sym same) (serves on);
    keeps = λ on. subst (λ (x : Did). Keeps site caller x.guest) (sym same) (keeps on);
    cause = λ ending over. subst (λ (x : Did). HasCause ending x.table a b) (sym same) (h.cause ending over);
  }

  -- by some choices, a piece has come to these lines, which are to be answered
  pub record Pends (a b : Seen) (intake : Intake) (caller : Caller) (lines : List Line) : Type 0 where
    pub choices : List Choice
    pub meant : AreMeant j site moment start choices
    pub does : LeadsTo site start (reached site moment start choices) a b (Ok Continue)
    pub serves : Serves site intake (reached site moment start choices).table
    pub talks : Talks site caller (reached site moment start choices).guest
    pub pending : Pending caller.lines (reached site moment start choices).guest lines
    pub only : OnlyLastAsks lines

  -- by some choices, these lines were answered
  pub record Batch (a b : Seen) (reader : Reader) (lines : List Line) (intake : Intake) (caller : Caller) (fed : Result Next CoreStop) : Type 0 where
    pub before : Did
    pub choices : List Choice
    pub meant : AreMeant j site moment start choices
    pub does : LeadsTo site start (reached site moment start choices) a b fed
    pub pending : Pending reader before.guest lines
    pub alive : is_ok fed ≡ true → Serves site intake (reached site moment start choices).table
    pub hears : is_onward fed ≡ true → Hears site before (reached site moment start choices) lines intake caller fed

  -- a piece was taken
  pub pends_start : (old new : Caller) (before : Intake) (f : FloorHeard) (s : Spooled) (k : Beside) (lines : List Line) → new.number ≡ old.number → new.session ≡ old.session
      → Serves site before table → Keeps site old g → ((s : Stream) → Reads old.lines s → Reads new.lines (given old.lines.under.may_turn (received s bytes) lines))
      → new.lines.under.may_turn ≡ asked_after old.lines.under.may_turn lines
      → Pends (seen f s k) (seen f s k) before new lines
  pends_start old new before f s k lines number session serves keeps stands turns =
      let t = keeps.talks in record {
        choices = [];
        meant = tt;
        does = does_none site start f s k start refl refl refl refl;
        serves = serves;
        talks = talks_same site old new (with_bytes g bytes) number session (record { number = t.number; config = t.config; session = t.session; formed = t.formed; peer = t.peer });
        pending = pending_fed old.lines new.lines g bytes lines keeps.follows stands turns;
        only = only_fed old.lines new.lines g bytes lines keeps.follows stands turns;
      }

  -- the lines were answered
  pub batch_of : (judge : JudgeSeen) (now : ℕ) (a b c : Seen) (before after : Intake) (old new : Caller) (passed lines : List Line) (fed : Result Next CoreStop) → IsAlike j judge → passed ≡ lines → now ≡ moment → Pends a b before old lines
      → ((d : Did) → d.way ≡ GoesOn → Serves site before d.table → Talks site old d.guest → OnlyLastAsks passed → StandsFirst (lines_heard d.guest ++ passed) (lines_of d.guest) → AnswersLines judge site now d passed b c after new fed)
      → Batch a c old.lines lines after new fed
  batch_of judge now a b c before after old new passed lines fed alike same_lines same_moment p answers =
      let e : Did = reached site moment start p.choices in
      let first = subst (λ q. StandsFirst (lines_heard e.guest ++ q) (lines_of e.guest)) (sym same_lines) (pending_first old.lines e.guest lines p.pending) in
      let k =
      subst (λ q. AnswersLines judge site moment e q b c after new fed) same_lines
      (subst (λ n. AnswersLines judge site n e passed b c after new fed) same_moment (answers e p.does.way p.serves p.talks (subst OnlyLastAsks (sym same_lines) p.only) first)) in
      let x : Did = reached site moment e k.choices in
      let is : reached site moment start (p.choices ++ k.choices) ≡ x = fold-append (answered site moment) start p.choices k.choices in
      record {
        before = e;
        choices = p.choices ++ k.choices;
        meant = meant_join site moment j start p.choices k.choices p.meant (are_since site moment j judge e k.choices alike k.meant);
        does = subst (λ q. LeadsTo site start q a c fed) (sym is) (does_join site start e x a b c fed p.does k.does);
        pending = p.pending;
        alive = λ live. subst (λ q. Serves site after q.table) (sym is) (k.alive live);
        hears = λ on. subst (λ q. Hears site e q lines after new fed) (sym is) (k.hears on);
      }

  module _ (a b : Seen) (reader : Reader) (lines : List Line) (intake : Intake) (caller : Caller) (fed : Result Next CoreStop) (batch : Batch a b reader lines intake caller fed) where
    -- what was done then
    abbrev ended : Did
    ended = reached site moment start batch.choices

    -- the session or the run ended
    pub feeds_cut : is_onward fed ≡ false → Feeds j site moment table g bytes a b intake caller fed
    feeds_cut off =
        let never = λ (on : is_onward fed ≡ true). false≢true (sym off ∙ on) in
        feeds_of a b intake caller fed batch.choices batch.meant (settled_end false fed ended off batch.does.way (λ on. absurd (never on))) batch.does batch.alive (λ on. absurd (never on))

    -- all lines were answered
    pub feeds_all : asked_after false lines ≡ false → reader.left ≡ [] → caller.lines ≡ reader → Feeds j site moment table g bytes a b intake caller fed
    feeds_all quiet left same =
        let follows = λ (on : is_onward fed ≡ true). follows_quiet site batch.before ended reader lines intake caller fed quiet batch.pending (batch.hears on) in
        feeds_of a b intake caller fed batch.choices batch.meant
        (settled_end (is_onward fed) fed ended refl batch.does.way (λ on. all_heard reader ended.guest left (follows on)))
        batch.does
        batch.alive
        (λ on. record { talks = (batch.hears on).stays.talks; follows = subst (λ r. Follows r ended.guest) (sym same) (follows on); left = ap (λ (r : Reader). r.left) same ∙ left })

    module _ (on : is_onward fed ≡ true) (asked : asked_after false lines ≡ true) where
      -- where bytes are left, want of memory may end the session
      may_end : reader.left ≢ [] → ended.may_disconnect ≡ true
      may_end left =
          let hears = batch.hears on in
          hears.may_disconnect asked
          ∙ bytes_there (turned_by (is_granted fed) reader) ended.guest (follows_asked site batch.before ended reader lines intake caller fed asked batch.pending hears)
          (λ e. left (sym (turned_left (is_granted fed) reader) ∙ e))

      -- the lines after the one that asked
      pub pends_more : (turned next : Caller) (more : List Line) → turned.lines ≡ turned_by (is_granted fed) reader → next.number ≡ caller.number → next.session ≡ caller.session
          → ((s : Stream) → Reads turned.lines s → Reads next.lines (given turned.lines.under.may_turn s more)) → next.lines.under.may_turn ≡ asked_after turned.lines.under.may_turn more
          → Pends a b intake next more
      pends_more turned next more is number session stands turns =
          let hears = batch.hears on in
          let t = hears.stays.talks in
          let turned_follows = subst (λ r. Follows r ended.guest) (sym is) (follows_asked site batch.before ended reader lines intake caller fed asked batch.pending hears) in record {
            choices = batch.choices;
            meant = batch.meant;
            does = does_onward site start ended a b fed on batch.does;
            serves = hears.stays.serves;
            talks = talks_same site caller next ended.guest number session t;
            pending = pending_more turned.lines next.lines ended.guest more turned_follows stands turns;
            only = only_more turned.lines next.lines ended.guest more turned_follows stands turns;
          }

  feeds_dropped : (a : Seen) (f h : FloorHeard) (s : Spooled) (k : Beside) (intake : Intake) (caller : Caller) (fed : Result Next CoreStop) (session : ℕ) (choices : List Choice) → AreMeant j site moment start choices
      → LeadsTo site start (reached site moment start choices) a (seen f s k) (Ok Continue) → (reached site moment start choices).may_disconnect ≡ true → session ≡ (reached site moment start choices).guest.number
      → Gains f.told h.told (heard_of (HangsUp session ∷ [])) → h.faults ≡ f.faults → fed ≡ (Ok Closed) → Serves site intake (reached site moment start choices).table
      → Feeds j site moment table g bytes a (seen h s k) intake caller fed
  feeds_dropped a f h s k intake caller fed session choices meant done may number told own is serves =
      let e : Did = reached site moment start choices in
      let x : Did = does e (HangsUp e.guest.number ∷ []) Leaves in
      let drops : reached site moment start (choices ++ Disconnects ∷ []) ≡ x = fold_push (answered site moment) start choices Disconnects ∙ dropped site moment e done.way may in
      let last = does_drops site e f h s k (subst (λ n. Gains f.told h.told (heard_of (HangsUp n ∷ []))) number told) own in
      subst (Feeds j site moment table g bytes a (seen h s k) intake caller) (sym is)
      (feeds_of a (seen h s k) intake caller (Ok Closed) (choices ++ Disconnects ∷ []) (meant_join site moment j start choices (Disconnects ∷ []) meant (drops_meant site moment j e))
      (subst (λ q. settled q ≡ q) (sym drops) refl)
      (subst (λ q. LeadsTo site start q a (seen h s k) (Ok Closed)) (sym drops) (does_join site start e x a (seen f s k) (seen h s k) (Ok Closed) done last))
      (λ live. subst (λ (q : Did). Serves site intake q.table) (sym drops) serves)
      (λ on. absurd (cc on)))

  -- there was no memory for the piece
  pub feeds_none : (f h : FloorHeard) (s : Spooled) (k : Beside) (intake : Intake) (old caller : Caller) (fed : Result Next CoreStop) (session : ℕ) → Keeps site old g → session ≡ old.number
      → Gains f.told h.told (heard_of (HangsUp session ∷ [])) → h.faults ≡ f.faults → fed ≡ (Ok Closed) → Serves site intake table
      → Feeds j site moment table g bytes (seen f s k) (seen h s k) intake caller fed
  feeds_none f h s k intake old caller fed session keeps same told own is serves =
      feeds_dropped (seen f s k) f h s k intake caller fed session [] tt (does_none site start f s k start refl refl refl refl) refl (same ∙ keeps.talks.number) told own is serves

  -- there was none for what follows a line that asks
  pub feeds_lost : (a : Seen) (f h : FloorHeard) (s : Spooled) (k : Beside) (reader : Reader) (lines : List Line) (intake : Intake) (caller last : Caller) (went fed : Result Next CoreStop) (session : ℕ) → Batch a (seen f s k) reader lines intake caller went
      → is_onward went ≡ true → asked_after false lines ≡ true → reader.left ≢ [] → session ≡ caller.number
      → Gains f.told h.told (heard_of (HangsUp session ∷ [])) → h.faults ≡ f.faults → fed ≡ (Ok Closed)
      → Feeds j site moment table g bytes a (seen h s k) intake last fed
  feeds_lost a f h s k reader lines intake caller last went fed session batch on asked left same told own is =
      feeds_dropped a f h s k intake last fed session batch.choices batch.meant
      (does_onward site start (reached site moment start batch.choices) a (seen f s k) went on batch.does)
      (may_end a (seen f s k) reader lines intake caller went batch on asked left)
      (same ∙ (batch.hears on).stays.talks.number) told own is (batch.hears on).stays.serves
