-- What the core does is a step of the machine.
use Rattle.std.proofs.Common.{◌≡◌, ℕ, ◌<◌, ◌^◌, List, [], ◌∷◌, ◌++◌, length, get_or, set, Bool, true, false, Option, Some, None, Result, Ok, Err, map, refl, sym, ◌∙◌, ap, subst, arith}
use Rattle.std.specs.Prelude.{IfOk, is_ok, remove, ◌≢◌, All, nat_eq, nat_le, ◌||◌, if◌then◌else◌}
use Rattle.std.specs.List.{AllZip, list_any}
use Rattle.std.specs.Option.{is_some}
use Rattle.std.proofs.lemmas.Bool.{cond-true, cond-false, false≢true, eq-eqb}
use Rattle.std.proofs.lemmas.List.Elements.{All-nil, All-cons}
use Rattle.std.proofs.lemmas.Slice.Zip.{all_zipped_more}
use Rattle.mail_base.specs.Histories.{Gains}
use Rattle.mail_base.proofs.Gaining.{gains_none}
use Rattle.mail_base.specs.declared.config.Config.{Config}
use Rattle.map_tables.specs.Answers.{Loaded}
use Rattle.mail_core.specs.Seen.{Beside, Seen, seen, Ran}
use Rattle.link_edge.specs.Heard.{Heard}
use Rattle.link_edge.specs.declared.event.Event.{Event}
use Rattle.link_edge.specs.declared.event.Event.TheVariants.{Opens, Brings}
use Rattle.spool_disk.specs.Spooled.{Spooled}
use Rattle.spool_store.specs.Entries.{Table}
use Rattle.queue_table.specs.Calls.{Tallies}
use Rattle.queue_table.specs.declared.table.Table.{Table as Kept}
use Rattle.smtp_lines.specs.Reader.{Reader, Stands as Reads, awaited, empty_stream, fresh}
use Rattle.smtp_receive.specs.Sessions.{Stands as Speaks}
use Rattle.smtp_receive.specs.declared.session.Session.{Session}
use Rattle.smtp_receive.specs.Replies.{greeting_text, out_of_memory_text, shown_host, too_many_sessions_text}
use Rattle.mail_core.specs.declared.caller.Caller.{Caller}
use Rattle.mail_core.specs.declared.next.Next.{Next}
use Rattle.mail_core.specs.declared.next.Next.TheVariants.{Continue, BeginData, Closed}
use Rattle.mail_core.specs.declared.intake.Intake.{Intake}
use Rattle.mail_core.specs.declared.serving.Core.{Core}
use Rattle.mail_core.specs.declared.act.Act.{Act}
use Rattle.mail_core.specs.declared.act.Act.TheVariants.{Went}
use Rattle.mail_core.specs.declared.serving.CoreStop.{CoreStop}
use Rattle.mail_core.specs.Beginning.{Start, beginning}
use Rattle.mail_core.specs.Sites.{IsUnder, Site}
use Rattle.queue_table.specs.Directories.{terms_of}
use Rattle.queue_run.specs.Working.{IsWhole}
use Rattle.mail_core.proofs.MessageLemmas.{dirs_are}
use Rattle.mail_core.specs.Effects.{Effect, Sends, HangsUp, born_of, commands_of, dialled_of, heard_of, readings_of}
use Rattle.mail_core.specs.inner.Handling.{Behaves, HasAt, IsOpened, IsPlaceOf, IsReady, Steps}
use Rattle.mail_core.specs.Causes.{EndsSo, HasCause, ending_by, ending_of, is_well}
use Rattle.mail_core.specs.inner.Going.{Feeds, way_after, is_onward}
use Rattle.mail_core.specs.Guests.{Guest, newcomer, with_bytes, guest_of, is_here, without, with_guest}
use Rattle.mail_made.specs.Moments.{last_moment}
use Rattle.mail_core.specs.Machine.{AreOpen, Opening, Replied, Dropped, Choices, Way, GoesOn, Leaves, Over, Did, all_answered, most_guests, turned_away, welcomed, opened, brought, pieced, handled, at_moment, moment_by}
use Rattle.mail_core.specs.States.{Ending, By, Seat, State, Step, still}
use Rattle.mail_core.specs.Judges.{JudgeSeen}
use Rattle.mail_core.specs.Meant.{ArePieceMeant, IsEventMeant}
use Rattle.mail_core.specs.Crews.{IsCrew, IsListOf, IsWaiting}
use Rattle.mail_core.specs.declared.crew.Crew.{Crew}
use Rattle.mail_core.specs.Standing.{IsStanding, Keeps, Serves, Stands, Stores}
use Rattle.mail_core.proofs.CallerLemmas.{IsFoundAt, as_many, found_at, here_as, open_more, open_with, open_without, removed_set, without_none}
use Rattle.mail_core.proofs.GoingLemmas.{way_onward}
use Rattle.mail_core.proofs.LineLemmas.{onward_alive}
use Rattle.mail_core.proofs.JudgeLemmas.{asked_none}
use Rattle.mail_core.proofs.RanLemmas.{AreOfFloor, ran_floor, ran_none}

-- ---- a new session

-- a caller of which nothing has come
pub keeps_new : (site : Site) (number : ℕ) (peer : List ℕ) (session : Session) (reader : Reader) → All (λ b. b ≢ 10) peer → Speaks session site.config site.host peer [] → reader ≡ fresh → Reads reader empty_stream
    → Keeps site (record { number = number; session = session; lines = reader }) (newcomer site.config number peer)
keeps_new site number peer session reader line speaks is stands = record {
  talks = record { number = refl; config = refl; session = speaks; formed = tt; peer = line };
  follows = record {
    stream = empty_stream;
    stands = stands;
    received = refl;
    lines = refl;
    granted = ap (λ (r : Reader). awaited r.under.may_turn false) is;
  };
  left = ap (λ (r : Reader). r.left) is;
}

-- ---- peers

pub peer_line : (bytes : List ℕ) → list_any (λ byte. nat_eq byte 10) bytes ≡ false → All (λ b. b ≢ 10) bytes
peer_line [] h = All-nil (λ b. b ≢ 10)
peer_line (b ∷ bytes) h = peer_more (nat_eq b 10) b bytes refl h (λ k. peer_line bytes k)
  where
    peer_more : (t : Bool) (b : ℕ) (bytes : List ℕ) → nat_eq b 10 ≡ t → (t || list_any (λ byte. nat_eq byte 10) bytes) ≡ false → (list_any (λ byte. nat_eq byte 10) bytes ≡ false → All (λ c. c ≢ 10) bytes) → All (λ c. c ≢ 10) (b ∷ bytes)
    peer_more true b bytes is h go = absurd (false≢true (sym h))
    peer_more false b bytes is h go = All-cons (λ c. c ≢ 10) b bytes (λ e. false≢true (sym is ∙ eq-eqb b 10 e)) (go h)

-- ---- callers

-- a crew stands for each state of the same seats and list
pub crew_as : (site : Site) (crew : Crew) (m n : State) → n.seats ≡ m.seats → n.list ≡ m.list → IsCrew site crew m → IsCrew site crew n
crew_as site crew m n seats list is = record {
  runners = is.runners ∙ ap (map (λ (seat : Seat). seat.holder)) (sym seats);
  waiting = subst (IsWaiting site crew.waiting) (sym seats) is.waiting;
  list = subst (IsListOf site.plan crew.list) (sym list) is.list;
}

module _ (site : Site) (m : State) (core : Core) (st : Stands site core m) where
  -- other callers that stand for other sessions
  pub stands_with : (other : Core) (guests : List Guest) → AllZip (Keeps site) other.callers.items guests → AreOpen guests → Stands site (record core { callers = other.callers }) (record m { guests = guests })
  stands_with other guests callers are = record {
    intake = st.intake;
    host = st.host;
    full = st.full;
    latest = st.latest;
    callers = callers;
    guests = are;
    crew = crew_as site core.crew m (record m { guests = guests }) refl refl st.crew;
    stopping = st.stopping;
    on = st.on;
  }

  -- the same callers, wherever they are kept
  pub stands_as : (other : Core) → other ≡ record core { callers = other.callers } → other.callers.items ≡ core.callers.items → Stands site other m
  stands_as other is same = subst (λ q. Stands site q m) (sym is) (stands_with other m.guests (subst (λ q. AllZip (Keeps site) q m.guests) (sym same) st.callers) st.guests)

  -- the session whose caller is at a place
  pub found_there : (session place : ℕ) → HasAt session core.callers.items place → IsFoundAt site session core.callers.items m.guests place
  found_there session place at = found_at site session core.callers.items m.guests place st.callers st.guests.apart at.within at.is

  -- its caller is that of the place
  pub kept_there : (session place : ℕ) (at : HasAt session core.callers.items place) (caller : Caller) → caller ≡ get_or core.callers.items place caller → Keeps site caller (found_there session place at).guest
  kept_there session place at caller is = let f = found_there session place at in subst (λ q. Keeps site q f.guest) (sym is) (f.keeps caller)

  -- whether a session is there
  pub is_there : (session : ℕ) (o : Option ℕ) → IsPlaceOf session core.callers.items o → is_here session m.guests ≡ is_some o
  is_there session None at = here_as site session core.callers.items m.guests st.callers ∙ at
  is_there session (Some place) at = let f = found_there session place at in f.here

  -- whether as many are there as may be
  pub is_crowded : nat_le most_guests (length core.callers.items) ≡ nat_le most_guests (length m.guests)
  is_crowded = ap (nat_le most_guests) (sym (as_many site core.callers.items m.guests st.callers))

-- the caller at a place is ready to be answered
pub ready_there : (core : Core) (config : Config) (maps : Loaded) (r : IsStanding core config maps) (session place : ℕ) (caller : Caller) → HasAt session core.callers.items place → caller ≡ get_or core.callers.items place caller → IsReady core.intake caller config maps
ready_there core config maps r session place caller at is =
    let f = found_there r.site r.state core r.stands session place at in
    let k = kept_there r.site r.state core r.stands session place at caller is in
    record { site = r.site; under = r.under; table = r.state.table; guest = f.guest; serves = r.stands.intake; talks = k.talks }

-- a caller more, for a session that is new
pub stands_more : (site : Site) (m : State) (core other : Core) (session : ℕ) (peer : List ℕ) (caller : Caller) → Stands site core m → nat_le most_guests (length m.guests) ≡ false → is_here session m.guests ≡ false → Keeps site caller (newcomer site.config session peer)
    → other.callers.items ≡ core.callers.items ++ caller ∷ [] → Stands site (record core { callers = other.callers }) (record m { guests = m.guests ++ newcomer site.config session peer ∷ [] })
stands_more site m core other session peer caller st room new keeps is =
    let x = newcomer site.config session peer in
    stands_with site m core st other (m.guests ++ x ∷ [])
    (subst (λ q. AllZip (Keeps site) q (m.guests ++ x ∷ [])) (sym is) (all_zipped_more (Keeps site) core.callers.items m.guests caller x st.callers keeps))
    (open_more m.guests x room new st.guests)

-- ---- openings

module _ (site : Site) (m : State) (session : ℕ) (peer : List ℕ) (core : Core) where
  -- one of a session that is open
  pub opens_here : (f : Heard) → is_here session m.guests ≡ true → Stands site core m → IsOpened site m session peer f f core
  opens_here f here stands =
      let step = cond-true (is_here session m.guests) (still m) _ here in record {
        choice = Dropped;
        told = subst (λ (s : Step). Gains f.told f.told (heard_of s.effects)) (sym step) (gains_none f.told);
        stands = subst (λ (s : Step). Stands site core s.state) (sym step) stands;
      }

  -- one more than may be open
  pub opens_full : (f now : Heard) (text : List ℕ) (whole : Bool) → is_here session m.guests ≡ false → nat_le most_guests (length m.guests) ≡ true → text ≡ too_many_sessions_text → Gains f.told now.told (heard_of (Sends session text whole ∷ HangsUp session ∷ [])) → Stands site core m
      → IsOpened site m session peer f now core
  opens_full f now text whole new full text_is told stands =
      let step = cond-false (is_here session m.guests) _ _ new ∙ cond-true (nat_le most_guests (length m.guests)) (turned_away m session (Replied whole)) _ full in record {
        choice = Replied whole;
        told = subst (λ (s : Step). Gains f.told now.told (heard_of s.effects)) (sym step) (subst (λ t. Gains f.told now.told (heard_of (Sends session t whole ∷ HangsUp session ∷ []))) text_is told);
        stands = subst (λ (s : Step). Stands site core s.state) (sym step) stands;
      }

  module _ (new : is_here session m.guests ≡ false) (free : nat_le most_guests (length m.guests) ≡ false) where
    -- a new session
    new_is : (choice : Opening) → opened site m session peer choice ≡ welcomed site m session peer choice
    new_is choice = cond-false (is_here session m.guests) (still m) _ new ∙ cond-false (nat_le most_guests (length m.guests)) (turned_away m session choice) _ free

    -- a session whose greeting was sent is a new one
    pub opens_new : (f now : Heard) (text : List ℕ) → text ≡ greeting_text (shown_host site.host) → Gains f.told now.told (heard_of (Sends session text true ∷ []))
        → Stands site core (record m { guests = m.guests ++ newcomer site.config session peer ∷ [] }) → IsOpened site m session peer f now core
    opens_new f now text text_is told stands =
        let step = new_is (Replied true) in record {
          choice = Replied true;
          told = subst (λ (s : Step). Gains f.told now.told (heard_of s.effects)) (sym step) (subst (λ t. Gains f.told now.told (heard_of (Sends session t true ∷ []))) text_is told);
          stands = subst (λ (s : Step). Stands site core s.state) (sym step) stands;
        }

    -- a session whose greeting wasn't sent whole is hung up
    pub opens_unsent : (f now : Heard) (text : List ℕ) → text ≡ greeting_text (shown_host site.host) → Gains f.told now.told (heard_of (Sends session text false ∷ HangsUp session ∷ []))
        → Stands site core m → IsOpened site m session peer f now core
    opens_unsent f now text text_is told stands =
        let step = new_is (Replied false) in record {
          choice = Replied false;
          told = subst (λ (s : Step). Gains f.told now.told (heard_of s.effects)) (sym step) (subst (λ t. Gains f.told now.told (heard_of (Sends session t false ∷ HangsUp session ∷ []))) text_is told);
          stands = subst (λ (s : Step). Stands site core s.state) (sym step) stands;
        }

    -- a session that gets no greeting is hung up
    pub opens_lacking : (f now : Heard) → Gains f.told now.told (heard_of (HangsUp session ∷ [])) → Stands site core m → IsOpened site m session peer f now core
    opens_lacking f now told stands =
        let step = new_is Dropped in record {
          choice = Dropped;
          told = subst (λ (s : Step). Gains f.told now.told (heard_of s.effects)) (sym step) told;
          stands = subst (λ (s : Step). Stands site core s.state) (sym step) stands;
        }

-- ---- pieces

-- how an event went, by how its piece did
abbrev pub act_of : Result Next CoreStop → Result Act CoreStop
act_of (Ok next) = Ok Went
act_of (Err stop) = Err stop

well_act : (fed : Result Next CoreStop) → is_well fed ≡ is_well (act_of fed)
well_act (Ok next) = refl
well_act (Err stop) = refl

-- the run ended so where the piece did
over_act : (fed : Result Next CoreStop) (ending : Ending) → ending_of (act_of fed) ≡ Some ending → way_after fed ≡ Over (By ending)
over_act (Ok next) ending e = absurd (cc e)
over_act (Err stop) ending e = let same : ending_by stop ≡ ending = cc e in ap (λ q. Over (By q)) same

onward_act : (fed : Result Next CoreStop) → is_onward fed ≡ true → act_of fed ≡ Ok Went
onward_act (Ok next) on = refl
onward_act (Err stop) on = absurd (false≢true on)

pub over_none : (stop : CoreStop) → ending_of (act_of (Err stop)) ≡ None → ⊥
over_none stop e = cc e

left_way : (fed : Result Next CoreStop) → is_onward fed ≡ false → ending_of (act_of fed) ≡ None → way_after fed ≡ Leaves
left_way (Ok Continue) off e = absurd (false≢true (sym off))
left_way (Ok BeginData) off e = absurd (false≢true (sym off))
left_way (Ok Closed) off e = refl
left_way (Err stop) off e = absurd (cc e)

going_alive : (fed : Result Next CoreStop) → ending_of (act_of fed) ≡ None → is_ok fed ≡ true
going_alive (Ok next) e = refl
going_alive (Err stop) e = absurd (cc e)

-- the effects and the table are those of the piece, however it goes on
brought_effects : (m : State) (way : Way) (d : Did) → (brought m way d).effects ≡ d.effects
brought_effects m GoesOn d = refl
brought_effects m Leaves d = refl
brought_effects m (Over finish) d = refl

brought_table : (m : State) (way : Way) (d : Did) → (brought m way d).state.table ≡ d.table
brought_table m GoesOn d = refl
brought_table m Leaves d = refl
brought_table m (Over finish) d = refl

-- the run ended as the piece did
brought_over : (m : State) (way : Way) (d : Did) (ending : Ending) → way ≡ Over (By ending) → (brought m way d).state.over ≡ Some (By ending)
brought_over m way d ending e = ap (λ w. (brought m w d).state.over) e

module _ (j : JudgeSeen) (site : Site) (m : State) (session : ℕ) (piece : List ℕ) (core : Core) where
  -- one of a session that isn't open
  pub piece_dropped : (f : Heard) (s : Spooled) (k : Beside) → guest_of session m.guests ≡ None → Stands site core m → Steps j site m (Brings session piece) (seen f s k) (seen f s k) core (Ok Went)
  piece_dropped f s k none stands =
      let step = ap (λ o. pieced site m piece [] o) none in record {
        choices = [];
        meant = subst (ArePieceMeant j site m piece []) (sym none) tt;
        ran = subst (λ (q : Step). Ran site.dirs m.table (seen f s k) (seen f s k) q.effects true) (sym step) (ran_none site.dirs m.table f s k);
        stands = λ e. subst (λ (q : Step). Stands site core q.state) (sym step) stands;
        ended = λ ending e. absurd (cc e);
      }

module _ (j : JudgeSeen) (site : Site) (m : State) (session : ℕ) (piece : List ℕ) (a b : Seen) (core : Core) where
  module _ (g : Guest) (intake : Intake) (caller : Caller) (fed : Result Next CoreStop) (is : guest_of session m.guests ≡ Some g) (number : g.number ≡ session) (h : Feeds j site m.latest m.table g piece a b intake caller fed) where
    abbrev did : Did
    did = all_answered site m.latest m.table (with_bytes g piece) h.choices

    step_is : pieced site m piece h.choices (guest_of session m.guests) ≡ brought m (way_after fed) did
    step_is = ap (λ o. pieced site m piece h.choices o) is ∙ ap (λ w. brought m w did) h.way

    its_number : did.guest.number ≡ session
    its_number = h.number ∙ number

    piece_steps : ((ending_of (act_of fed) ≡ None) → Stands site core (brought m (way_after fed) did).state) → Steps j site m (Brings session piece) a b core (act_of fed)
    piece_steps stands = record {
      choices = h.choices;
      meant = subst (ArePieceMeant j site m piece h.choices) (sym is) h.meant;
      ran = subst (λ (q : Step). Ran site.dirs m.table a b q.effects (is_well (act_of fed))) (sym step_is)
          (subst (λ w. Ran site.dirs m.table a b (brought m (way_after fed) did).effects w) (well_act fed)
          (subst (λ effects. Ran site.dirs m.table a b effects (is_well fed)) (sym (brought_effects m (way_after fed) did)) h.ran));
      stands = λ e. subst (λ (q : Step). Stands site core q.state) (sym step_is) (stands e);
      ended = λ ending e.
          let over = over_act fed ending e in
          subst (λ (q : Step). EndsSo ending q.state a b) (sym step_is) (record {
            over = brought_over m (way_after fed) did ending over;
            cause = subst (λ t. HasCause ending t a b) (sym (brought_table m (way_after fed) did)) (h.cause ending over);
          });
    }

    -- the core is as it was, but for its intake and its callers
    pub record IsAfter (old : Core) (callers : List Caller) : Type 0 where
      pub intake_is : core.intake ≡ intake
      pub host_is : core.host ≡ old.host
      pub full_is : core.full ≡ old.full
      pub callers_are : core.callers.items ≡ callers
      pub crew_is : (now : State) → now.seats ≡ m.seats → now.list ≡ m.list → IsCrew site old.crew m → IsCrew site core.crew now
      pub stopping_is : core.stopping ≡ old.stopping

    feed_stands : (old : Core) (callers : List Caller) (guests : List Guest) → Stands site old m → IsAfter old callers → intake.moment ≡ m.latest → Serves site intake did.table → AllZip (Keeps site) callers guests → AreOpen guests
        → Stands site core (record m { table = did.table; guests = guests })
    feed_stands old callers guests st after moment serves are may = record {
      intake = subst (λ i. Serves site i did.table) (sym after.intake_is) serves;
      host = after.host_is ∙ st.host;
      full = after.full_is ∙ st.full;
      latest = ap (λ (i : Intake). i.moment) after.intake_is ∙ moment;
      callers = subst (λ q. AllZip (Keeps site) q guests) (sym after.callers_are) are;
      guests = may;
      crew = after.crew_is (record m { table = did.table; guests = guests }) refl refl st.crew;
      stopping = after.stopping_is ∙ st.stopping;
      on = st.on;
    }

    -- the session goes on
    pub piece_goes : (old : Core) (place : ℕ) → is_onward fed ≡ true → Stands site old m → IsFoundAt site session old.callers.items m.guests place → IsAfter old (set old.callers.items place caller) → intake.moment ≡ m.latest
        → Steps j site m (Brings session piece) a b core (Ok Went)
    piece_goes old place on st found after moment =
        subst (Steps j site m (Brings session piece) a b core) (onward_act fed on)
        (piece_steps (λ e.
        subst (λ w. Stands site core (brought m w did).state) (sym (way_onward fed on))
        (feed_stands old (set old.callers.items place caller) (with_guest did.guest m.guests) st after moment (h.serves (onward_alive fed on))
        (found.goes caller did.guest its_number (h.keeps on)) (open_with did.guest m.guests st.guests))))

    -- the session is over
    pub piece_leaves : (old : Core) (place : ℕ) → is_onward fed ≡ false → Stands site old m → IsFoundAt site session old.callers.items m.guests place → IsAfter old (remove (set old.callers.items place caller) place) → intake.moment ≡ m.latest
        → Steps j site m (Brings session piece) a b core (act_of fed)
    piece_leaves old place off st found after moment = piece_steps (λ e.
        subst (λ w. Stands site core (brought m w did).state) (sym (left_way fed off e))
        (subst (λ n. Stands site core (record m { table = did.table; guests = without n m.guests })) (sym its_number)
        (feed_stands old (remove (set old.callers.items place caller) place) (without session m.guests) st after moment (h.serves (going_alive fed e))
        (subst (λ q. AllZip (Keeps site) q (without session m.guests)) (sym (removed_set old.callers.items place caller)) found.leaves) (open_without session m.guests st.guests))))

    -- the run is over
    pub piece_ends : ((ending_of (act_of fed) ≡ None) → ⊥) → Steps j site m (Brings session piece) a b core (act_of fed)
    piece_ends over = piece_steps (λ e. absurd (over e))

-- ---- what a turn asks for

-- a step that asks nothing of judge and spool keeps what each step does
pub behaves_floor : {T : Type 0} (j : JudgeSeen) (f g : Heard) (s : Spooled) (old new : Intake) (done : T) → g.faults ≡ f.faults → g.begun ≡ f.begun → new ≡ old → Tallies old.table s → Behaves j j f g s s new.table (Ok done)
behaves_floor j f g s old new done own begun same tallies = record {
  asked = asked_none j;
  own = own;
  begun = begun;
  calm = λ well. refl;
  tallied = λ well. subst (λ (i : Intake). Tallies i.table s) (sym same) tallies;
}

-- effects of the floor alone
pub record IsQuiet (s : Step) : Type 0 where
  pub floor : AreOfFloor s.effects
  pub unread : readings_of s.effects ≡ []

pub no_deed : (effects : List Effect) → commands_of effects ≡ [] → born_of effects ≡ [] → dialled_of effects ≡ [] → AreOfFloor effects
no_deed effects commands born dialled = record { commands = commands; born = born; dialled = dialled }

still_quiet : (m : State) → IsQuiet (still m)
still_quiet m = record { floor = no_deed [] refl refl refl; unread = refl }

quiet_if : (b : Bool) (x y : Step) → IsQuiet x → IsQuiet y → IsQuiet (if b then x else y)
quiet_if true x y h k = h
quiet_if false x y h k = k

away_quiet : (m : State) (session : ℕ) (choice : Opening) → IsQuiet (turned_away m session choice)
away_quiet m session (Replied whole) = record { floor = no_deed (turned_away m session (Replied whole)).effects refl refl refl; unread = refl }
away_quiet m session Dropped = record { floor = no_deed [] refl refl refl; unread = refl }

welcomed_quiet : (site : Site) (m : State) (session : ℕ) (peer : List ℕ) (choice : Opening) → IsQuiet (welcomed site m session peer choice)
welcomed_quiet site m session peer (Replied true) = record { floor = no_deed (welcomed site m session peer (Replied true)).effects refl refl refl; unread = refl }
welcomed_quiet site m session peer (Replied false) = record { floor = no_deed (welcomed site m session peer (Replied false)).effects refl refl refl; unread = refl }
welcomed_quiet site m session peer Dropped = record { floor = no_deed (welcomed site m session peer Dropped).effects refl refl refl; unread = refl }

opened_quiet : (site : Site) (m : State) (session : ℕ) (peer : List ℕ) (choice : Opening) → IsQuiet (opened site m session peer choice)
opened_quiet site m session peer choice =
    quiet_if (is_here session m.guests) (still m) _ (still_quiet m)
    (quiet_if (nat_le most_guests (length m.guests)) (turned_away m session choice) (welcomed site m session peer choice) (away_quiet m session choice) (welcomed_quiet site m session peer choice))

-- an opening
pub opened_steps : (j : JudgeSeen) (site : Site) (m : State) (session : ℕ) (peer : List ℕ) (f now : Heard) (s : Spooled) (k : Beside) (core : Core) → IsOpened site m session peer f now core → now.faults ≡ f.faults → Steps j site m (Opens session peer) (seen f s k) (seen now s k) core (Ok Went)
opened_steps j site m session peer f now s k core h own =
    let step = opened site m session peer h.choice in
    let quiet = opened_quiet site m session peer h.choice in record {
      choices = h.choice;
      meant = tt;
      ran = ran_floor site.dirs m.table f now s k step.effects quiet.floor quiet.unread h.told own;
      stands = λ e. h.stands;
      ended = λ ending e. absurd (cc e);
    }

-- nothing is asked of the devices, and the run goes on
pub quiet_steps : (j : JudgeSeen) (site : Site) (m : State) (event : Event) (choices : Choices event) (f : Heard) (s : Spooled) (k : Beside) (core : Core) → IsEventMeant j site m event choices → (handled site m event choices).effects ≡ [] → Stands site core (handled site m event choices).state
    → Steps j site m event (seen f s k) (seen f s k) core (Ok Went)
quiet_steps j site m event choices f s k core meant none stands = record {
  choices = choices;
  meant = meant;
  ran = subst (λ effects. Ran site.dirs m.table (seen f s k) (seen f s k) effects true) (sym none) (ran_none site.dirs m.table f s k);
  stands = λ e. stands;
  ended = λ ending e. absurd (cc e);
}

-- a session that isn't there leaves all as it is
pub closed_none : (site : Site) (m : State) (session : ℕ) (core : Core) → Stands site core m → IsPlaceOf session core.callers.items None → Stands site core (record m { guests = without session m.guests })
closed_none site m session core st at =
    subst (λ q. Stands site core (record m { guests = q })) (sym (without_none session m.guests (is_there site m core st session None at))) st

-- one that was let go is gone
pub closed_at : (site : Site) (m : State) (session place : ℕ) (core other : Core) → Stands site core m → HasAt session core.callers.items place → other ≡ record core { callers = other.callers } → other.callers.items ≡ remove core.callers.items place
    → Stands site other (record m { guests = without session m.guests })
closed_at site m session place core other st at is gone =
    let found = found_there site m core st session place at in
    subst (λ q. Stands site q (record m { guests = without session m.guests })) (sym is)
    (stands_with site m core st other (without session m.guests) (subst (λ q. AllZip (Keeps site) q (without session m.guests)) (sym gone) found.leaves) (open_without session m.guests st.guests))

-- ---- a whole event

-- the clock was read
pub at_stands : (site : Site) (m : State) (core : Core) (intake : Intake) (reading : ℕ) → Stands site core m → intake ≡ record core.intake { moment = moment_by core.intake.moment reading } → intake.moment < 2 ^ 64 → Stands site (record core { intake = intake }) (at_moment m reading)
at_stands site m core intake reading st is range = record {
  intake = record {
    stores = subst (λ (i : Intake). Stores site i.table m.table) (sym is) st.intake.stores;
    short = ap (λ (i : Intake). i.short) is ∙ st.intake.short;
    range = range;
  };
  host = st.host;
  full = st.full;
  latest = ap (λ (i : Intake). i.moment) is ∙ ap (λ n. moment_by n reading) st.latest;
  callers = st.callers;
  guests = st.guests;
  crew = crew_as site core.crew m (at_moment m reading) refl refl st.crew;
  stopping = st.stopping;
  on = st.on;
}

-- a Stop came
pub stop_stands : (site : Site) (m : State) (core : Core) → Stands site core m → Stands site (record core { stopping = true }) (record m { stopping = true })
stop_stands site m core st = record {
  intake = st.intake;
  host = st.host;
  full = st.full;
  latest = st.latest;
  callers = st.callers;
  guests = st.guests;
  crew = crew_as site core.crew m (record m { stopping = true }) refl refl st.crew;
  stopping = refl;
  on = st.on;
}

-- its table is whole, and of the configuration
pub whole_of : (site : Site) (m : State) (core : Core) (config : Config) (maps : Loaded) → IsUnder site config maps → Stands site core m → IsWhole config core.intake.table
whole_of site m core config maps under st = record {
  whole = st.intake.stores.whole;
  terms = st.intake.stores.terms ∙ ap terms_of under.config_is;
  groups = dirs_are site core.intake.table m.table st.intake.stores;
}

-- a core with no session, in which nobody holds an entry
pub begun_stands : (site : Site) (start : Start) (core : Core) → Serves site core.intake start.table → core.host ≡ site.host → core.full ≡ too_many_sessions_text → core.intake.moment ≡ (beginning start).latest → core.callers.items ≡ []
    → IsCrew site core.crew (beginning start) → core.stopping ≡ false → Stands site core (beginning start)
begun_stands site start core serves host full latest none crew stopping = record {
  intake = serves;
  host = host;
  full = full;
  latest = latest;
  callers = subst (λ q. AllZip (Keeps site) q []) (sym none) tt;
  guests = record { few = omega arith; apart = tt };
  crew = crew;
  stopping = stopping;
  on = refl;
}

-- a new intake serves what its table has
pub intake_serves : (site : Site) (intake : Intake) (table : Table) (kept : Kept) → intake.table ≡ kept → intake.short ≡ out_of_memory_text → intake.moment ≡ 0 → Stores site kept table → Serves site intake table
intake_serves site intake table kept is short moment stores = record {
  stores = subst (λ (k : Kept). Stores site k table) (sym is) stores;
  short = short;
  range = subst (λ n. n < 2 ^ 64) (sym moment) (omega arith);
}

-- and so it does at another moment
pub intake_at : (site : Site) (old new : Intake) (table : Table) (reading : ℕ) → new ≡ record old { moment = moment_by old.moment reading } → new.moment < 2 ^ 64 → Serves site old table → Serves site new table
intake_at site old new table reading is range serves = record {
  stores = subst (λ (i : Intake). Stores site i.table table) (sym is) serves.stores;
  short = ap (λ (i : Intake). i.short) is ∙ serves.short;
  range = range;
}

-- no reading is the first moment
pub begun_at : 0 ≡ moment_by 0 0
unfolding last_moment
begun_at = refl

-- what is known of an answer says more of it
pub ok_more : {T E : Type 0} (r : Result T E) (P Q : T → Type 0) → ((x : T) → P x → Q x) → IfOk r P → IfOk r Q
ok_more (Ok x) P Q f h = f x h
ok_more (Err e) P Q f h = tt
