-- What is said to a session, and what its dialogue replies (own).
use Rattle.std.specs.Prelude.{◌≡◌, ℕ, nat_eq, List, [], ◌∷◌, ◌++◌, Option, Some, None, Bool, true, false, not, if◌then◌else◌}
use Rattle.link_edge.specs.declared.event.Event.{Event}
use Rattle.link_edge.specs.declared.event.Event.TheVariants.{Opens, Brings, Closes, Rests, Stops}
use Rattle.std.specs.List.{flat_map}
use Rattle.smtp_receive.specs.Dialogue.{replies_to}
use Rattle.smtp_receive.specs.Replies.{greeting_text, shown_host, too_many_sessions_text}
use Rattle.smtp_lines.specs.Stream.{Reads, has_end}
use Rattle.smtp_lines.specs.declared.line.Mode.{Mode}
use Rattle.smtp_lines.specs.declared.line.Mode.TheVariants.{Commands}
use Rattle.mail_core.specs.Sites.{Site}
use Rattle.mail_core.specs.Effects.{Effect, Takes, Ticks, Sends, HangsUp, Does}
use Rattle.mail_core.specs.Guests.{Guest, grants_of, newcomer, lines_heard}
use Rattle.mail_core.specs.Machine.{Opening, Turn}
use Rattle.mail_core.specs.Plans.{OfFloor}

-- the text that an effect says to a session, if it says one
abbrev pub said_by : ℕ → Effect → List (List ℕ)
said_by session (Takes event) = []
said_by session (Ticks reading) = []
said_by session (Sends number text whole) = if nat_eq number session then text ∷ [] else []
said_by session (HangsUp number) = []
said_by session (Does deed) = []

-- the texts that were said to a session, in turn
abbrev pub said_to : ℕ → List Effect → List (List ℕ)
said_to session effects = flat_map (said_by session) effects

-- the replies of a session to the lines that were answered
abbrev pub replies_of : Site → Guest → List (List ℕ)
replies_of site g = replies_to g.config (shown_host site.host) g.peer g.heard

-- an event opens no SMTP session of a number
abbrev pub opens_none : ℕ → Event → Bool
opens_none session (Opens number peer) = not (nat_eq number session)
opens_none session (Brings number bytes) = true
opens_none session (Closes number) = true
opens_none session Rests = true
opens_none session Stops = true

-- nor does any turn
abbrev pub NeverOpens : ℕ → List Turn → Type 0
NeverOpens session [] = Unit {0}
NeverOpens session (turn ∷ turns) =
    (opens_none session turn.event ≡ true) × NeverOpens session turns

-- an event is of another session, or of none
abbrev pub is_of_others : ℕ → Event → Bool
is_of_others session (Opens number peer) = not (nat_eq number session)
is_of_others session (Brings number bytes) = not (nat_eq number session)
is_of_others session (Closes number) = not (nat_eq number session)
is_of_others session Rests = true
is_of_others session Stops = true

-- and so is each of these turns
abbrev pub AreOfOthers : ℕ → List Turn → Type 0
AreOfOthers session [] = Unit {0}
AreOfOthers session (turn ∷ turns) =
    (is_of_others session turn.event ≡ true) × AreOfOthers session turns

-- the turn of the floor that opens a session of a peer
abbrev pub opening_of : ℕ → List ℕ → ℕ → Opening → Turn
opening_of session peer reading choice =
    record { event = Opens session peer; origin = OfFloor reading; choices = choice }

-- the bytes that an event brings of a session
abbrev pub brought_in : ℕ → Event → List ℕ
brought_in session (Opens number peer) = []
brought_in session (Brings number bytes) = if nat_eq number session then bytes else []
brought_in session (Closes number) = []
brought_in session Rests = []
brought_in session Stops = []

abbrev pub brought_by : ℕ → Effect → List ℕ
brought_by session (Takes event) = brought_in session event
brought_by session (Ticks reading) = []
brought_by session (Sends number text whole) = []
brought_by session (HangsUp number) = []
brought_by session (Does deed) = []

-- all that came of a session, as far as it was taken: after the run is over nothing is
abbrev pub brought_of : ℕ → List Effect → List ℕ
brought_of session effects = flat_map (brought_by session) effects

-- each line that a session sent was answered, by the grants that its lines got
pub record IsInTurn (g : Guest) : Type 0 where
  pub last : Mode
  pub rest : List ℕ
  pub reads : Reads Commands g.received (grants_of g) (lines_heard g) last rest
  pub none : has_end last rest ≡ false

-- a session that was g, of which these bytes came then, was sent these texts: the replies of its
-- dialogue to the lines that were answered, which stand first in all that it sent. Where it is
-- still open they are all its lines; else it or the run ended behind them
pub record Converses (site : Site) (g : Guest) (bytes : List ℕ) (texts : List (List ℕ))
    (found : Option Guest) : Type 0 where
  pub now : Guest
  pub peer : now.peer ≡ g.peer
  pub config : now.config ≡ g.config
  pub last : Mode
  pub rest : List ℕ
  pub reads : Reads Commands (g.received ++ bytes) (grants_of now) (lines_heard now) last rest
  pub replies : replies_of site now ≡ replies_of site g ++ texts
  pub still : (other : Guest) → found ≡ Some other
      → (other ≡ now) × (now.received ≡ g.received ++ bytes) × IsInTurn now

-- what a session that was opened is sent: nothing, where memory was wanting or the run was over;
-- 421 alone, where as many were open as may be; or its greeting, and then what its dialogue replies
pub data Welcomes (site : Site) (session : ℕ) (peer bytes : List ℕ) (texts : List (List ℕ))
    (found : Option Guest) : Type 0 where
  hangs_up : texts ≡ [] → found ≡ None → Welcomes site session peer bytes texts found
  turns_away : texts ≡ too_many_sessions_text ∷ [] → found ≡ None
      → Welcomes site session peer bytes texts found
  greets : (later : List (List ℕ)) → texts ≡ greeting_text (shown_host site.host) ∷ later
      → Converses site (newcomer site.config session peer) bytes later found
      → Welcomes site session peer bytes texts found
