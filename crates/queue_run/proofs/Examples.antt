-- Steps of entries, one after the other: three rows of which one is sent, one is tried on and one
-- fails; a record that is lost; a row that is deferred; a double bounce; a warning; a delivery to a
-- peer.
use Rattle.std.proofs.Common.{◌≡◌, ℕ, ℤ, pos, List, [], ◌∷◌, map, Bool, true, false, Some, None, refl, codes}
use Rattle.mail_base.specs.Configs.{initial}
use Rattle.mail_base.specs.declared.config.Config.{Config}
use Rattle.mail_base.specs.declared.control.Control.{Control}
use Rattle.mail_base.specs.declared.control.Row.{Row}
use Rattle.mail_base.specs.declared.control.State.{State}
use Rattle.mail_base.specs.declared.control.State.TheVariants.{Queued, Sent, Failed, Dead}
use Rattle.mail_base.specs.declared.mailer.Mailer.{Mailer}
use Rattle.mail_base.specs.declared.route.Resolved.TheVariants.{Goes}
use Rattle.link_edge.specs.declared.peer.Peer.{Peer}
use Rattle.map_tables.specs.Answers.{Loaded}
use Rattle.mailer_pipe.specs.Ends.{note_of}
use Rattle.spawn_edge.specs.declared.event.Start.{Start}
use Rattle.spool_store.specs.Entries.{Stored, Table}
use Rattle.queue_run.specs.declared.batch.Batch.{Batch}
use Rattle.queue_run.specs.declared.batch.Routed.{Routed}
use Rattle.queue_run.specs.declared.letter.Letter.{Letter}
use Rattle.queue_run.specs.declared.runner.Did.TheVariants as did
use Rattle.queue_run.specs.declared.runner.RunStop.TheVariants as stop
use Rattle.queue_run.specs.Claims.{holder_for}
use Rattle.queue_run.specs.Deeds.{Asks, Files, Frees, Given, Polls, Starts as Launches, Talk}
use Rattle.queue_run.specs.Holders.{Holder}
use Rattle.queue_run.specs.Kinds.{Buries, Finishes, Leaves, Returns, Starts, Talks, Warns, kind_of}
use Rattle.queue_run.specs.Steps.{Begins, By, Closes, Dies, Ends, Exits, StillRuns, acted, records, stepped}

-- ---- an entry with three rows at the mailer local

abbrev local : Mailer
local = record {
  name = codes "local";
  path = codes "/bin/mail";
  flags = codes "lsDFMAw5n";
  envelope_from = None;
  header_from = None;
  envelope_to = None;
  header_to = None;
  args = codes "mail" ∷ codes "-d" ∷ codes "$u" ∷ [];
  line_end = 10 ∷ [];
  most = 0;
  group = None;
  batch = 100;
}

abbrev site : Config
site = record initial { mailers = (codes "local", local) ∷ [] }

abbrev maps : Loaded
maps = record { maps = []; hosts = [] }

abbrev row : List ℕ → State → Row
row address state = record { address = address; primary = true; state = state }

abbrev entry : List ℕ → List Row → Control
entry sender rows = record {
  revision = 1;
  parent = None;
  group = codes "mqueue";
  created = 1_767_225_600;
  last_try = 0;
  tries = 0;
  priority = pos 30_022;
  class = pos 0;
  marks = record { bounce = false; double = false; warned = false };
  eight = false;
  sender = sender;
  kept = record { protocol = []; helo = []; client = [] };
  rows = rows;
  headers = [];
}

abbrev table : Control → Table
table control = record {
  entries = record { id = 1; dir = codes "/q"; control = control; body = codes "hello" } ∷ [];
  next = 2;
}

abbrev routed : ℕ → List ℕ → Routed
routed place user = record {
  place = place;
  resolved = Goes (record { mailer = codes "local"; host = []; user = user });
}

abbrev batch : ℕ → List ℕ → Batch
batch place user = record {
  resolved = Goes (record { mailer = codes "local"; host = []; user = user });
  places = place ∷ [];
  users = user ∷ [];
}

abbrev three : Control
three = entry (codes "<bob@c.example>") (row (codes "<ann@mx.example>") (Queued None)
    ∷ row (codes "<bob@mx.example>") (Queued None) ∷ row (codes "<cid@mx.example>") (Queued None) ∷ [])

abbrev claimed : Holder
claimed = holder_for site 1 (routed 0 (codes "ann") ∷ routed 1 (codes "bob") ∷ routed 2 (codes "cid") ∷ [])

abbrev now : ℕ
now = 1_767_225_610

states : Table → List (List State)
states t = map (λ (s : Stored). map (λ (r : Row). r.state) s.control.rows) t.entries

-- without the flag m each row is a batch, and the first one is next
three_batches : claimed.rest ≡ batch 0 (codes "ann") ∷ batch 1 (codes "bob") ∷ batch 2 (codes "cid") ∷ []
three_batches = refl

first_starts : kind_of site maps now (Some three) claimed ≡ Starts (batch 0 (codes "ann")) local
first_starts = refl

abbrev running : Holder
running = record {
  id = 1;
  rest = batch 1 (codes "bob") ∷ batch 2 (codes "cid") ∷ [];
  running = Some (record { child = 1; places = 0 ∷ [] });
}

-- a program is started for it,
first_begins : (letter : Letter) (start : Start) → stepped site maps now (table three) claimed (Begins letter start 1 0)
    ≡ record {
      holder = Some running;
      table = table three;
      deeds = Launches 1 (0 ∷ []) start (Given 1 0) ∷ [];
      answer = did.Began;
      over = None;
    }
first_begins letter start = refl

-- polled while it runs, which changes nothing,
first_runs : (stepped site maps now (table three) running StillRuns).holder ≡ Some running
first_runs = refl

-- and its end by 0 is recorded: the row was sent
first_ends : states (stepped site maps now (table three) running (Exits (pos 0) false)).table ≡ (Sent ∷ Queued None ∷ Queued None ∷ []) ∷ []
unfolding states
first_ends = refl

-- where the record is lost the run ends
record_lost : (stepped site maps now (table three) running (Exits (pos 0) true)).over ≡ Some (By stop.SpoolFault)
record_lost = refl

abbrev at_second : Control
at_second = entry (codes "<bob@c.example>") (row (codes "<ann@mx.example>") Sent
    ∷ row (codes "<bob@mx.example>") (Queued None) ∷ row (codes "<cid@mx.example>") (Queued None) ∷ [])

abbrev second : ℕ → List Batch → Holder
second place rest = record { id = 1; rest = rest; running = Some (record { child = 2; places = place ∷ [] }) }

-- the end of the second by 75 defers its row
second_ends : states (stepped site maps now (table at_second) (second 1 (batch 2 (codes "cid") ∷ [])) (Exits (pos 75) false)).table
    ≡ (Sent ∷ Queued (Some (note_of (pos 75))) ∷ Queued None ∷ []) ∷ []
unfolding states
second_ends = refl

-- that of the third by 67 is its failure
third_ends : states (stepped site maps now (table at_second) (second 2 []) (Exits (pos 67) false)).table
    ≡ (Sent ∷ Queued None ∷ Failed (codes "5.1.1") (note_of (pos 67)) ∷ []) ∷ []
unfolding states
third_ends = refl

-- a record counts the try, and puts the entry behind others
tried_once : map {B = ℕ × ℕ × ℕ × ℤ} (λ (s : Stored). (s.control.revision, s.control.last_try, s.control.tries, s.control.priority))
    (stepped site maps now (table three) running (Exits (pos 75) false)).table.entries ≡ (2, now, 1, pos 120_022) ∷ []
tried_once = refl

-- ---- all rows were tried

abbrev resting : Holder
resting = record { id = 1; rest = []; running = None }

abbrev at_end : List ℕ → List State → Control
at_end sender kinds = entry sender (map (row (codes "<ann@mx.example>")) kinds)

-- a row that failed is given back; in a double bounce it is dead; else an entry with a row that is
-- still tried is let go, and one whose rows are done is finished
at_the_end : (kind_of site maps now (Some (at_end (codes "<b>") (Failed (codes "5.1.1") (codes "x") ∷ []))) resting ≡ Returns)
    × (kind_of site maps now (Some (record (at_end (codes "<>") (Failed (codes "5.1.1") (codes "x") ∷ [])) { marks = record { bounce = true; double = true; warned = false } })) resting ≡ Buries)
    × (kind_of site maps now (Some (at_end (codes "<b>") (Sent ∷ Queued None ∷ []))) resting ≡ Leaves)
    × (kind_of site maps now (Some (at_end (codes "<b>") (Sent ∷ []))) resting ≡ Finishes)
at_the_end = (refl, refl, refl, refl)

-- the dead row of a double bounce
dead_row : states (stepped site maps now (table (record (at_end (codes "<>") (Failed (codes "5.1.1") (codes "x") ∷ [])) { marks = record { bounce = true; double = true; warned = false } })) resting (Dies false)).table
    ≡ (Dead (codes "5.1.1") (codes "x") ∷ []) ∷ []
unfolding states
dead_row = refl

-- a finish asks no command
finished : stepped site maps now (table (at_end (codes "<b>") (Sent ∷ []))) resting (Closes false)
    ≡ record { holder = None; table = table (at_end (codes "<b>") (Sent ∷ [])); deeds = Files 1 ∷ Frees 1 ∷ []; answer = did.Free; over = None }
finished = refl

abbrev warning_site : Config
warning_site = record site { options = record site.options { queue_warn = Some 14_400 } }

-- a warning is due four hours after the message came, once, and not for the null sender
due : (kind_of warning_site maps 1_767_240_000 (Some (at_end (codes "<b>") (Queued None ∷ []))) resting ≡ Warns)
    × (kind_of warning_site maps 1_767_239_999 (Some (at_end (codes "<b>") (Queued None ∷ []))) resting ≡ Leaves)
    × (kind_of warning_site maps 1_767_240_000 (Some (at_end (codes "<>") (Queued None ∷ []))) resting ≡ Leaves)
due = (refl, refl, refl)

-- a delivery to peers is recorded by the result of each row
delivered : (letter : Letter) (peers : List Peer) (talk : Talk) (failed : Bool)
    → acted site now (table three) claimed (Talks (batch 0 (codes "ann")) local peers) (Ends letter talk failed)
    ≡ records site now (table three) claimed (batch 0 (codes "ann")) (Rattle.queue_run.specs.Deeds.Talks 1 (0 ∷ []) talk ∷ []) talk.results failed
delivered letter peers talk failed = refl
