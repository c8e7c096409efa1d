-- The dialogues of a dialer's history, and what becomes of a letter's rows (own; the order of what
-- is said is that of RFC 5321, section 3, and RFC 2033, section 4).
use Rattle.std.specs.Prelude.{◌≡◌, ◌≢◌, ℕ, Bool, true, false, ◌||◌, List, [], ◌∷◌, ◌++◌, drop, map, codes}
use Rattle.std.specs.List.{list_any}
use Rattle.mail_base.specs.Scripts.{one_more}
use Rattle.mail_base.specs.declared.outcome.Result1.{Result1}
use Rattle.mail_base.specs.declared.outcome.Result1.TheVariants.{Deferred, Failed}
use Rattle.smtp_lines.specs.Replies.{BeginsReply, IsFront, IsNone}
use Rattle.link_edge.specs.declared.dial_event.DialEvent.{DialEvent}
use Rattle.link_edge.specs.declared.dial_event.DialEvent.TheVariants.{Dialled, Undialled, Read, Unread, Wrote, Unwritten, Closed}
use Rattle.link_edge.specs.declared.peer.Peer.{Peer}
use Rattle.mailer_smtp.specs.declared.kit.Kit.{Kit}
use Rattle.mailer_smtp.specs.declared.kit.Speech.{Speech}
use Rattle.mailer_smtp.specs.declared.letter.Letter.{Letter}
use Rattle.mailer_smtp.specs.declared.verdict.Verdict.{Verdict}
use Rattle.mailer_smtp.specs.declared.verdict.Verdict.TheVariants.{Broken}
use Rattle.mailer_smtp.specs.declared.verdict.Wants.{Wants}
use Rattle.mailer_smtp.specs.Plans.{Plan, Over, Hears, Says, talk, verdict_of, row_of, unsaid_row, device_fault, connection_lost, bad_reply}
use Rattle.mailer_smtp.specs.Texts.{is_sayable, kit_of}

-- a reply is read from a line, behind bytes that were read before it: while they are a reply's
-- front more is read. Then these events have happened, that is the verdict, and those bytes are left
pub data IsHeard (line : ℕ) (wants : Wants) : List ℕ → List DialEvent → Verdict → List ℕ
    → Type 0 where
  whole : (bytes text : List ℕ) (code : ℕ) (eight : Bool) (size : ℕ)
      → BeginsReply bytes code text eight size
      → IsHeard line wants bytes [] (verdict_of wants code text eight) (drop size bytes)
  bad : (bytes : List ℕ) → IsNone bytes → IsHeard line wants bytes [] (Broken bad_reply) bytes
  ended : (bytes : List ℕ) → IsFront bytes
      → IsHeard line wants bytes (Read line [] ∷ []) (Broken connection_lost) bytes
  failed : (bytes : List ℕ) → IsFront bytes
      → IsHeard line wants bytes (Unread line ∷ []) (Broken device_fault) bytes
  more : (bytes piece : List ℕ) (events : List DialEvent) (verdict : Verdict) (left : List ℕ)
      → IsFront bytes → piece ≢ [] → IsHeard line wants (bytes ++ piece) events verdict left
      → IsHeard line wants bytes (Read line piece ∷ events) verdict left

-- a dialogue goes from a plan and the bytes at hand to another, with these events
pub data Leads (line : ℕ) : Plan → List ℕ → List DialEvent → Plan → List ℕ → Type 0 where
  stays : (plan : Plan) (bytes : List ℕ) → Leads line plan bytes [] plan bytes
  heard : (wants : Wants) (go : Verdict → Plan) (bytes : List ℕ) (events : List DialEvent)
      (verdict : Verdict) (left : List ℕ) (more : List DialEvent) (to : Plan) (rest : List ℕ)
      → IsHeard line wants bytes events verdict left
      → Leads line (go verdict) left more to rest
      → Leads line (Hears wants go) bytes (events ++ more) to rest
  wrote : (text : List ℕ) (lost next : Plan) (bytes : List ℕ) (more : List DialEvent) (to : Plan)
      (rest : List ℕ) → Leads line next bytes more to rest
      → Leads line (Says text lost next) bytes (Wrote line text ∷ more) to rest
  unwritten : (text : List ℕ) (lost next : Plan) (bytes : List ℕ) (more : List DialEvent)
      (to : Plan) (rest : List ℕ) → Leads line lost bytes more to rest
      → Leads line (Says text lost next) bytes (Unwritten line ∷ more) to rest

-- the end of a line: QUIT is written where the last reply was whole, and whether it could be
-- decides nothing
pub data IsParting (line : ℕ) (quit : List ℕ) : Bool → List DialEvent → Type 0 where
  plain : IsParting line quit false (Closed line ∷ [])
  quits : IsParting line quit true (Wrote line quit ∷ Closed line ∷ [])
  unsaid : IsParting line quit true (Unwritten line ∷ Closed line ∷ [])

-- whether an event is of a call that failed
abbrev pub is_fault : DialEvent → Bool
is_fault (Dialled peer line missed) = false
is_fault (Undialled peer missed) = true
is_fault (Read line bytes) = false
is_fault (Unread line) = true
is_fault (Wrote line bytes) = false
is_fault (Unwritten line) = true
is_fault (Closed line) = false

-- what a host that couldn't be dialled leaves
abbrev pub undialled_rows : Kit → List Result1
undialled_rows kit = map (row_of (Deferred device_fault)) kit.rcpts

-- one host is tried: how many dials were missed before it, what has happened, how many are missed
-- now, whether a call failed, whether the host is left for the next, and what the rows become
pub data IsTried (speech : Speech) (kit : Kit) (peer : Peer) (missed : ℕ) : List DialEvent → ℕ
    → Bool → Bool → List Result1 → Type 0 where
  undialled : IsTried speech kit peer missed (Undialled peer missed ∷ []) 0 true true
      (undialled_rows kit)
  untold : IsTried speech kit peer missed [] (one_more missed) true true (undialled_rows kit)
  dialled : (line : ℕ) (events parting : List DialEvent) (quits leaves : Bool)
      (rows : List Result1) (rest : List ℕ)
      → Leads line (talk speech kit) [] events (Over quits leaves rows) rest
      → IsParting line kit.quit quits parting
      → IsTried speech kit peer missed (Dialled peer line missed ∷ (events ++ parting)) 0
      (list_any is_fault (events ++ parting)) leaves rows

-- where there is no host
abbrev pub no_host_rows : Kit → List Result1
no_host_rows kit = map (row_of (Failed (codes "5.1.2") (codes "no host known"))) kit.rcpts

-- the hosts are tried in order: what was seen of the last one tried counts
pub data IsAttempt (speech : Speech) (kit : Kit) : List Peer → ℕ → List DialEvent → ℕ → Bool
    → List Result1 → Type 0 where
  no_host : (missed : ℕ) → IsAttempt speech kit [] missed [] missed false (no_host_rows kit)
  last : (peer : Peer) (missed now : ℕ) (events : List DialEvent) (fault leaves : Bool)
      (rows : List Result1) → IsTried speech kit peer missed events now fault leaves rows
      → IsAttempt speech kit (peer ∷ []) missed events now fault rows
  here : (peer : Peer) (peers : List Peer) (missed now : ℕ) (events : List DialEvent)
      (fault : Bool) (rows : List Result1)
      → IsTried speech kit peer missed events now fault false rows
      → IsAttempt speech kit (peer ∷ peers) missed events now fault rows
  next : (peer other : Peer) (peers : List Peer) (missed mid now : ℕ)
      (events more : List DialEvent) (fault later : Bool) (left rows : List Result1)
      → IsTried speech kit peer missed events mid fault true left
      → IsAttempt speech kit (other ∷ peers) mid more now later rows
      → IsAttempt speech kit (peer ∷ other ∷ peers) missed (events ++ more) now (fault || later)
      rows

-- a letter is handed over to the first of these hosts that takes it up. Where nothing of it can be
-- said, no host is dialled
pub data IsDelivery (speech : Speech) (letter : Letter) (peers : List Peer) (missed : ℕ)
    : List DialEvent → ℕ → Bool → List Result1 → Type 0 where
  unsayable : is_sayable letter ≡ false
      → IsDelivery speech letter peers missed [] missed false (map (λ _. unsaid_row) letter.users)
  tried : (events : List DialEvent) (now : ℕ) (fault : Bool) (rows : List Result1)
      → is_sayable letter ≡ true
      → IsAttempt speech (kit_of speech letter) peers missed events now fault rows
      → IsDelivery speech letter peers missed events now fault rows
