-- Worked examples: what a dialogue writes and comes to by a list of verdicts, and which host counts.
use Rattle.std.specs.Prelude.{◌≡◌, ℕ, Bool, true, false, List, [], ◌∷◌, ◌++◌, codes, refl}
use Rattle.std.specs.List.{list_any}
use Rattle.mail_base.specs.declared.outcome.Result1.{Result1}
use Rattle.mail_base.specs.declared.outcome.Result1.TheVariants.{Sent, Deferred, Failed}
use Rattle.link_edge.specs.declared.dial_event.DialEvent.{DialEvent}
use Rattle.link_edge.specs.declared.dial_event.DialEvent.TheVariants.{Dialled, Undialled, Unwritten, Closed}
use Rattle.link_edge.specs.declared.peer.Peer.{Peer}
use Rattle.mailer_smtp.specs.declared.kit.Speech.TheVariants.{Smtp, Lmtp}
use Rattle.mailer_smtp.specs.declared.letter.Letter.{Letter}
use Rattle.mailer_smtp.specs.declared.verdict.Verdict.{Verdict}
use Rattle.mailer_smtp.specs.declared.verdict.Verdict.TheVariants.{Yes, Later, No, Broken}
use Rattle.mailer_smtp.specs.Plans.{Plan, Over, Hears, Says, talk, connection_lost}
use Rattle.mailer_smtp.specs.Talks.{Leads, IsTried, undialled, dialled, unsaid, IsAttempt, next, last, is_fault, undialled_rows}
use Rattle.mailer_smtp.specs.Texts.{dotted, kit_of}

-- each text can be written
heard : Plan → Verdict → Plan
heard (Over quits leaves rows) reply = Over quits leaves rows
heard (Hears wants go) reply = go reply
heard (Says text lost onward) reply = Says text lost onward

said : Plan → List (List ℕ)
said (Over quits leaves rows) = []
said (Hears wants go) = []
said (Says text lost onward) = text ∷ []

onward_of : Plan → Plan
onward_of (Over quits leaves rows) = Over quits leaves rows
onward_of (Hears wants go) = Hears wants go
onward_of (Says text lost onward) = onward

after : Plan → List Verdict → Plan
after plan [] = plan
after plan (reply ∷ replies) = after (onward_of (heard plan reply)) replies

texts : Plan → List Verdict → List (List ℕ)
texts plan [] = []
texts plan (reply ∷ replies) = said (heard plan reply) ++ texts (onward_of (heard plan reply)) replies

ok : Verdict
ok = Yes false

to_ann : Letter
to_ann = record { host = codes "mx.example"; sender = codes "bob@c.example"; users = codes "ann@far.example" ∷ []; message = codes ".x\r\ny\r\n"; eight = false }

three : Letter
three = record { host = codes "mx.example"; sender = []; users = codes "a" ∷ codes "b" ∷ codes "c" ∷ []; message = []; eight = false }

cut : Letter
cut = record { host = codes "mx.example"; sender = []; users = codes "a" ∷ codes "b\r" ∷ []; message = []; eight = true }

-- SMTP delivery
smtp_delivery : (texts (talk Smtp (kit_of Smtp to_ann)) (ok ∷ ok ∷ ok ∷ ok ∷ ok ∷ ok ∷ []) ≡ codes "EHLO mx.example\r\n" ∷ codes "MAIL FROM:<bob@c.example>\r\n" ∷ codes "RCPT TO:<ann@far.example>\r\n" ∷ codes "DATA\r\n" ∷ codes "..x\r\ny\r\n.\r\n" ∷ [])
    × (after (talk Smtp (kit_of Smtp to_ann)) (ok ∷ ok ∷ ok ∷ ok ∷ ok ∷ ok ∷ []) ≡ Over true false (Sent ∷ []))
    × (after (talk Smtp (kit_of Smtp to_ann)) (ok ∷ ok ∷ ok ∷ Later (codes "451 later") ∷ []) ≡ Over true false (Deferred (codes "451 later") ∷ []))
unfolding heard said onward_of after texts ok to_ann dotted
smtp_delivery = (refl, refl, refl)

-- second host
second_host : (one other : Peer) (events : List DialEvent) (fault leaves : Bool) (rows : List Result1) → IsTried Smtp (kit_of Smtp to_ann) other 0 events 0 fault leaves rows → IsAttempt Smtp (kit_of Smtp to_ann) (one ∷ other ∷ []) 0 (Undialled one 0 ∷ events) 0 true rows
second_host one other events fault leaves rows h = next one other [] 0 0 0 (Undialled one 0 ∷ []) events true fault (undialled_rows (kit_of Smtp to_ann)) rows undialled (last other 0 0 events fault leaves rows h)

-- QUIT write fails
quit_fails : (peer : Peer) (events : List DialEvent) (rest : List ℕ) → Leads 1 (talk Smtp (kit_of Smtp to_ann)) [] events (Over true false (Sent ∷ [])) rest → IsTried Smtp (kit_of Smtp to_ann) peer 0 (Dialled peer 1 0 ∷ (events ++ Unwritten 1 ∷ Closed 1 ∷ [])) 0 (list_any is_fault (events ++ Unwritten 1 ∷ Closed 1 ∷ [])) false (Sent ∷ [])
quit_fails peer events rest h = dialled 1 events (Unwritten 1 ∷ Closed 1 ∷ []) true false (Sent ∷ []) rest h unsaid

-- a reply each, and closed after one reply
a_reply_each : (after (talk Lmtp (kit_of Lmtp three)) (ok ∷ ok ∷ ok ∷ ok ∷ No (codes "550 no") ∷ ok ∷ ok ∷ ok ∷ Later (codes "452 later") ∷ []) ≡ Over true false (Sent ∷ Failed (codes "5.0.0") (codes "550 no") ∷ Deferred (codes "452 later") ∷ []))
    × (after (talk Lmtp (kit_of Lmtp three)) (ok ∷ ok ∷ ok ∷ ok ∷ No (codes "550 no") ∷ ok ∷ ok ∷ ok ∷ Broken connection_lost ∷ []) ≡ Over false false (Sent ∷ Failed (codes "5.0.0") (codes "550 no") ∷ Deferred connection_lost ∷ []))
unfolding heard onward_of after three ok
a_reply_each = (refl, refl)

helo_after_5xx : (texts (talk Smtp (kit_of Smtp three)) (ok ∷ No (codes "502 what") ∷ ok ∷ []) ≡ codes "EHLO mx.example\r\n" ∷ codes "HELO mx.example\r\n" ∷ codes "MAIL FROM:<>\r\n" ∷ [])
    × (after (talk Smtp (kit_of Smtp three)) (ok ∷ No (codes "502 what") ∷ ok ∷ ok ∷ ok ∷ Later (codes "451 b") ∷ ok ∷ ok ∷ ok ∷ []) ≡ Over true false (Sent ∷ Deferred (codes "451 b") ∷ Sent ∷ []))
unfolding heard said onward_of after texts three ok
helo_after_5xx = (refl, refl)

no_data_where_none_is_accepted : after (talk Smtp (kit_of Smtp three)) (ok ∷ ok ∷ ok ∷ No (codes "550 a") ∷ No (codes "550 b") ∷ Later (codes "450 c") ∷ []) ≡ Over true false (Failed (codes "5.0.0") (codes "550 a") ∷ Failed (codes "5.0.0") (codes "550 b") ∷ Deferred (codes "450 c") ∷ [])
unfolding heard onward_of after three ok
no_data_where_none_is_accepted = refl

left_for_the_next : after (talk Smtp (kit_of Smtp three)) (Later (codes "421 no") ∷ []) ≡ Over true true (Deferred (codes "421 no") ∷ Deferred (codes "421 no") ∷ Deferred (codes "421 no") ∷ [])
unfolding heard onward_of after three ok
left_for_the_next = refl

-- the second recipient has a CR
one_that_is_no_line : (texts (talk Smtp (kit_of Smtp cut)) (ok ∷ Yes true ∷ ok ∷ ok ∷ ok ∷ []) ≡ codes "EHLO mx.example\r\n" ∷ codes "MAIL FROM:<> BODY=8BITMIME\r\n" ∷ codes "RCPT TO:<a>\r\n" ∷ codes "DATA\r\n" ∷ codes ".\r\n" ∷ [])
    × (after (talk Smtp (kit_of Smtp cut)) (ok ∷ Yes true ∷ ok ∷ ok ∷ ok ∷ ok ∷ []) ≡ Over true false (Sent ∷ Failed (codes "5.1.3") (codes "bad address") ∷ []))
unfolding heard said onward_of after texts cut ok dotted
one_that_is_no_line = (refl, refl)
