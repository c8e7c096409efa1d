-- What follows what in a dialogue with a peer, and what becomes of the rows (RFC 5321, sections 3.1
-- to 3.3 and 4.2, and RFC 2033, section 4; which reply counts for which row is our own).
use Rattle.std.specs.Prelude.{ℕ, ◌/◌, ◌==◌, Bool, true, false, List, [], ◌∷◌, ◌++◌, Option, Some, None, map, if◌then◌else◌, codes}
use Rattle.std.specs.List.{list_any}
use Rattle.mail_base.specs.declared.outcome.Result1.{Result1}
use Rattle.mail_base.specs.declared.outcome.Result1.TheVariants.{Sent, Deferred, Failed}
use Rattle.mailer_smtp.specs.declared.kit.Kit.{Kit}
use Rattle.mailer_smtp.specs.declared.kit.Speech.{Speech}
use Rattle.mailer_smtp.specs.declared.kit.Speech.TheVariants.{Smtp, Lmtp}
use Rattle.mailer_smtp.specs.declared.verdict.Verdict.{Verdict}
use Rattle.mailer_smtp.specs.declared.verdict.Verdict.TheVariants.{Yes, Later, No, Broken}
use Rattle.mailer_smtp.specs.declared.verdict.Wants.{Wants}
use Rattle.mailer_smtp.specs.declared.verdict.Wants.TheVariants.{Done, Go}
use Rattle.mailer_smtp.specs.Texts.{note_of}

abbrev pub device_fault : List ℕ
device_fault = codes "device fault"

abbrev pub connection_lost : List ℕ
connection_lost = codes "connection lost"

abbrev pub bad_reply : List ℕ
bad_reply = codes "bad reply"

-- the wanted code: 2xx, or 354 where the text is to follow
abbrev pub is_wanted : Wants → ℕ → Bool
is_wanted Done code = code / 100 == 2
is_wanted Go code = code == 354

-- what a whole reply is to what was asked
abbrev pub verdict_of : Wants → ℕ → List ℕ → Bool → Verdict
verdict_of wants code text eight =
    if is_wanted wants code then Yes eight
    else if code / 100 == 4 then Later (note_of code text)
    else if code / 100 == 5 then No (note_of code text)
    else Broken bad_reply

abbrev pub is_yes : Verdict → Bool
is_yes (Yes eight) = true
is_yes (Later note) = false
is_yes (No note) = false
is_yes (Broken note) = false

-- a whole reply in the grammar
abbrev pub is_whole : Verdict → Bool
is_whole (Yes eight) = true
is_whole (Later note) = true
is_whole (No note) = true
is_whole (Broken note) = false

-- what a row becomes by it
abbrev pub result_of : Verdict → Result1
result_of (Yes eight) = Sent
result_of (Later note) = Deferred note
result_of (No note) = Failed (codes "5.0.0") note
result_of (Broken note) = Deferred note

abbrev pub is_sent : Result1 → Bool
is_sent Sent = true
is_sent (Deferred note) = false
is_sent (Failed status note) = false

-- what comes behind the replies to RCPT counts for the accepted rows alone
abbrev pub settled : Verdict → Result1 → Result1
settled last row = if is_sent row then result_of last else row

-- a dialogue from here on: it is over, a reply is read, or a text is written. What follows goes by
-- the reply, or by whether the text could be written
pub data Plan : Type 0 where
  Over : (quits leaves : Bool) (rows : List Result1) → Plan
  Hears : (wants : Wants) (go : Verdict → Plan) → Plan
  Says : (text : List ℕ) (lost next : Plan) → Plan

-- a text and the reply to it
abbrev pub asks : List ℕ → Wants → (Verdict → Plan) → Plan
asks text wants go = Says text (go (Broken device_fault)) (Hears wants go)

-- a recipient whose address is no line, and that one which may be asked for gets this result
abbrev pub unsaid_row : Result1
unsaid_row = Failed (codes "5.1.3") (codes "bad address")

abbrev pub row_of : Result1 → Option (List ℕ) → Result1
row_of row (Some line) = row
row_of row None = unsaid_row

-- the end by that reply: of the rows so far, and of those whose RCPT wasn't answered
abbrev pub over : Verdict → List Result1 → List (Option (List ℕ)) → Plan
over last rows left =
    Over (is_whole last) false (map (settled last) rows ++ map (row_of (result_of last)) left)

-- LMTP: each row that was accepted has a reply of its own, in their order
abbrev pub each : List Result1 → List Result1 → Plan
each got [] = Over true false got
each got (row ∷ rows) = if is_sent row
    then Hears Done (λ reply. if is_whole reply then each (got ++ result_of reply ∷ []) rows
    else Over false false (got ++ map (settled reply) (row ∷ rows)))
    else each (got ++ row ∷ []) rows

-- the text is to follow
abbrev pub texted : Speech → Kit → List Result1 → Plan
texted Smtp kit rows = asks kit.text Done (λ reply. over reply rows [])
texted Lmtp kit rows = Says kit.text (over (Broken device_fault) rows []) (each [] rows)

-- all RCPTs were answered
abbrev pub answered : Speech → Kit → List Result1 → Plan
answered speech kit rows = if list_any is_sent rows
    then asks kit.start Go
    (λ reply. if is_yes reply then texted speech kit rows else over reply rows [])
    else Over true false rows

-- these RCPTs are still to be sent; a recipient whose address is no line isn't asked for
abbrev pub receivers : Speech → Kit → List Result1 → List (Option (List ℕ)) → Plan
receivers speech kit rows [] = answered speech kit rows
receivers speech kit rows (None ∷ left) = receivers speech kit (rows ++ unsaid_row ∷ []) left
receivers speech kit rows (Some line ∷ left) = asks line Done
    (λ reply. if is_whole reply then receivers speech kit (rows ++ result_of reply ∷ []) left
    else over reply rows (Some line ∷ left))

-- the peer is greeted; it takes 8-bit bodies or not
abbrev pub mailing : Speech → Kit → Bool → Plan
mailing speech kit eight = asks (if eight then kit.mail_eight else kit.mail) Done
    (λ reply. if is_yes reply then receivers speech kit [] kit.rcpts
    else over reply [] kit.rcpts)

-- after HELO
abbrev pub heloed : Kit → Verdict → Plan
heloed kit (Yes eight) = mailing Smtp kit false
heloed kit (Later note) = over (Later note) [] kit.rcpts
heloed kit (No note) = over (No note) [] kit.rcpts
heloed kit (Broken note) = over (Broken note) [] kit.rcpts

-- after EHLO or LHLO: HELO follows a 5xx to EHLO
abbrev pub greeted : Speech → Kit → Verdict → Plan
greeted speech kit (Yes eight) = mailing speech kit eight
greeted speech kit (Later note) = over (Later note) [] kit.rcpts
greeted Smtp kit (No note) = asks kit.again Done (heloed kit)
greeted Lmtp kit (No note) = over (No note) [] kit.rcpts
greeted speech kit (Broken note) = over (Broken note) [] kit.rcpts

-- what is left for the next host, if there is one
abbrev pub passed : Kit → Verdict → Plan
passed kit reply = Over (is_whole reply) true (map (row_of (result_of reply)) kit.rcpts)

-- after the greeting: a peer with a 4xx, or without a whole one, is left for the next
abbrev pub opened : Speech → Kit → Verdict → Plan
opened speech kit (Yes eight) = asks kit.hello Done (greeted speech kit)
opened speech kit (Later note) = passed kit (Later note)
opened speech kit (No note) = over (No note) [] kit.rcpts
opened speech kit (Broken note) = passed kit (Broken note)

-- a whole dialogue
abbrev pub talk : Speech → Kit → Plan
talk speech kit = Hears Done (opened speech kit)
