-- What a message of returned mail tells of an entry's rows (RFC 3464 has the same for machines;
-- the words are our own).
use Rattle.std.specs.Prelude.{◌≡◌, ℕ, List, [], ◌∷◌, ◌++◌, Option, None, Some, true, codes, refl}
use Rattle.std.specs.List.{flat_map}
use Rattle.mail_base.specs.declared.control.Row.{Row}
use Rattle.mail_base.specs.declared.control.State.{State}
use Rattle.mail_base.specs.declared.control.State.TheVariants.{Queued, Sent, Failed, Returned, Dead}
use Rattle.dsn_bounce.specs.declared.topic.Topic.{Topic}
use Rattle.dsn_bounce.specs.declared.topic.Topic.TheVariants.{Bounce, Warning}

-- a line of a message: its content, CR and LF
abbrev pub line : List ℕ → List ℕ
line content = content ++ 13 ∷ 10 ∷ []

unfoldable pub reason_words : List ℕ
reason_words = codes "    (reason: "

-- a row that failed: its address, and on the next line its status and its note
abbrev pub failed_lines : List ℕ → List ℕ → List ℕ → List ℕ
failed_lines address status note = line address
    ++ (reason_words ++ (status ++ (codes " " ++ (note ++ line (codes ")")))))

-- a row that is still tried: its address, and on the next line the note of its last attempt
abbrev pub queued_lines : List ℕ → Option (List ℕ) → List ℕ
queued_lines address None = address ++ line (codes " (not yet tried)")
queued_lines address (Some note) =
    line address ++ (reason_words ++ (note ++ line (codes ")")))

-- what is told of a row in that state: a bounce tells of those that failed, a warning of those that
-- are still tried
abbrev pub told_as : Topic → List ℕ → State → List ℕ
told_as Bounce address (Queued tried) = []
told_as Bounce address Sent = []
told_as Bounce address (Failed status note) = failed_lines address status note
told_as Bounce address (Returned id) = []
told_as Bounce address (Dead status note) = []
told_as Warning address (Queued tried) = queued_lines address tried
told_as Warning address Sent = []
told_as Warning address (Failed status note) = []
told_as Warning address (Returned id) = []
told_as Warning address (Dead status note) = []

abbrev pub told_of : Topic → Row → List ℕ
told_of topic row = told_as topic row.address row.state

-- and of an entry's rows, in their order
abbrev pub told_rows : Topic → List Row → List ℕ
told_rows topic rows = flat_map (told_of topic) rows

example :
    (told_as Bounce (codes "a@b") (Failed (codes "5.1.1") (codes "no"))
    ≡ failed_lines (codes "a@b") (codes "5.1.1") (codes "no"))
    × (told_as Bounce (codes "a@b") Sent ≡ [])
    × (told_as Warning (codes "a@b") (Queued None) ≡ line (codes "a@b (not yet tried)"))
example = (refl, refl, refl)
