-- How the code reads a command line word by word (Sendmail Installation and Operation Guide,
-- "Command Line Flags"): what its private contracts cite. What a command line is, `CommandLines`
-- says, and what is read here is proved to be that.
use Rattle.std.specs.Prelude.{◌≡◌, ℕ, ◌+◌, ◌-◌, ◌^◌, ◌||◌, nat_le, List, [], ◌∷◌, ◌++◌, length, take, drop, bytes_eq, Bool, true, false, not, if◌then◌else◌, codes, Option, Some, None, Result, Ok, Err}
use Rattle.std.specs.Option.{is_some, unwrap_or}
use Rattle.cf_values.specs.Times.{time_value}
use Rattle.mail_submit.specs.declared.words.SubmitWords.{SubmitWords}
use Rattle.command_line.specs.declared.mode.Job.{Job}
use Rattle.command_line.specs.declared.mode.Job.TheVariants.{Test, Session, Daemon, Run, List as Listing, Submit}
use Rattle.command_line.specs.declared.mode.Mode.{Mode}
use Rattle.command_line.specs.declared.saying.Awaited.{Awaited}
use Rattle.command_line.specs.declared.saying.Awaited.TheVariants.{File, Sender}
use Rattle.command_line.specs.declared.saying.Saying.{Saying}
use Rattle.command_line.specs.declared.saying.Wait.{Wait}
use Rattle.command_line.specs.declared.fault.WordFault.{WordFault}
use Rattle.command_line.specs.declared.fault.WordFault.TheVariants as faults
use Rattle.command_line.specs.CommandLines.{Tests, Serves, Listens, Prints, Runs, word_of}
use Rattle.command_line.specs.MailWords.{has_some, is_dashed, is_one_line, is_sender, names_someone, no_mail}

-- ---- what a word says by itself

-- a name that isn't empty
abbrev pub named : List ℕ → Option (List ℕ)
named [] = None
named (first ∷ others) = Some (first ∷ others)

-- the group that a word names
abbrev pub group_said : List ℕ → Option (List ℕ)
group_said word = if bytes_eq (take 3 word) (codes "-qG") then named (drop 3 word) else None

abbrev pub group_job : Option (List ℕ) → Option Job
group_job None = None
group_job (Some name) = Some (Run (Some name))

-- the mode that a word says
abbrev pub job_said : List ℕ → Option Job
job_said word =
    if bytes_eq word (word_of Tests) then Some Test
    else if bytes_eq word (word_of Serves) then Some Session
    else if bytes_eq word (word_of Listens) then Some (Daemon None)
    else if bytes_eq word (word_of Prints) then Some Listing
    else if bytes_eq word (word_of Runs) then Some (Run None)
    else group_job (group_said word)

-- seconds, if they are at most 2^60
abbrev pub capped : Option ℕ → Option ℕ
capped None = None
capped (Some seconds) = if nat_le seconds (2 ^ 60) then Some seconds else None

-- the seconds of a text, if it is a time
abbrev pub seconds_said : List ℕ → Option ℕ
seconds_said text = capped (time_value 109 text)

-- the time that a word says
abbrev pub wait_said : List ℕ → Option ℕ
wait_said word =
    if bytes_eq (take 2 word) (codes "-q") then seconds_said (drop 2 word) else None

-- ---- what is said of mail with a word more, or none where the word is none of mail or the second
-- of its kind

-- whether anything is said
abbrev pub is_mail : SubmitWords → Bool
is_mail mail =
    mail.from_headers || (not mail.dot || (is_some mail.sender || has_some mail.addresses))

abbrev pub with_headers : SubmitWords → Option SubmitWords
with_headers mail =
    if mail.from_headers then None else Some (record mail { from_headers = true })

abbrev pub with_no_dot : SubmitWords → Option SubmitWords
with_no_dot mail = if mail.dot then Some (record mail { dot = false }) else None

-- with the text of a `-f`
abbrev pub with_text : SubmitWords → List ℕ → Option SubmitWords
with_text mail text = if is_sender text then Some (record mail { sender = Some text }) else None

abbrev pub with_sender : SubmitWords → List ℕ → Option SubmitWords
with_sender mail text = if is_some mail.sender then None else with_text mail text

abbrev pub with_address : SubmitWords → List ℕ → Option SubmitWords
with_address mail word =
    if is_one_line word then Some (record mail { addresses = mail.addresses ++ word ∷ [] })
    else None

-- with an option in one word
abbrev pub with_mail : SubmitWords → List ℕ → Option SubmitWords
with_mail mail word =
    if bytes_eq word (codes "-t") then with_headers mail
    else if bytes_eq word (codes "-i") then with_no_dot mail
    else if bytes_eq word (codes "-oi") then with_no_dot mail
    else if bytes_eq (take 2 word) (codes "-f") then with_sender mail (drop 2 word)
    else None

-- ---- what is said with a word more, or none where it is no option, can't stand there, or is the
-- second of its kind

-- with the name behind a `-C`, which is the next word where that is empty
abbrev pub with_name : Saying → List ℕ → Saying
with_name said [] = record said { awaits = Some File }
with_name said (first ∷ others) = record said { file = Some (first ∷ others) }

abbrev pub with_file : Saying → List ℕ → Option Saying
with_file said name = if is_some said.file then None else Some (with_name said name)

abbrev pub with_it : Saying → Option SubmitWords → Option Saying
with_it said None = None
with_it said (Some mail) = Some (record said { mail = mail })

-- with a `-f` whose text is the next word
abbrev pub with_lone : Saying → Option Saying
with_lone said =
    if is_some said.mail.sender then None else Some (record said { awaits = Some Sender })

-- with an option of mail
abbrev pub with_option : Saying → List ℕ → Option Saying
with_option said word =
    if is_some said.job then None
    else if bytes_eq word (codes "-f") then with_lone said
    else with_it said (with_mail said.mail word)

-- with the time that the word says, or with its option of mail where it says none
abbrev pub with_wait : Saying → List ℕ → Option ℕ → ℕ → Option Saying
with_wait said word None place = with_option said word
with_wait said word (Some seconds) place =
    if is_some said.wait then None
    else Some (record said { wait = Some (record { seconds = seconds; place = place }) })

-- with a word that begins with `-`
abbrev pub with_dashed : Saying → List ℕ → ℕ → Option Saying
with_dashed said word place =
    if is_some (job_said word)
    then (if is_some said.job || is_mail said.mail then None
    else Some (record said { job = job_said word }))
    else if bytes_eq (take 2 word) (codes "-C") then with_file said (drop 2 word)
    else with_wait said word (wait_said word) place

-- with another word
abbrev pub with_plain : Saying → List ℕ → Option Saying
with_plain said word =
    if is_some said.job then None else with_it said (with_address said.mail word)

abbrev pub with_new : Saying → List ℕ → ℕ → Option Saying
with_new said word place =
    if is_dashed word then with_dashed said word place else with_plain said word

abbrev pub or_refused : Option Saying → ℕ → Result Saying ℕ
or_refused None place = Err place
or_refused (Some said) place = Ok said

-- with a word, by what it is awaited as; the text of a `-f` is refused at the place before its own
abbrev pub with_awaited : Saying → Option Awaited → List ℕ → ℕ → Result Saying ℕ
with_awaited said None word place = or_refused (with_new said word place) place
with_awaited said (Some File) word place = Ok (record said { file = Some word; awaits = None })
with_awaited said (Some Sender) word place =
    or_refused (with_it (record said { awaits = None }) (with_text said.mail word)) (place - 1)

abbrev pub with_word : Saying → List ℕ → ℕ → Result Saying ℕ
with_word said word place = with_awaited said said.awaits word place

abbrev pub and_then : Result Saying ℕ → (Saying → Result Saying ℕ) → Result Saying ℕ
and_then (Ok said) next = next said
and_then (Err place) next = Err place

-- What the words from a place on say, after what those before it said, or the place at which the
-- first is refused that can't be taken.
abbrev pub read_options : Saying → ℕ → List (List ℕ) → Result Saying ℕ
read_options said place [] = Ok said
read_options said place (word ∷ words) =
    and_then (with_word said word place) (λ next. read_options next (place + 1) words)

-- ---- what so many words come to

-- a job with the time of a `-q`: of another than that of a `-bd` it is refused at its place
abbrev pub timed : Job → Option Wait → Result Job ℕ
timed job None = Ok job
timed Test (Some wait) = Err wait.place
timed Session (Some wait) = Err wait.place
timed (Daemon had) (Some wait) = Ok (Daemon (Some wait.seconds))
timed (Run group) (Some wait) = Err wait.place
timed Listing (Some wait) = Err wait.place
timed (Submit words) (Some wait) = Err wait.place

abbrev pub mode_by : Result Job ℕ → Option (List ℕ) → Result Mode ℕ
mode_by (Err place) file = Err place
mode_by (Ok job) file =
    Ok (record { file = unwrap_or file (codes "/etc/mail/sendmail.cf"); job = job })

-- the job that is said: that of the mode, or mail handed over where it goes to someone
abbrev pub asked : Option Job → SubmitWords → Option Job
asked (Some job) mail = Some job
asked None mail = if names_someone mail then Some (Submit mail) else None

abbrev pub whole : Option Job → Option (List ℕ) → Option Wait → ℕ → Result Mode ℕ
whole None file wait count = Err count
whole (Some job) file wait count = mode_by (timed job wait) file

-- A `-C` without a file, and words without a mode, are refused at their number, and a `-f` without
-- a text at its place.
abbrev pub judged_by : Option Awaited → Saying → ℕ → Result Mode ℕ
judged_by (Some File) said count = Err count
judged_by (Some Sender) said count = Err (count - 1)
judged_by None said count = whole (asked said.job said.mail) said.file said.wait count

abbrev pub judged : ℕ → Result Saying ℕ → Result Mode ℕ
judged count (Err place) = Err place
judged count (Ok said) = judged_by said.awaits said count

abbrev pub nothing : Saying
nothing = record { job = None; file = None; wait = None; mail = no_mail; awaits = None }

-- what a command line says, or the place of the word that is refused, counted from 0
abbrev pub command_line : List (List ℕ) → Result Mode ℕ
command_line words = judged (length words) (read_options nothing 0 words)

-- ---- what the code returns

abbrev pub Fails : {A : Type 0} → WordFault → Result A ℕ → Type 0
Fails faults.NoMemory said = Unit {0}
Fails (faults.At place) said = said ≡ Err place

-- what was returned is what the words say, unless memory ran out
abbrev pub Gives : {A : Type 0} → Result A WordFault → Result A ℕ → Type 0
Gives (Ok answer) said = said ≡ Ok answer
Gives (Err fault) said = Fails fault said

-- a word is taken, and this is then said, or it is refused at a place
abbrev pub Takes : Result (Unit {0}) WordFault → Result Saying ℕ → Saying → Type 0
Takes (Ok _) next new = next ≡ Ok new
Takes (Err fault) next new = Fails fault next

abbrev pub Refuses : {A : Type 0} → WordFault → Option A → ℕ → Type 0
Refuses faults.NoMemory next place = Unit {0}
Refuses (faults.At at) next place = (next ≡ None) × (at ≡ place)

-- the same of what is said by itself, where the word at this place is refused there
abbrev pub Adds : {A : Type 0} → Result (Unit {0}) WordFault → Option A → A → ℕ → Type 0
Adds (Ok _) next new place = next ≡ Some new
Adds (Err fault) next new place = Refuses fault next place
