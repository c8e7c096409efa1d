-- Command lines (Sendmail Installation and Operation Guide, "Command Line Flags"; the order of the
-- refusals is our own).
use Rattle.std.specs.Prelude.{◌≡◌, ◌≢◌, ◌≤◌, ◌^◌, ℕ, true, List, [], ◌∷◌, ◌++◌, length, codes, None, Some, Result, Ok, Err, ◌⊎◌, refl}
use Rattle.std.specs.List.{flat_map}
use Rattle.cf_values.specs.Times.{IsTime, last_unit, rest_value, time_value}
use Rattle.mail_submit.specs.declared.words.SubmitWords.{SubmitWords}
use Rattle.command_line.specs.declared.mode.Job.{Job}
use Rattle.command_line.specs.declared.mode.Job.TheVariants.{Test, Session, Daemon, Run, List as Listing, Submit}
use Rattle.command_line.specs.declared.mode.Mode.{Mode}
use Rattle.command_line.specs.declared.fault.WordFault.{WordFault}
use Rattle.command_line.specs.declared.fault.WordFault.TheVariants as faults
use Rattle.command_line.specs.MailWords.{MailWord, Names, Gathers, IsMail, dots_in, headers_in, is_sender, mail_spelling, names_someone, no_mail, senders_in}

-- a mode as it is written: `-bt`, `-bs`, `-bd`, `-bp`, `-q`, and `-qG` with a name that isn't empty
pub data ModeWord : Type 0 where
  Tests : ModeWord
  Serves : ModeWord
  Listens : ModeWord
  Prints : ModeWord
  Runs : ModeWord
  RunsGroup : (first : ℕ) (others : List ℕ) → ModeWord

-- a text is a time of so many seconds: a last number without a letter counts minutes (109), and
-- 2^60 seconds are the most
abbrev pub IsWait : List ℕ → ℕ → Type 0
IsWait time seconds = IsTime (last_unit 109) time seconds × (seconds ≤ 2 ^ 60)

-- an option as it is written: a mode; `-q` with a time in the same word; `-C` with a name that
-- isn't empty in the same word; `-C` with the next word as the name, whatever it is; one of mail
-- that is handed over
pub data Flag : Type 0 where
  Does : (mode : ModeWord) → Flag
  Every : (time : List ℕ) (seconds : ℕ) (is : IsWait time seconds) → Flag
  Joined : (first : ℕ) (others : List ℕ) → Flag
  Apart : (name : List ℕ) → Flag
  Hands : (option : MailWord) → Flag

-- the word that says a mode
abbrev pub word_of : ModeWord → List ℕ
word_of Tests = codes "-bt"
word_of Serves = codes "-bs"
word_of Listens = codes "-bd"
word_of Prints = codes "-bp"
word_of Runs = codes "-q"
word_of (RunsGroup first others) = codes "-qG" ++ first ∷ others

-- what it says: the time of a `-bd` is an option of its own
abbrev pub job_of : ModeWord → Job
job_of Tests = Test
job_of Serves = Session
job_of Listens = Daemon None
job_of Prints = Listing
job_of Runs = Run None
job_of (RunsGroup first others) = Run (Some (first ∷ others))

-- the words of an option
abbrev pub spelling : Flag → List (List ℕ)
spelling (Does mode) = word_of mode ∷ []
spelling (Every time seconds is) = (codes "-q" ++ time) ∷ []
spelling (Joined first others) = (codes "-C" ++ first ∷ others) ∷ []
spelling (Apart name) = codes "-C" ∷ name ∷ []
spelling (Hands option) = mail_spelling option

-- the mode that an option says
abbrev pub jobs_in : Flag → List Job
jobs_in (Does mode) = job_of mode ∷ []
jobs_in (Every time seconds is) = []
jobs_in (Joined first others) = []
jobs_in (Apart name) = []
jobs_in (Hands option) = []

-- the seconds that an option says
abbrev pub waits_in : Flag → List ℕ
waits_in (Does mode) = []
waits_in (Every time seconds is) = seconds ∷ []
waits_in (Joined first others) = []
waits_in (Apart name) = []
waits_in (Hands option) = []

-- the file that an option names
abbrev pub files_in : Flag → List (List ℕ)
files_in (Does mode) = []
files_in (Every time seconds is) = []
files_in (Joined first others) = (first ∷ others) ∷ []
files_in (Apart name) = name ∷ []
files_in (Hands option) = []

-- what an option says of mail
abbrev pub mail_in : Flag → List MailWord
mail_in (Does mode) = []
mail_in (Every time seconds is) = []
mail_in (Joined first others) = []
mail_in (Apart name) = []
mail_in (Hands option) = option ∷ []

-- a job as its words say it without a time
abbrev pub untimed : Job → Job
untimed Test = Test
untimed Session = Session
untimed (Daemon wait) = Daemon None
untimed (Run group) = Run group
untimed Listing = Listing
untimed (Submit words) = Submit words

-- the seconds of a job, which only that of a `-bd` may have
abbrev pub waits_of : Job → List ℕ
waits_of Test = []
waits_of Session = []
waits_of (Daemon None) = []
waits_of (Daemon (Some seconds)) = seconds ∷ []
waits_of (Run group) = []
waits_of Listing = []
waits_of (Submit words) = []

-- the mode that says a job: handing mail over has none
abbrev pub modes_of : Job → List Job
modes_of Test = Test ∷ []
modes_of Session = Session ∷ []
modes_of (Daemon wait) = Daemon wait ∷ []
modes_of (Run group) = Run group ∷ []
modes_of Listing = Listing ∷ []
modes_of (Submit words) = []

-- what is said of mail for a job: of another than handing it over nothing
abbrev pub mail_of : Job → SubmitWords
mail_of Test = no_mail
mail_of Session = no_mail
mail_of (Daemon wait) = no_mail
mail_of (Run group) = no_mail
mail_of Listing = no_mail
mail_of (Submit words) = words

-- mail that is handed over goes to someone
abbrev pub HasWhom : Job → Type 0
HasWhom Test = Unit {0}
HasWhom Session = Unit {0}
HasWhom (Daemon wait) = Unit {0}
HasWhom (Run group) = Unit {0}
HasWhom Listing = Unit {0}
HasWhom (Submit words) = names_someone words ≡ true

-- options say a job, but for its time: by exactly one mode, or with none by what they say of mail,
-- where that has `-t` or an address
pub record Asks (flags : List Flag) (job : Job) : Type 0 where
  pub modes : flat_map jobs_in flags ≡ modes_of job
  pub mail : IsMail (flat_map mail_in flags) (mail_of job)
  pub whom : HasWhom job

-- the one file that is named, or the default where none is
abbrev pub IsFile : List (List ℕ) → List ℕ → Type 0
IsFile names file = (names ≡ file ∷ []) ⊎ ((names ≡ []) × (file ≡ codes "/etc/mail/sendmail.cf"))

-- options in any order, of which one is a mode, or none and some hand mail over; at most one is a
-- file, and with the mode `-bd` at most one a time
pub record IsCommandLine (words : List (List ℕ)) (mode : Mode) : Type 0 where
  pub flags : List Flag
  pub written : words ≡ flat_map spelling flags
  pub job : Asks flags (untimed mode.job)
  pub wait : flat_map waits_in flags ≡ waits_of mode.job
  pub file : IsFile (flat_map files_in flags) mode.file

-- options of mail, of each kind at most one, but as many addresses as there are
pub record AreOnce (options : List MailWord) : Type 0 where
  pub headers : length (flat_map headers_in options) ≤ 1
  pub dot : length (flat_map dots_in options) ≤ 1
  pub sender : length (flat_map senders_in options) ≤ 1

-- words as options, of each kind at most one: a mode, a time, a file, and those of mail, which
-- don't stand beside a mode
pub record AreOptions (flags : List Flag) (words : List (List ℕ)) : Type 0 where
  pub written : words ≡ flat_map spelling flags
  pub one_mode : length (flat_map jobs_in flags) ≤ 1
  pub one_wait : length (flat_map waits_in flags) ≤ 1
  pub one_file : length (flat_map files_in flags) ≤ 1
  pub once : AreOnce (flat_map mail_in flags)
  pub apart : (flat_map jobs_in flags ≡ []) ⊎ (flat_map mail_in flags ≡ [])

-- the words begin options: with more words, or with none, they are options
abbrev pub BeginsOptions : List (List ℕ) → Type 0
BeginsOptions words =
    (more : List (List ℕ)) × (flags : List Flag) × AreOptions flags (words ++ more)

-- The refusals, in their order: each says that none before it applies. Of the first two at most one
-- applies, by what comes first.

-- 1. The word at this place is no option, or can't stand behind those before it, as the second of
-- its kind, or as a mode beside an option of mail: those before it are options, and with it they
-- begin none.
pub record IsBadWord (words : List (List ℕ)) (place : ℕ) : Type 0 where
  pub front : List (List ℕ)
  pub word : List ℕ
  pub later : List (List ℕ)
  pub whole : words ≡ front ++ word ∷ later
  pub at : place ≡ length front
  pub flags : List Flag
  pub good : AreOptions flags front
  pub bad : ¬ (BeginsOptions (front ++ word ∷ []))

-- 2. The word at this place is a `-f`, which can stand behind the options before it, and the word
-- behind it is no text for a `-f`.
pub record IsBadSender (words : List (List ℕ)) (place : ℕ) : Type 0 where
  pub front : List (List ℕ)
  pub text : List ℕ
  pub later : List (List ℕ)
  pub whole : words ≡ front ++ codes "-f" ∷ text ∷ later
  pub at : place ≡ length front
  pub flags : List Flag
  pub good : AreOptions flags front
  pub begun : BeginsOptions (front ++ codes "-f" ∷ [])
  pub bad : ¬ (is_sender text ≡ true)

-- 3. The words begin options and are none, for a `-C` is the last: the name of a file is missing,
-- which would stand at their number.
pub record LacksFile (words : List (List ℕ)) (place : ℕ) : Type 0 where
  pub front : List (List ℕ)
  pub whole : words ≡ front ++ codes "-C" ∷ []
  pub at : place ≡ length words
  pub good : BeginsOptions words
  pub short : (flags : List Flag) → ¬ (AreOptions flags words)

-- 4. Or a `-f` is the last, and its text is missing: it is refused at its own place.
pub record LacksSender (words : List (List ℕ)) (place : ℕ) : Type 0 where
  pub front : List (List ℕ)
  pub whole : words ≡ front ++ codes "-f" ∷ []
  pub at : place ≡ length front
  pub good : BeginsOptions words
  pub short : (flags : List Flag) → ¬ (AreOptions flags words)

-- 5. The words are options that say no job, for there is no mode, no `-t` and no address: one would
-- stand at their number.
pub record LacksMode (words : List (List ℕ)) (place : ℕ) : Type 0 where
  pub at : place ≡ length words
  pub flags : List Flag
  pub options : AreOptions flags words
  pub none : (job : Job) → ¬ (Asks flags job)

-- 6. The words are options that say another job than that of `-bd`, and the one at this place is a
-- time.
pub record HasStrayWait (words : List (List ℕ)) (place : ℕ) : Type 0 where
  pub front : List Flag
  pub time : List ℕ
  pub seconds : ℕ
  pub is : IsWait time seconds
  pub later : List Flag
  pub options : AreOptions (front ++ Every time seconds is ∷ later) words
  pub job : Job
  pub said : Asks (front ++ Every time seconds is ∷ later) job
  pub other : job ≢ Daemon None
  pub at : place ≡ length (flat_map spelling front)

-- the place, counted from 0, at which words are refused
abbrev pub IsRefusedAt : List (List ℕ) → ℕ → Type 0
IsRefusedAt words place =
    IsBadWord words place
    ⊎ (IsBadSender words place
    ⊎ (LacksFile words place
    ⊎ (LacksSender words place
    ⊎ (LacksMode words place ⊎ HasStrayWait words place))))

abbrev pub Fails : WordFault → List (List ℕ) → Type 0
Fails faults.NoMemory words = Unit {0}
Fails (faults.At place) words = IsRefusedAt words place

-- what was returned is what the words say, unless memory ran out
abbrev pub Gives : Result Mode WordFault → List (List ℕ) → Type 0
Gives (Ok mode) words = IsCommandLine words mode
Gives (Err fault) words = Fails fault words

example : (word_of (RunsGroup 97 (codes "b")) ≡ codes "-qGab")
    × (time_value 109 (codes "30m") ≡ Some 1800) × (time_value 109 (codes "1h30") ≡ Some 5400)
    × (flat_map spelling (Hands Gathers ∷ Apart (codes "x") ∷ Hands (Names (codes "ann") refl) ∷ [])
    ≡ codes "-t" ∷ codes "-C" ∷ codes "x" ∷ codes "ann" ∷ [])
unfolding rest_value
example = (refl, refl, refl, refl)
