-- The times among options, and what a time does to a job.
use Rattle.std.proofs.Common.{◌≡◌, ℕ, ◌+◌, ◌≤◌, List, [], ◌∷◌, ◌++◌, length, length-append, Option, Some, None, Result, Ok, Err, refl, sym, ◌∙◌, ap, subst, arith}
use Rattle.std.specs.Prelude.{◌≢◌}
use Rattle.std.specs.List.{flat_map}
use Rattle.command_line.specs.declared.mode.Job.{Job}
use Rattle.command_line.specs.declared.mode.Job.TheVariants.{Test, Session, Daemon, Run, List as Listing, Submit}
use Rattle.command_line.specs.declared.saying.Wait.{Wait}
use Rattle.command_line.specs.inner.Words.{timed}
use Rattle.command_line.specs.MailWords.{MailWord, Gathers, Ignores, IgnoresToo, Sends, SendsApart, Names, mail_spelling, no_mail}
use Rattle.command_line.specs.CommandLines.{Flag, Does, Every, Joined, Apart, Hands, ModeWord, Tests, Serves, Listens, Prints, Runs, RunsGroup, IsWait, Asks, HasWhom, job_of, mail_of, modes_of, spelling, jobs_in, waits_in, untimed, waits_of}

-- ---- the time among options, with its place

-- the seconds that were said
abbrev pub times : Option Wait → List ℕ
times None = []
times (Some wait) = wait.seconds ∷ []

abbrev pub waiting_for : ℕ → ℕ → Wait
waiting_for seconds place = record { seconds = seconds; place = place }

-- the place behind the words of an option of mail
abbrev pub past : ℕ → MailWord → ℕ
past start Gathers = start + 1
past start Ignores = start + 1
past start IgnoresToo = start + 1
past start (Sends text is) = start + 1
past start (SendsApart text is) = start + 1 + 1
past start (Names address is) = start + 1

past_is : (start : ℕ) (option : MailWord) → past start option ≡ start + length (mail_spelling option)
past_is start Gathers = omega arith
past_is start Ignores = omega arith
past_is start IgnoresToo = omega arith
past_is start (Sends text is) = omega arith
past_is start (SendsApart text is) = omega arith
past_is start (Names address is) = omega arith

-- the first time among options that begin at a place
abbrev pub wait_after : ℕ → List Flag → Option Wait
wait_after start [] = None
wait_after start (Does mode ∷ flags) = wait_after (start + 1) flags
wait_after start (Every time seconds is ∷ flags) = Some (waiting_for seconds start)
wait_after start (Joined first others ∷ flags) = wait_after (start + 1) flags
wait_after start (Apart name ∷ flags) = wait_after (start + 1 + 1) flags
wait_after start (Hands option ∷ flags) = wait_after (past start option) flags

no_more : (xs : List ℕ) (x : ℕ) → length (x ∷ xs) ≤ 1 → xs ≡ []
no_more [] x le = refl
no_more (y ∷ ys) x le = absurd (omega (arith, le))

-- at most one time is the first
pub times_after : (flags : List Flag) (start : ℕ) → length (flat_map waits_in flags) ≤ 1 → times (wait_after start flags) ≡ flat_map waits_in flags
times_after [] start le = refl
times_after (Does mode ∷ flags) start le = times_after flags (start + 1) le
times_after (Every time seconds is ∷ flags) start le = ap (λ (more : List ℕ). seconds ∷ more) (sym (no_more (flat_map waits_in flags) seconds le))
times_after (Joined first others ∷ flags) start le = times_after flags (start + 1) le
times_after (Apart name ∷ flags) start le = times_after flags (start + 1 + 1) le
times_after (Hands option ∷ flags) start le = times_after flags (past start option) le

-- where a time stands among options
pub record IsTimeAt (flags : List Flag) (start place : ℕ) : Type 0 where
  pub front : List Flag
  pub time : List ℕ
  pub seconds : ℕ
  pub is : IsWait time seconds
  pub later : List Flag
  pub whole : flags ≡ front ++ Every time seconds is ∷ later
  pub at : place ≡ start + length (flat_map spelling front)

behind : (flag : Flag) (flags : List Flag) (start next place : ℕ) → next ≡ start + length (spelling flag) → IsTimeAt flags next place → IsTimeAt (flag ∷ flags) start place
behind flag flags start next place e at = record {
  front = flag ∷ at.front;
  time = at.time;
  seconds = at.seconds;
  is = at.is;
  later = at.later;
  whole = ap (λ (fs : List Flag). flag ∷ fs) at.whole;
  at = let both = length-append (spelling flag) (flat_map spelling at.front) in omega (arith, e, at.at, both);
}

place_in : Option Wait → ℕ
place_in None = 0
place_in (Some wait) = wait.place

pub wait_at : (flags : List Flag) (start : ℕ) (wait : Wait) → wait_after start flags ≡ Some wait → IsTimeAt flags start wait.place
unfolding place_in
wait_at [] start wait e = absurd (cc e)
wait_at (Does mode ∷ flags) start wait e = behind (Does mode) flags start (start + 1) wait.place refl (wait_at flags (start + 1) wait e)
wait_at (Every time seconds is ∷ flags) start wait e = record {
  front = [];
  time = time;
  seconds = seconds;
  is = is;
  later = flags;
  whole = refl;
  at = sym (ap place_in e) ∙ omega arith;
}
wait_at (Joined first others ∷ flags) start wait e = behind (Joined first others) flags start (start + 1) wait.place refl (wait_at flags (start + 1) wait e)
wait_at (Apart name ∷ flags) start wait e = behind (Apart name) flags start (start + 1 + 1) wait.place (omega arith) (wait_at flags (start + 1 + 1) wait e)
wait_at (Hands option ∷ flags) start wait e = behind (Hands option) flags start (past start option) wait.place (past_is start option) (wait_at flags (past start option) wait e)

has_wait : (front : List Flag) (time : List ℕ) (seconds : ℕ) (is : IsWait time seconds) (later : List Flag) → 1 ≤ length (flat_map waits_in (front ++ Every time seconds is ∷ later))
has_wait [] time seconds is later = omega arith
has_wait (Does mode ∷ front) time seconds is later = has_wait front time seconds is later
has_wait (Every other n been ∷ front) time seconds is later = omega arith
has_wait (Joined first others ∷ front) time seconds is later = has_wait front time seconds is later
has_wait (Apart name ∷ front) time seconds is later = has_wait front time seconds is later
has_wait (Hands option ∷ front) time seconds is later = has_wait front time seconds is later

-- a time that is the only one is the first
pub wait_there : (front : List Flag) (time : List ℕ) (seconds : ℕ) (is : IsWait time seconds) (later : List Flag) (start : ℕ) → length (flat_map waits_in (front ++ Every time seconds is ∷ later)) ≤ 1
    → wait_after start (front ++ Every time seconds is ∷ later) ≡ Some (waiting_for seconds (start + length (flat_map spelling front)))
wait_there [] time seconds is later start le = ap (λ (p : ℕ). Some (waiting_for seconds p)) (omega arith)
wait_there (Does mode ∷ front) time seconds is later start le = wait_there front time seconds is later (start + 1) le ∙ ap (λ (p : ℕ). Some (waiting_for seconds p)) (omega arith)
wait_there (Every other n been ∷ front) time seconds is later start le = let has = has_wait front time seconds is later in absurd (omega (arith, le, has))
wait_there (Joined first others ∷ front) time seconds is later start le = wait_there front time seconds is later (start + 1) le ∙ ap (λ (p : ℕ). Some (waiting_for seconds p)) (omega arith)
wait_there (Apart name ∷ front) time seconds is later start le = wait_there front time seconds is later (start + 1 + 1) le ∙ ap (λ (p : ℕ). Some (waiting_for seconds p)) (omega arith)
wait_there (Hands option ∷ front) time seconds is later start le =
    wait_there front time seconds is later (past start option) le
    ∙ ap (λ (p : ℕ). Some (waiting_for seconds p))
    (let both = length-append (mail_spelling option) (flat_map spelling front) in let at = past_is start option in omega (arith, both, at))

-- ---- the job that options say

-- it has no time
pub record IsUntimed (job : Job) : Type 0 where
  pub same : untimed job ≡ job
  pub none : waits_of job ≡ []

-- it is that of a mode
pub record IsModal (job : Job) : Type 0 where
  pub untimed : IsUntimed job
  pub modes : modes_of job ≡ job ∷ []
  pub quiet : mail_of job ≡ no_mail
  pub whom : HasWhom job

mode_modal : (mode : ModeWord) → IsModal (job_of mode)
mode_modal Tests = record { untimed = record { same = refl; none = refl }; modes = refl; quiet = refl; whom = tt }
mode_modal Serves = record { untimed = record { same = refl; none = refl }; modes = refl; quiet = refl; whom = tt }
mode_modal Listens = record { untimed = record { same = refl; none = refl }; modes = refl; quiet = refl; whom = tt }
mode_modal Prints = record { untimed = record { same = refl; none = refl }; modes = refl; quiet = refl; whom = tt }
mode_modal Runs = record { untimed = record { same = refl; none = refl }; modes = refl; quiet = refl; whom = tt }
mode_modal (RunsGroup first others) = record { untimed = record { same = refl; none = refl }; modes = refl; quiet = refl; whom = tt }

first_job : (job other : Job) (jobs : List Job) → job ∷ jobs ≡ other ∷ [] → job ≡ other
first_job job other jobs e = cc e

-- a job has one time at most
pub job_waits : (job : Job) → length (waits_of job) ≤ 1
job_waits Test = omega arith
job_waits Session = omega arith
job_waits (Daemon None) = omega arith
job_waits (Daemon (Some seconds)) = omega arith
job_waits (Run group) = omega arith
job_waits Listing = omega arith
job_waits (Submit words) = omega arith

pub said_modal : (flags : List Flag) (job : Job) → flat_map jobs_in flags ≡ job ∷ [] → IsModal job
said_modal [] job e = absurd (cc e)
said_modal (Does mode ∷ flags) job e = subst IsModal (first_job (job_of mode) job (flat_map jobs_in flags) e) (mode_modal mode)
said_modal (Every time seconds is ∷ flags) job e = said_modal flags job e
said_modal (Joined first others ∷ flags) job e = said_modal flags job e
said_modal (Apart name ∷ flags) job e = said_modal flags job e
said_modal (Hands option ∷ flags) job e = said_modal flags job e

-- options say a job without its time
pub asks_untimed : (flags : List Flag) (job : Job) → Asks flags job → IsUntimed job
asks_untimed flags Test asks = record { same = refl; none = refl }
asks_untimed flags Session asks = record { same = refl; none = refl }
asks_untimed flags (Daemon wait) asks = (said_modal flags (Daemon wait) asks.modes).untimed
asks_untimed flags (Run group) asks = record { same = refl; none = refl }
asks_untimed flags Listing asks = record { same = refl; none = refl }
asks_untimed flags (Submit words) asks = record { same = refl; none = refl }

-- ---- the job with the time

abbrev fits : Job → Result Job ℕ
fits job = Ok job

abbrev stray : ℕ → Result Job ℕ
stray place = Err place

same_job : (a b : Job) → fits a ≡ fits b → a ≡ b
same_job a b e = cc e

never_fits : (job : Job) (place : ℕ) → fits job ≡ stray place → ⊥
never_fits job place e = absurd (cc e)

-- what a job with a time is
pub record IsTimed (job : Job) (wait : Option Wait) (with_it : Job) : Type 0 where
  pub same : job ≡ untimed with_it
  pub waits : times wait ≡ waits_of with_it

pub timed_is : (job : Job) (wait : Option Wait) (with_it : Job) → IsUntimed job → timed job wait ≡ Ok with_it → IsTimed job wait with_it
timed_is job None with_it un e = subst (IsTimed job None) (same_job job with_it e) (record { same = sym un.same; waits = sym un.none })
timed_is Test (Some wait) with_it un e = absurd (never_fits with_it wait.place (sym e))
timed_is Session (Some wait) with_it un e = absurd (never_fits with_it wait.place (sym e))
timed_is (Daemon had) (Some wait) with_it un e = subst (IsTimed (Daemon had) (Some wait)) (same_job (Daemon (Some wait.seconds)) with_it e) (record { same = sym un.same; waits = refl })
timed_is (Run group) (Some wait) with_it un e = absurd (never_fits with_it wait.place (sym e))
timed_is Listing (Some wait) with_it un e = absurd (never_fits with_it wait.place (sym e))
timed_is (Submit words) (Some wait) with_it un e = absurd (never_fits with_it wait.place (sym e))

first_time : (a b : ℕ) (others : List ℕ) → a ∷ others ≡ b ∷ [] → a ≡ b
first_time a b others e = cc e

pub is_timed : (with_it : Job) (wait : Option Wait) → times wait ≡ waits_of with_it → timed (untimed with_it) wait ≡ Ok with_it
is_timed Test None e = refl
is_timed Test (Some wait) e = absurd (cc e)
is_timed Session None e = refl
is_timed Session (Some wait) e = absurd (cc e)
is_timed (Daemon None) None e = refl
is_timed (Daemon None) (Some wait) e = absurd (cc e)
is_timed (Daemon (Some seconds)) None e = absurd (cc e)
is_timed (Daemon (Some seconds)) (Some wait) e = ap (λ (n : ℕ). fits (Daemon (Some n))) (first_time wait.seconds seconds [] e)
is_timed (Run group) None e = refl
is_timed (Run group) (Some wait) e = absurd (cc e)
is_timed Listing None e = refl
is_timed Listing (Some wait) e = absurd (cc e)
is_timed (Submit words) None e = refl
is_timed (Submit words) (Some wait) e = absurd (cc e)

-- a time that is refused
pub record IsStray (job : Job) (wait : Option Wait) (place : ℕ) : Type 0 where
  pub time : Wait
  pub there : wait ≡ Some time
  pub at : place ≡ time.place
  pub other : job ≢ Daemon None

same_stray : (a b : ℕ) → stray a ≡ stray b → a ≡ b
same_stray a b e = cc e

pub stray_is : (job : Job) (wait : Option Wait) (place : ℕ) → timed job wait ≡ Err place → IsStray job wait place
stray_is job None place e = absurd (never_fits job place e)
stray_is Test (Some wait) place e = record { time = wait; there = refl; at = sym (same_stray wait.place place e); other = λ same. cc same }
stray_is Session (Some wait) place e = record { time = wait; there = refl; at = sym (same_stray wait.place place e); other = λ same. cc same }
stray_is (Daemon had) (Some wait) place e = absurd (never_fits (Daemon (Some wait.seconds)) place e)
stray_is (Run group) (Some wait) place e = record { time = wait; there = refl; at = sym (same_stray wait.place place e); other = λ same. cc same }
stray_is Listing (Some wait) place e = record { time = wait; there = refl; at = sym (same_stray wait.place place e); other = λ same. cc same }
stray_is (Submit words) (Some wait) place e = record { time = wait; there = refl; at = sym (same_stray wait.place place e); other = λ same. cc same }

pub is_stray : (job : Job) (wait : Wait) → IsUntimed job → job ≢ Daemon None → timed job (Some wait) ≡ Err wait.place
is_stray Test wait un other = refl
is_stray Session wait un other = refl
is_stray (Daemon had) wait un other = absurd (other (sym un.same))
is_stray (Run group) wait un other = refl
is_stray Listing wait un other = refl
is_stray (Submit words) wait un other = refl
