-- What a word says, and the forms of a word.
use Rattle.std.proofs.Common.{◌≡◌, ℕ, ◌^◌, ◌≤◌, List, [], ◌∷◌, ◌++◌, take, drop, Bool, true, false, Option, Some, None, Result, Ok, Err, refl, sym, ◌∙◌, ap, subst}
use Rattle.std.specs.Prelude.{codes, cond, eqb, bytes_eq, is_some, nat_le, not, ◌&&◌}
use Rattle.std.proofs.lemmas.Bool.{cond-true, cond-false, eqb-true, le-leb, leb-true}
use Rattle.std.proofs.lemmas.List.{take-append-drop}
use Rattle.std.proofs.lemmas.Slice.Eq.{bytes_eq-Decides}
use Rattle.cf_values.specs.Times.{IsTime, last_unit, rest_value, time_value}
use Rattle.cf_values.specs.declared.bad.Bad.{Bad}
use Rattle.cf_values.proofs.ComputedLemmas.{time_computed}
use Rattle.command_line.specs.declared.mode.Job.{Job}
use Rattle.command_line.specs.declared.mode.Job.TheVariants.{Test, Session, Daemon, Run, List as Listing}
use Rattle.mail_submit.specs.declared.words.SubmitWords.{SubmitWords}
use Rattle.command_line.specs.declared.saying.Saying.{Saying}
use Rattle.command_line.specs.inner.Words.{named, group_said, group_job, job_said, capped, seconds_said, wait_said, with_dashed, with_file, with_headers, with_it, with_lone, with_mail, with_new, with_no_dot, with_plain, with_sender, with_wait}
use Rattle.command_line.specs.MailWords.{MailWord, Gathers, Ignores, IgnoresToo, Sends, Names, is_dashed, is_one_line, is_sender, mail_spelling}
use Rattle.command_line.specs.CommandLines.{ModeWord, Tests, Serves, Listens, Prints, Runs, RunsGroup, IsWait, word_of, job_of}

-- ---- the words of modes

abbrev some_job : Job → Option Job
some_job job = Some job

abbrev some_name : List ℕ → Option (List ℕ)
some_name name = Some name

pub word_says : (mode : ModeWord) → job_said (word_of mode) ≡ Some (job_of mode)
word_says Tests = refl
word_says Serves = refl
word_says Listens = refl
word_says Prints = refl
word_says Runs = refl
word_says (RunsGroup first others) = refl

same_some : (a b : Job) → some_job a ≡ some_job b → a ≡ b
same_some a b e = cc e

same_name : (a b : List ℕ) → some_name a ≡ some_name b → a ≡ b
same_name a b e = cc e

-- a word says this job as a mode
pub record IsModeWord (word : List ℕ) (job : Job) : Type 0 where
  pub mode : ModeWord
  pub written : word ≡ word_of mode
  pub said : job ≡ job_of mode

front_is : (word front : List ℕ) (n : ℕ) → bytes_eq (take n word) front ≡ true → word ≡ front ++ drop n word
front_is word front n e = sym (take-append-drop n word) ∙ ap (λ (f : List ℕ). f ++ drop n word) ((bytes_eq-Decides (take n word) front).0 e)

group_by : (word rest name : List ℕ) (job : Job) → word ≡ codes "-qG" ++ rest → named rest ≡ Some name → some_job (Run (Some name)) ≡ Some job → IsModeWord word job
group_by word [] name job is n e = absurd (cc n)
group_by word (first ∷ others) name job is n e = record {
  mode = RunsGroup first others;
  written = is;
  said = sym (same_some (Run (Some name)) job e) ∙ ap (λ (o : List ℕ). Run (Some o)) (sym (same_name (first ∷ others) name n));
}

group_word : (word name : List ℕ) (job : Job) (test : Bool) → bytes_eq (take 3 word) (codes "-qG") ≡ test → cond test (named (drop 3 word)) None ≡ Some name → some_job (Run (Some name)) ≡ Some job → IsModeWord word job
group_word word name job true t g e = group_by word (drop 3 word) name job (front_is word (codes "-qG") 3 t) g e
group_word word name job false t g e = absurd (cc g)

group_says : (word : List ℕ) (job : Job) (group : Option (List ℕ)) → group_said word ≡ group → group_job group ≡ Some job → IsModeWord word job
group_says word job None g e = absurd (cc e)
group_says word job (Some name) g e = group_word word name job (bytes_eq (take 3 word) (codes "-qG")) refl g e

is_mode : (word : List ℕ) (mode : ModeWord) (job : Job) → bytes_eq word (word_of mode) ≡ true → some_job (job_of mode) ≡ Some job → IsModeWord word job
is_mode word mode job t e = record { mode = mode; written = (bytes_eq-Decides word (word_of mode)).0 t; said = sym (same_some (job_of mode) job e) }

says_of : (word : List ℕ) (job : Job) (tests serves listens prints runs : Bool) → bytes_eq word (word_of Tests) ≡ tests → bytes_eq word (word_of Serves) ≡ serves → bytes_eq word (word_of Listens) ≡ listens
    → bytes_eq word (word_of Prints) ≡ prints → bytes_eq word (word_of Runs) ≡ runs
    → cond tests (some_job Test) (cond serves (some_job Session) (cond listens (some_job (Daemon None)) (cond prints (some_job Listing) (cond runs (some_job (Run None)) (group_job (group_said word)))))) ≡ some_job job
    → IsModeWord word job
says_of word job true serves listens prints runs t s d p q e = is_mode word Tests job t e
says_of word job false true listens prints runs t s d p q e = is_mode word Serves job s e
says_of word job false false true prints runs t s d p q e = is_mode word Listens job d e
says_of word job false false false true runs t s d p q e = is_mode word Prints job p e
says_of word job false false false false true t s d p q e = is_mode word Runs job q e
says_of word job false false false false false t s d p q e = group_says word job (group_said word) refl e

-- a word that says a mode is the mode's
said_word : (word : List ℕ) (job : Job) → job_said word ≡ Some job → IsModeWord word job
said_word word job e = says_of word job (bytes_eq word (word_of Tests)) (bytes_eq word (word_of Serves)) (bytes_eq word (word_of Listens)) (bytes_eq word (word_of Prints)) (bytes_eq word (word_of Runs)) refl refl refl refl refl e

-- ---- the words of times

abbrev some_time : ℕ → Option ℕ
some_time seconds = Some seconds

same_time : (a b : ℕ) → some_time a ≡ some_time b → a ≡ b
same_time a b e = cc e

-- a time doesn't begin as the name of a group
no_name : (rest : List ℕ) (seconds : ℕ) → time_value 109 (71 ∷ rest) ≡ Some seconds → ⊥
unfolding rest_value
no_name rest seconds e = cc e

group_tested : (first : ℕ) (others : List ℕ) (seconds : ℕ) (test : Bool) → eqb first 71 ≡ test → time_value 109 (first ∷ others) ≡ Some seconds → cond (test && true) (named others) None ≡ None
group_tested first others seconds true t e = absurd (no_name others seconds (ap (λ (b : ℕ). time_value 109 (b ∷ others)) (sym (eqb-true first 71 t)) ∙ e))
group_tested first others seconds false t e = refl

pub time_no_mode : (time : List ℕ) (seconds : ℕ) → IsWait time seconds → job_said (codes "-q" ++ time) ≡ None
time_no_mode [] seconds is = absurd (is.0.some refl)
time_no_mode (first ∷ others) seconds is = ap group_job (group_tested first others seconds (eqb first 71) refl ((time_computed 109 (first ∷ others) seconds).1 is.0))

capped_within : (o : Option ℕ) (seconds : ℕ) → o ≡ Some seconds → seconds ≤ 2 ^ 60 → capped o ≡ Some seconds
capped_within o seconds e le = ap capped e ∙ cond-true (nat_le seconds (2 ^ 60)) (Some seconds) None (le-leb seconds (2 ^ 60) le)

capped_test : (n seconds : ℕ) (test : Bool) → nat_le n (2 ^ 60) ≡ test → cond test (Some n) None ≡ some_time seconds → (n ≡ seconds) × (n ≤ 2 ^ 60)
capped_test n seconds true t e = (same_time n seconds e, leb-true n (2 ^ 60) t)
capped_test n seconds false t e = absurd (cc e)

capped_is : (o : Option ℕ) (seconds : ℕ) → capped o ≡ Some seconds → (o ≡ Some seconds) × (seconds ≤ 2 ^ 60)
capped_is None seconds e = absurd (cc e)
capped_is (Some n) seconds e = let is = capped_test n seconds (nat_le n (2 ^ 60)) refl e in (ap some_time is.0, subst (λ (m : ℕ). m ≤ 2 ^ 60) is.0 is.1)

pub wait_read : (time : List ℕ) (seconds : ℕ) → IsWait time seconds → wait_said (codes "-q" ++ time) ≡ Some seconds
wait_read time seconds is = capped_within (time_value 109 time) seconds ((time_computed 109 time seconds).1 is.0) is.1

pub wait_is : (time : List ℕ) (seconds : ℕ) → capped (time_value 109 time) ≡ Some seconds → IsWait time seconds
wait_is time seconds e = let is = capped_is (time_value 109 time) seconds e in ((time_computed 109 time seconds).0 is.0, is.1)

absent : (o : Option ℕ) → ((seconds : ℕ) → o ≡ Some seconds → ⊥) → None ≡ o
absent None never = refl
absent (Some seconds) never = absurd (never seconds refl)

-- no result is both
never_both : (result : Result ℕ Bad) (seconds : ℕ) (bad : Bad) → result ≡ Err bad → result ≡ Ok seconds → ⊥
never_both result seconds bad e f = cc

pub time_taken : (text : List ℕ) (seconds : ℕ) → IsTime (last_unit 109) text seconds → seconds ≤ 2 ^ 60 → Some seconds ≡ seconds_said text
time_taken text seconds is le = sym (capped_within (time_value 109 text) seconds ((time_computed 109 text seconds).1 is) le)

pub time_refused : (text : List ℕ) (result : Result ℕ Bad) (bad : Bad) → result ≡ Err bad → ((seconds : ℕ) → IsTime (last_unit 109) text seconds → seconds ≤ 2 ^ 60 → result ≡ Ok seconds) → None ≡ seconds_said text
time_refused text result bad e value = absent (seconds_said text) (λ seconds is. let wait = wait_is text seconds is in never_both result seconds bad e (value seconds wait.0 wait.1))

-- ---- the words of mail

abbrev no_saying : Option Saying
no_saying = None

abbrev no_submit : Option SubmitWords
no_submit = None

cond_same : {A : Type 0} (b : Bool) (x : A) → cond b x x ≡ x
cond_same true x = refl
cond_same false x = refl

-- no text of a `-f`
no_sender : (mail : SubmitWords) (text : List ℕ) → is_sender text ≡ false → with_sender mail text ≡ no_submit
no_sender mail text e = ap (λ (o : Option SubmitWords). cond (is_some mail.sender) None o) (cond-false (is_sender text) _ _ e) ∙ cond_same (is_some mail.sender) no_submit

-- no word of mail
no_mail_by : (mail : SubmitWords) (word : List ℕ) (rest : Option SubmitWords) → bytes_eq word (codes "-t") ≡ false → bytes_eq word (codes "-i") ≡ false → bytes_eq word (codes "-oi") ≡ false
    → cond (bytes_eq (take 2 word) (codes "-f")) (with_sender mail (drop 2 word)) None ≡ rest → with_mail mail word ≡ rest
no_mail_by mail word rest t i o e =
    cond-false (bytes_eq word (codes "-t")) (with_headers mail) _ t
    ∙ cond-false (bytes_eq word (codes "-i")) (with_no_dot mail) _ i
    ∙ cond-false (bytes_eq word (codes "-oi")) (with_no_dot mail) _ o
    ∙ e

-- a word that begins with `-` and is none of a mode, of a file, of a time and of mail
no_option : (said : Saying) (word : List ℕ) (place : ℕ) → is_dashed word ≡ true → job_said word ≡ None → bytes_eq (take 2 word) (codes "-C") ≡ false → wait_said word ≡ None
    → bytes_eq word (codes "-f") ≡ false → with_mail said.mail word ≡ None → with_new said word place ≡ no_saying
no_option said word place d m f w l e =
    cond-true (is_dashed word) (with_dashed said word place) (with_plain said word) d
    ∙ cond-false (is_some (job_said word)) _ _ (ap is_some m)
    ∙ cond-false (bytes_eq (take 2 word) (codes "-C")) (with_file said (drop 2 word)) _ f
    ∙ ap (λ (o : Option ℕ). with_wait said word o place) w
    ∙ ap (λ (o : Option Saying). cond (is_some said.job) None o)
    (cond-false (bytes_eq word (codes "-f")) (with_lone said) _ l ∙ ap (with_it said) e)
    ∙ cond_same (is_some said.job) no_saying

-- a word that doesn't begin so, and isn't one line
no_address : (said : Saying) (word : List ℕ) (place : ℕ) → is_dashed word ≡ false → is_one_line word ≡ false → with_new said word place ≡ no_saying
no_address said word place d o =
    cond-false (is_dashed word) (with_dashed said word place) (with_plain said word) d
    ∙ ap (λ (mail : Option SubmitWords). cond (is_some said.job) None (with_it said mail)) (cond-false (is_one_line word) _ _ o)
    ∙ cond_same (is_some said.job) no_saying

address_by : (dashed line : Bool) → dashed ≡ false → line ≡ true → (not dashed && line) ≡ true
address_by false true d o = refl
address_by false false d o = o
address_by true line d o = absurd (cc d)

-- ---- the forms of a word

pub data View (word : List ℕ) : Type 0 where
  IsMode : (mode : ModeWord) → word ≡ word_of mode → View word
  IsLone : word ≡ codes "-C" → View word
  IsJoined : (first : ℕ) (others : List ℕ) → word ≡ codes "-C" ++ first ∷ others → View word
  IsTimed : (time : List ℕ) (seconds : ℕ) (is : IsWait time seconds) → word ≡ codes "-q" ++ time → View word
  IsLoneSender : word ≡ codes "-f" → View word
  IsMail : (option : MailWord) → mail_spelling option ≡ word ∷ [] → View word
  IsOther : ((said : Saying) (place : ℕ) → with_new said word place ≡ None) → View word

view_mode : (word : List ℕ) (job : Job) → IsModeWord word job → View word
view_mode word job is = IsMode is.mode is.written

view_file : (word rest : List ℕ) → word ≡ codes "-C" ++ rest → View word
view_file word [] e = IsLone e
view_file word (first ∷ others) e = IsJoined first others e

view_time : (word : List ℕ) (seconds : ℕ) (test : Bool) → bytes_eq (take 2 word) (codes "-q") ≡ test → cond test (capped (time_value 109 (drop 2 word))) None ≡ Some seconds → View word
view_time word seconds true t e = IsTimed (drop 2 word) seconds (wait_is (drop 2 word) seconds e) (front_is word (codes "-q") 2 t)
view_time word seconds false t e = absurd (cc e)

alone : (word written : List ℕ) → bytes_eq word written ≡ true → written ∷ [] ≡ word ∷ []
alone word written t = ap (λ (w : List ℕ). w ∷ []) (sym ((bytes_eq-Decides word written).0 t))

view_text : (word : List ℕ) (sender : Bool) → is_dashed word ≡ true → job_said word ≡ None → bytes_eq (take 2 word) (codes "-C") ≡ false → wait_said word ≡ None → bytes_eq word (codes "-f") ≡ false
    → bytes_eq word (codes "-t") ≡ false → bytes_eq word (codes "-i") ≡ false → bytes_eq word (codes "-oi") ≡ false → bytes_eq (take 2 word) (codes "-f") ≡ true → is_sender (drop 2 word) ≡ sender → View word
view_text word true d m f w l t i o s e = IsMail (Sends (drop 2 word) e) (ap (λ (x : List ℕ). x ∷ []) (sym (front_is word (codes "-f") 2 s)))
view_text word false d m f w l t i o s e = IsOther (λ said place. no_option said word place d m f w l (no_mail_by said.mail word None t i o (cond-true (bytes_eq (take 2 word) (codes "-f")) _ _ s ∙ no_sender said.mail (drop 2 word) e)))

view_option : (word : List ℕ) (headers dots also sends : Bool) → is_dashed word ≡ true → job_said word ≡ None → bytes_eq (take 2 word) (codes "-C") ≡ false → wait_said word ≡ None → bytes_eq word (codes "-f") ≡ false
    → bytes_eq word (codes "-t") ≡ headers → bytes_eq word (codes "-i") ≡ dots → bytes_eq word (codes "-oi") ≡ also → bytes_eq (take 2 word) (codes "-f") ≡ sends → View word
view_option word true dots also sends d m f w l t i o s = IsMail Gathers (alone word (codes "-t") t)
view_option word false true also sends d m f w l t i o s = IsMail Ignores (alone word (codes "-i") i)
view_option word false false true sends d m f w l t i o s = IsMail IgnoresToo (alone word (codes "-oi") o)
view_option word false false false true d m f w l t i o s = view_text word (is_sender (drop 2 word)) d m f w l t i o s refl
view_option word false false false false d m f w l t i o s =
    IsOther (λ said place. no_option said word place d m f w l (no_mail_by said.mail word None t i o (cond-false (bytes_eq (take 2 word) (codes "-f")) _ _ s)))

view_sender : (word : List ℕ) (lone : Bool) → is_dashed word ≡ true → job_said word ≡ None → bytes_eq (take 2 word) (codes "-C") ≡ false → wait_said word ≡ None → bytes_eq word (codes "-f") ≡ lone → View word
view_sender word true d m f w l = IsLoneSender ((bytes_eq-Decides word (codes "-f")).0 l)
view_sender word false d m f w l =
    view_option word (bytes_eq word (codes "-t")) (bytes_eq word (codes "-i")) (bytes_eq word (codes "-oi")) (bytes_eq (take 2 word) (codes "-f")) d m f w l refl refl refl refl

view_dashed : (word : List ℕ) (mode : Option Job) (file : Bool) (wait : Option ℕ) → is_dashed word ≡ true → job_said word ≡ mode → bytes_eq (take 2 word) (codes "-C") ≡ file → wait_said word ≡ wait → View word
view_dashed word (Some job) file wait d m f w = view_mode word job (said_word word job m)
view_dashed word None true wait d m f w = view_file word (drop 2 word) (front_is word (codes "-C") 2 f)
view_dashed word None false (Some seconds) d m f w = view_time word seconds (bytes_eq (take 2 word) (codes "-q")) refl w
view_dashed word None false None d m f w = view_sender word (bytes_eq word (codes "-f")) d m f w refl

view_plain : (word : List ℕ) (line : Bool) → is_dashed word ≡ false → is_one_line word ≡ line → View word
view_plain word true d o = IsMail (Names word (address_by (is_dashed word) (is_one_line word) d o)) refl
view_plain word false d o = IsOther (λ said place. no_address said word place d o)

view_of : (word : List ℕ) (dashed : Bool) → is_dashed word ≡ dashed → View word
view_of word true d = view_dashed word (job_said word) (bytes_eq (take 2 word) (codes "-C")) (wait_said word) d refl refl refl
view_of word false d = view_plain word (is_one_line word) d refl

pub view : (word : List ℕ) → View word
view word = view_of word (is_dashed word) refl
