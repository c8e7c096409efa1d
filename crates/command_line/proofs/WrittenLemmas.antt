-- What is read word by word is written in options.
use Rattle.std.proofs.Common.{◌≡◌, ℕ, ◌+◌, ◌-◌, List, [], ◌∷◌, ◌++◌, Bool, true, false, Option, Some, None, Ok, Err, refl, sym, ◌∙◌, ap, subst, inl, inr}
use Rattle.std.specs.Prelude.{◌⊎◌, ◌&&◌, ◌||◌, not, codes, cond, option_to_list}
use Rattle.std.specs.Option.{is_some}
use Rattle.std.specs.List.{flat_map}
use Rattle.std.proofs.lemmas.Bool.{cond-true, cond-false}
use Rattle.std.proofs.lemmas.List.{append-nil, append_assoc}
use Rattle.mail_submit.specs.declared.words.SubmitWords.{SubmitWords}
use Rattle.command_line.specs.declared.mode.Job.{Job}
use Rattle.command_line.specs.declared.saying.Awaited.{Awaited}
use Rattle.command_line.specs.declared.saying.Awaited.TheVariants.{File, Sender}
use Rattle.command_line.specs.declared.saying.Saying.{Saying}
use Rattle.command_line.specs.declared.saying.Wait.{Wait}
use Rattle.command_line.specs.inner.Words.{is_mail, job_said, or_refused, read_options, with_dashed, with_it, with_new, with_plain, with_wait}
use Rattle.command_line.specs.MailWords.{MailWord, Gathers, Ignores, IgnoresToo, Sends, SendsApart, Names, addresses_in, is_address, is_dashed, is_one_line, is_sender, mail_spelling}
use Rattle.command_line.specs.CommandLines.{Flag, Does, Every, Joined, Apart, Hands, ModeWord, Tests, Serves, Listens, Prints, Runs, RunsGroup, IsWait, word_of, job_of, spelling, jobs_in, waits_in, files_in, mail_in}
use Rattle.command_line.proofs.MailLemmas.{AddsUp, adds_none, handed}
use Rattle.command_line.proofs.ReadLemmas.{read_never, refuses, said, same_read, stuck, takes, turns}
use Rattle.command_line.proofs.WordLemmas.{View, IsMode, IsLone, IsJoined, IsTimed, IsLoneSender, IsMail, IsOther, view, word_says, time_no_mode, wait_read}
use Rattle.command_line.proofs.WaitLemmas.{times, waiting_for}

-- ---- what a word of each form adds to what was said

mode_dashed : (mode : ModeWord) → is_dashed (word_of mode) ≡ true
mode_dashed Tests = refl
mode_dashed Serves = refl
mode_dashed Listens = refl
mode_dashed Prints = refl
mode_dashed Runs = refl
mode_dashed (RunsGroup first others) = refl

pub mode_with : (mode : ModeWord) (job : Option Job) (file : Option (List ℕ)) (wait : Option Wait) (mail : SubmitWords) (place : ℕ)
    → with_new (said job file wait mail None) (word_of mode) place ≡ cond (is_some job || is_mail mail) None (Some (said (Some (job_of mode)) file wait mail None))
mode_with mode job file wait mail place =
    cond-true (is_dashed (word_of mode)) (with_dashed (said job file wait mail None) (word_of mode) place) (with_plain (said job file wait mail None) (word_of mode)) (mode_dashed mode)
    ∙ cond-true (is_some (job_said (word_of mode))) _ _ (ap is_some (word_says mode))
    ∙ ap (λ (o : Option Job). cond (is_some job || is_mail mail) None (Some (said o file wait mail None))) (word_says mode)

pub timed_with : (time : List ℕ) (seconds : ℕ) (is : IsWait time seconds) (job : Option Job) (file : Option (List ℕ)) (wait : Option Wait) (mail : SubmitWords) (place : ℕ)
    → with_new (said job file wait mail None) (codes "-q" ++ time) place ≡ cond (is_some wait) None (Some (said job file (Some (waiting_for seconds place)) mail None))
timed_with time seconds is job file wait mail place =
    cond-false (is_some (job_said (codes "-q" ++ time))) _ _ (ap is_some (time_no_mode time seconds is))
    ∙ ap (λ (o : Option ℕ). with_wait (said job file wait mail None) (codes "-q" ++ time) o place) (wait_read time seconds is)

pub sends_with : (text : List ℕ) (is : is_sender text ≡ true) (file : Option (List ℕ)) (wait : Option Wait) (headers dot : Bool) (addresses : List (List ℕ)) (place : ℕ)
    → with_new (said None file wait (handed headers dot None addresses) None) (codes "-f" ++ text) place ≡ Some (said None file wait (handed headers dot (Some text) addresses) None)
sends_with [] is file wait headers dot addresses place = absurd (cc is)
sends_with (first ∷ others) is file wait headers dot addresses place = ap (with_it (said None file wait (handed headers dot None addresses) None)) (cond-true (is_sender (first ∷ others)) _ _ is)

sends_twice : (text : List ℕ) (is : is_sender text ≡ true) (file : Option (List ℕ)) (wait : Option Wait) (headers dot : Bool) (other : List ℕ) (addresses : List (List ℕ)) (place : ℕ)
    → with_new (said None file wait (handed headers dot (Some other) addresses) None) (codes "-f" ++ text) place ≡ None
sends_twice [] is file wait headers dot other addresses place = absurd (cc is)
sends_twice (first ∷ others) is file wait headers dot other addresses place = refl

address_parts : (dashed line : Bool) → (not dashed && line) ≡ true → (dashed ≡ false) × (line ≡ true)
address_parts false true e = (refl, refl)
address_parts false false e = absurd (cc e)
address_parts true line e = absurd (cc e)

plain_with : (address : List ℕ) (is : is_address address ≡ true) (said : Saying) (place : ℕ) → with_new said address place ≡ with_plain said address
plain_with address is said place = cond-false (is_dashed address) (with_dashed said address place) (with_plain said address) (address_parts (is_dashed address) (is_one_line address) is).0

pub names_with : (address : List ℕ) (is : is_address address ≡ true) (file : Option (List ℕ)) (wait : Option Wait) (headers dot : Bool) (sender : Option (List ℕ)) (addresses : List (List ℕ)) (place : ℕ)
    → with_new (said None file wait (handed headers dot sender addresses) None) address place ≡ Some (said None file wait (handed headers dot sender (addresses ++ address ∷ [])) None)
names_with address is file wait headers dot sender addresses place =
    plain_with address is (said None file wait (handed headers dot sender addresses) None) place
    ∙ ap (with_it (said None file wait (handed headers dot sender addresses) None)) (cond-true (is_one_line address) _ _ (address_parts (is_dashed address) (is_one_line address) is).1)

-- a word that a `-f` awaits
pub text_with : (text : List ℕ) (job : Option Job) (file : Option (List ℕ)) (wait : Option Wait) (mail : SubmitWords) (start : ℕ) (words : List (List ℕ)) → is_sender text ≡ true
    → read_options (said job file wait mail (Some Sender)) start (text ∷ words) ≡ read_options (said job file wait (record mail { sender = Some text }) None) (start + 1) words
text_with text job file wait mail start words is =
    turns (said job file wait mail (Some Sender)) (said job file wait (record mail { sender = Some text }) None) start text words
    (ap (λ (o : Option SubmitWords). or_refused (with_it (said job file wait mail None) o) (start - 1)) (cond-true (is_sender text) _ _ is))

pub text_refused : (text : List ℕ) (job : Option Job) (file : Option (List ℕ)) (wait : Option Wait) (mail : SubmitWords) (start : ℕ) (words : List (List ℕ)) → is_sender text ≡ false
    → read_options (said job file wait mail (Some Sender)) start (text ∷ words) ≡ Err (start - 1)
text_refused text job file wait mail start words is =
    stuck (said job file wait mail (Some Sender)) start (start - 1) text words
    (ap (λ (o : Option SubmitWords). or_refused (with_it (said job file wait mail None) o) (start - 1)) (cond-false (is_sender text) _ _ is))

-- ---- what is read is written in options

-- a `-C` at the end, which awaits its file, or a `-f`, which awaits its text
abbrev pub waiting : Option Awaited → List (List ℕ)
waiting None = []
waiting (Some File) = codes "-C" ∷ []
waiting (Some Sender) = codes "-f" ∷ []

-- a mode, and something that is said of mail
abbrev pub clash : Option Job → SubmitWords → Bool
clash job mail = is_some job && is_mail mail

pub record Written (job : Option Job) (file : Option (List ℕ)) (wait : Option Wait) (mail : SubmitWords) (words : List (List ℕ)) (last : Saying) : Type 0 where
  pub flags : List Flag
  pub written : words ≡ flat_map spelling flags ++ waiting last.awaits
  pub jobs : option_to_list job ++ flat_map jobs_in flags ≡ option_to_list last.job
  pub waits : times wait ++ flat_map waits_in flags ≡ times last.wait
  pub files : option_to_list file ++ flat_map files_in flags ≡ option_to_list last.file
  pub adds : AddsUp mail (flat_map mail_in flags) last.mail
  pub clear : clash job mail ≡ false → clash last.job last.mail ≡ false
  pub unnamed : last.awaits ≡ Some File → last.file ≡ None
  pub unsent : last.awaits ≡ Some Sender → (last.job ≡ None) × (last.mail.sender ≡ None)

abbrev SaysAfter : Option Awaited → Option Job → Option (List ℕ) → Option Wait → SubmitWords → List (List ℕ) → Saying → Type 0
SaysAfter (Some File) job file wait mail words last =
    ((words ≡ []) × (said job file wait mail (Some File) ≡ last)) ⊎ ((name : List ℕ) × (later : List (List ℕ)) × (words ≡ name ∷ later) × Written job (Some name) wait mail later last)
SaysAfter (Some Sender) job file wait mail words last =
    ((words ≡ []) × (said job file wait mail (Some Sender) ≡ last))
    ⊎ ((text : List ℕ) × (later : List (List ℕ)) × (is_sender text ≡ true) × (words ≡ text ∷ later) × Written job file wait (record mail { sender = Some text }) later last)
SaysAfter None job file wait mail words last = Written job file wait mail words last

abbrev Reads : List (List ℕ) → Option Job → Option (List ℕ) → Option Wait → SubmitWords → Option Awaited → ℕ → Saying → Type 0
Reads words job file wait mail awaits start last = read_options (said job file wait mail awaits) start words ≡ Ok last → SaysAfter awaits job file wait mail words last

listed_alone : {A : Type 0} (o other : Option A) → o ≡ other → option_to_list o ++ [] ≡ option_to_list other
listed_alone o other same = append-nil (option_to_list o) ∙ ap option_to_list same

times_alone : (wait other : Option Wait) → wait ≡ other → times wait ++ [] ≡ times other
times_alone wait other same = append-nil (times wait) ∙ ap times same

not_file : Some Sender ≡ Some File → ⊥
not_file e = cc e

not_sender : Some File ≡ Some Sender → ⊥
not_sender e = cc e

-- the last word is read, and this is said
closed : (job : Option Job) (file : Option (List ℕ)) (wait : Option Wait) (mail : SubmitWords) (awaits : Option Awaited) (last : Saying) → said job file wait mail awaits ≡ last
    → (awaits ≡ Some File → file ≡ None) → (awaits ≡ Some Sender → (job ≡ None) × (mail.sender ≡ None)) → Written job file wait mail (waiting awaits) last
closed job file wait mail awaits last same unnamed unsent =
    subst (λ (s : Saying). Written job file wait mail (waiting awaits) s) same (record {
      flags = [];
      written = refl;
      jobs = append-nil (option_to_list job);
      waits = append-nil (times wait);
      files = append-nil (option_to_list file);
      adds = adds_none mail;
      clear = λ c. c;
      unnamed = unnamed;
      unsent = unsent;
    })

abbrev nothing_awaited : Option Awaited
nothing_awaited = None

never_awaits : (awaited : Awaited) → nothing_awaited ≡ Some awaited → ⊥
never_awaits awaited e = absurd (cc e)

ended : (job : Option Job) (file : Option (List ℕ)) (wait : Option Wait) (mail : SubmitWords) (awaits : Option Awaited) (start : ℕ) (last : Saying) → Reads [] job file wait mail awaits start last
ended job file wait mail (Some File) start last e = inl (refl, same_read (said job file wait mail (Some File)) last e)
ended job file wait mail (Some Sender) start last e = inl (refl, same_read (said job file wait mail (Some Sender)) last e)
ended job file wait mail None start last e = closed job file wait mail None last (same_read (said job file wait mail None) last e) (λ w. absurd (never_awaits File w)) (λ w. absurd (never_awaits Sender w))

abbrev Each : List (List ℕ) → ℕ → Saying → Type 0
Each words start last = (job : Option Job) (file : Option (List ℕ)) (wait : Option Wait) (mail : SubmitWords) (awaits : Option Awaited) → Reads words job file wait mail awaits start last

first_mode : (words : List (List ℕ)) (mode : ModeWord) (job : Option Job) (file : Option (List ℕ)) (wait : Option Wait) (mail : SubmitWords) (start : ℕ) (last : Saying) → Each words (start + 1) last
    → (noted : Bool) → is_mail mail ≡ noted → Reads (word_of mode ∷ words) job file wait mail None start last
first_mode words mode None file wait mail start last rec false n e =
    let is = rec (Some (job_of mode)) file wait mail None (sym (takes None file wait mail _ start (word_of mode) words (mode_with mode None file wait mail start ∙ cond-false (is_mail mail) None _ n)) ∙ e) in
    record {
      flags = Does mode ∷ is.flags;
      written = ap (λ (w : List (List ℕ)). word_of mode ∷ w) is.written;
      jobs = is.jobs;
      waits = is.waits;
      files = is.files;
      adds = is.adds;
      clear = λ c. is.clear n;
      unnamed = is.unnamed;
      unsent = is.unsent;
    }
first_mode words mode None file wait mail start last rec true n e =
    absurd (read_never last start (sym e ∙ refuses None file wait mail start (word_of mode) words (mode_with mode None file wait mail start ∙ cond-true (is_mail mail) None _ n)))
first_mode words mode (Some job) file wait mail start last rec noted n e = absurd (read_never last start (sym e ∙ refuses (Some job) file wait mail start (word_of mode) words (mode_with mode (Some job) file wait mail start)))

first_time : (words : List (List ℕ)) (time : List ℕ) (seconds : ℕ) (is : IsWait time seconds) (job : Option Job) (file : Option (List ℕ)) (wait : Option Wait) (mail : SubmitWords) (start : ℕ) (last : Saying) → Each words (start + 1) last
    → Reads ((codes "-q" ++ time) ∷ words) job file wait mail None start last
first_time words time seconds timed job file None mail start last rec e =
    let is = rec job file (Some (waiting_for seconds start)) mail None (sym (takes job file None mail _ start (codes "-q" ++ time) words (timed_with time seconds timed job file None mail start)) ∙ e) in
    record {
      flags = Every time seconds timed ∷ is.flags;
      written = ap (λ (w : List (List ℕ)). (codes "-q" ++ time) ∷ w) is.written;
      jobs = is.jobs;
      waits = is.waits;
      files = is.files;
      adds = is.adds;
      clear = is.clear;
      unnamed = is.unnamed;
      unsent = is.unsent;
    }
first_time words time seconds timed job file (Some wait) mail start last rec e =
    absurd (read_never last start (sym e ∙ refuses job file (Some wait) mail start (codes "-q" ++ time) words (timed_with time seconds timed job file (Some wait) mail start)))

lone_says : (words : List (List ℕ)) (job : Option Job) (wait : Option Wait) (mail : SubmitWords) (last : Saying) → SaysAfter (Some File) job None wait mail words last → Written job None wait mail (codes "-C" ∷ words) last
lone_says words job wait mail last (inl ends) =
    subst (λ (w : List (List ℕ)). Written job None wait mail (codes "-C" ∷ w) last) (sym ends.0) (closed job None wait mail (Some File) last ends.1 (λ w. refl) (λ w. absurd (not_sender w)))
lone_says words job wait mail last (inr is) = record {
  flags = Apart is.0 ∷ is.3.flags;
  written = ap (λ (w : List (List ℕ)). codes "-C" ∷ w) (is.2 ∙ ap (λ (w : List (List ℕ)). is.0 ∷ w) is.3.written);
  jobs = is.3.jobs;
  waits = is.3.waits;
  files = is.3.files;
  adds = is.3.adds;
  clear = is.3.clear;
  unnamed = is.3.unnamed;
  unsent = is.3.unsent;
}

first_lone : (words : List (List ℕ)) (job : Option Job) (file : Option (List ℕ)) (wait : Option Wait) (mail : SubmitWords) (start : ℕ) (last : Saying) → Each words (start + 1) last
    → Reads (codes "-C" ∷ words) job file wait mail None start last
first_lone words job None wait mail start last rec e = lone_says words job wait mail last (rec job None wait mail (Some File) e)
first_lone words job (Some file) wait mail start last rec e = absurd (read_never last start (sym e))

first_joined : (words : List (List ℕ)) (first : ℕ) (others : List ℕ) (job : Option Job) (file : Option (List ℕ)) (wait : Option Wait) (mail : SubmitWords) (start : ℕ) (last : Saying) → Each words (start + 1) last
    → Reads ((codes "-C" ++ first ∷ others) ∷ words) job file wait mail None start last
first_joined words first others job None wait mail start last rec e =
    let is = rec job (Some (first ∷ others)) wait mail None e in
    record {
      flags = Joined first others ∷ is.flags;
      written = ap (λ (w : List (List ℕ)). (codes "-C" ++ first ∷ others) ∷ w) is.written;
      jobs = is.jobs;
      waits = is.waits;
      files = is.files;
      adds = is.adds;
      clear = is.clear;
      unnamed = is.unnamed;
      unsent = is.unsent;
    }
first_joined words first others job (Some file) wait mail start last rec e = absurd (read_never last start (sym e))

sender_says : (words : List (List ℕ)) (file : Option (List ℕ)) (wait : Option Wait) (headers dot : Bool) (addresses : List (List ℕ)) (last : Saying) → SaysAfter (Some Sender) None file wait (handed headers dot None addresses) words last
    → Written None file wait (handed headers dot None addresses) (codes "-f" ∷ words) last
sender_says words file wait headers dot addresses last (inl ends) =
    subst (λ (w : List (List ℕ)). Written None file wait (handed headers dot None addresses) (codes "-f" ∷ w) last) (sym ends.0)
    (closed None file wait (handed headers dot None addresses) (Some Sender) last ends.1 (λ w. absurd (not_file w)) (λ w. (refl, refl)))
sender_says words file wait headers dot addresses last (inr is) = record {
  flags = Hands (SendsApart is.0 is.2) ∷ is.4.flags;
  written = ap (λ (w : List (List ℕ)). codes "-f" ∷ w) (is.3 ∙ ap (λ (w : List (List ℕ)). is.0 ∷ w) is.4.written);
  jobs = is.4.jobs;
  waits = is.4.waits;
  files = is.4.files;
  adds = record { headers = is.4.adds.headers; dot = is.4.adds.dot; sender = is.4.adds.sender; addresses = is.4.adds.addresses };
  clear = λ c. is.4.clear refl;
  unnamed = is.4.unnamed;
  unsent = is.4.unsent;
}

first_sender : (words : List (List ℕ)) (job : Option Job) (file : Option (List ℕ)) (wait : Option Wait) (headers dot : Bool) (sender : Option (List ℕ)) (addresses : List (List ℕ)) (start : ℕ) (last : Saying) → Each words (start + 1) last
    → Reads (codes "-f" ∷ words) job file wait (handed headers dot sender addresses) None start last
first_sender words None file wait headers dot None addresses start last rec e = sender_says words file wait headers dot addresses last (rec None file wait (handed headers dot None addresses) (Some Sender) e)
first_sender words None file wait headers dot (Some other) addresses start last rec e = absurd (read_never last start (sym e))
first_sender words (Some job) file wait headers dot sender addresses start last rec e = absurd (read_never last start (sym e))

-- an option of mail in one word, which says no more than this
hands_on : (option : MailWord) (word : List ℕ) (words : List (List ℕ)) (file : Option (List ℕ)) (wait : Option Wait) (mail next : SubmitWords) (last : Saying) → mail_spelling option ≡ word ∷ []
    → ((options : List MailWord) (then : SubmitWords) → AddsUp next options then → AddsUp mail (option ∷ options) then) → Written None file wait next words last → Written None file wait mail (word ∷ words) last
hands_on option word words file wait mail next last spelled adds is = record {
  flags = Hands option ∷ is.flags;
  written = ap (λ (w : List (List ℕ)). word ∷ w) is.written ∙ ap (λ (w : List (List ℕ)). w ++ (flat_map spelling is.flags ++ waiting last.awaits)) (sym spelled) ∙ sym (append_assoc (mail_spelling option) (flat_map spelling is.flags) (waiting last.awaits));
  jobs = is.jobs;
  waits = is.waits;
  files = is.files;
  adds = adds (flat_map mail_in is.flags) last.mail is.adds;
  clear = λ c. is.clear refl;
  unnamed = is.unnamed;
  unsent = is.unsent;
}

first_headers : (words : List (List ℕ)) (job : Option Job) (file : Option (List ℕ)) (wait : Option Wait) (headers dot : Bool) (sender : Option (List ℕ)) (addresses : List (List ℕ)) (start : ℕ) (last : Saying) → Each words (start + 1) last
    → Reads (codes "-t" ∷ words) job file wait (handed headers dot sender addresses) None start last
first_headers words None file wait false dot sender addresses start last rec e =
    hands_on Gathers (codes "-t") words file wait (handed false dot sender addresses) (handed true dot sender addresses) last refl
    (λ options then a. record { headers = a.headers; dot = a.dot; sender = a.sender; addresses = a.addresses }) (rec None file wait (handed true dot sender addresses) None e)
first_headers words None file wait true dot sender addresses start last rec e = absurd (read_never last start (sym e))
first_headers words (Some job) file wait headers dot sender addresses start last rec e = absurd (read_never last start (sym e))

first_dot : (words : List (List ℕ)) (job : Option Job) (file : Option (List ℕ)) (wait : Option Wait) (headers dot : Bool) (sender : Option (List ℕ)) (addresses : List (List ℕ)) (start : ℕ) (last : Saying) → Each words (start + 1) last
    → Reads (codes "-i" ∷ words) job file wait (handed headers dot sender addresses) None start last
first_dot words None file wait headers true sender addresses start last rec e =
    hands_on Ignores (codes "-i") words file wait (handed headers true sender addresses) (handed headers false sender addresses) last refl
    (λ options then a. record { headers = a.headers; dot = a.dot; sender = a.sender; addresses = a.addresses }) (rec None file wait (handed headers false sender addresses) None e)
first_dot words None file wait headers false sender addresses start last rec e = absurd (read_never last start (sym e))
first_dot words (Some job) file wait headers dot sender addresses start last rec e = absurd (read_never last start (sym e))

first_dot_too : (words : List (List ℕ)) (job : Option Job) (file : Option (List ℕ)) (wait : Option Wait) (headers dot : Bool) (sender : Option (List ℕ)) (addresses : List (List ℕ)) (start : ℕ) (last : Saying) → Each words (start + 1) last
    → Reads (codes "-oi" ∷ words) job file wait (handed headers dot sender addresses) None start last
first_dot_too words None file wait headers true sender addresses start last rec e =
    hands_on IgnoresToo (codes "-oi") words file wait (handed headers true sender addresses) (handed headers false sender addresses) last refl
    (λ options then a. record { headers = a.headers; dot = a.dot; sender = a.sender; addresses = a.addresses }) (rec None file wait (handed headers false sender addresses) None e)
first_dot_too words None file wait headers false sender addresses start last rec e = absurd (read_never last start (sym e))
first_dot_too words (Some job) file wait headers dot sender addresses start last rec e = absurd (read_never last start (sym e))

first_text : (words : List (List ℕ)) (text : List ℕ) (is : is_sender text ≡ true) (job : Option Job) (file : Option (List ℕ)) (wait : Option Wait) (headers dot : Bool) (sender : Option (List ℕ)) (addresses : List (List ℕ)) (start : ℕ) (last : Saying)
    → Each words (start + 1) last → Reads ((codes "-f" ++ text) ∷ words) job file wait (handed headers dot sender addresses) None start last
first_text words text is None file wait headers dot None addresses start last rec e =
    hands_on (Sends text is) (codes "-f" ++ text) words file wait (handed headers dot None addresses) (handed headers dot (Some text) addresses) last refl
    (λ options then a. record { headers = a.headers; dot = a.dot; sender = a.sender; addresses = a.addresses })
    (rec None file wait (handed headers dot (Some text) addresses) None (sym (takes None file wait (handed headers dot None addresses) _ start (codes "-f" ++ text) words (sends_with text is file wait headers dot addresses start)) ∙ e))
first_text words text is None file wait headers dot (Some other) addresses start last rec e =
    absurd (read_never last start (sym e ∙ refuses None file wait (handed headers dot (Some other) addresses) start (codes "-f" ++ text) words (sends_twice text is file wait headers dot other addresses start)))
first_text words text is (Some job) file wait headers dot sender addresses start last rec e = absurd (read_never last start (sym e))

first_address : (words : List (List ℕ)) (address : List ℕ) (is : is_address address ≡ true) (job : Option Job) (file : Option (List ℕ)) (wait : Option Wait) (headers dot : Bool) (sender : Option (List ℕ)) (addresses : List (List ℕ)) (start : ℕ)
    (last : Saying) → Each words (start + 1) last → Reads (address ∷ words) job file wait (handed headers dot sender addresses) None start last
first_address words address is None file wait headers dot sender addresses start last rec e =
    hands_on (Names address is) address words file wait (handed headers dot sender addresses) (handed headers dot sender (addresses ++ address ∷ [])) last refl
    (λ options then a. record { headers = a.headers; dot = a.dot; sender = a.sender; addresses = sym (append_assoc addresses (address ∷ []) (flat_map addresses_in options)) ∙ a.addresses })
    (rec None file wait (handed headers dot sender (addresses ++ address ∷ [])) None (sym (takes None file wait (handed headers dot sender addresses) _ start address words (names_with address is file wait headers dot sender addresses start)) ∙ e))
first_address words address is (Some job) file wait headers dot sender addresses start last rec e =
    absurd (read_never last start (sym e ∙ refuses (Some job) file wait (handed headers dot sender addresses) start address words (plain_with address is (said (Some job) file wait (handed headers dot sender addresses) None) start)))

first_mail : (words : List (List ℕ)) (option : MailWord) (job : Option Job) (file : Option (List ℕ)) (wait : Option Wait) (mail : SubmitWords) (start : ℕ) (last : Saying) → Each words (start + 1) last
    → (word : List ℕ) → mail_spelling option ≡ word ∷ [] → Reads (mail_spelling option ++ words) job file wait mail None start last
first_mail words Gathers job file wait mail start last rec word is = first_headers words job file wait mail.from_headers mail.dot mail.sender mail.addresses start last rec
first_mail words Ignores job file wait mail start last rec word is = first_dot words job file wait mail.from_headers mail.dot mail.sender mail.addresses start last rec
first_mail words IgnoresToo job file wait mail start last rec word is = first_dot_too words job file wait mail.from_headers mail.dot mail.sender mail.addresses start last rec
first_mail words (Sends text sent) job file wait mail start last rec word is = first_text words text sent job file wait mail.from_headers mail.dot mail.sender mail.addresses start last rec
first_mail words (SendsApart text sent) job file wait mail start last rec word is = absurd (cc is)
first_mail words (Names address named) job file wait mail start last rec word is = first_address words address named job file wait mail.from_headers mail.dot mail.sender mail.addresses start last rec

first_word : (word : List ℕ) (words : List (List ℕ)) (job : Option Job) (file : Option (List ℕ)) (wait : Option Wait) (mail : SubmitWords) (start : ℕ) (last : Saying) → Each words (start + 1) last → View word
    → Reads (word ∷ words) job file wait mail None start last
first_word word words job file wait mail start last rec (IsMode mode is) = subst (λ (w : List ℕ). Reads (w ∷ words) job file wait mail None start last) (sym is) (first_mode words mode job file wait mail start last rec (is_mail mail) refl)
first_word word words job file wait mail start last rec (IsLone is) = subst (λ (w : List ℕ). Reads (w ∷ words) job file wait mail None start last) (sym is) (first_lone words job file wait mail start last rec)
first_word word words job file wait mail start last rec (IsJoined first others is) = subst (λ (w : List ℕ). Reads (w ∷ words) job file wait mail None start last) (sym is) (first_joined words first others job file wait mail start last rec)
first_word word words job file wait mail start last rec (IsTimed time seconds timed is) = subst (λ (w : List ℕ). Reads (w ∷ words) job file wait mail None start last) (sym is) (first_time words time seconds timed job file wait mail start last rec)
first_word word words job file wait mail start last rec (IsLoneSender is) =
    subst (λ (w : List ℕ). Reads (w ∷ words) job file wait mail None start last) (sym is) (first_sender words job file wait mail.from_headers mail.dot mail.sender mail.addresses start last rec)
first_word word words job file wait mail start last rec (IsMail option is) = subst (λ (w : List (List ℕ)). Reads (w ++ words) job file wait mail None start last) is (first_mail words option job file wait mail start last rec word is)
first_word word words job file wait mail start last rec (IsOther none) = λ e. absurd (read_never last start (sym e ∙ refuses job file wait mail start word words (none (said job file wait mail None) start)))

text_says : (word : List ℕ) (words : List (List ℕ)) (job : Option Job) (file : Option (List ℕ)) (wait : Option Wait) (mail : SubmitWords) (start : ℕ) (last : Saying) → Reads words job file wait (record mail { sender = Some word }) None (start + 1) last
    → (test : Bool) → is_sender word ≡ test → Reads (word ∷ words) job file wait mail (Some Sender) start last
text_says word words job file wait mail start last rec true t e = inr (word, words, t, refl, rec (sym (text_with word job file wait mail start words t) ∙ e))
text_says word words job file wait mail start last rec false t e = absurd (read_never last (start - 1) (sym e ∙ text_refused word job file wait mail start words t))

pub says : (words : List (List ℕ)) (job : Option Job) (file : Option (List ℕ)) (wait : Option Wait) (mail : SubmitWords) (awaits : Option Awaited) (start : ℕ) (last : Saying) → Reads words job file wait mail awaits start last
says [] job file wait mail awaits start last e = ended job file wait mail awaits start last e
says (word ∷ words) job file wait mail (Some File) start last e = inr (word, words, refl, says words job (Some word) wait mail None (start + 1) last e)
says (word ∷ words) job file wait mail (Some Sender) start last e = text_says word words job file wait mail start last (says words job file wait (record mail { sender = Some word }) None (start + 1) last) (is_sender word) refl e
says (word ∷ words) job file wait mail None start last e = first_word word words job file wait mail start last (λ j f w m a. says words j f w m a (start + 1) last) (view word) e
