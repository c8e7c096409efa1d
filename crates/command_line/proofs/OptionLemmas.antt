-- The words that the code reads are those that begin options.
use Rattle.std.proofs.Common.{◌≡◌, ℕ, ◌+◌, ◌≤◌, List, [], ◌∷◌, ◌++◌, length, Bool, true, false, Option, Some, None, Ok, refl, sym, ◌∙◌, ap, subst, arith, inl, inr}
use Rattle.std.specs.Prelude.{◌⊎◌, codes, option_to_list}
use Rattle.std.specs.Option.{option_or}
use Rattle.std.specs.List.{flat_map}
use Rattle.std.proofs.lemmas.Bool.{cond-false}
use Rattle.std.proofs.lemmas.Grind.{flat_map-append}
use Rattle.std.proofs.lemmas.List.{append-nil, append_assoc}
use Rattle.addr_tokens.specs.Reader.{cut}
use Rattle.addr_tokens.specs.Scans.{most_tokens}
use Rattle.mail_submit.specs.declared.words.SubmitWords.{SubmitWords}
use Rattle.command_line.specs.declared.mode.Job.{Job}
use Rattle.command_line.specs.declared.saying.Awaited.{Awaited}
use Rattle.command_line.specs.declared.saying.Awaited.TheVariants.{File, Sender}
use Rattle.command_line.specs.declared.saying.Saying.{Saying}
use Rattle.command_line.specs.declared.saying.Wait.{Wait}
use Rattle.command_line.specs.inner.Words.{is_mail, nothing, read_options}
use Rattle.command_line.specs.MailWords.{MailWord, Gathers, Ignores, IgnoresToo, Sends, SendsApart, Names, dots_in, headers_in, is_sender, no_mail, senders_in}
use Rattle.command_line.specs.CommandLines.{Flag, Does, Every, Joined, Apart, Hands, word_of, job_of, spelling, jobs_in, waits_in, files_in, mail_in, AreOnce, AreOptions, BeginsOptions}
use Rattle.command_line.proofs.MailLemmas.{AddsUp, IsRoom, add_mail, handed, mail_of_sum, no_options, once_of_mail, quiet, room_of}
use Rattle.command_line.proofs.ReadLemmas.{Begins, front_begins, read, said, takes}
use Rattle.command_line.proofs.WaitLemmas.{times, waiting_for, wait_after}
use Rattle.command_line.proofs.WrittenLemmas.{Written, clash, mode_with, names_with, says, sends_with, text_with, timed_with, waiting}

-- ---- what is written in options is read

abbrev pub first_of : {A : Type 0} → Option A → List A → Option A
first_of (Some x) xs = Some x
first_of None [] = None
first_of None (x ∷ xs) = Some x

abbrev pub after : Option Job → Option (List ℕ) → Option Wait → SubmitWords → List Flag → ℕ → Saying
after job file wait mail flags start = said (first_of job (flat_map jobs_in flags)) (first_of file (flat_map files_in flags)) (option_or wait (wait_after start flags)) (add_mail mail (flat_map mail_in flags)) None

-- the options can follow what was said
record CanFollow (flags : List Flag) (job : Option Job) (file : Option (List ℕ)) (wait : Option Wait) (mail : SubmitWords) : Type 0 where
  jobs : length (option_to_list job ++ flat_map jobs_in flags) ≤ 1
  waits : length (times wait ++ flat_map waits_in flags) ≤ 1
  files : length (option_to_list file ++ flat_map files_in flags) ≤ 1
  room : IsRoom mail (flat_map mail_in flags)
  apart : (option_to_list job ++ flat_map jobs_in flags ≡ []) ⊎ ((is_mail mail ≡ false) × (flat_map mail_in flags ≡ []))

abbrev Taken : List Flag → Option Job → Option (List ℕ) → Option Wait → SubmitWords → ℕ → Type 0
Taken flags job file wait mail start = CanFollow flags job file wait mail → read_options (said job file wait mail None) start (flat_map spelling flags) ≡ Ok (after job file wait mail flags start)

first_none : {A : Type 0} (o : Option A) → o ≡ first_of o []
first_none None = refl
first_none (Some x) = refl

or_none : {A : Type 0} (o : Option A) → o ≡ option_or o None
or_none None = refl
or_none (Some x) = refl

beside_mode : (job : Job) (jobs : List Job) (noted : Bool) (options : List MailWord) → (job ∷ jobs ≡ []) ⊎ ((noted ≡ false) × (options ≡ [])) → (noted ≡ false) × (options ≡ [])
beside_mode job jobs noted options (inl e) = absurd (cc e)
beside_mode job jobs noted options (inr e) = e

beside_mail : (jobs : List Job) (noted : Bool) (option : MailWord) (options : List MailWord) → (jobs ≡ []) ⊎ ((noted ≡ false) × (option ∷ options ≡ [])) → jobs ≡ []
beside_mail jobs noted option options (inl e) = e
beside_mail jobs noted option options (inr e) = let never = e.1 in absurd (cc never)

-- an option of mail in front, behind which this is said
followed : (option : MailWord) (flags : List Flag) (job : Option Job) (file : Option (List ℕ)) (wait : Option Wait) (mail next : SubmitWords) → CanFollow (Hands option ∷ flags) job file wait mail → IsRoom next (flat_map mail_in flags)
    → CanFollow flags job file wait next
followed option flags job file wait mail next can room = record {
  jobs = can.jobs;
  waits = can.waits;
  files = can.files;
  room = room;
  apart = inl (beside_mail (option_to_list job ++ flat_map jobs_in flags) (is_mail mail) option (flat_map mail_in flags) can.apart);
}

no_job : (job : Job) (jobs : List Job) → job ∷ jobs ≡ [] → ⊥
no_job job jobs e = absurd (cc e)

taken : (flags : List Flag) (job : Option Job) (file : Option (List ℕ)) (wait : Option Wait) (headers dot : Bool) (sender : Option (List ℕ)) (addresses : List (List ℕ)) (start : ℕ) → Taken flags job file wait (handed headers dot sender addresses) start
taken [] job file wait h d s a start can =
    ap (λ (j : Option Job). read (said j file wait (handed h d s a) None)) (first_none job)
    ∙ ap (λ (f : Option (List ℕ)). read (said (first_of job []) f wait (handed h d s a) None)) (first_none file)
    ∙ ap (λ (w : Option Wait). read (said (first_of job []) (first_of file []) w (handed h d s a) None)) (or_none wait)
taken (Does mode ∷ flags) None file wait h d s a start can =
    let both = beside_mode (job_of mode) (flat_map jobs_in flags) (is_mail (handed h d s a)) (flat_map mail_in flags) can.apart in
    takes None file wait (handed h d s a) _ start (word_of mode) (flat_map spelling flags) (mode_with mode None file wait (handed h d s a) start ∙ cond-false (is_mail (handed h d s a)) None _ both.0)
    ∙ taken flags (Some (job_of mode)) file wait h d s a (start + 1) (record { jobs = can.jobs; waits = can.waits; files = can.files; room = can.room; apart = inr both })
taken (Does mode ∷ flags) (Some job) file wait h d s a start can = absurd (omega (arith, can.jobs))
taken (Every time seconds is ∷ flags) job file None h d s a start can =
    takes job file None (handed h d s a) _ start (codes "-q" ++ time) (flat_map spelling flags) (timed_with time seconds is job file None (handed h d s a) start)
    ∙ taken flags job file (Some (waiting_for seconds start)) h d s a (start + 1) (record { jobs = can.jobs; waits = can.waits; files = can.files; room = can.room; apart = can.apart })
taken (Every time seconds is ∷ flags) job file (Some wait) h d s a start can = absurd (omega (arith, can.waits))
taken (Joined first others ∷ flags) job None wait h d s a start can =
    taken flags job (Some (first ∷ others)) wait h d s a (start + 1) (record { jobs = can.jobs; waits = can.waits; files = can.files; room = can.room; apart = can.apart })
taken (Joined first others ∷ flags) job (Some name) wait h d s a start can = absurd (omega (arith, can.files))
taken (Apart other ∷ flags) job None wait h d s a start can =
    taken flags job (Some other) wait h d s a (start + 1 + 1) (record { jobs = can.jobs; waits = can.waits; files = can.files; room = can.room; apart = can.apart })
taken (Apart other ∷ flags) job (Some name) wait h d s a start can = absurd (omega (arith, can.files))
taken (Hands option ∷ flags) (Some job) file wait h d s a start can =
    absurd (no_job job (flat_map jobs_in flags) (beside_mail (job ∷ flat_map jobs_in flags) (is_mail (handed h d s a)) option (flat_map mail_in flags) can.apart))
taken (Hands Gathers ∷ flags) None file wait false d s a start can =
    taken flags None file wait true d s a (start + 1) (followed Gathers flags None file wait (handed false d s a) (handed true d s a) can (record { headers = can.room.headers; dot = can.room.dot; sender = can.room.sender }))
taken (Hands Gathers ∷ flags) None file wait true d s a start can = absurd (let le = can.room.headers in omega (arith, le))
taken (Hands Ignores ∷ flags) None file wait h true s a start can =
    taken flags None file wait h false s a (start + 1) (followed Ignores flags None file wait (handed h true s a) (handed h false s a) can (record { headers = can.room.headers; dot = can.room.dot; sender = can.room.sender }))
taken (Hands Ignores ∷ flags) None file wait h false s a start can = absurd (let le = can.room.dot in omega (arith, le))
taken (Hands IgnoresToo ∷ flags) None file wait h true s a start can =
    taken flags None file wait h false s a (start + 1) (followed IgnoresToo flags None file wait (handed h true s a) (handed h false s a) can (record { headers = can.room.headers; dot = can.room.dot; sender = can.room.sender }))
taken (Hands IgnoresToo ∷ flags) None file wait h false s a start can = absurd (let le = can.room.dot in omega (arith, le))
taken (Hands (Sends text is) ∷ flags) None file wait h d None a start can =
    takes None file wait (handed h d None a) _ start (codes "-f" ++ text) (flat_map spelling flags) (sends_with text is file wait h d a start)
    ∙ taken flags None file wait h d (Some text) a (start + 1)
    (followed (Sends text is) flags None file wait (handed h d None a) (handed h d (Some text) a) can (record { headers = can.room.headers; dot = can.room.dot; sender = can.room.sender }))
taken (Hands (Sends text is) ∷ flags) None file wait h d (Some other) a start can = absurd (let le = can.room.sender in omega (arith, le))
taken (Hands (SendsApart text is) ∷ flags) None file wait h d None a start can =
    text_with text None file wait (handed h d None a) (start + 1) (flat_map spelling flags) is
    ∙ taken flags None file wait h d (Some text) a (start + 1 + 1)
    (followed (SendsApart text is) flags None file wait (handed h d None a) (handed h d (Some text) a) can (record { headers = can.room.headers; dot = can.room.dot; sender = can.room.sender }))
taken (Hands (SendsApart text is) ∷ flags) None file wait h d (Some other) a start can = absurd (let le = can.room.sender in omega (arith, le))
taken (Hands (Names address is) ∷ flags) None file wait h d s a start can =
    takes None file wait (handed h d s a) _ start address (flat_map spelling flags) (names_with address is file wait h d s a start)
    ∙ taken flags None file wait h d s (a ++ address ∷ []) (start + 1)
    (followed (Names address is) flags None file wait (handed h d s a) (handed h d s (a ++ address ∷ [])) can (record { headers = can.room.headers; dot = can.room.dot; sender = can.room.sender }))

first_apart : (jobs : List Job) (options : List MailWord) → (jobs ≡ []) ⊎ (options ≡ []) → (jobs ≡ []) ⊎ ((is_mail no_mail ≡ false) × (options ≡ []))
first_apart jobs options (inl e) = inl e
first_apart jobs options (inr e) = inr (refl, e)

pub options_read : (flags : List Flag) (words : List (List ℕ)) → AreOptions flags words → read_options nothing 0 words ≡ Ok (after None None None no_mail flags 0)
options_read flags words are =
    ap (read_options nothing 0) are.written
    ∙ taken flags None None None false true None [] 0
    (record { jobs = are.one_mode; waits = are.one_wait; files = are.one_file; room = room_of (flat_map mail_in flags) are.once; apart = first_apart (flat_map jobs_in flags) (flat_map mail_in flags) are.apart })

-- ---- the words that begin options are those that are read

pub at_most_one : {A : Type 0} (xs : List A) (o : Option A) → xs ≡ option_to_list o → length xs ≤ 1
at_most_one xs None is = rw is (omega arith)
at_most_one xs (Some x) is = rw is (omega arith)

at_most_time : (xs : List ℕ) (wait : Option Wait) → xs ≡ times wait → length xs ≤ 1
at_most_time xs None is = rw is (omega arith)
at_most_time xs (Some wait) is = rw is (omega arith)

apart_by : (job : Option Job) (jobs : List Job) (mail : SubmitWords) (options : List MailWord) → jobs ≡ option_to_list job → AddsUp no_mail options mail → clash job mail ≡ false → (jobs ≡ []) ⊎ (options ≡ [])
apart_by None jobs mail options j m c = inl j
apart_by (Some job) jobs mail options j m c = inr (no_options options (mail_of_sum options no_mail (subst (λ (s : SubmitWords). AddsUp no_mail options s) (quiet mail c) m)))

-- what was read is options, unless a word is awaited
pub ends_options : (words : List (List ℕ)) (last : Saying) (is : Written None None None no_mail words last) → last.awaits ≡ None → AreOptions is.flags words
ends_options words last is done = record {
  written = is.written ∙ ap (λ (b : Option Awaited). flat_map spelling is.flags ++ waiting b) done ∙ append-nil (flat_map spelling is.flags);
  one_mode = at_most_one (flat_map jobs_in is.flags) last.job is.jobs;
  one_wait = at_most_time (flat_map waits_in is.flags) last.wait is.waits;
  one_file = at_most_one (flat_map files_in is.flags) last.file is.files;
  once = once_of_mail (flat_map mail_in is.flags) last.mail (mail_of_sum (flat_map mail_in is.flags) last.mail is.adds);
  apart = apart_by last.job (flat_map jobs_in is.flags) last.mail (flat_map mail_in is.flags) is.jobs is.adds (is.clear refl);
}

-- what an option at the end says nothing of
unchanged : {A : Type 0} (f : Flag → List A) (flags : List Flag) (last : Flag) → f last ≡ [] → flat_map f (flags ++ last ∷ []) ≡ flat_map f flags
unchanged f flags last none = flat_map-append f flags (last ∷ []) ∙ ap (λ (xs : List _). flat_map f flags ++ (xs ++ [])) none ∙ append-nil (flat_map f flags)

-- and with a name they are, where one is awaited
ends_named : (words : List (List ℕ)) (last : Saying) (is : Written None None None no_mail words last) → last.awaits ≡ Some File → AreOptions (is.flags ++ Apart [] ∷ []) (words ++ [] ∷ [])
ends_named words last is awaits =
    let jobs = unchanged jobs_in is.flags (Apart []) refl in
    let mail = unchanged mail_in is.flags (Apart []) refl in
    record {
      written = ap (λ (w : List (List ℕ)). w ++ [] ∷ []) (is.written ∙ ap (λ (b : Option Awaited). flat_map spelling is.flags ++ waiting b) awaits)
          ∙ append_assoc (flat_map spelling is.flags) (codes "-C" ∷ []) ([] ∷ [])
          ∙ sym (flat_map-append spelling is.flags (Apart [] ∷ []));
      one_mode = at_most_one (flat_map jobs_in (is.flags ++ Apart [] ∷ [])) last.job (jobs ∙ is.jobs);
      one_wait = at_most_time (flat_map waits_in (is.flags ++ Apart [] ∷ [])) last.wait (unchanged waits_in is.flags (Apart []) refl ∙ is.waits);
      one_file = at_most_one (flat_map files_in (is.flags ++ Apart [] ∷ [])) (Some [])
          (flat_map-append files_in is.flags (Apart [] ∷ []) ∙ ap (λ (f : List (List ℕ)). f ++ [] ∷ []) (is.files ∙ ap option_to_list (is.unnamed awaits)));
      once = subst AreOnce (sym mail) (once_of_mail (flat_map mail_in is.flags) last.mail (mail_of_sum (flat_map mail_in is.flags) last.mail is.adds));
      apart = apart_by last.job (flat_map jobs_in (is.flags ++ Apart [] ∷ [])) last.mail (flat_map mail_in (is.flags ++ Apart [] ∷ [])) (jobs ∙ is.jobs)
          (subst (λ (options : List MailWord). AddsUp no_mail options last.mail) (sym mail) is.adds) (is.clear refl);
    }

null_sender : is_sender (codes "<>") ≡ true
unfolding cut most_tokens
null_sender = refl

abbrev null : MailWord
null = SendsApart (codes "<>") null_sender

sent_once : (options : List MailWord) (mail : SubmitWords) → AddsUp no_mail options mail → mail.sender ≡ None → AreOnce (options ++ null ∷ [])
sent_once options mail is none =
    let once = once_of_mail options mail (mail_of_sum options mail is) in
    record {
      headers = subst (λ (xs : List (Unit {0})). length xs ≤ 1) (sym (flat_map-append headers_in options (null ∷ []) ∙ append-nil (flat_map headers_in options))) once.headers;
      dot = subst (λ (xs : List (Unit {0})). length xs ≤ 1) (sym (flat_map-append dots_in options (null ∷ []) ∙ append-nil (flat_map dots_in options))) once.dot;
      sender = at_most_one (flat_map senders_in (options ++ null ∷ [])) (Some (codes "<>"))
          (flat_map-append senders_in options (null ∷ []) ∙ ap (λ (s : List (List ℕ)). s ++ codes "<>" ∷ []) (is.sender ∙ ap option_to_list none));
    }

-- and with a text, where one is awaited
ends_sent : (words : List (List ℕ)) (last : Saying) (is : Written None None None no_mail words last) → last.awaits ≡ Some Sender → AreOptions (is.flags ++ Hands null ∷ []) (words ++ codes "<>" ∷ [])
ends_sent words last is awaits =
    let jobs = unchanged jobs_in is.flags (Hands null) refl in
    record {
      written = ap (λ (w : List (List ℕ)). w ++ codes "<>" ∷ []) (is.written ∙ ap (λ (b : Option Awaited). flat_map spelling is.flags ++ waiting b) awaits)
          ∙ append_assoc (flat_map spelling is.flags) (codes "-f" ∷ []) (codes "<>" ∷ [])
          ∙ sym (flat_map-append spelling is.flags (Hands null ∷ []));
      one_mode = at_most_one (flat_map jobs_in (is.flags ++ Hands null ∷ [])) last.job (jobs ∙ is.jobs);
      one_wait = at_most_time (flat_map waits_in (is.flags ++ Hands null ∷ [])) last.wait (unchanged waits_in is.flags (Hands null) refl ∙ is.waits);
      one_file = at_most_one (flat_map files_in (is.flags ++ Hands null ∷ [])) last.file (unchanged files_in is.flags (Hands null) refl ∙ is.files);
      once = subst AreOnce (sym (flat_map-append mail_in is.flags (Hands null ∷ []))) (sent_once (flat_map mail_in is.flags) last.mail is.adds (is.unsent awaits).1);
      apart = inl (jobs ∙ is.jobs ∙ ap option_to_list (is.unsent awaits).0);
    }

begins_by : (words : List (List ℕ)) (last : Saying) (is : Written None None None no_mail words last) (awaits : Option Awaited) → last.awaits ≡ awaits → BeginsOptions words
begins_by words last is (Some File) e = ([] ∷ [], is.flags ++ Apart [] ∷ [], ends_named words last is e)
begins_by words last is (Some Sender) e = (codes "<>" ∷ [], is.flags ++ Hands null ∷ [], ends_sent words last is e)
begins_by words last is None e = ([], is.flags, subst (λ (w : List (List ℕ)). AreOptions is.flags w) (sym (append-nil words)) (ends_options words last is e))

pub begins_options : (words : List (List ℕ)) → Begins nothing 0 words → BeginsOptions words
begins_options words begins = begins_by words begins.0 (says words None None None no_mail None 0 begins.0 begins.1) begins.0.awaits refl

pub options_begin : (words : List (List ℕ)) → BeginsOptions words → Begins nothing 0 words
options_begin words begins = front_begins words nothing 0 begins.0 (_, options_read begins.1 (words ++ begins.0) begins.2)
