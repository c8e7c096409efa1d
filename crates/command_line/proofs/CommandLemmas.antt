-- What the code reads of a command line is what the definition says.
use Rattle.std.proofs.Common.{◌≡◌, ℕ, ◌+◌, ◌-◌, ◌≤◌, List, [], ◌∷◌, ◌++◌, length, length-append, Bool, true, false, Option, Some, None, Result, Ok, Err, refl, sym, ◌∙◌, ap, subst, arith, inl, inr}
use Rattle.std.specs.Prelude.{◌≢◌, ◌⊎◌, codes, cond, option_to_list}
use Rattle.std.specs.Option.{is_some, unwrap_or}
use Rattle.std.specs.List.{flat_map}
use Rattle.std.proofs.lemmas.Bool.{cond-true, cond-false}
use Rattle.std.proofs.lemmas.List.{append_assoc}
use Rattle.mail_submit.specs.declared.words.SubmitWords.{SubmitWords}
use Rattle.command_line.specs.declared.mode.Job.{Job}
use Rattle.command_line.specs.declared.mode.Job.TheVariants.{Daemon}
use Rattle.command_line.specs.declared.mode.Mode.{Mode}
use Rattle.command_line.specs.declared.saying.Awaited.{Awaited}
use Rattle.command_line.specs.declared.saying.Awaited.TheVariants.{File, Sender}
use Rattle.command_line.specs.declared.saying.Saying.{Saying}
use Rattle.command_line.specs.declared.saying.Wait.{Wait}
use Rattle.command_line.specs.declared.fault.WordFault.{WordFault}
use Rattle.command_line.specs.declared.fault.WordFault.TheVariants.{At, NoMemory}
use Rattle.command_line.specs.inner.Words.{asked, command_line, judged, judged_by, mode_by, nothing, or_refused, read_options, timed, whole, with_awaited, with_it, with_new, with_text, with_word, Gives, Fails}
use Rattle.command_line.specs.MailWords.{MailWord, is_sender, no_mail}
use Rattle.command_line.specs.CommandLines.{Flag, Every, spelling, jobs_in, files_in, mail_in, mail_of, untimed, waits_of, IsFile, IsCommandLine, Asks, AreOptions, BeginsOptions, IsBadWord, IsBadSender, LacksFile, LacksSender, LacksMode, HasStrayWait, IsRefusedAt, Gives as Says}
use Rattle.command_line.proofs.MailLemmas.{add_mail, mail_of_sum, once_of_mail}
use Rattle.command_line.proofs.ReadLemmas.{IsStop, goes_on, here, read_after, read_never, refused, said, same_place, same_read, stops, stuck, turns}
use Rattle.command_line.proofs.WrittenLemmas.{Written, clash, says, text_refused, waiting}
use Rattle.command_line.proofs.WaitLemmas.{times, waiting_for, wait_after, times_after, IsTimeAt, wait_at, wait_there, job_waits, asks_untimed, IsTimed, timed_is, is_timed, IsStray, stray_is, is_stray}
use Rattle.command_line.proofs.OptionLemmas.{first_of, after, options_read, at_most_one, ends_options, begins_options, options_begin}
use Rattle.command_line.proofs.JobLemmas.{asked_says, asks_apart, asks_asked, most_modes, never_job, sum_after}

abbrev accepted : Mode → Result Mode ℕ
accepted mode = Ok mode

abbrev denied : ℕ → Result Mode ℕ
denied place = Err place

same_mode : (a b : Mode) → accepted a ≡ accepted b → a ≡ b
same_mode a b e = cc e

same_denied : (a b : ℕ) → denied a ≡ denied b → a ≡ b
same_denied a b e = cc e

never_both : (mode : Mode) (place : ℕ) → accepted mode ≡ denied place → ⊥
never_both mode place e = absurd (cc e)

judged_read : (words : List (List ℕ)) (last : Result Saying ℕ) → read_options nothing 0 words ≡ last → command_line words ≡ judged (length words) last
judged_read words last is = ap (judged (length words)) is

-- ---- the mode

named_files : (file : Option (List ℕ)) → IsFile (option_to_list file) (unwrap_or file (codes "/etc/mail/sendmail.cf"))
named_files None = inr (refl, refl)
named_files (Some name) = inl refl

last_asks : (words : List (List ℕ)) (last : Saying) (is : Written None None None no_mail words last) (job : Job) → asked last.job last.mail ≡ Some job → Asks is.flags job
last_asks words last is job j = asked_says is.flags last.job last.mail job is.jobs (mail_of_sum (flat_map mail_in is.flags) last.mail is.adds) (is.clear refl) j

line_by : (words : List (List ℕ)) (last : Saying) (is : Written None None None no_mail words last) (job : Job) (file : Option (List ℕ)) (with_it : Job) → last.awaits ≡ None → asked last.job last.mail ≡ Some job → last.file ≡ file
    → timed job last.wait ≡ Ok with_it → IsCommandLine words (record { file = unwrap_or file (codes "/etc/mail/sendmail.cf"); job = with_it })
line_by words last is job file with_it a j f e =
    let asks : Asks is.flags job = last_asks words last is job j in
    let fits : IsTimed job last.wait with_it = timed_is job last.wait with_it (asks_untimed is.flags job asks) e in
    record {
      flags = is.flags;
      written = (ends_options words last is a).written;
      job = subst (Asks is.flags) fits.same asks;
      wait = is.waits ∙ fits.waits;
      file = subst (λ (names : List (List ℕ)). IsFile names (unwrap_or file (codes "/etc/mail/sendmail.cf"))) (sym (is.files ∙ ap option_to_list f)) (named_files file);
    }

line_job : (words : List (List ℕ)) (last : Saying) (is : Written None None None no_mail words last) (mode : Mode) (job : Job) (file : Option (List ℕ)) → last.awaits ≡ None → asked last.job last.mail ≡ Some job → last.file ≡ file
    → (with_it : Result Job ℕ) → timed job last.wait ≡ with_it → mode_by with_it file ≡ Ok mode → IsCommandLine words mode
line_job words last is mode job file a j f (Ok with_it) t e = subst (IsCommandLine words) (same_mode _ mode e) (line_by words last is job file with_it a j f t)
line_job words last is mode job file a j f (Err place) t e = absurd (never_both mode place (sym e))

line_asked : (words : List (List ℕ)) (last : Saying) (is : Written None None None no_mail words last) (mode : Mode) (job : Option Job) → last.awaits ≡ None → asked last.job last.mail ≡ job → whole job last.file last.wait (length words) ≡ Ok mode
    → IsCommandLine words mode
line_asked words last is mode None a j e = absurd (never_both mode (length words) (sym e))
line_asked words last is mode (Some job) a j e = line_job words last is mode job last.file a j refl (timed job last.wait) refl e

line_of : (words : List (List ℕ)) (last : Saying) (is : Written None None None no_mail words last) (mode : Mode) (awaits : Option Awaited) → last.awaits ≡ awaits → judged_by awaits last (length words) ≡ Ok mode → IsCommandLine words mode
line_of words last is mode (Some File) a e = absurd (never_both mode (length words) (sym e))
line_of words last is mode (Some Sender) a e = absurd (never_both mode (length words - 1) (sym e))
line_of words last is mode None a e = line_asked words last is mode (asked last.job last.mail) a refl e

line_read : (words : List (List ℕ)) (mode : Mode) (last : Result Saying ℕ) → read_options nothing 0 words ≡ last → judged (length words) last ≡ Ok mode → IsCommandLine words mode
line_read words mode (Err place) r e = absurd (never_both mode place (sym e))
line_read words mode (Ok last) r e = line_of words last (says words None None None no_mail None 0 last r) mode last.awaits refl e

pub is_line : (words : List (List ℕ)) (mode : Mode) → command_line words ≡ Ok mode → IsCommandLine words mode
is_line words mode e = line_read words mode (read_options nothing 0 words) refl e

file_length : (names : List (List ℕ)) (file : List ℕ) → IsFile names file → length names ≤ 1
file_length names file (inl is) = rw is (omega arith)
file_length names file (inr is) = rw is.0 (omega arith)

file_read : (names : List (List ℕ)) (file : List ℕ) → IsFile names file → unwrap_or (first_of None names) (codes "/etc/mail/sendmail.cf") ≡ file
file_read names file (inl is) = ap (λ (n : List (List ℕ)). unwrap_or (first_of None n) (codes "/etc/mail/sendmail.cf")) is
file_read names file (inr is) = ap (λ (n : List (List ℕ)). unwrap_or (first_of None n) (codes "/etc/mail/sendmail.cf")) is.0 ∙ sym is.1

line_options : (words : List (List ℕ)) (mode : Mode) (is : IsCommandLine words mode) → AreOptions is.flags words
line_options words mode is = record {
  written = is.written;
  one_mode = subst (λ (jobs : List Job). length jobs ≤ 1) (sym is.job.modes) (most_modes (untimed mode.job));
  one_wait = subst (λ (n : List ℕ). length n ≤ 1) (sym is.wait) (job_waits mode.job);
  one_file = file_length (flat_map files_in is.flags) mode.file is.file;
  once = once_of_mail (flat_map mail_in is.flags) (mail_of (untimed mode.job)) is.job.mail;
  apart = asks_apart is.flags (untimed mode.job) is.job;
}

-- what options come to
judged_options : (flags : List Flag) (words : List (List ℕ)) → AreOptions flags words
    → command_line words ≡ whole (asked (first_of None (flat_map jobs_in flags)) (add_mail no_mail (flat_map mail_in flags))) (first_of None (flat_map files_in flags)) (wait_after 0 flags) (length words)
judged_options flags words are = judged_read words _ (options_read flags words are)

-- options that say a job come to that, with the time
judged_job : (flags : List Flag) (words : List (List ℕ)) (job : Job) → AreOptions flags words → Asks flags job → command_line words ≡ mode_by (timed job (wait_after 0 flags)) (first_of None (flat_map files_in flags))
judged_job flags words job are asks =
    judged_options flags words are ∙ ap (λ (o : Option Job). whole o (first_of None (flat_map files_in flags)) (wait_after 0 flags) (length words)) (asks_asked flags words job are asks)

pub line_is : (words : List (List ℕ)) (mode : Mode) → IsCommandLine words mode → command_line words ≡ Ok mode
line_is words mode is =
    let are = line_options words mode is in
    let waits : times (wait_after 0 is.flags) ≡ waits_of mode.job = times_after is.flags 0 are.one_wait ∙ is.wait in
    judged_job is.flags words (untimed mode.job) are is.job
    ∙ ap (λ (job : Result Job ℕ). mode_by job (first_of None (flat_map files_in is.flags))) (is_timed mode.job (wait_after 0 is.flags) waits)
    ∙ ap (λ (name : List ℕ). accepted (record { file = name; job = mode.job })) (file_read (flat_map files_in is.flags) mode.file is.file)

-- ---- the word that is refused

-- a word that nothing awaits is refused at its own place
refused_new : (job : Option Job) (file : Option (List ℕ)) (wait : Option Wait) (mail : SubmitWords) (word : List ℕ) (here place : ℕ) (step : Option Saying) → with_new (said job file wait mail None) word here ≡ step
    → or_refused step here ≡ Err place → place ≡ here
refused_new job file wait mail word here place (Some next) s e = absurd (read_never next place e)
refused_new job file wait mail word here place None s e = sym (same_place here place e)

-- the text of a `-f` is refused at the place before
refused_text : (said : Saying) (text : List ℕ) (before place : ℕ) (test : Bool) → is_sender text ≡ test → or_refused (with_it (record said { awaits = None }) (with_text said.mail text)) before ≡ Err place → (place ≡ before) × (test ≡ false)
refused_text said text before place true t e =
    absurd (read_never _ place (sym (ap (λ (o : Option SubmitWords). or_refused (with_it (record said { awaits = None }) o) before) (cond-true (is_sender text) _ _ t)) ∙ e))
refused_text said text before place false t e =
    (sym (same_place before place (sym (ap (λ (o : Option SubmitWords). or_refused (with_it (record said { awaits = None }) o) before) (cond-false (is_sender text) _ _ t)) ∙ e)), refl)

front_options : (front : List (List ℕ)) (last : Saying) (is : Written None None None no_mail front last) (awaits : Option Awaited) → last.awaits ≡ awaits → front ≡ flat_map spelling is.flags ++ waiting awaits
front_options front last is awaits a = is.written ∙ ap (λ (b : Option Awaited). flat_map spelling is.flags ++ waiting b) a

last_after : (words : List (List ℕ)) (last : Saying) (flags : List Flag) → read_options nothing 0 words ≡ Ok last → AreOptions flags words → last ≡ after None None None no_mail flags 0
last_after words last flags r are = same_read last _ (sym r ∙ options_read flags words are)

-- a front that awaits the text of a `-f` is options and the `-f`
sender_front : (front : List (List ℕ)) (last : Saying) (is : Written None None None no_mail front last) → last.awaits ≡ Some Sender → AreOptions is.flags (flat_map spelling is.flags)
sender_front front last is a = record {
  written = refl;
  one_mode = at_most_one (flat_map jobs_in is.flags) last.job is.jobs;
  one_wait = sent_wait (flat_map _ is.flags) last.wait is.waits;
  one_file = at_most_one (flat_map files_in is.flags) last.file is.files;
  once = once_of_mail (flat_map mail_in is.flags) last.mail (mail_of_sum (flat_map mail_in is.flags) last.mail is.adds);
  apart = inl (is.jobs ∙ ap option_to_list (is.unsent a).0);
}
  where
    sent_wait : (xs : List ℕ) (wait : Option Wait) → xs ≡ times wait → length xs ≤ 1
    sent_wait xs None is = rw is (omega arith)
    sent_wait xs (Some wait) is = rw is (omega arith)

bad_new : (words : List (List ℕ)) (place : ℕ) (is : IsStop nothing 0 words place) (last : Saying) (written : Written None None None no_mail is.front last) → read_options nothing 0 is.front ≡ Ok last → with_word last is.word (0 + length is.front) ≡ Err place
    → last.awaits ≡ None → IsBadWord words place
bad_new words place is last written good bad a = record {
  front = is.front;
  word = is.word;
  later = is.later;
  whole = is.whole;
  at = refused_new last.job last.file last.wait last.mail is.word (0 + length is.front) place (with_new (said last.job last.file last.wait last.mail None) is.word (0 + length is.front)) refl
      (ap (λ (o : Option Awaited). with_awaited (said last.job last.file last.wait last.mail o) o is.word (0 + length is.front)) (sym a) ∙ bad)
      ∙ omega arith;
  flags = written.flags;
  good = ends_options is.front last written a;
  bad = λ begins. let goes = options_begin (is.front ++ is.word ∷ []) begins in read_never goes.0 place (sym goes.1 ∙ here is.front is.word [] nothing last 0 place good bad);
}

bad_text : (words : List (List ℕ)) (place : ℕ) (is : IsStop nothing 0 words place) (last : Saying) (written : Written None None None no_mail is.front last) → read_options nothing 0 is.front ≡ Ok last → with_word last is.word (0 + length is.front) ≡ Err place
    → last.awaits ≡ Some Sender → IsBadSender words place
bad_text words place is last written good bad a =
    let spelled : is.front ≡ flat_map spelling written.flags ++ codes "-f" ∷ [] = front_options is.front last written (Some Sender) a in
    let refused : (place ≡ 0 + length is.front - 1) × (is_sender is.word ≡ false) = refused_text last is.word (0 + length is.front - 1) place (is_sender is.word) refl (ap (λ (o : Option Awaited). with_awaited last o is.word (0 + length is.front)) (sym a) ∙ bad) in
    record {
      front = flat_map spelling written.flags;
      text = is.word;
      later = is.later;
      whole = is.whole ∙ ap (λ (w : List (List ℕ)). w ++ is.word ∷ is.later) spelled ∙ append_assoc (flat_map spelling written.flags) (codes "-f" ∷ []) (is.word ∷ is.later);
      at = let size = ap length spelled in let both = length-append (flat_map spelling written.flags) (codes "-f" ∷ []) in omega (arith, refused.0, size, both);
      flags = written.flags;
      good = sender_front is.front last written a;
      begun = subst BeginsOptions spelled (begins_options is.front (last, good));
      bad = λ sends. let never = sym refused.1 ∙ sends in absurd (cc never);
    }

bad_named : (last : Saying) (word : List ℕ) (here place : ℕ) → last.awaits ≡ Some File → with_word last word here ≡ Err place → ⊥
bad_named last word here place a bad = read_never _ place (ap (λ (o : Option Awaited). with_awaited last o word here) (sym a) ∙ bad)

bad_by : (words : List (List ℕ)) (place : ℕ) (is : IsStop nothing 0 words place) (awaits : Option Awaited) → is.last.awaits ≡ awaits → IsRefusedAt words place
bad_by words place is None a = inl (bad_new words place is is.last (says is.front None None None no_mail None 0 is.last is.good) is.good is.bad a)
bad_by words place is (Some File) a = absurd (bad_named is.last is.word (0 + length is.front) place a is.bad)
bad_by words place is (Some Sender) a = inr (inl (bad_text words place is is.last (says is.front None None None no_mail None 0 is.last is.good) is.good is.bad a))

-- ---- what is missing

stray_at : (words : List (List ℕ)) (place : ℕ) (flags : List Flag) (job : Job) → AreOptions flags words → Asks flags job → job ≢ Daemon None → IsTimeAt flags 0 place → HasStrayWait words place
stray_at words place flags job are asks other is = record {
  front = is.front;
  time = is.time;
  seconds = is.seconds;
  is = is.is;
  later = is.later;
  options = subst (λ (fs : List Flag). AreOptions fs words) is.whole are;
  job = job;
  said = subst (λ (fs : List Flag). Asks fs job) is.whole asks;
  other = other;
  at = omega (arith, is.at);
}

stray_of : (words : List (List ℕ)) (place : ℕ) (last : Saying) (are : Written None None None no_mail words last) (job : Job) → read_options nothing 0 words ≡ Ok last → last.awaits ≡ None → asked last.job last.mail ≡ Some job
    → IsStray job last.wait place → HasStrayWait words place
stray_of words place last are job r a j is =
    let options = ends_options words last are a in
    let waits : wait_after 0 are.flags ≡ Some is.time = sym (ap (λ (s : Saying). s.wait) (last_after words last are.flags r options)) ∙ is.there in
    subst (HasStrayWait words) (sym is.at) (stray_at words is.time.place are.flags job options (last_asks words last are job j) is.other (wait_at are.flags 0 is.time waits))

stray_job : (words : List (List ℕ)) (place : ℕ) (last : Saying) (are : Written None None None no_mail words last) (job : Job) → read_options nothing 0 words ≡ Ok last → last.awaits ≡ None → asked last.job last.mail ≡ Some job
    → (with_it : Result Job ℕ) → timed job last.wait ≡ with_it → mode_by with_it last.file ≡ Err place → HasStrayWait words place
stray_job words place last are job r a j (Ok with_it) t e = absurd (never_both _ place e)
stray_job words place last are job r a j (Err at) t e = stray_of words place last are job r a j (stray_is job last.wait place (t ∙ ap (λ (p : ℕ). stray p) (same_denied at place e)))
  where
    stray : ℕ → Result Job ℕ
    stray p = Err p

-- where options are read that say no job, none of them says one
none_asked : (words : List (List ℕ)) (last : Saying) (flags : List Flag) → read_options nothing 0 words ≡ Ok last → AreOptions flags words → asked last.job last.mail ≡ None → (job : Job) → ¬ (Asks flags job)
none_asked words last flags r are j job asks =
    never_job job (sym j ∙ ap (λ (s : Saying). asked s.job s.mail) (last_after words last flags r are) ∙ asks_asked flags words job are asks)

lacks_job : (words : List (List ℕ)) (place : ℕ) (last : Saying) → read_options nothing 0 words ≡ Ok last → (is : Written None None None no_mail words last) (job : Option Job) → last.awaits ≡ None → asked last.job last.mail ≡ job
    → whole job last.file last.wait (length words) ≡ Err place → LacksMode words place ⊎ HasStrayWait words place
lacks_job words place last r is None a j e =
    let options = ends_options words last is a in
    inl (record { at = sym (same_denied (length words) place e); flags = is.flags; options = options; none = none_asked words last is.flags r options j })
lacks_job words place last r is (Some job) a j e = inr (stray_job words place last is job r a j (timed job last.wait) refl e)

never_ends : (words : List (List ℕ)) (last : Saying) (awaited : Awaited) → read_options nothing 0 words ≡ Ok last → last.awaits ≡ Some awaited → (flags : List Flag) → ¬ (AreOptions flags words)
never_ends words last awaited r a flags are = let never = sym a ∙ ap (λ (s : Saying). s.awaits) (last_after words last flags r are) in absurd (cc never)

lacks : (words : List (List ℕ)) (place : ℕ) (last : Saying) → read_options nothing 0 words ≡ Ok last → (is : Written None None None no_mail words last) (awaits : Option Awaited) → last.awaits ≡ awaits
    → judged_by awaits last (length words) ≡ Err place → IsRefusedAt words place
lacks words place last r is (Some File) a e = inr (inr (inl (record {
  front = flat_map spelling is.flags;
  whole = front_options words last is (Some File) a;
  at = sym (same_denied (length words) place e);
  good = begins_options words (last, r);
  short = never_ends words last File r a;
})))
lacks words place last r is (Some Sender) a e =
    let spelled : words ≡ flat_map spelling is.flags ++ codes "-f" ∷ [] = front_options words last is (Some Sender) a in
    inr (inr (inr (inl (record {
      front = flat_map spelling is.flags;
      whole = spelled;
      at = let size = ap length spelled in
          let both = length-append (flat_map spelling is.flags) (codes "-f" ∷ []) in
          let at = sym (same_denied (length words - 1) place e) in omega (arith, at, size, both);
      good = begins_options words (last, r);
      short = never_ends words last Sender r a;
    }))))
lacks words place last r is None a e = inr (inr (inr (inr (lacks_job words place last r is (asked last.job last.mail) a refl e))))

refused_read : (words : List (List ℕ)) (place : ℕ) (last : Result Saying ℕ) → read_options nothing 0 words ≡ last → judged (length words) last ≡ Err place → IsRefusedAt words place
refused_read words place (Err at) r e = let is = stops words nothing 0 place (r ∙ ap (λ (p : ℕ). refused p) (same_denied at place e)) in bad_by words place is is.last.awaits refl
refused_read words place (Ok last) r e = lacks words place last r (says words None None None no_mail None 0 last r) last.awaits refl e

-- words that the code refuses at a place are refused there
pub is_refused : (words : List (List ℕ)) (place : ℕ) → command_line words ≡ Err place → IsRefusedAt words place
is_refused words place e = refused_read words place (read_options nothing 0 words) refl e

-- ---- words that are refused are refused by the code

abbrev front_said : List Flag → Saying
front_said flags = after None None None no_mail flags 0

bad_here : (front : List (List ℕ)) (word : List ℕ) (later : List (List ℕ)) (flags : List Flag) → AreOptions flags front → ¬ (BeginsOptions (front ++ word ∷ [])) → (step : Option Saying) → with_new (front_said flags) word (0 + length front) ≡ step
    → read_options nothing 0 (front ++ word ∷ later) ≡ Err (0 + length front)
bad_here front word later flags good bad None s =
    here front word later nothing (front_said flags) 0 (0 + length front) (options_read flags front good) (ap (λ (o : Option Saying). or_refused o (0 + length front)) s)
bad_here front word later flags good bad (Some next) s =
    absurd (bad (begins_options (front ++ word ∷ []) (goes_on front word nothing (front_said flags) next 0 (options_read flags front good) (ap (λ (o : Option Saying). or_refused o (0 + length front)) s))))

word_refused : (words : List (List ℕ)) (place : ℕ) → IsBadWord words place → command_line words ≡ Err place
word_refused words place is =
    ap command_line is.whole
    ∙ judged_read (is.front ++ is.word ∷ is.later) _ (bad_here is.front is.word is.later is.flags is.good is.bad (with_new (front_said is.flags) is.word (0 + length is.front)) refl)
    ∙ ap (λ (p : ℕ). denied p) (omega (arith, is.at))

-- a `-f` that can stand there awaits its text
lone_goes : (job : Option Job) (file : Option (List ℕ)) (wait : Option Wait) (mail : SubmitWords) (sender : Option (List ℕ)) (here : ℕ) (next : Saying) → mail.sender ≡ sender → read_options (said job file wait mail None) here (codes "-f" ∷ []) ≡ Ok next
    → with_word (said job file wait mail None) (codes "-f") here ≡ Ok (said job file wait mail (Some Sender))
lone_goes (Some job) file wait mail sender here next s e = absurd (read_never next here (sym e))
lone_goes None file wait mail None here next s e = ap (λ (o : Option (List ℕ)). or_refused (cond (is_some o) None (Some (said None file wait mail (Some Sender)))) here) s
lone_goes None file wait mail (Some text) here next s e =
    absurd (read_never next here (sym e ∙ stuck (said None file wait mail None) here here (codes "-f") [] (ap (λ (o : Option (List ℕ)). or_refused (cond (is_some o) None (Some (said None file wait mail (Some Sender)))) here) s)))

no_text : (test : Bool) → ¬ (test ≡ true) → test ≡ false
no_text true never = absurd (never refl)
no_text false never = refl

text_stops : (front : List (List ℕ)) (text : List ℕ) (later : List (List ℕ)) (flags : List Flag) → AreOptions flags front → BeginsOptions (front ++ codes "-f" ∷ []) → ¬ (is_sender text ≡ true)
    → read_options nothing 0 (front ++ codes "-f" ∷ text ∷ later) ≡ Err (0 + length front + 1 - 1)
text_stops front text later flags good begun bad =
    let goes = options_begin (front ++ codes "-f" ∷ []) begun in
    let s = front_said flags in
    let there : read_options s (0 + length front) (codes "-f" ∷ []) ≡ Ok goes.0 = sym (read_after front (codes "-f" ∷ []) nothing s 0 (options_read flags front good)) ∙ goes.1 in
    read_after front (codes "-f" ∷ text ∷ later) nothing s 0 (options_read flags front good)
    ∙ turns s (said s.job s.file s.wait s.mail (Some Sender)) (0 + length front) (codes "-f") (text ∷ later) (lone_goes s.job s.file s.wait s.mail s.mail.sender (0 + length front) goes.0 refl there)
    ∙ text_refused text s.job s.file s.wait s.mail (0 + length front + 1) later (no_text (is_sender text) bad)

sender_refused : (words : List (List ℕ)) (place : ℕ) → IsBadSender words place → command_line words ≡ Err place
sender_refused words place is =
    ap command_line is.whole
    ∙ judged_read (is.front ++ codes "-f" ∷ is.text ∷ is.later) _ (text_stops is.front is.text is.later is.flags is.good is.begun is.bad)
    ∙ ap (λ (p : ℕ). denied p) (omega (arith, is.at))

last_or : List (List ℕ) → List ℕ → List ℕ
last_or [] other = other
last_or (word ∷ words) other = last_or words word

last_is : (front : List (List ℕ)) (word other : List ℕ) → last_or (front ++ word ∷ []) other ≡ word
unfolding last_or
last_is [] word other = refl
last_is (w ∷ front) word other = last_is front word w

same_last : (front other : List (List ℕ)) (word last : List ℕ) → front ++ word ∷ [] ≡ other ++ last ∷ [] → word ≡ last
same_last front other word last e = sym (last_is front word []) ∙ ap (λ (w : List (List ℕ)). last_or w []) e ∙ last_is other last []

not_both_last : (words front other : List (List ℕ)) → words ≡ front ++ codes "-C" ∷ [] → words ≡ other ++ codes "-f" ∷ [] → ⊥
not_both_last words front other c f = let same = same_last front other (codes "-C") (codes "-f") (sym c ∙ f) in absurd (cc same)

file_awaited : (words front : List (List ℕ)) (last : Saying) (is : Written None None None no_mail words last) → words ≡ front ++ codes "-C" ∷ [] → ((flags : List Flag) → ¬ (AreOptions flags words)) → (awaits : Option Awaited) → last.awaits ≡ awaits
    → judged_by awaits last (length words) ≡ Err (length words)
file_awaited words front last is whole none (Some File) a = refl
file_awaited words front last is whole none (Some Sender) a = absurd (not_both_last words front (flat_map spelling is.flags) whole (front_options words last is (Some Sender) a))
file_awaited words front last is whole none None a = absurd (none is.flags (ends_options words last is a))

sender_awaited : (words front : List (List ℕ)) (last : Saying) (is : Written None None None no_mail words last) → words ≡ front ++ codes "-f" ∷ [] → ((flags : List Flag) → ¬ (AreOptions flags words)) → (awaits : Option Awaited) → last.awaits ≡ awaits
    → judged_by awaits last (length words) ≡ Err (length words - 1)
sender_awaited words front last is whole none (Some File) a = absurd (not_both_last words (flat_map spelling is.flags) front (front_options words last is (Some File) a) whole)
sender_awaited words front last is whole none (Some Sender) a = refl
sender_awaited words front last is whole none None a = absurd (none is.flags (ends_options words last is a))

file_refused : (words : List (List ℕ)) (place : ℕ) → LacksFile words place → command_line words ≡ Err place
file_refused words place is =
    let begins = options_begin words is.good in
    judged_read words (Ok begins.0) begins.1
    ∙ file_awaited words is.front begins.0 (says words None None None no_mail None 0 begins.0 begins.1) is.whole is.short begins.0.awaits refl
    ∙ ap (λ (p : ℕ). denied p) (sym is.at)

lone_refused : (words : List (List ℕ)) (place : ℕ) → LacksSender words place → command_line words ≡ Err place
lone_refused words place is =
    let begins = options_begin words is.good in
    judged_read words (Ok begins.0) begins.1
    ∙ sender_awaited words is.front begins.0 (says words None None None no_mail None 0 begins.0 begins.1) is.whole is.short begins.0.awaits refl
    ∙ ap (λ (p : ℕ). denied p) (let size = ap length is.whole in let both = length-append is.front (codes "-f" ∷ []) in omega (arith, is.at, size, both))

one_listed : (jobs : List Job) → length jobs ≤ 1 → jobs ≡ option_to_list (first_of None jobs)
one_listed [] le = refl
one_listed (job ∷ []) le = refl
one_listed (job ∷ other ∷ jobs) le = absurd (omega (arith, le))

never_clash : (job : Option Job) → clash job no_mail ≡ false
never_clash None = refl
never_clash (Some job) = refl

clear_after : (jobs : List Job) (options : List MailWord) → (jobs ≡ []) ⊎ (options ≡ []) → clash (first_of None jobs) (add_mail no_mail options) ≡ false
clear_after jobs options (inl e) = ap (λ (js : List Job). clash (first_of None js) (add_mail no_mail options)) e
clear_after jobs options (inr e) = ap (λ (os : List MailWord). clash (first_of None jobs) (add_mail no_mail os)) e ∙ never_clash (first_of None jobs)

mode_lacked : (words : List (List ℕ)) (flags : List Flag) → AreOptions flags words → ((job : Job) → ¬ (Asks flags job)) → (job : Option Job) → asked (first_of None (flat_map jobs_in flags)) (add_mail no_mail (flat_map mail_in flags)) ≡ job
    → whole job (first_of None (flat_map files_in flags)) (wait_after 0 flags) (length words) ≡ Err (length words)
mode_lacked words flags are none None j = refl
mode_lacked words flags are none (Some job) j =
    absurd (none job (asked_says flags (first_of None (flat_map jobs_in flags)) (add_mail no_mail (flat_map mail_in flags)) job (one_listed (flat_map jobs_in flags) are.one_mode) (sum_after flags words are)
    (clear_after (flat_map jobs_in flags) (flat_map mail_in flags) are.apart) j))

mode_refused : (words : List (List ℕ)) (place : ℕ) → LacksMode words place → command_line words ≡ Err place
mode_refused words place is =
    judged_options is.flags words is.options
    ∙ mode_lacked words is.flags is.options is.none (asked (first_of None (flat_map jobs_in is.flags)) (add_mail no_mail (flat_map mail_in is.flags))) refl
    ∙ ap (λ (p : ℕ). denied p) (sym is.at)

stray_refused : (words : List (List ℕ)) (place : ℕ) → HasStrayWait words place → command_line words ≡ Err place
stray_refused words place is =
    let flags : List Flag = is.front ++ Every is.time is.seconds is.is ∷ is.later in
    let at : ℕ = length (flat_map spelling is.front) in
    judged_job flags words is.job is.options is.said
    ∙ ap (λ (wait : Option Wait). mode_by (timed is.job wait) (first_of None (flat_map files_in flags))) (wait_there is.front is.time is.seconds is.is is.later 0 is.options.one_wait)
    ∙ ap (λ (job : Result Job ℕ). mode_by job (first_of None (flat_map files_in flags))) (is_stray is.job (waiting_for is.seconds (0 + at)) (asks_untimed flags is.job is.said) is.other)
    ∙ ap (λ (p : ℕ). denied p) (omega (arith, is.at))

pub refused_is : (words : List (List ℕ)) (place : ℕ) → IsRefusedAt words place → command_line words ≡ Err place
refused_is words place (inl is) = word_refused words place is
refused_is words place (inr (inl is)) = sender_refused words place is
refused_is words place (inr (inr (inl is))) = file_refused words place is
refused_is words place (inr (inr (inr (inl is)))) = lone_refused words place is
refused_is words place (inr (inr (inr (inr (inl is))))) = mode_refused words place is
refused_is words place (inr (inr (inr (inr (inr is))))) = stray_refused words place is

-- ---- the law

-- words are the command line of one mode
pub one_mode : (words : List (List ℕ)) (mode other : Mode) → IsCommandLine words mode → IsCommandLine words other → mode ≡ other
one_mode words mode other is also = same_mode mode other (sym (line_is words mode is) ∙ line_is words other also)

-- words are refused at one place
pub one_place : (words : List (List ℕ)) (place other : ℕ) → IsRefusedAt words place → IsRefusedAt words other → place ≡ other
one_place words place other is also = same_denied place other (sym (refused_is words place is) ∙ refused_is words other also)

-- words that are a command line aren't refused
pub not_both : (words : List (List ℕ)) (mode : Mode) (place : ℕ) → IsCommandLine words mode → ¬ (IsRefusedAt words place)
not_both words mode place line is = let both = sym (line_is words mode line) ∙ refused_is words place is in cc both

either_of : (words : List (List ℕ)) (said : Result Mode ℕ) → command_line words ≡ said → ((mode : Mode) × IsCommandLine words mode) ⊎ ((place : ℕ) × IsRefusedAt words place)
either_of words (Ok mode) e = inl (mode, is_line words mode e)
either_of words (Err place) e = inr (place, is_refused words place e)

-- words are a command line or are refused at a place
pub either : (words : List (List ℕ)) → ((mode : Mode) × IsCommandLine words mode) ⊎ ((place : ℕ) × IsRefusedAt words place)
either words = either_of words (command_line words) refl

-- ---- what the code returns

fault_says : (words : List (List ℕ)) (fault : WordFault) → Fails fault (command_line words) → Says (Err fault) words
fault_says words (At place) is = is_refused words place is
fault_says words NoMemory is = is

-- what the code answers to words is what the definition says of them
pub gives_says : (words : List (List ℕ)) (result : Result Mode WordFault) → Gives result (command_line words) → Says result words
gives_says words (Ok mode) is = is_line words mode is
gives_says words (Err fault) is = fault_says words fault is
