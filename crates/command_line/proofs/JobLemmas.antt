-- The job that options say is the one that the code takes from what they say.
use Rattle.std.proofs.Common.{◌≡◌, ℕ, ◌≤◌, List, [], ◌∷◌, length, Bool, true, false, Option, Some, None, refl, sym, ◌∙◌, ap, subst, arith, inl, inr}
use Rattle.std.specs.Prelude.{◌⊎◌, cond, option_to_list}
use Rattle.std.specs.List.{flat_map}
use Rattle.std.proofs.lemmas.Bool.{cond-true}
use Rattle.mail_submit.specs.declared.words.SubmitWords.{SubmitWords}
use Rattle.command_line.specs.declared.mode.Job.{Job}
use Rattle.command_line.specs.declared.mode.Job.TheVariants.{Test, Session, Daemon, Run, List as Listing, Submit}
use Rattle.command_line.specs.inner.Words.{asked, is_mail}
use Rattle.command_line.specs.MailWords.{IsMail, names_someone, no_mail}
use Rattle.command_line.specs.CommandLines.{Flag, jobs_in, mail_in, modes_of, Asks, AreOptions}
use Rattle.command_line.proofs.MailLemmas.{add_mail, added, mail_of_sum, no_options, quiet, room_of, same_mail}
use Rattle.command_line.proofs.WrittenLemmas.{clash}
use Rattle.command_line.proofs.WaitLemmas.{said_modal}
use Rattle.command_line.proofs.OptionLemmas.{first_of}

-- ---- the job

abbrev pub some_job : Job → Option Job
some_job job = Some job

abbrev pub no_job : Option Job
no_job = None

same_job : (a b : Job) → some_job a ≡ some_job b → a ≡ b
same_job a b e = cc e

pub never_job : (job : Job) → no_job ≡ some_job job → ⊥
never_job job e = absurd (cc e)

submit_asks : (flags : List Flag) (mail : SubmitWords) (job : Job) (whom : Bool) → flat_map jobs_in flags ≡ [] → IsMail (flat_map mail_in flags) mail → names_someone mail ≡ whom → cond whom (some_job (Submit mail)) None ≡ Some job
    → Asks flags job
submit_asks flags mail job true jobs is w e = subst (Asks flags) (same_job (Submit mail) job e) (record { modes = jobs; mail = is; whom = w })
submit_asks flags mail job false jobs is w e = absurd (never_job job e)

mode_asks : (flags : List Flag) (mail : SubmitWords) (job : Job) → flat_map jobs_in flags ≡ job ∷ [] → IsMail (flat_map mail_in flags) mail → is_mail mail ≡ false → Asks flags job
mode_asks flags mail job jobs is q =
    let modal = said_modal flags job jobs in
    record {
      modes = jobs ∙ sym modal.modes;
      mail = subst (IsMail (flat_map mail_in flags)) (quiet mail q ∙ sym modal.quiet) is;
      whom = modal.whom;
    }

-- options say the job that the code takes from what they say
pub asked_says : (flags : List Flag) (mode : Option Job) (mail : SubmitWords) (job : Job) → flat_map jobs_in flags ≡ option_to_list mode → IsMail (flat_map mail_in flags) mail → clash mode mail ≡ false → asked mode mail ≡ Some job → Asks flags job
asked_says flags None mail job jobs is c e = submit_asks flags mail job (names_someone mail) jobs is refl e
asked_says flags (Some mode) mail job jobs is c e = subst (Asks flags) (same_job mode job e) (mode_asks flags mail mode jobs is c)

pub sum_after : (flags : List Flag) (words : List (List ℕ)) → AreOptions flags words → IsMail (flat_map mail_in flags) (add_mail no_mail (flat_map mail_in flags))
sum_after flags words are = mail_of_sum (flat_map mail_in flags) _ (added no_mail (flat_map mail_in flags) (room_of (flat_map mail_in flags) are.once))

submitted : (flags : List Flag) (words mail : SubmitWords) → mail ≡ words → names_someone words ≡ true → asked None mail ≡ Some (Submit words)
submitted flags words mail same whom = ap (asked None) same ∙ cond-true (names_someone words) _ _ whom

-- and the code takes from them the job that they say
pub asks_asked : (flags : List Flag) (words : List (List ℕ)) (job : Job) → AreOptions flags words → Asks flags job → asked (first_of None (flat_map jobs_in flags)) (add_mail no_mail (flat_map mail_in flags)) ≡ Some job
asks_asked flags words Test are asks = ap (λ (jobs : List Job). asked (first_of None jobs) (add_mail no_mail (flat_map mail_in flags))) asks.modes
asks_asked flags words Session are asks = ap (λ (jobs : List Job). asked (first_of None jobs) (add_mail no_mail (flat_map mail_in flags))) asks.modes
asks_asked flags words (Daemon wait) are asks = ap (λ (jobs : List Job). asked (first_of None jobs) (add_mail no_mail (flat_map mail_in flags))) asks.modes
asks_asked flags words (Run group) are asks = ap (λ (jobs : List Job). asked (first_of None jobs) (add_mail no_mail (flat_map mail_in flags))) asks.modes
asks_asked flags words Listing are asks = ap (λ (jobs : List Job). asked (first_of None jobs) (add_mail no_mail (flat_map mail_in flags))) asks.modes
asks_asked flags words (Submit mail) are asks =
    ap (λ (jobs : List Job). asked (first_of None jobs) (add_mail no_mail (flat_map mail_in flags))) asks.modes
    ∙ submitted flags mail (add_mail no_mail (flat_map mail_in flags)) (same_mail (flat_map mail_in flags) _ mail (sum_after flags words are) asks.mail) asks.whom

pub asks_apart : (flags : List Flag) (job : Job) → Asks flags job → (flat_map jobs_in flags ≡ []) ⊎ (flat_map mail_in flags ≡ [])
asks_apart flags Test asks = inr (no_options (flat_map mail_in flags) asks.mail)
asks_apart flags Session asks = inr (no_options (flat_map mail_in flags) asks.mail)
asks_apart flags (Daemon wait) asks = inr (no_options (flat_map mail_in flags) asks.mail)
asks_apart flags (Run group) asks = inr (no_options (flat_map mail_in flags) asks.mail)
asks_apart flags Listing asks = inr (no_options (flat_map mail_in flags) asks.mail)
asks_apart flags (Submit mail) asks = inl asks.modes

pub most_modes : (job : Job) → length (modes_of job) ≤ 1
most_modes Test = omega arith
most_modes Session = omega arith
most_modes (Daemon wait) = omega arith
most_modes (Run group) = omega arith
most_modes Listing = omega arith
most_modes (Submit mail) = omega arith
